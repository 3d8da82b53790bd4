-- Small programs with the whole list of their constraints, their call sites and the owners of their variables, which
-- were worked out elsewhere; each exercises a rule that none before it does. The trees were made from the sources by a
-- program outside the repository.
use Rattle.std.specs.Prelude.{◌≡◌, ℕ, nat_eq, Bool, true, false, ◌||◌, List, [], ◌∷◌, map, Option, None, Some, if◌then◌else◌, is_some}
use Rattle.c_words.specs.declared.kinds.Keyword.TheVariants as keywords
use Rattle.c_words.specs.declared.kinds.Punct.TheVariants as signs
use Rattle.c_syntax.specs.declared.parts.Qual.TheVariants as quals
use Rattle.c_syntax.specs.declared.parts.PointerWord.TheVariants as pointer_words
use Rattle.qual_base.specs.declared.places.Owner.{Owner}
use Rattle.qual_base.specs.declared.places.Owner.TheVariants.{Nobody, Function}
use Rattle.lattice_core.specs.declared.Deref.TheVariants as derefs
use Rattle.lattice_core.specs.declared.Entry.{Entry}
use Rattle.lattice_core.specs.declared.Level.TheVariants as levels
use Rattle.lattice_core.specs.declared.Sign.TheVariants as attribute_signs
use Rattle.lattice_core.specs.View.{LatticeView}
use Rattle.flow_graph.specs.declared.constraint.Link.{Link}
use Rattle.flow_graph.specs.declared.constraint.Link.TheVariants.{Le, Const, Bound, Enter, Leave}
use Rattle.flow_graph.specs.declared.constraint.Constraint.{Constraint}
use Rattle.flow_graph.specs.declared.constraint.Site.{Site}
use Rattle.c_tree.specs.Tree.{operation, cast, prefix, sizeof_value, sizeof_type, extension, index, call, dot, arrow, post, compound, name_use, number_use, char_use, text_use, paren, statement_expr, va_arg, va_start, va_copy, offset, comma, assign, cond, binary, no_expr, some_expr, no_exprs, more_exprs, no_words, more_words, storage, qualifier, basic, struct_type, enum_type, typedef_name, no_body, some_body, no_struct_items, more_struct_items, member, no_mem_declrs, more_mem_declrs, named, no_value, some_value, enum_of, some_enum_body, no_enumerators, more_enumerators, pointer, declr_name, declr_paren, array, params, abs_pointer, abs_paren, abs_array, abs_params, no_declr, some_declr, no_size, some_size, size_value, no_params, more_params, init_value, init_braced, init_list, no_init_items, more_init_items, no_desigs, more_desigs, member_desig, index_desig, no_init, some_init, no_init_declrs, more_init_declrs, declaration, decl_declaration, no_block_items, more_block_items, block_decl, block_stmt, expr_stmt, case_stmt, switch_stmt, return_stmt}
use Rattle.c_tree.specs.Unit.{Item, function_item, decl_item}
use Rattle.lattice_core.specs.Passing.{no_flows}
use Rattle.constraint_rules.specs.Systems.{Program, system_of}

-- whether a number is in a list
abbrev pub among : List ℕ → ℕ → Bool
among [] n = false
among (m ∷ ms) n = nat_eq m n || among ms n

-- the lattice and the element of the word at a token, where one stands
abbrev pub mark_among : List (ℕ × (ℕ × ℕ)) → ℕ → Option (ℕ × ℕ)
mark_among [] n = None
mark_among (it ∷ marks) n = if nat_eq it.0 n then Some it.1 else mark_among marks n

-- the order of a lattice says nothing of which constraints there are
abbrev pub of_entries : List Entry → LatticeView
of_entries entries = record { entries = entries; order = record { above = [] }; flows = no_flows }

-- a source of unit 1 whose annotation words and zeros stand at these tokens
abbrev pub program : List (ℕ × (ℕ × ℕ)) → List ℕ → List LatticeView → List Item → Program
program marks zeros lattices items = record {
  sources = record {
    spelling = record {
      unit = 1;
      wide = false;
      annotates = λ token. is_some (mark_among marks token);
      is_naught = among zeros;
      key = λ name. name;
    };
    items = items;
  } ∷ [];
  lattices = lattices;
  mark = λ at. mark_among marks at.1;
  index = λ at. [];
}

-- a constraint: what it says, in which lattices, and from which token
abbrev pub seen : Constraint → Link × (ℕ × ℕ)
seen c = (c.link, (c.lattices, c.span.from))

-- a program has these constraints, call sites and owners of its variables
pub record Gives (p : Program) (constraints : List (Link × (ℕ × ℕ))) (sites : List Site)
    (owners : List Owner) : Type 0 where
  pub constraints_are : map seen (system_of p).constraints ≡ constraints
  pub sites_are : (system_of p).sites ≡ sites
  pub owners_are : (system_of p).owners ≡ owners

-- a lattice of values of two elements, whose words are a bound and a constant
abbrev pub lattices_1 : List LatticeView
lattices_1 = ((of_entries
    ((record { name = []; level = levels.Value; sign = attribute_signs.Neg; write = false; deref = derefs.No })
    ∷ (record { name = []; level = levels.Value; sign = attribute_signs.Pos; write = false; deref = derefs.No }) ∷ []))
    ∷ [])

-- a lattice of references of two elements, whose words are a bound with `write` and a constant
abbrev pub lattices_2 : List LatticeView
lattices_2 = ((of_entries
    ((record { name = []; level = levels.Ref; sign = attribute_signs.Neg; write = true; deref = derefs.No })
    ∷ (record { name = []; level = levels.Ref; sign = attribute_signs.Pos; write = false; deref = derefs.No }) ∷ []))
    ∷ [])

-- a lattice of values of two elements, whose words are a bound with `deref` and a constant
abbrev pub lattices_3 : List LatticeView
lattices_3 = ((of_entries
    ((record { name = []; level = levels.Value; sign = attribute_signs.Neg; write = false; deref = derefs.Yes })
    ∷ (record { name = []; level = levels.Value; sign = attribute_signs.Pos; write = false; deref = derefs.No }) ∷ []))
    ∷ [])

-- a lattice of values of four elements, whose words are a bound, both at once, a constant, and a bound
abbrev pub lattices_4 : List LatticeView
lattices_4 = ((of_entries
    ((record { name = []; level = levels.Value; sign = attribute_signs.Neg; write = false; deref = derefs.No })
    ∷ (record { name = []; level = levels.Value; sign = attribute_signs.Eq; write = false; deref = derefs.No })
    ∷ (record { name = []; level = levels.Value; sign = attribute_signs.Pos; write = false; deref = derefs.No })
    ∷ (record { name = []; level = levels.Value; sign = attribute_signs.Neg; write = false; deref = derefs.No }) ∷ []))
    ∷ [])

-- two lattices of values of two elements, whose words are a bound and a constant; in the second the bound has `deref`
abbrev pub lattices_5 : List LatticeView
lattices_5 = ((of_entries
    ((record { name = []; level = levels.Value; sign = attribute_signs.Neg; write = false; deref = derefs.No })
    ∷ (record { name = []; level = levels.Value; sign = attribute_signs.Pos; write = false; deref = derefs.No }) ∷ []))
    ∷ (of_entries
    ((record { name = []; level = levels.Value; sign = attribute_signs.Neg; write = false; deref = derefs.Yes })
    ∷ (record { name = []; level = levels.Value; sign = attribute_signs.Pos; write = false; deref = derefs.No }) ∷ []))
    ∷ [])

-- no lattice
abbrev pub lattices_6 : List LatticeView
lattices_6 = []

-- int a;
abbrev pub program_1 : Program
program_1 =
    program [] [] lattices_1 ((decl_item
    (decl_declaration (declaration [] (more_words (basic (record { token = 0; keyword = keywords.Int })) no_words)
    (more_init_declrs [] (declr_name 1 0) None [] no_init no_init_declrs) 2))) ∷ [])

-- typedef int T = 1; int f(void) = 2; int g(void) = { 1 };
abbrev pub program_2 : Program
program_2 =
    program [] [] lattices_1 ((decl_item
    (decl_declaration (declaration [] (more_words (storage (record { token = 0; keyword = keywords.Typedef }))
    (more_words (basic (record { token = 1; keyword = keywords.Int })) no_words)) (more_init_declrs []
    (declr_name 2 0) None [] (some_init 3 (init_value (number_use 4))) no_init_declrs) 5))) ∷ (decl_item
    (decl_declaration (declaration [] (more_words (basic (record { token = 6; keyword = keywords.Int })) no_words)
    (more_init_declrs [] (params (declr_name 7 1) 8 (more_params
    (more_words (basic (record { token = 9; keyword = keywords.Void })) no_words) no_declr [] no_params) None 10) None
    [] (some_init 11 (init_value (number_use 12))) no_init_declrs) 13))) ∷ (decl_item (decl_declaration (declaration []
    (more_words (basic (record { token = 14; keyword = keywords.Int })) no_words) (more_init_declrs [] (params
    (declr_name 15 2) 16 (more_params (more_words (basic (record { token = 17; keyword = keywords.Void })) no_words)
    no_declr [] no_params) None 18) None [] (some_init 19 (init_braced (init_list 20
    (more_init_items no_desigs None (init_value (number_use 21)) no_init_items) None 22))) no_init_declrs) 23))) ∷ [])

-- void f(void) { int g(void) = 1; typedef int T = { 2 }; }
abbrev pub program_3 : Program
program_3 =
    program [] [] lattices_1
    ((function_item [] (more_words (basic (record { token = 0; keyword = keywords.Void })) no_words) (params
    (declr_name 1 0) 2 (more_params (more_words (basic (record { token = 3; keyword = keywords.Void })) no_words)
    no_declr [] no_params) None 4) [] 5 (more_block_items (block_decl (decl_declaration (declaration [] (more_words
    (basic (record { token = 6; keyword = keywords.Int })) no_words) (more_init_declrs [] (params (declr_name 7 1) 8
    (more_params (more_words (basic (record { token = 9; keyword = keywords.Void })) no_words) no_declr [] no_params)
    None 10) None [] (some_init 11 (init_value (number_use 12))) no_init_declrs) 13))) (more_block_items (block_decl
    (decl_declaration (declaration [] (more_words (storage (record { token = 14; keyword = keywords.Typedef }))
    (more_words (basic (record { token = 15; keyword = keywords.Int })) no_words)) (more_init_declrs []
    (declr_name 16 2) None [] (some_init 17 (init_braced (init_list 18 (more_init_items no_desigs None
    (init_value (number_use 19)) no_init_items) None 20))) no_init_declrs) 21))) no_block_items)) 22) ∷ [])

-- int (*f(int a))(int b) { return 0; }
abbrev pub program_4 : Program
program_4 =
    program [] (15 ∷ []) lattices_1 ((function_item []
    (more_words (basic (record { token = 0; keyword = keywords.Int })) no_words) (params (declr_paren 1 [] (pointer 2 []
    (params (declr_name 3 0) 4 (more_params (more_words (basic (record { token = 5; keyword = keywords.Int })) no_words)
    (some_declr (declr_name 6 1)) [] no_params) None 7)) 8) 9 (more_params (more_words (basic
    (record { token = 10; keyword = keywords.Int })) no_words) (some_declr (declr_name 11 2)) [] no_params) None 12)
    [] 13 (more_block_items (block_stmt (return_stmt 14 (some_expr (number_use 15)) 16)) no_block_items) 17) ∷ [])

-- $tainted int t; typedef int T = t; int f(int) = { t };
abbrev pub program_5 : Program
program_5 =
    program ((0, (0, 1)) ∷ []) [] lattices_1 ((decl_item (decl_declaration (declaration [] (more_words
    (qualifier (quals.Element 0)) (more_words (basic (record { token = 1; keyword = keywords.Int })) no_words))
    (more_init_declrs [] (declr_name 2 0) None [] no_init no_init_declrs) 3))) ∷ (decl_item
    (decl_declaration (declaration [] (more_words (storage (record { token = 4; keyword = keywords.Typedef }))
    (more_words (basic (record { token = 5; keyword = keywords.Int })) no_words)) (more_init_declrs [] (declr_name 6 1)
    None [] (some_init 7 (init_value (name_use 8 0))) no_init_declrs) 9))) ∷ (decl_item (decl_declaration (declaration
    [] (more_words (basic (record { token = 10; keyword = keywords.Int })) no_words) (more_init_declrs [] (params
    (declr_name 11 2) 12 (more_params (more_words (basic (record { token = 13; keyword = keywords.Int })) no_words)
    no_declr [] no_params) None 14) None [] (some_init 15 (init_braced (init_list 16
    (more_init_items no_desigs None (init_value (name_use 17 0)) no_init_items) None 18))) no_init_declrs) 19))) ∷ [])

-- int x, y, *p; void f(void) { x = x && y; x || p; x == y; p != 0; x < y; p >= p; x <= 1; x > 0; }
abbrev pub program_6 : Program
program_6 =
    program [] (30 ∷ 46 ∷ []) lattices_1 ((decl_item
    (decl_declaration (declaration [] (more_words (basic (record { token = 0; keyword = keywords.Int })) no_words)
    (more_init_declrs [] (declr_name 1 2) None [] no_init (more_init_declrs [] (declr_name 3 1) None [] no_init
    (more_init_declrs [] (pointer 5 [] (declr_name 6 0)) None [] no_init no_init_declrs))) 7)))
    ∷ (function_item [] (more_words (basic (record { token = 8; keyword = keywords.Void })) no_words)
    (params (declr_name 9 3) 10 (more_params
    (more_words (basic (record { token = 11; keyword = keywords.Void })) no_words) no_declr [] no_params) None 12) [] 13
    (more_block_items (block_stmt (expr_stmt (some_expr (operation (name_use 14 2) (assign signs.Equal) 15 (operation
    (name_use 16 2) (binary signs.AmpersandAmpersand) 17 (name_use 18 1)))) 19)) (more_block_items (block_stmt
    (expr_stmt (some_expr (operation (name_use 20 2) (binary signs.BarBar) 21 (name_use 22 0))) 23)) (more_block_items
    (block_stmt (expr_stmt (some_expr (operation (name_use 24 2) (binary signs.EqualEqual) 25 (name_use 26 1))) 27))
    (more_block_items (block_stmt (expr_stmt (some_expr
    (operation (name_use 28 0) (binary signs.BangEqual) 29 (number_use 30))) 31)) (more_block_items (block_stmt
    (expr_stmt (some_expr (operation (name_use 32 2) (binary signs.Less) 33 (name_use 34 1))) 35)) (more_block_items
    (block_stmt (expr_stmt (some_expr (operation (name_use 36 0) (binary signs.GreaterEqual) 37 (name_use 38 0))) 39))
    (more_block_items (block_stmt (expr_stmt (some_expr (operation (name_use 40 2) (binary signs.LessEqual) 41
    (number_use 42))) 43)) (more_block_items (block_stmt (expr_stmt (some_expr
    (operation (name_use 44 2) (binary signs.Greater) 45 (number_use 46))) 47)) no_block_items)))))))) 48) ∷ [])

-- $tainted int a; $untainted int b;
abbrev pub program_7 : Program
program_7 =
    program ((0, (0, 1)) ∷ (4, (0, 0)) ∷ []) [] lattices_1 ((decl_item (decl_declaration (declaration [] (more_words
    (qualifier (quals.Element 0)) (more_words (basic (record { token = 1; keyword = keywords.Int })) no_words))
    (more_init_declrs [] (declr_name 2 0) None [] no_init no_init_declrs) 3)))
    ∷ (decl_item (decl_declaration (declaration [] (more_words (qualifier (quals.Element 4))
    (more_words (basic (record { token = 5; keyword = keywords.Int })) no_words))
    (more_init_declrs [] (declr_name 6 1) None [] no_init no_init_declrs) 7))) ∷ [])

-- struct s { $tainted int a; struct { $untainted int c; }; } v;
abbrev pub program_8 : Program
program_8 =
    program ((3, (0, 1)) ∷ (9, (0, 0)) ∷ []) [] lattices_1 ((decl_item
    (decl_declaration (declaration [] (more_words (struct_type (record { token = 0; keyword = keywords.Struct }) []
    (Some (record { token = 1; name = 2 })) (some_body 2 (more_struct_items (member [] (more_words
    (qualifier (quals.Element 3)) (more_words (basic (record { token = 4; keyword = keywords.Int })) no_words))
    (more_mem_declrs [] (named (declr_name 5 0) no_value []) no_mem_declrs) 6) (more_struct_items (member [] (more_words
    (struct_type (record { token = 7; keyword = keywords.Struct }) [] None (some_body 8 (more_struct_items (member []
    (more_words (qualifier (quals.Element 9)) (more_words (basic (record { token = 10; keyword = keywords.Int }))
    no_words)) (more_mem_declrs [] (named (declr_name 11 1) no_value []) no_mem_declrs) 12) no_struct_items) 13))
    no_words) no_mem_declrs 14) no_struct_items)) 15)) no_words)
    (more_init_declrs [] (declr_name 16 3) None [] no_init no_init_declrs) 17))) ∷ [])

-- int f(int, int b) { return b; }
abbrev pub program_9 : Program
program_9 =
    program [] [] lattices_1
    ((function_item [] (more_words (basic (record { token = 0; keyword = keywords.Int })) no_words)
    (params (declr_name 1 0) 2 (more_params (more_words (basic (record { token = 3; keyword = keywords.Int })) no_words)
    no_declr [] (more_params (more_words (basic (record { token = 5; keyword = keywords.Int })) no_words)
    (some_declr (declr_name 6 1)) [] no_params)) None 7) [] 8
    (more_block_items (block_stmt (return_stmt 9 (some_expr (name_use 10 1)) 11)) no_block_items) 12) ∷ [])

-- int f(const int x, int *const p, const int *q); const int *g(void); const int h(void);
abbrev pub program_10 : Program
program_10 =
    program ((3, (0, 1)) ∷ (9, (0, 1)) ∷ (12, (0, 1)) ∷ (18, (0, 1)) ∷ (26, (0, 1)) ∷ []) [] lattices_2 ((decl_item
    (decl_declaration (declaration [] (more_words (basic (record { token = 0; keyword = keywords.Int })) no_words)
    (more_init_declrs [] (params (declr_name 1 0) 2
    (more_params (more_words (qualifier (quals.Word (record { token = 3; keyword = keywords.Const })))
    (more_words (basic (record { token = 4; keyword = keywords.Int })) no_words)) (some_declr (declr_name 5 3)) []
    (more_params (more_words (basic (record { token = 7; keyword = keywords.Int })) no_words) (some_declr (pointer 8
    ((pointer_words.Qual (quals.Word (record { token = 9; keyword = keywords.Const }))) ∷ []) (declr_name 10 2))) []
    (more_params (more_words (qualifier (quals.Word (record { token = 12; keyword = keywords.Const }))) (more_words
    (basic (record { token = 13; keyword = keywords.Int })) no_words)) (some_declr (pointer 14 [] (declr_name 15 1)))
    [] no_params))) None 16) None [] no_init no_init_declrs) 17))) ∷ (decl_item (decl_declaration
    (declaration [] (more_words (qualifier (quals.Word (record { token = 18; keyword = keywords.Const })))
    (more_words (basic (record { token = 19; keyword = keywords.Int })) no_words)) (more_init_declrs [] (pointer 20 []
    (params (declr_name 21 4) 22 (more_params (more_words (basic (record { token = 23; keyword = keywords.Void }))
    no_words) no_declr [] no_params) None 24)) None [] no_init no_init_declrs) 25))) ∷ (decl_item (decl_declaration
    (declaration [] (more_words (qualifier (quals.Word (record { token = 26; keyword = keywords.Const })))
    (more_words (basic (record { token = 27; keyword = keywords.Int })) no_words)) (more_init_declrs [] (params
    (declr_name 28 5) 29 (more_params (more_words (basic (record { token = 30; keyword = keywords.Void })) no_words)
    no_declr [] no_params) None 31) None [] no_init no_init_declrs) 32))) ∷ [])

-- int a, x = ({ __builtin_va_start(a, 1); __builtin_va_copy(a, 0); __builtin_va_arg(a, int); });
abbrev pub program_11 : Program
program_11 =
    program [] (18 ∷ []) lattices_1 ((decl_item (decl_declaration (declaration []
    (more_words (basic (record { token = 0; keyword = keywords.Int })) no_words) (more_init_declrs [] (declr_name 1 0)
    None [] no_init (more_init_declrs [] (declr_name 3 1) None [] (some_init 4 (init_value (statement_expr 5 6
    (more_block_items (block_stmt (expr_stmt (some_expr (va_start 7 8 (name_use 9 0) 10 (number_use 11) 12)) 13))
    (more_block_items (block_stmt (expr_stmt (some_expr (va_copy 14 15 (name_use 16 0) 17 (number_use 18) 19)) 20))
    (more_block_items (block_stmt (expr_stmt (some_expr (va_arg 21 22 (name_use 23 0) 24 (more_words
    (basic (record { token = 25; keyword = keywords.Int })) no_words) no_declr 26)) 27)) no_block_items))) 28 29)))
    no_init_declrs)) 30))) ∷ [])

-- int x = ({ return 1; 2; }); int y = ({ return; x; });
abbrev pub program_12 : Program
program_12 =
    program [] [] lattices_1 ((decl_item
    (decl_declaration (declaration [] (more_words (basic (record { token = 0; keyword = keywords.Int })) no_words)
    (more_init_declrs [] (declr_name 1 0) None [] (some_init 2 (init_value
    (statement_expr 3 4 (more_block_items (block_stmt (return_stmt 5 (some_expr (number_use 6)) 7)) (more_block_items
    (block_stmt (expr_stmt (some_expr (number_use 8)) 9)) no_block_items)) 10 11))) no_init_declrs) 12))) ∷ (decl_item
    (decl_declaration (declaration [] (more_words (basic (record { token = 13; keyword = keywords.Int })) no_words)
    (more_init_declrs [] (declr_name 14 1) None [] (some_init 15
    (init_value (statement_expr 16 17 (more_block_items (block_stmt (return_stmt 18 no_expr 19)) (more_block_items
    (block_stmt (expr_stmt (some_expr (name_use 20 0)) 21)) no_block_items)) 22 23))) no_init_declrs) 24))) ∷ [])

-- int x = sizeof(struct q { $tainted int a; }); struct q v; void f(void) { x = v.a; }
abbrev pub program_13 : Program
program_13 =
    program ((8, (0, 1)) ∷ []) [] lattices_1 ((decl_item (decl_declaration
    (declaration [] (more_words (basic (record { token = 0; keyword = keywords.Int })) no_words) (more_init_declrs []
    (declr_name 1 2) None [] (some_init 2 (init_value (sizeof_type (record { token = 3; keyword = keywords.Sizeof }) 4
    (more_words (struct_type (record { token = 5; keyword = keywords.Struct }) []
    (Some (record { token = 6; name = 1 })) (some_body 7 (more_struct_items (member [] (more_words
    (qualifier (quals.Element 8)) (more_words (basic (record { token = 9; keyword = keywords.Int })) no_words))
    (more_mem_declrs [] (named (declr_name 10 0) no_value []) no_mem_declrs) 11) no_struct_items) 12)) no_words)
    no_declr 13))) no_init_declrs) 14))) ∷ (decl_item (decl_declaration (declaration [] (more_words (struct_type
    (record { token = 15; keyword = keywords.Struct }) [] (Some (record { token = 16; name = 1 })) no_body) no_words)
    (more_init_declrs [] (declr_name 17 3) None [] no_init no_init_declrs) 18)))
    ∷ (function_item [] (more_words (basic (record { token = 19; keyword = keywords.Void })) no_words) (params
    (declr_name 20 4) 21 (more_params (more_words (basic (record { token = 22; keyword = keywords.Void })) no_words)
    no_declr [] no_params) None 23) [] 24 (more_block_items (block_stmt (expr_stmt (some_expr (operation (name_use 25 2)
    (assign signs.Equal) 26 (dot (name_use 27 3) 28 (record { token = 29; name = 0 })))) 30)) no_block_items) 31) ∷ [])

-- int f(int a, int a) { return a; }
abbrev pub program_14 : Program
program_14 =
    program [] [] lattices_1
    ((function_item [] (more_words (basic (record { token = 0; keyword = keywords.Int })) no_words)
    (params (declr_name 1 0) 2 (more_params (more_words (basic (record { token = 3; keyword = keywords.Int })) no_words)
    (some_declr (declr_name 4 1)) [] (more_params (more_words (basic
    (record { token = 6; keyword = keywords.Int })) no_words) (some_declr (declr_name 7 1)) [] no_params)) None 8) [] 9
    (more_block_items (block_stmt (return_stmt 10 (some_expr (name_use 11 1)) 12)) no_block_items) 13) ∷ [])

-- void f(void) { } void g() { f(); }
abbrev pub program_15 : Program
program_15 =
    program [] [] lattices_1
    ((function_item [] (more_words (basic (record { token = 0; keyword = keywords.Void })) no_words) (params
    (declr_name 1 0) 2 (more_params (more_words (basic (record { token = 3; keyword = keywords.Void })) no_words)
    no_declr [] no_params) None 4) [] 5 no_block_items 6)
    ∷ (function_item [] (more_words (basic (record { token = 7; keyword = keywords.Void })) no_words)
    (params (declr_name 8 1) 9 no_params None 10) [] 11 (more_block_items
    (block_stmt (expr_stmt (some_expr (call (name_use 12 0) 13 no_exprs 14)) 15)) no_block_items) 16) ∷ [])

-- char c; char *$user u; void f(void) { c = *u; }
abbrev pub program_16 : Program
program_16 =
    program ((5, (0, 1)) ∷ []) [] lattices_3 ((decl_item
    (decl_declaration (declaration [] (more_words (basic (record { token = 0; keyword = keywords.Char })) no_words)
    (more_init_declrs [] (declr_name 1 0) None [] no_init no_init_declrs) 2))) ∷ (decl_item (decl_declaration
    (declaration [] (more_words (basic (record { token = 3; keyword = keywords.Char })) no_words) (more_init_declrs []
    (pointer 4 ((pointer_words.Qual (quals.Element 5)) ∷ []) (declr_name 6 1)) None [] no_init no_init_declrs) 7)))
    ∷ (function_item [] (more_words (basic (record { token = 8; keyword = keywords.Void })) no_words) (params
    (declr_name 9 2) 10 (more_params (more_words (basic (record { token = 11; keyword = keywords.Void })) no_words)
    no_declr [] no_params) None 12) [] 13 (more_block_items (block_stmt (expr_stmt (some_expr (operation (name_use 14 0)
    (assign signs.Equal) 15 (prefix 16 signs.Star (name_use 17 1)))) 18)) no_block_items) 19) ∷ [])

-- $tainted int t; int x = { t, t }; int y = { { t } }; int z = {};
abbrev pub program_17 : Program
program_17 =
    program ((0, (0, 1)) ∷ []) [] lattices_1 ((decl_item (decl_declaration (declaration [] (more_words
    (qualifier (quals.Element 0)) (more_words (basic (record { token = 1; keyword = keywords.Int })) no_words))
    (more_init_declrs [] (declr_name 2 0) None [] no_init no_init_declrs) 3))) ∷ (decl_item
    (decl_declaration (declaration [] (more_words (basic (record { token = 4; keyword = keywords.Int })) no_words)
    (more_init_declrs [] (declr_name 5 1) None [] (some_init 6 (init_braced (init_list 7 (more_init_items no_desigs None
    (init_value (name_use 8 0)) (more_init_items no_desigs None (init_value (name_use 10 0)) no_init_items)) None 11)))
    no_init_declrs) 12))) ∷ (decl_item (decl_declaration (declaration [] (more_words
    (basic (record { token = 13; keyword = keywords.Int })) no_words) (more_init_declrs [] (declr_name 14 2) None []
    (some_init 15 (init_braced (init_list 16 (more_init_items no_desigs None (init_braced (init_list 17 (more_init_items
    no_desigs None (init_value (name_use 18 0)) no_init_items) None 19)) no_init_items) None 20))) no_init_declrs) 21)))
    ∷ (decl_item (decl_declaration (declaration []
    (more_words (basic (record { token = 22; keyword = keywords.Int })) no_words) (more_init_declrs [] (declr_name 23 3)
    None [] (some_init 24 (init_braced (init_list 25 no_init_items None 26))) no_init_declrs) 27))) ∷ [])

-- $tainted int t; struct s { int a[2]; struct s *n; } v = { .a[1] = t, .n[0].a[0] = t, .n[1].n = 0 };
abbrev pub program_18 : Program
program_18 =
    program ((0, (0, 1)) ∷ []) (33 ∷ 38 ∷ 51 ∷ []) lattices_1 ((decl_item (decl_declaration (declaration [] (more_words
    (qualifier (quals.Element 0)) (more_words (basic (record { token = 1; keyword = keywords.Int })) no_words))
    (more_init_declrs [] (declr_name 2 0) None [] no_init no_init_declrs) 3))) ∷ (decl_item
    (decl_declaration (declaration [] (more_words (struct_type (record { token = 4; keyword = keywords.Struct }) []
    (Some (record { token = 5; name = 3 })) (some_body 6 (more_struct_items
    (member [] (more_words (basic (record { token = 7; keyword = keywords.Int })) no_words) (more_mem_declrs []
    (named (array (declr_name 8 1) 9 [] (some_size (size_value (number_use 10))) 11) no_value []) no_mem_declrs) 12)
    (more_struct_items (member [] (more_words (struct_type (record { token = 13; keyword = keywords.Struct }) []
    (Some (record { token = 14; name = 3 })) no_body) no_words) (more_mem_declrs [] (named
    (pointer 15 [] (declr_name 16 2)) no_value []) no_mem_declrs) 17) no_struct_items)) 18)) no_words) (more_init_declrs
    [] (declr_name 19 4) None [] (some_init 20 (init_braced (init_list 21 (more_init_items (more_desigs (member_desig 22
    (record { token = 23; name = 1 })) (more_desigs (index_desig 24 (number_use 25) 26) no_desigs)) (Some 27)
    (init_value (name_use 28 0)) (more_init_items (more_desigs (member_desig 30 (record { token = 31; name = 2 }))
    (more_desigs (index_desig 32 (number_use 33) 34) (more_desigs (member_desig 35 (record { token = 36; name = 1 }))
    (more_desigs (index_desig 37 (number_use 38) 39) no_desigs)))) (Some 40) (init_value (name_use 41 0))
    (more_init_items (more_desigs (member_desig 43 (record { token = 44; name = 2 })) (more_desigs
    (index_desig 45 (number_use 46) 47) (more_desigs (member_desig 48 (record { token = 49; name = 2 })) no_desigs)))
    (Some 50) (init_value (number_use 51)) no_init_items))) None 52))) no_init_declrs) 53))) ∷ [])

-- $tainted int t; struct s { int a; struct { int b; }; } v = { 1, { t }, t }; union { } e = { t }; struct { } g = { t
-- };
abbrev pub program_19 : Program
program_19 =
    program ((0, (0, 1)) ∷ []) [] lattices_1 ((decl_item (decl_declaration (declaration [] (more_words
    (qualifier (quals.Element 0)) (more_words (basic (record { token = 1; keyword = keywords.Int })) no_words))
    (more_init_declrs [] (declr_name 2 0) None [] no_init no_init_declrs) 3)))
    ∷ (decl_item (decl_declaration (declaration [] (more_words (struct_type
    (record { token = 4; keyword = keywords.Struct }) [] (Some (record { token = 5; name = 3 })) (some_body 6
    (more_struct_items (member [] (more_words (basic (record { token = 7; keyword = keywords.Int })) no_words)
    (more_mem_declrs [] (named (declr_name 8 1) no_value []) no_mem_declrs) 9) (more_struct_items (member []
    (more_words (struct_type (record { token = 10; keyword = keywords.Struct }) [] None (some_body 11 (more_struct_items
    (member [] (more_words (basic (record { token = 12; keyword = keywords.Int })) no_words) (more_mem_declrs []
    (named (declr_name 13 2) no_value []) no_mem_declrs) 14) no_struct_items) 15)) no_words) no_mem_declrs 16)
    no_struct_items)) 17)) no_words) (more_init_declrs [] (declr_name 18 4) None [] (some_init 19 (init_braced
    (init_list 20 (more_init_items no_desigs None (init_value (number_use 21)) (more_init_items no_desigs None
    (init_braced (init_list 23 (more_init_items no_desigs None (init_value (name_use 24 0)) no_init_items) None 25))
    (more_init_items no_desigs None (init_value (name_use 27 0)) no_init_items))) None 28))) no_init_declrs) 29)))
    ∷ (decl_item (decl_declaration (declaration [] (more_words
    (struct_type (record { token = 30; keyword = keywords.Union }) [] None (some_body 31 no_struct_items 32)) no_words)
    (more_init_declrs [] (declr_name 33 5) None [] (some_init 34 (init_braced (init_list 35
    (more_init_items no_desigs None (init_value (name_use 36 0)) no_init_items) None 37))) no_init_declrs) 38)))
    ∷ (decl_item (decl_declaration (declaration [] (more_words
    (struct_type (record { token = 39; keyword = keywords.Struct }) [] None (some_body 40 no_struct_items 41)) no_words)
    (more_init_declrs [] (declr_name 42 6) None [] (some_init 43 (init_braced (init_list 44
    (more_init_items no_desigs None (init_value (name_use 45 0)) no_init_items) None 46))) no_init_declrs) 47))) ∷ [])

-- $tainted int t; struct s { int a, b, c; } v = { .b = t, t, t, t };
abbrev pub program_20 : Program
program_20 =
    program ((0, (0, 1)) ∷ []) [] lattices_1 ((decl_item (decl_declaration (declaration [] (more_words
    (qualifier (quals.Element 0)) (more_words (basic (record { token = 1; keyword = keywords.Int })) no_words))
    (more_init_declrs [] (declr_name 2 0) None [] no_init no_init_declrs) 3)))
    ∷ (decl_item (decl_declaration (declaration [] (more_words (struct_type
    (record { token = 4; keyword = keywords.Struct }) [] (Some (record { token = 5; name = 4 })) (some_body 6
    (more_struct_items (member [] (more_words (basic (record { token = 7; keyword = keywords.Int })) no_words)
    (more_mem_declrs [] (named (declr_name 8 3) no_value []) (more_mem_declrs [] (named (declr_name 10 2) no_value [])
    (more_mem_declrs [] (named (declr_name 12 1) no_value []) no_mem_declrs))) 13) no_struct_items) 14)) no_words)
    (more_init_declrs [] (declr_name 15 5) None [] (some_init 16 (init_braced
    (init_list 17 (more_init_items (more_desigs (member_desig 18 (record { token = 19; name = 2 })) no_desigs) (Some 20)
    (init_value (name_use 21 0)) (more_init_items no_desigs None (init_value (name_use 23 0)) (more_init_items no_desigs
    None (init_value (name_use 25 0)) (more_init_items no_desigs None (init_value (name_use 27 0)) no_init_items))))
    None 28))) no_init_declrs) 29))) ∷ [])

-- int x; void f(void) { x = g(x); x = g(); }
abbrev pub program_21 : Program
program_21 =
    program [] [] lattices_1 ((decl_item
    (decl_declaration (declaration [] (more_words (basic (record { token = 0; keyword = keywords.Int })) no_words)
    (more_init_declrs [] (declr_name 1 0) None [] no_init no_init_declrs) 2)))
    ∷ (function_item [] (more_words (basic (record { token = 3; keyword = keywords.Void })) no_words) (params
    (declr_name 4 1) 5 (more_params (more_words (basic (record { token = 6; keyword = keywords.Void })) no_words)
    no_declr [] no_params) None 7) [] 8 (more_block_items (block_stmt (expr_stmt (some_expr (operation (name_use 9 0)
    (assign signs.Equal) 10 (call (name_use 11 2) 12 (more_exprs (name_use 13 0) no_exprs) 14))) 15))
    (more_block_items (block_stmt (expr_stmt (some_expr (operation (name_use 16 0) (assign signs.Equal) 17
    (call (name_use 18 2) 19 no_exprs 20))) 21)) no_block_items)) 22) ∷ [])

-- $l int c; $r int b; void f(void) { c = b; }
abbrev pub program_22 : Program
program_22 =
    program ((0, (0, 1)) ∷ (4, (0, 2)) ∷ []) [] lattices_4 ((decl_item (decl_declaration (declaration [] (more_words
    (qualifier (quals.Element 0)) (more_words (basic (record { token = 1; keyword = keywords.Int })) no_words))
    (more_init_declrs [] (declr_name 2 0) None [] no_init no_init_declrs) 3)))
    ∷ (decl_item (decl_declaration (declaration [] (more_words (qualifier (quals.Element 4))
    (more_words (basic (record { token = 5; keyword = keywords.Int })) no_words))
    (more_init_declrs [] (declr_name 6 1) None [] no_init no_init_declrs) 7)))
    ∷ (function_item [] (more_words (basic (record { token = 8; keyword = keywords.Void })) no_words) (params
    (declr_name 9 2) 10 (more_params (more_words (basic (record { token = 11; keyword = keywords.Void })) no_words)
    no_declr [] no_params) None 12) [] 13 (more_block_items (block_stmt (expr_stmt
    (some_expr (operation (name_use 14 0) (assign signs.Equal) 15 (name_use 16 1))) 17)) no_block_items) 18) ∷ [])

-- struct s { int a; } *$user p, v; void f(void) { p->a; (*p).a; (&v)->a; }
abbrev pub program_23 : Program
program_23 =
    program ((8, (0, 1)) ∷ []) [] lattices_3 ((decl_item (decl_declaration (declaration [] (more_words (struct_type
    (record { token = 0; keyword = keywords.Struct }) [] (Some (record { token = 1; name = 1 })) (some_body 2
    (more_struct_items (member [] (more_words (basic (record { token = 3; keyword = keywords.Int })) no_words)
    (more_mem_declrs [] (named (declr_name 4 0) no_value []) no_mem_declrs) 5) no_struct_items) 6)) no_words)
    (more_init_declrs [] (pointer 7 ((pointer_words.Qual (quals.Element 8)) ∷ []) (declr_name 9 3)) None [] no_init
    (more_init_declrs [] (declr_name 11 2) None [] no_init no_init_declrs)) 12)))
    ∷ (function_item [] (more_words (basic (record { token = 13; keyword = keywords.Void })) no_words) (params
    (declr_name 14 4) 15 (more_params (more_words (basic (record { token = 16; keyword = keywords.Void })) no_words)
    no_declr [] no_params) None 17) [] 18 (more_block_items (block_stmt (expr_stmt (some_expr
    (arrow (name_use 19 3) 20 (record { token = 21; name = 0 }))) 22)) (more_block_items (block_stmt (expr_stmt
    (some_expr (dot (paren 23 (prefix 24 signs.Star (name_use 25 3)) 26) 27 (record { token = 28; name = 0 }))) 29))
    (more_block_items (block_stmt (expr_stmt (some_expr (arrow (paren 30 (prefix 31 signs.Ampersand (name_use 32 2)) 33)
    34 (record { token = 35; name = 0 }))) 36)) no_block_items))) 37) ∷ [])

-- $tainted int t; union u { struct { int a; }; int b; } v = { { t }, .a = t, .b = t };
abbrev pub program_24 : Program
program_24 =
    program ((0, (0, 1)) ∷ []) [] lattices_1 ((decl_item (decl_declaration (declaration [] (more_words
    (qualifier (quals.Element 0)) (more_words (basic (record { token = 1; keyword = keywords.Int })) no_words))
    (more_init_declrs [] (declr_name 2 0) None [] no_init no_init_declrs) 3))) ∷ (decl_item
    (decl_declaration (declaration [] (more_words (struct_type (record { token = 4; keyword = keywords.Union }) []
    (Some (record { token = 5; name = 3 })) (some_body 6 (more_struct_items (member []
    (more_words (struct_type (record { token = 7; keyword = keywords.Struct }) [] None (some_body 8 (more_struct_items
    (member [] (more_words (basic (record { token = 9; keyword = keywords.Int })) no_words) (more_mem_declrs []
    (named (declr_name 10 1) no_value []) no_mem_declrs) 11) no_struct_items) 12)) no_words) no_mem_declrs 13)
    (more_struct_items (member [] (more_words (basic (record { token = 14; keyword = keywords.Int })) no_words)
    (more_mem_declrs [] (named (declr_name 15 2) no_value []) no_mem_declrs) 16) no_struct_items)) 17)) no_words)
    (more_init_declrs [] (declr_name 18 4) None [] (some_init 19 (init_braced (init_list 20 (more_init_items no_desigs
    None (init_braced (init_list 21 (more_init_items no_desigs None (init_value (name_use 22 0)) no_init_items) None
    23)) (more_init_items (more_desigs (member_desig 25 (record { token = 26; name = 1 })) no_desigs) (Some 27)
    (init_value (name_use 28 0)) (more_init_items (more_desigs (member_desig 30 (record { token = 31; name = 2 }))
    no_desigs) (Some 32) (init_value (name_use 33 0)) no_init_items))) None 34))) no_init_declrs) 35))) ∷ [])

-- $tainted int t; struct s { int a; } v[2] = { { t }, [1] = { .a = t }, [0].a = t };
abbrev pub program_25 : Program
program_25 =
    program ((0, (0, 1)) ∷ []) (33 ∷ []) lattices_1 ((decl_item (decl_declaration (declaration [] (more_words
    (qualifier (quals.Element 0)) (more_words (basic (record { token = 1; keyword = keywords.Int })) no_words))
    (more_init_declrs [] (declr_name 2 0) None [] no_init no_init_declrs) 3)))
    ∷ (decl_item (decl_declaration (declaration [] (more_words (struct_type
    (record { token = 4; keyword = keywords.Struct }) [] (Some (record { token = 5; name = 2 })) (some_body 6
    (more_struct_items (member [] (more_words (basic (record { token = 7; keyword = keywords.Int })) no_words)
    (more_mem_declrs [] (named (declr_name 8 1) no_value []) no_mem_declrs) 9) no_struct_items) 10)) no_words)
    (more_init_declrs [] (array (declr_name 11 3) 12 [] (some_size (size_value (number_use 13))) 14) None []
    (some_init 15 (init_braced (init_list 16 (more_init_items no_desigs None
    (init_braced (init_list 17 (more_init_items no_desigs None (init_value (name_use 18 0)) no_init_items) None 19))
    (more_init_items (more_desigs (index_desig 21 (number_use 22) 23) no_desigs) (Some 24) (init_braced
    (init_list 25 (more_init_items (more_desigs (member_desig 26 (record { token = 27; name = 1 })) no_desigs) (Some 28)
    (init_value (name_use 29 0)) no_init_items) None 30)) (more_init_items (more_desigs
    (index_desig 32 (number_use 33) 34) (more_desigs (member_desig 35 (record { token = 36; name = 1 })) no_desigs))
    (Some 37) (init_value (name_use 38 0)) no_init_items))) None 39))) no_init_declrs) 40))) ∷ [])

-- $tainted int t; int x = { t, { t }, t }; void f(void) { int y = { x, x }; (int){ y, y }; }
abbrev pub program_26 : Program
program_26 =
    program ((0, (0, 1)) ∷ []) [] lattices_1 ((decl_item (decl_declaration (declaration [] (more_words
    (qualifier (quals.Element 0)) (more_words (basic (record { token = 1; keyword = keywords.Int })) no_words))
    (more_init_declrs [] (declr_name 2 0) None [] no_init no_init_declrs) 3))) ∷ (decl_item
    (decl_declaration (declaration [] (more_words (basic (record { token = 4; keyword = keywords.Int })) no_words)
    (more_init_declrs [] (declr_name 5 1) None [] (some_init 6 (init_braced
    (init_list 7 (more_init_items no_desigs None (init_value (name_use 8 0)) (more_init_items no_desigs None
    (init_braced (init_list 10 (more_init_items no_desigs None (init_value (name_use 11 0)) no_init_items) None 12))
    (more_init_items no_desigs None (init_value (name_use 14 0)) no_init_items))) None 15))) no_init_declrs) 16)))
    ∷ (function_item [] (more_words (basic (record { token = 17; keyword = keywords.Void })) no_words) (params
    (declr_name 18 2) 19 (more_params (more_words (basic (record { token = 20; keyword = keywords.Void })) no_words)
    no_declr [] no_params) None 21) [] 22 (more_block_items (block_decl (decl_declaration (declaration []
    (more_words (basic (record { token = 23; keyword = keywords.Int })) no_words) (more_init_declrs [] (declr_name 24 3)
    None [] (some_init 25 (init_braced (init_list 26 (more_init_items no_desigs None (init_value (name_use 27 1))
    (more_init_items no_desigs None (init_value (name_use 29 1)) no_init_items)) None 30))) no_init_declrs) 31)))
    (more_block_items (block_stmt (expr_stmt
    (some_expr (compound 32 (more_words (basic (record { token = 33; keyword = keywords.Int })) no_words) no_declr 34
    (init_list 35 (more_init_items no_desigs None (init_value (name_use 36 3)) (more_init_items no_desigs None
    (init_value (name_use 38 3)) no_init_items)) None 39))) 40)) no_block_items)) 41) ∷ [])

-- int *p, x; void f(int i) { p[i] = x; i[p] = x; x = p[1]; "abc"[i]; *"s"; }
abbrev pub program_27 : Program
program_27 =
    program [] [] lattices_1 ((decl_item (decl_declaration (declaration [] (more_words (basic
    (record { token = 0; keyword = keywords.Int })) no_words) (more_init_declrs [] (pointer 1 [] (declr_name 2 1)) None
    [] no_init (more_init_declrs [] (declr_name 4 0) None [] no_init no_init_declrs)) 5)))
    ∷ (function_item [] (more_words (basic (record { token = 6; keyword = keywords.Void })) no_words)
    (params (declr_name 7 2) 8 (more_params (more_words (basic (record { token = 9; keyword = keywords.Int })) no_words)
    (some_declr (declr_name 10 3)) [] no_params) None 11) [] 12 (more_block_items (block_stmt (expr_stmt
    (some_expr (operation (index (name_use 13 1) 14 (name_use 15 3) 16) (assign signs.Equal) 17 (name_use 18 0))) 19))
    (more_block_items (block_stmt (expr_stmt (some_expr (operation (index (name_use 20 3) 21 (name_use 22 1) 23)
    (assign signs.Equal) 24 (name_use 25 0))) 26)) (more_block_items (block_stmt (expr_stmt (some_expr (operation
    (name_use 27 0) (assign signs.Equal) 28 (index (name_use 29 1) 30 (number_use 31) 32))) 33)) (more_block_items
    (block_stmt (expr_stmt (some_expr (index (text_use (34 ∷ [])) 35 (name_use 36 3) 37)) 38)) (more_block_items
    (block_stmt (expr_stmt (some_expr (prefix 39 signs.Star (text_use (40 ∷ [])))) 41)) no_block_items))))) 42) ∷ [])

-- int x, *p; void f(void) { x++; --x; p++; ++p; *p++ = x--; (*p)--; f++; "s"++; }
abbrev pub program_28 : Program
program_28 =
    program [] [] lattices_1 ((decl_item (decl_declaration (declaration []
    (more_words (basic (record { token = 0; keyword = keywords.Int })) no_words) (more_init_declrs [] (declr_name 1 1)
    None [] no_init (more_init_declrs [] (pointer 3 [] (declr_name 4 0)) None [] no_init no_init_declrs)) 5)))
    ∷ (function_item [] (more_words (basic (record { token = 6; keyword = keywords.Void })) no_words)
    (params (declr_name 7 2) 8 (more_params
    (more_words (basic (record { token = 9; keyword = keywords.Void })) no_words) no_declr [] no_params) None 10) [] 11
    (more_block_items (block_stmt (expr_stmt (some_expr (post (name_use 12 1) 13 signs.PlusPlus)) 14))
    (more_block_items (block_stmt (expr_stmt (some_expr (prefix 15 signs.MinusMinus (name_use 16 1))) 17))
    (more_block_items (block_stmt (expr_stmt (some_expr (post (name_use 18 0) 19 signs.PlusPlus)) 20)) (more_block_items
    (block_stmt (expr_stmt (some_expr (prefix 21 signs.PlusPlus (name_use 22 0))) 23)) (more_block_items
    (block_stmt (expr_stmt (some_expr (operation (prefix 24 signs.Star (post (name_use 25 0) 26 signs.PlusPlus))
    (assign signs.Equal) 27 (post (name_use 28 1) 29 signs.MinusMinus))) 30)) (more_block_items (block_stmt (expr_stmt
    (some_expr (post (paren 31 (prefix 32 signs.Star (name_use 33 0)) 34) 35 signs.MinusMinus)) 36)) (more_block_items
    (block_stmt (expr_stmt (some_expr (post (name_use 37 2) 38 signs.PlusPlus)) 39)) (more_block_items (block_stmt
    (expr_stmt (some_expr (post (text_use (40 ∷ [])) 41 signs.PlusPlus)) 42)) no_block_items)))))))) 43) ∷ [])

-- int f(int x) { sizeof(f(x)); sizeof f; sizeof(int *); _Alignof(x); return sizeof(x++) + __builtin_offsetof(struct {
-- int a; }, a); }
abbrev pub program_29 : Program
program_29 =
    program [] [] lattices_1
    ((function_item [] (more_words (basic (record { token = 0; keyword = keywords.Int })) no_words)
    (params (declr_name 1 0) 2 (more_params (more_words (basic (record { token = 3; keyword = keywords.Int })) no_words)
    (some_declr (declr_name 4 1)) [] no_params) None 5) [] 6
    (more_block_items (block_stmt (expr_stmt (some_expr (sizeof_value (record { token = 7; keyword = keywords.Sizeof })
    (paren 8 (call (name_use 9 0) 10 (more_exprs (name_use 11 1) no_exprs) 12) 13))) 14)) (more_block_items (block_stmt
    (expr_stmt (some_expr (sizeof_value (record { token = 15; keyword = keywords.Sizeof }) (name_use 16 0))) 17))
    (more_block_items (block_stmt (expr_stmt (some_expr (sizeof_type (record { token = 18; keyword = keywords.Sizeof })
    19 (more_words (basic (record { token = 20; keyword = keywords.Int })) no_words)
    (some_declr (abs_pointer 21 [] no_declr)) 22)) 23)) (more_block_items (block_stmt (expr_stmt
    (some_expr (sizeof_value (record { token = 24; keyword = keywords.Alignof }) (paren 25 (name_use 26 1) 27))) 28))
    (more_block_items (block_stmt (return_stmt 29 (some_expr (operation (sizeof_value
    (record { token = 30; keyword = keywords.Sizeof }) (paren 31 (post (name_use 32 1) 33 signs.PlusPlus) 34))
    (binary signs.Plus) 35 (offset 36 37 (more_words (struct_type (record { token = 38; keyword = keywords.Struct }) []
    None (some_body 39 (more_struct_items (member [] (more_words (basic (record { token = 40; keyword = keywords.Int }))
    no_words) (more_mem_declrs [] (named (declr_name 41 2) no_value []) no_mem_declrs) 42) no_struct_items) 43))
    no_words) no_declr 44 (record { token = 45; name = 2 }) no_desigs 46))) 47)) no_block_items))))) 48) ∷ [])

-- void f(void) { sizeof(({ extern $tainted int g; static int h; int i = f(); g; })); } int g;
abbrev pub program_30 : Program
program_30 =
    program ((11, (0, 1)) ∷ []) [] lattices_1
    ((function_item [] (more_words (basic (record { token = 0; keyword = keywords.Void })) no_words)
    (params (declr_name 1 0) 2 (more_params
    (more_words (basic (record { token = 3; keyword = keywords.Void })) no_words) no_declr [] no_params) None 4) [] 5
    (more_block_items (block_stmt (expr_stmt (some_expr (sizeof_value (record { token = 6; keyword = keywords.Sizeof })
    (paren 7 (statement_expr 8 9 (more_block_items (block_decl (decl_declaration
    (declaration [] (more_words (storage (record { token = 10; keyword = keywords.Extern })) (more_words
    (qualifier (quals.Element 11)) (more_words (basic (record { token = 12; keyword = keywords.Int })) no_words)))
    (more_init_declrs [] (declr_name 13 1) None [] no_init no_init_declrs) 14))) (more_block_items (block_decl
    (decl_declaration (declaration [] (more_words (storage (record { token = 15; keyword = keywords.Static }))
    (more_words (basic (record { token = 16; keyword = keywords.Int })) no_words)) (more_init_declrs []
    (declr_name 17 2) None [] no_init no_init_declrs) 18))) (more_block_items (block_decl (decl_declaration
    (declaration [] (more_words (basic (record { token = 19; keyword = keywords.Int })) no_words) (more_init_declrs []
    (declr_name 20 3) None [] (some_init 21 (init_value (call (name_use 22 0) 23 no_exprs 24))) no_init_declrs) 25)))
    (more_block_items (block_stmt (expr_stmt (some_expr (name_use 26 1)) 27)) no_block_items)))) 28 29) 30))) 31))
    no_block_items) 32) ∷ (decl_item
    (decl_declaration (declaration [] (more_words (basic (record { token = 33; keyword = keywords.Int })) no_words)
    (more_init_declrs [] (declr_name 34 1) None [] no_init no_init_declrs) 35))) ∷ [])

-- int f(int, $untainted ...); int g(char *p, $tainted ...) { return 0; }
abbrev pub program_31 : Program
program_31 =
    program ((5, (0, 0)) ∷ (16, (0, 1)) ∷ []) (21 ∷ []) lattices_1 ((decl_item
    (decl_declaration (declaration [] (more_words (basic (record { token = 0; keyword = keywords.Int })) no_words)
    (more_init_declrs [] (params (declr_name 1 0) 2
    (more_params (more_words (basic (record { token = 3; keyword = keywords.Int })) no_words) no_declr [] no_params)
    (Some (record { comma = 4; quals = ((quals.Element 5) ∷ []); dots = 6 })) 7) None [] no_init no_init_declrs) 8)))
    ∷ (function_item [] (more_words (basic (record { token = 9; keyword = keywords.Int })) no_words) (params
    (declr_name 10 1) 11 (more_params (more_words (basic (record { token = 12; keyword = keywords.Char })) no_words)
    (some_declr (pointer 13 [] (declr_name 14 2))) [] no_params)
    (Some (record { comma = 15; quals = ((quals.Element 16) ∷ []); dots = 17 })) 18) [] 19
    (more_block_items (block_stmt (return_stmt 20 (some_expr (number_use 21)) 22)) no_block_items) 23) ∷ [])

-- int *const *p; void f(void) { **p = 1; *p = 0; p = 0; }
abbrev pub program_32 : Program
program_32 =
    program ((2, (0, 1)) ∷ []) (21 ∷ 25 ∷ []) lattices_2 ((decl_item
    (decl_declaration (declaration [] (more_words (basic (record { token = 0; keyword = keywords.Int })) no_words)
    (more_init_declrs [] (pointer 1 ((pointer_words.Qual (quals.Word (record { token = 2; keyword = keywords.Const })))
    ∷ []) (pointer 3 [] (declr_name 4 0))) None [] no_init no_init_declrs) 5)))
    ∷ (function_item [] (more_words (basic (record { token = 6; keyword = keywords.Void })) no_words) (params
    (declr_name 7 1) 8 (more_params (more_words (basic (record { token = 9; keyword = keywords.Void })) no_words)
    no_declr [] no_params) None 10) [] 11 (more_block_items (block_stmt (expr_stmt (some_expr (operation
    (prefix 12 signs.Star (prefix 13 signs.Star (name_use 14 0))) (assign signs.Equal) 15 (number_use 16))) 17))
    (more_block_items (block_stmt (expr_stmt (some_expr (operation (prefix 18 signs.Star (name_use 19 0))
    (assign signs.Equal) 20 (number_use 21))) 22)) (more_block_items (block_stmt (expr_stmt
    (some_expr (operation (name_use 23 0) (assign signs.Equal) 24 (number_use 25))) 26)) no_block_items))) 27) ∷ [])

-- enum { A, B = 2 }; int x; void f(void) { x = A; x = B; x = A + B; }
abbrev pub program_33 : Program
program_33 =
    program [] [] lattices_1
    ((decl_item (decl_declaration (declaration [] (more_words (enum_type (enum_of 0 [] None (some_enum_body 1
    (more_enumerators (record { token = 2; name = 1 }) [] no_value (more_enumerators (record { token = 4; name = 0 }) []
    (some_value 5 (number_use 6)) no_enumerators)) None 7))) no_words) no_init_declrs 8))) ∷ (decl_item
    (decl_declaration (declaration [] (more_words (basic (record { token = 9; keyword = keywords.Int })) no_words)
    (more_init_declrs [] (declr_name 10 2) None [] no_init no_init_declrs) 11)))
    ∷ (function_item [] (more_words (basic (record { token = 12; keyword = keywords.Void })) no_words) (params
    (declr_name 13 3) 14 (more_params (more_words (basic (record { token = 15; keyword = keywords.Void })) no_words)
    no_declr [] no_params) None 16) [] 17 (more_block_items (block_stmt
    (expr_stmt (some_expr (operation (name_use 18 2) (assign signs.Equal) 19 (name_use 20 1))) 21)) (more_block_items
    (block_stmt (expr_stmt (some_expr (operation (name_use 22 2) (assign signs.Equal) 23 (name_use 24 0))) 25))
    (more_block_items (block_stmt (expr_stmt (some_expr (operation (name_use 26 2) (assign signs.Equal) 27
    (operation (name_use 28 1) (binary signs.Plus) 29 (name_use 30 0)))) 31)) no_block_items))) 32) ∷ [])

-- int f(int x) { int y = x; static int z = 1; return y + z; }
abbrev pub program_34 : Program
program_34 =
    program [] [] lattices_1
    ((function_item [] (more_words (basic (record { token = 0; keyword = keywords.Int })) no_words)
    (params (declr_name 1 0) 2 (more_params (more_words (basic (record { token = 3; keyword = keywords.Int })) no_words)
    (some_declr (declr_name 4 1)) [] no_params) None 5) [] 6 (more_block_items (block_decl
    (decl_declaration (declaration [] (more_words (basic (record { token = 7; keyword = keywords.Int })) no_words)
    (more_init_declrs [] (declr_name 8 2) None [] (some_init 9 (init_value (name_use 10 1))) no_init_declrs) 11)))
    (more_block_items (block_decl (decl_declaration
    (declaration [] (more_words (storage (record { token = 12; keyword = keywords.Static })) (more_words
    (basic (record { token = 13; keyword = keywords.Int })) no_words)) (more_init_declrs [] (declr_name 14 3) None []
    (some_init 15 (init_value (number_use 16))) no_init_declrs) 17))) (more_block_items (block_stmt (return_stmt 18
    (some_expr (operation (name_use 19 2) (binary signs.Plus) 20 (name_use 21 3))) 22)) no_block_items))) 23) ∷ [])

-- $tainted int t; union u { struct { int *a; }; } v = { { &t }, { .a = 0 } }; union w { int a[2]; } x = { .a[0] = t, {
-- t } };
abbrev pub program_35 : Program
program_35 =
    program ((0, (0, 1)) ∷ []) (28 ∷ 48 ∷ []) lattices_1 ((decl_item (decl_declaration (declaration [] (more_words
    (qualifier (quals.Element 0)) (more_words (basic (record { token = 1; keyword = keywords.Int })) no_words))
    (more_init_declrs [] (declr_name 2 0) None [] no_init no_init_declrs) 3))) ∷ (decl_item
    (decl_declaration (declaration [] (more_words (struct_type (record { token = 4; keyword = keywords.Union }) []
    (Some (record { token = 5; name = 2 })) (some_body 6 (more_struct_items (member []
    (more_words (struct_type (record { token = 7; keyword = keywords.Struct }) [] None (some_body 8 (more_struct_items
    (member [] (more_words (basic (record { token = 9; keyword = keywords.Int })) no_words) (more_mem_declrs [] (named
    (pointer 10 [] (declr_name 11 1)) no_value []) no_mem_declrs) 12) no_struct_items) 13)) no_words) no_mem_declrs 14)
    no_struct_items) 15)) no_words) (more_init_declrs [] (declr_name 16 3) None [] (some_init 17 (init_braced
    (init_list 18 (more_init_items no_desigs None (init_braced (init_list 19 (more_init_items no_desigs None (init_value
    (prefix 20 signs.Ampersand (name_use 21 0))) no_init_items) None 22)) (more_init_items no_desigs None (init_braced
    (init_list 24 (more_init_items (more_desigs (member_desig 25 (record { token = 26; name = 1 })) no_desigs) (Some 27)
    (init_value (number_use 28)) no_init_items) None 29)) no_init_items)) None 30))) no_init_declrs) 31)))
    ∷ (decl_item (decl_declaration (declaration [] (more_words (struct_type
    (record { token = 32; keyword = keywords.Union }) [] (Some (record { token = 33; name = 4 })) (some_body 34
    (more_struct_items (member [] (more_words (basic (record { token = 35; keyword = keywords.Int })) no_words)
    (more_mem_declrs [] (named (array (declr_name 36 1) 37 [] (some_size (size_value (number_use 38))) 39) no_value
    []) no_mem_declrs) 40) no_struct_items) 41)) no_words) (more_init_declrs [] (declr_name 42 5) None [] (some_init 43
    (init_braced (init_list 44 (more_init_items (more_desigs (member_desig 45 (record { token = 46; name = 1 }))
    (more_desigs (index_desig 47 (number_use 48) 49) no_desigs)) (Some 50) (init_value (name_use 51 0))
    (more_init_items no_desigs None (init_braced (init_list 53 (more_init_items no_desigs None
    (init_value (name_use 54 0)) no_init_items) None 55)) no_init_items)) None 56))) no_init_declrs) 57))) ∷ [])

-- $tainted int t; int *p; void f(int x) { x; f; p; t; 1; 'c'; "s"; __func__; (x); __extension__ x; }
abbrev pub program_36 : Program
program_36 =
    program ((0, (0, 1)) ∷ []) [] lattices_1 ((decl_item (decl_declaration (declaration [] (more_words
    (qualifier (quals.Element 0)) (more_words (basic (record { token = 1; keyword = keywords.Int })) no_words))
    (more_init_declrs [] (declr_name 2 0) None [] no_init no_init_declrs) 3))) ∷ (decl_item
    (decl_declaration (declaration [] (more_words (basic (record { token = 4; keyword = keywords.Int })) no_words)
    (more_init_declrs [] (pointer 5 [] (declr_name 6 1)) None [] no_init no_init_declrs) 7)))
    ∷ (function_item [] (more_words (basic (record { token = 8; keyword = keywords.Void })) no_words) (params
    (declr_name 9 2) 10 (more_params (more_words (basic (record { token = 11; keyword = keywords.Int })) no_words)
    (some_declr (declr_name 12 3)) [] no_params) None 13) [] 14
    (more_block_items (block_stmt (expr_stmt (some_expr (name_use 15 3)) 16))
    (more_block_items (block_stmt (expr_stmt (some_expr (name_use 17 2)) 18))
    (more_block_items (block_stmt (expr_stmt (some_expr (name_use 19 1)) 20)) (more_block_items (block_stmt (expr_stmt
    (some_expr (name_use 21 0)) 22)) (more_block_items (block_stmt (expr_stmt (some_expr (number_use 23)) 24))
    (more_block_items (block_stmt (expr_stmt (some_expr (char_use 25)) 26)) (more_block_items (block_stmt (expr_stmt
    (some_expr (text_use (27 ∷ []))) 28)) (more_block_items (block_stmt (expr_stmt (some_expr (text_use (29 ∷ []))) 30))
    (more_block_items (block_stmt (expr_stmt (some_expr (paren 31 (name_use 32 3) 33)) 34)) (more_block_items
    (block_stmt (expr_stmt (some_expr (extension 35 (name_use 36 3))) 37)) no_block_items)))))))))) 38) ∷ [])

-- int x; extern int *x;
abbrev pub program_37 : Program
program_37 =
    program [] [] lattices_1 ((decl_item
    (decl_declaration (declaration [] (more_words (basic (record { token = 0; keyword = keywords.Int })) no_words)
    (more_init_declrs [] (declr_name 1 0) None [] no_init no_init_declrs) 2))) ∷ (decl_item
    (decl_declaration (declaration [] (more_words (storage (record { token = 3; keyword = keywords.Extern }))
    (more_words (basic (record { token = 4; keyword = keywords.Int })) no_words))
    (more_init_declrs [] (pointer 5 [] (declr_name 6 0)) None [] no_init no_init_declrs) 7))) ∷ [])

-- $tainted int t; struct s { struct { int a; int b; }; int c; } v = { { t, t }, t, .a = t, t, .b = t };
abbrev pub program_38 : Program
program_38 =
    program ((0, (0, 1)) ∷ []) [] lattices_1 ((decl_item (decl_declaration (declaration [] (more_words
    (qualifier (quals.Element 0)) (more_words (basic (record { token = 1; keyword = keywords.Int })) no_words))
    (more_init_declrs [] (declr_name 2 0) None [] no_init no_init_declrs) 3)))
    ∷ (decl_item (decl_declaration (declaration [] (more_words (struct_type
    (record { token = 4; keyword = keywords.Struct }) [] (Some (record { token = 5; name = 4 })) (some_body 6
    (more_struct_items (member [] (more_words (struct_type (record { token = 7; keyword = keywords.Struct }) [] None
    (some_body 8 (more_struct_items (member [] (more_words (basic (record { token = 9; keyword = keywords.Int }))
    no_words) (more_mem_declrs [] (named (declr_name 10 1) no_value []) no_mem_declrs) 11) (more_struct_items
    (member [] (more_words (basic (record { token = 12; keyword = keywords.Int })) no_words) (more_mem_declrs []
    (named (declr_name 13 2) no_value []) no_mem_declrs) 14) no_struct_items)) 15)) no_words) no_mem_declrs 16)
    (more_struct_items (member [] (more_words (basic (record { token = 17; keyword = keywords.Int })) no_words)
    (more_mem_declrs [] (named (declr_name 18 3) no_value []) no_mem_declrs) 19) no_struct_items)) 20)) no_words)
    (more_init_declrs [] (declr_name 21 5) None [] (some_init 22 (init_braced
    (init_list 23 (more_init_items no_desigs None (init_braced (init_list 24 (more_init_items no_desigs None
    (init_value (name_use 25 0)) (more_init_items no_desigs None (init_value (name_use 27 0)) no_init_items)) None 28))
    (more_init_items no_desigs None (init_value (name_use 30 0)) (more_init_items (more_desigs (member_desig 32
    (record { token = 33; name = 1 })) no_desigs) (Some 34) (init_value (name_use 35 0)) (more_init_items no_desigs None
    (init_value (name_use 37 0)) (more_init_items (more_desigs (member_desig 39 (record { token = 40; name = 2 }))
    no_desigs) (Some 41) (init_value (name_use 42 0)) no_init_items))))) None 43))) no_init_declrs) 44))) ∷ [])

-- $tainted int t; struct s { int a; } w; struct s v = { w }; struct s x = w; struct s *y = { &w, w };
abbrev pub program_39 : Program
program_39 =
    program ((0, (0, 1)) ∷ []) [] lattices_1 ((decl_item (decl_declaration (declaration [] (more_words
    (qualifier (quals.Element 0)) (more_words (basic (record { token = 1; keyword = keywords.Int })) no_words))
    (more_init_declrs [] (declr_name 2 0) None [] no_init no_init_declrs) 3)))
    ∷ (decl_item (decl_declaration (declaration [] (more_words (struct_type
    (record { token = 4; keyword = keywords.Struct }) [] (Some (record { token = 5; name = 2 })) (some_body 6
    (more_struct_items (member [] (more_words (basic (record { token = 7; keyword = keywords.Int })) no_words)
    (more_mem_declrs [] (named (declr_name 8 1) no_value []) no_mem_declrs) 9) no_struct_items) 10)) no_words)
    (more_init_declrs [] (declr_name 11 3) None [] no_init no_init_declrs) 12)))
    ∷ (decl_item (decl_declaration (declaration [] (more_words (struct_type
    (record { token = 13; keyword = keywords.Struct }) [] (Some (record { token = 14; name = 2 })) no_body) no_words)
    (more_init_declrs [] (declr_name 15 4) None [] (some_init 16 (init_braced (init_list 17
    (more_init_items no_desigs None (init_value (name_use 18 3)) no_init_items) None 19))) no_init_declrs) 20)))
    ∷ (decl_item (decl_declaration (declaration [] (more_words (struct_type
    (record { token = 21; keyword = keywords.Struct }) [] (Some (record { token = 22; name = 2 })) no_body) no_words)
    (more_init_declrs [] (declr_name 23 5) None [] (some_init 24 (init_value (name_use 25 3))) no_init_declrs) 26)))
    ∷ (decl_item (decl_declaration (declaration [] (more_words (struct_type
    (record { token = 27; keyword = keywords.Struct }) [] (Some (record { token = 28; name = 2 })) no_body) no_words)
    (more_init_declrs [] (pointer 29 [] (declr_name 30 6)) None [] (some_init 31
    (init_braced (init_list 32 (more_init_items no_desigs None (init_value (prefix 33 signs.Ampersand (name_use 34 3)))
    (more_init_items no_desigs None (init_value (name_use 36 3)) no_init_items)) None 37))) no_init_declrs) 38))) ∷ [])

-- int f(int a, $tainted int b, int *c) { return a; }
abbrev pub program_40 : Program
program_40 =
    program ((6, (0, 1)) ∷ []) [] lattices_1
    ((function_item [] (more_words (basic (record { token = 0; keyword = keywords.Int })) no_words)
    (params (declr_name 1 0) 2 (more_params (more_words (basic (record { token = 3; keyword = keywords.Int })) no_words)
    (some_declr (declr_name 4 3)) [] (more_params (more_words (qualifier (quals.Element 6))
    (more_words (basic (record { token = 7; keyword = keywords.Int })) no_words)) (some_declr (declr_name 8 2)) []
    (more_params (more_words (basic (record { token = 10; keyword = keywords.Int })) no_words)
    (some_declr (pointer 11 [] (declr_name 12 1))) [] no_params))) None 13) [] 14
    (more_block_items (block_stmt (return_stmt 15 (some_expr (name_use 16 3)) 17)) no_block_items) 18) ∷ [])

-- struct s { const int a; int b; } v, *w; void f(void) { v.a = 1; v.b = 2; w->a++; w->b += 1; }
abbrev pub program_41 : Program
program_41 =
    program ((3, (0, 1)) ∷ []) [] lattices_2 ((decl_item (decl_declaration (declaration [] (more_words (struct_type
    (record { token = 0; keyword = keywords.Struct }) [] (Some (record { token = 1; name = 2 })) (some_body 2
    (more_struct_items (member [] (more_words (qualifier (quals.Word (record { token = 3; keyword = keywords.Const })))
    (more_words (basic (record { token = 4; keyword = keywords.Int })) no_words))
    (more_mem_declrs [] (named (declr_name 5 0) no_value []) no_mem_declrs) 6)
    (more_struct_items (member [] (more_words (basic (record { token = 7; keyword = keywords.Int })) no_words)
    (more_mem_declrs [] (named (declr_name 8 1) no_value []) no_mem_declrs) 9) no_struct_items)) 10)) no_words)
    (more_init_declrs [] (declr_name 11 4) None [] no_init
    (more_init_declrs [] (pointer 13 [] (declr_name 14 3)) None [] no_init no_init_declrs)) 15)))
    ∷ (function_item [] (more_words (basic (record { token = 16; keyword = keywords.Void })) no_words) (params
    (declr_name 17 5) 18 (more_params (more_words (basic (record { token = 19; keyword = keywords.Void })) no_words)
    no_declr [] no_params) None 20) [] 21 (more_block_items (block_stmt (expr_stmt (some_expr
    (operation (dot (name_use 22 4) 23 (record { token = 24; name = 0 })) (assign signs.Equal) 25 (number_use 26))) 27))
    (more_block_items (block_stmt (expr_stmt (some_expr (operation (dot (name_use 28 4) 29
    (record { token = 30; name = 1 })) (assign signs.Equal) 31 (number_use 32))) 33)) (more_block_items (block_stmt
    (expr_stmt (some_expr (post (arrow (name_use 34 3) 35 (record { token = 36; name = 0 })) 37 signs.PlusPlus)) 38))
    (more_block_items (block_stmt (expr_stmt (some_expr (operation (arrow (name_use 39 3) 40
    (record { token = 41; name = 1 })) (assign signs.PlusEqual) 42 (number_use 43))) 44)) no_block_items)))) 45) ∷ [])

-- void f(int x) { __builtin_va_list ap; __builtin_va_start(ap, x); __builtin_va_arg(ap, int **); __builtin_va_arg(ap,
-- void); __builtin_va_copy(x, ap); }
abbrev pub program_42 : Program
program_42 =
    program [] [] lattices_1
    ((function_item [] (more_words (basic (record { token = 0; keyword = keywords.Void })) no_words)
    (params (declr_name 1 0) 2 (more_params (more_words (basic (record { token = 3; keyword = keywords.Int })) no_words)
    (some_declr (declr_name 4 1)) [] no_params) None 5) [] 6 (more_block_items (block_decl
    (decl_declaration (declaration [] (more_words (basic (record { token = 7; keyword = keywords.BaseWord })) no_words)
    (more_init_declrs [] (declr_name 8 2) None [] no_init no_init_declrs) 9))) (more_block_items (block_stmt (expr_stmt
    (some_expr (va_start 10 11 (name_use 12 2) 13 (name_use 14 1) 15)) 16)) (more_block_items (block_stmt (expr_stmt
    (some_expr (va_arg 17 18 (name_use 19 2) 20 (more_words (basic (record { token = 21; keyword = keywords.Int }))
    no_words) (some_declr (abs_pointer 22 [] (some_declr (abs_pointer 23 [] no_declr)))) 24)) 25))
    (more_block_items (block_stmt (expr_stmt (some_expr (va_arg 26 27 (name_use 28 2) 29 (more_words
    (basic (record { token = 30; keyword = keywords.Void })) no_words) no_declr 31)) 32)) (more_block_items (block_stmt
    (expr_stmt (some_expr (va_copy 33 34 (name_use 35 1) 36 (name_use 37 2) 38)) 39)) no_block_items))))) 40) ∷ [])

-- int f(int x) { int a[f(1)]; struct { int b : f(2); } v; enum { E = f(3) }; switch (x) case f(4): ; int c[] = { [f(5)]
-- = f(6) }; return x; }
abbrev pub program_43 : Program
program_43 =
    program [] [] lattices_1
    ((function_item [] (more_words (basic (record { token = 0; keyword = keywords.Int })) no_words)
    (params (declr_name 1 0) 2 (more_params (more_words (basic (record { token = 3; keyword = keywords.Int })) no_words)
    (some_declr (declr_name 4 1)) [] no_params) None 5) [] 6 (more_block_items (block_decl
    (decl_declaration (declaration [] (more_words (basic (record { token = 7; keyword = keywords.Int })) no_words)
    (more_init_declrs [] (array (declr_name 8 2) 9 [] (some_size (size_value
    (call (name_use 10 0) 11 (more_exprs (number_use 12) no_exprs) 13))) 14) None [] no_init no_init_declrs) 15)))
    (more_block_items (block_decl (decl_declaration (declaration [] (more_words (struct_type
    (record { token = 16; keyword = keywords.Struct }) [] None (some_body 17 (more_struct_items (member [] (more_words
    (basic (record { token = 18; keyword = keywords.Int })) no_words) (more_mem_declrs [] (named (declr_name 19 3)
    (some_value 20 (call (name_use 21 0) 22 (more_exprs (number_use 23) no_exprs) 24)) []) no_mem_declrs) 25)
    no_struct_items) 26)) no_words) (more_init_declrs [] (declr_name 27 4) None [] no_init no_init_declrs) 28)))
    (more_block_items (block_decl (decl_declaration (declaration []
    (more_words (enum_type (enum_of 29 [] None (some_enum_body 30 (more_enumerators (record { token = 31; name = 5 }) []
    (some_value 32 (call (name_use 33 0) 34 (more_exprs (number_use 35) no_exprs) 36)) no_enumerators) None 37)))
    no_words) no_init_declrs 38))) (more_block_items (block_stmt (switch_stmt 39 40 (name_use 41 1) 42 (case_stmt 43
    (call (name_use 44 0) 45 (more_exprs (number_use 46) no_exprs) 47) 48 (expr_stmt no_expr 49)))) (more_block_items
    (block_decl (decl_declaration (declaration [] (more_words (basic (record { token = 50; keyword = keywords.Int }))
    no_words) (more_init_declrs [] (array (declr_name 51 6) 52 [] no_size 53) None []
    (some_init 54 (init_braced (init_list 55 (more_init_items (more_desigs (index_desig 56
    (call (name_use 57 0) 58 (more_exprs (number_use 59) no_exprs) 60) 61) no_desigs) (Some 62) (init_value
    (call (name_use 63 0) 64 (more_exprs (number_use 65) no_exprs) 66)) no_init_items) None 67))) no_init_declrs) 68)))
    (more_block_items (block_stmt (return_stmt 69 (some_expr (name_use 70 1)) 71)) no_block_items)))))) 72) ∷ [])

-- void f(int *a) { int a; *a = 1; }
abbrev pub program_44 : Program
program_44 =
    program [] [] lattices_1
    ((function_item [] (more_words (basic (record { token = 0; keyword = keywords.Void })) no_words)
    (params (declr_name 1 0) 2 (more_params (more_words (basic (record { token = 3; keyword = keywords.Int })) no_words)
    (some_declr (pointer 4 [] (declr_name 5 1))) [] no_params) None 6) [] 7 (more_block_items (block_decl
    (decl_declaration (declaration [] (more_words (basic (record { token = 8; keyword = keywords.Int })) no_words)
    (more_init_declrs [] (declr_name 9 1) None [] no_init no_init_declrs) 10)))
    (more_block_items (block_stmt (expr_stmt (some_expr (operation (prefix 11 signs.Star (name_use 12 1))
    (assign signs.Equal) 13 (number_use 14))) 15)) no_block_items)) 16) ∷ [])

-- int x; $user int y; void f(void) { x = ($untainted int)y; x = ($kernel int)y; x = ($kernel $untainted int)y; }
abbrev pub program_45 : Program
program_45 =
    program ((3, (1, 1)) ∷ (16, (0, 0)) ∷ (24, (1, 0)) ∷ (32, (1, 0)) ∷ (33, (0, 0)) ∷ []) [] lattices_5 ((decl_item
    (decl_declaration (declaration [] (more_words (basic (record { token = 0; keyword = keywords.Int })) no_words)
    (more_init_declrs [] (declr_name 1 0) None [] no_init no_init_declrs) 2)))
    ∷ (decl_item (decl_declaration (declaration [] (more_words (qualifier (quals.Element 3))
    (more_words (basic (record { token = 4; keyword = keywords.Int })) no_words))
    (more_init_declrs [] (declr_name 5 1) None [] no_init no_init_declrs) 6)))
    ∷ (function_item [] (more_words (basic (record { token = 7; keyword = keywords.Void })) no_words) (params
    (declr_name 8 2) 9 (more_params (more_words (basic (record { token = 10; keyword = keywords.Void })) no_words)
    no_declr [] no_params) None 11) [] 12 (more_block_items (block_stmt (expr_stmt
    (some_expr (operation (name_use 13 0) (assign signs.Equal) 14 (cast 15 (more_words (qualifier (quals.Element 16))
    (more_words (basic (record { token = 17; keyword = keywords.Int })) no_words)) no_declr 18 (name_use 19 1)))) 20))
    (more_block_items (block_stmt (expr_stmt
    (some_expr (operation (name_use 21 0) (assign signs.Equal) 22 (cast 23 (more_words (qualifier (quals.Element 24))
    (more_words (basic (record { token = 25; keyword = keywords.Int })) no_words)) no_declr 26 (name_use 27 1)))) 28))
    (more_block_items (block_stmt (expr_stmt (some_expr (operation (name_use 29 0) (assign signs.Equal) 30
    (cast 31 (more_words (qualifier (quals.Element 32)) (more_words (qualifier (quals.Element 33))
    (more_words (basic (record { token = 34; keyword = keywords.Int })) no_words))) no_declr 35 (name_use 36 1)))) 37))
    no_block_items))) 38) ∷ [])

-- struct s { int a; } v, w, *p; void f(void) { v = w; *p = v; p[1] = *p; v = *&w; p = &v; p = (struct s *)0; }
abbrev pub program_46 : Program
program_46 =
    program [] (55 ∷ []) lattices_1 ((decl_item (decl_declaration (declaration [] (more_words (struct_type
    (record { token = 0; keyword = keywords.Struct }) [] (Some (record { token = 1; name = 1 })) (some_body 2
    (more_struct_items (member [] (more_words (basic (record { token = 3; keyword = keywords.Int })) no_words)
    (more_mem_declrs [] (named (declr_name 4 0) no_value []) no_mem_declrs) 5) no_struct_items) 6)) no_words)
    (more_init_declrs [] (declr_name 7 4) None [] no_init (more_init_declrs [] (declr_name 9 3) None [] no_init
    (more_init_declrs [] (pointer 11 [] (declr_name 12 2)) None [] no_init no_init_declrs))) 13)))
    ∷ (function_item [] (more_words (basic (record { token = 14; keyword = keywords.Void })) no_words) (params
    (declr_name 15 5) 16 (more_params (more_words (basic (record { token = 17; keyword = keywords.Void })) no_words)
    no_declr [] no_params) None 18) [] 19 (more_block_items (block_stmt (expr_stmt (some_expr
    (operation (name_use 20 4) (assign signs.Equal) 21 (name_use 22 3))) 23)) (more_block_items (block_stmt (expr_stmt
    (some_expr (operation (prefix 24 signs.Star (name_use 25 2)) (assign signs.Equal) 26 (name_use 27 4))) 28))
    (more_block_items (block_stmt (expr_stmt (some_expr (operation (index (name_use 29 2) 30 (number_use 31) 32)
    (assign signs.Equal) 33 (prefix 34 signs.Star (name_use 35 2)))) 36)) (more_block_items
    (block_stmt (expr_stmt (some_expr (operation (name_use 37 4) (assign signs.Equal) 38 (prefix 39 signs.Star
    (prefix 40 signs.Ampersand (name_use 41 3))))) 42)) (more_block_items (block_stmt (expr_stmt (some_expr (operation
    (name_use 43 2) (assign signs.Equal) 44 (prefix 45 signs.Ampersand (name_use 46 4)))) 47)) (more_block_items
    (block_stmt (expr_stmt (some_expr (operation (name_use 48 2) (assign signs.Equal) 49 (cast 50 (more_words
    (struct_type (record { token = 51; keyword = keywords.Struct }) [] (Some (record { token = 52; name = 1 })) no_body)
    no_words) (some_declr (abs_pointer 53 [] no_declr)) 54 (number_use 55)))) 56)) no_block_items)))))) 57) ∷ [])

-- void f(int g(int), int a[2]) { g(a[0]); }
abbrev pub program_47 : Program
program_47 =
    program [] (20 ∷ []) lattices_1
    ((function_item [] (more_words (basic (record { token = 0; keyword = keywords.Void })) no_words)
    (params (declr_name 1 0) 2 (more_params (more_words (basic (record { token = 3; keyword = keywords.Int })) no_words)
    (some_declr (params (declr_name 4 2) 5 (more_params
    (more_words (basic (record { token = 6; keyword = keywords.Int })) no_words) no_declr [] no_params) None 7)) []
    (more_params (more_words (basic (record { token = 9; keyword = keywords.Int })) no_words)
    (some_declr (array (declr_name 10 1) 11 [] (some_size (size_value (number_use 12))) 13)) [] no_params)) None 14)
    [] 15 (more_block_items (block_stmt (expr_stmt (some_expr (call (name_use 16 2) 17
    (more_exprs (index (name_use 18 1) 19 (number_use 20) 21) no_exprs) 22)) 23)) no_block_items) 24) ∷ [])

-- $tainted int t; int x; void f(void) { x = ({ t; }); x = ({ int y = t; y; }); ({ }); ({ ; }); ({ int z; }); ({ f();
-- }); x = ({ f; 1; }); }
abbrev pub program_48 : Program
program_48 =
    program ((0, (0, 1)) ∷ []) [] lattices_1 ((decl_item (decl_declaration (declaration [] (more_words
    (qualifier (quals.Element 0)) (more_words (basic (record { token = 1; keyword = keywords.Int })) no_words))
    (more_init_declrs [] (declr_name 2 0) None [] no_init no_init_declrs) 3))) ∷ (decl_item
    (decl_declaration (declaration [] (more_words (basic (record { token = 4; keyword = keywords.Int })) no_words)
    (more_init_declrs [] (declr_name 5 1) None [] no_init no_init_declrs) 6)))
    ∷ (function_item [] (more_words (basic (record { token = 7; keyword = keywords.Void })) no_words) (params
    (declr_name 8 2) 9 (more_params (more_words (basic (record { token = 10; keyword = keywords.Void })) no_words)
    no_declr [] no_params) None 11) [] 12 (more_block_items
    (block_stmt (expr_stmt (some_expr (operation (name_use 13 1) (assign signs.Equal) 14 (statement_expr 15 16
    (more_block_items (block_stmt (expr_stmt (some_expr (name_use 17 0)) 18)) no_block_items) 19 20))) 21))
    (more_block_items (block_stmt (expr_stmt (some_expr (operation (name_use 22 1) (assign signs.Equal) 23
    (statement_expr 24 25 (more_block_items (block_decl (decl_declaration
    (declaration [] (more_words (basic (record { token = 26; keyword = keywords.Int })) no_words) (more_init_declrs []
    (declr_name 27 3) None [] (some_init 28 (init_value (name_use 29 0))) no_init_declrs) 30))) (more_block_items
    (block_stmt (expr_stmt (some_expr (name_use 31 3)) 32)) no_block_items)) 33 34))) 35)) (more_block_items (block_stmt
    (expr_stmt (some_expr (statement_expr 36 37 no_block_items 38 39)) 40)) (more_block_items (block_stmt (expr_stmt
    (some_expr (statement_expr 41 42 (more_block_items (block_stmt (expr_stmt no_expr 43)) no_block_items) 44 45)) 46))
    (more_block_items (block_stmt (expr_stmt (some_expr (statement_expr 47 48 (more_block_items (block_decl
    (decl_declaration (declaration [] (more_words (basic (record { token = 49; keyword = keywords.Int })) no_words)
    (more_init_declrs [] (declr_name 50 4) None [] no_init no_init_declrs) 51))) no_block_items) 52 53)) 54))
    (more_block_items (block_stmt (expr_stmt (some_expr (statement_expr 55 56 (more_block_items
    (block_stmt (expr_stmt (some_expr (call (name_use 57 2) 58 no_exprs 59)) 60)) no_block_items) 61 62)) 63))
    (more_block_items (block_stmt (expr_stmt (some_expr (operation (name_use 64 1) (assign signs.Equal) 65
    (statement_expr 66 67 (more_block_items (block_stmt (expr_stmt (some_expr (name_use 68 2)) 69)) (more_block_items
    (block_stmt (expr_stmt (some_expr (number_use 70)) 71)) no_block_items)) 72 73))) 74)) no_block_items))))))) 75)
    ∷ [])

-- void f(int (*$user p)(int)) { p(1); (*p)(1); p[0](1); }
abbrev pub program_49 : Program
program_49 =
    program ((6, (0, 1)) ∷ []) (29 ∷ []) lattices_3
    ((function_item [] (more_words (basic (record { token = 0; keyword = keywords.Void })) no_words)
    (params (declr_name 1 0) 2 (more_params (more_words (basic (record { token = 3; keyword = keywords.Int })) no_words)
    (some_declr (params (declr_paren 4 [] (pointer 5 ((pointer_words.Qual (quals.Element 6)) ∷ []) (declr_name 7 1)) 8)
    9 (more_params (more_words (basic (record { token = 10; keyword = keywords.Int })) no_words) no_declr
    [] no_params) None 11)) [] no_params) None 12) [] 13 (more_block_items
    (block_stmt (expr_stmt (some_expr (call (name_use 14 1) 15 (more_exprs (number_use 16) no_exprs) 17)) 18))
    (more_block_items (block_stmt (expr_stmt (some_expr
    (call (paren 19 (prefix 20 signs.Star (name_use 21 1)) 22) 23 (more_exprs (number_use 24) no_exprs) 25)) 26))
    (more_block_items (block_stmt (expr_stmt (some_expr (call (index (name_use 27 1) 28 (number_use 29) 30) 31
    (more_exprs (number_use 32) no_exprs) 33)) 34)) no_block_items))) 35) ∷ [])

-- $tainted char *$user p; void f(void) { ($untainted char *$kernel)p; (char *)p; (void)p; ($user int)p; ($tainted
-- int)0; (void *)0; }
abbrev pub program_50 : Program
program_50 =
    program ((0, (0, 1)) ∷ (3, (1, 1)) ∷ (13, (0, 0)) ∷ (16, (1, 0)) ∷ (32, (1, 1)) ∷ (38, (0, 1)) ∷ [])
    (41 ∷ 47 ∷ []) lattices_5 ((decl_item (decl_declaration (declaration [] (more_words (qualifier (quals.Element 0))
    (more_words (basic (record { token = 1; keyword = keywords.Char })) no_words)) (more_init_declrs []
    (pointer 2 ((pointer_words.Qual (quals.Element 3)) ∷ []) (declr_name 4 0)) None [] no_init no_init_declrs) 5)))
    ∷ (function_item [] (more_words (basic (record { token = 6; keyword = keywords.Void })) no_words) (params
    (declr_name 7 1) 8 (more_params (more_words (basic (record { token = 9; keyword = keywords.Void })) no_words)
    no_declr [] no_params) None 10) [] 11 (more_block_items (block_stmt (expr_stmt (some_expr (cast 12 (more_words
    (qualifier (quals.Element 13)) (more_words (basic (record { token = 14; keyword = keywords.Char })) no_words))
    (some_declr (abs_pointer 15 ((pointer_words.Qual (quals.Element 16)) ∷ []) no_declr)) 17 (name_use 18 0))) 19))
    (more_block_items (block_stmt (expr_stmt
    (some_expr (cast 20 (more_words (basic (record { token = 21; keyword = keywords.Char })) no_words) (some_declr
    (abs_pointer 22 [] no_declr)) 23 (name_use 24 0))) 25)) (more_block_items (block_stmt (expr_stmt (some_expr (cast 26
    (more_words (basic (record { token = 27; keyword = keywords.Void })) no_words) no_declr 28 (name_use 29 0))) 30))
    (more_block_items (block_stmt (expr_stmt (some_expr (cast 31 (more_words (qualifier (quals.Element 32))
    (more_words (basic (record { token = 33; keyword = keywords.Int })) no_words)) no_declr 34 (name_use 35 0))) 36))
    (more_block_items (block_stmt (expr_stmt (some_expr (cast 37 (more_words (qualifier (quals.Element 38))
    (more_words (basic (record { token = 39; keyword = keywords.Int })) no_words)) no_declr 40 (number_use 41))) 42))
    (more_block_items (block_stmt
    (expr_stmt (some_expr (cast 43 (more_words (basic (record { token = 44; keyword = keywords.Void })) no_words)
    (some_declr (abs_pointer 45 [] no_declr)) 46 (number_use 47))) 48)) no_block_items)))))) 49) ∷ [])

-- struct s { int a; } v, w; void g(void); void f(int x) { v = x ? v : w; x ? g() : g(); x ? x : v; x ? (0) : v; x ? v :
-- (void *)(0); }
abbrev pub program_51 : Program
program_51 =
    program [] (51 ∷ 65 ∷ []) lattices_1 ((decl_item (decl_declaration (declaration [] (more_words (struct_type
    (record { token = 0; keyword = keywords.Struct }) [] (Some (record { token = 1; name = 1 })) (some_body 2
    (more_struct_items (member [] (more_words (basic (record { token = 3; keyword = keywords.Int })) no_words)
    (more_mem_declrs [] (named (declr_name 4 0) no_value []) no_mem_declrs) 5) no_struct_items) 6)) no_words)
    (more_init_declrs [] (declr_name 7 3) None [] no_init
    (more_init_declrs [] (declr_name 9 2) None [] no_init no_init_declrs)) 10))) ∷ (decl_item (decl_declaration
    (declaration [] (more_words (basic (record { token = 11; keyword = keywords.Void })) no_words) (more_init_declrs []
    (params (declr_name 12 4) 13 (more_params (more_words (basic (record { token = 14; keyword = keywords.Void }))
    no_words) no_declr [] no_params) None 15) None [] no_init no_init_declrs) 16)))
    ∷ (function_item [] (more_words (basic (record { token = 17; keyword = keywords.Void })) no_words) (params
    (declr_name 18 5) 19 (more_params (more_words (basic (record { token = 20; keyword = keywords.Int })) no_words)
    (some_declr (declr_name 21 6)) [] no_params) None 22) [] 23
    (more_block_items (block_stmt (expr_stmt (some_expr (operation (name_use 24 3) (assign signs.Equal) 25
    (operation (name_use 26 6) (cond (some_expr (name_use 28 3)) 29) 27 (name_use 30 2)))) 31))
    (more_block_items (block_stmt (expr_stmt (some_expr (operation (name_use 32 6)
    (cond (some_expr (call (name_use 34 4) 35 no_exprs 36)) 37) 33 (call (name_use 38 4) 39 no_exprs 40))) 41))
    (more_block_items (block_stmt (expr_stmt (some_expr (operation (name_use 42 6)
    (cond (some_expr (name_use 44 6)) 45) 43 (name_use 46 3))) 47)) (more_block_items (block_stmt (expr_stmt
    (some_expr (operation (name_use 48 6) (cond (some_expr (paren 50 (number_use 51) 52)) 53) 49 (name_use 54 3))) 55))
    (more_block_items (block_stmt (expr_stmt (some_expr (operation (name_use 56 6) (cond (some_expr (name_use 58 3)) 59)
    57 (cast 60 (more_words (basic (record { token = 61; keyword = keywords.Void })) no_words)
    (some_declr (abs_pointer 62 [] no_declr)) 63 (paren 64 (number_use 65) 66)))) 67)) no_block_items))))) 68) ∷ [])

-- int x; void f(const int *p) { *(int *)p = x; int *q = (int *const)p; }
abbrev pub program_52 : Program
program_52 =
    program ((6, (0, 1)) ∷ (28, (0, 1)) ∷ []) [] lattices_2 ((decl_item
    (decl_declaration (declaration [] (more_words (basic (record { token = 0; keyword = keywords.Int })) no_words)
    (more_init_declrs [] (declr_name 1 0) None [] no_init no_init_declrs) 2))) ∷ (function_item []
    (more_words (basic (record { token = 3; keyword = keywords.Void })) no_words) (params (declr_name 4 1) 5
    (more_params (more_words (qualifier (quals.Word (record { token = 6; keyword = keywords.Const }))) (more_words
    (basic (record { token = 7; keyword = keywords.Int })) no_words)) (some_declr (pointer 8 [] (declr_name 9 2)))
    [] no_params) None 10) [] 11 (more_block_items (block_stmt (expr_stmt (some_expr (operation
    (prefix 12 signs.Star (cast 13 (more_words (basic (record { token = 14; keyword = keywords.Int })) no_words)
    (some_declr (abs_pointer 15 [] no_declr)) 16 (name_use 17 2))) (assign signs.Equal) 18 (name_use 19 0))) 20))
    (more_block_items (block_decl
    (decl_declaration (declaration [] (more_words (basic (record { token = 21; keyword = keywords.Int })) no_words)
    (more_init_declrs [] (pointer 22 [] (declr_name 23 3)) None []
    (some_init 24 (init_value (cast 25 (more_words (basic (record { token = 26; keyword = keywords.Int })) no_words)
    (some_declr (abs_pointer 27 ((pointer_words.Qual (quals.Word (record { token = 28; keyword = keywords.Const })))
    ∷ []) no_declr)) 29 (name_use 30 2)))) no_init_declrs) 31))) no_block_items)) 32) ∷ [])

-- int x, *p; void f(const int y, ...) { x = y; *p = x++; (char)x; f(x, p); (void *)0; int z = { x }; }
abbrev pub program_53 : Program
program_53 =
    program [] (42 ∷ []) lattices_6 ((decl_item (decl_declaration (declaration [] (more_words (basic
    (record { token = 0; keyword = keywords.Int })) no_words) (more_init_declrs [] (declr_name 1 1) None [] no_init
    (more_init_declrs [] (pointer 3 [] (declr_name 4 0)) None [] no_init no_init_declrs)) 5))) ∷ (function_item []
    (more_words (basic (record { token = 6; keyword = keywords.Void })) no_words) (params (declr_name 7 2) 8
    (more_params (more_words (qualifier (quals.Word (record { token = 9; keyword = keywords.Const })))
    (more_words (basic (record { token = 10; keyword = keywords.Int })) no_words)) (some_declr (declr_name 11 3))
    [] no_params) (Some (record { comma = 12; quals = []; dots = 13 })) 14) [] 15 (more_block_items (block_stmt
    (expr_stmt (some_expr (operation (name_use 16 1) (assign signs.Equal) 17 (name_use 18 3))) 19)) (more_block_items
    (block_stmt (expr_stmt (some_expr (operation (prefix 20 signs.Star (name_use 21 0)) (assign signs.Equal) 22
    (post (name_use 23 1) 24 signs.PlusPlus))) 25)) (more_block_items (block_stmt (expr_stmt (some_expr (cast 26
    (more_words (basic (record { token = 27; keyword = keywords.Char })) no_words) no_declr 28 (name_use 29 1))) 30))
    (more_block_items (block_stmt (expr_stmt (some_expr (call (name_use 31 2) 32
    (more_exprs (name_use 33 1) (more_exprs (name_use 35 0) no_exprs)) 36)) 37)) (more_block_items (block_stmt
    (expr_stmt (some_expr (cast 38 (more_words (basic (record { token = 39; keyword = keywords.Void })) no_words)
    (some_declr (abs_pointer 40 [] no_declr)) 41 (number_use 42))) 43)) (more_block_items (block_decl
    (decl_declaration (declaration [] (more_words (basic (record { token = 44; keyword = keywords.Int })) no_words)
    (more_init_declrs [] (declr_name 45 4) None [] (some_init 46 (init_braced (init_list 47 (more_init_items no_desigs
    None (init_value (name_use 48 1)) no_init_items) None 49))) no_init_declrs) 50))) no_block_items)))))) 51) ∷ [])

-- int f(int); int f(); int f(int, char *, ...);
abbrev pub program_54 : Program
program_54 =
    program [] [] lattices_1 ((decl_item (decl_declaration
    (declaration [] (more_words (basic (record { token = 0; keyword = keywords.Int })) no_words) (more_init_declrs []
    (params (declr_name 1 0) 2 (more_params (more_words (basic (record { token = 3; keyword = keywords.Int })) no_words)
    no_declr [] no_params) None 4) None [] no_init no_init_declrs) 5))) ∷ (decl_item
    (decl_declaration (declaration [] (more_words (basic (record { token = 6; keyword = keywords.Int })) no_words)
    (more_init_declrs [] (params (declr_name 7 0) 8 no_params None 9) None [] no_init no_init_declrs) 10))) ∷ (decl_item
    (decl_declaration (declaration [] (more_words (basic (record { token = 11; keyword = keywords.Int })) no_words)
    (more_init_declrs [] (params (declr_name 12 0) 13 (more_params
    (more_words (basic (record { token = 14; keyword = keywords.Int })) no_words) no_declr [] (more_params (more_words
    (basic (record { token = 16; keyword = keywords.Char })) no_words) (some_declr (abs_pointer 17 [] no_declr))
    [] no_params)) (Some (record { comma = 18; quals = []; dots = 19 })) 20) None [] no_init no_init_declrs) 21))) ∷ [])

-- $tainted int t; void f(void) { int *p = &($tainted int){ 1 }; (int){ 1 } = t; ($untainted int){ 1 }; (char *){ 0 };
-- (const char *[]){ "a", "b" }; }
abbrev pub program_55 : Program
program_55 =
    program ((0, (0, 1)) ∷ (16, (0, 1)) ∷ (33, (0, 0)) ∷ []) (45 ∷ []) lattices_1
    ((decl_item (decl_declaration (declaration [] (more_words (qualifier (quals.Element 0))
    (more_words (basic (record { token = 1; keyword = keywords.Int })) no_words))
    (more_init_declrs [] (declr_name 2 0) None [] no_init no_init_declrs) 3))) ∷ (function_item []
    (more_words (basic (record { token = 4; keyword = keywords.Void })) no_words) (params (declr_name 5 1) 6
    (more_params (more_words (basic (record { token = 7; keyword = keywords.Void })) no_words) no_declr
    [] no_params) None 8) [] 9 (more_block_items (block_decl (decl_declaration (declaration [] (more_words (basic
    (record { token = 10; keyword = keywords.Int })) no_words) (more_init_declrs [] (pointer 11 [] (declr_name 12 2))
    None [] (some_init 13 (init_value (prefix 14 signs.Ampersand (compound 15 (more_words (qualifier (quals.Element 16))
    (more_words (basic (record { token = 17; keyword = keywords.Int })) no_words)) no_declr 18 (init_list 19
    (more_init_items no_desigs None (init_value (number_use 20)) no_init_items) None 21))))) no_init_declrs) 22)))
    (more_block_items (block_stmt (expr_stmt (some_expr (operation (compound 23 (more_words (basic
    (record { token = 24; keyword = keywords.Int })) no_words) no_declr 25 (init_list 26 (more_init_items no_desigs None
    (init_value (number_use 27)) no_init_items) None 28)) (assign signs.Equal) 29 (name_use 30 0))) 31))
    (more_block_items (block_stmt (expr_stmt (some_expr (compound 32 (more_words (qualifier (quals.Element 33))
    (more_words (basic (record { token = 34; keyword = keywords.Int })) no_words)) no_declr 35 (init_list 36
    (more_init_items no_desigs None (init_value (number_use 37)) no_init_items) None 38))) 39)) (more_block_items
    (block_stmt (expr_stmt (some_expr (compound 40 (more_words (basic (record { token = 41; keyword = keywords.Char }))
    no_words) (some_declr (abs_pointer 42 [] no_declr)) 43 (init_list 44 (more_init_items no_desigs None
    (init_value (number_use 45)) no_init_items) None 46))) 47)) (more_block_items (block_stmt (expr_stmt
    (some_expr (compound 48 (more_words (qualifier (quals.Word (record { token = 49; keyword = keywords.Const })))
    (more_words (basic (record { token = 50; keyword = keywords.Char })) no_words))
    (some_declr (abs_pointer 51 [] (some_declr (abs_array no_declr 52 [] no_size 53)))) 54
    (init_list 55 (more_init_items no_desigs None (init_value (text_use (56 ∷ []))) (more_init_items no_desigs None
    (init_value (text_use (58 ∷ []))) no_init_items)) None 59))) 60)) no_block_items))))) 61) ∷ [])

-- $tainted int t; int x, *p; void f(int *q) { x = t; x += t; p += 1; p -= x; x *= t; p = q; p *= 2; x <<= 0; x |= t; p
-- &= x; p += q; }
abbrev pub program_56 : Program
program_56 =
    program ((0, (0, 1)) ∷ []) (48 ∷ []) lattices_1 ((decl_item (decl_declaration (declaration [] (more_words
    (qualifier (quals.Element 0)) (more_words (basic (record { token = 1; keyword = keywords.Int })) no_words))
    (more_init_declrs [] (declr_name 2 0) None [] no_init no_init_declrs) 3)))
    ∷ (decl_item (decl_declaration (declaration []
    (more_words (basic (record { token = 4; keyword = keywords.Int })) no_words) (more_init_declrs [] (declr_name 5 2)
    None [] no_init (more_init_declrs [] (pointer 7 [] (declr_name 8 1)) None [] no_init no_init_declrs)) 9)))
    ∷ (function_item [] (more_words (basic (record { token = 10; keyword = keywords.Void })) no_words) (params
    (declr_name 11 3) 12 (more_params (more_words (basic (record { token = 13; keyword = keywords.Int })) no_words)
    (some_declr (pointer 14 [] (declr_name 15 4))) [] no_params) None 16) [] 17 (more_block_items (block_stmt
    (expr_stmt (some_expr (operation (name_use 18 2) (assign signs.Equal) 19 (name_use 20 0))) 21)) (more_block_items
    (block_stmt (expr_stmt (some_expr (operation (name_use 22 2) (assign signs.PlusEqual) 23 (name_use 24 0))) 25))
    (more_block_items (block_stmt (expr_stmt
    (some_expr (operation (name_use 26 1) (assign signs.PlusEqual) 27 (number_use 28))) 29)) (more_block_items
    (block_stmt (expr_stmt (some_expr (operation (name_use 30 1) (assign signs.MinusEqual) 31 (name_use 32 2))) 33))
    (more_block_items (block_stmt (expr_stmt (some_expr
    (operation (name_use 34 2) (assign signs.StarEqual) 35 (name_use 36 0))) 37)) (more_block_items (block_stmt
    (expr_stmt (some_expr (operation (name_use 38 1) (assign signs.Equal) 39 (name_use 40 4))) 41)) (more_block_items
    (block_stmt (expr_stmt (some_expr (operation (name_use 42 1) (assign signs.StarEqual) 43 (number_use 44))) 45))
    (more_block_items (block_stmt (expr_stmt (some_expr
    (operation (name_use 46 2) (assign signs.ShiftLeftEqual) 47 (number_use 48))) 49)) (more_block_items (block_stmt
    (expr_stmt (some_expr (operation (name_use 50 2) (assign signs.BarEqual) 51 (name_use 52 0))) 53)) (more_block_items
    (block_stmt (expr_stmt (some_expr (operation (name_use 54 1) (assign signs.AmpersandEqual) 55 (name_use 56 2))) 57))
    (more_block_items (block_stmt (expr_stmt (some_expr
    (operation (name_use 58 1) (assign signs.PlusEqual) 59 (name_use 60 4))) 61)) no_block_items))))))))))) 62) ∷ [])

-- int x, *p, *q; void f(void) { p = p + x; p = x + p; p = p - 1; x = p - q; x = x + x; x = x - 0; 1 + 1; f + 1; "s" +
-- 1; 0 + p; }
abbrev pub program_57 : Program
program_57 =
    program [] (49 ∷ 63 ∷ []) lattices_1 ((decl_item
    (decl_declaration (declaration [] (more_words (basic (record { token = 0; keyword = keywords.Int })) no_words)
    (more_init_declrs [] (declr_name 1 2) None [] no_init (more_init_declrs [] (pointer 3 [] (declr_name 4 1)) None
    [] no_init (more_init_declrs [] (pointer 6 [] (declr_name 7 0)) None [] no_init no_init_declrs))) 8)))
    ∷ (function_item [] (more_words (basic (record { token = 9; keyword = keywords.Void })) no_words) (params
    (declr_name 10 3) 11 (more_params (more_words (basic (record { token = 12; keyword = keywords.Void })) no_words)
    no_declr [] no_params) None 13) [] 14 (more_block_items (block_stmt (expr_stmt (some_expr (operation (name_use 15 1)
    (assign signs.Equal) 16 (operation (name_use 17 1) (binary signs.Plus) 18 (name_use 19 2)))) 20))
    (more_block_items (block_stmt (expr_stmt (some_expr (operation (name_use 21 1) (assign signs.Equal) 22
    (operation (name_use 23 2) (binary signs.Plus) 24 (name_use 25 1)))) 26))
    (more_block_items (block_stmt (expr_stmt (some_expr (operation (name_use 27 1) (assign signs.Equal) 28
    (operation (name_use 29 1) (binary signs.Minus) 30 (number_use 31)))) 32)) (more_block_items
    (block_stmt (expr_stmt (some_expr (operation (name_use 33 2) (assign signs.Equal) 34 (operation (name_use 35 1)
    (binary signs.Minus) 36 (name_use 37 0)))) 38)) (more_block_items (block_stmt (expr_stmt (some_expr (operation
    (name_use 39 2) (assign signs.Equal) 40 (operation (name_use 41 2) (binary signs.Plus) 42 (name_use 43 2)))) 44))
    (more_block_items (block_stmt (expr_stmt (some_expr (operation (name_use 45 2) (assign signs.Equal) 46
    (operation (name_use 47 2) (binary signs.Minus) 48 (number_use 49)))) 50)) (more_block_items (block_stmt (expr_stmt
    (some_expr (operation (number_use 51) (binary signs.Plus) 52 (number_use 53))) 54)) (more_block_items (block_stmt
    (expr_stmt (some_expr (operation (name_use 55 3) (binary signs.Plus) 56 (number_use 57))) 58)) (more_block_items
    (block_stmt (expr_stmt (some_expr (operation (text_use (59 ∷ [])) (binary signs.Plus) 60 (number_use 61))) 62))
    (more_block_items (block_stmt (expr_stmt (some_expr
    (operation (number_use 63) (binary signs.Plus) 64 (name_use 65 1))) 66)) no_block_items)))))))))) 67) ∷ [])

-- typedef $untainted char *U; typedef $kernel int K; $tainted char *$user p; U q; K k; void f(void) { q = (U)p; k =
-- (K)*q; (U *)&p; }
abbrev pub program_58 : Program
program_58 =
    program ((1, (0, 0)) ∷ (7, (1, 0)) ∷ (11, (0, 1)) ∷ (14, (1, 1)) ∷ []) [] lattices_5 ((decl_item (decl_declaration
    (declaration [] (more_words (storage (record { token = 0; keyword = keywords.Typedef })) (more_words
    (qualifier (quals.Element 1)) (more_words (basic (record { token = 2; keyword = keywords.Char })) no_words)))
    (more_init_declrs [] (pointer 3 [] (declr_name 4 0)) None [] no_init no_init_declrs) 5)))
    ∷ (decl_item (decl_declaration
    (declaration [] (more_words (storage (record { token = 6; keyword = keywords.Typedef })) (more_words
    (qualifier (quals.Element 7)) (more_words (basic (record { token = 8; keyword = keywords.Int })) no_words)))
    (more_init_declrs [] (declr_name 9 1) None [] no_init no_init_declrs) 10)))
    ∷ (decl_item (decl_declaration (declaration [] (more_words (qualifier (quals.Element 11))
    (more_words (basic (record { token = 12; keyword = keywords.Char })) no_words)) (more_init_declrs []
    (pointer 13 ((pointer_words.Qual (quals.Element 14)) ∷ []) (declr_name 15 2)) None [] no_init no_init_declrs) 16)))
    ∷ (decl_item (decl_declaration (declaration [] (more_words (typedef_name (record { token = 17; name = 0 }))
    no_words) (more_init_declrs [] (declr_name 18 3) None [] no_init no_init_declrs) 19))) ∷ (decl_item
    (decl_declaration (declaration [] (more_words (typedef_name (record { token = 20; name = 1 })) no_words)
    (more_init_declrs [] (declr_name 21 4) None [] no_init no_init_declrs) 22))) ∷ (function_item [] (more_words
    (basic (record { token = 23; keyword = keywords.Void })) no_words) (params (declr_name 24 5) 25 (more_params
    (more_words (basic (record { token = 26; keyword = keywords.Void })) no_words) no_declr [] no_params) None 27) [] 28
    (more_block_items (block_stmt (expr_stmt (some_expr (operation (name_use 29 3) (assign signs.Equal) 30
    (cast 31 (more_words (typedef_name (record { token = 32; name = 0 })) no_words) no_declr 33 (name_use 34 2)))) 35))
    (more_block_items (block_stmt (expr_stmt (some_expr (operation (name_use 36 4) (assign signs.Equal) 37
    (cast 38 (more_words (typedef_name (record { token = 39; name = 1 })) no_words) no_declr 40
    (prefix 41 signs.Star (name_use 42 3))))) 43)) (more_block_items (block_stmt (expr_stmt (some_expr (cast 44
    (more_words (typedef_name (record { token = 45; name = 0 })) no_words) (some_declr (abs_pointer 46 [] no_declr)) 47
    (prefix 48 signs.Ampersand (name_use 49 2)))) 50)) no_block_items))) 51) ∷ [])

-- int x, *p; char c; void f(void) { x = -x + ~c; x = +c; x = !p; x = !x; -1; -p; ~f; }
abbrev pub program_59 : Program
program_59 =
    program [] [] lattices_1 ((decl_item (decl_declaration (declaration [] (more_words
    (basic (record { token = 0; keyword = keywords.Int })) no_words) (more_init_declrs [] (declr_name 1 1) None
    [] no_init (more_init_declrs [] (pointer 3 [] (declr_name 4 0)) None [] no_init no_init_declrs)) 5))) ∷ (decl_item
    (decl_declaration (declaration [] (more_words (basic (record { token = 6; keyword = keywords.Char })) no_words)
    (more_init_declrs [] (declr_name 7 2) None [] no_init no_init_declrs) 8))) ∷ (function_item [] (more_words
    (basic (record { token = 9; keyword = keywords.Void })) no_words) (params (declr_name 10 3) 11 (more_params
    (more_words (basic (record { token = 12; keyword = keywords.Void })) no_words) no_declr [] no_params) None 13) [] 14
    (more_block_items (block_stmt (expr_stmt (some_expr (operation (name_use 15 1) (assign signs.Equal) 16 (operation
    (prefix 17 signs.Minus (name_use 18 1)) (binary signs.Plus) 19 (prefix 20 signs.Tilde (name_use 21 2))))) 22))
    (more_block_items (block_stmt (expr_stmt (some_expr (operation (name_use 23 1) (assign signs.Equal) 24
    (prefix 25 signs.Plus (name_use 26 2)))) 27)) (more_block_items (block_stmt (expr_stmt (some_expr (operation
    (name_use 28 1) (assign signs.Equal) 29 (prefix 30 signs.Bang (name_use 31 0)))) 32)) (more_block_items (block_stmt
    (expr_stmt (some_expr (operation (name_use 33 1) (assign signs.Equal) 34 (prefix 35 signs.Bang (name_use 36 1))))
    37)) (more_block_items (block_stmt (expr_stmt (some_expr (prefix 38 signs.Minus (number_use 39))) 40))
    (more_block_items (block_stmt (expr_stmt (some_expr (prefix 41 signs.Minus (name_use 42 0))) 43)) (more_block_items
    (block_stmt (expr_stmt (some_expr (prefix 44 signs.Tilde (name_use 45 3))) 46)) no_block_items))))))) 47) ∷ [])

-- int f(char *$user s, ...) { __builtin_va_list ap; __builtin_va_start(ap, s); return *__builtin_va_arg(ap, char
-- *$user) + s[0] + 1[s] + *(s + 1); }
abbrev pub program_60 : Program
program_60 =
    program ((5, (0, 1)) ∷ (29, (0, 1)) ∷ []) (34 ∷ []) lattices_3
    ((function_item [] (more_words (basic (record { token = 0; keyword = keywords.Int })) no_words) (params
    (declr_name 1 0) 2 (more_params (more_words (basic (record { token = 3; keyword = keywords.Char })) no_words)
    (some_declr (pointer 4 ((pointer_words.Qual (quals.Element 5)) ∷ []) (declr_name 6 1))) [] no_params)
    (Some (record { comma = 7; quals = []; dots = 8 })) 9) [] 10 (more_block_items (block_decl
    (decl_declaration (declaration [] (more_words (basic (record { token = 11; keyword = keywords.BaseWord })) no_words)
    (more_init_declrs [] (declr_name 12 2) None [] no_init no_init_declrs) 13)))
    (more_block_items (block_stmt (expr_stmt (some_expr (va_start 14 15 (name_use 16 2) 17 (name_use 18 1) 19)) 20))
    (more_block_items (block_stmt (return_stmt 21 (some_expr (operation (operation (operation (prefix 22 signs.Star
    (va_arg 23 24 (name_use 25 2) 26 (more_words (basic (record { token = 27; keyword = keywords.Char })) no_words)
    (some_declr (abs_pointer 28 ((pointer_words.Qual (quals.Element 29)) ∷ []) no_declr)) 30)) (binary signs.Plus) 31
    (index (name_use 32 1) 33 (number_use 34) 35)) (binary signs.Plus) 36 (index (number_use 37) 38 (name_use 39 1) 40))
    (binary signs.Plus) 41 (prefix 42 signs.Star
    (paren 43 (operation (name_use 44 1) (binary signs.Plus) 45 (number_use 46)) 47)))) 48)) no_block_items))) 49) ∷ [])

-- int x, y, *p; void f(void) { x = x & y; x | y; x ^ 1; x << y; x >> 2; x * y; x / 3; x % y; p & x; 0 | x; x * 0; }
abbrev pub program_61 : Program
program_61 =
    program [] (52 ∷ 58 ∷ []) lattices_1 ((decl_item
    (decl_declaration (declaration [] (more_words (basic (record { token = 0; keyword = keywords.Int })) no_words)
    (more_init_declrs [] (declr_name 1 2) None [] no_init (more_init_declrs [] (declr_name 3 1) None [] no_init
    (more_init_declrs [] (pointer 5 [] (declr_name 6 0)) None [] no_init no_init_declrs))) 7))) ∷ (function_item []
    (more_words (basic (record { token = 8; keyword = keywords.Void })) no_words) (params (declr_name 9 3) 10
    (more_params (more_words (basic (record { token = 11; keyword = keywords.Void })) no_words) no_declr [] no_params)
    None 12) [] 13 (more_block_items (block_stmt (expr_stmt (some_expr (operation (name_use 14 2) (assign signs.Equal)
    15 (operation (name_use 16 2) (binary signs.Ampersand) 17 (name_use 18 1)))) 19)) (more_block_items (block_stmt
    (expr_stmt (some_expr (operation (name_use 20 2) (binary signs.Bar) 21 (name_use 22 1))) 23)) (more_block_items
    (block_stmt (expr_stmt (some_expr (operation (name_use 24 2) (binary signs.Caret) 25 (number_use 26))) 27))
    (more_block_items (block_stmt (expr_stmt (some_expr (operation (name_use 28 2) (binary signs.ShiftLeft) 29
    (name_use 30 1))) 31)) (more_block_items (block_stmt (expr_stmt (some_expr
    (operation (name_use 32 2) (binary signs.ShiftRight) 33 (number_use 34))) 35)) (more_block_items (block_stmt
    (expr_stmt (some_expr (operation (name_use 36 2) (binary signs.Star) 37 (name_use 38 1))) 39)) (more_block_items
    (block_stmt (expr_stmt (some_expr (operation (name_use 40 2) (binary signs.Slash) 41 (number_use 42))) 43))
    (more_block_items (block_stmt (expr_stmt (some_expr (operation (name_use 44 2) (binary signs.Percent) 45
    (name_use 46 1))) 47)) (more_block_items (block_stmt (expr_stmt (some_expr (operation (name_use 48 0)
    (binary signs.Ampersand) 49 (name_use 50 2))) 51)) (more_block_items (block_stmt (expr_stmt (some_expr (operation
    (number_use 52) (binary signs.Bar) 53 (name_use 54 2))) 55)) (more_block_items (block_stmt (expr_stmt (some_expr
    (operation (name_use 56 2) (binary signs.Star) 57 (number_use 58))) 59)) no_block_items))))))))))) 60) ∷ [])

-- $tainted int t; int x, *p; void *v; void f(int *q) { p = x ? p : q; x = x ? t : 1; p = x ? 0 : q; p = x ? q : 0; p =
-- x ? (void *)0 : q; }
abbrev pub program_62 : Program
program_62 =
    program ((0, (0, 1)) ∷ []) (42 ∷ 52 ∷ 62 ∷ []) lattices_1 ((decl_item (decl_declaration (declaration [] (more_words
    (qualifier (quals.Element 0)) (more_words (basic (record { token = 1; keyword = keywords.Int })) no_words))
    (more_init_declrs [] (declr_name 2 0) None [] no_init no_init_declrs) 3))) ∷ (decl_item
    (decl_declaration (declaration [] (more_words (basic (record { token = 4; keyword = keywords.Int })) no_words)
    (more_init_declrs [] (declr_name 5 2) None [] no_init
    (more_init_declrs [] (pointer 7 [] (declr_name 8 1)) None [] no_init no_init_declrs)) 9))) ∷ (decl_item
    (decl_declaration (declaration [] (more_words (basic (record { token = 10; keyword = keywords.Void })) no_words)
    (more_init_declrs [] (pointer 11 [] (declr_name 12 3)) None [] no_init no_init_declrs) 13)))
    ∷ (function_item [] (more_words (basic (record { token = 14; keyword = keywords.Void })) no_words) (params
    (declr_name 15 4) 16 (more_params (more_words (basic (record { token = 17; keyword = keywords.Int })) no_words)
    (some_declr (pointer 18 [] (declr_name 19 5))) [] no_params) None 20) [] 21
    (more_block_items (block_stmt (expr_stmt (some_expr (operation (name_use 22 1) (assign signs.Equal) 23
    (operation (name_use 24 2) (cond (some_expr (name_use 26 1)) 27) 25 (name_use 28 5)))) 29))
    (more_block_items (block_stmt (expr_stmt (some_expr (operation (name_use 30 2) (assign signs.Equal) 31
    (operation (name_use 32 2) (cond (some_expr (name_use 34 0)) 35) 33 (number_use 36)))) 37))
    (more_block_items (block_stmt (expr_stmt (some_expr (operation (name_use 38 1) (assign signs.Equal) 39
    (operation (name_use 40 2) (cond (some_expr (number_use 42)) 43) 41 (name_use 44 5)))) 45))
    (more_block_items (block_stmt (expr_stmt (some_expr (operation (name_use 46 1) (assign signs.Equal) 47
    (operation (name_use 48 2) (cond (some_expr (name_use 50 5)) 51) 49 (number_use 52)))) 53)) (more_block_items
    (block_stmt (expr_stmt (some_expr (operation (name_use 54 1) (assign signs.Equal) 55 (operation (name_use 56 2)
    (cond (some_expr (cast 58 (more_words (basic (record { token = 59; keyword = keywords.Void })) no_words) (some_declr
    (abs_pointer 60 [] no_declr)) 61 (number_use 62))) 63) 57 (name_use 64 5)))) 65)) no_block_items))))) 66) ∷ [])

-- struct s { int (*cb)(int, ...); int a; } v; int cb(int x, ...) { return x; } void f(struct s *p) { p->cb = cb;
-- v.cb(1, p, v); (*p->cb)(v.a, 2); }
abbrev pub program_63 : Program
program_63 =
    program [] [] lattices_1 ((decl_item (decl_declaration (declaration [] (more_words (struct_type
    (record { token = 0; keyword = keywords.Struct }) [] (Some (record { token = 1; name = 2 })) (some_body 2
    (more_struct_items (member [] (more_words (basic (record { token = 3; keyword = keywords.Int })) no_words)
    (more_mem_declrs [] (named (params (declr_paren 4 [] (pointer 5 [] (declr_name 6 0)) 7) 8
    (more_params (more_words (basic (record { token = 9; keyword = keywords.Int })) no_words) no_declr [] no_params)
    (Some (record { comma = 10; quals = []; dots = 11 })) 12) no_value []) no_mem_declrs) 13)
    (more_struct_items (member [] (more_words (basic (record { token = 14; keyword = keywords.Int })) no_words)
    (more_mem_declrs [] (named (declr_name 15 1) no_value []) no_mem_declrs) 16) no_struct_items)) 17)) no_words)
    (more_init_declrs [] (declr_name 18 3) None [] no_init no_init_declrs) 19)))
    ∷ (function_item [] (more_words (basic (record { token = 20; keyword = keywords.Int })) no_words) (params
    (declr_name 21 0) 22 (more_params (more_words (basic (record { token = 23; keyword = keywords.Int })) no_words)
    (some_declr (declr_name 24 4)) [] no_params) (Some (record { comma = 25; quals = []; dots = 26 })) 27) [] 28
    (more_block_items (block_stmt (return_stmt 29 (some_expr (name_use 30 4)) 31)) no_block_items) 32)
    ∷ (function_item [] (more_words (basic (record { token = 33; keyword = keywords.Void })) no_words) (params
    (declr_name 34 5) 35 (more_params (more_words (struct_type (record { token = 36; keyword = keywords.Struct }) []
    (Some (record { token = 37; name = 2 })) no_body) no_words) (some_declr (pointer 38 [] (declr_name 39 6)))
    [] no_params) None 40) [] 41 (more_block_items (block_stmt (expr_stmt (some_expr (operation
    (arrow (name_use 42 6) 43 (record { token = 44; name = 0 })) (assign signs.Equal) 45 (name_use 46 0))) 47))
    (more_block_items (block_stmt (expr_stmt (some_expr (call (dot (name_use 48 3) 49 (record { token = 50; name = 0 }))
    51 (more_exprs (number_use 52) (more_exprs (name_use 54 6) (more_exprs (name_use 56 3) no_exprs))) 57)) 58))
    (more_block_items (block_stmt (expr_stmt (some_expr (call (paren 59 (prefix 60 signs.Star (arrow (name_use 61 6) 62
    (record { token = 63; name = 0 }))) 64) 65 (more_exprs (dot (name_use 66 3) 67 (record { token = 68; name = 1 }))
    (more_exprs (number_use 70) no_exprs)) 71)) 72)) no_block_items))) 73) ∷ [])

-- int id(int x) { return x; } int (*fp)(int) = id; int (*gp)(int) = &id; int y = id(1); int *q = &y;
abbrev pub program_64 : Program
program_64 =
    program [] [] lattices_1
    ((function_item [] (more_words (basic (record { token = 0; keyword = keywords.Int })) no_words)
    (params (declr_name 1 0) 2 (more_params (more_words (basic (record { token = 3; keyword = keywords.Int })) no_words)
    (some_declr (declr_name 4 1)) [] no_params) None 5) [] 6
    (more_block_items (block_stmt (return_stmt 7 (some_expr (name_use 8 1)) 9)) no_block_items) 10) ∷ (decl_item
    (decl_declaration (declaration [] (more_words (basic (record { token = 11; keyword = keywords.Int })) no_words)
    (more_init_declrs [] (params (declr_paren 12 [] (pointer 13 [] (declr_name 14 2)) 15) 16 (more_params
    (more_words (basic (record { token = 17; keyword = keywords.Int })) no_words) no_declr [] no_params) None 18) None
    [] (some_init 19 (init_value (name_use 20 0))) no_init_declrs) 21))) ∷ (decl_item
    (decl_declaration (declaration [] (more_words (basic (record { token = 22; keyword = keywords.Int })) no_words)
    (more_init_declrs [] (params (declr_paren 23 [] (pointer 24 [] (declr_name 25 3)) 26) 27 (more_params
    (more_words (basic (record { token = 28; keyword = keywords.Int })) no_words) no_declr [] no_params) None 29) None
    [] (some_init 30 (init_value (prefix 31 signs.Ampersand (name_use 32 0)))) no_init_declrs) 33))) ∷ (decl_item
    (decl_declaration (declaration [] (more_words (basic (record { token = 34; keyword = keywords.Int })) no_words)
    (more_init_declrs [] (declr_name 35 4) None [] (some_init 36
    (init_value (call (name_use 37 0) 38 (more_exprs (number_use 39) no_exprs) 40))) no_init_declrs) 41))) ∷ (decl_item
    (decl_declaration (declaration [] (more_words (basic (record { token = 42; keyword = keywords.Int })) no_words)
    (more_init_declrs [] (pointer 43 [] (declr_name 44 5)) None []
    (some_init 45 (init_value (prefix 46 signs.Ampersand (name_use 47 4)))) no_init_declrs) 48))) ∷ [])

-- int f(int *p, int a); int f(int p); int f(int **p, ...); int *f();
abbrev pub program_65 : Program
program_65 =
    program [] [] lattices_1 ((decl_item (decl_declaration
    (declaration [] (more_words (basic (record { token = 0; keyword = keywords.Int })) no_words) (more_init_declrs []
    (params (declr_name 1 0) 2 (more_params (more_words (basic (record { token = 3; keyword = keywords.Int })) no_words)
    (some_declr (pointer 4 [] (declr_name 5 2))) [] (more_params
    (more_words (basic (record { token = 7; keyword = keywords.Int })) no_words) (some_declr (declr_name 8 1))
    [] no_params)) None 9) None [] no_init no_init_declrs) 10))) ∷ (decl_item (decl_declaration (declaration []
    (more_words (basic (record { token = 11; keyword = keywords.Int })) no_words) (more_init_declrs [] (params
    (declr_name 12 0) 13 (more_params (more_words (basic (record { token = 14; keyword = keywords.Int })) no_words)
    (some_declr (declr_name 15 2)) [] no_params) None 16) None [] no_init no_init_declrs) 17)))
    ∷ (decl_item (decl_declaration (declaration []
    (more_words (basic (record { token = 18; keyword = keywords.Int })) no_words) (more_init_declrs [] (params
    (declr_name 19 0) 20 (more_params (more_words (basic (record { token = 21; keyword = keywords.Int })) no_words)
    (some_declr (pointer 22 [] (pointer 23 [] (declr_name 24 2)))) [] no_params)
    (Some (record { comma = 25; quals = []; dots = 26 })) 27) None [] no_init no_init_declrs) 28)))
    ∷ (decl_item (decl_declaration
    (declaration [] (more_words (basic (record { token = 29; keyword = keywords.Int })) no_words) (more_init_declrs []
    (pointer 30 [] (params (declr_name 31 0) 32 no_params None 33)) None [] no_init no_init_declrs) 34))) ∷ [])

-- int x, *p; void f(int *q) { p = p ?: q; x = x ?: 1; x ?: 0; 0 ?: x; (void *)0 ?: p; f ?: f; }
abbrev pub program_66 : Program
program_66 =
    program [] (31 ∷ 33 ∷ 42 ∷ []) lattices_1 ((decl_item (decl_declaration (declaration []
    (more_words (basic (record { token = 0; keyword = keywords.Int })) no_words) (more_init_declrs [] (declr_name 1 1)
    None [] no_init (more_init_declrs [] (pointer 3 [] (declr_name 4 0)) None [] no_init no_init_declrs)) 5)))
    ∷ (function_item [] (more_words (basic (record { token = 6; keyword = keywords.Void })) no_words)
    (params (declr_name 7 2) 8 (more_params (more_words (basic (record { token = 9; keyword = keywords.Int })) no_words)
    (some_declr (pointer 10 [] (declr_name 11 3))) [] no_params) None 12) [] 13
    (more_block_items (block_stmt (expr_stmt (some_expr (operation (name_use 14 0) (assign signs.Equal) 15
    (operation (name_use 16 0) (cond no_expr 18) 17 (name_use 19 3)))) 20))
    (more_block_items (block_stmt (expr_stmt (some_expr (operation (name_use 21 1) (assign signs.Equal) 22
    (operation (name_use 23 1) (cond no_expr 25) 24 (number_use 26)))) 27)) (more_block_items (block_stmt
    (expr_stmt (some_expr (operation (name_use 28 1) (cond no_expr 30) 29 (number_use 31))) 32)) (more_block_items
    (block_stmt (expr_stmt (some_expr (operation (number_use 33) (cond no_expr 35) 34 (name_use 36 1))) 37))
    (more_block_items (block_stmt (expr_stmt (some_expr (operation (cast 38 (more_words
    (basic (record { token = 39; keyword = keywords.Void })) no_words) (some_declr (abs_pointer 40 [] no_declr)) 41
    (number_use 42)) (cond no_expr 44) 43 (name_use 45 0))) 46)) (more_block_items (block_stmt (expr_stmt
    (some_expr (operation (name_use 47 2) (cond no_expr 49) 48 (name_use 50 2))) 51)) no_block_items)))))) 52) ∷ [])

-- int x; int *f(int **p) { *p = &x; return *p = f(p), x ? *p : f(0); }
abbrev pub program_67 : Program
program_67 =
    program [] (35 ∷ []) lattices_1 ((decl_item
    (decl_declaration (declaration [] (more_words (basic (record { token = 0; keyword = keywords.Int })) no_words)
    (more_init_declrs [] (declr_name 1 0) None [] no_init no_init_declrs) 2)))
    ∷ (function_item [] (more_words (basic (record { token = 3; keyword = keywords.Int })) no_words) (pointer 4 []
    (params (declr_name 5 1) 6 (more_params (more_words (basic (record { token = 7; keyword = keywords.Int })) no_words)
    (some_declr (pointer 8 [] (pointer 9 [] (declr_name 10 2)))) [] no_params) None 11)) [] 12
    (more_block_items (block_stmt (expr_stmt (some_expr (operation (prefix 13 signs.Star (name_use 14 2))
    (assign signs.Equal) 15 (prefix 16 signs.Ampersand (name_use 17 0)))) 18)) (more_block_items
    (block_stmt (return_stmt 19 (some_expr (operation (operation (prefix 20 signs.Star (name_use 21 2))
    (assign signs.Equal) 22 (call (name_use 23 1) 24 (more_exprs (name_use 25 2) no_exprs) 26)) comma 27
    (operation (name_use 28 0) (cond (some_expr (prefix 30 signs.Star (name_use 31 2))) 32) 29
    (call (name_use 33 1) 34 (more_exprs (number_use 35) no_exprs) 36)))) 37)) no_block_items)) 38) ∷ [])

-- $tainted int t; int f(int x, char *p); void g(char *q) { f(t, q); f(0, 0); f((0), (void *)0); f(1, (char *)0);
-- f((void *)(0), ((void *)0)); }
abbrev pub program_68 : Program
program_68 =
    program ((0, (0, 1)) ∷ []) (32 ∷ 34 ∷ 40 ∷ 47 ∷ 58 ∷ 68 ∷ 76 ∷ []) lattices_1
    ((decl_item (decl_declaration (declaration [] (more_words (qualifier (quals.Element 0))
    (more_words (basic (record { token = 1; keyword = keywords.Int })) no_words))
    (more_init_declrs [] (declr_name 2 0) None [] no_init no_init_declrs) 3))) ∷ (decl_item
    (decl_declaration (declaration [] (more_words (basic (record { token = 4; keyword = keywords.Int })) no_words)
    (more_init_declrs [] (params (declr_name 5 1) 6 (more_params
    (more_words (basic (record { token = 7; keyword = keywords.Int })) no_words) (some_declr (declr_name 8 3)) []
    (more_params (more_words (basic (record { token = 10; keyword = keywords.Char })) no_words)
    (some_declr (pointer 11 [] (declr_name 12 2))) [] no_params)) None 13) None [] no_init no_init_declrs) 14)))
    ∷ (function_item [] (more_words (basic (record { token = 15; keyword = keywords.Void })) no_words) (params
    (declr_name 16 4) 17 (more_params (more_words (basic (record { token = 18; keyword = keywords.Char })) no_words)
    (some_declr (pointer 19 [] (declr_name 20 5))) [] no_params) None 21) [] 22 (more_block_items (block_stmt (expr_stmt
    (some_expr (call (name_use 23 1) 24 (more_exprs (name_use 25 0) (more_exprs (name_use 27 5) no_exprs)) 28)) 29))
    (more_block_items (block_stmt (expr_stmt (some_expr (call (name_use 30 1) 31
    (more_exprs (number_use 32) (more_exprs (number_use 34) no_exprs)) 35)) 36)) (more_block_items
    (block_stmt (expr_stmt (some_expr (call (name_use 37 1) 38 (more_exprs (paren 39 (number_use 40) 41)
    (more_exprs (cast 43 (more_words (basic (record { token = 44; keyword = keywords.Void })) no_words)
    (some_declr (abs_pointer 45 [] no_declr)) 46 (number_use 47)) no_exprs)) 48)) 49)) (more_block_items (block_stmt
    (expr_stmt (some_expr (call (name_use 50 1) 51 (more_exprs (number_use 52) (more_exprs (cast 54 (more_words
    (basic (record { token = 55; keyword = keywords.Char })) no_words) (some_declr (abs_pointer 56 [] no_declr)) 57
    (number_use 58)) no_exprs)) 59)) 60)) (more_block_items (block_stmt (expr_stmt (some_expr (call (name_use 61 1) 62
    (more_exprs (cast 63 (more_words (basic (record { token = 64; keyword = keywords.Void })) no_words)
    (some_declr (abs_pointer 65 [] no_declr)) 66 (paren 67 (number_use 68) 69))
    (more_exprs (paren 71 (cast 72 (more_words (basic (record { token = 73; keyword = keywords.Void })) no_words)
    (some_declr (abs_pointer 74 [] no_declr)) 75 (number_use 76)) 77) no_exprs)) 78)) 79)) no_block_items))))) 80) ∷ [])

-- $tainted int t; int f(int x, ...); struct s { int a; } v; void g(char *q) { f(t, q, t, v, 0, g(q), (void)1, &q, f,
-- 1); f(1); }
abbrev pub program_69 : Program
program_69 =
    program ((0, (0, 1)) ∷ []) (40 ∷ []) lattices_1 ((decl_item (decl_declaration (declaration [] (more_words
    (qualifier (quals.Element 0)) (more_words (basic (record { token = 1; keyword = keywords.Int })) no_words))
    (more_init_declrs [] (declr_name 2 0) None [] no_init no_init_declrs) 3))) ∷ (decl_item (decl_declaration
    (declaration [] (more_words (basic (record { token = 4; keyword = keywords.Int })) no_words) (more_init_declrs []
    (params (declr_name 5 1) 6 (more_params (more_words (basic (record { token = 7; keyword = keywords.Int })) no_words)
    (some_declr (declr_name 8 2)) [] no_params) (Some (record { comma = 9; quals = []; dots = 10 })) 11) None
    [] no_init no_init_declrs) 12))) ∷ (decl_item (decl_declaration (declaration [] (more_words (struct_type
    (record { token = 13; keyword = keywords.Struct }) [] (Some (record { token = 14; name = 4 })) (some_body 15
    (more_struct_items (member [] (more_words (basic (record { token = 16; keyword = keywords.Int })) no_words)
    (more_mem_declrs [] (named (declr_name 17 3) no_value []) no_mem_declrs) 18) no_struct_items) 19)) no_words)
    (more_init_declrs [] (declr_name 20 5) None [] no_init no_init_declrs) 21)))
    ∷ (function_item [] (more_words (basic (record { token = 22; keyword = keywords.Void })) no_words) (params
    (declr_name 23 6) 24 (more_params (more_words (basic (record { token = 25; keyword = keywords.Char })) no_words)
    (some_declr (pointer 26 [] (declr_name 27 7))) [] no_params) None 28) [] 29
    (more_block_items (block_stmt (expr_stmt (some_expr (call (name_use 30 1) 31
    (more_exprs (name_use 32 0) (more_exprs (name_use 34 7) (more_exprs (name_use 36 0) (more_exprs (name_use 38 5)
    (more_exprs (number_use 40) (more_exprs (call (name_use 42 6) 43 (more_exprs (name_use 44 7) no_exprs) 45)
    (more_exprs (cast 47 (more_words (basic (record { token = 48; keyword = keywords.Void })) no_words) no_declr 49
    (number_use 50)) (more_exprs (prefix 52 signs.Ampersand (name_use 53 7)) (more_exprs (name_use 55 1)
    (more_exprs (number_use 57) no_exprs)))))))))) 58)) 59)) (more_block_items (block_stmt (expr_stmt
    (some_expr (call (name_use 60 1) 61 (more_exprs (number_use 62) no_exprs) 63)) 64)) no_block_items)) 65) ∷ [])

-- int x, *p; void *v; void f(int *q) { v = x ? v : p; v = x ? p : v; x ? v : x; x ? x : v; x ? v : v; x ? q : x; x ? x
-- : q; }
abbrev pub program_70 : Program
program_70 =
    program [] [] lattices_1 ((decl_item (decl_declaration (declaration [] (more_words
    (basic (record { token = 0; keyword = keywords.Int })) no_words) (more_init_declrs [] (declr_name 1 1) None
    [] no_init (more_init_declrs [] (pointer 3 [] (declr_name 4 0)) None [] no_init no_init_declrs)) 5))) ∷ (decl_item
    (decl_declaration (declaration [] (more_words (basic (record { token = 6; keyword = keywords.Void })) no_words)
    (more_init_declrs [] (pointer 7 [] (declr_name 8 2)) None [] no_init no_init_declrs) 9)))
    ∷ (function_item [] (more_words (basic (record { token = 10; keyword = keywords.Void })) no_words) (params
    (declr_name 11 3) 12 (more_params (more_words (basic (record { token = 13; keyword = keywords.Int })) no_words)
    (some_declr (pointer 14 [] (declr_name 15 4))) [] no_params) None 16) [] 17
    (more_block_items (block_stmt (expr_stmt (some_expr (operation (name_use 18 2) (assign signs.Equal) 19
    (operation (name_use 20 1) (cond (some_expr (name_use 22 2)) 23) 21 (name_use 24 0)))) 25))
    (more_block_items (block_stmt (expr_stmt (some_expr (operation (name_use 26 2) (assign signs.Equal) 27 (operation
    (name_use 28 1) (cond (some_expr (name_use 30 0)) 31) 29 (name_use 32 2)))) 33)) (more_block_items (block_stmt
    (expr_stmt (some_expr (operation (name_use 34 1) (cond (some_expr (name_use 36 2)) 37) 35 (name_use 38 1))) 39))
    (more_block_items (block_stmt (expr_stmt (some_expr (operation (name_use 40 1)
    (cond (some_expr (name_use 42 1)) 43) 41 (name_use 44 2))) 45)) (more_block_items (block_stmt
    (expr_stmt (some_expr (operation (name_use 46 1) (cond (some_expr (name_use 48 2)) 49) 47 (name_use 50 2))) 51))
    (more_block_items (block_stmt (expr_stmt (some_expr (operation (name_use 52 1) (cond (some_expr (name_use 54 4)) 55)
    53 (name_use 56 1))) 57)) (more_block_items (block_stmt (expr_stmt (some_expr (operation (name_use 58 1)
    (cond (some_expr (name_use 60 1)) 61) 59 (name_use 62 4))) 63)) no_block_items))))))) 64) ∷ [])

-- int f(int x, ...), (*p)(int); void g(void) { p = f; int (*q)(int, int *, ...) = f; q = p; p = (int (*)(int, int))q; }
abbrev pub program_71 : Program
program_71 =
    program [] [] lattices_1 ((decl_item (decl_declaration
    (declaration [] (more_words (basic (record { token = 0; keyword = keywords.Int })) no_words) (more_init_declrs []
    (params (declr_name 1 1) 2 (more_params (more_words (basic (record { token = 3; keyword = keywords.Int })) no_words)
    (some_declr (declr_name 4 2)) [] no_params) (Some (record { comma = 5; quals = []; dots = 6 })) 7) None [] no_init
    (more_init_declrs [] (params (declr_paren 9 [] (pointer 10 [] (declr_name 11 0)) 12) 13 (more_params
    (more_words (basic (record { token = 14; keyword = keywords.Int })) no_words) no_declr [] no_params) None 15) None
    [] no_init no_init_declrs)) 16)))
    ∷ (function_item [] (more_words (basic (record { token = 17; keyword = keywords.Void })) no_words) (params
    (declr_name 18 3) 19 (more_params (more_words (basic (record { token = 20; keyword = keywords.Void })) no_words)
    no_declr [] no_params) None 21) [] 22 (more_block_items (block_stmt (expr_stmt
    (some_expr (operation (name_use 23 0) (assign signs.Equal) 24 (name_use 25 1))) 26)) (more_block_items (block_decl
    (decl_declaration (declaration [] (more_words (basic (record { token = 27; keyword = keywords.Int })) no_words)
    (more_init_declrs [] (params (declr_paren 28 [] (pointer 29 [] (declr_name 30 4)) 31) 32
    (more_params (more_words (basic (record { token = 33; keyword = keywords.Int })) no_words) no_declr []
    (more_params (more_words (basic (record { token = 35; keyword = keywords.Int })) no_words)
    (some_declr (abs_pointer 36 [] no_declr)) [] no_params)) (Some (record { comma = 37; quals = []; dots = 38 })) 39)
    None [] (some_init 40 (init_value (name_use 41 1))) no_init_declrs) 42))) (more_block_items
    (block_stmt (expr_stmt (some_expr (operation (name_use 43 4) (assign signs.Equal) 44 (name_use 45 0))) 46))
    (more_block_items (block_stmt (expr_stmt (some_expr (operation (name_use 47 0) (assign signs.Equal) 48
    (cast 49 (more_words (basic (record { token = 50; keyword = keywords.Int })) no_words)
    (some_declr (abs_params (some_declr (abs_paren 51 [] (abs_pointer 52 [] no_declr) 53)) 54
    (more_params (more_words (basic (record { token = 55; keyword = keywords.Int })) no_words) no_declr [] (more_params
    (more_words (basic (record { token = 57; keyword = keywords.Int })) no_words) no_declr [] no_params)) None 58)) 59
    (name_use 60 4)))) 61)) no_block_items)))) 62) ∷ [])

-- what the programs 1 to 12 give
abbrev pub Group1 : Type 0
Group1 =
    Gives program_1 [] [] (Nobody ∷ Nobody ∷ [])
    × Gives program_2 [] [] (Nobody ∷ (Function 0) ∷ (Function 0) ∷ (Function 0) ∷ Nobody ∷ (Function 1) ∷ (Function 1)
    ∷ (Function 1) ∷ Nobody ∷ [])
    × Gives program_3 [] [] ((Function 0) ∷ (Function 0) ∷ (Function 0) ∷ (Function 1) ∷ (Function 1) ∷ (Function 1)
    ∷ (Function 0) ∷ (Function 0) ∷ [])
    × Gives program_4 (((Le 2 8), (1, 6)) ∷ []) [] ((Function 0) ∷ (Function 0) ∷ (Function 0) ∷ (Function 0)
    ∷ (Function 0) ∷ (Function 0) ∷ (Function 0) ∷ (Function 0) ∷ (Function 0) ∷ (Function 0) ∷ [])
    × Gives program_5 (((Const 0 1 1), (1, 0)) ∷ []) []
    (Nobody ∷ Nobody ∷ (Function 0) ∷ (Function 0) ∷ (Function 0) ∷ (Function 0) ∷ [])
    × Gives program_6 (((Le 10 1), (1, 14)) ∷ []) [] (Nobody ∷ Nobody ∷ Nobody ∷ Nobody ∷ Nobody ∷ Nobody ∷ Nobody
    ∷ (Function 0) ∷ (Function 0) ∷ (Function 0) ∷ (Function 0) ∷ (Function 0) ∷ (Function 0) ∷ (Function 0)
    ∷ (Function 0) ∷ (Function 0) ∷ (Function 0) ∷ (Function 0) ∷ (Function 0) ∷ (Function 0) ∷ (Function 0) ∷ [])
    × Gives program_7 (((Const 0 1 1), (1, 0)) ∷ ((Bound 3 0 0), (1, 4)) ∷ []) []
    (Nobody ∷ Nobody ∷ Nobody ∷ Nobody ∷ [])
    × Gives program_8 (((Const 0 1 1), (1, 3)) ∷ ((Bound 3 0 0), (1, 9)) ∷ []) []
    (Nobody ∷ Nobody ∷ Nobody ∷ Nobody ∷ Nobody ∷ Nobody ∷ Nobody ∷ Nobody ∷ [])
    × Gives program_9 (((Le 3 6), (1, 6)) ∷ ((Le 6 4), (1, 9)) ∷ []) []
    ((Function 0) ∷ (Function 0) ∷ (Function 0) ∷ (Function 0) ∷ (Function 0) ∷ (Function 0) ∷ (Function 0) ∷ [])
    × Gives program_10 (((Const 0 1 5), (1, 12)) ∷ ((Const 0 1 10), (1, 18)) ∷ []) [] ((Function 0) ∷ (Function 0)
    ∷ (Function 0) ∷ (Function 0) ∷ (Function 0) ∷ (Function 0) ∷ (Function 0) ∷ (Function 0) ∷ (Function 1)
    ∷ (Function 1) ∷ (Function 1) ∷ (Function 1) ∷ (Function 2) ∷ (Function 2) ∷ (Function 2) ∷ [])
    × Gives program_11 (((Le 1 8), (1, 21)) ∷ ((Le 8 3), (1, 5)) ∷ []) []
    (Nobody ∷ Nobody ∷ Nobody ∷ Nobody ∷ Nobody ∷ Nobody ∷ Nobody ∷ Nobody ∷ Nobody ∷ [])
    × Gives program_12 (((Le 3 1), (1, 3)) ∷ ((Le 1 5), (1, 16)) ∷ []) []
    (Nobody ∷ Nobody ∷ Nobody ∷ Nobody ∷ Nobody ∷ Nobody ∷ [])

-- what the programs 13 to 24 give
abbrev pub Group2 : Type 0
Group2 =
    Gives program_13 (((Le 4 1), (1, 3)) ∷ ((Le 3 1), (1, 25)) ∷ []) []
    (Nobody ∷ Nobody ∷ Nobody ∷ Nobody ∷ Nobody ∷ Nobody ∷ Nobody ∷ (Function 0) ∷ (Function 0) ∷ (Function 0) ∷ [])
    × Gives program_14 (((Le 2 6), (1, 4)) ∷ ((Le 3 8), (1, 7)) ∷ ((Le 6 4), (1, 10)) ∷ []) []
    ((Function 0) ∷ (Function 0) ∷ (Function 0) ∷ (Function 0) ∷ (Function 0) ∷ (Function 0) ∷ (Function 0)
    ∷ (Function 0) ∷ (Function 0) ∷ [])
    × Gives program_15 (((Leave 0 0 7), (1, 12)) ∷ ((Leave 0 1 8), (1, 12)) ∷ ((Leave 0 2 9), (1, 12)) ∷ [])
    ((record { unit = 1; token = 12; target = 0; owner = (Function 1) }) ∷ [])
    ((Function 0) ∷ (Function 0) ∷ (Function 0) ∷ (Function 1) ∷ (Function 1) ∷ (Function 1) ∷ (Function 1)
    ∷ (Function 1) ∷ (Function 1) ∷ (Function 1) ∷ [])
    × Gives program_16 (((Const 0 1 3), (1, 5)) ∷ ((Bound 3 0 0), (1, 16)) ∷ ((Le 4 1), (1, 14)) ∷ []) []
    (Nobody ∷ Nobody ∷ Nobody ∷ Nobody ∷ Nobody ∷ (Function 0) ∷ (Function 0) ∷ (Function 0) ∷ [])
    × Gives program_17 (((Const 0 1 1), (1, 0)) ∷ ((Le 1 3), (1, 8)) ∷ ((Le 1 5), (1, 18)) ∷ []) []
    (Nobody ∷ Nobody ∷ Nobody ∷ Nobody ∷ Nobody ∷ Nobody ∷ Nobody ∷ Nobody ∷ [])
    × Gives program_18 (((Const 0 1 1), (1, 0)) ∷ ((Le 1 4), (1, 28)) ∷ ((Le 1 4), (1, 41)) ∷ []) []
    (Nobody ∷ Nobody ∷ Nobody ∷ Nobody ∷ Nobody ∷ Nobody ∷ Nobody ∷ Nobody ∷ Nobody ∷ Nobody ∷ Nobody ∷ [])
    × Gives program_19 (((Const 0 1 1), (1, 0)) ∷ ((Le 10 3), (1, 21)) ∷ ((Le 1 5), (1, 24)) ∷ []) []
    (Nobody ∷ Nobody ∷ Nobody ∷ Nobody ∷ Nobody ∷ Nobody ∷ Nobody ∷ Nobody ∷ Nobody ∷ Nobody ∷ Nobody ∷ Nobody ∷ Nobody
    ∷ Nobody ∷ Nobody ∷ [])
    × Gives program_20 (((Const 0 1 1), (1, 0)) ∷ ((Le 1 5), (1, 21)) ∷ ((Le 1 7), (1, 23)) ∷ []) []
    (Nobody ∷ Nobody ∷ Nobody ∷ Nobody ∷ Nobody ∷ Nobody ∷ Nobody ∷ Nobody ∷ Nobody ∷ Nobody ∷ [])
    × Gives program_21 (((Le 1 8), (1, 13)) ∷ ((Le 7 1), (1, 9)) ∷ ((Le 11 1), (1, 16)) ∷ []) []
    (Nobody ∷ Nobody ∷ (Function 0) ∷ (Function 0) ∷ (Function 0) ∷ (Function 0) ∷ (Function 0) ∷ (Function 0)
    ∷ (Function 0) ∷ (Function 0) ∷ (Function 0) ∷ (Function 0) ∷ (Function 0) ∷ [])
    × Gives program_22 (((Const 0 1 1), (1, 0)) ∷ ((Bound 1 0 1), (1, 0)) ∷ ((Const 0 2 3), (1, 4))
    ∷ ((Le 3 1), (1, 14)) ∷ []) [] (Nobody ∷ Nobody ∷ Nobody ∷ Nobody ∷ (Function 0) ∷ (Function 0) ∷ (Function 0) ∷ [])
    × Gives program_23
    (((Const 0 1 3), (1, 8)) ∷ ((Bound 3 0 0), (1, 19)) ∷ ((Bound 3 0 0), (1, 24)) ∷ ((Bound 5 0 0), (1, 30)) ∷ []) []
    (Nobody ∷ Nobody ∷ Nobody ∷ Nobody ∷ Nobody ∷ Nobody ∷ Nobody ∷ (Function 0) ∷ (Function 0) ∷ (Function 0) ∷ [])
    × Gives program_24 (((Const 0 1 1), (1, 0)) ∷ ((Le 1 3), (1, 22)) ∷ ((Le 1 3), (1, 28)) ∷ ((Le 1 7), (1, 33)) ∷ [])
    [] (Nobody ∷ Nobody ∷ Nobody ∷ Nobody ∷ Nobody ∷ Nobody ∷ Nobody ∷ Nobody ∷ Nobody ∷ Nobody ∷ [])

-- what the programs 25 to 36 give
abbrev pub Group3 : Type 0
Group3 =
    Gives program_25 (((Const 0 1 1), (1, 0)) ∷ ((Le 1 3), (1, 18)) ∷ ((Le 1 3), (1, 29)) ∷ ((Le 1 6), (1, 38)) ∷ []) []
    (Nobody ∷ Nobody ∷ Nobody ∷ Nobody ∷ Nobody ∷ Nobody ∷ Nobody ∷ [])
    × Gives program_26 (((Const 0 1 1), (1, 0)) ∷ ((Le 1 3), (1, 8)) ∷ ((Le 3 8), (1, 27)) ∷ ((Le 8 10), (1, 36)) ∷ [])
    [] (Nobody ∷ Nobody ∷ Nobody ∷ Nobody ∷ (Function 0) ∷ (Function 0) ∷ (Function 0) ∷ (Function 0) ∷ (Function 0)
    ∷ (Function 0) ∷ (Function 0) ∷ [])
    × Gives program_27 (((Le 7 10), (1, 10)) ∷ ((Le 4 2), (1, 13)) ∷ ((Le 4 2), (1, 20)) ∷ ((Le 2 4), (1, 27)) ∷ []) []
    (Nobody ∷ Nobody ∷ Nobody ∷ Nobody ∷ Nobody ∷ (Function 0) ∷ (Function 0) ∷ (Function 0) ∷ (Function 0)
    ∷ (Function 0) ∷ (Function 0) ∷ (Function 0) ∷ (Function 0) ∷ (Function 0) ∷ (Function 0) ∷ (Function 0)
    ∷ (Function 0) ∷ (Function 0) ∷ [])
    × Gives program_28 (((Le 1 4), (1, 24)) ∷ ((Leave 0 5 8), (1, 37)) ∷ ((Leave 0 6 9), (1, 37))
    ∷ ((Leave 0 7 10), (1, 37)) ∷ []) ((record { unit = 1; token = 37; target = 0; owner = (Function 0) }) ∷ [])
    (Nobody ∷ Nobody ∷ Nobody ∷ Nobody ∷ Nobody ∷ (Function 0) ∷ (Function 0) ∷ (Function 0) ∷ (Function 0)
    ∷ (Function 0) ∷ (Function 0) ∷ (Function 0) ∷ (Function 0) ∷ (Function 0) ∷ [])
    × Gives program_29 (((Le 2 5), (1, 4)) ∷ ((Le 10 14), (1, 30)) ∷ ((Le 13 14), (1, 30)) ∷ ((Le 14 3), (1, 29)) ∷ [])
    [] ((Function 0) ∷ (Function 0) ∷ (Function 0) ∷ (Function 0) ∷ (Function 0) ∷ (Function 0) ∷ (Function 0)
    ∷ (Function 0) ∷ (Function 0) ∷ (Function 0) ∷ (Function 0) ∷ Nobody ∷ Nobody ∷ (Function 0) ∷ (Function 0) ∷ [])
    × Gives program_30 (((Le 3 10), (1, 34)) ∷ ((Le 10 3), (1, 34)) ∷ ((Le 4 11), (1, 34)) ∷ ((Le 11 4), (1, 34)) ∷ [])
    [] ((Function 0) ∷ (Function 0) ∷ (Function 0) ∷ Nobody ∷ Nobody ∷ Nobody ∷ Nobody ∷ (Function 0) ∷ (Function 0)
    ∷ (Function 0) ∷ Nobody ∷ Nobody ∷ [])
    × Gives program_31 (((Bound 4 0 0), (1, 5)) ∷ ((Const 0 1 10), (1, 16)) ∷ ((Le 7 12), (1, 14))
    ∷ ((Le 8 13), (1, 14)) ∷ ((Le 13 8), (1, 14)) ∷ []) [] ((Function 0) ∷ (Function 0) ∷ (Function 0) ∷ (Function 0)
    ∷ (Function 0) ∷ (Function 1) ∷ (Function 1) ∷ (Function 1) ∷ (Function 1) ∷ (Function 1) ∷ (Function 1)
    ∷ (Function 1) ∷ (Function 1) ∷ (Function 1) ∷ (Function 1) ∷ [])
    × Gives program_32 (((Const 0 1 1), (1, 2)) ∷ ((Bound 2 0 0), (1, 12)) ∷ ((Le 7 3), (1, 12))
    ∷ ((Bound 1 0 0), (1, 18)) ∷ ((Bound 0 0 0), (1, 23)) ∷ []) [] (Nobody ∷ Nobody ∷ Nobody ∷ Nobody ∷ (Function 0)
    ∷ (Function 0) ∷ (Function 0) ∷ (Function 0) ∷ (Function 0) ∷ (Function 0) ∷ [])
    × Gives program_33 (((Le 5 1), (1, 18)) ∷ ((Le 6 1), (1, 22)) ∷ ((Le 7 9), (1, 28)) ∷ ((Le 8 9), (1, 28))
    ∷ ((Le 9 1), (1, 26)) ∷ []) [] (Nobody ∷ Nobody ∷ (Function 0) ∷ (Function 0) ∷ (Function 0) ∷ (Function 0)
    ∷ (Function 0) ∷ (Function 0) ∷ (Function 0) ∷ (Function 0) ∷ [])
    × Gives program_34 (((Le 2 5), (1, 4)) ∷ ((Le 5 7), (1, 10)) ∷ ((Le 10 9), (1, 16)) ∷ ((Le 7 11), (1, 19))
    ∷ ((Le 9 11), (1, 19)) ∷ ((Le 11 3), (1, 18)) ∷ []) [] ((Function 0) ∷ (Function 0) ∷ (Function 0) ∷ (Function 0)
    ∷ (Function 0) ∷ (Function 0) ∷ (Function 0) ∷ (Function 0) ∷ Nobody ∷ Nobody ∷ (Function 0) ∷ (Function 0) ∷ [])
    × Gives program_35 (((Const 0 1 1), (1, 0)) ∷ ((Le 0 3), (1, 20)) ∷ ((Le 1 4), (1, 20)) ∷ ((Le 4 1), (1, 20))
    ∷ ((Le 1 12), (1, 51)) ∷ ((Le 1 12), (1, 54)) ∷ []) [] (Nobody ∷ Nobody ∷ Nobody ∷ Nobody ∷ Nobody ∷ Nobody ∷ Nobody
    ∷ Nobody ∷ Nobody ∷ Nobody ∷ Nobody ∷ Nobody ∷ Nobody ∷ Nobody ∷ Nobody ∷ [])
    × Gives program_36 (((Const 0 1 1), (1, 0)) ∷ ((Le 7 10), (1, 12)) ∷ ((Leave 0 5 11), (1, 17))
    ∷ ((Leave 0 6 12), (1, 17)) ∷ ((Enter 0 13 7), (1, 17)) ∷ ((Leave 0 8 14), (1, 17)) ∷ [])
    ((record { unit = 1; token = 17; target = 0; owner = (Function 0) }) ∷ [])
    (Nobody ∷ Nobody ∷ Nobody ∷ Nobody ∷ Nobody ∷ (Function 0) ∷ (Function 0) ∷ (Function 0) ∷ (Function 0)
    ∷ (Function 0) ∷ (Function 0) ∷ (Function 0) ∷ (Function 0) ∷ (Function 0) ∷ (Function 0) ∷ (Function 0)
    ∷ (Function 0) ∷ (Function 0) ∷ (Function 0) ∷ (Function 0) ∷ (Function 0) ∷ (Function 0) ∷ (Function 0) ∷ [])

-- what the programs 37 to 48 give
abbrev pub Group4 : Type 0
Group4 =
    Gives program_37 (((Le 0 2), (1, 6)) ∷ ((Le 2 0), (1, 6)) ∷ ((Le 1 3), (1, 6)) ∷ ((Le 3 1), (1, 6))
    ∷ ((Le 4 3), (1, 6)) ∷ ((Le 3 4), (1, 6)) ∷ []) [] (Nobody ∷ Nobody ∷ Nobody ∷ Nobody ∷ Nobody ∷ [])
    × Gives program_38 (((Const 0 1 1), (1, 0)) ∷ ((Le 1 3), (1, 25)) ∷ ((Le 1 5), (1, 27)) ∷ ((Le 1 9), (1, 30))
    ∷ ((Le 1 3), (1, 35)) ∷ ((Le 1 9), (1, 37)) ∷ ((Le 1 5), (1, 42)) ∷ []) []
    (Nobody ∷ Nobody ∷ Nobody ∷ Nobody ∷ Nobody ∷ Nobody ∷ Nobody ∷ Nobody ∷ Nobody ∷ Nobody ∷ Nobody ∷ Nobody ∷ [])
    × Gives program_39 (((Const 0 1 1), (1, 0)) ∷ ((Le 5 3), (1, 18)) ∷ ((Le 5 9), (1, 25)) ∷ ((Le 4 12), (1, 33))
    ∷ ((Le 5 12), (1, 33)) ∷ ((Le 12 5), (1, 33)) ∷ ((Le 5 12), (1, 36)) ∷ []) [] (Nobody ∷ Nobody ∷ Nobody ∷ Nobody
    ∷ Nobody ∷ Nobody ∷ Nobody ∷ Nobody ∷ Nobody ∷ Nobody ∷ Nobody ∷ Nobody ∷ Nobody ∷ [])
    × Gives program_40 (((Const 0 1 3), (1, 6)) ∷ ((Le 2 8), (1, 4)) ∷ ((Const 0 1 10), (1, 6)) ∷ ((Le 3 10), (1, 8))
    ∷ ((Le 4 12), (1, 12)) ∷ ((Le 5 13), (1, 12)) ∷ ((Le 13 5), (1, 12)) ∷ ((Le 8 6), (1, 15)) ∷ []) []
    ((Function 0) ∷ (Function 0) ∷ (Function 0) ∷ (Function 0) ∷ (Function 0) ∷ (Function 0) ∷ (Function 0)
    ∷ (Function 0) ∷ (Function 0) ∷ (Function 0) ∷ (Function 0) ∷ (Function 0) ∷ (Function 0) ∷ (Function 0) ∷ [])
    × Gives program_41 (((Const 0 1 0), (1, 3)) ∷ ((Bound 0 0 0), (1, 22)) ∷ ((Le 12 1), (1, 22))
    ∷ ((Bound 2 0 0), (1, 28)) ∷ ((Le 13 3), (1, 28)) ∷ ((Bound 0 0 0), (1, 34)) ∷ ((Bound 2 0 0), (1, 39))
    ∷ ((Le 14 3), (1, 39)) ∷ []) [] (Nobody ∷ Nobody ∷ Nobody ∷ Nobody ∷ Nobody ∷ Nobody ∷ Nobody ∷ Nobody ∷ Nobody
    ∷ (Function 0) ∷ (Function 0) ∷ (Function 0) ∷ (Function 0) ∷ (Function 0) ∷ (Function 0) ∷ [])
    × Gives program_42 (((Le 2 5), (1, 4)) ∷ ((Le 7 9), (1, 17)) ∷ ((Le 10 7), (1, 17)) ∷ ((Le 7 10), (1, 17))
    ∷ ((Le 11 7), (1, 17)) ∷ ((Le 7 11), (1, 17)) ∷ ((Le 7 12), (1, 26)) ∷ ((Le 7 5), (1, 33)) ∷ []) []
    ((Function 0) ∷ (Function 0) ∷ (Function 0) ∷ (Function 0) ∷ (Function 0) ∷ (Function 0) ∷ (Function 0)
    ∷ (Function 0) ∷ (Function 0) ∷ (Function 0) ∷ (Function 0) ∷ (Function 0) ∷ (Function 0) ∷ (Function 0) ∷ [])
    × Gives program_43 (((Le 2 5), (1, 4)) ∷ ((Leave 0 0 16), (1, 63)) ∷ ((Leave 0 1 17), (1, 63))
    ∷ ((Enter 0 18 2), (1, 63)) ∷ ((Leave 0 3 19), (1, 63)) ∷ ((Le 20 18), (1, 65)) ∷ ((Le 19 15), (1, 63))
    ∷ ((Le 5 3), (1, 69)) ∷ []) ((record { unit = 1; token = 63; target = 0; owner = (Function 0) }) ∷ [])
    ((Function 0) ∷ (Function 0) ∷ (Function 0) ∷ (Function 0) ∷ (Function 0) ∷ (Function 0) ∷ (Function 0)
    ∷ (Function 0) ∷ (Function 0) ∷ Nobody ∷ Nobody ∷ (Function 0) ∷ (Function 0) ∷ (Function 0) ∷ (Function 0)
    ∷ (Function 0) ∷ (Function 0) ∷ (Function 0) ∷ (Function 0) ∷ (Function 0) ∷ (Function 0) ∷ [])
    × Gives program_44 (((Le 2 6), (1, 5)) ∷ ((Le 3 7), (1, 5)) ∷ ((Le 7 3), (1, 5)) ∷ ((Le 5 8), (1, 9))
    ∷ ((Le 8 5), (1, 9)) ∷ ((Le 6 9), (1, 9)) ∷ ((Le 9 6), (1, 9)) ∷ ((Le 7 9), (1, 9)) ∷ ((Le 9 7), (1, 9))
    ∷ ((Le 10 7), (1, 11)) ∷ []) [] ((Function 0) ∷ (Function 0) ∷ (Function 0) ∷ (Function 0) ∷ (Function 0)
    ∷ (Function 0) ∷ (Function 0) ∷ (Function 0) ∷ (Function 0) ∷ (Function 0) ∷ (Function 0) ∷ [])
    × Gives program_45 (((Const 1 1 3), (2, 3)) ∷ ((Bound 7 0 0), (1, 16)) ∷ ((Le 3 7), (2, 15)) ∷ ((Le 7 1), (3, 13))
    ∷ ((Bound 8 1 0), (2, 24)) ∷ ((Le 3 8), (1, 23)) ∷ ((Le 8 1), (3, 21)) ∷ ((Bound 9 1 0), (2, 32))
    ∷ ((Bound 9 0 0), (1, 33)) ∷ ((Le 9 1), (3, 29)) ∷ []) [] (Nobody ∷ Nobody ∷ Nobody ∷ Nobody ∷ (Function 0)
    ∷ (Function 0) ∷ (Function 0) ∷ (Function 0) ∷ (Function 0) ∷ (Function 0) ∷ [])
    × Gives program_46 (((Le 5 3), (1, 20)) ∷ ((Le 3 8), (1, 24)) ∷ ((Le 8 8), (1, 29)) ∷ ((Le 5 3), (1, 37))
    ∷ ((Le 2 7), (1, 43)) ∷ ((Le 3 8), (1, 43)) ∷ ((Le 8 3), (1, 43)) ∷ ((Le 14 7), (1, 48)) ∷ ((Le 15 8), (1, 48))
    ∷ ((Le 8 15), (1, 48)) ∷ []) [] (Nobody ∷ Nobody ∷ Nobody ∷ Nobody ∷ Nobody ∷ Nobody ∷ Nobody ∷ Nobody ∷ Nobody
    ∷ (Function 0) ∷ (Function 0) ∷ (Function 0) ∷ (Function 0) ∷ (Function 0) ∷ (Function 0) ∷ (Function 0) ∷ [])
    × Gives program_47 (((Le 2 10), (1, 4)) ∷ ((Le 3 11), (1, 4)) ∷ ((Le 11 3), (1, 4)) ∷ ((Le 4 12), (1, 4))
    ∷ ((Le 12 4), (1, 4)) ∷ ((Le 5 13), (1, 4)) ∷ ((Le 13 5), (1, 4)) ∷ ((Le 6 15), (1, 10)) ∷ ((Le 7 16), (1, 10))
    ∷ ((Le 16 7), (1, 10)) ∷ ((Le 16 12), (1, 18)) ∷ []) [] ((Function 0) ∷ (Function 0) ∷ (Function 0) ∷ (Function 0)
    ∷ (Function 0) ∷ (Function 0) ∷ (Function 0) ∷ (Function 0) ∷ (Function 0) ∷ (Function 0) ∷ (Function 0)
    ∷ (Function 0) ∷ (Function 0) ∷ (Function 0) ∷ (Function 0) ∷ (Function 0) ∷ (Function 0) ∷ (Function 0) ∷ [])
    × Gives program_48 (((Const 0 1 1), (1, 0)) ∷ ((Le 1 3), (1, 13)) ∷ ((Le 1 8), (1, 29)) ∷ ((Le 8 3), (1, 22))
    ∷ ((Leave 0 4 14), (1, 57)) ∷ ((Leave 0 5 15), (1, 57)) ∷ ((Leave 0 6 16), (1, 57)) ∷ ((Leave 1 4 17), (1, 68))
    ∷ ((Leave 1 5 18), (1, 68)) ∷ ((Leave 1 6 19), (1, 68)) ∷ ((Le 20 3), (1, 64)) ∷ [])
    ((record { unit = 1; token = 57; target = 0; owner = (Function 0) })
    ∷ (record { unit = 1; token = 68; target = 0; owner = (Function 0) }) ∷ [])
    (Nobody ∷ Nobody ∷ Nobody ∷ Nobody ∷ (Function 0) ∷ (Function 0) ∷ (Function 0) ∷ (Function 0) ∷ (Function 0)
    ∷ (Function 0) ∷ (Function 0) ∷ (Function 0) ∷ (Function 0) ∷ (Function 0) ∷ (Function 0) ∷ (Function 0)
    ∷ (Function 0) ∷ (Function 0) ∷ (Function 0) ∷ (Function 0) ∷ (Function 0) ∷ [])

-- what the programs 49 to 60 give
abbrev pub Group5 : Type 0
Group5 =
    Gives program_49 (((Const 0 1 2), (1, 6)) ∷ ((Const 0 1 8), (1, 6)) ∷ ((Le 2 8), (1, 7)) ∷ ((Le 3 9), (1, 7))
    ∷ ((Le 9 3), (1, 7)) ∷ ((Le 4 10), (1, 7)) ∷ ((Le 10 4), (1, 7)) ∷ ((Le 5 11), (1, 7)) ∷ ((Le 11 5), (1, 7))
    ∷ ((Le 12 10), (1, 16)) ∷ ((Le 13 10), (1, 24)) ∷ ((Le 15 10), (1, 32)) ∷ []) [] ((Function 0) ∷ (Function 0)
    ∷ (Function 0) ∷ (Function 0) ∷ (Function 0) ∷ (Function 0) ∷ (Function 0) ∷ (Function 0) ∷ (Function 0)
    ∷ (Function 0) ∷ (Function 0) ∷ (Function 0) ∷ (Function 0) ∷ (Function 0) ∷ (Function 0) ∷ (Function 0) ∷ [])
    × Gives program_50
    (((Const 1 1 1), (2, 3)) ∷ ((Const 0 1 2), (1, 0)) ∷ ((Bound 6 1 0), (2, 16)) ∷ ((Bound 7 0 0), (1, 13))
    ∷ ((Le 1 8), (3, 20)) ∷ ((Le 2 9), (3, 20)) ∷ ((Le 9 2), (3, 20)) ∷ ((Const 1 1 11), (2, 32)) ∷ ((Le 1 11), (1, 31))
    ∷ ((Le 2 11), (1, 31)) ∷ ((Le 11 2), (1, 31)) ∷ ((Const 0 1 13), (1, 38)) ∷ []) [] (Nobody ∷ Nobody ∷ Nobody
    ∷ (Function 0) ∷ (Function 0) ∷ (Function 0) ∷ (Function 0) ∷ (Function 0) ∷ (Function 0) ∷ (Function 0)
    ∷ (Function 0) ∷ (Function 0) ∷ (Function 0) ∷ (Function 0) ∷ (Function 0) ∷ (Function 0) ∷ (Function 0) ∷ [])
    × Gives program_51 (((Le 11 14), (1, 21)) ∷ ((Le 3 15), (1, 26)) ∷ ((Le 5 15), (1, 26)) ∷ ((Le 15 3), (1, 24))
    ∷ ((Leave 0 6 16), (1, 34)) ∷ ((Leave 0 7 17), (1, 34)) ∷ ((Leave 0 8 18), (1, 34)) ∷ ((Leave 1 6 19), (1, 38))
    ∷ ((Leave 1 7 20), (1, 38)) ∷ ((Leave 1 8 21), (1, 38)) ∷ ((Le 14 23), (1, 42)) ∷ ((Le 3 23), (1, 42)) ∷ [])
    ((record { unit = 1; token = 34; target = 0; owner = (Function 1) })
    ∷ (record { unit = 1; token = 38; target = 0; owner = (Function 1) }) ∷ [])
    (Nobody ∷ Nobody ∷ Nobody ∷ Nobody ∷ Nobody ∷ Nobody ∷ (Function 0) ∷ (Function 0) ∷ (Function 0) ∷ (Function 1)
    ∷ (Function 1) ∷ (Function 1) ∷ (Function 1) ∷ (Function 1) ∷ (Function 1) ∷ (Function 1) ∷ (Function 1)
    ∷ (Function 1) ∷ (Function 1) ∷ (Function 1) ∷ (Function 1) ∷ (Function 1) ∷ (Function 1) ∷ (Function 1)
    ∷ (Function 1) ∷ (Function 1) ∷ (Function 1) ∷ (Function 1) ∷ [])
    × Gives program_52 (((Const 0 1 4), (1, 6)) ∷ ((Const 0 1 8), (1, 6)) ∷ ((Le 4 8), (1, 9)) ∷ ((Le 5 9), (1, 9))
    ∷ ((Le 9 5), (1, 9)) ∷ ((Le 8 10), (1, 13)) ∷ ((Le 9 11), (1, 13)) ∷ ((Le 11 9), (1, 13))
    ∷ ((Bound 10 0 0), (1, 12)) ∷ ((Le 1 11), (1, 12)) ∷ ((Le 15 13), (1, 25)) ∷ ((Le 16 14), (1, 25))
    ∷ ((Le 14 16), (1, 25)) ∷ []) [] (Nobody ∷ Nobody ∷ (Function 0) ∷ (Function 0) ∷ (Function 0) ∷ (Function 0)
    ∷ (Function 0) ∷ (Function 0) ∷ (Function 0) ∷ (Function 0) ∷ (Function 0) ∷ (Function 0) ∷ (Function 0)
    ∷ (Function 0) ∷ (Function 0) ∷ (Function 0) ∷ (Function 0) ∷ [])
    × Gives program_53 (((Le 7 11), (0, 11)) ∷ ((Le 11 1), (0, 16)) ∷ ((Le 1 4), (0, 20)) ∷ ((Leave 0 5 13), (0, 31))
    ∷ ((Leave 0 6 14), (0, 31)) ∷ ((Enter 0 15 7), (0, 31)) ∷ ((Leave 0 8 16), (0, 31)) ∷ ((Enter 0 17 9), (0, 31))
    ∷ ((Le 1 15), (0, 33)) ∷ ((Le 3 17), (0, 35)) ∷ ((Le 4 17), (0, 35)) ∷ ((Le 17 4), (0, 35)) ∷ ((Le 1 22), (0, 48))
    ∷ []) ((record { unit = 1; token = 31; target = 0; owner = (Function 0) }) ∷ [])
    (Nobody ∷ Nobody ∷ Nobody ∷ Nobody ∷ Nobody ∷ (Function 0) ∷ (Function 0) ∷ (Function 0) ∷ (Function 0)
    ∷ (Function 0) ∷ (Function 0) ∷ (Function 0) ∷ (Function 0) ∷ (Function 0) ∷ (Function 0) ∷ (Function 0)
    ∷ (Function 0) ∷ (Function 0) ∷ (Function 0) ∷ (Function 0) ∷ (Function 0) ∷ (Function 0) ∷ (Function 0) ∷ [])
    × Gives program_54 (((Le 0 4), (1, 7)) ∷ ((Le 4 0), (1, 7)) ∷ ((Le 1 5), (1, 7)) ∷ ((Le 5 1), (1, 7))
    ∷ ((Le 2 7), (1, 7)) ∷ ((Le 7 2), (1, 7)) ∷ ((Le 3 6), (1, 7)) ∷ ((Le 6 3), (1, 7)) ∷ ((Le 0 8), (1, 12))
    ∷ ((Le 8 0), (1, 12)) ∷ ((Le 1 9), (1, 12)) ∷ ((Le 9 1), (1, 12)) ∷ ((Le 2 10), (1, 12)) ∷ ((Le 10 2), (1, 12))
    ∷ ((Le 3 13), (1, 12)) ∷ ((Le 13 3), (1, 12)) ∷ []) [] ((Function 0) ∷ (Function 0) ∷ (Function 0) ∷ (Function 0)
    ∷ (Function 0) ∷ (Function 0) ∷ (Function 0) ∷ (Function 0) ∷ (Function 0) ∷ (Function 0) ∷ (Function 0)
    ∷ (Function 0) ∷ (Function 0) ∷ (Function 0) ∷ (Function 0) ∷ [])
    × Gives program_55 (((Const 0 1 1), (1, 0)) ∷ ((Const 0 1 10), (1, 16)) ∷ ((Le 8 10), (1, 20)) ∷ ((Le 9 6), (1, 14))
    ∷ ((Le 10 7), (1, 14)) ∷ ((Le 7 10), (1, 14)) ∷ ((Le 11 13), (1, 27)) ∷ ((Le 1 13), (1, 23))
    ∷ ((Bound 16 0 0), (1, 33)) ∷ ((Le 14 16), (1, 37)) ∷ ((Le 22 29), (1, 56)) ∷ ((Le 23 30), (1, 56))
    ∷ ((Le 30 23), (1, 56)) ∷ ((Le 25 29), (1, 58)) ∷ ((Le 26 30), (1, 58)) ∷ ((Le 30 26), (1, 58)) ∷ []) []
    (Nobody ∷ Nobody ∷ (Function 0) ∷ (Function 0) ∷ (Function 0) ∷ (Function 0) ∷ (Function 0) ∷ (Function 0)
    ∷ (Function 0) ∷ (Function 0) ∷ (Function 0) ∷ (Function 0) ∷ (Function 0) ∷ (Function 0) ∷ (Function 0)
    ∷ (Function 0) ∷ (Function 0) ∷ (Function 0) ∷ (Function 0) ∷ (Function 0) ∷ (Function 0) ∷ (Function 0)
    ∷ (Function 0) ∷ (Function 0) ∷ (Function 0) ∷ (Function 0) ∷ (Function 0) ∷ (Function 0) ∷ (Function 0)
    ∷ (Function 0) ∷ (Function 0) ∷ [])
    × Gives program_56 (((Const 0 1 1), (1, 0)) ∷ ((Le 9 13), (1, 15)) ∷ ((Le 10 14), (1, 15)) ∷ ((Le 14 10), (1, 15))
    ∷ ((Le 1 3), (1, 18)) ∷ ((Le 1 3), (1, 22)) ∷ ((Le 1 3), (1, 34)) ∷ ((Le 13 5), (1, 38)) ∷ ((Le 14 6), (1, 38))
    ∷ ((Le 6 14), (1, 38)) ∷ ((Le 16 5), (1, 42)) ∷ ((Le 6 5), (1, 42)) ∷ ((Le 5 6), (1, 42)) ∷ ((Le 1 3), (1, 50))
    ∷ ((Le 3 5), (1, 54)) ∷ ((Le 6 5), (1, 54)) ∷ ((Le 5 6), (1, 54)) ∷ []) [] (Nobody ∷ Nobody ∷ Nobody ∷ Nobody
    ∷ Nobody ∷ Nobody ∷ Nobody ∷ (Function 0) ∷ (Function 0) ∷ (Function 0) ∷ (Function 0) ∷ (Function 0) ∷ (Function 0)
    ∷ (Function 0) ∷ (Function 0) ∷ (Function 0) ∷ (Function 0) ∷ (Function 0) ∷ [])
    × Gives program_57
    (((Le 3 3), (1, 15)) ∷ ((Le 4 4), (1, 15)) ∷ ((Le 4 4), (1, 15)) ∷ ((Le 3 3), (1, 21)) ∷ ((Le 4 4), (1, 21))
    ∷ ((Le 4 4), (1, 21)) ∷ ((Le 3 3), (1, 27)) ∷ ((Le 4 4), (1, 27)) ∷ ((Le 4 4), (1, 27)) ∷ ((Le 12 1), (1, 33))
    ∷ ((Le 1 13), (1, 41)) ∷ ((Le 1 13), (1, 41)) ∷ ((Le 13 1), (1, 39)) ∷ ((Le 1 15), (1, 47)) ∷ ((Le 15 1), (1, 45))
    ∷ ((Le 16 18), (1, 51)) ∷ ((Le 17 18), (1, 51)) ∷ ((Leave 0 8 19), (1, 55)) ∷ ((Leave 0 9 20), (1, 55))
    ∷ ((Leave 0 10 21), (1, 55)) ∷ []) ((record { unit = 1; token = 55; target = 0; owner = (Function 0) }) ∷ [])
    (Nobody ∷ Nobody ∷ Nobody ∷ Nobody ∷ Nobody ∷ Nobody ∷ Nobody ∷ Nobody ∷ (Function 0) ∷ (Function 0) ∷ (Function 0)
    ∷ (Function 0) ∷ (Function 0) ∷ (Function 0) ∷ (Function 0) ∷ (Function 0) ∷ (Function 0) ∷ (Function 0)
    ∷ (Function 0) ∷ (Function 0) ∷ (Function 0) ∷ (Function 0) ∷ (Function 0) ∷ (Function 0) ∷ (Function 0)
    ∷ (Function 0) ∷ (Function 0) ∷ (Function 0) ∷ [])
    × Gives program_58
    (((Const 1 1 1), (2, 14)) ∷ ((Const 0 1 2), (1, 11)) ∷ ((Bound 5 0 0), (1, 1)) ∷ ((Bound 7 1 0), (2, 7))
    ∷ ((Bound 12 0 0), (1, 1)) ∷ ((Le 1 11), (2, 31)) ∷ ((Le 2 12), (2, 31)) ∷ ((Le 12 2), (2, 31))
    ∷ ((Le 11 4), (3, 29)) ∷ ((Le 12 5), (3, 29)) ∷ ((Le 5 12), (3, 29)) ∷ ((Bound 4 1 0), (2, 41))
    ∷ ((Bound 13 1 0), (2, 7)) ∷ ((Le 5 13), (1, 38)) ∷ ((Le 13 7), (3, 36)) ∷ ((Bound 16 0 0), (1, 1))
    ∷ ((Le 0 14), (2, 44)) ∷ ((Le 1 15), (2, 44)) ∷ ((Le 15 1), (2, 44)) ∷ ((Le 2 16), (2, 44)) ∷ ((Le 16 2), (2, 44))
    ∷ []) [] (Nobody ∷ Nobody ∷ Nobody ∷ Nobody ∷ Nobody ∷ Nobody ∷ Nobody ∷ Nobody ∷ (Function 0) ∷ (Function 0)
    ∷ (Function 0) ∷ (Function 0) ∷ (Function 0) ∷ (Function 0) ∷ (Function 0) ∷ (Function 0) ∷ (Function 0) ∷ [])
    × Gives program_59 (((Le 1 10), (1, 17)) ∷ ((Le 6 11), (1, 20)) ∷ ((Le 10 12), (1, 17)) ∷ ((Le 11 12), (1, 17))
    ∷ ((Le 12 1), (1, 15)) ∷ ((Le 6 13), (1, 25)) ∷ ((Le 13 1), (1, 23)) ∷ ((Le 14 1), (1, 28)) ∷ ((Le 15 1), (1, 33))
    ∷ ((Le 16 17), (1, 38)) ∷ ((Le 3 18), (1, 41)) ∷ ((Le 4 18), (1, 41)) ∷ ((Le 18 4), (1, 41))
    ∷ ((Leave 0 7 19), (1, 45)) ∷ ((Leave 0 8 20), (1, 45)) ∷ ((Leave 0 9 21), (1, 45)) ∷ ((Le 19 22), (1, 44))
    ∷ ((Le 20 22), (1, 44)) ∷ ((Le 22 20), (1, 44)) ∷ ((Le 21 22), (1, 44)) ∷ ((Le 22 21), (1, 44)) ∷ [])
    ((record { unit = 1; token = 45; target = 0; owner = (Function 0) }) ∷ [])
    (Nobody ∷ Nobody ∷ Nobody ∷ Nobody ∷ Nobody ∷ Nobody ∷ Nobody ∷ (Function 0) ∷ (Function 0) ∷ (Function 0)
    ∷ (Function 0) ∷ (Function 0) ∷ (Function 0) ∷ (Function 0) ∷ (Function 0) ∷ (Function 0) ∷ (Function 0)
    ∷ (Function 0) ∷ (Function 0) ∷ (Function 0) ∷ (Function 0) ∷ (Function 0) ∷ (Function 0) ∷ [])
    × Gives program_60
    (((Const 0 1 2), (1, 5)) ∷ ((Const 0 1 7), (1, 5)) ∷ ((Le 2 7), (1, 6)) ∷ ((Le 3 8), (1, 6)) ∷ ((Le 8 3), (1, 6))
    ∷ ((Le 5 10), (1, 14)) ∷ ((Const 0 1 12), (1, 29)) ∷ ((Le 10 12), (1, 23)) ∷ ((Le 13 10), (1, 23))
    ∷ ((Le 10 13), (1, 23)) ∷ ((Bound 12 0 0), (1, 22)) ∷ ((Bound 7 0 0), (1, 32)) ∷ ((Le 13 15), (1, 22))
    ∷ ((Le 8 15), (1, 22)) ∷ ((Bound 7 0 0), (1, 37)) ∷ ((Le 15 17), (1, 22)) ∷ ((Le 8 17), (1, 22))
    ∷ ((Bound 7 0 0), (1, 42)) ∷ ((Le 17 19), (1, 22)) ∷ ((Le 8 19), (1, 22)) ∷ ((Le 19 4), (1, 21)) ∷ []) []
    ((Function 0) ∷ (Function 0) ∷ (Function 0) ∷ (Function 0) ∷ (Function 0) ∷ (Function 0) ∷ (Function 0)
    ∷ (Function 0) ∷ (Function 0) ∷ (Function 0) ∷ (Function 0) ∷ (Function 0) ∷ (Function 0) ∷ (Function 0)
    ∷ (Function 0) ∷ (Function 0) ∷ (Function 0) ∷ (Function 0) ∷ (Function 0) ∷ (Function 0) ∷ [])

-- what the programs 61 to 71 give
abbrev pub Group6 : Type 0
Group6 =
    Gives program_61
    (((Le 1 10), (1, 16)) ∷ ((Le 3 10), (1, 16)) ∷ ((Le 10 1), (1, 14)) ∷ ((Le 1 11), (1, 20)) ∷ ((Le 3 11), (1, 20))
    ∷ ((Le 1 13), (1, 24)) ∷ ((Le 12 13), (1, 24)) ∷ ((Le 1 14), (1, 28)) ∷ ((Le 3 14), (1, 28)) ∷ ((Le 1 16), (1, 32))
    ∷ ((Le 15 16), (1, 32)) ∷ ((Le 1 17), (1, 36)) ∷ ((Le 3 17), (1, 36)) ∷ ((Le 1 19), (1, 40)) ∷ ((Le 18 19), (1, 40))
    ∷ ((Le 1 20), (1, 44)) ∷ ((Le 3 20), (1, 44)) ∷ ((Le 5 21), (1, 48)) ∷ ((Le 6 21), (1, 48)) ∷ ((Le 21 6), (1, 48))
    ∷ ((Le 1 21), (1, 48)) ∷ ((Le 1 23), (1, 52)) ∷ ((Le 1 25), (1, 56)) ∷ []) [] (Nobody ∷ Nobody ∷ Nobody ∷ Nobody
    ∷ Nobody ∷ Nobody ∷ Nobody ∷ (Function 0) ∷ (Function 0) ∷ (Function 0) ∷ (Function 0) ∷ (Function 0) ∷ (Function 0)
    ∷ (Function 0) ∷ (Function 0) ∷ (Function 0) ∷ (Function 0) ∷ (Function 0) ∷ (Function 0) ∷ (Function 0)
    ∷ (Function 0) ∷ (Function 0) ∷ (Function 0) ∷ (Function 0) ∷ (Function 0) ∷ (Function 0) ∷ [])
    × Gives program_62 (((Const 0 1 1), (1, 0)) ∷ ((Le 12 16), (1, 19)) ∷ ((Le 13 17), (1, 19)) ∷ ((Le 17 13), (1, 19))
    ∷ ((Le 5 18), (1, 24)) ∷ ((Le 6 19), (1, 24)) ∷ ((Le 19 6), (1, 24)) ∷ ((Le 16 18), (1, 24)) ∷ ((Le 17 19), (1, 24))
    ∷ ((Le 19 17), (1, 24)) ∷ ((Le 18 5), (1, 22)) ∷ ((Le 19 6), (1, 22)) ∷ ((Le 6 19), (1, 22)) ∷ ((Le 1 21), (1, 32))
    ∷ ((Le 20 21), (1, 32)) ∷ ((Le 21 3), (1, 30)) ∷ ((Le 16 5), (1, 38)) ∷ ((Le 17 6), (1, 38)) ∷ ((Le 6 17), (1, 38))
    ∷ ((Le 16 5), (1, 46)) ∷ ((Le 17 6), (1, 46)) ∷ ((Le 6 17), (1, 46)) ∷ ((Le 16 5), (1, 54)) ∷ ((Le 17 6), (1, 54))
    ∷ ((Le 6 17), (1, 54)) ∷ []) [] (Nobody ∷ Nobody ∷ Nobody ∷ Nobody ∷ Nobody ∷ Nobody ∷ Nobody ∷ Nobody ∷ Nobody
    ∷ Nobody ∷ (Function 0) ∷ (Function 0) ∷ (Function 0) ∷ (Function 0) ∷ (Function 0) ∷ (Function 0) ∷ (Function 0)
    ∷ (Function 0) ∷ (Function 0) ∷ (Function 0) ∷ (Function 0) ∷ (Function 0) ∷ (Function 0) ∷ (Function 0)
    ∷ (Function 0) ∷ (Function 0) ∷ (Function 0) ∷ [])
    × Gives program_63 (((Le 12 16), (1, 24)) ∷ ((Le 16 13), (1, 29)) ∷ ((Le 19 23), (1, 39)) ∷ ((Le 20 24), (1, 39))
    ∷ ((Le 24 20), (1, 39)) ∷ ((Leave 0 10 25), (1, 46)) ∷ ((Leave 0 11 26), (1, 46)) ∷ ((Enter 0 27 12), (1, 46))
    ∷ ((Leave 0 13 28), (1, 46)) ∷ ((Enter 0 29 14), (1, 46)) ∷ ((Le 25 1), (1, 42)) ∷ ((Le 26 2), (1, 42))
    ∷ ((Le 2 26), (1, 42)) ∷ ((Le 27 3), (1, 42)) ∷ ((Le 3 27), (1, 42)) ∷ ((Le 28 4), (1, 42)) ∷ ((Le 4 28), (1, 42))
    ∷ ((Le 29 5), (1, 42)) ∷ ((Le 5 29), (1, 42)) ∷ ((Le 30 3), (1, 52)) ∷ ((Le 23 5), (1, 54)) ∷ ((Le 24 5), (1, 54))
    ∷ ((Le 5 24), (1, 54)) ∷ ((Le 9 5), (1, 56)) ∷ ((Le 7 3), (1, 66)) ∷ ((Le 31 5), (1, 70)) ∷ [])
    ((record { unit = 1; token = 46; target = 0; owner = (Function 1) }) ∷ [])
    (Nobody ∷ Nobody ∷ Nobody ∷ Nobody ∷ Nobody ∷ Nobody ∷ Nobody ∷ Nobody ∷ Nobody ∷ Nobody ∷ (Function 0)
    ∷ (Function 0) ∷ (Function 0) ∷ (Function 0) ∷ (Function 0) ∷ (Function 0) ∷ (Function 0) ∷ (Function 1)
    ∷ (Function 1) ∷ (Function 1) ∷ (Function 1) ∷ (Function 1) ∷ (Function 1) ∷ (Function 1) ∷ (Function 1)
    ∷ (Function 1) ∷ (Function 1) ∷ (Function 1) ∷ (Function 1) ∷ (Function 1) ∷ (Function 1) ∷ (Function 1) ∷ [])
    × Gives program_64 (((Le 2 5), (1, 4)) ∷ ((Le 5 3), (1, 7)) ∷ ((Leave 0 0 11), (1, 20)) ∷ ((Leave 0 1 12), (1, 20))
    ∷ ((Enter 0 13 2), (1, 20)) ∷ ((Leave 0 3 14), (1, 20)) ∷ ((Le 11 7), (1, 20)) ∷ ((Le 12 8), (1, 20))
    ∷ ((Le 8 12), (1, 20)) ∷ ((Le 13 9), (1, 20)) ∷ ((Le 9 13), (1, 20)) ∷ ((Le 14 10), (1, 20)) ∷ ((Le 10 14), (1, 20))
    ∷ ((Leave 1 0 20), (1, 32)) ∷ ((Leave 1 1 21), (1, 32)) ∷ ((Enter 1 22 2), (1, 32)) ∷ ((Leave 1 3 23), (1, 32))
    ∷ ((Le 20 16), (1, 31)) ∷ ((Le 21 17), (1, 31)) ∷ ((Le 17 21), (1, 31)) ∷ ((Le 22 18), (1, 31))
    ∷ ((Le 18 22), (1, 31)) ∷ ((Le 23 19), (1, 31)) ∷ ((Le 19 23), (1, 31)) ∷ ((Leave 2 0 26), (1, 37))
    ∷ ((Leave 2 1 27), (1, 37)) ∷ ((Enter 2 28 2), (1, 37)) ∷ ((Leave 2 3 29), (1, 37)) ∷ ((Le 30 28), (1, 39))
    ∷ ((Le 29 25), (1, 37)) ∷ ((Le 24 32), (1, 46)) ∷ ((Le 25 33), (1, 46)) ∷ ((Le 33 25), (1, 46)) ∷ [])
    ((record { unit = 1; token = 20; target = 0; owner = Nobody })
    ∷ (record { unit = 1; token = 32; target = 0; owner = Nobody })
    ∷ (record { unit = 1; token = 37; target = 0; owner = Nobody }) ∷ [])
    ((Function 0) ∷ (Function 0) ∷ (Function 0) ∷ (Function 0) ∷ (Function 0) ∷ (Function 0) ∷ Nobody ∷ Nobody ∷ Nobody
    ∷ Nobody ∷ Nobody ∷ Nobody ∷ Nobody ∷ Nobody ∷ Nobody ∷ Nobody ∷ Nobody ∷ Nobody ∷ Nobody ∷ Nobody ∷ Nobody ∷ Nobody
    ∷ Nobody ∷ Nobody ∷ Nobody ∷ Nobody ∷ Nobody ∷ Nobody ∷ Nobody ∷ Nobody ∷ Nobody ∷ Nobody ∷ Nobody ∷ Nobody ∷ [])
    × Gives program_65 (((Le 0 6), (1, 12)) ∷ ((Le 6 0), (1, 12)) ∷ ((Le 1 7), (1, 12)) ∷ ((Le 7 1), (1, 12))
    ∷ ((Le 2 8), (1, 12)) ∷ ((Le 8 2), (1, 12)) ∷ ((Le 3 8), (1, 12)) ∷ ((Le 8 3), (1, 12)) ∷ ((Le 5 9), (1, 12))
    ∷ ((Le 9 5), (1, 12)) ∷ ((Le 0 10), (1, 19)) ∷ ((Le 10 0), (1, 19)) ∷ ((Le 1 11), (1, 19)) ∷ ((Le 11 1), (1, 19))
    ∷ ((Le 2 12), (1, 19)) ∷ ((Le 12 2), (1, 19)) ∷ ((Le 3 13), (1, 19)) ∷ ((Le 13 3), (1, 19)) ∷ ((Le 14 13), (1, 19))
    ∷ ((Le 13 14), (1, 19)) ∷ ((Le 4 16), (1, 19)) ∷ ((Le 16 4), (1, 19)) ∷ ((Le 5 15), (1, 19)) ∷ ((Le 15 5), (1, 19))
    ∷ ((Le 0 17), (1, 31)) ∷ ((Le 17 0), (1, 31)) ∷ ((Le 1 18), (1, 31)) ∷ ((Le 18 1), (1, 31)) ∷ ((Le 2 21), (1, 31))
    ∷ ((Le 21 2), (1, 31)) ∷ ((Le 3 21), (1, 31)) ∷ ((Le 21 3), (1, 31)) ∷ ((Le 4 21), (1, 31)) ∷ ((Le 21 4), (1, 31))
    ∷ ((Le 5 19), (1, 31)) ∷ ((Le 19 5), (1, 31)) ∷ ((Le 20 19), (1, 31)) ∷ ((Le 19 20), (1, 31)) ∷ []) [] ((Function 0)
    ∷ (Function 0) ∷ (Function 0) ∷ (Function 0) ∷ (Function 0) ∷ (Function 0) ∷ (Function 0) ∷ (Function 0)
    ∷ (Function 0) ∷ (Function 0) ∷ (Function 0) ∷ (Function 0) ∷ (Function 0) ∷ (Function 0) ∷ (Function 0)
    ∷ (Function 0) ∷ (Function 0) ∷ (Function 0) ∷ (Function 0) ∷ (Function 0) ∷ (Function 0) ∷ (Function 0) ∷ [])
    × Gives program_66 (((Le 7 11), (1, 11)) ∷ ((Le 8 12), (1, 11)) ∷ ((Le 12 8), (1, 11)) ∷ ((Le 3 13), (1, 16))
    ∷ ((Le 4 14), (1, 16)) ∷ ((Le 14 4), (1, 16)) ∷ ((Le 11 13), (1, 16)) ∷ ((Le 12 14), (1, 16))
    ∷ ((Le 14 12), (1, 16)) ∷ ((Le 13 3), (1, 14)) ∷ ((Le 14 4), (1, 14)) ∷ ((Le 4 14), (1, 14)) ∷ ((Le 1 16), (1, 23))
    ∷ ((Le 15 16), (1, 23)) ∷ ((Le 16 1), (1, 21)) ∷ ((Leave 0 5 22), (1, 47)) ∷ ((Leave 0 6 23), (1, 47))
    ∷ ((Enter 0 24 7), (1, 47)) ∷ ((Enter 0 25 8), (1, 47)) ∷ ((Leave 0 8 25), (1, 47)) ∷ ((Leave 0 9 26), (1, 47))
    ∷ ((Leave 1 5 27), (1, 50)) ∷ ((Leave 1 6 28), (1, 50)) ∷ ((Enter 1 29 7), (1, 50)) ∷ ((Enter 1 30 8), (1, 50))
    ∷ ((Leave 1 8 30), (1, 50)) ∷ ((Leave 1 9 31), (1, 50)) ∷ ((Le 22 32), (1, 47)) ∷ ((Le 23 33), (1, 47))
    ∷ ((Le 33 23), (1, 47)) ∷ ((Le 24 34), (1, 47)) ∷ ((Le 34 24), (1, 47)) ∷ ((Le 25 35), (1, 47))
    ∷ ((Le 35 25), (1, 47)) ∷ ((Le 26 36), (1, 47)) ∷ ((Le 36 26), (1, 47)) ∷ ((Le 27 32), (1, 47))
    ∷ ((Le 28 33), (1, 47)) ∷ ((Le 33 28), (1, 47)) ∷ ((Le 29 34), (1, 47)) ∷ ((Le 34 29), (1, 47))
    ∷ ((Le 30 35), (1, 47)) ∷ ((Le 35 30), (1, 47)) ∷ ((Le 31 36), (1, 47)) ∷ ((Le 36 31), (1, 47)) ∷ [])
    ((record { unit = 1; token = 47; target = 0; owner = (Function 0) })
    ∷ (record { unit = 1; token = 50; target = 0; owner = (Function 0) }) ∷ [])
    (Nobody ∷ Nobody ∷ Nobody ∷ Nobody ∷ Nobody ∷ (Function 0) ∷ (Function 0) ∷ (Function 0) ∷ (Function 0)
    ∷ (Function 0) ∷ (Function 0) ∷ (Function 0) ∷ (Function 0) ∷ (Function 0) ∷ (Function 0) ∷ (Function 0)
    ∷ (Function 0) ∷ (Function 0) ∷ (Function 0) ∷ (Function 0) ∷ (Function 0) ∷ (Function 0) ∷ (Function 0)
    ∷ (Function 0) ∷ (Function 0) ∷ (Function 0) ∷ (Function 0) ∷ (Function 0) ∷ (Function 0) ∷ (Function 0)
    ∷ (Function 0) ∷ (Function 0) ∷ (Function 0) ∷ (Function 0) ∷ (Function 0) ∷ (Function 0) ∷ (Function 0) ∷ [])
    × Gives program_67 (((Le 4 10), (1, 10)) ∷ ((Le 5 11), (1, 10)) ∷ ((Le 11 5), (1, 10)) ∷ ((Le 6 12), (1, 10))
    ∷ ((Le 12 6), (1, 10)) ∷ ((Le 0 11), (1, 13)) ∷ ((Le 1 12), (1, 13)) ∷ ((Le 12 1), (1, 13))
    ∷ ((Leave 0 2 13), (1, 23)) ∷ ((Leave 0 3 14), (1, 23)) ∷ ((Enter 0 15 4), (1, 23)) ∷ ((Enter 0 16 5), (1, 23))
    ∷ ((Leave 0 5 16), (1, 23)) ∷ ((Enter 0 17 6), (1, 23)) ∷ ((Leave 0 6 17), (1, 23)) ∷ ((Leave 0 7 18), (1, 23))
    ∷ ((Leave 0 8 19), (1, 23)) ∷ ((Enter 0 19 8), (1, 23)) ∷ ((Le 10 15), (1, 25)) ∷ ((Le 11 16), (1, 25))
    ∷ ((Le 16 11), (1, 25)) ∷ ((Le 12 17), (1, 25)) ∷ ((Le 17 12), (1, 25)) ∷ ((Le 18 11), (1, 20))
    ∷ ((Le 19 12), (1, 20)) ∷ ((Le 12 19), (1, 20)) ∷ ((Leave 1 2 20), (1, 33)) ∷ ((Leave 1 3 21), (1, 33))
    ∷ ((Enter 1 22 4), (1, 33)) ∷ ((Enter 1 23 5), (1, 33)) ∷ ((Leave 1 5 23), (1, 33)) ∷ ((Enter 1 24 6), (1, 33))
    ∷ ((Leave 1 6 24), (1, 33)) ∷ ((Leave 1 7 25), (1, 33)) ∷ ((Leave 1 8 26), (1, 33)) ∷ ((Enter 1 26 8), (1, 33))
    ∷ ((Le 11 28), (1, 28)) ∷ ((Le 12 29), (1, 28)) ∷ ((Le 29 12), (1, 28)) ∷ ((Le 25 28), (1, 28))
    ∷ ((Le 26 29), (1, 28)) ∷ ((Le 29 26), (1, 28)) ∷ ((Le 28 7), (1, 19)) ∷ ((Le 29 8), (1, 19)) ∷ ((Le 8 29), (1, 19))
    ∷ []) ((record { unit = 1; token = 23; target = 0; owner = (Function 0) })
    ∷ (record { unit = 1; token = 33; target = 0; owner = (Function 0) }) ∷ []) (Nobody ∷ Nobody ∷ (Function 0)
    ∷ (Function 0) ∷ (Function 0) ∷ (Function 0) ∷ (Function 0) ∷ (Function 0) ∷ (Function 0) ∷ (Function 0)
    ∷ (Function 0) ∷ (Function 0) ∷ (Function 0) ∷ (Function 0) ∷ (Function 0) ∷ (Function 0) ∷ (Function 0)
    ∷ (Function 0) ∷ (Function 0) ∷ (Function 0) ∷ (Function 0) ∷ (Function 0) ∷ (Function 0) ∷ (Function 0)
    ∷ (Function 0) ∷ (Function 0) ∷ (Function 0) ∷ (Function 0) ∷ (Function 0) ∷ (Function 0) ∷ [])
    × Gives program_68 (((Const 0 1 1), (1, 0)) ∷ ((Le 10 14), (1, 20)) ∷ ((Le 11 15), (1, 20)) ∷ ((Le 15 11), (1, 20))
    ∷ ((Leave 0 2 16), (1, 23)) ∷ ((Leave 0 3 17), (1, 23)) ∷ ((Enter 0 18 4), (1, 23)) ∷ ((Enter 0 19 5), (1, 23))
    ∷ ((Enter 0 20 6), (1, 23)) ∷ ((Leave 0 6 20), (1, 23)) ∷ ((Leave 0 7 21), (1, 23)) ∷ ((Le 1 18), (1, 25))
    ∷ ((Le 14 19), (1, 27)) ∷ ((Le 15 20), (1, 27)) ∷ ((Le 20 15), (1, 27)) ∷ ((Leave 1 2 22), (1, 30))
    ∷ ((Leave 1 3 23), (1, 30)) ∷ ((Enter 1 24 4), (1, 30)) ∷ ((Enter 1 25 5), (1, 30)) ∷ ((Enter 1 26 6), (1, 30))
    ∷ ((Leave 1 6 26), (1, 30)) ∷ ((Leave 1 7 27), (1, 30)) ∷ ((Leave 2 2 30), (1, 37)) ∷ ((Leave 2 3 31), (1, 37))
    ∷ ((Enter 2 32 4), (1, 37)) ∷ ((Enter 2 33 5), (1, 37)) ∷ ((Enter 2 34 6), (1, 37)) ∷ ((Leave 2 6 34), (1, 37))
    ∷ ((Leave 2 7 35), (1, 37)) ∷ ((Leave 3 2 40), (1, 50)) ∷ ((Leave 3 3 41), (1, 50)) ∷ ((Enter 3 42 4), (1, 50))
    ∷ ((Enter 3 43 5), (1, 50)) ∷ ((Enter 3 44 6), (1, 50)) ∷ ((Leave 3 6 44), (1, 50)) ∷ ((Leave 3 7 45), (1, 50))
    ∷ ((Le 46 42), (1, 52)) ∷ ((Le 48 43), (1, 54)) ∷ ((Le 49 44), (1, 54)) ∷ ((Le 44 49), (1, 54))
    ∷ ((Leave 4 2 50), (1, 61)) ∷ ((Leave 4 3 51), (1, 61)) ∷ ((Enter 4 52 4), (1, 61)) ∷ ((Enter 4 53 5), (1, 61))
    ∷ ((Enter 4 54 6), (1, 61)) ∷ ((Leave 4 6 54), (1, 61)) ∷ ((Leave 4 7 55), (1, 61)) ∷ [])
    ((record { unit = 1; token = 23; target = 0; owner = (Function 1) })
    ∷ (record { unit = 1; token = 30; target = 0; owner = (Function 1) })
    ∷ (record { unit = 1; token = 37; target = 0; owner = (Function 1) })
    ∷ (record { unit = 1; token = 50; target = 0; owner = (Function 1) })
    ∷ (record { unit = 1; token = 61; target = 0; owner = (Function 1) }) ∷ [])
    (Nobody ∷ Nobody ∷ (Function 0) ∷ (Function 0) ∷ (Function 0) ∷ (Function 0) ∷ (Function 0) ∷ (Function 0)
    ∷ (Function 1) ∷ (Function 1) ∷ (Function 1) ∷ (Function 1) ∷ (Function 1) ∷ (Function 1) ∷ (Function 1)
    ∷ (Function 1) ∷ (Function 1) ∷ (Function 1) ∷ (Function 1) ∷ (Function 1) ∷ (Function 1) ∷ (Function 1)
    ∷ (Function 1) ∷ (Function 1) ∷ (Function 1) ∷ (Function 1) ∷ (Function 1) ∷ (Function 1) ∷ (Function 1)
    ∷ (Function 1) ∷ (Function 1) ∷ (Function 1) ∷ (Function 1) ∷ (Function 1) ∷ (Function 1) ∷ (Function 1)
    ∷ (Function 1) ∷ (Function 1) ∷ (Function 1) ∷ (Function 1) ∷ (Function 1) ∷ (Function 1) ∷ (Function 1)
    ∷ (Function 1) ∷ (Function 1) ∷ (Function 1) ∷ (Function 1) ∷ (Function 1) ∷ (Function 1) ∷ (Function 1)
    ∷ (Function 1) ∷ (Function 1) ∷ (Function 1) ∷ (Function 1) ∷ (Function 1) ∷ (Function 1) ∷ (Function 1)
    ∷ (Function 1) ∷ (Function 1) ∷ (Function 1) ∷ (Function 1) ∷ (Function 1) ∷ [])
    × Gives program_69 (((Const 0 1 1), (1, 0)) ∷ ((Le 13 17), (1, 27)) ∷ ((Le 14 18), (1, 27)) ∷ ((Le 18 14), (1, 27))
    ∷ ((Leave 0 2 19), (1, 30)) ∷ ((Leave 0 3 20), (1, 30)) ∷ ((Enter 0 21 4), (1, 30)) ∷ ((Leave 0 5 22), (1, 30))
    ∷ ((Enter 0 23 6), (1, 30)) ∷ ((Leave 1 11 25), (1, 42)) ∷ ((Leave 1 12 26), (1, 42)) ∷ ((Enter 1 27 13), (1, 42))
    ∷ ((Enter 1 28 14), (1, 42)) ∷ ((Leave 1 14 28), (1, 42)) ∷ ((Leave 1 15 29), (1, 42)) ∷ ((Le 17 27), (1, 44))
    ∷ ((Le 18 28), (1, 44)) ∷ ((Le 28 18), (1, 44)) ∷ ((Leave 2 2 32), (1, 55)) ∷ ((Leave 2 3 33), (1, 55))
    ∷ ((Enter 2 34 4), (1, 55)) ∷ ((Leave 2 5 35), (1, 55)) ∷ ((Enter 2 36 6), (1, 55)) ∷ ((Le 1 21), (1, 32))
    ∷ ((Le 17 23), (1, 34)) ∷ ((Le 18 23), (1, 34)) ∷ ((Le 23 18), (1, 34)) ∷ ((Le 1 23), (1, 36))
    ∷ ((Le 10 23), (1, 38)) ∷ ((Le 16 23), (1, 52)) ∷ ((Le 17 23), (1, 52)) ∷ ((Le 23 17), (1, 52))
    ∷ ((Le 18 23), (1, 52)) ∷ ((Le 23 18), (1, 52)) ∷ ((Le 32 23), (1, 55)) ∷ ((Le 33 23), (1, 55))
    ∷ ((Le 23 33), (1, 55)) ∷ ((Le 34 23), (1, 55)) ∷ ((Le 23 34), (1, 55)) ∷ ((Le 35 23), (1, 55))
    ∷ ((Le 23 35), (1, 55)) ∷ ((Le 36 23), (1, 55)) ∷ ((Le 23 36), (1, 55)) ∷ ((Le 37 23), (1, 57))
    ∷ ((Leave 3 2 38), (1, 60)) ∷ ((Leave 3 3 39), (1, 60)) ∷ ((Enter 3 40 4), (1, 60)) ∷ ((Leave 3 5 41), (1, 60))
    ∷ ((Enter 3 42 6), (1, 60)) ∷ ((Le 43 40), (1, 62)) ∷ [])
    ((record { unit = 1; token = 30; target = 0; owner = (Function 1) })
    ∷ (record { unit = 1; token = 42; target = 1; owner = (Function 1) })
    ∷ (record { unit = 1; token = 55; target = 0; owner = (Function 1) })
    ∷ (record { unit = 1; token = 60; target = 0; owner = (Function 1) }) ∷ [])
    (Nobody ∷ Nobody ∷ (Function 0) ∷ (Function 0) ∷ (Function 0) ∷ (Function 0) ∷ (Function 0) ∷ Nobody ∷ Nobody
    ∷ Nobody ∷ Nobody ∷ (Function 1) ∷ (Function 1) ∷ (Function 1) ∷ (Function 1) ∷ (Function 1) ∷ (Function 1)
    ∷ (Function 1) ∷ (Function 1) ∷ (Function 1) ∷ (Function 1) ∷ (Function 1) ∷ (Function 1) ∷ (Function 1)
    ∷ (Function 1) ∷ (Function 1) ∷ (Function 1) ∷ (Function 1) ∷ (Function 1) ∷ (Function 1) ∷ (Function 1)
    ∷ (Function 1) ∷ (Function 1) ∷ (Function 1) ∷ (Function 1) ∷ (Function 1) ∷ (Function 1) ∷ (Function 1)
    ∷ (Function 1) ∷ (Function 1) ∷ (Function 1) ∷ (Function 1) ∷ (Function 1) ∷ (Function 1) ∷ [])
    × Gives program_70
    (((Le 10 14), (1, 15)) ∷ ((Le 11 15), (1, 15)) ∷ ((Le 15 11), (1, 15)) ∷ ((Le 6 16), (1, 20)) ∷ ((Le 7 17), (1, 20))
    ∷ ((Le 17 7), (1, 20)) ∷ ((Le 3 16), (1, 20)) ∷ ((Le 4 17), (1, 20)) ∷ ((Le 17 4), (1, 20)) ∷ ((Le 16 6), (1, 18))
    ∷ ((Le 17 7), (1, 18)) ∷ ((Le 7 17), (1, 18)) ∷ ((Le 3 18), (1, 28)) ∷ ((Le 4 19), (1, 28)) ∷ ((Le 19 4), (1, 28))
    ∷ ((Le 6 18), (1, 28)) ∷ ((Le 7 19), (1, 28)) ∷ ((Le 19 7), (1, 28)) ∷ ((Le 18 6), (1, 26)) ∷ ((Le 19 7), (1, 26))
    ∷ ((Le 7 19), (1, 26)) ∷ ((Le 6 20), (1, 34)) ∷ ((Le 7 21), (1, 34)) ∷ ((Le 21 7), (1, 34)) ∷ ((Le 1 20), (1, 34))
    ∷ ((Le 21 20), (1, 34)) ∷ ((Le 20 21), (1, 34)) ∷ ((Le 1 22), (1, 40)) ∷ ((Le 23 22), (1, 40))
    ∷ ((Le 22 23), (1, 40)) ∷ ((Le 6 22), (1, 40)) ∷ ((Le 7 23), (1, 40)) ∷ ((Le 23 7), (1, 40)) ∷ ((Le 6 24), (1, 46))
    ∷ ((Le 7 25), (1, 46)) ∷ ((Le 25 7), (1, 46)) ∷ ((Le 6 24), (1, 46)) ∷ ((Le 7 25), (1, 46)) ∷ ((Le 25 7), (1, 46))
    ∷ ((Le 14 26), (1, 52)) ∷ ((Le 15 27), (1, 52)) ∷ ((Le 27 15), (1, 52)) ∷ ((Le 1 26), (1, 52))
    ∷ ((Le 27 26), (1, 52)) ∷ ((Le 26 27), (1, 52)) ∷ ((Le 1 28), (1, 58)) ∷ ((Le 29 28), (1, 58))
    ∷ ((Le 28 29), (1, 58)) ∷ ((Le 14 28), (1, 58)) ∷ ((Le 15 29), (1, 58)) ∷ ((Le 29 15), (1, 58)) ∷ []) []
    (Nobody ∷ Nobody ∷ Nobody ∷ Nobody ∷ Nobody ∷ Nobody ∷ Nobody ∷ Nobody ∷ (Function 0) ∷ (Function 0) ∷ (Function 0)
    ∷ (Function 0) ∷ (Function 0) ∷ (Function 0) ∷ (Function 0) ∷ (Function 0) ∷ (Function 0) ∷ (Function 0)
    ∷ (Function 0) ∷ (Function 0) ∷ (Function 0) ∷ (Function 0) ∷ (Function 0) ∷ (Function 0) ∷ (Function 0)
    ∷ (Function 0) ∷ (Function 0) ∷ (Function 0) ∷ (Function 0) ∷ (Function 0) ∷ [])
    × Gives program_71 (((Leave 0 0 13), (1, 25)) ∷ ((Leave 0 1 14), (1, 25)) ∷ ((Enter 0 15 2), (1, 25))
    ∷ ((Leave 0 3 16), (1, 25)) ∷ ((Enter 0 17 4), (1, 25)) ∷ ((Le 13 6), (1, 23)) ∷ ((Le 14 7), (1, 23))
    ∷ ((Le 7 14), (1, 23)) ∷ ((Le 15 8), (1, 23)) ∷ ((Le 8 15), (1, 23)) ∷ ((Le 16 9), (1, 23)) ∷ ((Le 9 16), (1, 23))
    ∷ ((Leave 1 0 26), (1, 41)) ∷ ((Leave 1 1 27), (1, 41)) ∷ ((Enter 1 28 2), (1, 41)) ∷ ((Leave 1 3 29), (1, 41))
    ∷ ((Enter 1 30 4), (1, 41)) ∷ ((Le 26 19), (1, 41)) ∷ ((Le 27 20), (1, 41)) ∷ ((Le 20 27), (1, 41))
    ∷ ((Le 28 21), (1, 41)) ∷ ((Le 21 28), (1, 41)) ∷ ((Le 22 30), (1, 41)) ∷ ((Le 30 22), (1, 41))
    ∷ ((Le 23 30), (1, 41)) ∷ ((Le 30 23), (1, 41)) ∷ ((Le 29 24), (1, 41)) ∷ ((Le 24 29), (1, 41))
    ∷ ((Le 30 25), (1, 41)) ∷ ((Le 25 30), (1, 41)) ∷ ((Le 6 19), (1, 43)) ∷ ((Le 7 20), (1, 43)) ∷ ((Le 20 7), (1, 43))
    ∷ ((Le 8 21), (1, 43)) ∷ ((Le 21 8), (1, 43)) ∷ ((Le 9 24), (1, 43)) ∷ ((Le 24 9), (1, 43)) ∷ ((Le 19 31), (1, 49))
    ∷ ((Le 20 32), (1, 49)) ∷ ((Le 32 20), (1, 49)) ∷ ((Le 21 33), (1, 49)) ∷ ((Le 33 21), (1, 49))
    ∷ ((Le 22 34), (1, 49)) ∷ ((Le 34 22), (1, 49)) ∷ ((Le 23 34), (1, 49)) ∷ ((Le 34 23), (1, 49))
    ∷ ((Le 24 35), (1, 49)) ∷ ((Le 35 24), (1, 49)) ∷ ((Le 31 6), (1, 47)) ∷ ((Le 32 7), (1, 47)) ∷ ((Le 7 32), (1, 47))
    ∷ ((Le 33 8), (1, 47)) ∷ ((Le 8 33), (1, 47)) ∷ ((Le 35 9), (1, 47)) ∷ ((Le 9 35), (1, 47)) ∷ [])
    ((record { unit = 1; token = 25; target = 0; owner = (Function 1) })
    ∷ (record { unit = 1; token = 41; target = 0; owner = (Function 1) }) ∷ [])
    ((Function 0) ∷ (Function 0) ∷ (Function 0) ∷ (Function 0) ∷ (Function 0) ∷ Nobody ∷ Nobody ∷ Nobody ∷ Nobody
    ∷ Nobody ∷ (Function 1) ∷ (Function 1) ∷ (Function 1) ∷ (Function 1) ∷ (Function 1) ∷ (Function 1) ∷ (Function 1)
    ∷ (Function 1) ∷ (Function 1) ∷ (Function 1) ∷ (Function 1) ∷ (Function 1) ∷ (Function 1) ∷ (Function 1)
    ∷ (Function 1) ∷ (Function 1) ∷ (Function 1) ∷ (Function 1) ∷ (Function 1) ∷ (Function 1) ∷ (Function 1)
    ∷ (Function 1) ∷ (Function 1) ∷ (Function 1) ∷ (Function 1) ∷ (Function 1) ∷ [])

-- all programs give what was worked out for them
abbrev pub ExamplesHold : Type 0
ExamplesHold = Group1 × Group2 × Group3 × Group4 × Group5 × Group6
