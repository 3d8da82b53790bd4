-- Small programs of wider C with the whole list of their constraints, their call sites and the owners of their
-- variables, which were worked out elsewhere; each form that wider C alone has and that bears on constraints stands in
-- one of them. The trees were made from the sources by a program outside the repository.
use Rattle.std.specs.Prelude.{ℕ, true, false, List, [], ◌∷◌, None, Some, is_some}
use Rattle.c_words.specs.declared.kinds.Keyword.TheVariants as keywords
use Rattle.c_words.specs.declared.kinds.Punct.TheVariants as signs
use Rattle.c_syntax.specs.declared.parts.Qual.TheVariants as quals
use Rattle.c_syntax.specs.declared.parts.PointerWord.TheVariants as pointer_words
use Rattle.qual_base.specs.declared.places.Owner.TheVariants.{Nobody, Function}
use Rattle.lattice_core.specs.declared.Deref.TheVariants as derefs
use Rattle.lattice_core.specs.declared.Level.TheVariants as levels
use Rattle.lattice_core.specs.declared.Sign.TheVariants as attribute_signs
use Rattle.lattice_core.specs.View.{LatticeView}
use Rattle.flow_graph.specs.declared.constraint.Link.TheVariants.{Le, Const, Bound, Enter, Leave}
use Rattle.c_tree.specs.Tree.{comma, operation, prefix, sizeof_value, sizeof_type, index, call, dot, arrow, name_use, number_use, paren, complex_part, label_use, compat, choose, generic, no_assocs, more_assocs, typed_assoc, default_assoc, assign, no_expr, some_expr, no_exprs, more_exprs, no_words, more_words, storage, inline_word, qualifier, basic, struct_type, typeof_value, typeof_type, auto_word, no_body, some_body, no_struct_items, more_struct_items, member, no_mem_declrs, more_mem_declrs, named, no_value, pointer, declr_name, array, params, abs_pointer, identifiers, no_declr, some_declr, no_size, some_size, size_value, no_params, more_params, init_value, init_braced, init_list, no_init_items, more_init_items, no_desigs, more_desigs, range_desig, old_desig, no_init, some_init, no_init_declrs, more_init_declrs, declaration, decl_declaration, no_block_items, more_block_items, block_decl, block_stmt, block, expr_stmt, label, switch_stmt, return_stmt, case_range, goto_value}
use Rattle.c_tree.specs.Unit.{Item, decl_item, function_item, old_function_item}
use Rattle.constraint_rules.specs.Systems.{Program}
use Rattle.definition_examples.specs.ConstraintExamples.Examples.{Gives, among, mark_among, of_entries}

-- a source of wider C, of unit 1, whose annotation words and zeros stand at these tokens
abbrev pub program : List (ℕ × (ℕ × ℕ)) → List ℕ → List LatticeView → List Item → Program
program marks zeros lattices items = record {
  sources = record {
    spelling = record {
      unit = 1;
      wide = true;
      annotates = λ token. is_some (mark_among marks token);
      is_naught = among zeros;
      key = λ name. name;
    };
    items = items;
  } ∷ [];
  lattices = lattices;
  mark = λ at. mark_among marks at.1;
  index = λ at. [];
}

-- one lattice of values: an upper limit and a lower one
abbrev pub lattices_1 : List LatticeView
lattices_1 = ((of_entries
    ((record { name = []; level = levels.Value; sign = attribute_signs.Neg; write = false; deref = derefs.No })
    ∷ (record { name = []; level = levels.Value; sign = attribute_signs.Pos; write = false; deref = derefs.No }) ∷ []))
    ∷ [])

-- the same with `deref = yes`
abbrev pub lattices_2 : List LatticeView
lattices_2 = ((of_entries
    ((record { name = []; level = levels.Value; sign = attribute_signs.Neg; write = false; deref = derefs.Yes })
    ∷ (record { name = []; level = levels.Value; sign = attribute_signs.Pos; write = false; deref = derefs.No }) ∷ []))
    ∷ [])

-- the same with `deref = access`
abbrev pub lattices_3 : List LatticeView
lattices_3 = ((of_entries
    ((record { name = []; level = levels.Value; sign = attribute_signs.Neg; write = false; deref = derefs.Access })
    ∷ (record { name = []; level = levels.Value; sign = attribute_signs.Pos; write = false; deref = derefs.No }) ∷ []))
    ∷ [])

-- the first lattice and the third
abbrev pub lattices_4 : List LatticeView
lattices_4 = ((of_entries
    ((record { name = []; level = levels.Value; sign = attribute_signs.Neg; write = false; deref = derefs.No })
    ∷ (record { name = []; level = levels.Value; sign = attribute_signs.Pos; write = false; deref = derefs.No }) ∷ []))
    ∷ (of_entries
    ((record { name = []; level = levels.Value; sign = attribute_signs.Neg; write = false; deref = derefs.Access })
    ∷ (record { name = []; level = levels.Value; sign = attribute_signs.Pos; write = false; deref = derefs.No }) ∷ []))
    ∷ [])

-- $tainted int a; $untainted int b; int id(x) int x; { return x; } void f(void) { typeof(b) c = id(a); b = c; }
abbrev pub program_1 : Program
program_1 =
    program ((0, (0, 1)) ∷ (4, (0, 0)) ∷ []) [] lattices_1 ((decl_item (decl_declaration (declaration [] (more_words
    (qualifier (quals.Element 0)) (more_words (basic (record { token = 1; keyword = keywords.Int })) no_words))
    (more_init_declrs [] (declr_name 2 0) None [] no_init no_init_declrs) 3)))
    ∷ (decl_item (decl_declaration (declaration [] (more_words (qualifier (quals.Element 4))
    (more_words (basic (record { token = 5; keyword = keywords.Int })) no_words))
    (more_init_declrs [] (declr_name 6 1) None [] no_init no_init_declrs) 7)))
    ∷ (old_function_item [] (more_words (basic (record { token = 8; keyword = keywords.Int })) no_words)
    (identifiers (declr_name 9 2) 10 ((record { token = 11; name = 3 }) ∷ []) 12) []
    ((declaration [] (more_words (basic (record { token = 13; keyword = keywords.Int })) no_words)
    (more_init_declrs [] (declr_name 14 3) None [] no_init no_init_declrs) 15) ∷ []) 16
    (more_block_items (block_stmt (return_stmt 17 (some_expr (name_use 18 3)) 19)) no_block_items) 20)
    ∷ (function_item [] (more_words (basic (record { token = 21; keyword = keywords.Void })) no_words) (params
    (declr_name 22 4) 23 (more_params (more_words (basic (record { token = 24; keyword = keywords.Void })) no_words)
    no_declr [] no_params) None 25) [] 26 (more_block_items (block_decl (decl_declaration (declaration []
    (more_words (typeof_value 27 28 (name_use 29 1) 30) no_words) (more_init_declrs [] (declr_name 31 5) None []
    (some_init 32 (init_value (call (name_use 33 2) 34 (more_exprs (name_use 35 0) no_exprs) 36))) no_init_declrs) 37)))
    (more_block_items (block_stmt (expr_stmt
    (some_expr (operation (name_use 38 1) (assign signs.Equal) 39 (name_use 40 5))) 41)) no_block_items)) 42) ∷ [])

-- $tainted int t; typeof(t) a; typeof($untainted int) b; void f(void) { a = t; b = a; }
abbrev pub program_2 : Program
program_2 =
    program ((0, (0, 1)) ∷ (12, (0, 0)) ∷ []) [] lattices_1 ((decl_item (decl_declaration (declaration [] (more_words
    (qualifier (quals.Element 0)) (more_words (basic (record { token = 1; keyword = keywords.Int })) no_words))
    (more_init_declrs [] (declr_name 2 0) None [] no_init no_init_declrs) 3)))
    ∷ (decl_item (decl_declaration (declaration [] (more_words (typeof_value 4 5 (name_use 6 0) 7) no_words)
    (more_init_declrs [] (declr_name 8 1) None [] no_init no_init_declrs) 9))) ∷ (decl_item (decl_declaration
    (declaration [] (more_words (typeof_type (record { token = 10; keyword = keywords.Typeof }) 11 (more_words
    (qualifier (quals.Element 12)) (more_words (basic (record { token = 13; keyword = keywords.Int })) no_words))
    no_declr 14) no_words) (more_init_declrs [] (declr_name 15 2) None [] no_init no_init_declrs) 16)))
    ∷ (function_item [] (more_words (basic (record { token = 17; keyword = keywords.Void })) no_words) (params
    (declr_name 18 3) 19 (more_params (more_words (basic (record { token = 20; keyword = keywords.Void })) no_words)
    no_declr [] no_params) None 21) [] 22 (more_block_items (block_stmt (expr_stmt (some_expr
    (operation (name_use 23 1) (assign signs.Equal) 24 (name_use 25 0))) 26)) (more_block_items (block_stmt (expr_stmt
    (some_expr (operation (name_use 27 2) (assign signs.Equal) 28 (name_use 29 1))) 30)) no_block_items)) 31) ∷ [])

-- int f(a, b) char *b; int a; { return a; }
abbrev pub program_3 : Program
program_3 =
    program [] [] lattices_1
    ((old_function_item [] (more_words (basic (record { token = 0; keyword = keywords.Int })) no_words)
    (identifiers (declr_name 1 0) 2 ((record { token = 3; name = 1 }) ∷ (record { token = 5; name = 2 }) ∷ []) 6) []
    ((declaration [] (more_words (basic (record { token = 7; keyword = keywords.Char })) no_words)
    (more_init_declrs [] (pointer 8 [] (declr_name 9 2)) None [] no_init no_init_declrs) 10)
    ∷ (declaration [] (more_words (basic (record { token = 11; keyword = keywords.Int })) no_words)
    (more_init_declrs [] (declr_name 12 1) None [] no_init no_init_declrs) 13) ∷ []) 14
    (more_block_items (block_stmt (return_stmt 15 (some_expr (name_use 16 1)) 17)) no_block_items) 18) ∷ [])

-- $tainted int t; $untainted int u; int f(a) int a; { return a; } void h(void) { u = f(t); }
abbrev pub program_4 : Program
program_4 =
    program ((0, (0, 1)) ∷ (4, (0, 0)) ∷ []) [] lattices_1 ((decl_item (decl_declaration (declaration [] (more_words
    (qualifier (quals.Element 0)) (more_words (basic (record { token = 1; keyword = keywords.Int })) no_words))
    (more_init_declrs [] (declr_name 2 0) None [] no_init no_init_declrs) 3)))
    ∷ (decl_item (decl_declaration (declaration [] (more_words (qualifier (quals.Element 4))
    (more_words (basic (record { token = 5; keyword = keywords.Int })) no_words))
    (more_init_declrs [] (declr_name 6 1) None [] no_init no_init_declrs) 7)))
    ∷ (old_function_item [] (more_words (basic (record { token = 8; keyword = keywords.Int })) no_words)
    (identifiers (declr_name 9 2) 10 ((record { token = 11; name = 3 }) ∷ []) 12) []
    ((declaration [] (more_words (basic (record { token = 13; keyword = keywords.Int })) no_words)
    (more_init_declrs [] (declr_name 14 3) None [] no_init no_init_declrs) 15) ∷ []) 16
    (more_block_items (block_stmt (return_stmt 17 (some_expr (name_use 18 3)) 19)) no_block_items) 20) ∷ (function_item
    [] (more_words (basic (record { token = 21; keyword = keywords.Void })) no_words) (params (declr_name 22 4) 23
    (more_params (more_words (basic (record { token = 24; keyword = keywords.Void })) no_words) no_declr [] no_params)
    None 25) [] 26 (more_block_items (block_stmt (expr_stmt (some_expr (operation (name_use 27 1) (assign signs.Equal)
    28 (call (name_use 29 2) 30 (more_exprs (name_use 31 0) no_exprs) 32))) 33)) no_block_items) 34) ∷ [])

-- $tainted int t; int f(a) $untainted int a; { return a; } void h(void) { f(t); }
abbrev pub program_5 : Program
program_5 =
    program ((0, (0, 1)) ∷ (9, (0, 0)) ∷ []) [] lattices_1 ((decl_item (decl_declaration (declaration [] (more_words
    (qualifier (quals.Element 0)) (more_words (basic (record { token = 1; keyword = keywords.Int })) no_words))
    (more_init_declrs [] (declr_name 2 0) None [] no_init no_init_declrs) 3)))
    ∷ (old_function_item [] (more_words (basic (record { token = 4; keyword = keywords.Int })) no_words)
    (identifiers (declr_name 5 1) 6 ((record { token = 7; name = 2 }) ∷ []) 8) [] ((declaration [] (more_words
    (qualifier (quals.Element 9)) (more_words (basic (record { token = 10; keyword = keywords.Int })) no_words))
    (more_init_declrs [] (declr_name 11 2) None [] no_init no_init_declrs) 12) ∷ []) 13
    (more_block_items (block_stmt (return_stmt 14 (some_expr (name_use 15 2)) 16)) no_block_items) 17)
    ∷ (function_item [] (more_words (basic (record { token = 18; keyword = keywords.Void })) no_words) (params
    (declr_name 19 3) 20 (more_params (more_words (basic (record { token = 21; keyword = keywords.Void })) no_words)
    no_declr [] no_params) None 22) [] 23 (more_block_items (block_stmt (expr_stmt
    (some_expr (call (name_use 24 1) 25 (more_exprs (name_use 26 0) no_exprs) 27)) 28)) no_block_items) 29) ∷ [])

-- $tainted char *t; int f(a, b) char *a; $untainted char *b; { a = b; return 0; } void h(void) { f(t, t); }
abbrev pub program_6 : Program
program_6 =
    program ((0, (0, 1)) ∷ (16, (0, 0)) ∷ []) (27 ∷ []) lattices_1
    ((decl_item (decl_declaration (declaration [] (more_words (qualifier (quals.Element 0))
    (more_words (basic (record { token = 1; keyword = keywords.Char })) no_words))
    (more_init_declrs [] (pointer 2 [] (declr_name 3 0)) None [] no_init no_init_declrs) 4)))
    ∷ (old_function_item [] (more_words (basic (record { token = 5; keyword = keywords.Int })) no_words)
    (identifiers (declr_name 6 1) 7 ((record { token = 8; name = 2 }) ∷ (record { token = 10; name = 3 }) ∷ []) 11) []
    ((declaration [] (more_words (basic (record { token = 12; keyword = keywords.Char })) no_words) (more_init_declrs []
    (pointer 13 [] (declr_name 14 2)) None [] no_init no_init_declrs) 15) ∷ (declaration [] (more_words
    (qualifier (quals.Element 16)) (more_words (basic (record { token = 17; keyword = keywords.Char })) no_words))
    (more_init_declrs [] (pointer 18 [] (declr_name 19 3)) None [] no_init no_init_declrs) 20) ∷ []) 21
    (more_block_items
    (block_stmt (expr_stmt (some_expr (operation (name_use 22 2) (assign signs.Equal) 23 (name_use 24 3))) 25))
    (more_block_items (block_stmt (return_stmt 26 (some_expr (number_use 27)) 28)) no_block_items)) 29)
    ∷ (function_item [] (more_words (basic (record { token = 30; keyword = keywords.Void })) no_words) (params
    (declr_name 31 4) 32 (more_params (more_words (basic (record { token = 33; keyword = keywords.Void })) no_words)
    no_declr [] no_params) None 34) [] 35 (more_block_items (block_stmt (expr_stmt (some_expr (call (name_use 36 1) 37
    (more_exprs (name_use 38 0) (more_exprs (name_use 40 0) no_exprs)) 41)) 42)) no_block_items) 43) ∷ [])

-- int f(); $tainted int t; $untainted int u; void h(void) { u = f(t); } int f(a) int a; { return a; }
abbrev pub program_7 : Program
program_7 =
    program ((5, (0, 1)) ∷ (9, (0, 0)) ∷ []) [] lattices_1 ((decl_item
    (decl_declaration (declaration [] (more_words (basic (record { token = 0; keyword = keywords.Int })) no_words)
    (more_init_declrs [] (params (declr_name 1 0) 2 no_params None 3) None [] no_init no_init_declrs) 4)))
    ∷ (decl_item (decl_declaration (declaration [] (more_words (qualifier (quals.Element 5))
    (more_words (basic (record { token = 6; keyword = keywords.Int })) no_words)) (more_init_declrs []
    (declr_name 7 1) None [] no_init no_init_declrs) 8))) ∷ (decl_item (decl_declaration (declaration [] (more_words
    (qualifier (quals.Element 9)) (more_words (basic (record { token = 10; keyword = keywords.Int })) no_words))
    (more_init_declrs [] (declr_name 11 2) None [] no_init no_init_declrs) 12))) ∷ (function_item [] (more_words
    (basic (record { token = 13; keyword = keywords.Void })) no_words) (params (declr_name 14 3) 15 (more_params
    (more_words (basic (record { token = 16; keyword = keywords.Void })) no_words) no_declr [] no_params) None 17) [] 18
    (more_block_items (block_stmt (expr_stmt (some_expr (operation (name_use 19 2) (assign signs.Equal) 20
    (call (name_use 21 0) 22 (more_exprs (name_use 23 1) no_exprs) 24))) 25)) no_block_items) 26)
    ∷ (old_function_item [] (more_words (basic (record { token = 27; keyword = keywords.Int })) no_words)
    (identifiers (declr_name 28 0) 29 ((record { token = 30; name = 4 }) ∷ []) 31) []
    ((declaration [] (more_words (basic (record { token = 32; keyword = keywords.Int })) no_words)
    (more_init_declrs [] (declr_name 33 4) None [] no_init no_init_declrs) 34) ∷ []) 35
    (more_block_items (block_stmt (return_stmt 36 (some_expr (name_use 37 4)) 38)) no_block_items) 39) ∷ [])

-- int id(int x) { return x; } typeof(id(1)) a; void f(void) { typeof(id(2)) b = id(3); }
abbrev pub program_8 : Program
program_8 =
    program [] [] lattices_1
    ((function_item [] (more_words (basic (record { token = 0; keyword = keywords.Int })) no_words)
    (params (declr_name 1 0) 2 (more_params (more_words (basic (record { token = 3; keyword = keywords.Int })) no_words)
    (some_declr (declr_name 4 1)) [] no_params) None 5) [] 6
    (more_block_items (block_stmt (return_stmt 7 (some_expr (name_use 8 1)) 9)) no_block_items) 10)
    ∷ (decl_item (decl_declaration (declaration []
    (more_words (typeof_value 11 12 (call (name_use 13 0) 14 (more_exprs (number_use 15) no_exprs) 16) 17) no_words)
    (more_init_declrs [] (declr_name 18 2) None [] no_init no_init_declrs) 19)))
    ∷ (function_item [] (more_words (basic (record { token = 20; keyword = keywords.Void })) no_words) (params
    (declr_name 21 3) 22 (more_params (more_words (basic (record { token = 23; keyword = keywords.Void })) no_words)
    no_declr [] no_params) None 24) [] 25 (more_block_items (block_decl (decl_declaration (declaration []
    (more_words (typeof_value 26 27 (call (name_use 28 0) 29 (more_exprs (number_use 30) no_exprs) 31) 32) no_words)
    (more_init_declrs [] (declr_name 33 4) None [] (some_init 34 (init_value
    (call (name_use 35 0) 36 (more_exprs (number_use 37) no_exprs) 38))) no_init_declrs) 39))) no_block_items) 40) ∷ [])

-- $user int *p; typeof(*p) a; void f(void) { typeof(*p) b; a = sizeof(typeof(*p)); }
abbrev pub program_9 : Program
program_9 =
    program ((0, (0, 1)) ∷ []) [] lattices_2 ((decl_item (decl_declaration (declaration [] (more_words
    (qualifier (quals.Element 0)) (more_words (basic (record { token = 1; keyword = keywords.Int })) no_words))
    (more_init_declrs [] (pointer 2 [] (declr_name 3 0)) None [] no_init no_init_declrs) 4))) ∷ (decl_item
    (decl_declaration (declaration [] (more_words (typeof_value 5 6 (prefix 7 signs.Star (name_use 8 0)) 9) no_words)
    (more_init_declrs [] (declr_name 10 1) None [] no_init no_init_declrs) 11)))
    ∷ (function_item [] (more_words (basic (record { token = 12; keyword = keywords.Void })) no_words) (params
    (declr_name 13 2) 14 (more_params (more_words (basic (record { token = 15; keyword = keywords.Void })) no_words)
    no_declr [] no_params) None 16) [] 17 (more_block_items (block_decl (decl_declaration
    (declaration [] (more_words (typeof_value 18 19 (prefix 20 signs.Star (name_use 21 0)) 22) no_words)
    (more_init_declrs [] (declr_name 23 3) None [] no_init no_init_declrs) 24)))
    (more_block_items (block_stmt (expr_stmt (some_expr (operation (name_use 25 1) (assign signs.Equal) 26
    (sizeof_type (record { token = 27; keyword = keywords.Sizeof }) 28 (more_words (typeof_value 29 30
    (prefix 31 signs.Star (name_use 32 0)) 33) no_words) no_declr 34))) 35)) no_block_items)) 36) ∷ [])

-- int id(int); void f(void) { switch (id(1)) { case 1 ... sizeof(id(2)): ; } }
abbrev pub program_10 : Program
program_10 =
    program [] [] lattices_1 ((decl_item (decl_declaration
    (declaration [] (more_words (basic (record { token = 0; keyword = keywords.Int })) no_words) (more_init_declrs []
    (params (declr_name 1 0) 2 (more_params (more_words (basic (record { token = 3; keyword = keywords.Int })) no_words)
    no_declr [] no_params) None 4) None [] no_init no_init_declrs) 5)))
    ∷ (function_item [] (more_words (basic (record { token = 6; keyword = keywords.Void })) no_words) (params
    (declr_name 7 1) 8 (more_params (more_words (basic (record { token = 9; keyword = keywords.Void })) no_words)
    no_declr [] no_params) None 10) [] 11 (more_block_items (block_stmt
    (switch_stmt 12 13 (call (name_use 14 0) 15 (more_exprs (number_use 16) no_exprs) 17) 18 (block 19 (more_block_items
    (block_stmt (case_range 20 (number_use 21) 22 (sizeof_value (record { token = 23; keyword = keywords.Sizeof })
    (paren 24 (call (name_use 25 0) 26 (more_exprs (number_use 27) no_exprs) 28) 29)) 30 (expr_stmt no_expr 31)))
    no_block_items) 32))) no_block_items) 33) ∷ [])

-- $tainted _Atomic(int) t; $untainted _Atomic int u; void f(void) { u = t; }
abbrev pub program_11 : Program
program_11 =
    program ((0, (0, 1)) ∷ (7, (0, 0)) ∷ []) [] lattices_1 ((decl_item (decl_declaration (declaration [] (more_words
    (qualifier (quals.Element 0)) (more_words (typeof_type (record { token = 1; keyword = keywords.AtomicType }) 2
    (more_words (basic (record { token = 3; keyword = keywords.Int })) no_words) no_declr 4) no_words))
    (more_init_declrs [] (declr_name 5 0) None [] no_init no_init_declrs) 6)))
    ∷ (decl_item (decl_declaration (declaration [] (more_words (qualifier (quals.Element 7))
    (more_words (qualifier (quals.Word (record { token = 8; keyword = keywords.Atomic })))
    (more_words (basic (record { token = 9; keyword = keywords.Int })) no_words)))
    (more_init_declrs [] (declr_name 10 1) None [] no_init no_init_declrs) 11)))
    ∷ (function_item [] (more_words (basic (record { token = 12; keyword = keywords.Void })) no_words) (params
    (declr_name 13 2) 14 (more_params (more_words (basic (record { token = 15; keyword = keywords.Void })) no_words)
    no_declr [] no_params) None 16) [] 17 (more_block_items (block_stmt (expr_stmt
    (some_expr (operation (name_use 18 1) (assign signs.Equal) 19 (name_use 20 0))) 21)) no_block_items) 22) ∷ [])

-- $tainted int t; $untainted int u; int *p; void f(void) { u = _Generic(p, int: t, default: u); u = _Generic(u, int: u,
-- char: t); }
abbrev pub program_12 : Program
program_12 =
    program ((0, (0, 1)) ∷ (4, (0, 0)) ∷ []) [] lattices_1 ((decl_item (decl_declaration (declaration [] (more_words
    (qualifier (quals.Element 0)) (more_words (basic (record { token = 1; keyword = keywords.Int })) no_words))
    (more_init_declrs [] (declr_name 2 0) None [] no_init no_init_declrs) 3)))
    ∷ (decl_item (decl_declaration (declaration [] (more_words (qualifier (quals.Element 4))
    (more_words (basic (record { token = 5; keyword = keywords.Int })) no_words))
    (more_init_declrs [] (declr_name 6 1) None [] no_init no_init_declrs) 7))) ∷ (decl_item
    (decl_declaration (declaration [] (more_words (basic (record { token = 8; keyword = keywords.Int })) no_words)
    (more_init_declrs [] (pointer 9 [] (declr_name 10 2)) None [] no_init no_init_declrs) 11)))
    ∷ (function_item [] (more_words (basic (record { token = 12; keyword = keywords.Void })) no_words) (params
    (declr_name 13 3) 14 (more_params (more_words (basic (record { token = 15; keyword = keywords.Void })) no_words)
    no_declr [] no_params) None 16) [] 17 (more_block_items
    (block_stmt (expr_stmt (some_expr (operation (name_use 18 1) (assign signs.Equal) 19 (generic 20 21 (name_use 22 2)
    (more_assocs (typed_assoc (more_words (basic (record { token = 24; keyword = keywords.Int })) no_words) no_declr 25
    (name_use 26 0)) (more_assocs (default_assoc 28 29 (name_use 30 1)) no_assocs)) 31))) 32)) (more_block_items
    (block_stmt (expr_stmt (some_expr (operation (name_use 33 1) (assign signs.Equal) 34 (generic 35 36 (name_use 37 1)
    (more_assocs (typed_assoc (more_words (basic (record { token = 39; keyword = keywords.Int })) no_words) no_declr 40
    (name_use 41 1)) (more_assocs (typed_assoc (more_words (basic (record { token = 43; keyword = keywords.Char }))
    no_words) no_declr 44 (name_use 45 0)) no_assocs)) 46))) 47)) no_block_items)) 48) ∷ [])

-- int g(int); extern typeof(g) g; int *p; void f(void) { __auto_type q = p; typeof(q) *r = &q; int a[] = { [0 ... 3] =
-- 1 }; switch (**r) { case 1 ... 3: goto *&&out; } out: ; }
abbrev pub program_13 : Program
program_13 =
    program [] (45 ∷ []) lattices_1 ((decl_item (decl_declaration
    (declaration [] (more_words (basic (record { token = 0; keyword = keywords.Int })) no_words) (more_init_declrs []
    (params (declr_name 1 0) 2 (more_params (more_words (basic (record { token = 3; keyword = keywords.Int })) no_words)
    no_declr [] no_params) None 4) None [] no_init no_init_declrs) 5))) ∷ (decl_item
    (decl_declaration (declaration [] (more_words (storage (record { token = 6; keyword = keywords.Extern }))
    (more_words (typeof_value 7 8 (name_use 9 0) 10) no_words))
    (more_init_declrs [] (declr_name 11 0) None [] no_init no_init_declrs) 12))) ∷ (decl_item
    (decl_declaration (declaration [] (more_words (basic (record { token = 13; keyword = keywords.Int })) no_words)
    (more_init_declrs [] (pointer 14 [] (declr_name 15 1)) None [] no_init no_init_declrs) 16))) ∷ (function_item []
    (more_words (basic (record { token = 17; keyword = keywords.Void })) no_words) (params (declr_name 18 2) 19
    (more_params (more_words (basic (record { token = 20; keyword = keywords.Void })) no_words) no_declr [] no_params)
    None 21) [] 22 (more_block_items (block_decl (decl_declaration (declaration [] (more_words (auto_word 23) no_words)
    (more_init_declrs [] (declr_name 24 3) None [] (some_init 25 (init_value (name_use 26 1))) no_init_declrs) 27)))
    (more_block_items (block_decl (decl_declaration (declaration [] (more_words
    (typeof_value 28 29 (name_use 30 3) 31) no_words) (more_init_declrs [] (pointer 32 [] (declr_name 33 4)) None []
    (some_init 34 (init_value (prefix 35 signs.Ampersand (name_use 36 3)))) no_init_declrs) 37))) (more_block_items
    (block_decl (decl_declaration (declaration [] (more_words (basic (record { token = 38; keyword = keywords.Int }))
    no_words) (more_init_declrs [] (array (declr_name 39 5) 40 [] no_size 41) None [] (some_init 42 (init_braced
    (init_list 43 (more_init_items (more_desigs (range_desig 44 (number_use 45) 46 (number_use 47) 48) no_desigs)
    (Some 49) (init_value (number_use 50)) no_init_items) None 51))) no_init_declrs) 52)))
    (more_block_items (block_stmt (switch_stmt 53 54 (prefix 55 signs.Star (prefix 56 signs.Star (name_use 57 4))) 58
    (block 59 (more_block_items (block_stmt (case_range 60 (number_use 61) 62 (number_use 63) 64
    (goto_value 65 66 (label_use 67 (record { token = 68; name = 6 })) 69))) no_block_items) 70))) (more_block_items
    (block_stmt (label (record { token = 71; name = 6 }) 72 [] (expr_stmt no_expr 73))) no_block_items))))) 74) ∷ [])

-- int x; void f(void) { __auto_type x = &x; }
abbrev pub program_14 : Program
program_14 =
    program [] [] lattices_1 ((decl_item
    (decl_declaration (declaration [] (more_words (basic (record { token = 0; keyword = keywords.Int })) no_words)
    (more_init_declrs [] (declr_name 1 0) None [] no_init no_init_declrs) 2)))
    ∷ (function_item [] (more_words (basic (record { token = 3; keyword = keywords.Void })) no_words) (params
    (declr_name 4 1) 5 (more_params (more_words (basic (record { token = 6; keyword = keywords.Void })) no_words)
    no_declr [] no_params) None 7) [] 8 (more_block_items (block_decl (decl_declaration
    (declaration [] (more_words (auto_word 9) no_words) (more_init_declrs [] (declr_name 10 0) None [] (some_init 11
    (init_value (prefix 12 signs.Ampersand (name_use 13 0)))) no_init_declrs) 14))) no_block_items) 15) ∷ [])

-- int x, y; int *p; $tainted int t; $untainted int u; struct s { int a; int *b; } v, *w; int g(int); void f(void) {
-- $untainted __auto_type a = t; }
abbrev pub program_15 : Program
program_15 =
    program ((9, (0, 1)) ∷ (13, (0, 0)) ∷ (45, (0, 0)) ∷ []) [] lattices_1 ((decl_item (decl_declaration
    (declaration [] (more_words (basic (record { token = 0; keyword = keywords.Int })) no_words) (more_init_declrs []
    (declr_name 1 0) None [] no_init (more_init_declrs [] (declr_name 3 1) None [] no_init no_init_declrs)) 4)))
    ∷ (decl_item (decl_declaration (declaration [] (more_words (basic (record { token = 5; keyword = keywords.Int }))
    no_words) (more_init_declrs [] (pointer 6 [] (declr_name 7 2)) None [] no_init no_init_declrs) 8)))
    ∷ (decl_item (decl_declaration (declaration [] (more_words (qualifier (quals.Element 9))
    (more_words (basic (record { token = 10; keyword = keywords.Int })) no_words)) (more_init_declrs []
    (declr_name 11 3) None [] no_init no_init_declrs) 12))) ∷ (decl_item (decl_declaration (declaration [] (more_words
    (qualifier (quals.Element 13)) (more_words (basic (record { token = 14; keyword = keywords.Int })) no_words))
    (more_init_declrs [] (declr_name 15 4) None [] no_init no_init_declrs) 16)))
    ∷ (decl_item (decl_declaration (declaration [] (more_words (struct_type
    (record { token = 17; keyword = keywords.Struct }) [] (Some (record { token = 18; name = 5 })) (some_body 19
    (more_struct_items (member [] (more_words (basic (record { token = 20; keyword = keywords.Int })) no_words)
    (more_mem_declrs [] (named (declr_name 21 6) no_value []) no_mem_declrs) 22) (more_struct_items
    (member [] (more_words (basic (record { token = 23; keyword = keywords.Int })) no_words) (more_mem_declrs []
    (named (pointer 24 [] (declr_name 25 7)) no_value []) no_mem_declrs) 26) no_struct_items)) 27)) no_words)
    (more_init_declrs [] (declr_name 28 8) None [] no_init (more_init_declrs [] (pointer 30 [] (declr_name 31 9)) None
    [] no_init no_init_declrs)) 32))) ∷ (decl_item (decl_declaration (declaration []
    (more_words (basic (record { token = 33; keyword = keywords.Int })) no_words) (more_init_declrs [] (params
    (declr_name 34 10) 35 (more_params (more_words (basic (record { token = 36; keyword = keywords.Int })) no_words)
    no_declr [] no_params) None 37) None [] no_init no_init_declrs) 38)))
    ∷ (function_item [] (more_words (basic (record { token = 39; keyword = keywords.Void })) no_words) (params
    (declr_name 40 11) 41 (more_params (more_words (basic (record { token = 42; keyword = keywords.Void })) no_words)
    no_declr [] no_params) None 43) [] 44 (more_block_items (block_decl (decl_declaration (declaration [] (more_words
    (qualifier (quals.Element 45)) (more_words (auto_word 46) no_words)) (more_init_declrs [] (declr_name 47 6) None []
    (some_init 48 (init_value (name_use 49 3))) no_init_declrs) 50))) no_block_items) 51) ∷ [])

-- int x, y; int *p; $tainted int t; $untainted int u; struct s { int a; int *b; } v, *w; int g(int); void f(void) {
-- __auto_type a = t; u = a; }
abbrev pub program_16 : Program
program_16 =
    program ((9, (0, 1)) ∷ (13, (0, 0)) ∷ []) [] lattices_1 ((decl_item (decl_declaration
    (declaration [] (more_words (basic (record { token = 0; keyword = keywords.Int })) no_words) (more_init_declrs []
    (declr_name 1 0) None [] no_init (more_init_declrs [] (declr_name 3 1) None [] no_init no_init_declrs)) 4)))
    ∷ (decl_item (decl_declaration (declaration [] (more_words (basic (record { token = 5; keyword = keywords.Int }))
    no_words) (more_init_declrs [] (pointer 6 [] (declr_name 7 2)) None [] no_init no_init_declrs) 8)))
    ∷ (decl_item (decl_declaration (declaration [] (more_words (qualifier (quals.Element 9))
    (more_words (basic (record { token = 10; keyword = keywords.Int })) no_words)) (more_init_declrs []
    (declr_name 11 3) None [] no_init no_init_declrs) 12))) ∷ (decl_item (decl_declaration (declaration [] (more_words
    (qualifier (quals.Element 13)) (more_words (basic (record { token = 14; keyword = keywords.Int })) no_words))
    (more_init_declrs [] (declr_name 15 4) None [] no_init no_init_declrs) 16)))
    ∷ (decl_item (decl_declaration (declaration [] (more_words (struct_type
    (record { token = 17; keyword = keywords.Struct }) [] (Some (record { token = 18; name = 5 })) (some_body 19
    (more_struct_items (member [] (more_words (basic (record { token = 20; keyword = keywords.Int })) no_words)
    (more_mem_declrs [] (named (declr_name 21 6) no_value []) no_mem_declrs) 22) (more_struct_items
    (member [] (more_words (basic (record { token = 23; keyword = keywords.Int })) no_words) (more_mem_declrs []
    (named (pointer 24 [] (declr_name 25 7)) no_value []) no_mem_declrs) 26) no_struct_items)) 27)) no_words)
    (more_init_declrs [] (declr_name 28 8) None [] no_init (more_init_declrs [] (pointer 30 [] (declr_name 31 9)) None
    [] no_init no_init_declrs)) 32))) ∷ (decl_item (decl_declaration (declaration []
    (more_words (basic (record { token = 33; keyword = keywords.Int })) no_words) (more_init_declrs [] (params
    (declr_name 34 10) 35 (more_params (more_words (basic (record { token = 36; keyword = keywords.Int })) no_words)
    no_declr [] no_params) None 37) None [] no_init no_init_declrs) 38))) ∷ (function_item []
    (more_words (basic (record { token = 39; keyword = keywords.Void })) no_words) (params (declr_name 40 11) 41
    (more_params (more_words (basic (record { token = 42; keyword = keywords.Void })) no_words) no_declr [] no_params)
    None 43) [] 44 (more_block_items (block_decl (decl_declaration (declaration [] (more_words (auto_word 45) no_words)
    (more_init_declrs [] (declr_name 46 6) None [] (some_init 47 (init_value (name_use 48 3))) no_init_declrs) 49)))
    (more_block_items (block_stmt (expr_stmt
    (some_expr (operation (name_use 50 4) (assign signs.Equal) 51 (name_use 52 6))) 53)) no_block_items)) 54) ∷ [])

-- int x, y; int *p; $tainted int t; $untainted int u; struct s { int a; int *b; } v, *w; int g(int); void f(void) { u =
-- __builtin_choose_expr(1, x, t); }
abbrev pub program_17 : Program
program_17 =
    program ((9, (0, 1)) ∷ (13, (0, 0)) ∷ []) [] lattices_1 ((decl_item (decl_declaration
    (declaration [] (more_words (basic (record { token = 0; keyword = keywords.Int })) no_words) (more_init_declrs []
    (declr_name 1 0) None [] no_init (more_init_declrs [] (declr_name 3 1) None [] no_init no_init_declrs)) 4)))
    ∷ (decl_item (decl_declaration (declaration [] (more_words (basic (record { token = 5; keyword = keywords.Int }))
    no_words) (more_init_declrs [] (pointer 6 [] (declr_name 7 2)) None [] no_init no_init_declrs) 8)))
    ∷ (decl_item (decl_declaration (declaration [] (more_words (qualifier (quals.Element 9))
    (more_words (basic (record { token = 10; keyword = keywords.Int })) no_words)) (more_init_declrs []
    (declr_name 11 3) None [] no_init no_init_declrs) 12))) ∷ (decl_item (decl_declaration (declaration [] (more_words
    (qualifier (quals.Element 13)) (more_words (basic (record { token = 14; keyword = keywords.Int })) no_words))
    (more_init_declrs [] (declr_name 15 4) None [] no_init no_init_declrs) 16)))
    ∷ (decl_item (decl_declaration (declaration [] (more_words (struct_type
    (record { token = 17; keyword = keywords.Struct }) [] (Some (record { token = 18; name = 5 })) (some_body 19
    (more_struct_items (member [] (more_words (basic (record { token = 20; keyword = keywords.Int })) no_words)
    (more_mem_declrs [] (named (declr_name 21 6) no_value []) no_mem_declrs) 22) (more_struct_items
    (member [] (more_words (basic (record { token = 23; keyword = keywords.Int })) no_words) (more_mem_declrs []
    (named (pointer 24 [] (declr_name 25 7)) no_value []) no_mem_declrs) 26) no_struct_items)) 27)) no_words)
    (more_init_declrs [] (declr_name 28 8) None [] no_init (more_init_declrs [] (pointer 30 [] (declr_name 31 9)) None
    [] no_init no_init_declrs)) 32))) ∷ (decl_item (decl_declaration (declaration []
    (more_words (basic (record { token = 33; keyword = keywords.Int })) no_words) (more_init_declrs [] (params
    (declr_name 34 10) 35 (more_params (more_words (basic (record { token = 36; keyword = keywords.Int })) no_words)
    no_declr [] no_params) None 37) None [] no_init no_init_declrs) 38))) ∷ (function_item [] (more_words
    (basic (record { token = 39; keyword = keywords.Void })) no_words) (params (declr_name 40 11) 41 (more_params
    (more_words (basic (record { token = 42; keyword = keywords.Void })) no_words) no_declr [] no_params) None 43) [] 44
    (more_block_items (block_stmt (expr_stmt (some_expr (operation (name_use 45 4) (assign signs.Equal) 46
    (choose 47 48 (number_use 49) 50 (name_use 51 0) 52 (name_use 53 3) 54))) 55)) no_block_items) 56) ∷ [])

-- int x, y; int *p; $tainted int t; $untainted int u; struct s { int a; int *b; } v, *w; int g(int); void f(void) { u =
-- __builtin_choose_expr(g(t), x, y); }
abbrev pub program_18 : Program
program_18 =
    program ((9, (0, 1)) ∷ (13, (0, 0)) ∷ []) [] lattices_1 ((decl_item (decl_declaration
    (declaration [] (more_words (basic (record { token = 0; keyword = keywords.Int })) no_words) (more_init_declrs []
    (declr_name 1 0) None [] no_init (more_init_declrs [] (declr_name 3 1) None [] no_init no_init_declrs)) 4)))
    ∷ (decl_item (decl_declaration (declaration [] (more_words (basic (record { token = 5; keyword = keywords.Int }))
    no_words) (more_init_declrs [] (pointer 6 [] (declr_name 7 2)) None [] no_init no_init_declrs) 8)))
    ∷ (decl_item (decl_declaration (declaration [] (more_words (qualifier (quals.Element 9))
    (more_words (basic (record { token = 10; keyword = keywords.Int })) no_words)) (more_init_declrs []
    (declr_name 11 3) None [] no_init no_init_declrs) 12))) ∷ (decl_item (decl_declaration (declaration [] (more_words
    (qualifier (quals.Element 13)) (more_words (basic (record { token = 14; keyword = keywords.Int })) no_words))
    (more_init_declrs [] (declr_name 15 4) None [] no_init no_init_declrs) 16)))
    ∷ (decl_item (decl_declaration (declaration [] (more_words (struct_type
    (record { token = 17; keyword = keywords.Struct }) [] (Some (record { token = 18; name = 5 })) (some_body 19
    (more_struct_items (member [] (more_words (basic (record { token = 20; keyword = keywords.Int })) no_words)
    (more_mem_declrs [] (named (declr_name 21 6) no_value []) no_mem_declrs) 22) (more_struct_items
    (member [] (more_words (basic (record { token = 23; keyword = keywords.Int })) no_words) (more_mem_declrs []
    (named (pointer 24 [] (declr_name 25 7)) no_value []) no_mem_declrs) 26) no_struct_items)) 27)) no_words)
    (more_init_declrs [] (declr_name 28 8) None [] no_init (more_init_declrs [] (pointer 30 [] (declr_name 31 9)) None
    [] no_init no_init_declrs)) 32))) ∷ (decl_item (decl_declaration (declaration []
    (more_words (basic (record { token = 33; keyword = keywords.Int })) no_words) (more_init_declrs [] (params
    (declr_name 34 10) 35 (more_params (more_words (basic (record { token = 36; keyword = keywords.Int })) no_words)
    no_declr [] no_params) None 37) None [] no_init no_init_declrs) 38))) ∷ (function_item [] (more_words
    (basic (record { token = 39; keyword = keywords.Void })) no_words) (params (declr_name 40 11) 41 (more_params
    (more_words (basic (record { token = 42; keyword = keywords.Void })) no_words) no_declr [] no_params) None 43) [] 44
    (more_block_items (block_stmt (expr_stmt (some_expr (operation (name_use 45 4) (assign signs.Equal) 46 (choose 47 48
    (call (name_use 49 10) 50 (more_exprs (name_use 51 3) no_exprs) 52) 53 (name_use 54 0) 55 (name_use 56 1) 57))) 58))
    no_block_items) 59) ∷ [])

-- int x, y; int *p; $tainted int t; $untainted int u; struct s { int a; int *b; } v, *w; int g(int); void f(void) { u =
-- __builtin_types_compatible_p($tainted int, typeof(t)); }
abbrev pub program_19 : Program
program_19 =
    program ((9, (0, 1)) ∷ (13, (0, 0)) ∷ (49, (0, 1)) ∷ []) [] lattices_1 ((decl_item (decl_declaration
    (declaration [] (more_words (basic (record { token = 0; keyword = keywords.Int })) no_words) (more_init_declrs []
    (declr_name 1 0) None [] no_init (more_init_declrs [] (declr_name 3 1) None [] no_init no_init_declrs)) 4)))
    ∷ (decl_item (decl_declaration (declaration [] (more_words (basic (record { token = 5; keyword = keywords.Int }))
    no_words) (more_init_declrs [] (pointer 6 [] (declr_name 7 2)) None [] no_init no_init_declrs) 8)))
    ∷ (decl_item (decl_declaration (declaration [] (more_words (qualifier (quals.Element 9))
    (more_words (basic (record { token = 10; keyword = keywords.Int })) no_words)) (more_init_declrs []
    (declr_name 11 3) None [] no_init no_init_declrs) 12))) ∷ (decl_item (decl_declaration (declaration [] (more_words
    (qualifier (quals.Element 13)) (more_words (basic (record { token = 14; keyword = keywords.Int })) no_words))
    (more_init_declrs [] (declr_name 15 4) None [] no_init no_init_declrs) 16)))
    ∷ (decl_item (decl_declaration (declaration [] (more_words (struct_type
    (record { token = 17; keyword = keywords.Struct }) [] (Some (record { token = 18; name = 5 })) (some_body 19
    (more_struct_items (member [] (more_words (basic (record { token = 20; keyword = keywords.Int })) no_words)
    (more_mem_declrs [] (named (declr_name 21 6) no_value []) no_mem_declrs) 22) (more_struct_items
    (member [] (more_words (basic (record { token = 23; keyword = keywords.Int })) no_words) (more_mem_declrs []
    (named (pointer 24 [] (declr_name 25 7)) no_value []) no_mem_declrs) 26) no_struct_items)) 27)) no_words)
    (more_init_declrs [] (declr_name 28 8) None [] no_init (more_init_declrs [] (pointer 30 [] (declr_name 31 9)) None
    [] no_init no_init_declrs)) 32))) ∷ (decl_item (decl_declaration (declaration []
    (more_words (basic (record { token = 33; keyword = keywords.Int })) no_words) (more_init_declrs [] (params
    (declr_name 34 10) 35 (more_params (more_words (basic (record { token = 36; keyword = keywords.Int })) no_words)
    no_declr [] no_params) None 37) None [] no_init no_init_declrs) 38)))
    ∷ (function_item [] (more_words (basic (record { token = 39; keyword = keywords.Void })) no_words) (params
    (declr_name 40 11) 41 (more_params (more_words (basic (record { token = 42; keyword = keywords.Void })) no_words)
    no_declr [] no_params) None 43) [] 44 (more_block_items (block_stmt (expr_stmt (some_expr
    (operation (name_use 45 4) (assign signs.Equal) 46 (compat 47 48 (more_words (qualifier (quals.Element 49))
    (more_words (basic (record { token = 50; keyword = keywords.Int })) no_words)) no_declr 51
    (more_words (typeof_value 52 53 (name_use 54 3) 55) no_words) no_declr 56))) 57)) no_block_items) 58) ∷ [])

-- int x, y; int *p; $tainted int t; $untainted int u; struct s { int a; int *b; } v, *w; int g(int); void f(void) { u =
-- _Generic(x, int: x, char: t); }
abbrev pub program_20 : Program
program_20 =
    program ((9, (0, 1)) ∷ (13, (0, 0)) ∷ []) [] lattices_1 ((decl_item (decl_declaration
    (declaration [] (more_words (basic (record { token = 0; keyword = keywords.Int })) no_words) (more_init_declrs []
    (declr_name 1 0) None [] no_init (more_init_declrs [] (declr_name 3 1) None [] no_init no_init_declrs)) 4)))
    ∷ (decl_item (decl_declaration (declaration [] (more_words (basic (record { token = 5; keyword = keywords.Int }))
    no_words) (more_init_declrs [] (pointer 6 [] (declr_name 7 2)) None [] no_init no_init_declrs) 8)))
    ∷ (decl_item (decl_declaration (declaration [] (more_words (qualifier (quals.Element 9))
    (more_words (basic (record { token = 10; keyword = keywords.Int })) no_words)) (more_init_declrs []
    (declr_name 11 3) None [] no_init no_init_declrs) 12))) ∷ (decl_item (decl_declaration (declaration [] (more_words
    (qualifier (quals.Element 13)) (more_words (basic (record { token = 14; keyword = keywords.Int })) no_words))
    (more_init_declrs [] (declr_name 15 4) None [] no_init no_init_declrs) 16)))
    ∷ (decl_item (decl_declaration (declaration [] (more_words (struct_type
    (record { token = 17; keyword = keywords.Struct }) [] (Some (record { token = 18; name = 5 })) (some_body 19
    (more_struct_items (member [] (more_words (basic (record { token = 20; keyword = keywords.Int })) no_words)
    (more_mem_declrs [] (named (declr_name 21 6) no_value []) no_mem_declrs) 22) (more_struct_items
    (member [] (more_words (basic (record { token = 23; keyword = keywords.Int })) no_words) (more_mem_declrs []
    (named (pointer 24 [] (declr_name 25 7)) no_value []) no_mem_declrs) 26) no_struct_items)) 27)) no_words)
    (more_init_declrs [] (declr_name 28 8) None [] no_init (more_init_declrs [] (pointer 30 [] (declr_name 31 9)) None
    [] no_init no_init_declrs)) 32))) ∷ (decl_item (decl_declaration (declaration []
    (more_words (basic (record { token = 33; keyword = keywords.Int })) no_words) (more_init_declrs [] (params
    (declr_name 34 10) 35 (more_params (more_words (basic (record { token = 36; keyword = keywords.Int })) no_words)
    no_declr [] no_params) None 37) None [] no_init no_init_declrs) 38)))
    ∷ (function_item [] (more_words (basic (record { token = 39; keyword = keywords.Void })) no_words) (params
    (declr_name 40 11) 41 (more_params (more_words (basic (record { token = 42; keyword = keywords.Void })) no_words)
    no_declr [] no_params) None 43) [] 44 (more_block_items
    (block_stmt (expr_stmt (some_expr (operation (name_use 45 4) (assign signs.Equal) 46 (generic 47 48 (name_use 49 0)
    (more_assocs (typed_assoc (more_words (basic (record { token = 51; keyword = keywords.Int })) no_words) no_declr 52
    (name_use 53 0)) (more_assocs (typed_assoc (more_words (basic (record { token = 55; keyword = keywords.Char }))
    no_words) no_declr 56 (name_use 57 3)) no_assocs)) 58))) 59)) no_block_items) 60) ∷ [])

-- int x, y; int *p; $tainted int t; $untainted int u; struct s { int a; int *b; } v, *w; int g(int); void f(void) { u =
-- _Generic(g(t), int *: t, default: x); }
abbrev pub program_21 : Program
program_21 =
    program ((9, (0, 1)) ∷ (13, (0, 0)) ∷ []) [] lattices_1 ((decl_item (decl_declaration
    (declaration [] (more_words (basic (record { token = 0; keyword = keywords.Int })) no_words) (more_init_declrs []
    (declr_name 1 0) None [] no_init (more_init_declrs [] (declr_name 3 1) None [] no_init no_init_declrs)) 4)))
    ∷ (decl_item (decl_declaration (declaration [] (more_words (basic (record { token = 5; keyword = keywords.Int }))
    no_words) (more_init_declrs [] (pointer 6 [] (declr_name 7 2)) None [] no_init no_init_declrs) 8)))
    ∷ (decl_item (decl_declaration (declaration [] (more_words (qualifier (quals.Element 9))
    (more_words (basic (record { token = 10; keyword = keywords.Int })) no_words)) (more_init_declrs []
    (declr_name 11 3) None [] no_init no_init_declrs) 12))) ∷ (decl_item (decl_declaration (declaration [] (more_words
    (qualifier (quals.Element 13)) (more_words (basic (record { token = 14; keyword = keywords.Int })) no_words))
    (more_init_declrs [] (declr_name 15 4) None [] no_init no_init_declrs) 16)))
    ∷ (decl_item (decl_declaration (declaration [] (more_words (struct_type
    (record { token = 17; keyword = keywords.Struct }) [] (Some (record { token = 18; name = 5 })) (some_body 19
    (more_struct_items (member [] (more_words (basic (record { token = 20; keyword = keywords.Int })) no_words)
    (more_mem_declrs [] (named (declr_name 21 6) no_value []) no_mem_declrs) 22) (more_struct_items
    (member [] (more_words (basic (record { token = 23; keyword = keywords.Int })) no_words) (more_mem_declrs []
    (named (pointer 24 [] (declr_name 25 7)) no_value []) no_mem_declrs) 26) no_struct_items)) 27)) no_words)
    (more_init_declrs [] (declr_name 28 8) None [] no_init (more_init_declrs [] (pointer 30 [] (declr_name 31 9)) None
    [] no_init no_init_declrs)) 32))) ∷ (decl_item (decl_declaration (declaration []
    (more_words (basic (record { token = 33; keyword = keywords.Int })) no_words) (more_init_declrs [] (params
    (declr_name 34 10) 35 (more_params (more_words (basic (record { token = 36; keyword = keywords.Int })) no_words)
    no_declr [] no_params) None 37) None [] no_init no_init_declrs) 38))) ∷ (function_item [] (more_words
    (basic (record { token = 39; keyword = keywords.Void })) no_words) (params (declr_name 40 11) 41 (more_params
    (more_words (basic (record { token = 42; keyword = keywords.Void })) no_words) no_declr [] no_params) None 43) [] 44
    (more_block_items (block_stmt (expr_stmt (some_expr (operation (name_use 45 4) (assign signs.Equal) 46 (generic 47
    48 (call (name_use 49 10) 50 (more_exprs (name_use 51 3) no_exprs) 52) (more_assocs (typed_assoc (more_words
    (basic (record { token = 54; keyword = keywords.Int })) no_words) (some_declr (abs_pointer 55 [] no_declr)) 56
    (name_use 57 3)) (more_assocs (default_assoc 59 60 (name_use 61 0)) no_assocs)) 62))) 63)) no_block_items) 64) ∷ [])

-- void f(int x) { void *t[] = { &&a, &&b }; goto *t[x]; a: ; b: ; void *q = &&a; }
abbrev pub program_22 : Program
program_22 =
    program [] [] lattices_1
    ((function_item [] (more_words (basic (record { token = 0; keyword = keywords.Void })) no_words)
    (params (declr_name 1 0) 2 (more_params (more_words (basic (record { token = 3; keyword = keywords.Int })) no_words)
    (some_declr (declr_name 4 1)) [] no_params) None 5) [] 6 (more_block_items (block_decl
    (decl_declaration (declaration [] (more_words (basic (record { token = 7; keyword = keywords.Void })) no_words)
    (more_init_declrs [] (pointer 8 [] (array (declr_name 9 2) 10 [] no_size 11)) None []
    (some_init 12 (init_braced (init_list 13 (more_init_items no_desigs None
    (init_value (label_use 14 (record { token = 15; name = 3 }))) (more_init_items no_desigs None
    (init_value (label_use 17 (record { token = 18; name = 4 }))) no_init_items)) None 19))) no_init_declrs) 20)))
    (more_block_items (block_stmt (goto_value 21 22 (index (name_use 23 2) 24 (name_use 25 1) 26) 27)) (more_block_items
    (block_stmt (label (record { token = 28; name = 3 }) 29 [] (expr_stmt no_expr 30))) (more_block_items
    (block_stmt (label (record { token = 31; name = 4 }) 32 [] (expr_stmt no_expr 33))) (more_block_items (block_decl
    (decl_declaration (declaration [] (more_words (basic (record { token = 34; keyword = keywords.Void })) no_words)
    (more_init_declrs [] (pointer 35 [] (declr_name 36 5)) None [] (some_init 37
    (init_value (label_use 38 (record { token = 39; name = 3 })))) no_init_declrs) 40))) no_block_items))))) 41) ∷ [])

-- int g(int x) { return x; } $tainted int t; $untainted int u; void f(void **q) { goto *(u = g(t), q[g(1)]); }
abbrev pub program_23 : Program
program_23 =
    program ((11, (0, 1)) ∷ (15, (0, 0)) ∷ []) [] lattices_1
    ((function_item [] (more_words (basic (record { token = 0; keyword = keywords.Int })) no_words)
    (params (declr_name 1 0) 2 (more_params (more_words (basic (record { token = 3; keyword = keywords.Int })) no_words)
    (some_declr (declr_name 4 1)) [] no_params) None 5) [] 6
    (more_block_items (block_stmt (return_stmt 7 (some_expr (name_use 8 1)) 9)) no_block_items) 10)
    ∷ (decl_item (decl_declaration (declaration [] (more_words (qualifier (quals.Element 11))
    (more_words (basic (record { token = 12; keyword = keywords.Int })) no_words)) (more_init_declrs []
    (declr_name 13 2) None [] no_init no_init_declrs) 14))) ∷ (decl_item (decl_declaration (declaration [] (more_words
    (qualifier (quals.Element 15)) (more_words (basic (record { token = 16; keyword = keywords.Int })) no_words))
    (more_init_declrs [] (declr_name 17 3) None [] no_init no_init_declrs) 18)))
    ∷ (function_item [] (more_words (basic (record { token = 19; keyword = keywords.Void })) no_words) (params
    (declr_name 20 4) 21 (more_params (more_words (basic (record { token = 22; keyword = keywords.Void })) no_words)
    (some_declr (pointer 23 [] (pointer 24 [] (declr_name 25 5)))) [] no_params) None 26) [] 27 (more_block_items
    (block_stmt (goto_value 28 29 (paren 30 (operation (operation (name_use 31 3) (assign signs.Equal) 32
    (call (name_use 33 0) 34 (more_exprs (name_use 35 2) no_exprs) 36)) comma 37 (index (name_use 38 5) 39
    (call (name_use 40 0) 41 (more_exprs (number_use 42) no_exprs) 43) 44)) 45) 46)) no_block_items) 47) ∷ [])

-- $tainted double _Complex t; $untainted double u; void f(void) { u = __real__ t; }
abbrev pub program_24 : Program
program_24 =
    program ((0, (0, 1)) ∷ (5, (0, 0)) ∷ []) [] lattices_1 ((decl_item (decl_declaration (declaration []
    (more_words (qualifier (quals.Element 0)) (more_words (basic (record { token = 1; keyword = keywords.Double }))
    (more_words (basic (record { token = 2; keyword = keywords.AnyComplex })) no_words))) (more_init_declrs []
    (declr_name 3 0) None [] no_init no_init_declrs) 4))) ∷ (decl_item (decl_declaration (declaration [] (more_words
    (qualifier (quals.Element 5)) (more_words (basic (record { token = 6; keyword = keywords.Double })) no_words))
    (more_init_declrs [] (declr_name 7 1) None [] no_init no_init_declrs) 8)))
    ∷ (function_item [] (more_words (basic (record { token = 9; keyword = keywords.Void })) no_words) (params
    (declr_name 10 2) 11 (more_params (more_words (basic (record { token = 12; keyword = keywords.Void })) no_words)
    no_declr [] no_params) None 13) [] 14 (more_block_items (block_stmt (expr_stmt (some_expr (operation (name_use 15 1)
    (assign signs.Equal) 16 (complex_part 17 (name_use 18 0)))) 19)) no_block_items) 20) ∷ [])

-- $untainted double _Complex u; $tainted double t; void f(void) { __imag__ u = t; }
abbrev pub program_25 : Program
program_25 =
    program ((0, (0, 0)) ∷ (5, (0, 1)) ∷ []) [] lattices_1 ((decl_item (decl_declaration (declaration []
    (more_words (qualifier (quals.Element 0)) (more_words (basic (record { token = 1; keyword = keywords.Double }))
    (more_words (basic (record { token = 2; keyword = keywords.AnyComplex })) no_words))) (more_init_declrs []
    (declr_name 3 0) None [] no_init no_init_declrs) 4))) ∷ (decl_item (decl_declaration (declaration [] (more_words
    (qualifier (quals.Element 5)) (more_words (basic (record { token = 6; keyword = keywords.Double })) no_words))
    (more_init_declrs [] (declr_name 7 1) None [] no_init no_init_declrs) 8)))
    ∷ (function_item [] (more_words (basic (record { token = 9; keyword = keywords.Void })) no_words) (params
    (declr_name 10 2) 11 (more_params (more_words (basic (record { token = 12; keyword = keywords.Void })) no_words)
    no_declr [] no_params) None 13) [] 14 (more_block_items (block_stmt (expr_stmt (some_expr (operation
    (complex_part 15 (name_use 16 0)) (assign signs.Equal) 17 (name_use 18 1))) 19)) no_block_items) 20) ∷ [])

-- $tainted int t; $untainted int u; int a; void f(void) { a[1] = t; u = a[2]; }
abbrev pub program_26 : Program
program_26 =
    program ((0, (0, 1)) ∷ (4, (0, 0)) ∷ []) [] lattices_1 ((decl_item (decl_declaration (declaration [] (more_words
    (qualifier (quals.Element 0)) (more_words (basic (record { token = 1; keyword = keywords.Int })) no_words))
    (more_init_declrs [] (declr_name 2 0) None [] no_init no_init_declrs) 3)))
    ∷ (decl_item (decl_declaration (declaration [] (more_words (qualifier (quals.Element 4))
    (more_words (basic (record { token = 5; keyword = keywords.Int })) no_words))
    (more_init_declrs [] (declr_name 6 1) None [] no_init no_init_declrs) 7))) ∷ (decl_item
    (decl_declaration (declaration [] (more_words (basic (record { token = 8; keyword = keywords.Int })) no_words)
    (more_init_declrs [] (declr_name 9 2) None [] no_init no_init_declrs) 10)))
    ∷ (function_item [] (more_words (basic (record { token = 11; keyword = keywords.Void })) no_words) (params
    (declr_name 12 3) 13 (more_params (more_words (basic (record { token = 14; keyword = keywords.Void })) no_words)
    no_declr [] no_params) None 15) [] 16 (more_block_items (block_stmt (expr_stmt
    (some_expr (operation (index (name_use 17 2) 18 (number_use 19) 20) (assign signs.Equal) 21 (name_use 22 0))) 23))
    (more_block_items (block_stmt (expr_stmt (some_expr (operation (name_use 24 1) (assign signs.Equal) 25
    (index (name_use 26 2) 27 (number_use 28) 29))) 30)) no_block_items)) 31) ∷ [])

-- $tainted int t; $untainted int a[3] = { [0 ... 2] = t };
abbrev pub program_27 : Program
program_27 =
    program ((0, (0, 1)) ∷ (4, (0, 0)) ∷ []) (13 ∷ []) lattices_1
    ((decl_item (decl_declaration (declaration [] (more_words (qualifier (quals.Element 0))
    (more_words (basic (record { token = 1; keyword = keywords.Int })) no_words))
    (more_init_declrs [] (declr_name 2 0) None [] no_init no_init_declrs) 3)))
    ∷ (decl_item (decl_declaration (declaration [] (more_words (qualifier (quals.Element 4))
    (more_words (basic (record { token = 5; keyword = keywords.Int })) no_words)) (more_init_declrs []
    (array (declr_name 6 1) 7 [] (some_size (size_value (number_use 8))) 9) None [] (some_init 10 (init_braced
    (init_list 11 (more_init_items (more_desigs (range_desig 12 (number_use 13) 14 (number_use 15) 16) no_desigs)
    (Some 17) (init_value (name_use 18 0)) no_init_items) None 19))) no_init_declrs) 20))) ∷ [])

-- $tainted int t; struct s { $untainted int m; int n; } v = { n: 1, m: t };
abbrev pub program_28 : Program
program_28 =
    program ((0, (0, 1)) ∷ (7, (0, 0)) ∷ []) [] lattices_1 ((decl_item (decl_declaration (declaration [] (more_words
    (qualifier (quals.Element 0)) (more_words (basic (record { token = 1; keyword = keywords.Int })) no_words))
    (more_init_declrs [] (declr_name 2 0) None [] no_init no_init_declrs) 3))) ∷ (decl_item
    (decl_declaration (declaration [] (more_words (struct_type (record { token = 4; keyword = keywords.Struct }) []
    (Some (record { token = 5; name = 1 })) (some_body 6 (more_struct_items (member [] (more_words
    (qualifier (quals.Element 7)) (more_words (basic (record { token = 8; keyword = keywords.Int })) no_words))
    (more_mem_declrs [] (named (declr_name 9 2) no_value []) no_mem_declrs) 10)
    (more_struct_items (member [] (more_words (basic (record { token = 11; keyword = keywords.Int })) no_words)
    (more_mem_declrs [] (named (declr_name 12 3) no_value []) no_mem_declrs) 13) no_struct_items)) 14)) no_words)
    (more_init_declrs [] (declr_name 15 4) None [] (some_init 16 (init_braced (init_list 17 (more_init_items
    (more_desigs (old_desig (record { token = 18; name = 3 }) 19) no_desigs) None (init_value (number_use 20))
    (more_init_items (more_desigs (old_desig (record { token = 22; name = 2 }) 23) no_desigs) None
    (init_value (name_use 24 0)) no_init_items)) None 25))) no_init_declrs) 26))) ∷ [])

-- $tainted int t; $untainted int u; struct s { int m, n; } v = { m: 1, t }; void f(void) { u = v.n; }
abbrev pub program_29 : Program
program_29 =
    program ((0, (0, 1)) ∷ (4, (0, 0)) ∷ []) [] lattices_1 ((decl_item (decl_declaration (declaration [] (more_words
    (qualifier (quals.Element 0)) (more_words (basic (record { token = 1; keyword = keywords.Int })) no_words))
    (more_init_declrs [] (declr_name 2 0) None [] no_init no_init_declrs) 3)))
    ∷ (decl_item (decl_declaration (declaration [] (more_words (qualifier (quals.Element 4))
    (more_words (basic (record { token = 5; keyword = keywords.Int })) no_words))
    (more_init_declrs [] (declr_name 6 1) None [] no_init no_init_declrs) 7))) ∷ (decl_item
    (decl_declaration (declaration [] (more_words (struct_type (record { token = 8; keyword = keywords.Struct }) []
    (Some (record { token = 9; name = 2 })) (some_body 10 (more_struct_items (member [] (more_words (basic
    (record { token = 11; keyword = keywords.Int })) no_words) (more_mem_declrs [] (named (declr_name 12 3) no_value [])
    (more_mem_declrs [] (named (declr_name 14 4) no_value []) no_mem_declrs)) 15) no_struct_items) 16)) no_words)
    (more_init_declrs [] (declr_name 17 5) None [] (some_init 18 (init_braced (init_list 19 (more_init_items
    (more_desigs (old_desig (record { token = 20; name = 3 }) 21) no_desigs) None (init_value (number_use 22))
    (more_init_items no_desigs None (init_value (name_use 24 0)) no_init_items)) None 25))) no_init_declrs) 26)))
    ∷ (function_item [] (more_words (basic (record { token = 27; keyword = keywords.Void })) no_words) (params
    (declr_name 28 6) 29 (more_params (more_words (basic (record { token = 30; keyword = keywords.Void })) no_words)
    no_declr [] no_params) None 31) [] 32 (more_block_items (block_stmt (expr_stmt (some_expr (operation (name_use 33 1)
    (assign signs.Equal) 34 (dot (name_use 35 5) 36 (record { token = 37; name = 4 })))) 38)) no_block_items) 39) ∷ [])

-- $tainted int t; $untainted int u; extern inline int f(int x) { return t; } int f(int x) { return x; } void h(void) {
-- u = f(1); }
abbrev pub program_30 : Program
program_30 =
    program ((0, (0, 1)) ∷ (4, (0, 0)) ∷ []) [] lattices_1 ((decl_item (decl_declaration (declaration [] (more_words
    (qualifier (quals.Element 0)) (more_words (basic (record { token = 1; keyword = keywords.Int })) no_words))
    (more_init_declrs [] (declr_name 2 0) None [] no_init no_init_declrs) 3)))
    ∷ (decl_item (decl_declaration (declaration [] (more_words (qualifier (quals.Element 4))
    (more_words (basic (record { token = 5; keyword = keywords.Int })) no_words))
    (more_init_declrs [] (declr_name 6 1) None [] no_init no_init_declrs) 7)))
    ∷ (function_item [] (more_words (storage (record { token = 8; keyword = keywords.Extern }))
    (more_words (inline_word 9) (more_words (basic (record { token = 10; keyword = keywords.Int })) no_words))) (params
    (declr_name 11 2) 12 (more_params (more_words (basic (record { token = 13; keyword = keywords.Int })) no_words)
    (some_declr (declr_name 14 3)) [] no_params) None 15) [] 16
    (more_block_items (block_stmt (return_stmt 17 (some_expr (name_use 18 0)) 19)) no_block_items) 20)
    ∷ (function_item [] (more_words (basic (record { token = 21; keyword = keywords.Int })) no_words) (params
    (declr_name 22 2) 23 (more_params (more_words (basic (record { token = 24; keyword = keywords.Int })) no_words)
    (some_declr (declr_name 25 3)) [] no_params) None 26) [] 27
    (more_block_items (block_stmt (return_stmt 28 (some_expr (name_use 29 3)) 30)) no_block_items) 31) ∷ (function_item
    [] (more_words (basic (record { token = 32; keyword = keywords.Void })) no_words) (params (declr_name 33 4) 34
    (more_params (more_words (basic (record { token = 35; keyword = keywords.Void })) no_words) no_declr [] no_params)
    None 36) [] 37 (more_block_items (block_stmt (expr_stmt (some_expr (operation (name_use 38 1) (assign signs.Equal)
    39 (call (name_use 40 2) 41 (more_exprs (number_use 42) no_exprs) 43))) 44)) no_block_items) 45) ∷ [])

-- struct s { int m; }; int *g(struct s *$user p) { return &p->m; }
abbrev pub program_31 : Program
program_31 =
    program ((15, (0, 1)) ∷ []) [] lattices_3 ((decl_item (decl_declaration (declaration [] (more_words (struct_type
    (record { token = 0; keyword = keywords.Struct }) [] (Some (record { token = 1; name = 0 })) (some_body 2
    (more_struct_items (member [] (more_words (basic (record { token = 3; keyword = keywords.Int })) no_words)
    (more_mem_declrs [] (named (declr_name 4 1) no_value []) no_mem_declrs) 5) no_struct_items) 6)) no_words)
    no_init_declrs 7))) ∷ (function_item [] (more_words (basic (record { token = 8; keyword = keywords.Int })) no_words)
    (pointer 9 [] (params (declr_name 10 2) 11 (more_params (more_words (struct_type
    (record { token = 12; keyword = keywords.Struct }) [] (Some (record { token = 13; name = 0 })) no_body) no_words)
    (some_declr (pointer 14 ((pointer_words.Qual (quals.Element 15)) ∷ []) (declr_name 16 3))) [] no_params) None 17))
    [] 18 (more_block_items (block_stmt (return_stmt 19 (some_expr (prefix 20 signs.Ampersand
    (arrow (name_use 21 3) 22 (record { token = 23; name = 1 })))) 24)) no_block_items) 25) ∷ [])

-- struct s { int m; }; int *g(struct s *$user p) { return &p->m; }
abbrev pub program_32 : Program
program_32 =
    program ((15, (0, 1)) ∷ []) [] lattices_2 ((decl_item (decl_declaration (declaration [] (more_words (struct_type
    (record { token = 0; keyword = keywords.Struct }) [] (Some (record { token = 1; name = 0 })) (some_body 2
    (more_struct_items (member [] (more_words (basic (record { token = 3; keyword = keywords.Int })) no_words)
    (more_mem_declrs [] (named (declr_name 4 1) no_value []) no_mem_declrs) 5) no_struct_items) 6)) no_words)
    no_init_declrs 7))) ∷ (function_item [] (more_words (basic (record { token = 8; keyword = keywords.Int })) no_words)
    (pointer 9 [] (params (declr_name 10 2) 11 (more_params (more_words (struct_type
    (record { token = 12; keyword = keywords.Struct }) [] (Some (record { token = 13; name = 0 })) no_body) no_words)
    (some_declr (pointer 14 ((pointer_words.Qual (quals.Element 15)) ∷ []) (declr_name 16 3))) [] no_params) None 17))
    [] 18 (more_block_items (block_stmt (return_stmt 19 (some_expr (prefix 20 signs.Ampersand
    (arrow (name_use 21 3) 22 (record { token = 23; name = 1 })))) 24)) no_block_items) 25) ∷ [])

-- struct s { int m; }; int g(struct s *$user p) { return p->m; }
abbrev pub program_33 : Program
program_33 =
    program ((14, (0, 1)) ∷ []) [] lattices_3 ((decl_item (decl_declaration (declaration [] (more_words (struct_type
    (record { token = 0; keyword = keywords.Struct }) [] (Some (record { token = 1; name = 0 })) (some_body 2
    (more_struct_items (member [] (more_words (basic (record { token = 3; keyword = keywords.Int })) no_words)
    (more_mem_declrs [] (named (declr_name 4 1) no_value []) no_mem_declrs) 5) no_struct_items) 6)) no_words)
    no_init_declrs 7))) ∷ (function_item [] (more_words (basic (record { token = 8; keyword = keywords.Int })) no_words)
    (params (declr_name 9 2) 10 (more_params (more_words (struct_type (record { token = 11; keyword = keywords.Struct })
    [] (Some (record { token = 12; name = 0 })) no_body) no_words)
    (some_declr (pointer 13 ((pointer_words.Qual (quals.Element 14)) ∷ []) (declr_name 15 3))) [] no_params) None 16)
    [] 17 (more_block_items (block_stmt (return_stmt 18
    (some_expr (arrow (name_use 19 3) 20 (record { token = 21; name = 1 }))) 22)) no_block_items) 23) ∷ [])

-- struct s { int m; }; int g(struct s *$user p) { return p->m; }
abbrev pub program_34 : Program
program_34 =
    program ((14, (0, 1)) ∷ []) [] lattices_2 ((decl_item (decl_declaration (declaration [] (more_words (struct_type
    (record { token = 0; keyword = keywords.Struct }) [] (Some (record { token = 1; name = 0 })) (some_body 2
    (more_struct_items (member [] (more_words (basic (record { token = 3; keyword = keywords.Int })) no_words)
    (more_mem_declrs [] (named (declr_name 4 1) no_value []) no_mem_declrs) 5) no_struct_items) 6)) no_words)
    no_init_declrs 7))) ∷ (function_item [] (more_words (basic (record { token = 8; keyword = keywords.Int })) no_words)
    (params (declr_name 9 2) 10 (more_params (more_words (struct_type (record { token = 11; keyword = keywords.Struct })
    [] (Some (record { token = 12; name = 0 })) no_body) no_words)
    (some_declr (pointer 13 ((pointer_words.Qual (quals.Element 14)) ∷ []) (declr_name 15 3))) [] no_params) None 16)
    [] 17 (more_block_items (block_stmt (return_stmt 18
    (some_expr (arrow (name_use 19 3) 20 (record { token = 21; name = 1 }))) 22)) no_block_items) 23) ∷ [])

-- int *g(int *$user p, int i) { return &p[i]; }
abbrev pub program_35 : Program
program_35 =
    program ((6, (0, 1)) ∷ []) [] lattices_3
    ((function_item [] (more_words (basic (record { token = 0; keyword = keywords.Int })) no_words) (pointer 1 []
    (params (declr_name 2 0) 3 (more_params (more_words (basic (record { token = 4; keyword = keywords.Int })) no_words)
    (some_declr (pointer 5 ((pointer_words.Qual (quals.Element 6)) ∷ []) (declr_name 7 1))) []
    (more_params (more_words (basic (record { token = 9; keyword = keywords.Int })) no_words)
    (some_declr (declr_name 10 2)) [] no_params)) None 11)) [] 12 (more_block_items (block_stmt (return_stmt 13
    (some_expr (prefix 14 signs.Ampersand (index (name_use 15 1) 16 (name_use 17 2) 18))) 19)) no_block_items) 20) ∷ [])

-- int *g(int *$user p) { return &*p; }
abbrev pub program_36 : Program
program_36 =
    program ((6, (0, 1)) ∷ []) [] lattices_3
    ((function_item [] (more_words (basic (record { token = 0; keyword = keywords.Int })) no_words) (pointer 1 []
    (params (declr_name 2 0) 3 (more_params (more_words (basic (record { token = 4; keyword = keywords.Int })) no_words)
    (some_declr (pointer 5 ((pointer_words.Qual (quals.Element 6)) ∷ []) (declr_name 7 1))) [] no_params) None 8)) [] 9
    (more_block_items (block_stmt (return_stmt 10
    (some_expr (prefix 11 signs.Ampersand (prefix 12 signs.Star (name_use 13 1)))) 14)) no_block_items) 15) ∷ [])

-- int *g(int *$user p) { return &1[p]; }
abbrev pub program_37 : Program
program_37 =
    program ((6, (0, 1)) ∷ []) [] lattices_3
    ((function_item [] (more_words (basic (record { token = 0; keyword = keywords.Int })) no_words) (pointer 1 []
    (params (declr_name 2 0) 3 (more_params (more_words (basic (record { token = 4; keyword = keywords.Int })) no_words)
    (some_declr (pointer 5 ((pointer_words.Qual (quals.Element 6)) ∷ []) (declr_name 7 1))) [] no_params) None 8)) [] 9
    (more_block_items (block_stmt (return_stmt 10
    (some_expr (prefix 11 signs.Ampersand (index (number_use 12) 13 (name_use 14 1) 15))) 16)) no_block_items) 17) ∷ [])

-- struct s { int m; }; int g(struct s *$user p) { return *&p->m; }
abbrev pub program_38 : Program
program_38 =
    program ((14, (0, 1)) ∷ []) [] lattices_3 ((decl_item (decl_declaration (declaration [] (more_words (struct_type
    (record { token = 0; keyword = keywords.Struct }) [] (Some (record { token = 1; name = 0 })) (some_body 2
    (more_struct_items (member [] (more_words (basic (record { token = 3; keyword = keywords.Int })) no_words)
    (more_mem_declrs [] (named (declr_name 4 1) no_value []) no_mem_declrs) 5) no_struct_items) 6)) no_words)
    no_init_declrs 7))) ∷ (function_item [] (more_words (basic (record { token = 8; keyword = keywords.Int })) no_words)
    (params (declr_name 9 2) 10 (more_params (more_words (struct_type (record { token = 11; keyword = keywords.Struct })
    [] (Some (record { token = 12; name = 0 })) no_body) no_words)
    (some_declr (pointer 13 ((pointer_words.Qual (quals.Element 14)) ∷ []) (declr_name 15 3))) [] no_params) None 16)
    [] 17 (more_block_items (block_stmt (return_stmt 18 (some_expr (prefix 19 signs.Star (prefix 20 signs.Ampersand
    (arrow (name_use 21 3) 22 (record { token = 23; name = 1 }))))) 24)) no_block_items) 25) ∷ [])

-- struct s { int m; }; void h(int *q) { *q = 0; } void g(struct s *$user p) { h(&p->m); }
abbrev pub program_39 : Program
program_39 =
    program ((28, (0, 1)) ∷ []) (19 ∷ []) lattices_3 ((decl_item
    (decl_declaration (declaration [] (more_words (struct_type (record { token = 0; keyword = keywords.Struct }) []
    (Some (record { token = 1; name = 0 })) (some_body 2 (more_struct_items
    (member [] (more_words (basic (record { token = 3; keyword = keywords.Int })) no_words) (more_mem_declrs []
    (named (declr_name 4 1) no_value []) no_mem_declrs) 5) no_struct_items) 6)) no_words) no_init_declrs 7)))
    ∷ (function_item [] (more_words (basic (record { token = 8; keyword = keywords.Void })) no_words) (params
    (declr_name 9 2) 10 (more_params (more_words (basic (record { token = 11; keyword = keywords.Int })) no_words)
    (some_declr (pointer 12 [] (declr_name 13 3))) [] no_params) None 14) [] 15
    (more_block_items (block_stmt (expr_stmt (some_expr
    (operation (prefix 16 signs.Star (name_use 17 3)) (assign signs.Equal) 18 (number_use 19))) 20)) no_block_items) 21)
    ∷ (function_item [] (more_words (basic (record { token = 22; keyword = keywords.Void })) no_words) (params
    (declr_name 23 4) 24 (more_params (more_words (struct_type (record { token = 25; keyword = keywords.Struct }) []
    (Some (record { token = 26; name = 0 })) no_body) no_words) (some_declr
    (pointer 27 ((pointer_words.Qual (quals.Element 28)) ∷ []) (declr_name 29 5))) [] no_params) None 30) [] 31
    (more_block_items (block_stmt (expr_stmt (some_expr (call (name_use 32 2) 33 (more_exprs (prefix 34 signs.Ampersand
    (arrow (name_use 35 5) 36 (record { token = 37; name = 1 }))) no_exprs) 38)) 39)) no_block_items) 40) ∷ [])

-- struct s { int m; }; void put(int *$user q); void g(struct s *$user p) { put(&p->m); }
abbrev pub program_40 : Program
program_40 =
    program ((13, (0, 1)) ∷ (23, (0, 1)) ∷ []) [] lattices_3 ((decl_item (decl_declaration (declaration [] (more_words
    (struct_type (record { token = 0; keyword = keywords.Struct }) [] (Some (record { token = 1; name = 0 })) (some_body
    2 (more_struct_items (member [] (more_words (basic (record { token = 3; keyword = keywords.Int })) no_words)
    (more_mem_declrs [] (named (declr_name 4 1) no_value []) no_mem_declrs) 5) no_struct_items) 6)) no_words)
    no_init_declrs 7))) ∷ (decl_item (decl_declaration (declaration []
    (more_words (basic (record { token = 8; keyword = keywords.Void })) no_words) (more_init_declrs [] (params
    (declr_name 9 2) 10 (more_params (more_words (basic (record { token = 11; keyword = keywords.Int })) no_words)
    (some_declr (pointer 12 ((pointer_words.Qual (quals.Element 13)) ∷ []) (declr_name 14 3))) [] no_params) None 15)
    None [] no_init no_init_declrs) 16)))
    ∷ (function_item [] (more_words (basic (record { token = 17; keyword = keywords.Void })) no_words) (params
    (declr_name 18 4) 19 (more_params (more_words (struct_type (record { token = 20; keyword = keywords.Struct }) []
    (Some (record { token = 21; name = 0 })) no_body) no_words) (some_declr
    (pointer 22 ((pointer_words.Qual (quals.Element 23)) ∷ []) (declr_name 24 5))) [] no_params) None 25) [] 26
    (more_block_items (block_stmt (expr_stmt (some_expr (call (name_use 27 2) 28 (more_exprs (prefix 29 signs.Ampersand
    (arrow (name_use 30 5) 31 (record { token = 32; name = 1 }))) no_exprs) 33)) 34)) no_block_items) 35) ∷ [])

-- struct s { int m; int a[3]; struct s *n; struct { int k; int *q; } i; } v, *w, *$user p; int x, *j, *$user q; void
-- f(void) { x = sizeof(*&p->m); typeof(*&p->m) y; __auto_type z = &p->m; }
abbrev pub program_41 : Program
program_41 =
    program ((36, (0, 1)) ∷ (46, (0, 1)) ∷ []) [] lattices_3 ((decl_item (decl_declaration (declaration [] (more_words
    (struct_type (record { token = 0; keyword = keywords.Struct }) [] (Some (record { token = 1; name = 0 })) (some_body
    2 (more_struct_items (member [] (more_words (basic (record { token = 3; keyword = keywords.Int })) no_words)
    (more_mem_declrs [] (named (declr_name 4 1) no_value []) no_mem_declrs) 5) (more_struct_items
    (member [] (more_words (basic (record { token = 6; keyword = keywords.Int })) no_words) (more_mem_declrs []
    (named (array (declr_name 7 2) 8 [] (some_size (size_value (number_use 9))) 10) no_value []) no_mem_declrs) 11)
    (more_struct_items (member [] (more_words (struct_type (record { token = 12; keyword = keywords.Struct }) []
    (Some (record { token = 13; name = 0 })) no_body) no_words)
    (more_mem_declrs [] (named (pointer 14 [] (declr_name 15 3)) no_value []) no_mem_declrs) 16) (more_struct_items
    (member [] (more_words (struct_type (record { token = 17; keyword = keywords.Struct }) [] None (some_body 18
    (more_struct_items (member [] (more_words (basic (record { token = 19; keyword = keywords.Int })) no_words)
    (more_mem_declrs [] (named (declr_name 20 4) no_value []) no_mem_declrs) 21) (more_struct_items
    (member [] (more_words (basic (record { token = 22; keyword = keywords.Int })) no_words) (more_mem_declrs []
    (named (pointer 23 [] (declr_name 24 5)) no_value []) no_mem_declrs) 25) no_struct_items)) 26)) no_words)
    (more_mem_declrs [] (named (declr_name 27 6) no_value []) no_mem_declrs) 28) no_struct_items)))) 29)) no_words)
    (more_init_declrs [] (declr_name 30 7) None [] no_init (more_init_declrs [] (pointer 32 [] (declr_name 33 8)) None
    [] no_init (more_init_declrs [] (pointer 35 ((pointer_words.Qual (quals.Element 36)) ∷ []) (declr_name 37 9)) None
    [] no_init no_init_declrs))) 38))) ∷ (decl_item (decl_declaration (declaration [] (more_words
    (basic (record { token = 39; keyword = keywords.Int })) no_words) (more_init_declrs [] (declr_name 40 10) None
    [] no_init (more_init_declrs [] (pointer 42 [] (declr_name 43 11)) None [] no_init (more_init_declrs [] (pointer 45
    ((pointer_words.Qual (quals.Element 46)) ∷ []) (declr_name 47 5)) None [] no_init no_init_declrs))) 48)))
    ∷ (function_item [] (more_words (basic (record { token = 49; keyword = keywords.Void })) no_words)
    (params (declr_name 50 12) 51 (more_params
    (more_words (basic (record { token = 52; keyword = keywords.Void })) no_words) no_declr [] no_params) None 53) [] 54
    (more_block_items (block_stmt (expr_stmt (some_expr (operation (name_use 55 10) (assign signs.Equal) 56
    (sizeof_value (record { token = 57; keyword = keywords.Sizeof }) (paren 58 (prefix 59 signs.Star
    (prefix 60 signs.Ampersand (arrow (name_use 61 9) 62 (record { token = 63; name = 1 })))) 64)))) 65))
    (more_block_items (block_decl (decl_declaration (declaration [] (more_words (typeof_value 66 67 (prefix 68
    signs.Star (prefix 69 signs.Ampersand (arrow (name_use 70 9) 71 (record { token = 72; name = 1 })))) 73) no_words)
    (more_init_declrs [] (declr_name 74 13) None [] no_init no_init_declrs) 75)))
    (more_block_items (block_decl (decl_declaration (declaration [] (more_words (auto_word 76) no_words)
    (more_init_declrs [] (declr_name 77 14) None [] (some_init 78 (init_value (prefix 79 signs.Ampersand
    (arrow (name_use 80 9) 81 (record { token = 82; name = 1 }))))) no_init_declrs) 83))) no_block_items))) 84) ∷ [])

-- struct s { int m; } *$tainted $user p; int *$untainted $user q; void f(void) { q = &p->m; }
abbrev pub program_42 : Program
program_42 =
    program ((8, (0, 1)) ∷ (9, (1, 1)) ∷ (14, (0, 0)) ∷ (15, (1, 1)) ∷ []) [] lattices_4
    ((decl_item (decl_declaration (declaration [] (more_words (struct_type
    (record { token = 0; keyword = keywords.Struct }) [] (Some (record { token = 1; name = 0 })) (some_body 2
    (more_struct_items (member [] (more_words (basic (record { token = 3; keyword = keywords.Int })) no_words)
    (more_mem_declrs [] (named (declr_name 4 1) no_value []) no_mem_declrs) 5) no_struct_items) 6)) no_words)
    (more_init_declrs [] (pointer 7 ((pointer_words.Qual (quals.Element 8)) ∷ (pointer_words.Qual (quals.Element 9))
    ∷ []) (declr_name 10 2)) None [] no_init no_init_declrs) 11))) ∷ (decl_item
    (decl_declaration (declaration [] (more_words (basic (record { token = 12; keyword = keywords.Int })) no_words)
    (more_init_declrs [] (pointer 13 ((pointer_words.Qual (quals.Element 14)) ∷ (pointer_words.Qual (quals.Element 15))
    ∷ []) (declr_name 16 3)) None [] no_init no_init_declrs) 17))) ∷ (function_item [] (more_words
    (basic (record { token = 18; keyword = keywords.Void })) no_words) (params (declr_name 19 4) 20 (more_params
    (more_words (basic (record { token = 21; keyword = keywords.Void })) no_words) no_declr [] no_params) None 22) [] 23
    (more_block_items (block_stmt (expr_stmt (some_expr (operation (name_use 24 3) (assign signs.Equal) 25 (prefix 26
    signs.Ampersand (arrow (name_use 27 2) 28 (record { token = 29; name = 1 }))))) 30)) no_block_items) 31) ∷ [])

-- types by expressions and of names of types, and lists of identifiers: parameters in the order of the list, a call, a
-- declaration behind which they stand
abbrev pub Types : Type 0
Types =
    Gives program_1 (((Const 0 1 1), (1, 0)) ∷ ((Bound 3 0 0), (1, 4)) ∷ ((Le 6 9), (1, 14)) ∷ ((Le 9 7), (1, 17))
    ∷ ((Leave 0 4 15), (1, 33)) ∷ ((Leave 0 5 16), (1, 33)) ∷ ((Enter 0 17 6), (1, 33)) ∷ ((Leave 0 7 18), (1, 33))
    ∷ ((Le 1 17), (1, 35)) ∷ ((Le 18 14), (1, 33)) ∷ ((Le 14 3), (1, 38)) ∷ [])
    ((record { unit = 1; token = 33; target = 0; owner = (Function 1) }) ∷ [])
    (Nobody ∷ Nobody ∷ Nobody ∷ Nobody ∷ (Function 0) ∷ (Function 0) ∷ (Function 0) ∷ (Function 0) ∷ (Function 0)
    ∷ (Function 0) ∷ (Function 1) ∷ (Function 1) ∷ (Function 1) ∷ (Function 1) ∷ (Function 1) ∷ (Function 1)
    ∷ (Function 1) ∷ (Function 1) ∷ (Function 1) ∷ [])
    × Gives program_2 (((Const 0 1 1), (1, 0)) ∷ ((Bound 5 0 0), (1, 12)) ∷ ((Le 1 3), (1, 23)) ∷ ((Le 3 5), (1, 27))
    ∷ []) [] (Nobody ∷ Nobody ∷ Nobody ∷ Nobody ∷ Nobody ∷ Nobody ∷ (Function 0) ∷ (Function 0) ∷ (Function 0) ∷ [])
    × Gives program_3 (((Le 3 7), (1, 9)) ∷ ((Le 4 8), (1, 9)) ∷ ((Le 8 4), (1, 9)) ∷ ((Le 2 10), (1, 12))
    ∷ ((Le 10 5), (1, 15)) ∷ []) [] ((Function 0) ∷ (Function 0) ∷ (Function 0) ∷ (Function 0) ∷ (Function 0)
    ∷ (Function 0) ∷ (Function 0) ∷ (Function 0) ∷ (Function 0) ∷ (Function 0) ∷ (Function 0) ∷ [])
    × Gives program_4 (((Const 0 1 1), (1, 0)) ∷ ((Bound 3 0 0), (1, 4)) ∷ ((Le 6 9), (1, 14)) ∷ ((Le 9 7), (1, 17))
    ∷ ((Leave 0 4 13), (1, 29)) ∷ ((Leave 0 5 14), (1, 29)) ∷ ((Enter 0 15 6), (1, 29)) ∷ ((Leave 0 7 16), (1, 29))
    ∷ ((Le 1 15), (1, 31)) ∷ ((Le 16 3), (1, 27)) ∷ [])
    ((record { unit = 1; token = 29; target = 0; owner = (Function 1) }) ∷ []) (Nobody ∷ Nobody ∷ Nobody ∷ Nobody
    ∷ (Function 0) ∷ (Function 0) ∷ (Function 0) ∷ (Function 0) ∷ (Function 0) ∷ (Function 0) ∷ (Function 1)
    ∷ (Function 1) ∷ (Function 1) ∷ (Function 1) ∷ (Function 1) ∷ (Function 1) ∷ (Function 1) ∷ [])
    × Gives program_5 (((Const 0 1 1), (1, 0)) ∷ ((Bound 4 0 0), (1, 9)) ∷ ((Bound 7 0 0), (1, 9)) ∷ ((Le 4 7), (1, 11))
    ∷ ((Le 7 5), (1, 14)) ∷ ((Leave 0 2 11), (1, 24)) ∷ ((Leave 0 3 12), (1, 24)) ∷ ((Enter 0 13 4), (1, 24))
    ∷ ((Leave 0 5 14), (1, 24)) ∷ ((Le 1 13), (1, 26)) ∷ [])
    ((record { unit = 1; token = 24; target = 0; owner = (Function 1) }) ∷ [])
    (Nobody ∷ Nobody ∷ (Function 0) ∷ (Function 0) ∷ (Function 0) ∷ (Function 0) ∷ (Function 0) ∷ (Function 0)
    ∷ (Function 1) ∷ (Function 1) ∷ (Function 1) ∷ (Function 1) ∷ (Function 1) ∷ (Function 1) ∷ (Function 1) ∷ [])
    × Gives program_6 (((Const 0 1 2), (1, 0)) ∷ ((Bound 8 0 0), (1, 16)) ∷ ((Le 5 11), (1, 14)) ∷ ((Le 6 12), (1, 14))
    ∷ ((Le 12 6), (1, 14)) ∷ ((Bound 15 0 0), (1, 16)) ∷ ((Le 7 14), (1, 19)) ∷ ((Le 8 15), (1, 19))
    ∷ ((Le 15 8), (1, 19)) ∷ ((Le 14 11), (1, 22)) ∷ ((Le 15 12), (1, 22)) ∷ ((Le 12 15), (1, 22))
    ∷ ((Leave 0 3 20), (1, 36)) ∷ ((Leave 0 4 21), (1, 36)) ∷ ((Enter 0 22 5), (1, 36)) ∷ ((Enter 0 23 6), (1, 36))
    ∷ ((Leave 0 6 23), (1, 36)) ∷ ((Enter 0 24 7), (1, 36)) ∷ ((Enter 0 25 8), (1, 36)) ∷ ((Leave 0 8 25), (1, 36))
    ∷ ((Leave 0 9 26), (1, 36)) ∷ ((Le 1 22), (1, 38)) ∷ ((Le 2 23), (1, 38)) ∷ ((Le 23 2), (1, 38))
    ∷ ((Le 1 24), (1, 40)) ∷ ((Le 2 25), (1, 40)) ∷ ((Le 25 2), (1, 40)) ∷ [])
    ((record { unit = 1; token = 36; target = 0; owner = (Function 1) }) ∷ [])
    (Nobody ∷ Nobody ∷ Nobody ∷ (Function 0) ∷ (Function 0) ∷ (Function 0) ∷ (Function 0) ∷ (Function 0) ∷ (Function 0)
    ∷ (Function 0) ∷ (Function 0) ∷ (Function 0) ∷ (Function 0) ∷ (Function 0) ∷ (Function 0) ∷ (Function 0)
    ∷ (Function 0) ∷ (Function 1) ∷ (Function 1) ∷ (Function 1) ∷ (Function 1) ∷ (Function 1) ∷ (Function 1)
    ∷ (Function 1) ∷ (Function 1) ∷ (Function 1) ∷ (Function 1) ∷ [])
    × Gives program_7 (((Const 0 1 5), (1, 5)) ∷ ((Bound 7 0 0), (1, 9)) ∷ ((Leave 0 0 11), (1, 21))
    ∷ ((Leave 0 1 12), (1, 21)) ∷ ((Leave 0 2 13), (1, 21)) ∷ ((Enter 0 14 3), (1, 21)) ∷ ((Le 5 14), (1, 23))
    ∷ ((Le 13 7), (1, 19)) ∷ ((Le 0 15), (1, 28)) ∷ ((Le 15 0), (1, 28)) ∷ ((Le 1 16), (1, 28)) ∷ ((Le 16 1), (1, 28))
    ∷ ((Le 17 3), (1, 28)) ∷ ((Le 3 17), (1, 28)) ∷ ((Le 2 18), (1, 28)) ∷ ((Le 18 2), (1, 28)) ∷ ((Le 17 20), (1, 33))
    ∷ ((Le 20 18), (1, 36)) ∷ []) ((record { unit = 1; token = 21; target = 0; owner = (Function 1) }) ∷ [])
    ((Function 0) ∷ (Function 0) ∷ (Function 0) ∷ (Function 0) ∷ Nobody ∷ Nobody ∷ Nobody ∷ Nobody ∷ (Function 1)
    ∷ (Function 1) ∷ (Function 1) ∷ (Function 1) ∷ (Function 1) ∷ (Function 1) ∷ (Function 1) ∷ (Function 0)
    ∷ (Function 0) ∷ (Function 0) ∷ (Function 0) ∷ (Function 0) ∷ (Function 0) ∷ [])
    × Gives program_8 (((Le 2 5), (1, 4)) ∷ ((Le 5 3), (1, 7)) ∷ ((Leave 0 0 13), (1, 35)) ∷ ((Leave 0 1 14), (1, 35))
    ∷ ((Enter 0 15 2), (1, 35)) ∷ ((Leave 0 3 16), (1, 35)) ∷ ((Le 17 15), (1, 37)) ∷ ((Le 16 12), (1, 35)) ∷ [])
    ((record { unit = 1; token = 35; target = 0; owner = (Function 1) }) ∷ [])
    ((Function 0) ∷ (Function 0) ∷ (Function 0) ∷ (Function 0) ∷ (Function 0) ∷ (Function 0) ∷ Nobody ∷ Nobody
    ∷ (Function 1) ∷ (Function 1) ∷ (Function 1) ∷ (Function 1) ∷ (Function 1) ∷ (Function 1) ∷ (Function 1)
    ∷ (Function 1) ∷ (Function 1) ∷ (Function 1) ∷ [])
    × Gives program_9 (((Const 0 1 2), (1, 0)) ∷ ((Le 10 4), (1, 25)) ∷ []) [] (Nobody ∷ Nobody ∷ Nobody ∷ Nobody
    ∷ Nobody ∷ (Function 0) ∷ (Function 0) ∷ (Function 0) ∷ (Function 0) ∷ (Function 0) ∷ (Function 0) ∷ [])
    × Gives program_10 (((Leave 0 0 7), (1, 14)) ∷ ((Leave 0 1 8), (1, 14)) ∷ ((Enter 0 9 2), (1, 14))
    ∷ ((Leave 0 3 10), (1, 14)) ∷ ((Le 11 9), (1, 16)) ∷ [])
    ((record { unit = 1; token = 14; target = 0; owner = (Function 1) }) ∷ [])
    ((Function 0) ∷ (Function 0) ∷ (Function 0) ∷ (Function 0) ∷ (Function 1) ∷ (Function 1) ∷ (Function 1)
    ∷ (Function 1) ∷ (Function 1) ∷ (Function 1) ∷ (Function 1) ∷ (Function 1) ∷ [])
    × Gives program_11 (((Const 0 1 1), (1, 0)) ∷ ((Bound 3 0 0), (1, 7)) ∷ ((Le 1 3), (1, 18)) ∷ []) []
    (Nobody ∷ Nobody ∷ Nobody ∷ Nobody ∷ (Function 0) ∷ (Function 0) ∷ (Function 0) ∷ [])

-- `__auto_type`, selections, parts, elements of vectors and labels
abbrev pub Values : Type 0
Values =
    Gives program_12 (((Const 0 1 1), (1, 0)) ∷ ((Bound 3 0 0), (1, 4)) ∷ ((Le 3 3), (1, 18)) ∷ ((Le 3 10), (1, 35))
    ∷ ((Le 1 10), (1, 35)) ∷ ((Le 10 3), (1, 33)) ∷ []) [] (Nobody ∷ Nobody ∷ Nobody ∷ Nobody ∷ Nobody ∷ Nobody ∷ Nobody
    ∷ (Function 0) ∷ (Function 0) ∷ (Function 0) ∷ (Function 0) ∷ [])
    × Gives program_13 (((Le 0 4), (1, 11)) ∷ ((Le 4 0), (1, 11)) ∷ ((Le 1 5), (1, 11)) ∷ ((Le 5 1), (1, 11))
    ∷ ((Le 2 6), (1, 11)) ∷ ((Le 6 2), (1, 11)) ∷ ((Le 3 7), (1, 11)) ∷ ((Le 7 3), (1, 11)) ∷ ((Le 9 15), (1, 26))
    ∷ ((Le 10 16), (1, 26)) ∷ ((Le 16 10), (1, 26)) ∷ ((Le 14 18), (1, 35)) ∷ ((Le 15 19), (1, 35))
    ∷ ((Le 19 15), (1, 35)) ∷ ((Le 16 20), (1, 35)) ∷ ((Le 20 16), (1, 35)) ∷ ((Le 24 23), (1, 50)) ∷ []) []
    ((Function 0) ∷ (Function 0) ∷ (Function 0) ∷ (Function 0) ∷ (Function 0) ∷ (Function 0) ∷ (Function 0)
    ∷ (Function 0) ∷ Nobody ∷ Nobody ∷ Nobody ∷ (Function 1) ∷ (Function 1) ∷ (Function 1) ∷ (Function 1) ∷ (Function 1)
    ∷ (Function 1) ∷ (Function 1) ∷ (Function 1) ∷ (Function 1) ∷ (Function 1) ∷ (Function 1) ∷ (Function 1)
    ∷ (Function 1) ∷ (Function 1) ∷ (Function 1) ∷ (Function 1) ∷ [])
    × Gives program_14 (((Le 0 6), (1, 12)) ∷ ((Le 1 7), (1, 12)) ∷ ((Le 7 1), (1, 12)) ∷ []) []
    (Nobody ∷ Nobody ∷ (Function 0) ∷ (Function 0) ∷ (Function 0) ∷ (Function 0) ∷ (Function 0) ∷ (Function 0) ∷ [])
    × Gives program_15
    (((Const 0 1 8), (1, 9)) ∷ ((Bound 10 0 0), (1, 13)) ∷ ((Bound 29 0 0), (1, 45)) ∷ ((Le 8 29), (1, 49)) ∷ []) []
    (Nobody ∷ Nobody ∷ Nobody ∷ Nobody ∷ Nobody ∷ Nobody ∷ Nobody ∷ Nobody ∷ Nobody ∷ Nobody ∷ Nobody ∷ Nobody ∷ Nobody
    ∷ Nobody ∷ Nobody ∷ Nobody ∷ Nobody ∷ Nobody ∷ Nobody ∷ Nobody ∷ Nobody ∷ (Function 0) ∷ (Function 0) ∷ (Function 0)
    ∷ (Function 0) ∷ (Function 1) ∷ (Function 1) ∷ (Function 1) ∷ (Function 1) ∷ (Function 1) ∷ [])
    × Gives program_16
    (((Const 0 1 8), (1, 9)) ∷ ((Bound 10 0 0), (1, 13)) ∷ ((Le 8 29), (1, 48)) ∷ ((Le 29 10), (1, 50)) ∷ []) []
    (Nobody ∷ Nobody ∷ Nobody ∷ Nobody ∷ Nobody ∷ Nobody ∷ Nobody ∷ Nobody ∷ Nobody ∷ Nobody ∷ Nobody ∷ Nobody ∷ Nobody
    ∷ Nobody ∷ Nobody ∷ Nobody ∷ Nobody ∷ Nobody ∷ Nobody ∷ Nobody ∷ Nobody ∷ (Function 0) ∷ (Function 0) ∷ (Function 0)
    ∷ (Function 0) ∷ (Function 1) ∷ (Function 1) ∷ (Function 1) ∷ (Function 1) ∷ (Function 1) ∷ [])
    × Gives program_17 (((Const 0 1 8), (1, 9)) ∷ ((Bound 10 0 0), (1, 13)) ∷ ((Le 1 28), (1, 47))
    ∷ ((Le 8 28), (1, 47)) ∷ ((Le 28 10), (1, 45)) ∷ []) []
    (Nobody ∷ Nobody ∷ Nobody ∷ Nobody ∷ Nobody ∷ Nobody ∷ Nobody ∷ Nobody ∷ Nobody ∷ Nobody ∷ Nobody ∷ Nobody ∷ Nobody
    ∷ Nobody ∷ Nobody ∷ Nobody ∷ Nobody ∷ Nobody ∷ Nobody ∷ Nobody ∷ Nobody ∷ (Function 0) ∷ (Function 0) ∷ (Function 0)
    ∷ (Function 0) ∷ (Function 1) ∷ (Function 1) ∷ (Function 1) ∷ (Function 1) ∷ [])
    × Gives program_18 (((Const 0 1 8), (1, 9)) ∷ ((Bound 10 0 0), (1, 13)) ∷ ((Le 1 28), (1, 47))
    ∷ ((Le 3 28), (1, 47)) ∷ ((Le 28 10), (1, 45)) ∷ []) []
    (Nobody ∷ Nobody ∷ Nobody ∷ Nobody ∷ Nobody ∷ Nobody ∷ Nobody ∷ Nobody ∷ Nobody ∷ Nobody ∷ Nobody ∷ Nobody ∷ Nobody
    ∷ Nobody ∷ Nobody ∷ Nobody ∷ Nobody ∷ Nobody ∷ Nobody ∷ Nobody ∷ Nobody ∷ (Function 0) ∷ (Function 0) ∷ (Function 0)
    ∷ (Function 0) ∷ (Function 1) ∷ (Function 1) ∷ (Function 1) ∷ (Function 1) ∷ [])
    × Gives program_19 (((Const 0 1 8), (1, 9)) ∷ ((Bound 10 0 0), (1, 13)) ∷ ((Le 28 10), (1, 45)) ∷ []) []
    (Nobody ∷ Nobody ∷ Nobody ∷ Nobody ∷ Nobody ∷ Nobody ∷ Nobody ∷ Nobody ∷ Nobody ∷ Nobody ∷ Nobody ∷ Nobody ∷ Nobody
    ∷ Nobody ∷ Nobody ∷ Nobody ∷ Nobody ∷ Nobody ∷ Nobody ∷ Nobody ∷ Nobody ∷ (Function 0) ∷ (Function 0) ∷ (Function 0)
    ∷ (Function 0) ∷ (Function 1) ∷ (Function 1) ∷ (Function 1) ∷ (Function 1) ∷ [])
    × Gives program_20 (((Const 0 1 8), (1, 9)) ∷ ((Bound 10 0 0), (1, 13)) ∷ ((Le 1 28), (1, 47))
    ∷ ((Le 8 28), (1, 47)) ∷ ((Le 28 10), (1, 45)) ∷ []) []
    (Nobody ∷ Nobody ∷ Nobody ∷ Nobody ∷ Nobody ∷ Nobody ∷ Nobody ∷ Nobody ∷ Nobody ∷ Nobody ∷ Nobody ∷ Nobody ∷ Nobody
    ∷ Nobody ∷ Nobody ∷ Nobody ∷ Nobody ∷ Nobody ∷ Nobody ∷ Nobody ∷ Nobody ∷ (Function 0) ∷ (Function 0) ∷ (Function 0)
    ∷ (Function 0) ∷ (Function 1) ∷ (Function 1) ∷ (Function 1) ∷ (Function 1) ∷ [])
    × Gives program_21 (((Const 0 1 8), (1, 9)) ∷ ((Bound 10 0 0), (1, 13)) ∷ ((Le 1 10), (1, 45)) ∷ []) []
    (Nobody ∷ Nobody ∷ Nobody ∷ Nobody ∷ Nobody ∷ Nobody ∷ Nobody ∷ Nobody ∷ Nobody ∷ Nobody ∷ Nobody ∷ Nobody ∷ Nobody
    ∷ Nobody ∷ Nobody ∷ Nobody ∷ Nobody ∷ Nobody ∷ Nobody ∷ Nobody ∷ Nobody ∷ (Function 0) ∷ (Function 0) ∷ (Function 0)
    ∷ (Function 0) ∷ (Function 1) ∷ (Function 1) ∷ (Function 1) ∷ [])
    × Gives program_22 (((Le 2 5), (1, 4)) ∷ ((Le 10 8), (1, 14)) ∷ ((Le 11 9), (1, 14)) ∷ ((Le 9 11), (1, 14))
    ∷ ((Le 12 8), (1, 17)) ∷ ((Le 13 9), (1, 17)) ∷ ((Le 9 13), (1, 17)) ∷ ((Le 17 15), (1, 38)) ∷ ((Le 18 16), (1, 38))
    ∷ ((Le 16 18), (1, 38)) ∷ []) [] ((Function 0) ∷ (Function 0) ∷ (Function 0) ∷ (Function 0) ∷ (Function 0)
    ∷ (Function 0) ∷ (Function 0) ∷ (Function 0) ∷ (Function 0) ∷ (Function 0) ∷ (Function 0) ∷ (Function 0)
    ∷ (Function 0) ∷ (Function 0) ∷ (Function 0) ∷ (Function 0) ∷ (Function 0) ∷ (Function 0) ∷ (Function 0) ∷ [])
    × Gives program_23 (((Le 2 5), (1, 4)) ∷ ((Le 5 3), (1, 7)) ∷ ((Const 0 1 7), (1, 11)) ∷ ((Bound 9 0 0), (1, 15))
    ∷ ((Le 12 17), (1, 25)) ∷ ((Le 13 18), (1, 25)) ∷ ((Le 18 13), (1, 25)) ∷ ((Le 14 19), (1, 25))
    ∷ ((Le 19 14), (1, 25)) ∷ ((Leave 0 0 20), (1, 33)) ∷ ((Leave 0 1 21), (1, 33)) ∷ ((Enter 0 22 2), (1, 33))
    ∷ ((Leave 0 3 23), (1, 33)) ∷ ((Le 7 22), (1, 35)) ∷ ((Le 23 9), (1, 31)) ∷ ((Leave 1 0 24), (1, 40))
    ∷ ((Leave 1 1 25), (1, 40)) ∷ ((Enter 1 26 2), (1, 40)) ∷ ((Leave 1 3 27), (1, 40)) ∷ ((Le 28 26), (1, 42)) ∷ [])
    ((record { unit = 1; token = 33; target = 0; owner = (Function 1) })
    ∷ (record { unit = 1; token = 40; target = 0; owner = (Function 1) }) ∷ [])
    ((Function 0) ∷ (Function 0) ∷ (Function 0) ∷ (Function 0) ∷ (Function 0) ∷ (Function 0) ∷ Nobody ∷ Nobody ∷ Nobody
    ∷ Nobody ∷ (Function 1) ∷ (Function 1) ∷ (Function 1) ∷ (Function 1) ∷ (Function 1) ∷ (Function 1) ∷ (Function 1)
    ∷ (Function 1) ∷ (Function 1) ∷ (Function 1) ∷ (Function 1) ∷ (Function 1) ∷ (Function 1) ∷ (Function 1)
    ∷ (Function 1) ∷ (Function 1) ∷ (Function 1) ∷ (Function 1) ∷ (Function 1) ∷ [])
    × Gives program_24 (((Const 0 1 1), (1, 0)) ∷ ((Bound 3 0 0), (1, 5)) ∷ ((Le 1 3), (1, 15)) ∷ []) []
    (Nobody ∷ Nobody ∷ Nobody ∷ Nobody ∷ (Function 0) ∷ (Function 0) ∷ (Function 0) ∷ [])
    × Gives program_25 (((Bound 1 0 0), (1, 0)) ∷ ((Const 0 1 3), (1, 5)) ∷ ((Le 3 1), (1, 15)) ∷ []) []
    (Nobody ∷ Nobody ∷ Nobody ∷ Nobody ∷ (Function 0) ∷ (Function 0) ∷ (Function 0) ∷ [])
    × Gives program_26 (((Const 0 1 1), (1, 0)) ∷ ((Bound 3 0 0), (1, 4)) ∷ ((Le 1 5), (1, 17)) ∷ ((Le 5 3), (1, 24))
    ∷ []) [] (Nobody ∷ Nobody ∷ Nobody ∷ Nobody ∷ Nobody ∷ Nobody ∷ (Function 0) ∷ (Function 0) ∷ (Function 0)
    ∷ (Function 0) ∷ (Function 0) ∷ [])

-- a designator with a colon, a range, a second body
abbrev pub Others : Type 0
Others =
    Gives program_27 (((Const 0 1 1), (1, 0)) ∷ ((Bound 4 0 0), (1, 4)) ∷ ((Le 1 4), (1, 18)) ∷ []) []
    (Nobody ∷ Nobody ∷ Nobody ∷ Nobody ∷ Nobody ∷ [])
    × Gives program_28 (((Const 0 1 1), (1, 0)) ∷ ((Bound 3 0 0), (1, 7)) ∷ ((Le 8 5), (1, 20)) ∷ ((Le 1 3), (1, 24))
    ∷ []) [] (Nobody ∷ Nobody ∷ Nobody ∷ Nobody ∷ Nobody ∷ Nobody ∷ Nobody ∷ Nobody ∷ Nobody ∷ [])
    × Gives program_29 (((Const 0 1 1), (1, 0)) ∷ ((Bound 3 0 0), (1, 4)) ∷ ((Le 10 5), (1, 22)) ∷ ((Le 1 7), (1, 24))
    ∷ ((Le 7 3), (1, 33)) ∷ []) [] (Nobody ∷ Nobody ∷ Nobody ∷ Nobody ∷ Nobody ∷ Nobody ∷ Nobody ∷ Nobody ∷ Nobody
    ∷ Nobody ∷ Nobody ∷ (Function 0) ∷ (Function 0) ∷ (Function 0) ∷ [])
    × Gives program_30 (((Const 0 1 1), (1, 0)) ∷ ((Bound 3 0 0), (1, 4)) ∷ ((Le 6 9), (1, 14)) ∷ ((Le 1 7), (1, 17))
    ∷ ((Le 4 10), (1, 22)) ∷ ((Le 10 4), (1, 22)) ∷ ((Le 5 11), (1, 22)) ∷ ((Le 11 5), (1, 22)) ∷ ((Le 6 12), (1, 22))
    ∷ ((Le 12 6), (1, 22)) ∷ ((Le 7 13), (1, 22)) ∷ ((Le 13 7), (1, 22)) ∷ ((Le 12 15), (1, 25)) ∷ ((Le 15 13), (1, 28))
    ∷ ((Leave 0 4 19), (1, 40)) ∷ ((Leave 0 5 20), (1, 40)) ∷ ((Enter 0 21 6), (1, 40)) ∷ ((Leave 0 7 22), (1, 40))
    ∷ ((Le 23 21), (1, 42)) ∷ ((Le 22 3), (1, 38)) ∷ [])
    ((record { unit = 1; token = 40; target = 0; owner = (Function 1) }) ∷ []) (Nobody ∷ Nobody ∷ Nobody ∷ Nobody
    ∷ (Function 0) ∷ (Function 0) ∷ (Function 0) ∷ (Function 0) ∷ (Function 0) ∷ (Function 0) ∷ (Function 0)
    ∷ (Function 0) ∷ (Function 0) ∷ (Function 0) ∷ (Function 0) ∷ (Function 0) ∷ (Function 1) ∷ (Function 1)
    ∷ (Function 1) ∷ (Function 1) ∷ (Function 1) ∷ (Function 1) ∷ (Function 1) ∷ (Function 1) ∷ [])

-- bounds of accesses alone and of addresses too, and pointers that `&` makes
abbrev pub Accesses : Type 0
Accesses =
    Gives program_31 (((Const 0 1 4), (1, 15)) ∷ ((Const 0 1 9), (1, 15)) ∷ ((Le 4 9), (1, 16)) ∷ ((Le 5 10), (1, 16))
    ∷ ((Le 10 5), (1, 16)) ∷ ((Le 0 11), (1, 20)) ∷ ((Le 1 12), (1, 20)) ∷ ((Le 12 1), (1, 20)) ∷ ((Le 9 11), (1, 20))
    ∷ ((Le 11 6), (1, 19)) ∷ ((Le 12 7), (1, 19)) ∷ ((Le 7 12), (1, 19)) ∷ []) []
    (Nobody ∷ Nobody ∷ (Function 0) ∷ (Function 0) ∷ (Function 0) ∷ (Function 0) ∷ (Function 0) ∷ (Function 0)
    ∷ (Function 0) ∷ (Function 0) ∷ (Function 0) ∷ (Function 0) ∷ (Function 0) ∷ [])
    × Gives program_32 (((Const 0 1 4), (1, 15)) ∷ ((Const 0 1 9), (1, 15)) ∷ ((Le 4 9), (1, 16)) ∷ ((Le 5 10), (1, 16))
    ∷ ((Le 10 5), (1, 16)) ∷ ((Bound 9 0 0), (1, 21)) ∷ ((Le 0 6), (1, 19)) ∷ ((Le 1 7), (1, 19)) ∷ ((Le 7 1), (1, 19))
    ∷ []) [] (Nobody ∷ Nobody ∷ (Function 0) ∷ (Function 0) ∷ (Function 0) ∷ (Function 0) ∷ (Function 0) ∷ (Function 0)
    ∷ (Function 0) ∷ (Function 0) ∷ (Function 0) ∷ [])
    × Gives program_33 (((Const 0 1 4), (1, 14)) ∷ ((Const 0 1 8), (1, 14)) ∷ ((Le 4 8), (1, 15)) ∷ ((Le 5 9), (1, 15))
    ∷ ((Le 9 5), (1, 15)) ∷ ((Bound 8 0 0), (1, 19)) ∷ ((Le 1 6), (1, 18)) ∷ []) [] (Nobody ∷ Nobody ∷ (Function 0)
    ∷ (Function 0) ∷ (Function 0) ∷ (Function 0) ∷ (Function 0) ∷ (Function 0) ∷ (Function 0) ∷ (Function 0) ∷ [])
    × Gives program_34 (((Const 0 1 4), (1, 14)) ∷ ((Const 0 1 8), (1, 14)) ∷ ((Le 4 8), (1, 15)) ∷ ((Le 5 9), (1, 15))
    ∷ ((Le 9 5), (1, 15)) ∷ ((Bound 8 0 0), (1, 19)) ∷ ((Le 1 6), (1, 18)) ∷ []) [] (Nobody ∷ Nobody ∷ (Function 0)
    ∷ (Function 0) ∷ (Function 0) ∷ (Function 0) ∷ (Function 0) ∷ (Function 0) ∷ (Function 0) ∷ (Function 0) ∷ [])
    × Gives program_35 (((Const 0 1 2), (1, 6)) ∷ ((Const 0 1 8), (1, 6)) ∷ ((Le 2 8), (1, 7)) ∷ ((Le 3 9), (1, 7))
    ∷ ((Le 9 3), (1, 7)) ∷ ((Le 4 11), (1, 10)) ∷ ((Le 8 5), (1, 13)) ∷ ((Le 9 6), (1, 13)) ∷ ((Le 6 9), (1, 13)) ∷ [])
    [] ((Function 0) ∷ (Function 0) ∷ (Function 0) ∷ (Function 0) ∷ (Function 0) ∷ (Function 0) ∷ (Function 0)
    ∷ (Function 0) ∷ (Function 0) ∷ (Function 0) ∷ (Function 0) ∷ (Function 0) ∷ [])
    × Gives program_36 (((Const 0 1 2), (1, 6)) ∷ ((Const 0 1 7), (1, 6)) ∷ ((Le 2 7), (1, 7)) ∷ ((Le 3 8), (1, 7))
    ∷ ((Le 8 3), (1, 7)) ∷ ((Le 7 4), (1, 10)) ∷ ((Le 8 5), (1, 10)) ∷ ((Le 5 8), (1, 10)) ∷ []) []
    ((Function 0) ∷ (Function 0) ∷ (Function 0) ∷ (Function 0) ∷ (Function 0) ∷ (Function 0) ∷ (Function 0)
    ∷ (Function 0) ∷ (Function 0) ∷ [])
    × Gives program_37 (((Const 0 1 2), (1, 6)) ∷ ((Const 0 1 7), (1, 6)) ∷ ((Le 2 7), (1, 7)) ∷ ((Le 3 8), (1, 7))
    ∷ ((Le 8 3), (1, 7)) ∷ ((Le 7 4), (1, 10)) ∷ ((Le 8 5), (1, 10)) ∷ ((Le 5 8), (1, 10)) ∷ []) []
    ((Function 0) ∷ (Function 0) ∷ (Function 0) ∷ (Function 0) ∷ (Function 0) ∷ (Function 0) ∷ (Function 0)
    ∷ (Function 0) ∷ (Function 0) ∷ (Function 0) ∷ [])
    × Gives program_38 (((Const 0 1 4), (1, 14)) ∷ ((Const 0 1 8), (1, 14)) ∷ ((Le 4 8), (1, 15)) ∷ ((Le 5 9), (1, 15))
    ∷ ((Le 9 5), (1, 15)) ∷ ((Le 0 10), (1, 20)) ∷ ((Le 1 11), (1, 20)) ∷ ((Le 11 1), (1, 20)) ∷ ((Le 8 10), (1, 20))
    ∷ ((Bound 10 0 0), (1, 19)) ∷ ((Le 11 6), (1, 18)) ∷ []) []
    (Nobody ∷ Nobody ∷ (Function 0) ∷ (Function 0) ∷ (Function 0) ∷ (Function 0) ∷ (Function 0) ∷ (Function 0)
    ∷ (Function 0) ∷ (Function 0) ∷ (Function 0) ∷ (Function 0) ∷ [])
    × Gives program_39 (((Le 4 8), (1, 13)) ∷ ((Le 5 9), (1, 13)) ∷ ((Le 9 5), (1, 13)) ∷ ((Bound 8 0 0), (1, 16))
    ∷ ((Const 0 1 13), (1, 28)) ∷ ((Const 0 1 17), (1, 28)) ∷ ((Le 13 17), (1, 29)) ∷ ((Le 14 18), (1, 29))
    ∷ ((Le 18 14), (1, 29)) ∷ ((Leave 0 2 19), (1, 32)) ∷ ((Leave 0 3 20), (1, 32)) ∷ ((Enter 0 21 4), (1, 32))
    ∷ ((Enter 0 22 5), (1, 32)) ∷ ((Leave 0 5 22), (1, 32)) ∷ ((Leave 0 6 23), (1, 32)) ∷ ((Le 0 24), (1, 34))
    ∷ ((Le 1 25), (1, 34)) ∷ ((Le 25 1), (1, 34)) ∷ ((Le 17 24), (1, 34)) ∷ ((Le 24 21), (1, 34))
    ∷ ((Le 25 22), (1, 34)) ∷ ((Le 22 25), (1, 34)) ∷ [])
    ((record { unit = 1; token = 32; target = 0; owner = (Function 1) }) ∷ [])
    (Nobody ∷ Nobody ∷ (Function 0) ∷ (Function 0) ∷ (Function 0) ∷ (Function 0) ∷ (Function 0) ∷ (Function 0)
    ∷ (Function 0) ∷ (Function 0) ∷ (Function 0) ∷ (Function 1) ∷ (Function 1) ∷ (Function 1) ∷ (Function 1)
    ∷ (Function 1) ∷ (Function 1) ∷ (Function 1) ∷ (Function 1) ∷ (Function 1) ∷ (Function 1) ∷ (Function 1)
    ∷ (Function 1) ∷ (Function 1) ∷ (Function 1) ∷ (Function 1) ∷ [])
    × Gives program_40 (((Const 0 1 4), (1, 13)) ∷ ((Const 0 1 9), (1, 23)) ∷ ((Const 0 1 13), (1, 23))
    ∷ ((Le 9 13), (1, 24)) ∷ ((Le 10 14), (1, 24)) ∷ ((Le 14 10), (1, 24)) ∷ ((Leave 0 2 15), (1, 27))
    ∷ ((Leave 0 3 16), (1, 27)) ∷ ((Enter 0 17 4), (1, 27)) ∷ ((Enter 0 18 5), (1, 27)) ∷ ((Leave 0 5 18), (1, 27))
    ∷ ((Leave 0 6 19), (1, 27)) ∷ ((Le 0 20), (1, 29)) ∷ ((Le 1 21), (1, 29)) ∷ ((Le 21 1), (1, 29))
    ∷ ((Le 13 20), (1, 29)) ∷ ((Le 20 17), (1, 29)) ∷ ((Le 21 18), (1, 29)) ∷ ((Le 18 21), (1, 29)) ∷ [])
    ((record { unit = 1; token = 27; target = 0; owner = (Function 1) }) ∷ [])
    (Nobody ∷ Nobody ∷ (Function 0) ∷ (Function 0) ∷ (Function 0) ∷ (Function 0) ∷ (Function 0) ∷ (Function 1)
    ∷ (Function 1) ∷ (Function 1) ∷ (Function 1) ∷ (Function 1) ∷ (Function 1) ∷ (Function 1) ∷ (Function 1)
    ∷ (Function 1) ∷ (Function 1) ∷ (Function 1) ∷ (Function 1) ∷ (Function 1) ∷ (Function 1) ∷ (Function 1) ∷ [])
    × Gives program_41 (((Const 0 1 21), (1, 36)) ∷ ((Const 0 1 29), (1, 46)) ∷ ((Le 34 24), (1, 55))
    ∷ ((Le 0 40), (1, 79)) ∷ ((Le 1 41), (1, 79)) ∷ ((Le 41 1), (1, 79)) ∷ ((Le 21 40), (1, 79)) ∷ ((Le 40 38), (1, 79))
    ∷ ((Le 41 39), (1, 79)) ∷ ((Le 39 41), (1, 79)) ∷ []) []
    (Nobody ∷ Nobody ∷ Nobody ∷ Nobody ∷ Nobody ∷ Nobody ∷ Nobody ∷ Nobody ∷ Nobody ∷ Nobody ∷ Nobody ∷ Nobody ∷ Nobody
    ∷ Nobody ∷ Nobody ∷ Nobody ∷ Nobody ∷ Nobody ∷ Nobody ∷ Nobody ∷ Nobody ∷ Nobody ∷ Nobody ∷ Nobody ∷ Nobody ∷ Nobody
    ∷ Nobody ∷ Nobody ∷ Nobody ∷ Nobody ∷ Nobody ∷ (Function 0) ∷ (Function 0) ∷ (Function 0) ∷ (Function 0)
    ∷ (Function 0) ∷ (Function 0) ∷ (Function 0) ∷ (Function 0) ∷ (Function 0) ∷ (Function 0) ∷ (Function 0) ∷ [])
    × Gives program_42
    (((Const 0 1 3), (1, 8)) ∷ ((Const 1 1 3), (2, 9)) ∷ ((Bound 6 0 0), (1, 14)) ∷ ((Const 1 1 6), (2, 15))
    ∷ ((Le 0 11), (3, 26)) ∷ ((Le 1 12), (3, 26)) ∷ ((Le 12 1), (3, 26)) ∷ ((Le 3 11), (2, 26)) ∷ ((Le 11 6), (3, 24))
    ∷ ((Le 12 7), (3, 24)) ∷ ((Le 7 12), (3, 24)) ∷ []) [] (Nobody ∷ Nobody ∷ Nobody ∷ Nobody ∷ Nobody ∷ Nobody ∷ Nobody
    ∷ Nobody ∷ (Function 0) ∷ (Function 0) ∷ (Function 0) ∷ (Function 0) ∷ (Function 0) ∷ [])

-- every example of wider C has the constraints of its table
abbrev pub WiderHold : Type 0
WiderHold = Types × Values × Others × Accesses
