-- Small sources, each with what was worked out for it: of a faulty one the token and the number of the rule of the
-- first fault, of another the type, the first declaration and the owner of each name that it declares. Trees were made
-- from the sources by a program outside the repository; what they say was worked out by two others.
use Rattle.std.specs.Prelude.{◌≡◌, ℕ, nat_eq, nat_lt, Bool, false, ◌&&◌, ◌||◌, List, [], ◌∷◌, Option, None, Some, if◌then◌else◌}
use Rattle.c_words.specs.declared.kinds.Keyword.TheVariants as keywords
use Rattle.c_words.specs.declared.kinds.Punct.TheVariants as signs
use Rattle.c_syntax.specs.declared.parts.Qual.TheVariants as quals
use Rattle.c_tree.specs.Tree.{operation, prefix, sizeof_value, sizeof_type, extension, index, call, dot, arrow, post, name_use, number_use, text_use, paren, offset, assign, cond, binary, no_expr, some_expr, no_exprs, more_exprs, no_words, more_words, storage, qualifier, basic, struct_type, enum_type, typedef_name, no_body, some_body, no_struct_items, more_struct_items, member, no_mem_declrs, more_mem_declrs, named, unnamed, no_value, some_value, enum_of, no_enum_body, some_enum_body, no_enumerators, more_enumerators, pointer, declr_name, declr_paren, array, params, abs_pointer, abs_params, no_declr, some_declr, no_size, some_size, size_value, no_params, more_params, init_value, init_braced, init_list, no_init_items, more_init_items, no_desigs, more_desigs, member_desig, index_desig, no_init, some_init, no_init_declrs, more_init_declrs, declaration, decl_declaration, no_block_items, more_block_items, block_decl, block_stmt, block, expr_stmt, for_stmt, return_stmt, start_declaration}
use Rattle.c_tree.specs.Unit.{function_item, decl_item}
use Rattle.type_table.specs.Types.{CType, base, void, struct, pointer, function, no_types, more_types}
use Rattle.name_rules.specs.Spellings.{Place, Spelling}
use Rattle.name_rules.specs.Faults.{Fault, number}
use Rattle.name_rules.specs.Scopes.{Declared, Names, declared_at}
use Rattle.type_rules.specs.Program.{Source, names_of, faults_of}

-- whether a number is in a list
abbrev pub among : List ℕ → ℕ → Bool
among [] n = false
among (m ∷ ms) n = nat_eq m n || among ms n

-- a source whose annotation words and zeros stand at these tokens
abbrev pub spelled : List ℕ → List ℕ → Spelling
spelled marks zeros =
    record { unit = 1; wide = false; annotates = among marks; is_naught = among zeros; key = λ name. name }

-- the token of a place, where there is one
abbrev pub token_of : Option Place → Option ℕ
token_of None = None
token_of (Some at) = Some at.1

-- whether a fault, by its token and its rule, comes before another
abbrev pub is_lower : ℕ × ℕ → ℕ × ℕ → Bool
is_lower f g = nat_lt f.0 g.0 || (nat_eq f.0 g.0 && nat_lt f.1 g.1)

-- the first of a fault and one that may be there
abbrev pub lower : ℕ × ℕ → Option (ℕ × ℕ) → Option (ℕ × ℕ)
lower f None = Some f
lower f (Some g) = if is_lower g f then Some g else Some f

-- the token and the rule of the first of the faults, where there is one
abbrev pub least_fault : List Fault → Option (ℕ × ℕ)
least_fault [] = None
least_fault (f ∷ fs) = lower (f.at.1, number f.rule) (least_fault fs)

-- a declaration: its token, its type, the token of the first declaration, and that of the function that it belongs to
abbrev pub DeclaredRow : Type 0
DeclaredRow = ℕ × (CType × (ℕ × Option ℕ))

-- the row of a declaration at a token, where one is there
abbrev pub row_of : ℕ → Option Declared → List DeclaredRow
row_of token None = []
row_of token (Some d) = (token, (d.type, (d.first.1, token_of d.owner))) ∷ []

-- the row of one token before those of others
abbrev pub first_row : List DeclaredRow → List DeclaredRow → List DeclaredRow
first_row [] rows = rows
first_row (row ∷ others) rows = row ∷ rows

-- the rows of the declarations at these tokens of unit 1
abbrev pub rows_among : Names → List ℕ → List DeclaredRow
rows_among s [] = []
rows_among s (token ∷ tokens) = first_row (row_of token (declared_at s.declared (1, token))) (rows_among s tokens)

-- the rows of the declarations at these tokens of the first of these sources
abbrev pub rows_of : List Source → List ℕ → List DeclaredRow
rows_of sources tokens = rows_among (names_of sources) tokens

-- int a[n];
abbrev pub source_1 : Source
source_1 = record {
  spelling = spelled [] [];
  items = ((decl_item (decl_declaration (declaration []
      (more_words (basic (record { token = 0; keyword = keywords.Int })) no_words) (more_init_declrs [] (array
      (declr_name 1 0) 2 [] (some_size (size_value (name_use 3 1))) 4) None [] no_init no_init_declrs) 5))) ∷ []);
}

-- int y = z;
abbrev pub source_2 : Source
source_2 = record {
  spelling = spelled [] [];
  items = ((decl_item (decl_declaration
      (declaration [] (more_words (basic (record { token = 0; keyword = keywords.Int })) no_words) (more_init_declrs []
      (declr_name 1 1) None [] (some_init 2 (init_value (name_use 3 0))) no_init_declrs) 4))) ∷ []);
}

-- int f(void)[2];
abbrev pub source_3 : Source
source_3 = record {
  spelling = spelled [] [];
  items = ((decl_item
      (decl_declaration (declaration [] (more_words (basic (record { token = 0; keyword = keywords.Int })) no_words)
      (more_init_declrs [] (array (params (declr_name 1 0) 2 (more_params
      (more_words (basic (record { token = 3; keyword = keywords.Void })) no_words) no_declr [] no_params) None 4) 5 []
      (some_size (size_value (number_use 6))) 7) None [] no_init no_init_declrs) 8))) ∷ []);
}

-- int f(void)(int);
abbrev pub source_4 : Source
source_4 = record {
  spelling = spelled [] [];
  items = ((decl_item
      (decl_declaration (declaration [] (more_words (basic (record { token = 0; keyword = keywords.Int })) no_words)
      (more_init_declrs [] (params (params (declr_name 1 0) 2 (more_params
      (more_words (basic (record { token = 3; keyword = keywords.Void })) no_words) no_declr [] no_params) None 4) 5
      (more_params (more_words (basic (record { token = 6; keyword = keywords.Int })) no_words) no_declr
      [] no_params) None 7) None [] no_init no_init_declrs) 8))) ∷ []);
}

-- int f(int g(int));
abbrev pub source_5 : Source
source_5 = record {
  spelling = spelled [] [];
  items = ((decl_item (decl_declaration (declaration [] (more_words
      (basic (record { token = 0; keyword = keywords.Int })) no_words) (more_init_declrs [] (params (declr_name 1 0) 2
      (more_params (more_words (basic (record { token = 3; keyword = keywords.Int })) no_words) (some_declr (params
      (declr_name 4 1) 5 (more_params (more_words (basic (record { token = 6; keyword = keywords.Int })) no_words)
      no_declr [] no_params) None 7)) [] no_params) None 8) None [] no_init no_init_declrs) 9))) ∷ []);
}

-- int x = sizeof(x);
abbrev pub source_6 : Source
source_6 = record {
  spelling = spelled [] [];
  items = ((decl_item
      (decl_declaration (declaration [] (more_words (basic (record { token = 0; keyword = keywords.Int })) no_words)
      (more_init_declrs [] (declr_name 1 0) None [] (some_init 2 (init_value (sizeof_value
      (record { token = 3; keyword = keywords.Sizeof }) (paren 4 (name_use 5 0) 6)))) no_init_declrs) 7))) ∷ []);
}

-- int x = { .a = 1 };
abbrev pub source_7 : Source
source_7 = record {
  spelling = spelled [] [];
  items = ((decl_item
      (decl_declaration (declaration [] (more_words (basic (record { token = 0; keyword = keywords.Int })) no_words)
      (more_init_declrs [] (declr_name 1 1) None [] (some_init 2 (init_braced
      (init_list 3 (more_init_items (more_desigs (member_desig 4 (record { token = 5; name = 0 })) no_desigs) (Some 6)
      (init_value (number_use 7)) no_init_items) None 8))) no_init_declrs) 9))) ∷ []);
}

-- void f(void) { &1; }
abbrev pub source_8 : Source
source_8 = record {
  spelling = spelled [] [];
  items = ((function_item [] (more_words (basic (record { token = 0; keyword = keywords.Void })) no_words) (params
      (declr_name 1 0) 2 (more_params (more_words (basic (record { token = 3; keyword = keywords.Void })) no_words)
      no_declr [] no_params) None 4) [] 5 (more_block_items
      (block_stmt (expr_stmt (some_expr (prefix 6 signs.Ampersand (number_use 7))) 8)) no_block_items) 9) ∷ []);
}

-- void f(void) { *u; }
abbrev pub source_9 : Source
source_9 = record {
  spelling = spelled [] [];
  items = ((function_item [] (more_words (basic (record { token = 0; keyword = keywords.Void })) no_words) (params
      (declr_name 1 0) 2 (more_params (more_words (basic (record { token = 3; keyword = keywords.Void })) no_words)
      no_declr [] no_params) None 4) [] 5 (more_block_items
      (block_stmt (expr_stmt (some_expr (prefix 6 signs.Star (name_use 7 1))) 8)) no_block_items) 9) ∷ []);
}

-- int x = { [0] = 1 };
abbrev pub source_10 : Source
source_10 = record {
  spelling = spelled [] (5 ∷ []);
  items = ((decl_item (decl_declaration (declaration [] (more_words
      (basic (record { token = 0; keyword = keywords.Int })) no_words) (more_init_declrs [] (declr_name 1 0) None []
      (some_init 2 (init_braced (init_list 3 (more_init_items (more_desigs (index_desig 4 (number_use 5) 6) no_desigs)
      (Some 7) (init_value (number_use 8)) no_init_items) None 9))) no_init_declrs) 10))) ∷ []);
}

-- void f(void) { 1++; }
abbrev pub source_11 : Source
source_11 = record {
  spelling = spelled [] [];
  items = ((function_item [] (more_words (basic (record { token = 0; keyword = keywords.Void })) no_words) (params
      (declr_name 1 0) 2 (more_params (more_words (basic (record { token = 3; keyword = keywords.Void })) no_words)
      no_declr [] no_params) None 4) [] 5 (more_block_items
      (block_stmt (expr_stmt (some_expr (post (number_use 6) 7 signs.PlusPlus)) 8)) no_block_items) 9) ∷ []);
}

-- void f(void) { *!u; }
abbrev pub source_12 : Source
source_12 = record {
  spelling = spelled [] [];
  items = ((function_item [] (more_words (basic (record { token = 0; keyword = keywords.Void })) no_words) (params
      (declr_name 1 0) 2 (more_params (more_words (basic (record { token = 3; keyword = keywords.Void })) no_words)
      no_declr [] no_params) None 4) [] 5 (more_block_items (block_stmt
      (expr_stmt (some_expr (prefix 6 signs.Star (prefix 7 signs.Bang (name_use 8 1)))) 9)) no_block_items) 10) ∷ []);
}

-- void f(void) { x(1); }
abbrev pub source_13 : Source
source_13 = record {
  spelling = spelled [] [];
  items = ((function_item [] (more_words (basic (record { token = 0; keyword = keywords.Void })) no_words) (params
      (declr_name 1 0) 2 (more_params (more_words (basic (record { token = 3; keyword = keywords.Void })) no_words)
      no_declr [] no_params) None 4) [] 5 (more_block_items (block_stmt (expr_stmt
      (some_expr (call (name_use 6 1) 7 (more_exprs (number_use 8) no_exprs) 9)) 10)) no_block_items) 11) ∷ []);
}

-- void f(void) { 1(2); }
abbrev pub source_14 : Source
source_14 = record {
  spelling = spelled [] [];
  items = ((function_item [] (more_words (basic (record { token = 0; keyword = keywords.Void })) no_words) (params
      (declr_name 1 0) 2 (more_params (more_words (basic (record { token = 3; keyword = keywords.Void })) no_words)
      no_declr [] no_params) None 4) [] 5 (more_block_items (block_stmt (expr_stmt
      (some_expr (call (number_use 6) 7 (more_exprs (number_use 8) no_exprs) 9)) 10)) no_block_items) 11) ∷ []);
}

-- enum { A = sizeof(A) };
abbrev pub source_15 : Source
source_15 = record {
  spelling = spelled [] [];
  items = ((decl_item
      (decl_declaration (declaration [] (more_words (enum_type (enum_of 0 [] None (some_enum_body 1 (more_enumerators
      (record { token = 2; name = 0 }) [] (some_value 3 (sizeof_value (record { token = 4; keyword = keywords.Sizeof })
      (paren 5 (name_use 6 0) 7))) no_enumerators) None 8))) no_words) no_init_declrs 9))) ∷ []);
}

-- enum e { A }; enum e { B };
abbrev pub source_16 : Source
source_16 = record {
  spelling = spelled [] [];
  items = ((decl_item (decl_declaration (declaration []
      (more_words (enum_type (enum_of 0 [] (Some (record { token = 1; name = 1 })) (some_enum_body 2 (more_enumerators
      (record { token = 3; name = 0 }) [] no_value no_enumerators) None 4))) no_words) no_init_declrs 5)))
      ∷ (decl_item (decl_declaration (declaration []
      (more_words (enum_type (enum_of 6 [] (Some (record { token = 7; name = 1 })) (some_enum_body 8 (more_enumerators
      (record { token = 9; name = 2 }) [] no_value no_enumerators) None 10))) no_words) no_init_declrs 11))) ∷ []);
}

-- int x = { 1, { .zz = 1 } };
abbrev pub source_17 : Source
source_17 = record {
  spelling = spelled [] [];
  items = ((decl_item
      (decl_declaration (declaration [] (more_words (basic (record { token = 0; keyword = keywords.Int })) no_words)
      (more_init_declrs [] (declr_name 1 1) None [] (some_init 2 (init_braced (init_list 3
      (more_init_items no_desigs None (init_value (number_use 4)) (more_init_items no_desigs None (init_braced
      (init_list 6 (more_init_items (more_desigs (member_desig 7 (record { token = 8; name = 0 })) no_desigs) (Some 9)
      (init_value (number_use 10)) no_init_items) None 11)) no_init_items)) None 12))) no_init_declrs) 13))) ∷ []);
}

-- void f(int *a) { int a; *a; }
abbrev pub source_18 : Source
source_18 = record {
  spelling = spelled [] [];
  items = ((function_item [] (more_words (basic (record { token = 0; keyword = keywords.Void })) no_words) (params
      (declr_name 1 0) 2 (more_params (more_words (basic (record { token = 3; keyword = keywords.Int })) no_words)
      (some_declr (pointer 4 [] (declr_name 5 1))) [] no_params) None 6) [] 7 (more_block_items (block_decl
      (decl_declaration (declaration [] (more_words (basic (record { token = 8; keyword = keywords.Int })) no_words)
      (more_init_declrs [] (declr_name 9 1) None [] no_init no_init_declrs) 10))) (more_block_items
      (block_stmt (expr_stmt (some_expr (prefix 11 signs.Star (name_use 12 1))) 13)) no_block_items)) 14) ∷ []);
}

-- void f(int a, char *a) { *a; }
abbrev pub source_19 : Source
source_19 = record {
  spelling = spelled [] [];
  items = ((function_item [] (more_words (basic (record { token = 0; keyword = keywords.Void })) no_words) (params
      (declr_name 1 0) 2 (more_params (more_words (basic (record { token = 3; keyword = keywords.Int })) no_words)
      (some_declr (declr_name 4 1)) [] (more_params (more_words (basic (record { token = 6; keyword = keywords.Char }))
      no_words) (some_declr (pointer 7 [] (declr_name 8 1))) [] no_params)) None 9) [] 10 (more_block_items
      (block_stmt (expr_stmt (some_expr (prefix 11 signs.Star (name_use 12 1))) 13)) no_block_items) 14) ∷ []);
}

-- void f(char *a, int a) { *a; }
abbrev pub source_20 : Source
source_20 = record {
  spelling = spelled [] [];
  items = ((function_item [] (more_words (basic (record { token = 0; keyword = keywords.Void })) no_words) (params
      (declr_name 1 0) 2 (more_params (more_words (basic (record { token = 3; keyword = keywords.Char })) no_words)
      (some_declr (pointer 4 [] (declr_name 5 1))) []
      (more_params (more_words (basic (record { token = 7; keyword = keywords.Int })) no_words)
      (some_declr (declr_name 8 1)) [] no_params)) None 9) [] 10 (more_block_items
      (block_stmt (expr_stmt (some_expr (prefix 11 signs.Star (name_use 12 1))) 13)) no_block_items) 14) ∷ []);
}

-- int *p; void f(void) { p(1); }
abbrev pub source_21 : Source
source_21 = record {
  spelling = spelled [] [];
  items = ((decl_item
      (decl_declaration (declaration [] (more_words (basic (record { token = 0; keyword = keywords.Int })) no_words)
      (more_init_declrs [] (pointer 1 [] (declr_name 2 0)) None [] no_init no_init_declrs) 3)))
      ∷ (function_item [] (more_words (basic (record { token = 4; keyword = keywords.Void })) no_words) (params
      (declr_name 5 1) 6 (more_params (more_words (basic (record { token = 7; keyword = keywords.Void })) no_words)
      no_declr [] no_params) None 8) [] 9 (more_block_items (block_stmt (expr_stmt
      (some_expr (call (name_use 10 0) 11 (more_exprs (number_use 12) no_exprs) 13)) 14)) no_block_items) 15) ∷ []);
}

-- enum e; enum e { A }; enum e x;
abbrev pub source_22 : Source
source_22 = record {
  spelling = spelled [] [];
  items = ((decl_item (decl_declaration (declaration [] (more_words (enum_type
      (enum_of 0 [] (Some (record { token = 1; name = 0 })) no_enum_body)) no_words) no_init_declrs 2))) ∷ (decl_item
      (decl_declaration (declaration [] (more_words (enum_type (enum_of 3 [] (Some (record { token = 4; name = 0 }))
      (some_enum_body 5 (more_enumerators (record { token = 6; name = 1 }) [] no_value no_enumerators) None 7)))
      no_words) no_init_declrs 8))) ∷ (decl_item (decl_declaration (declaration []
      (more_words (enum_type (enum_of 9 [] (Some (record { token = 10; name = 0 })) no_enum_body)) no_words)
      (more_init_declrs [] (declr_name 11 2) None [] no_init no_init_declrs) 12))) ∷ []);
}

-- int h(enum { A } x); int y = A;
abbrev pub source_23 : Source
source_23 = record {
  spelling = spelled [] [];
  items = ((decl_item
      (decl_declaration (declaration [] (more_words (basic (record { token = 0; keyword = keywords.Int })) no_words)
      (more_init_declrs [] (params (declr_name 1 0) 2 (more_params (more_words (enum_type (enum_of 3 [] None
      (some_enum_body 4 (more_enumerators (record { token = 5; name = 1 }) [] no_value no_enumerators) None 6)))
      no_words) (some_declr (declr_name 7 2)) [] no_params) None 8) None [] no_init no_init_declrs) 9))) ∷ (decl_item
      (decl_declaration (declaration [] (more_words (basic (record { token = 10; keyword = keywords.Int })) no_words)
      (more_init_declrs [] (declr_name 11 3) None [] (some_init 12 (init_value (name_use 13 1))) no_init_declrs) 14)))
      ∷ []);
}

-- int x, *p; void f(void) { *x; }
abbrev pub source_24 : Source
source_24 = record {
  spelling = spelled [] [];
  items = ((decl_item (decl_declaration (declaration []
      (more_words (basic (record { token = 0; keyword = keywords.Int })) no_words) (more_init_declrs [] (declr_name 1 1)
      None [] no_init (more_init_declrs [] (pointer 3 [] (declr_name 4 0)) None [] no_init no_init_declrs)) 5)))
      ∷ (function_item [] (more_words (basic (record { token = 6; keyword = keywords.Void })) no_words) (params
      (declr_name 7 2) 8 (more_params (more_words (basic (record { token = 9; keyword = keywords.Void })) no_words)
      no_declr [] no_params) None 10) [] 11 (more_block_items
      (block_stmt (expr_stmt (some_expr (prefix 12 signs.Star (name_use 13 1))) 14)) no_block_items) 15) ∷ []);
}

-- int a[] = { [0] = 1, [1] = 2 };
abbrev pub source_25 : Source
source_25 = record {
  spelling = spelled [] (7 ∷ []);
  items = ((decl_item
      (decl_declaration (declaration [] (more_words (basic (record { token = 0; keyword = keywords.Int })) no_words)
      (more_init_declrs [] (array (declr_name 1 0) 2 [] no_size 3) None []
      (some_init 4 (init_braced (init_list 5 (more_init_items (more_desigs (index_desig 6 (number_use 7) 8) no_desigs)
      (Some 9) (init_value (number_use 10)) (more_init_items (more_desigs (index_desig 12 (number_use 13) 14) no_desigs)
      (Some 15) (init_value (number_use 16)) no_init_items)) None 17))) no_init_declrs) 18))) ∷ []);
}

-- int $tainted const $untainted x;
abbrev pub source_26 : Source
source_26 = record {
  spelling = spelled (1 ∷ 2 ∷ 3 ∷ []) [];
  items =
      ((decl_item (decl_declaration (declaration [] (more_words (basic (record { token = 0; keyword = keywords.Int }))
      (more_words (qualifier (quals.Element 1)) (more_words (qualifier (quals.Word
      (record { token = 2; keyword = keywords.Const }))) (more_words (qualifier (quals.Element 3)) no_words))))
      (more_init_declrs [] (declr_name 4 0) None [] no_init no_init_declrs) 5))) ∷ []);
}

-- int x, *p; void f(void) { *!p; }
abbrev pub source_27 : Source
source_27 = record {
  spelling = spelled [] [];
  items = ((decl_item (decl_declaration (declaration []
      (more_words (basic (record { token = 0; keyword = keywords.Int })) no_words) (more_init_declrs [] (declr_name 1 1)
      None [] no_init (more_init_declrs [] (pointer 3 [] (declr_name 4 0)) None [] no_init no_init_declrs)) 5)))
      ∷ (function_item [] (more_words (basic (record { token = 6; keyword = keywords.Void })) no_words) (params
      (declr_name 7 2) 8 (more_params (more_words (basic (record { token = 9; keyword = keywords.Void })) no_words)
      no_declr [] no_params) None 10) [] 11 (more_block_items (block_stmt (expr_stmt
      (some_expr (prefix 12 signs.Star (prefix 13 signs.Bang (name_use 14 0)))) 15)) no_block_items) 16) ∷ []);
}

-- int f($tainted void), g(void ());
abbrev pub source_28 : Source
source_28 = record {
  spelling = spelled (3 ∷ []) [];
  items = ((decl_item
      (decl_declaration (declaration [] (more_words (basic (record { token = 0; keyword = keywords.Int })) no_words)
      (more_init_declrs [] (params (declr_name 1 1) 2 (more_params (more_words (qualifier (quals.Element 3))
      (more_words (basic (record { token = 4; keyword = keywords.Void })) no_words)) no_declr [] no_params) None 5) None
      [] no_init (more_init_declrs [] (params (declr_name 7 0) 8
      (more_params (more_words (basic (record { token = 9; keyword = keywords.Void })) no_words) (some_declr
      (abs_params no_declr 10 no_params None 11)) [] no_params) None 12) None [] no_init no_init_declrs)) 13))) ∷ []);
}

-- void f(int *a) { { int a; *a; } }
abbrev pub source_29 : Source
source_29 = record {
  spelling = spelled [] [];
  items = ((function_item [] (more_words (basic (record { token = 0; keyword = keywords.Void })) no_words) (params
      (declr_name 1 0) 2 (more_params (more_words (basic (record { token = 3; keyword = keywords.Int })) no_words)
      (some_declr (pointer 4 [] (declr_name 5 1))) [] no_params) None 6) [] 7
      (more_block_items (block_stmt (block 8 (more_block_items (block_decl
      (decl_declaration (declaration [] (more_words (basic (record { token = 9; keyword = keywords.Int })) no_words)
      (more_init_declrs [] (declr_name 10 1) None [] no_init no_init_declrs) 11))) (more_block_items (block_stmt
      (expr_stmt (some_expr (prefix 12 signs.Star (name_use 13 1))) 14)) no_block_items)) 15)) no_block_items) 16)
      ∷ []);
}

-- int h(enum { A } x) { return A; }
abbrev pub source_30 : Source
source_30 = record {
  spelling = spelled [] [];
  items = ((function_item [] (more_words (basic (record { token = 0; keyword = keywords.Int })) no_words)
      (params (declr_name 1 0) 2 (more_params (more_words (enum_type (enum_of 3 [] None (some_enum_body 4
      (more_enumerators (record { token = 5; name = 1 }) [] no_value no_enumerators) None 6))) no_words)
      (some_declr (declr_name 7 2)) [] no_params) None 8) [] 9
      (more_block_items (block_stmt (return_stmt 10 (some_expr (name_use 11 1)) 12)) no_block_items) 13) ∷ []);
}

-- int a[sizeof(enum { A })], b = A;
abbrev pub source_31 : Source
source_31 = record {
  spelling = spelled [] [];
  items = ((decl_item (decl_declaration
      (declaration [] (more_words (basic (record { token = 0; keyword = keywords.Int })) no_words) (more_init_declrs []
      (array (declr_name 1 2) 2 [] (some_size (size_value (sizeof_type (record { token = 3; keyword = keywords.Sizeof })
      4 (more_words (enum_type (enum_of 5 [] None (some_enum_body 6 (more_enumerators (record { token = 7; name = 0 })
      [] no_value no_enumerators) None 8))) no_words) no_declr 9))) 10) None [] no_init (more_init_declrs []
      (declr_name 12 1) None [] (some_init 13 (init_value (name_use 14 0))) no_init_declrs)) 15))) ∷ []);
}

-- int g(int); void f(void) { g(); }
abbrev pub source_32 : Source
source_32 = record {
  spelling = spelled [] [];
  items = ((decl_item (decl_declaration (declaration []
      (more_words (basic (record { token = 0; keyword = keywords.Int })) no_words) (more_init_declrs [] (params
      (declr_name 1 0) 2 (more_params (more_words (basic (record { token = 3; keyword = keywords.Int })) no_words)
      no_declr [] no_params) None 4) None [] no_init no_init_declrs) 5)))
      ∷ (function_item [] (more_words (basic (record { token = 6; keyword = keywords.Void })) no_words) (params
      (declr_name 7 1) 8 (more_params (more_words (basic (record { token = 9; keyword = keywords.Void })) no_words)
      no_declr [] no_params) None 10) [] 11 (more_block_items
      (block_stmt (expr_stmt (some_expr (call (name_use 12 0) 13 no_exprs 14)) 15)) no_block_items) 16) ∷ []);
}

-- void f(int g) { int g(void); g(); }
abbrev pub source_33 : Source
source_33 = record {
  spelling = spelled [] [];
  items = ((function_item [] (more_words (basic (record { token = 0; keyword = keywords.Void })) no_words) (params
      (declr_name 1 0) 2 (more_params (more_words (basic (record { token = 3; keyword = keywords.Int })) no_words)
      (some_declr (declr_name 4 1)) [] no_params) None 5) [] 6 (more_block_items (block_decl (decl_declaration
      (declaration [] (more_words (basic (record { token = 7; keyword = keywords.Int })) no_words) (more_init_declrs []
      (params (declr_name 8 1) 9 (more_params (more_words (basic (record { token = 10; keyword = keywords.Void }))
      no_words) no_declr [] no_params) None 11) None [] no_init no_init_declrs) 12))) (more_block_items
      (block_stmt (expr_stmt (some_expr (call (name_use 13 1) 14 no_exprs 15)) 16)) no_block_items)) 17) ∷ []);
}

-- int x = __builtin_offsetof(int, a);
abbrev pub source_34 : Source
source_34 = record {
  spelling = spelled [] [];
  items = ((decl_item (decl_declaration (declaration [] (more_words
      (basic (record { token = 0; keyword = keywords.Int })) no_words) (more_init_declrs [] (declr_name 1 1) None []
      (some_init 2 (init_value (offset 3 4 (more_words (basic (record { token = 5; keyword = keywords.Int })) no_words)
      no_declr 6 (record { token = 7; name = 0 }) no_desigs 8))) no_init_declrs) 9))) ∷ []);
}

-- typedef int T; typedef char *T; T x;
abbrev pub source_35 : Source
source_35 = record {
  spelling = spelled [] [];
  items = ((decl_item
      (decl_declaration (declaration [] (more_words (storage (record { token = 0; keyword = keywords.Typedef }))
      (more_words (basic (record { token = 1; keyword = keywords.Int })) no_words))
      (more_init_declrs [] (declr_name 2 0) None [] no_init no_init_declrs) 3))) ∷ (decl_item
      (decl_declaration (declaration [] (more_words (storage (record { token = 4; keyword = keywords.Typedef }))
      (more_words (basic (record { token = 5; keyword = keywords.Char })) no_words))
      (more_init_declrs [] (pointer 6 [] (declr_name 7 0)) None [] no_init no_init_declrs) 8))) ∷ (decl_item
      (decl_declaration (declaration [] (more_words (typedef_name (record { token = 9; name = 0 })) no_words)
      (more_init_declrs [] (declr_name 10 1) None [] no_init no_init_declrs) 11))) ∷ []);
}

-- struct s { struct s { int a; } b; };
abbrev pub source_36 : Source
source_36 = record {
  spelling = spelled [] [];
  items = ((decl_item
      (decl_declaration (declaration [] (more_words (struct_type (record { token = 0; keyword = keywords.Struct }) []
      (Some (record { token = 1; name = 2 })) (some_body 2 (more_struct_items (member [] (more_words (struct_type
      (record { token = 3; keyword = keywords.Struct }) [] (Some (record { token = 4; name = 2 })) (some_body 5
      (more_struct_items (member [] (more_words (basic (record { token = 6; keyword = keywords.Int })) no_words)
      (more_mem_declrs [] (named (declr_name 7 1) no_value []) no_mem_declrs) 8) no_struct_items) 9)) no_words)
      (more_mem_declrs [] (named (declr_name 10 0) no_value []) no_mem_declrs) 11) no_struct_items) 12)) no_words)
      no_init_declrs 13))) ∷ []);
}

-- void f(void) { } void f(void) { u; }
abbrev pub source_37 : Source
source_37 = record {
  spelling = spelled [] [];
  items = ((function_item [] (more_words (basic (record { token = 0; keyword = keywords.Void })) no_words) (params
      (declr_name 1 0) 2 (more_params (more_words (basic (record { token = 3; keyword = keywords.Void })) no_words)
      no_declr [] no_params) None 4) [] 5 no_block_items 6) ∷ (function_item [] (more_words
      (basic (record { token = 7; keyword = keywords.Void })) no_words) (params (declr_name 8 0) 9 (more_params
      (more_words (basic (record { token = 10; keyword = keywords.Void })) no_words) no_declr [] no_params) None 11)
      [] 12 (more_block_items (block_stmt (expr_stmt (some_expr (name_use 13 1)) 14)) no_block_items) 15) ∷ []);
}

-- struct s { } v; void f(void) { v.a; }
abbrev pub source_38 : Source
source_38 = record {
  spelling = spelled [] [];
  items = ((decl_item
      (decl_declaration (declaration [] (more_words (struct_type (record { token = 0; keyword = keywords.Struct }) []
      (Some (record { token = 1; name = 0 })) (some_body 2 no_struct_items 3)) no_words)
      (more_init_declrs [] (declr_name 4 1) None [] no_init no_init_declrs) 5)))
      ∷ (function_item [] (more_words (basic (record { token = 6; keyword = keywords.Void })) no_words) (params
      (declr_name 7 2) 8 (more_params (more_words (basic (record { token = 9; keyword = keywords.Void })) no_words)
      no_declr [] no_params) None 10) [] 11 (more_block_items (block_stmt
      (expr_stmt (some_expr (dot (name_use 12 1) 13 (record { token = 14; name = 3 }))) 15)) no_block_items) 16) ∷ []);
}

-- int g(int); void f(void) { g(1, 2); }
abbrev pub source_39 : Source
source_39 = record {
  spelling = spelled [] [];
  items = ((decl_item (decl_declaration (declaration []
      (more_words (basic (record { token = 0; keyword = keywords.Int })) no_words) (more_init_declrs [] (params
      (declr_name 1 0) 2 (more_params (more_words (basic (record { token = 3; keyword = keywords.Int })) no_words)
      no_declr [] no_params) None 4) None [] no_init no_init_declrs) 5)))
      ∷ (function_item [] (more_words (basic (record { token = 6; keyword = keywords.Void })) no_words) (params
      (declr_name 7 1) 8 (more_params (more_words (basic (record { token = 9; keyword = keywords.Void })) no_words)
      no_declr [] no_params) None 10) [] 11 (more_block_items (block_stmt (expr_stmt (some_expr (call (name_use 12 0) 13
      (more_exprs (number_use 14) (more_exprs (number_use 16) no_exprs)) 17)) 18)) no_block_items) 19) ∷ []);
}

-- enum e { A }; enum e { B }; int x = C;
abbrev pub source_40 : Source
source_40 = record {
  spelling = spelled [] [];
  items = ((decl_item (decl_declaration (declaration []
      (more_words (enum_type (enum_of 0 [] (Some (record { token = 1; name = 1 })) (some_enum_body 2 (more_enumerators
      (record { token = 3; name = 0 }) [] no_value no_enumerators) None 4))) no_words) no_init_declrs 5))) ∷ (decl_item
      (decl_declaration (declaration [] (more_words (enum_type (enum_of 6 [] (Some (record { token = 7; name = 1 }))
      (some_enum_body 8 (more_enumerators (record { token = 9; name = 2 }) [] no_value no_enumerators) None 10)))
      no_words) no_init_declrs 11))) ∷ (decl_item (decl_declaration
      (declaration [] (more_words (basic (record { token = 12; keyword = keywords.Int })) no_words) (more_init_declrs []
      (declr_name 13 4) None [] (some_init 14 (init_value (name_use 15 3))) no_init_declrs) 16))) ∷ []);
}

-- int f(int a[3], int b[][2], char *c[]);
abbrev pub source_41 : Source
source_41 = record {
  spelling = spelled [] [];
  items = ((decl_item (decl_declaration (declaration []
      (more_words (basic (record { token = 0; keyword = keywords.Int })) no_words) (more_init_declrs [] (params
      (declr_name 1 0) 2 (more_params (more_words (basic (record { token = 3; keyword = keywords.Int })) no_words)
      (some_declr (array (declr_name 4 3) 5 [] (some_size (size_value (number_use 6))) 7)) []
      (more_params (more_words (basic (record { token = 9; keyword = keywords.Int })) no_words) (some_declr (array
      (array (declr_name 10 2) 11 [] no_size 12) 13 [] (some_size (size_value (number_use 14))) 15)) [] (more_params
      (more_words (basic (record { token = 17; keyword = keywords.Char })) no_words) (some_declr (pointer 18 []
      (array (declr_name 19 1) 20 [] no_size 21))) [] no_params))) None 22) None [] no_init no_init_declrs) 23))) ∷ []);
}

-- union s { int a; }; union s { int b; };
abbrev pub source_42 : Source
source_42 = record {
  spelling = spelled [] [];
  items = ((decl_item (decl_declaration (declaration [] (more_words (struct_type
      (record { token = 0; keyword = keywords.Union }) [] (Some (record { token = 1; name = 1 })) (some_body 2
      (more_struct_items (member [] (more_words (basic (record { token = 3; keyword = keywords.Int })) no_words)
      (more_mem_declrs [] (named (declr_name 4 0) no_value []) no_mem_declrs) 5) no_struct_items) 6)) no_words)
      no_init_declrs 7))) ∷ (decl_item (decl_declaration (declaration [] (more_words (struct_type
      (record { token = 8; keyword = keywords.Union }) [] (Some (record { token = 9; name = 1 })) (some_body 10
      (more_struct_items (member [] (more_words (basic (record { token = 11; keyword = keywords.Int })) no_words)
      (more_mem_declrs [] (named (declr_name 12 2) no_value []) no_mem_declrs) 13) no_struct_items) 14)) no_words)
      no_init_declrs 15))) ∷ []);
}

-- struct s *p; void f(void) { p->a = 1; }
abbrev pub source_43 : Source
source_43 = record {
  spelling = spelled [] [];
  items = ((decl_item (decl_declaration (declaration [] (more_words (struct_type
      (record { token = 0; keyword = keywords.Struct }) [] (Some (record { token = 1; name = 0 })) no_body) no_words)
      (more_init_declrs [] (pointer 2 [] (declr_name 3 1)) None [] no_init no_init_declrs) 4))) ∷ (function_item []
      (more_words (basic (record { token = 5; keyword = keywords.Void })) no_words) (params (declr_name 6 2) 7
      (more_params (more_words (basic (record { token = 8; keyword = keywords.Void })) no_words) no_declr [] no_params)
      None 9) [] 10 (more_block_items (block_stmt (expr_stmt (some_expr (operation (arrow (name_use 11 1) 12
      (record { token = 13; name = 3 })) (assign signs.Equal) 14 (number_use 15))) 16)) no_block_items) 17) ∷ []);
}

-- struct s { int : 3; int a; } v = { 1 };
abbrev pub source_44 : Source
source_44 = record {
  spelling = spelled [] [];
  items = ((decl_item (decl_declaration (declaration [] (more_words (struct_type
      (record { token = 0; keyword = keywords.Struct }) [] (Some (record { token = 1; name = 1 })) (some_body 2
      (more_struct_items (member [] (more_words (basic (record { token = 3; keyword = keywords.Int })) no_words)
      (more_mem_declrs [] (unnamed 4 (number_use 5) []) no_mem_declrs) 6)
      (more_struct_items (member [] (more_words (basic (record { token = 7; keyword = keywords.Int })) no_words)
      (more_mem_declrs [] (named (declr_name 8 0) no_value []) no_mem_declrs) 9) no_struct_items)) 10)) no_words)
      (more_init_declrs [] (declr_name 11 2) None [] (some_init 12 (init_braced (init_list 13 (more_init_items no_desigs
      None (init_value (number_use 14)) no_init_items) None 15))) no_init_declrs) 16))) ∷ []);
}

-- int x, *p; void f(void) { x[p]; p[p]; }
abbrev pub source_45 : Source
source_45 = record {
  spelling = spelled [] [];
  items = ((decl_item (decl_declaration (declaration []
      (more_words (basic (record { token = 0; keyword = keywords.Int })) no_words) (more_init_declrs [] (declr_name 1 1)
      None [] no_init (more_init_declrs [] (pointer 3 [] (declr_name 4 0)) None [] no_init no_init_declrs)) 5)))
      ∷ (function_item [] (more_words (basic (record { token = 6; keyword = keywords.Void })) no_words) (params
      (declr_name 7 2) 8 (more_params (more_words (basic (record { token = 9; keyword = keywords.Void })) no_words)
      no_declr [] no_params) None 10) [] 11 (more_block_items
      (block_stmt (expr_stmt (some_expr (index (name_use 12 1) 13 (name_use 14 0) 15)) 16)) (more_block_items
      (block_stmt (expr_stmt (some_expr (index (name_use 17 0) 18 (name_use 19 0) 20)) 21)) no_block_items)) 22) ∷ []);
}

-- void f(void) { extern int x; x; } int x;
abbrev pub source_46 : Source
source_46 = record {
  spelling = spelled [] [];
  items = ((function_item [] (more_words (basic (record { token = 0; keyword = keywords.Void })) no_words) (params
      (declr_name 1 0) 2 (more_params (more_words (basic (record { token = 3; keyword = keywords.Void })) no_words)
      no_declr [] no_params) None 4) [] 5 (more_block_items (block_decl
      (decl_declaration (declaration [] (more_words (storage (record { token = 6; keyword = keywords.Extern }))
      (more_words (basic (record { token = 7; keyword = keywords.Int })) no_words))
      (more_init_declrs [] (declr_name 8 1) None [] no_init no_init_declrs) 9)))
      (more_block_items (block_stmt (expr_stmt (some_expr (name_use 10 1)) 11)) no_block_items)) 12) ∷ (decl_item
      (decl_declaration (declaration [] (more_words (basic (record { token = 13; keyword = keywords.Int })) no_words)
      (more_init_declrs [] (declr_name 14 1) None [] no_init no_init_declrs) 15))) ∷ []);
}

-- int g(int, ...); void f(void) { g(x()); }
abbrev pub source_47 : Source
source_47 = record {
  spelling = spelled [] [];
  items = ((decl_item (decl_declaration (declaration []
      (more_words (basic (record { token = 0; keyword = keywords.Int })) no_words) (more_init_declrs [] (params
      (declr_name 1 0) 2 (more_params (more_words (basic (record { token = 3; keyword = keywords.Int })) no_words)
      no_declr [] no_params) (Some (record { comma = 4; quals = []; dots = 5 })) 6) None [] no_init no_init_declrs) 7)))
      ∷ (function_item [] (more_words (basic (record { token = 8; keyword = keywords.Void })) no_words) (params
      (declr_name 9 1) 10 (more_params (more_words (basic (record { token = 11; keyword = keywords.Void })) no_words)
      no_declr [] no_params) None 12) [] 13 (more_block_items (block_stmt (expr_stmt (some_expr (call (name_use 14 0) 15
      (more_exprs (call (name_use 16 2) 17 no_exprs 18) no_exprs) 19)) 20)) no_block_items) 21) ∷ []);
}

-- int x; void f(void) { enum { x }; x; &x; }
abbrev pub source_48 : Source
source_48 = record {
  spelling = spelled [] [];
  items = ((decl_item
      (decl_declaration (declaration [] (more_words (basic (record { token = 0; keyword = keywords.Int })) no_words)
      (more_init_declrs [] (declr_name 1 0) None [] no_init no_init_declrs) 2)))
      ∷ (function_item [] (more_words (basic (record { token = 3; keyword = keywords.Void })) no_words) (params
      (declr_name 4 1) 5 (more_params (more_words (basic (record { token = 6; keyword = keywords.Void })) no_words)
      no_declr [] no_params) None 7) [] 8 (more_block_items (block_decl
      (decl_declaration (declaration [] (more_words (enum_type (enum_of 9 [] None (some_enum_body 10 (more_enumerators
      (record { token = 11; name = 0 }) [] no_value no_enumerators) None 12))) no_words) no_init_declrs 13)))
      (more_block_items (block_stmt (expr_stmt (some_expr (name_use 14 0)) 15)) (more_block_items
      (block_stmt (expr_stmt (some_expr (prefix 16 signs.Ampersand (name_use 17 0))) 18)) no_block_items))) 19) ∷ []);
}

-- int x = __builtin_offsetof(struct t *, a);
abbrev pub source_49 : Source
source_49 = record {
  spelling = spelled [] [];
  items = ((decl_item
      (decl_declaration (declaration [] (more_words (basic (record { token = 0; keyword = keywords.Int })) no_words)
      (more_init_declrs [] (declr_name 1 2) None [] (some_init 2 (init_value (offset 3 4 (more_words (struct_type
      (record { token = 5; keyword = keywords.Struct }) [] (Some (record { token = 6; name = 0 })) no_body) no_words)
      (some_declr (abs_pointer 7 [] no_declr)) 8 (record { token = 9; name = 1 }) no_desigs 10))) no_init_declrs) 11)))
      ∷ []);
}

-- int g(); void f(void) { g(); g(1); g(1, 2); }
abbrev pub source_50 : Source
source_50 = record {
  spelling = spelled [] [];
  items = ((decl_item
      (decl_declaration (declaration [] (more_words (basic (record { token = 0; keyword = keywords.Int })) no_words)
      (more_init_declrs [] (params (declr_name 1 0) 2 no_params None 3) None [] no_init no_init_declrs) 4)))
      ∷ (function_item [] (more_words (basic (record { token = 5; keyword = keywords.Void })) no_words)
      (params (declr_name 6 1) 7 (more_params
      (more_words (basic (record { token = 8; keyword = keywords.Void })) no_words) no_declr [] no_params) None 9) [] 10
      (more_block_items (block_stmt (expr_stmt (some_expr (call (name_use 11 0) 12 no_exprs 13)) 14)) (more_block_items
      (block_stmt (expr_stmt (some_expr (call (name_use 15 0) 16 (more_exprs (number_use 17) no_exprs) 18)) 19))
      (more_block_items (block_stmt (expr_stmt (some_expr (call (name_use 20 0) 21
      (more_exprs (number_use 22) (more_exprs (number_use 24) no_exprs)) 25)) 26)) no_block_items))) 27) ∷ []);
}

-- int f(void); void g(void) { enum { f }; f(); }
abbrev pub source_51 : Source
source_51 = record {
  spelling = spelled [] [];
  items = ((decl_item (decl_declaration (declaration []
      (more_words (basic (record { token = 0; keyword = keywords.Int })) no_words) (more_init_declrs [] (params
      (declr_name 1 0) 2 (more_params (more_words (basic (record { token = 3; keyword = keywords.Void })) no_words)
      no_declr [] no_params) None 4) None [] no_init no_init_declrs) 5)))
      ∷ (function_item [] (more_words (basic (record { token = 6; keyword = keywords.Void })) no_words) (params
      (declr_name 7 1) 8 (more_params (more_words (basic (record { token = 9; keyword = keywords.Void })) no_words)
      no_declr [] no_params) None 10) [] 11 (more_block_items (block_decl (decl_declaration (declaration []
      (more_words (enum_type (enum_of 12 [] None (some_enum_body 13 (more_enumerators (record { token = 14; name = 0 })
      [] no_value no_enumerators) None 15))) no_words) no_init_declrs 16))) (more_block_items
      (block_stmt (expr_stmt (some_expr (call (name_use 17 0) 18 no_exprs 19)) 20)) no_block_items)) 21) ∷ []);
}

-- typedef int f; void g(void) { int f(void); f(); }
abbrev pub source_52 : Source
source_52 = record {
  spelling = spelled [] [];
  items = ((decl_item
      (decl_declaration (declaration [] (more_words (storage (record { token = 0; keyword = keywords.Typedef }))
      (more_words (basic (record { token = 1; keyword = keywords.Int })) no_words))
      (more_init_declrs [] (declr_name 2 0) None [] no_init no_init_declrs) 3)))
      ∷ (function_item [] (more_words (basic (record { token = 4; keyword = keywords.Void })) no_words) (params
      (declr_name 5 1) 6 (more_params (more_words (basic (record { token = 7; keyword = keywords.Void })) no_words)
      no_declr [] no_params) None 8) [] 9 (more_block_items (block_decl (decl_declaration (declaration []
      (more_words (basic (record { token = 10; keyword = keywords.Int })) no_words) (more_init_declrs [] (params
      (declr_name 11 0) 12 (more_params (more_words (basic (record { token = 13; keyword = keywords.Void })) no_words)
      no_declr [] no_params) None 14) None [] no_init no_init_declrs) 15))) (more_block_items
      (block_stmt (expr_stmt (some_expr (call (name_use 16 0) 17 no_exprs 18)) 19)) no_block_items)) 20) ∷ []);
}

-- enum e { A }; void f(void) { enum e { B }; A; B; }
abbrev pub source_53 : Source
source_53 = record {
  spelling = spelled [] [];
  items = ((decl_item (decl_declaration (declaration []
      (more_words (enum_type (enum_of 0 [] (Some (record { token = 1; name = 1 })) (some_enum_body 2 (more_enumerators
      (record { token = 3; name = 0 }) [] no_value no_enumerators) None 4))) no_words) no_init_declrs 5)))
      ∷ (function_item [] (more_words (basic (record { token = 6; keyword = keywords.Void })) no_words) (params
      (declr_name 7 2) 8 (more_params (more_words (basic (record { token = 9; keyword = keywords.Void })) no_words)
      no_declr [] no_params) None 10) [] 11 (more_block_items (block_decl (decl_declaration (declaration [] (more_words
      (enum_type (enum_of 12 [] (Some (record { token = 13; name = 1 })) (some_enum_body 14 (more_enumerators
      (record { token = 15; name = 3 }) [] no_value no_enumerators) None 16))) no_words) no_init_declrs 17)))
      (more_block_items (block_stmt (expr_stmt (some_expr (name_use 18 0)) 19))
      (more_block_items (block_stmt (expr_stmt (some_expr (name_use 20 3)) 21)) no_block_items))) 22) ∷ []);
}

-- void f(struct s *p) { p->a; } struct s { int a; };
abbrev pub source_54 : Source
source_54 = record {
  spelling = spelled [] [];
  items = ((function_item [] (more_words (basic (record { token = 0; keyword = keywords.Void })) no_words)
      (params (declr_name 1 0) 2 (more_params (more_words (struct_type (record { token = 3; keyword = keywords.Struct })
      [] (Some (record { token = 4; name = 1 })) no_body) no_words) (some_declr (pointer 5 [] (declr_name 6 2)))
      [] no_params) None 7) [] 8 (more_block_items (block_stmt
      (expr_stmt (some_expr (arrow (name_use 9 2) 10 (record { token = 11; name = 3 }))) 12)) no_block_items) 13)
      ∷ (decl_item (decl_declaration (declaration [] (more_words (struct_type
      (record { token = 14; keyword = keywords.Struct }) [] (Some (record { token = 15; name = 1 })) (some_body 16
      (more_struct_items (member [] (more_words (basic (record { token = 17; keyword = keywords.Int })) no_words)
      (more_mem_declrs [] (named (declr_name 18 3) no_value []) no_mem_declrs) 19) no_struct_items) 20)) no_words)
      no_init_declrs 21))) ∷ []);
}

-- void f(void) { extern int x; } void h(void) { x; }
abbrev pub source_55 : Source
source_55 = record {
  spelling = spelled [] [];
  items = ((function_item [] (more_words (basic (record { token = 0; keyword = keywords.Void })) no_words) (params
      (declr_name 1 0) 2 (more_params (more_words (basic (record { token = 3; keyword = keywords.Void })) no_words)
      no_declr [] no_params) None 4) [] 5 (more_block_items (block_decl
      (decl_declaration (declaration [] (more_words (storage (record { token = 6; keyword = keywords.Extern }))
      (more_words (basic (record { token = 7; keyword = keywords.Int })) no_words))
      (more_init_declrs [] (declr_name 8 1) None [] no_init no_init_declrs) 9))) no_block_items) 10)
      ∷ (function_item [] (more_words (basic (record { token = 11; keyword = keywords.Void })) no_words)
      (params (declr_name 12 2) 13 (more_params
      (more_words (basic (record { token = 14; keyword = keywords.Void })) no_words) no_declr [] no_params) None 15)
      [] 16 (more_block_items (block_stmt (expr_stmt (some_expr (name_use 17 1)) 18)) no_block_items) 19) ∷ []);
}

-- int (*p)(int); void f(void) { (p = p)(1); p++(1); }
abbrev pub source_56 : Source
source_56 = record {
  spelling = spelled [] [];
  items = ((decl_item
      (decl_declaration (declaration [] (more_words (basic (record { token = 0; keyword = keywords.Int })) no_words)
      (more_init_declrs [] (params (declr_paren 1 [] (pointer 2 [] (declr_name 3 0)) 4) 5 (more_params
      (more_words (basic (record { token = 6; keyword = keywords.Int })) no_words) no_declr [] no_params) None 7) None
      [] no_init no_init_declrs) 8))) ∷ (function_item []
      (more_words (basic (record { token = 9; keyword = keywords.Void })) no_words) (params (declr_name 10 1) 11
      (more_params (more_words (basic (record { token = 12; keyword = keywords.Void })) no_words) no_declr
      [] no_params) None 13) [] 14 (more_block_items (block_stmt (expr_stmt (some_expr (call (paren 15 (operation
      (name_use 16 0) (assign signs.Equal) 17 (name_use 18 0)) 19) 20 (more_exprs (number_use 21) no_exprs) 22)) 23))
      (more_block_items (block_stmt (expr_stmt (some_expr (call (post (name_use 24 0) 25 signs.PlusPlus) 26
      (more_exprs (number_use 27) no_exprs) 28)) 29)) no_block_items)) 30) ∷ []);
}

-- struct s { int; enum { E }; } v; void f(void) { E; }
abbrev pub source_57 : Source
source_57 = record {
  spelling = spelled [] [];
  items = ((decl_item (decl_declaration (declaration [] (more_words (struct_type
      (record { token = 0; keyword = keywords.Struct }) [] (Some (record { token = 1; name = 1 })) (some_body 2
      (more_struct_items (member [] (more_words (basic (record { token = 3; keyword = keywords.Int })) no_words)
      no_mem_declrs 4) (more_struct_items (member [] (more_words (enum_type (enum_of 5 [] None (some_enum_body 6
      (more_enumerators (record { token = 7; name = 0 }) [] no_value no_enumerators) None 8))) no_words) no_mem_declrs
      9) no_struct_items)) 10)) no_words) (more_init_declrs [] (declr_name 11 2) None [] no_init no_init_declrs) 12)))
      ∷ (function_item [] (more_words (basic (record { token = 13; keyword = keywords.Void })) no_words)
      (params (declr_name 14 3) 15 (more_params
      (more_words (basic (record { token = 16; keyword = keywords.Void })) no_words) no_declr [] no_params) None 17)
      [] 18 (more_block_items (block_stmt (expr_stmt (some_expr (name_use 19 0)) 20)) no_block_items) 21) ∷ []);
}

-- void f(void) { for (struct s { int a; } v; v.a; ) ; }
abbrev pub source_58 : Source
source_58 = record {
  spelling = spelled [] [];
  items = ((function_item [] (more_words (basic (record { token = 0; keyword = keywords.Void })) no_words)
      (params (declr_name 1 0) 2 (more_params
      (more_words (basic (record { token = 3; keyword = keywords.Void })) no_words) no_declr [] no_params) None 4) [] 5
      (more_block_items (block_stmt (for_stmt 6 7 (start_declaration (declaration [] (more_words (struct_type
      (record { token = 8; keyword = keywords.Struct }) [] (Some (record { token = 9; name = 2 })) (some_body 10
      (more_struct_items (member [] (more_words (basic (record { token = 11; keyword = keywords.Int })) no_words)
      (more_mem_declrs [] (named (declr_name 12 1) no_value []) no_mem_declrs) 13) no_struct_items) 14)) no_words)
      (more_init_declrs [] (declr_name 15 3) None [] no_init no_init_declrs) 16)) (some_expr (dot (name_use 17 3) 18
      (record { token = 19; name = 1 }))) 20 no_expr 21 (expr_stmt no_expr 22))) no_block_items) 23) ∷ []);
}

-- void f(void) { extern int A; } enum { A }; int x = A;
abbrev pub source_59 : Source
source_59 = record {
  spelling = spelled [] [];
  items = ((function_item [] (more_words (basic (record { token = 0; keyword = keywords.Void })) no_words) (params
      (declr_name 1 0) 2 (more_params (more_words (basic (record { token = 3; keyword = keywords.Void })) no_words)
      no_declr [] no_params) None 4) [] 5 (more_block_items (block_decl
      (decl_declaration (declaration [] (more_words (storage (record { token = 6; keyword = keywords.Extern }))
      (more_words (basic (record { token = 7; keyword = keywords.Int })) no_words))
      (more_init_declrs [] (declr_name 8 1) None [] no_init no_init_declrs) 9))) no_block_items) 10) ∷ (decl_item
      (decl_declaration (declaration [] (more_words (enum_type (enum_of 11 [] None (some_enum_body 12 (more_enumerators
      (record { token = 13; name = 1 }) [] no_value no_enumerators) None 14))) no_words) no_init_declrs 15)))
      ∷ (decl_item (decl_declaration
      (declaration [] (more_words (basic (record { token = 16; keyword = keywords.Int })) no_words) (more_init_declrs []
      (declr_name 17 2) None [] (some_init 18 (init_value (name_use 19 1))) no_init_declrs) 20))) ∷ []);
}

-- int f(void, int); int g(int, void); int h(void, void);
abbrev pub source_60 : Source
source_60 = record {
  spelling = spelled [] [];
  items = ((decl_item (decl_declaration (declaration []
      (more_words (basic (record { token = 0; keyword = keywords.Int })) no_words) (more_init_declrs [] (params
      (declr_name 1 0) 2 (more_params (more_words (basic (record { token = 3; keyword = keywords.Void })) no_words)
      no_declr [] (more_params (more_words (basic (record { token = 5; keyword = keywords.Int })) no_words) no_declr
      [] no_params)) None 6) None [] no_init no_init_declrs) 7))) ∷ (decl_item (decl_declaration (declaration []
      (more_words (basic (record { token = 8; keyword = keywords.Int })) no_words) (more_init_declrs [] (params
      (declr_name 9 1) 10 (more_params (more_words (basic (record { token = 11; keyword = keywords.Int })) no_words)
      no_declr [] (more_params (more_words (basic (record { token = 13; keyword = keywords.Void })) no_words) no_declr
      [] no_params)) None 14) None [] no_init no_init_declrs) 15))) ∷ (decl_item (decl_declaration (declaration []
      (more_words (basic (record { token = 16; keyword = keywords.Int })) no_words) (more_init_declrs [] (params
      (declr_name 17 2) 18 (more_params (more_words (basic (record { token = 19; keyword = keywords.Void })) no_words)
      no_declr [] (more_params (more_words (basic (record { token = 21; keyword = keywords.Void })) no_words) no_declr
      [] no_params)) None 22) None [] no_init no_init_declrs) 23))) ∷ []);
}

-- struct s { int a; }; void f(void) { struct s v; v.a; }
abbrev pub source_61 : Source
source_61 = record {
  spelling = spelled [] [];
  items = ((decl_item (decl_declaration (declaration [] (more_words (struct_type
      (record { token = 0; keyword = keywords.Struct }) [] (Some (record { token = 1; name = 1 })) (some_body 2
      (more_struct_items (member [] (more_words (basic (record { token = 3; keyword = keywords.Int })) no_words)
      (more_mem_declrs [] (named (declr_name 4 0) no_value []) no_mem_declrs) 5) no_struct_items) 6)) no_words)
      no_init_declrs 7))) ∷ (function_item []
      (more_words (basic (record { token = 8; keyword = keywords.Void })) no_words) (params (declr_name 9 2) 10
      (more_params (more_words (basic (record { token = 11; keyword = keywords.Void })) no_words) no_declr [] no_params)
      None 12) [] 13 (more_block_items (block_decl (decl_declaration (declaration [] (more_words (struct_type
      (record { token = 14; keyword = keywords.Struct }) [] (Some (record { token = 15; name = 1 })) no_body) no_words)
      (more_init_declrs [] (declr_name 16 3) None [] no_init no_init_declrs) 17))) (more_block_items (block_stmt
      (expr_stmt (some_expr (dot (name_use 18 3) 19 (record { token = 20; name = 0 }))) 21)) no_block_items)) 22) ∷ []);
}

-- struct s { int a; char *a; } v; void f(void) { *v.a; }
abbrev pub source_62 : Source
source_62 = record {
  spelling = spelled [] [];
  items = ((decl_item (decl_declaration (declaration [] (more_words (struct_type
      (record { token = 0; keyword = keywords.Struct }) [] (Some (record { token = 1; name = 1 })) (some_body 2
      (more_struct_items (member [] (more_words (basic (record { token = 3; keyword = keywords.Int })) no_words)
      (more_mem_declrs [] (named (declr_name 4 0) no_value []) no_mem_declrs) 5) (more_struct_items
      (member [] (more_words (basic (record { token = 6; keyword = keywords.Char })) no_words) (more_mem_declrs []
      (named (pointer 7 [] (declr_name 8 0)) no_value []) no_mem_declrs) 9) no_struct_items)) 10)) no_words)
      (more_init_declrs [] (declr_name 11 2) None [] no_init no_init_declrs) 12)))
      ∷ (function_item [] (more_words (basic (record { token = 13; keyword = keywords.Void })) no_words) (params
      (declr_name 14 3) 15 (more_params (more_words (basic (record { token = 16; keyword = keywords.Void })) no_words)
      no_declr [] no_params) None 17) [] 18 (more_block_items (block_stmt (expr_stmt (some_expr
      (prefix 19 signs.Star (dot (name_use 20 2) 21 (record { token = 22; name = 0 })))) 23)) no_block_items) 24) ∷ []);
}

-- void f(void) { f = f; f++; &f; "s"++; &"s"; *"s" = 1; }
abbrev pub source_63 : Source
source_63 = record {
  spelling = spelled [] [];
  items = ((function_item [] (more_words (basic (record { token = 0; keyword = keywords.Void })) no_words) (params
      (declr_name 1 0) 2 (more_params (more_words (basic (record { token = 3; keyword = keywords.Void })) no_words)
      no_declr [] no_params) None 4) [] 5 (more_block_items
      (block_stmt (expr_stmt (some_expr (operation (name_use 6 0) (assign signs.Equal) 7 (name_use 8 0))) 9))
      (more_block_items (block_stmt (expr_stmt (some_expr (post (name_use 10 0) 11 signs.PlusPlus)) 12))
      (more_block_items (block_stmt (expr_stmt (some_expr (prefix 13 signs.Ampersand (name_use 14 0))) 15))
      (more_block_items (block_stmt (expr_stmt (some_expr (post (text_use (16 ∷ [])) 17 signs.PlusPlus)) 18))
      (more_block_items (block_stmt (expr_stmt (some_expr (prefix 19 signs.Ampersand (text_use (20 ∷ [])))) 21))
      (more_block_items (block_stmt (expr_stmt (some_expr (operation (prefix 22 signs.Star (text_use (23 ∷ [])))
      (assign signs.Equal) 24 (number_use 25))) 26)) no_block_items)))))) 27) ∷ []);
}

-- int f(struct s *p), g(struct s *p); struct s { int a; };
abbrev pub source_64 : Source
source_64 = record {
  spelling = spelled [] [];
  items = ((decl_item
      (decl_declaration (declaration [] (more_words (basic (record { token = 0; keyword = keywords.Int })) no_words)
      (more_init_declrs [] (params (declr_name 1 3) 2 (more_params (more_words (struct_type
      (record { token = 3; keyword = keywords.Struct }) [] (Some (record { token = 4; name = 1 })) no_body) no_words)
      (some_declr (pointer 5 [] (declr_name 6 2))) [] no_params) None 7) None [] no_init
      (more_init_declrs [] (params (declr_name 9 0) 10 (more_params (more_words (struct_type
      (record { token = 11; keyword = keywords.Struct }) [] (Some (record { token = 12; name = 1 })) no_body) no_words)
      (some_declr (pointer 13 [] (declr_name 14 2))) [] no_params) None 15) None [] no_init no_init_declrs)) 16)))
      ∷ (decl_item (decl_declaration (declaration [] (more_words (struct_type
      (record { token = 17; keyword = keywords.Struct }) [] (Some (record { token = 18; name = 1 })) (some_body 19
      (more_struct_items (member [] (more_words (basic (record { token = 20; keyword = keywords.Int })) no_words)
      (more_mem_declrs [] (named (declr_name 21 4) no_value []) no_mem_declrs) 22) no_struct_items) 23)) no_words)
      no_init_declrs 24))) ∷ []);
}

-- int x; void f(void) { int *x; { extern int x; x; *x; } }
abbrev pub source_65 : Source
source_65 = record {
  spelling = spelled [] [];
  items = ((decl_item
      (decl_declaration (declaration [] (more_words (basic (record { token = 0; keyword = keywords.Int })) no_words)
      (more_init_declrs [] (declr_name 1 0) None [] no_init no_init_declrs) 2)))
      ∷ (function_item [] (more_words (basic (record { token = 3; keyword = keywords.Void })) no_words) (params
      (declr_name 4 1) 5 (more_params (more_words (basic (record { token = 6; keyword = keywords.Void })) no_words)
      no_declr [] no_params) None 7) [] 8 (more_block_items (block_decl
      (decl_declaration (declaration [] (more_words (basic (record { token = 9; keyword = keywords.Int })) no_words)
      (more_init_declrs [] (pointer 10 [] (declr_name 11 0)) None [] no_init no_init_declrs) 12)))
      (more_block_items (block_stmt (block 13 (more_block_items (block_decl
      (decl_declaration (declaration [] (more_words (storage (record { token = 14; keyword = keywords.Extern }))
      (more_words (basic (record { token = 15; keyword = keywords.Int })) no_words))
      (more_init_declrs [] (declr_name 16 0) None [] no_init no_init_declrs) 17)))
      (more_block_items (block_stmt (expr_stmt (some_expr (name_use 18 0)) 19)) (more_block_items (block_stmt (expr_stmt
      (some_expr (prefix 20 signs.Star (name_use 21 0))) 22)) no_block_items))) 23)) no_block_items)) 24) ∷ []);
}

-- void f(void) { struct s { int a; }; struct s { int b; }; }
abbrev pub source_66 : Source
source_66 = record {
  spelling = spelled [] [];
  items = ((function_item [] (more_words (basic (record { token = 0; keyword = keywords.Void })) no_words)
      (params (declr_name 1 0) 2 (more_params
      (more_words (basic (record { token = 3; keyword = keywords.Void })) no_words) no_declr [] no_params) None 4) [] 5
      (more_block_items (block_decl (decl_declaration (declaration [] (more_words (struct_type
      (record { token = 6; keyword = keywords.Struct }) [] (Some (record { token = 7; name = 2 })) (some_body 8
      (more_struct_items (member [] (more_words (basic (record { token = 9; keyword = keywords.Int })) no_words)
      (more_mem_declrs [] (named (declr_name 10 1) no_value []) no_mem_declrs) 11) no_struct_items) 12)) no_words)
      no_init_declrs 13))) (more_block_items (block_decl (decl_declaration (declaration [] (more_words (struct_type
      (record { token = 14; keyword = keywords.Struct }) [] (Some (record { token = 15; name = 2 })) (some_body 16
      (more_struct_items (member [] (more_words (basic (record { token = 17; keyword = keywords.Int })) no_words)
      (more_mem_declrs [] (named (declr_name 18 3) no_value []) no_mem_declrs) 19) no_struct_items) 20)) no_words)
      no_init_declrs 21))) no_block_items)) 22) ∷ []);
}

-- int x = __builtin_offsetof(struct s, a); struct s { int a; };
abbrev pub source_67 : Source
source_67 = record {
  spelling = spelled [] [];
  items = ((decl_item
      (decl_declaration (declaration [] (more_words (basic (record { token = 0; keyword = keywords.Int })) no_words)
      (more_init_declrs [] (declr_name 1 2) None [] (some_init 2 (init_value (offset 3 4 (more_words (struct_type
      (record { token = 5; keyword = keywords.Struct }) [] (Some (record { token = 6; name = 0 })) no_body) no_words)
      no_declr 7 (record { token = 8; name = 1 }) no_desigs 9))) no_init_declrs) 10)))
      ∷ (decl_item (decl_declaration (declaration [] (more_words (struct_type
      (record { token = 11; keyword = keywords.Struct }) [] (Some (record { token = 12; name = 0 })) (some_body 13
      (more_struct_items (member [] (more_words (basic (record { token = 14; keyword = keywords.Int })) no_words)
      (more_mem_declrs [] (named (declr_name 15 1) no_value []) no_mem_declrs) 16) no_struct_items) 17)) no_words)
      no_init_declrs 18))) ∷ []);
}

-- typedef struct { int a; } T; int x = __builtin_offsetof(T, a);
abbrev pub source_68 : Source
source_68 = record {
  spelling = spelled [] [];
  items = ((decl_item
      (decl_declaration (declaration [] (more_words (storage (record { token = 0; keyword = keywords.Typedef }))
      (more_words (struct_type (record { token = 1; keyword = keywords.Struct }) [] None (some_body 2
      (more_struct_items (member [] (more_words (basic (record { token = 3; keyword = keywords.Int })) no_words)
      (more_mem_declrs [] (named (declr_name 4 0) no_value []) no_mem_declrs) 5) no_struct_items) 6)) no_words))
      (more_init_declrs [] (declr_name 7 1) None [] no_init no_init_declrs) 8))) ∷ (decl_item
      (decl_declaration (declaration [] (more_words (basic (record { token = 9; keyword = keywords.Int })) no_words)
      (more_init_declrs [] (declr_name 10 2) None [] (some_init 11
      (init_value (offset 12 13 (more_words (typedef_name (record { token = 14; name = 1 })) no_words) no_declr 15
      (record { token = 16; name = 0 }) no_desigs 17))) no_init_declrs) 18))) ∷ []);
}

-- struct s { int a; }; struct s; struct s v; int x = sizeof(v.a);
abbrev pub source_69 : Source
source_69 = record {
  spelling = spelled [] [];
  items = ((decl_item (decl_declaration (declaration [] (more_words (struct_type
      (record { token = 0; keyword = keywords.Struct }) [] (Some (record { token = 1; name = 1 })) (some_body 2
      (more_struct_items (member [] (more_words (basic (record { token = 3; keyword = keywords.Int })) no_words)
      (more_mem_declrs [] (named (declr_name 4 0) no_value []) no_mem_declrs) 5) no_struct_items) 6)) no_words)
      no_init_declrs 7))) ∷ (decl_item
      (decl_declaration (declaration [] (more_words (struct_type (record { token = 8; keyword = keywords.Struct }) []
      (Some (record { token = 9; name = 1 })) no_body) no_words) no_init_declrs 10)))
      ∷ (decl_item (decl_declaration (declaration [] (more_words (struct_type
      (record { token = 11; keyword = keywords.Struct }) [] (Some (record { token = 12; name = 1 })) no_body) no_words)
      (more_init_declrs [] (declr_name 13 2) None [] no_init no_init_declrs) 14))) ∷ (decl_item
      (decl_declaration (declaration [] (more_words (basic (record { token = 15; keyword = keywords.Int })) no_words)
      (more_init_declrs [] (declr_name 16 3) None []
      (some_init 17 (init_value (sizeof_value (record { token = 18; keyword = keywords.Sizeof })
      (paren 19 (dot (name_use 20 2) 21 (record { token = 22; name = 0 })) 23)))) no_init_declrs) 24))) ∷ []);
}

-- struct s { int a; }; void f(void) { union s; struct s v; v.a; }
abbrev pub source_70 : Source
source_70 = record {
  spelling = spelled [] [];
  items = ((decl_item (decl_declaration (declaration [] (more_words (struct_type
      (record { token = 0; keyword = keywords.Struct }) [] (Some (record { token = 1; name = 1 })) (some_body 2
      (more_struct_items (member [] (more_words (basic (record { token = 3; keyword = keywords.Int })) no_words)
      (more_mem_declrs [] (named (declr_name 4 0) no_value []) no_mem_declrs) 5) no_struct_items) 6)) no_words)
      no_init_declrs 7))) ∷ (function_item []
      (more_words (basic (record { token = 8; keyword = keywords.Void })) no_words) (params (declr_name 9 2) 10
      (more_params (more_words (basic (record { token = 11; keyword = keywords.Void })) no_words) no_declr [] no_params)
      None 12) [] 13 (more_block_items (block_decl (decl_declaration (declaration [] (more_words (struct_type
      (record { token = 14; keyword = keywords.Union }) [] (Some (record { token = 15; name = 1 })) no_body) no_words)
      no_init_declrs 16))) (more_block_items (block_decl (decl_declaration (declaration [] (more_words (struct_type
      (record { token = 17; keyword = keywords.Struct }) [] (Some (record { token = 18; name = 1 })) no_body) no_words)
      (more_init_declrs [] (declr_name 19 3) None [] no_init no_init_declrs) 20))) (more_block_items (block_stmt
      (expr_stmt (some_expr (dot (name_use 21 3) 22 (record { token = 23; name = 0 }))) 24)) no_block_items))) 25)
      ∷ []);
}

-- int f(struct s { int a; } *p) { struct s v; return p->a + v.a; }
abbrev pub source_71 : Source
source_71 = record {
  spelling = spelled [] [];
  items = ((function_item [] (more_words (basic (record { token = 0; keyword = keywords.Int })) no_words)
      (params (declr_name 1 0) 2 (more_params (more_words (struct_type (record { token = 3; keyword = keywords.Struct })
      [] (Some (record { token = 4; name = 2 })) (some_body 5
      (more_struct_items (member [] (more_words (basic (record { token = 6; keyword = keywords.Int })) no_words)
      (more_mem_declrs [] (named (declr_name 7 1) no_value []) no_mem_declrs) 8) no_struct_items) 9)) no_words)
      (some_declr (pointer 10 [] (declr_name 11 3))) [] no_params) None 12) [] 13
      (more_block_items (block_decl (decl_declaration (declaration [] (more_words (struct_type
      (record { token = 14; keyword = keywords.Struct }) [] (Some (record { token = 15; name = 2 })) no_body) no_words)
      (more_init_declrs [] (declr_name 16 4) None [] no_init no_init_declrs) 17))) (more_block_items
      (block_stmt (return_stmt 18 (some_expr (operation (arrow (name_use 19 3) 20 (record { token = 21; name = 1 }))
      (binary signs.Plus) 22 (dot (name_use 23 4) 24 (record { token = 25; name = 1 })))) 26)) no_block_items)) 27)
      ∷ []);
}

-- struct s { int a; }; void f(void) { struct s; struct s *p; p->a; }
abbrev pub source_72 : Source
source_72 = record {
  spelling = spelled [] [];
  items = ((decl_item (decl_declaration (declaration [] (more_words (struct_type
      (record { token = 0; keyword = keywords.Struct }) [] (Some (record { token = 1; name = 1 })) (some_body 2
      (more_struct_items (member [] (more_words (basic (record { token = 3; keyword = keywords.Int })) no_words)
      (more_mem_declrs [] (named (declr_name 4 0) no_value []) no_mem_declrs) 5) no_struct_items) 6)) no_words)
      no_init_declrs 7)))
      ∷ (function_item [] (more_words (basic (record { token = 8; keyword = keywords.Void })) no_words) (params
      (declr_name 9 2) 10 (more_params (more_words (basic (record { token = 11; keyword = keywords.Void })) no_words)
      no_declr [] no_params) None 12) [] 13 (more_block_items (block_decl
      (decl_declaration (declaration [] (more_words (struct_type (record { token = 14; keyword = keywords.Struct }) []
      (Some (record { token = 15; name = 1 })) no_body) no_words) no_init_declrs 16))) (more_block_items (block_decl
      (decl_declaration (declaration [] (more_words (struct_type (record { token = 17; keyword = keywords.Struct }) []
      (Some (record { token = 18; name = 1 })) no_body) no_words) (more_init_declrs []
      (pointer 19 [] (declr_name 20 3)) None [] no_init no_init_declrs) 21))) (more_block_items (block_stmt (expr_stmt
      (some_expr (arrow (name_use 22 3) 23 (record { token = 24; name = 0 }))) 25)) no_block_items))) 26) ∷ []);
}

-- struct s { int a; }; void f(void) { for (struct s; ; ) { struct s *p; p->a; } }
abbrev pub source_73 : Source
source_73 = record {
  spelling = spelled [] [];
  items = ((decl_item (decl_declaration (declaration [] (more_words (struct_type
      (record { token = 0; keyword = keywords.Struct }) [] (Some (record { token = 1; name = 1 })) (some_body 2
      (more_struct_items (member [] (more_words (basic (record { token = 3; keyword = keywords.Int })) no_words)
      (more_mem_declrs [] (named (declr_name 4 0) no_value []) no_mem_declrs) 5) no_struct_items) 6)) no_words)
      no_init_declrs 7)))
      ∷ (function_item [] (more_words (basic (record { token = 8; keyword = keywords.Void })) no_words) (params
      (declr_name 9 2) 10 (more_params (more_words (basic (record { token = 11; keyword = keywords.Void })) no_words)
      no_declr [] no_params) None 12) [] 13 (more_block_items (block_stmt (for_stmt 14 15
      (start_declaration (declaration [] (more_words (struct_type (record { token = 16; keyword = keywords.Struct }) []
      (Some (record { token = 17; name = 1 })) no_body) no_words) no_init_declrs 18)) no_expr 19 no_expr 20
      (block 21 (more_block_items (block_decl (decl_declaration (declaration [] (more_words (struct_type
      (record { token = 22; keyword = keywords.Struct }) [] (Some (record { token = 23; name = 1 })) no_body) no_words)
      (more_init_declrs [] (pointer 24 [] (declr_name 25 3)) None [] no_init no_init_declrs) 26))) (more_block_items
      (block_stmt (expr_stmt (some_expr (arrow (name_use 27 3) 28 (record { token = 29; name = 0 }))) 30))
      no_block_items)) 31))) no_block_items) 32) ∷ []);
}

-- int x; void f(void) { (x) = 1; ((x))++; &(x); &__extension__ x; __extension__ x = 1; }
abbrev pub source_74 : Source
source_74 = record {
  spelling = spelled [] [];
  items = ((decl_item
      (decl_declaration (declaration [] (more_words (basic (record { token = 0; keyword = keywords.Int })) no_words)
      (more_init_declrs [] (declr_name 1 0) None [] no_init no_init_declrs) 2)))
      ∷ (function_item [] (more_words (basic (record { token = 3; keyword = keywords.Void })) no_words) (params
      (declr_name 4 1) 5 (more_params (more_words (basic (record { token = 6; keyword = keywords.Void })) no_words)
      no_declr [] no_params) None 7) [] 8 (more_block_items (block_stmt (expr_stmt (some_expr (operation
      (paren 9 (name_use 10 0) 11) (assign signs.Equal) 12 (number_use 13))) 14)) (more_block_items (block_stmt
      (expr_stmt (some_expr (post (paren 15 (paren 16 (name_use 17 0) 18) 19) 20 signs.PlusPlus)) 21)) (more_block_items
      (block_stmt (expr_stmt (some_expr (prefix 22 signs.Ampersand (paren 23 (name_use 24 0) 25))) 26))
      (more_block_items (block_stmt (expr_stmt (some_expr (prefix 27 signs.Ampersand (extension 28 (name_use 29 0))))
      30)) (more_block_items (block_stmt (expr_stmt (some_expr (operation (extension 31 (name_use 32 0))
      (assign signs.Equal) 33 (number_use 34))) 35)) no_block_items))))) 36) ∷ []);
}

-- struct s { int a; } v; int x; void f(void) { (1 ? v : v).a; (1 ? v : x).a; (1 ? 0 : v).a; (1 ? x : v).a; }
abbrev pub source_75 : Source
source_75 = record {
  spelling = spelled [] (41 ∷ []);
  items = ((decl_item (decl_declaration (declaration [] (more_words (struct_type
      (record { token = 0; keyword = keywords.Struct }) [] (Some (record { token = 1; name = 1 })) (some_body 2
      (more_struct_items (member [] (more_words (basic (record { token = 3; keyword = keywords.Int })) no_words)
      (more_mem_declrs [] (named (declr_name 4 0) no_value []) no_mem_declrs) 5) no_struct_items) 6)) no_words)
      (more_init_declrs [] (declr_name 7 2) None [] no_init no_init_declrs) 8))) ∷ (decl_item
      (decl_declaration (declaration [] (more_words (basic (record { token = 9; keyword = keywords.Int })) no_words)
      (more_init_declrs [] (declr_name 10 3) None [] no_init no_init_declrs) 11))) ∷ (function_item []
      (more_words (basic (record { token = 12; keyword = keywords.Void })) no_words) (params (declr_name 13 4) 14
      (more_params (more_words (basic (record { token = 15; keyword = keywords.Void })) no_words) no_declr [] no_params)
      None 16) [] 17 (more_block_items (block_stmt (expr_stmt (some_expr (dot (paren 18 (operation (number_use 19)
      (cond (some_expr (name_use 21 2)) 22) 20 (name_use 23 2)) 24) 25 (record { token = 26; name = 0 }))) 27))
      (more_block_items (block_stmt (expr_stmt (some_expr (dot (paren 28 (operation (number_use 29)
      (cond (some_expr (name_use 31 2)) 32) 30 (name_use 33 3)) 34) 35 (record { token = 36; name = 0 }))) 37))
      (more_block_items (block_stmt (expr_stmt (some_expr (dot (paren 38 (operation (number_use 39) (cond (some_expr
      (number_use 41)) 42) 40 (name_use 43 2)) 44) 45 (record { token = 46; name = 0 }))) 47)) (more_block_items
      (block_stmt (expr_stmt (some_expr (dot (paren 48 (operation (number_use 49) (cond (some_expr (name_use 51 3)) 52)
      50 (name_use 53 2)) 54) 55 (record { token = 56; name = 0 }))) 57)) no_block_items)))) 58) ∷ []);
}

-- the sources 1 to 15: the first fault of each, or what it declares
abbrev pub Group1 : Type 0
Group1 =
    ((least_fault (faults_of (source_1 ∷ [])) ≡ Some (3, 1)))
    × ((least_fault (faults_of (source_2 ∷ [])) ≡ Some (3, 1)))
    × ((faults_of (source_3 ∷ []) ≡ []) × (rows_of (source_3 ∷ []) (1 ∷ [])
    ≡ ((1, ((function [] no_types (pointer [] (base [])) None), (1, (Some 1)))) ∷ [])))
    × ((faults_of (source_4 ∷ []) ≡ []) × (rows_of (source_4 ∷ []) (1 ∷ []) ≡ ((
      1,
      (
        (function [] no_types (pointer [] (function [] (more_types (base []) no_types) (base []) None)) None),
        (1, (Some 1)),
      ),
    ) ∷ [])))
    × ((faults_of (source_5 ∷ []) ≡ []) × (rows_of (source_5 ∷ []) (1 ∷ 4 ∷ []) ≡ ((
      1,
      (
        (function [] (more_types (pointer [] (function [] (more_types (base []) no_types) (base []) None)) no_types)
            (base []) None),
        (1, (Some 1)),
      ),
    ) ∷ (4, ((pointer [] (function [] (more_types (base []) no_types) (base []) None)), (4, None))) ∷ [])))
    × ((faults_of (source_6 ∷ []) ≡ []) × (rows_of (source_6 ∷ []) (1 ∷ []) ≡ ((1, ((base []), (1, None))) ∷ [])))
    × ((least_fault (faults_of (source_7 ∷ [])) ≡ Some (5, 4)))
    × ((least_fault (faults_of (source_8 ∷ [])) ≡ Some (6, 6)))
    × ((least_fault (faults_of (source_9 ∷ [])) ≡ Some (7, 1)))
    × ((least_fault (faults_of (source_10 ∷ [])) ≡ Some (4, 2)))
    × ((least_fault (faults_of (source_11 ∷ [])) ≡ Some (7, 6)))
    × ((least_fault (faults_of (source_12 ∷ [])) ≡ Some (6, 2)))
    × ((faults_of (source_13 ∷ []) ≡ [])
    × (rows_of (source_13 ∷ []) (1 ∷ []) ≡ ((1, ((function [] no_types (void []) None), (1, (Some 1)))) ∷ [])))
    × ((least_fault (faults_of (source_14 ∷ [])) ≡ Some (7, 3)))
    × ((least_fault (faults_of (source_15 ∷ [])) ≡ Some (6, 1)))

-- the sources 16 to 30: the first fault of each, or what it declares
abbrev pub Group2 : Type 0
Group2 =
    ((least_fault (faults_of (source_16 ∷ [])) ≡ Some (7, 7)))
    × ((faults_of (source_17 ∷ []) ≡ []) × (rows_of (source_17 ∷ []) (1 ∷ []) ≡ ((1, ((base []), (1, None))) ∷ [])))
    × ((faults_of (source_18 ∷ []) ≡ []) × (rows_of (source_18 ∷ []) (1 ∷ 5 ∷ 9 ∷ [])
    ≡ ((1, ((function [] (more_types (pointer [] (base [])) no_types) (void []) None), (1, (Some 1))))
    ∷ (5, ((pointer [] (base [])), (5, (Some 1)))) ∷ (9, ((base []), (5, (Some 1)))) ∷ [])))
    × ((least_fault (faults_of (source_19 ∷ [])) ≡ Some (11, 2)))
    × ((faults_of (source_20 ∷ []) ≡ []) × (rows_of (source_20 ∷ []) (1 ∷ 5 ∷ 8 ∷ []) ≡ ((
      1,
      ((function [] (more_types (pointer [] (base [])) (more_types (base []) no_types)) (void []) None), (1, (Some 1))),
    ) ∷ (5, ((pointer [] (base [])), (5, (Some 1)))) ∷ (8, ((base []), (5, (Some 1)))) ∷ [])))
    × ((least_fault (faults_of (source_21 ∷ [])) ≡ Some (11, 3)))
    × ((faults_of (source_22 ∷ []) ≡ []) × (rows_of (source_22 ∷ []) (11 ∷ []) ≡ ((11, ((base []), (11, None))) ∷ [])))
    × ((least_fault (faults_of (source_23 ∷ [])) ≡ Some (13, 1)))
    × ((least_fault (faults_of (source_24 ∷ [])) ≡ Some (12, 2)))
    × ((faults_of (source_25 ∷ []) ≡ [])
    × (rows_of (source_25 ∷ []) (1 ∷ []) ≡ ((1, ((pointer [] (base [])), (1, None))) ∷ [])))
    × ((faults_of (source_26 ∷ []) ≡ [])
    × (rows_of (source_26 ∷ []) (4 ∷ []) ≡ ((4, ((base ((1, 1) ∷ (1, 2) ∷ (1, 3) ∷ [])), (4, None))) ∷ [])))
    × ((least_fault (faults_of (source_27 ∷ [])) ≡ Some (12, 2)))
    × ((faults_of (source_28 ∷ []) ≡ []) × (rows_of (source_28 ∷ []) (1 ∷ 7 ∷ [])
    ≡ ((1, ((function [] (more_types (void ((1, 3) ∷ [])) no_types) (base []) None), (1, (Some 1)))) ∷ (
      7,
      (
        (function [] (more_types (pointer [] (function [] no_types (void []) (Some []))) no_types) (base []) None),
        (7, (Some 7)),
      ),
    ) ∷ [])))
    × ((least_fault (faults_of (source_29 ∷ [])) ≡ Some (12, 2)))
    × ((faults_of (source_30 ∷ []) ≡ []) × (rows_of (source_30 ∷ []) (1 ∷ 7 ∷ [])
    ≡ ((1, ((function [] (more_types (base []) no_types) (base []) None), (1, (Some 1))))
    ∷ (7, ((base []), (7, (Some 1)))) ∷ [])))

-- the sources 31 to 45: the first fault of each, or what it declares
abbrev pub Group3 : Type 0
Group3 =
    ((faults_of (source_31 ∷ []) ≡ []) × (rows_of (source_31 ∷ []) (1 ∷ 12 ∷ [])
    ≡ ((1, ((pointer [] (base [])), (1, None))) ∷ (12, ((base []), (12, None))) ∷ [])))
    × ((least_fault (faults_of (source_32 ∷ [])) ≡ Some (13, 5)))
    × ((faults_of (source_33 ∷ []) ≡ []) × (rows_of (source_33 ∷ []) (1 ∷ 4 ∷ 8 ∷ [])
    ≡ ((1, ((function [] (more_types (base []) no_types) (void []) None), (1, (Some 1))))
    ∷ (4, ((base []), (4, (Some 1)))) ∷ (8, ((function [] no_types (base []) None), (8, (Some 8)))) ∷ [])))
    × ((least_fault (faults_of (source_34 ∷ [])) ≡ Some (7, 4)))
    × ((faults_of (source_35 ∷ []) ≡ [])
    × (rows_of (source_35 ∷ []) (10 ∷ []) ≡ ((10, ((pointer [] (base [])), (10, None))) ∷ [])))
    × ((least_fault (faults_of (source_36 ∷ [])) ≡ Some (4, 7)))
    × ((least_fault (faults_of (source_37 ∷ [])) ≡ Some (8, 7)))
    × ((least_fault (faults_of (source_38 ∷ [])) ≡ Some (14, 4)))
    × ((least_fault (faults_of (source_39 ∷ [])) ≡ Some (13, 5)))
    × ((least_fault (faults_of (source_40 ∷ [])) ≡ Some (7, 7)))
    × ((faults_of (source_41 ∷ []) ≡ []) × (rows_of (source_41 ∷ []) (1 ∷ 4 ∷ 10 ∷ 19 ∷ []) ≡ ((
      1,
      (
        (function [] (more_types (pointer [] (base [])) (more_types (pointer [] (pointer [] (base [])))
            (more_types (pointer [] (pointer [] (base []))) no_types))) (base []) None),
        (1, (Some 1)),
      ),
    ) ∷ (4, ((pointer [] (base [])), (4, None))) ∷ (10, ((pointer [] (pointer [] (base []))), (10, None)))
    ∷ (19, ((pointer [] (pointer [] (base []))), (19, None))) ∷ [])))
    × ((least_fault (faults_of (source_42 ∷ [])) ≡ Some (9, 7)))
    × ((least_fault (faults_of (source_43 ∷ [])) ≡ Some (13, 4)))
    × ((faults_of (source_44 ∷ []) ≡ [])
    × (rows_of (source_44 ∷ []) (8 ∷ 11 ∷ []) ≡ ((8, ((base []), (8, None))) ∷ (11, ((struct [] 0), (11, None))) ∷ [])))
    × ((faults_of (source_45 ∷ []) ≡ []) × (rows_of (source_45 ∷ []) (1 ∷ 4 ∷ 7 ∷ []) ≡ ((1, ((base []), (1, None)))
    ∷ (4, ((pointer [] (base [])), (4, None))) ∷ (7, ((function [] no_types (void []) None), (7, (Some 7)))) ∷ [])))

-- the sources 46 to 60: the first fault of each, or what it declares
abbrev pub Group4 : Type 0
Group4 =
    ((faults_of (source_46 ∷ []) ≡ [])
    × (rows_of (source_46 ∷ []) (1 ∷ 8 ∷ 14 ∷ []) ≡ ((1, ((function [] no_types (void []) None), (1, (Some 1))))
    ∷ (8, ((base []), (8, None))) ∷ (14, ((base []), (8, None))) ∷ [])))
    × ((faults_of (source_47 ∷ []) ≡ []) × (rows_of (source_47 ∷ []) (1 ∷ 9 ∷ [])
    ≡ ((1, ((function [] (more_types (base []) no_types) (base []) (Some [])), (1, (Some 1))))
    ∷ (9, ((function [] no_types (void []) None), (9, (Some 9)))) ∷ [])))
    × ((least_fault (faults_of (source_48 ∷ [])) ≡ Some (16, 6)))
    × ((least_fault (faults_of (source_49 ∷ [])) ≡ Some (9, 4)))
    × ((faults_of (source_50 ∷ []) ≡ [])
    × (rows_of (source_50 ∷ []) (1 ∷ 6 ∷ []) ≡ ((1, ((function [] no_types (base []) (Some [])), (1, (Some 1))))
    ∷ (6, ((function [] no_types (void []) None), (6, (Some 6)))) ∷ [])))
    × ((least_fault (faults_of (source_51 ∷ [])) ≡ Some (18, 3)))
    × ((faults_of (source_52 ∷ []) ≡ [])
    × (rows_of (source_52 ∷ []) (5 ∷ 11 ∷ []) ≡ ((5, ((function [] no_types (void []) None), (5, (Some 5))))
    ∷ (11, ((function [] no_types (base []) None), (11, (Some 11)))) ∷ [])))
    × ((faults_of (source_53 ∷ []) ≡ [])
    × (rows_of (source_53 ∷ []) (7 ∷ []) ≡ ((7, ((function [] no_types (void []) None), (7, (Some 7)))) ∷ [])))
    × ((least_fault (faults_of (source_54 ∷ [])) ≡ Some (11, 4)))
    × ((least_fault (faults_of (source_55 ∷ [])) ≡ Some (17, 1)))
    × ((faults_of (source_56 ∷ []) ≡ []) × (rows_of (source_56 ∷ []) (3 ∷ 10 ∷ [])
    ≡ ((3, ((pointer [] (function [] (more_types (base []) no_types) (base []) None)), (3, None)))
    ∷ (10, ((function [] no_types (void []) None), (10, (Some 10)))) ∷ [])))
    × ((faults_of (source_57 ∷ []) ≡ []) × (rows_of (source_57 ∷ []) (11 ∷ 14 ∷ [])
    ≡ ((11, ((struct [] 0), (11, None))) ∷ (14, ((function [] no_types (void []) None), (14, (Some 14)))) ∷ [])))
    × ((faults_of (source_58 ∷ []) ≡ [])
    × (rows_of (source_58 ∷ []) (1 ∷ 12 ∷ 15 ∷ []) ≡ ((1, ((function [] no_types (void []) None), (1, (Some 1))))
    ∷ (12, ((base []), (12, None))) ∷ (15, ((struct [] 0), (15, (Some 1)))) ∷ [])))
    × ((faults_of (source_59 ∷ []) ≡ [])
    × (rows_of (source_59 ∷ []) (1 ∷ 8 ∷ 17 ∷ []) ≡ ((1, ((function [] no_types (void []) None), (1, (Some 1))))
    ∷ (8, ((base []), (8, None))) ∷ (17, ((base []), (17, None))) ∷ [])))
    × ((faults_of (source_60 ∷ []) ≡ []) × (rows_of (source_60 ∷ []) (1 ∷ 9 ∷ 17 ∷ [])
    ≡ ((1, ((function [] (more_types (void []) (more_types (base []) no_types)) (base []) None), (1, (Some 1))))
    ∷ (9, ((function [] (more_types (base []) (more_types (void []) no_types)) (base []) None), (9, (Some 9))))
    ∷ (17, ((function [] (more_types (void []) (more_types (void []) no_types)) (base []) None), (17, (Some 17))))
    ∷ [])))

-- the sources 61 to 75: the first fault of each, or what it declares
abbrev pub Group5 : Type 0
Group5 =
    ((faults_of (source_61 ∷ []) ≡ []) × (rows_of (source_61 ∷ []) (4 ∷ 9 ∷ 16 ∷ []) ≡ ((4, ((base []), (4, None)))
    ∷ (9, ((function [] no_types (void []) None), (9, (Some 9)))) ∷ (16, ((struct [] 0), (16, (Some 9)))) ∷ [])))
    × ((least_fault (faults_of (source_62 ∷ [])) ≡ Some (19, 2)))
    × ((faults_of (source_63 ∷ []) ≡ [])
    × (rows_of (source_63 ∷ []) (1 ∷ []) ≡ ((1, ((function [] no_types (void []) None), (1, (Some 1)))) ∷ [])))
    × ((faults_of (source_64 ∷ []) ≡ []) × (rows_of (source_64 ∷ []) (1 ∷ 6 ∷ 9 ∷ 14 ∷ 21 ∷ [])
    ≡ ((1, ((function [] (more_types (pointer [] (struct [] 0)) no_types) (base []) None), (1, (Some 1))))
    ∷ (6, ((pointer [] (struct [] 0)), (6, None)))
    ∷ (9, ((function [] (more_types (pointer [] (struct [] 1)) no_types) (base []) None), (9, (Some 9))))
    ∷ (14, ((pointer [] (struct [] 1)), (14, None))) ∷ (21, ((base []), (21, None))) ∷ [])))
    × ((least_fault (faults_of (source_65 ∷ [])) ≡ Some (20, 2)))
    × ((least_fault (faults_of (source_66 ∷ [])) ≡ Some (15, 7)))
    × ((faults_of (source_67 ∷ []) ≡ [])
    × (rows_of (source_67 ∷ []) (1 ∷ 15 ∷ []) ≡ ((1, ((base []), (1, None))) ∷ (15, ((base []), (15, None))) ∷ [])))
    × ((faults_of (source_68 ∷ []) ≡ [])
    × (rows_of (source_68 ∷ []) (4 ∷ 10 ∷ []) ≡ ((4, ((base []), (4, None))) ∷ (10, ((base []), (10, None))) ∷ [])))
    × ((faults_of (source_69 ∷ []) ≡ []) × (rows_of (source_69 ∷ []) (4 ∷ 13 ∷ 16 ∷ [])
    ≡ ((4, ((base []), (4, None))) ∷ (13, ((struct [] 0), (13, None))) ∷ (16, ((base []), (16, None))) ∷ [])))
    × ((faults_of (source_70 ∷ []) ≡ []) × (rows_of (source_70 ∷ []) (4 ∷ 9 ∷ 19 ∷ []) ≡ ((4, ((base []), (4, None)))
    ∷ (9, ((function [] no_types (void []) None), (9, (Some 9)))) ∷ (19, ((struct [] 0), (19, (Some 9)))) ∷ [])))
    × ((faults_of (source_71 ∷ []) ≡ []) × (rows_of (source_71 ∷ []) (1 ∷ 7 ∷ 11 ∷ 16 ∷ [])
    ≡ ((1, ((function [] (more_types (pointer [] (struct [] 0)) no_types) (base []) None), (1, (Some 1))))
    ∷ (7, ((base []), (7, None))) ∷ (11, ((pointer [] (struct [] 0)), (11, (Some 1))))
    ∷ (16, ((struct [] 0), (16, (Some 1)))) ∷ [])))
    × ((least_fault (faults_of (source_72 ∷ [])) ≡ Some (24, 4)))
    × ((least_fault (faults_of (source_73 ∷ [])) ≡ Some (29, 4)))
    × ((faults_of (source_74 ∷ []) ≡ []) × (rows_of (source_74 ∷ []) (1 ∷ 4 ∷ [])
    ≡ ((1, ((base []), (1, None))) ∷ (4, ((function [] no_types (void []) None), (4, (Some 4)))) ∷ [])))
    × ((least_fault (faults_of (source_75 ∷ [])) ≡ Some (56, 4)))

-- all sources are as was worked out for them
abbrev pub ExamplesHold : Type 0
ExamplesHold = Group1 × Group2 × Group3 × Group4 × Group5
