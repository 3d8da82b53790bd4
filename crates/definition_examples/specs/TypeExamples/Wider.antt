-- Small sources of wider C, each with what was worked out for it, as in the other examples: the token and the number of
-- the rule of the first fault, or the type, the first declaration and the owner of each name. The trees were made from
-- the sources by a program outside the repository; what they say was worked out by two others.
use Rattle.std.specs.Prelude.{◌≡◌, ℕ, true, List, [], ◌∷◌, None, Some}
use Rattle.c_words.specs.declared.kinds.Keyword.TheVariants as keywords
use Rattle.c_words.specs.declared.kinds.Punct.TheVariants as signs
use Rattle.c_syntax.specs.declared.parts.Qual.TheVariants as quals
use Rattle.c_syntax.specs.declared.parts.PointerWord.TheVariants as pointer_words
use Rattle.c_syntax.specs.declared.parts.ArrayWord.TheVariants as array_words
use Rattle.c_tree.specs.Tree.{comma, operation, cast, prefix, sizeof_value, index, call, dot, arrow, post, name_use, number_use, char_use, text_use, paren, statement_expr, complex_part, label_use, compat, choose, generic, no_assocs, more_assocs, typed_assoc, default_assoc, assign, cond, binary, no_expr, some_expr, no_exprs, more_exprs, no_words, more_words, storage, inline_word, qualifier, basic, struct_type, enum_type, typedef_name, typeof_value, typeof_type, align, auto_word, no_body, some_body, no_struct_items, more_struct_items, member, no_mem_declrs, more_mem_declrs, named, no_value, enum_of, some_enum_body, no_enumerators, more_enumerators, pointer, declr_name, declr_paren, array, params, abs_pointer, abs_paren, abs_array, abs_params, identifiers, base_name, no_declr, some_declr, no_size, some_size, size_value, no_params, more_params, init_value, init_braced, init_list, no_init_items, more_init_items, no_desigs, more_desigs, member_desig, index_desig, range_desig, old_desig, no_init, some_init, no_init_declrs, more_init_declrs, declaration, decl_declaration, no_block_items, more_block_items, block_decl, block_stmt, block_labels, block, expr_stmt, label, default_stmt, switch_stmt, for_stmt, return_stmt, case_range, goto_value, start_declaration}
use Rattle.c_tree.specs.Unit.{Item, decl_item, function_item, old_function_item}
use Rattle.type_table.specs.Types.{base, void, struct, pointer, function, no_types, more_types}
use Rattle.type_rules.specs.Program.{Source, faults_of}
use Rattle.definition_examples.specs.TypeExamples.Examples.{among, least_fault, rows_of}

-- a source of wider C whose annotation words and zeros stand at these tokens
abbrev pub source : List ℕ → List ℕ → List Item → Source
source marks zeros items = record {
  spelling = record { unit = 1; wide = true; annotates = among marks; is_naught = among zeros; key = λ name. name };
  items = items;
}

-- int x, y; int *p; $tainted int t; $untainted int u; struct s { int a; int *b; } v, *w; int g(int); typeof(x) a;
-- __typeof__(p) b; __typeof(&p) c; typeof(*p) d;
abbrev pub source_1 : Source
source_1 =
    source (9 ∷ 13 ∷ []) [] ((decl_item (decl_declaration
    (declaration [] (more_words (basic (record { token = 0; keyword = keywords.Int })) no_words) (more_init_declrs []
    (declr_name 1 0) None [] no_init (more_init_declrs [] (declr_name 3 1) None [] no_init no_init_declrs)) 4)))
    ∷ (decl_item (decl_declaration (declaration [] (more_words (basic (record { token = 5; keyword = keywords.Int }))
    no_words) (more_init_declrs [] (pointer 6 [] (declr_name 7 2)) None [] no_init no_init_declrs) 8)))
    ∷ (decl_item (decl_declaration (declaration [] (more_words (qualifier (quals.Element 9))
    (more_words (basic (record { token = 10; keyword = keywords.Int })) no_words)) (more_init_declrs []
    (declr_name 11 3) None [] no_init no_init_declrs) 12))) ∷ (decl_item (decl_declaration (declaration [] (more_words
    (qualifier (quals.Element 13)) (more_words (basic (record { token = 14; keyword = keywords.Int })) no_words))
    (more_init_declrs [] (declr_name 15 4) None [] no_init no_init_declrs) 16)))
    ∷ (decl_item (decl_declaration (declaration [] (more_words (struct_type
    (record { token = 17; keyword = keywords.Struct }) [] (Some (record { token = 18; name = 5 })) (some_body 19
    (more_struct_items (member [] (more_words (basic (record { token = 20; keyword = keywords.Int })) no_words)
    (more_mem_declrs [] (named (declr_name 21 6) no_value []) no_mem_declrs) 22) (more_struct_items
    (member [] (more_words (basic (record { token = 23; keyword = keywords.Int })) no_words) (more_mem_declrs []
    (named (pointer 24 [] (declr_name 25 7)) no_value []) no_mem_declrs) 26) no_struct_items)) 27)) no_words)
    (more_init_declrs [] (declr_name 28 8) None [] no_init (more_init_declrs [] (pointer 30 [] (declr_name 31 9)) None
    [] no_init no_init_declrs)) 32))) ∷ (decl_item (decl_declaration (declaration []
    (more_words (basic (record { token = 33; keyword = keywords.Int })) no_words) (more_init_declrs [] (params
    (declr_name 34 10) 35 (more_params (more_words (basic (record { token = 36; keyword = keywords.Int })) no_words)
    no_declr [] no_params) None 37) None [] no_init no_init_declrs) 38)))
    ∷ (decl_item (decl_declaration (declaration [] (more_words (typeof_value 39 40 (name_use 41 0) 42) no_words)
    (more_init_declrs [] (declr_name 43 6) None [] no_init no_init_declrs) 44)))
    ∷ (decl_item (decl_declaration (declaration [] (more_words (typeof_value 45 46 (name_use 47 2) 48) no_words)
    (more_init_declrs [] (declr_name 49 7) None [] no_init no_init_declrs) 50))) ∷ (decl_item (decl_declaration
    (declaration [] (more_words (typeof_value 51 52 (prefix 53 signs.Ampersand (name_use 54 2)) 55) no_words)
    (more_init_declrs [] (declr_name 56 11) None [] no_init no_init_declrs) 57))) ∷ (decl_item (decl_declaration
    (declaration [] (more_words (typeof_value 58 59 (prefix 60 signs.Star (name_use 61 2)) 62) no_words)
    (more_init_declrs [] (declr_name 63 12) None [] no_init no_init_declrs) 64))) ∷ [])

-- int x, y; int *p; $tainted int t; $untainted int u; struct s { int a; int *b; } v, *w; int g(int); typeof(v) a;
-- typeof(w->b) b; typeof(v.a) *c; typeof(g) h; typeof(g) *k; typeof(&g) m;
abbrev pub source_2 : Source
source_2 =
    source (9 ∷ 13 ∷ []) [] ((decl_item (decl_declaration
    (declaration [] (more_words (basic (record { token = 0; keyword = keywords.Int })) no_words) (more_init_declrs []
    (declr_name 1 0) None [] no_init (more_init_declrs [] (declr_name 3 1) None [] no_init no_init_declrs)) 4)))
    ∷ (decl_item (decl_declaration (declaration [] (more_words (basic (record { token = 5; keyword = keywords.Int }))
    no_words) (more_init_declrs [] (pointer 6 [] (declr_name 7 2)) None [] no_init no_init_declrs) 8)))
    ∷ (decl_item (decl_declaration (declaration [] (more_words (qualifier (quals.Element 9))
    (more_words (basic (record { token = 10; keyword = keywords.Int })) no_words)) (more_init_declrs []
    (declr_name 11 3) None [] no_init no_init_declrs) 12))) ∷ (decl_item (decl_declaration (declaration [] (more_words
    (qualifier (quals.Element 13)) (more_words (basic (record { token = 14; keyword = keywords.Int })) no_words))
    (more_init_declrs [] (declr_name 15 4) None [] no_init no_init_declrs) 16)))
    ∷ (decl_item (decl_declaration (declaration [] (more_words (struct_type
    (record { token = 17; keyword = keywords.Struct }) [] (Some (record { token = 18; name = 5 })) (some_body 19
    (more_struct_items (member [] (more_words (basic (record { token = 20; keyword = keywords.Int })) no_words)
    (more_mem_declrs [] (named (declr_name 21 6) no_value []) no_mem_declrs) 22) (more_struct_items
    (member [] (more_words (basic (record { token = 23; keyword = keywords.Int })) no_words) (more_mem_declrs []
    (named (pointer 24 [] (declr_name 25 7)) no_value []) no_mem_declrs) 26) no_struct_items)) 27)) no_words)
    (more_init_declrs [] (declr_name 28 8) None [] no_init (more_init_declrs [] (pointer 30 [] (declr_name 31 9)) None
    [] no_init no_init_declrs)) 32))) ∷ (decl_item (decl_declaration (declaration []
    (more_words (basic (record { token = 33; keyword = keywords.Int })) no_words) (more_init_declrs [] (params
    (declr_name 34 10) 35 (more_params (more_words (basic (record { token = 36; keyword = keywords.Int })) no_words)
    no_declr [] no_params) None 37) None [] no_init no_init_declrs) 38)))
    ∷ (decl_item (decl_declaration (declaration [] (more_words (typeof_value 39 40 (name_use 41 8) 42) no_words)
    (more_init_declrs [] (declr_name 43 6) None [] no_init no_init_declrs) 44))) ∷ (decl_item (decl_declaration
    (declaration [] (more_words (typeof_value 45 46 (arrow (name_use 47 9) 48 (record { token = 49; name = 7 })) 50)
    no_words) (more_init_declrs [] (declr_name 51 7) None [] no_init no_init_declrs) 52)))
    ∷ (decl_item (decl_declaration (declaration []
    (more_words (typeof_value 53 54 (dot (name_use 55 8) 56 (record { token = 57; name = 6 })) 58) no_words)
    (more_init_declrs [] (pointer 59 [] (declr_name 60 11)) None [] no_init no_init_declrs) 61)))
    ∷ (decl_item (decl_declaration (declaration [] (more_words (typeof_value 62 63 (name_use 64 10) 65) no_words)
    (more_init_declrs [] (declr_name 66 12) None [] no_init no_init_declrs) 67)))
    ∷ (decl_item (decl_declaration (declaration [] (more_words (typeof_value 68 69 (name_use 70 10) 71) no_words)
    (more_init_declrs [] (pointer 72 [] (declr_name 73 13)) None [] no_init no_init_declrs) 74))) ∷ (decl_item
    (decl_declaration (declaration [] (more_words (typeof_value 75 76 (prefix 77 signs.Ampersand (name_use 78 10)) 79)
    no_words) (more_init_declrs [] (declr_name 80 14) None [] no_init no_init_declrs) 81))) ∷ [])

-- int a[3]; typeof(a) b; typeof(a[0]) c; typeof("x") d; typeof('x') e; typeof(1.5) k;
abbrev pub source_3 : Source
source_3 =
    source [] (16 ∷ []) ((decl_item (decl_declaration
    (declaration [] (more_words (basic (record { token = 0; keyword = keywords.Int })) no_words) (more_init_declrs []
    (array (declr_name 1 0) 2 [] (some_size (size_value (number_use 3))) 4) None [] no_init no_init_declrs) 5)))
    ∷ (decl_item (decl_declaration (declaration [] (more_words (typeof_value 6 7 (name_use 8 0) 9) no_words)
    (more_init_declrs [] (declr_name 10 1) None [] no_init no_init_declrs) 11))) ∷ (decl_item (decl_declaration
    (declaration [] (more_words (typeof_value 12 13 (index (name_use 14 0) 15 (number_use 16) 17) 18) no_words)
    (more_init_declrs [] (declr_name 19 2) None [] no_init no_init_declrs) 20)))
    ∷ (decl_item (decl_declaration (declaration [] (more_words (typeof_value 21 22 (text_use (23 ∷ [])) 24) no_words)
    (more_init_declrs [] (declr_name 25 3) None [] no_init no_init_declrs) 26)))
    ∷ (decl_item (decl_declaration (declaration [] (more_words (typeof_value 27 28 (char_use 29) 30) no_words)
    (more_init_declrs [] (declr_name 31 4) None [] no_init no_init_declrs) 32)))
    ∷ (decl_item (decl_declaration (declaration [] (more_words (typeof_value 33 34 (number_use 35) 36) no_words)
    (more_init_declrs [] (declr_name 37 5) None [] no_init no_init_declrs) 38))) ∷ [])

-- int x, y; int *p; $tainted int t; $untainted int u; struct s { int a; int *b; } v, *w; int g(int); typeof(p + 1) a;
-- typeof(x ? p : 0) b; typeof((char *)0) c; typeof((x, p)) d; typeof(x = y) e;
abbrev pub source_4 : Source
source_4 =
    source (9 ∷ 13 ∷ []) (53 ∷ 63 ∷ []) ((decl_item (decl_declaration
    (declaration [] (more_words (basic (record { token = 0; keyword = keywords.Int })) no_words) (more_init_declrs []
    (declr_name 1 0) None [] no_init (more_init_declrs [] (declr_name 3 1) None [] no_init no_init_declrs)) 4)))
    ∷ (decl_item (decl_declaration (declaration [] (more_words (basic (record { token = 5; keyword = keywords.Int }))
    no_words) (more_init_declrs [] (pointer 6 [] (declr_name 7 2)) None [] no_init no_init_declrs) 8)))
    ∷ (decl_item (decl_declaration (declaration [] (more_words (qualifier (quals.Element 9))
    (more_words (basic (record { token = 10; keyword = keywords.Int })) no_words)) (more_init_declrs []
    (declr_name 11 3) None [] no_init no_init_declrs) 12))) ∷ (decl_item (decl_declaration (declaration [] (more_words
    (qualifier (quals.Element 13)) (more_words (basic (record { token = 14; keyword = keywords.Int })) no_words))
    (more_init_declrs [] (declr_name 15 4) None [] no_init no_init_declrs) 16)))
    ∷ (decl_item (decl_declaration (declaration [] (more_words (struct_type
    (record { token = 17; keyword = keywords.Struct }) [] (Some (record { token = 18; name = 5 })) (some_body 19
    (more_struct_items (member [] (more_words (basic (record { token = 20; keyword = keywords.Int })) no_words)
    (more_mem_declrs [] (named (declr_name 21 6) no_value []) no_mem_declrs) 22) (more_struct_items
    (member [] (more_words (basic (record { token = 23; keyword = keywords.Int })) no_words) (more_mem_declrs []
    (named (pointer 24 [] (declr_name 25 7)) no_value []) no_mem_declrs) 26) no_struct_items)) 27)) no_words)
    (more_init_declrs [] (declr_name 28 8) None [] no_init (more_init_declrs [] (pointer 30 [] (declr_name 31 9)) None
    [] no_init no_init_declrs)) 32))) ∷ (decl_item (decl_declaration (declaration []
    (more_words (basic (record { token = 33; keyword = keywords.Int })) no_words) (more_init_declrs [] (params
    (declr_name 34 10) 35 (more_params (more_words (basic (record { token = 36; keyword = keywords.Int })) no_words)
    no_declr [] no_params) None 37) None [] no_init no_init_declrs) 38))) ∷ (decl_item (decl_declaration (declaration []
    (more_words (typeof_value 39 40 (operation (name_use 41 2) (binary signs.Plus) 42 (number_use 43)) 44) no_words)
    (more_init_declrs [] (declr_name 45 6) None [] no_init no_init_declrs) 46))) ∷ (decl_item (decl_declaration
    (declaration [] (more_words (typeof_value 47 48 (operation (name_use 49 0) (cond (some_expr (name_use 51 2)) 52) 50
    (number_use 53)) 54) no_words) (more_init_declrs [] (declr_name 55 7) None [] no_init no_init_declrs) 56)))
    ∷ (decl_item (decl_declaration (declaration [] (more_words (typeof_value 57 58 (cast 59 (more_words
    (basic (record { token = 60; keyword = keywords.Char })) no_words) (some_declr (abs_pointer 61 [] no_declr)) 62
    (number_use 63)) 64) no_words) (more_init_declrs [] (declr_name 65 11) None [] no_init no_init_declrs) 66)))
    ∷ (decl_item (decl_declaration (declaration []
    (more_words (typeof_value 67 68 (paren 69 (operation (name_use 70 0) comma 71 (name_use 72 2)) 73) 74) no_words)
    (more_init_declrs [] (declr_name 75 12) None [] no_init no_init_declrs) 76))) ∷ (decl_item (decl_declaration
    (declaration [] (more_words (typeof_value 77 78 (operation (name_use 79 0) (assign signs.Equal) 80 (name_use 81 1))
    82) no_words) (more_init_declrs [] (declr_name 83 13) None [] no_init no_init_declrs) 84))) ∷ [])

-- int x, y; int *p; $tainted int t; $untainted int u; struct s { int a; int *b; } v, *w; int g(int); typeof(typeof(p))
-- a; typeof(typeof(*p) *) b; typeof(x) c, *d, e[2], k(typeof(p));
abbrev pub source_5 : Source
source_5 =
    source (9 ∷ 13 ∷ []) [] ((decl_item (decl_declaration
    (declaration [] (more_words (basic (record { token = 0; keyword = keywords.Int })) no_words) (more_init_declrs []
    (declr_name 1 0) None [] no_init (more_init_declrs [] (declr_name 3 1) None [] no_init no_init_declrs)) 4)))
    ∷ (decl_item (decl_declaration (declaration [] (more_words (basic (record { token = 5; keyword = keywords.Int }))
    no_words) (more_init_declrs [] (pointer 6 [] (declr_name 7 2)) None [] no_init no_init_declrs) 8)))
    ∷ (decl_item (decl_declaration (declaration [] (more_words (qualifier (quals.Element 9))
    (more_words (basic (record { token = 10; keyword = keywords.Int })) no_words)) (more_init_declrs []
    (declr_name 11 3) None [] no_init no_init_declrs) 12))) ∷ (decl_item (decl_declaration (declaration [] (more_words
    (qualifier (quals.Element 13)) (more_words (basic (record { token = 14; keyword = keywords.Int })) no_words))
    (more_init_declrs [] (declr_name 15 4) None [] no_init no_init_declrs) 16)))
    ∷ (decl_item (decl_declaration (declaration [] (more_words (struct_type
    (record { token = 17; keyword = keywords.Struct }) [] (Some (record { token = 18; name = 5 })) (some_body 19
    (more_struct_items (member [] (more_words (basic (record { token = 20; keyword = keywords.Int })) no_words)
    (more_mem_declrs [] (named (declr_name 21 6) no_value []) no_mem_declrs) 22) (more_struct_items
    (member [] (more_words (basic (record { token = 23; keyword = keywords.Int })) no_words) (more_mem_declrs []
    (named (pointer 24 [] (declr_name 25 7)) no_value []) no_mem_declrs) 26) no_struct_items)) 27)) no_words)
    (more_init_declrs [] (declr_name 28 8) None [] no_init (more_init_declrs [] (pointer 30 [] (declr_name 31 9)) None
    [] no_init no_init_declrs)) 32))) ∷ (decl_item (decl_declaration (declaration []
    (more_words (basic (record { token = 33; keyword = keywords.Int })) no_words) (more_init_declrs [] (params
    (declr_name 34 10) 35 (more_params (more_words (basic (record { token = 36; keyword = keywords.Int })) no_words)
    no_declr [] no_params) None 37) None [] no_init no_init_declrs) 38))) ∷ (decl_item
    (decl_declaration (declaration [] (more_words (typeof_type (record { token = 39; keyword = keywords.Typeof }) 40
    (more_words (typeof_value 41 42 (name_use 43 2) 44) no_words) no_declr 45) no_words)
    (more_init_declrs [] (declr_name 46 6) None [] no_init no_init_declrs) 47))) ∷ (decl_item (decl_declaration
    (declaration [] (more_words (typeof_type (record { token = 48; keyword = keywords.Typeof }) 49 (more_words
    (typeof_value 50 51 (prefix 52 signs.Star (name_use 53 2)) 54) no_words) (some_declr (abs_pointer 55 [] no_declr))
    56) no_words) (more_init_declrs [] (declr_name 57 7) None [] no_init no_init_declrs) 58)))
    ∷ (decl_item (decl_declaration (declaration [] (more_words (typeof_value 59 60 (name_use 61 0) 62) no_words)
    (more_init_declrs [] (declr_name 63 11) None [] no_init (more_init_declrs [] (pointer 65 [] (declr_name 66 12)) None
    [] no_init (more_init_declrs [] (array (declr_name 68 13) 69 [] (some_size (size_value (number_use 70))) 71) None
    [] no_init (more_init_declrs [] (params (declr_name 73 14) 74 (more_params (more_words (typeof_value 75 76
    (name_use 77 2) 78) no_words) no_declr [] no_params) None 79) None [] no_init no_init_declrs)))) 80))) ∷ [])

-- int x, y; int *p; $tainted int t; $untainted int u; struct s { int a; int *b; } v, *w; int g(int); int k(typeof(p) q,
-- typeof(q) r); struct z { typeof(p) m; typeof(v) n; } zz; typeof(zz.n.b) a;
abbrev pub source_6 : Source
source_6 =
    source (9 ∷ 13 ∷ []) [] ((decl_item (decl_declaration
    (declaration [] (more_words (basic (record { token = 0; keyword = keywords.Int })) no_words) (more_init_declrs []
    (declr_name 1 0) None [] no_init (more_init_declrs [] (declr_name 3 1) None [] no_init no_init_declrs)) 4)))
    ∷ (decl_item (decl_declaration (declaration [] (more_words (basic (record { token = 5; keyword = keywords.Int }))
    no_words) (more_init_declrs [] (pointer 6 [] (declr_name 7 2)) None [] no_init no_init_declrs) 8)))
    ∷ (decl_item (decl_declaration (declaration [] (more_words (qualifier (quals.Element 9))
    (more_words (basic (record { token = 10; keyword = keywords.Int })) no_words)) (more_init_declrs []
    (declr_name 11 3) None [] no_init no_init_declrs) 12))) ∷ (decl_item (decl_declaration (declaration [] (more_words
    (qualifier (quals.Element 13)) (more_words (basic (record { token = 14; keyword = keywords.Int })) no_words))
    (more_init_declrs [] (declr_name 15 4) None [] no_init no_init_declrs) 16)))
    ∷ (decl_item (decl_declaration (declaration [] (more_words (struct_type
    (record { token = 17; keyword = keywords.Struct }) [] (Some (record { token = 18; name = 5 })) (some_body 19
    (more_struct_items (member [] (more_words (basic (record { token = 20; keyword = keywords.Int })) no_words)
    (more_mem_declrs [] (named (declr_name 21 6) no_value []) no_mem_declrs) 22) (more_struct_items
    (member [] (more_words (basic (record { token = 23; keyword = keywords.Int })) no_words) (more_mem_declrs []
    (named (pointer 24 [] (declr_name 25 7)) no_value []) no_mem_declrs) 26) no_struct_items)) 27)) no_words)
    (more_init_declrs [] (declr_name 28 8) None [] no_init (more_init_declrs [] (pointer 30 [] (declr_name 31 9)) None
    [] no_init no_init_declrs)) 32))) ∷ (decl_item (decl_declaration (declaration []
    (more_words (basic (record { token = 33; keyword = keywords.Int })) no_words) (more_init_declrs [] (params
    (declr_name 34 10) 35 (more_params (more_words (basic (record { token = 36; keyword = keywords.Int })) no_words)
    no_declr [] no_params) None 37) None [] no_init no_init_declrs) 38))) ∷ (decl_item (decl_declaration
    (declaration [] (more_words (basic (record { token = 39; keyword = keywords.Int })) no_words) (more_init_declrs []
    (params (declr_name 40 11) 41 (more_params (more_words (typeof_value 42 43 (name_use 44 2) 45) no_words)
    (some_declr (declr_name 46 12)) [] (more_params (more_words (typeof_value 48 49 (name_use 50 12) 51) no_words)
    (some_declr (declr_name 52 13)) [] no_params)) None 53) None [] no_init no_init_declrs) 54)))
    ∷ (decl_item (decl_declaration (declaration [] (more_words
    (struct_type (record { token = 55; keyword = keywords.Struct }) [] (Some (record { token = 56; name = 14 }))
    (some_body 57 (more_struct_items (member [] (more_words (typeof_value 58 59 (name_use 60 2) 61) no_words)
    (more_mem_declrs [] (named (declr_name 62 15) no_value []) no_mem_declrs) 63)
    (more_struct_items (member [] (more_words (typeof_value 64 65 (name_use 66 8) 67) no_words)
    (more_mem_declrs [] (named (declr_name 68 16) no_value []) no_mem_declrs) 69) no_struct_items)) 70)) no_words)
    (more_init_declrs [] (declr_name 71 17) None [] no_init no_init_declrs) 72)))
    ∷ (decl_item (decl_declaration (declaration [] (more_words (typeof_value 73 74 (dot
    (dot (name_use 75 17) 76 (record { token = 77; name = 16 })) 78 (record { token = 79; name = 7 })) 80) no_words)
    (more_init_declrs [] (declr_name 81 6) None [] no_init no_init_declrs) 82))) ∷ [])

-- typeof(int (*)(void)) a; typeof(int [2]) b; typeof(struct q { int m; }) c; typeof(enum { E1 }) d; int e = E1;
abbrev pub source_7 : Source
source_7 =
    source [] [] ((decl_item
    (decl_declaration (declaration [] (more_words (typeof_type (record { token = 0; keyword = keywords.Typeof }) 1
    (more_words (basic (record { token = 2; keyword = keywords.Int })) no_words)
    (some_declr (abs_params (some_declr (abs_paren 3 [] (abs_pointer 4 [] no_declr) 5)) 6 (more_params
    (more_words (basic (record { token = 7; keyword = keywords.Void })) no_words) no_declr [] no_params) None 8)) 9)
    no_words) (more_init_declrs [] (declr_name 10 0) None [] no_init no_init_declrs) 11))) ∷ (decl_item
    (decl_declaration (declaration [] (more_words (typeof_type (record { token = 12; keyword = keywords.Typeof }) 13
    (more_words (basic (record { token = 14; keyword = keywords.Int })) no_words)
    (some_declr (abs_array no_declr 15 [] (some_size (size_value (number_use 16))) 17)) 18) no_words) (more_init_declrs
    [] (declr_name 19 1) None [] no_init no_init_declrs) 20))) ∷ (decl_item (decl_declaration (declaration []
    (more_words (typeof_type (record { token = 21; keyword = keywords.Typeof }) 22 (more_words (struct_type
    (record { token = 23; keyword = keywords.Struct }) [] (Some (record { token = 24; name = 2 })) (some_body 25
    (more_struct_items (member [] (more_words (basic (record { token = 26; keyword = keywords.Int })) no_words)
    (more_mem_declrs [] (named (declr_name 27 3) no_value []) no_mem_declrs) 28) no_struct_items) 29)) no_words)
    no_declr 30) no_words) (more_init_declrs [] (declr_name 31 4) None [] no_init no_init_declrs) 32))) ∷ (decl_item
    (decl_declaration (declaration [] (more_words (typeof_type (record { token = 33; keyword = keywords.Typeof }) 34
    (more_words (enum_type (enum_of 35 [] None (some_enum_body 36 (more_enumerators (record { token = 37; name = 5 })
    [] no_value no_enumerators) None 38))) no_words) no_declr 39) no_words)
    (more_init_declrs [] (declr_name 40 6) None [] no_init no_init_declrs) 41))) ∷ (decl_item (decl_declaration
    (declaration [] (more_words (basic (record { token = 42; keyword = keywords.Int })) no_words) (more_init_declrs []
    (declr_name 43 7) None [] (some_init 44 (init_value (name_use 45 5))) no_init_declrs) 46))) ∷ [])

-- typedef $tainted int *P; P a; typeof(a) b; typeof(P) c; typeof(*a) d;
abbrev pub source_8 : Source
source_8 =
    source (1 ∷ []) [] ((decl_item (decl_declaration
    (declaration [] (more_words (storage (record { token = 0; keyword = keywords.Typedef })) (more_words
    (qualifier (quals.Element 1)) (more_words (basic (record { token = 2; keyword = keywords.Int })) no_words)))
    (more_init_declrs [] (pointer 3 [] (declr_name 4 0)) None [] no_init no_init_declrs) 5)))
    ∷ (decl_item (decl_declaration (declaration [] (more_words (typedef_name (record { token = 6; name = 0 })) no_words)
    (more_init_declrs [] (declr_name 7 1) None [] no_init no_init_declrs) 8)))
    ∷ (decl_item (decl_declaration (declaration [] (more_words (typeof_value 9 10 (name_use 11 1) 12) no_words)
    (more_init_declrs [] (declr_name 13 2) None [] no_init no_init_declrs) 14))) ∷ (decl_item
    (decl_declaration (declaration [] (more_words (typeof_type (record { token = 15; keyword = keywords.Typeof }) 16
    (more_words (typedef_name (record { token = 17; name = 0 })) no_words) no_declr 18) no_words)
    (more_init_declrs [] (declr_name 19 3) None [] no_init no_init_declrs) 20))) ∷ (decl_item (decl_declaration
    (declaration [] (more_words (typeof_value 21 22 (prefix 23 signs.Star (name_use 24 1)) 25) no_words)
    (more_init_declrs [] (declr_name 26 4) None [] no_init no_init_declrs) 27))) ∷ [])

-- int f($tainted int, ...); typeof(f) g; typeof(&f) h;
abbrev pub source_9 : Source
source_9 =
    source (3 ∷ []) [] ((decl_item
    (decl_declaration (declaration [] (more_words (basic (record { token = 0; keyword = keywords.Int })) no_words)
    (more_init_declrs [] (params (declr_name 1 0) 2 (more_params (more_words (qualifier (quals.Element 3))
    (more_words (basic (record { token = 4; keyword = keywords.Int })) no_words)) no_declr [] no_params)
    (Some (record { comma = 5; quals = []; dots = 6 })) 7) None [] no_init no_init_declrs) 8)))
    ∷ (decl_item (decl_declaration (declaration [] (more_words (typeof_value 9 10 (name_use 11 0) 12) no_words)
    (more_init_declrs [] (declr_name 13 1) None [] no_init no_init_declrs) 14))) ∷ (decl_item (decl_declaration
    (declaration [] (more_words (typeof_value 15 16 (prefix 17 signs.Ampersand (name_use 18 0)) 19) no_words)
    (more_init_declrs [] (declr_name 20 2) None [] no_init no_init_declrs) 21))) ∷ [])

-- extern int f(int); extern typeof(f) f; typeof(f) k __attribute__((alias("f")));
abbrev pub source_10 : Source
source_10 =
    source [] [] ((decl_item
    (decl_declaration (declaration [] (more_words (storage (record { token = 0; keyword = keywords.Extern }))
    (more_words (basic (record { token = 1; keyword = keywords.Int })) no_words)) (more_init_declrs []
    (params (declr_name 2 0) 3 (more_params (more_words (basic (record { token = 4; keyword = keywords.Int })) no_words)
    no_declr [] no_params) None 5) None [] no_init no_init_declrs) 6))) ∷ (decl_item
    (decl_declaration (declaration [] (more_words (storage (record { token = 7; keyword = keywords.Extern }))
    (more_words (typeof_value 8 9 (name_use 10 0) 11) no_words)) (more_init_declrs [] (declr_name 12 0) None
    [] no_init no_init_declrs) 13))) ∷ (decl_item (decl_declaration (declaration []
    (more_words (typeof_value 14 15 (name_use 16 0) 17) no_words) (more_init_declrs [] (declr_name 18 1) None
    ((record { keyword = 19; group = (record { first = 20; last = 27 }) }) ∷ []) no_init no_init_declrs) 28))) ∷ [])

-- int id(int x) { return x; } typeof(id(1)) a; void f(void) { typeof(id(2)) b = id(3); }
abbrev pub source_11 : Source
source_11 =
    source [] [] ((function_item [] (more_words (basic (record { token = 0; keyword = keywords.Int })) no_words)
    (params (declr_name 1 0) 2 (more_params (more_words (basic (record { token = 3; keyword = keywords.Int })) no_words)
    (some_declr (declr_name 4 1)) [] no_params) None 5) [] 6
    (more_block_items (block_stmt (return_stmt 7 (some_expr (name_use 8 1)) 9)) no_block_items) 10)
    ∷ (decl_item (decl_declaration (declaration []
    (more_words (typeof_value 11 12 (call (name_use 13 0) 14 (more_exprs (number_use 15) no_exprs) 16) 17) no_words)
    (more_init_declrs [] (declr_name 18 2) None [] no_init no_init_declrs) 19)))
    ∷ (function_item [] (more_words (basic (record { token = 20; keyword = keywords.Void })) no_words) (params
    (declr_name 21 3) 22 (more_params (more_words (basic (record { token = 23; keyword = keywords.Void })) no_words)
    no_declr [] no_params) None 24) [] 25 (more_block_items (block_decl (decl_declaration (declaration []
    (more_words (typeof_value 26 27 (call (name_use 28 0) 29 (more_exprs (number_use 30) no_exprs) 31) 32) no_words)
    (more_init_declrs [] (declr_name 33 4) None [] (some_init 34 (init_value
    (call (name_use 35 0) 36 (more_exprs (number_use 37) no_exprs) 38))) no_init_declrs) 39))) no_block_items) 40) ∷ [])

-- struct s { int a; typeof(((struct s *)0)->a) b; struct { int *c; }; typeof(((struct s *)0)->c) d; };
abbrev pub source_12 : Source
source_12 =
    source [] (14 ∷ 37 ∷ []) ((decl_item (decl_declaration (declaration [] (more_words (struct_type
    (record { token = 0; keyword = keywords.Struct }) [] (Some (record { token = 1; name = 0 })) (some_body 2
    (more_struct_items (member [] (more_words (basic (record { token = 3; keyword = keywords.Int })) no_words)
    (more_mem_declrs [] (named (declr_name 4 1) no_value []) no_mem_declrs) 5)
    (more_struct_items (member [] (more_words (typeof_value 6 7 (arrow (paren 8 (cast 9 (more_words (struct_type
    (record { token = 10; keyword = keywords.Struct }) [] (Some (record { token = 11; name = 0 })) no_body) no_words)
    (some_declr (abs_pointer 12 [] no_declr)) 13 (number_use 14)) 15) 16 (record { token = 17; name = 1 })) 18)
    no_words) (more_mem_declrs [] (named (declr_name 19 2) no_value []) no_mem_declrs) 20) (more_struct_items (member []
    (more_words (struct_type (record { token = 21; keyword = keywords.Struct }) [] None (some_body 22 (more_struct_items
    (member [] (more_words (basic (record { token = 23; keyword = keywords.Int })) no_words) (more_mem_declrs [] (named
    (pointer 24 [] (declr_name 25 3)) no_value []) no_mem_declrs) 26) no_struct_items) 27)) no_words) no_mem_declrs 28)
    (more_struct_items (member [] (more_words (typeof_value 29 30 (arrow (paren 31 (cast 32 (more_words (struct_type
    (record { token = 33; keyword = keywords.Struct }) [] (Some (record { token = 34; name = 0 })) no_body) no_words)
    (some_declr (abs_pointer 35 [] no_declr)) 36 (number_use 37)) 38) 39 (record { token = 40; name = 3 })) 41)
    no_words) (more_mem_declrs [] (named (declr_name 42 4) no_value []) no_mem_declrs) 43) no_struct_items)))) 44))
    no_words) no_init_declrs 45))) ∷ [])

-- struct s { int a; typeof((struct s *)0) b; };
abbrev pub source_13 : Source
source_13 =
    source [] (13 ∷ []) ((decl_item (decl_declaration (declaration [] (more_words (struct_type
    (record { token = 0; keyword = keywords.Struct }) [] (Some (record { token = 1; name = 0 })) (some_body 2
    (more_struct_items (member [] (more_words (basic (record { token = 3; keyword = keywords.Int })) no_words)
    (more_mem_declrs [] (named (declr_name 4 1) no_value []) no_mem_declrs) 5) (more_struct_items (member []
    (more_words (typeof_value 6 7 (cast 8 (more_words (struct_type (record { token = 9; keyword = keywords.Struct }) []
    (Some (record { token = 10; name = 0 })) no_body) no_words) (some_declr (abs_pointer 11 [] no_declr)) 12
    (number_use 13)) 14) no_words) (more_mem_declrs [] (named (declr_name 15 2) no_value []) no_mem_declrs) 16)
    no_struct_items)) 17)) no_words) no_init_declrs 18))) ∷ [])

-- int __seg_gs *p; __seg_fs int x; int *__seg_gs q; typeof(*(int __seg_gs *)0) y; void f(int a[__seg_fs 3]);
abbrev pub source_14 : Source
source_14 =
    source [] (22 ∷ [])
    ((decl_item (decl_declaration (declaration [] (more_words (basic (record { token = 0; keyword = keywords.Int }))
    (more_words (qualifier (quals.Word (record { token = 1; keyword = keywords.Seg }))) no_words)) (more_init_declrs []
    (pointer 2 [] (declr_name 3 0)) None [] no_init no_init_declrs) 4))) ∷ (decl_item (decl_declaration
    (declaration [] (more_words (qualifier (quals.Word (record { token = 5; keyword = keywords.Seg })))
    (more_words (basic (record { token = 6; keyword = keywords.Int })) no_words))
    (more_init_declrs [] (declr_name 7 1) None [] no_init no_init_declrs) 8))) ∷ (decl_item
    (decl_declaration (declaration [] (more_words (basic (record { token = 9; keyword = keywords.Int })) no_words)
    (more_init_declrs [] (pointer 10 ((pointer_words.Qual (quals.Word (record { token = 11; keyword = keywords.Seg })))
    ∷ []) (declr_name 12 2)) None [] no_init no_init_declrs) 13)))
    ∷ (decl_item (decl_declaration (declaration [] (more_words (typeof_value 14 15 (prefix 16 signs.Star
    (cast 17 (more_words (basic (record { token = 18; keyword = keywords.Int })) (more_words (qualifier (quals.Word
    (record { token = 19; keyword = keywords.Seg }))) no_words)) (some_declr (abs_pointer 20 [] no_declr)) 21
    (number_use 22))) 23) no_words) (more_init_declrs [] (declr_name 24 3) None [] no_init no_init_declrs) 25)))
    ∷ (decl_item (decl_declaration (declaration [] (more_words
    (basic (record { token = 26; keyword = keywords.Void })) no_words) (more_init_declrs [] (params (declr_name 27 4) 28
    (more_params (more_words (basic (record { token = 29; keyword = keywords.Int })) no_words) (some_declr
    (array (declr_name 30 5) 31 ((array_words.Qual (quals.Word (record { token = 32; keyword = keywords.Seg }))) ∷ [])
    (some_size (size_value (number_use 33))) 34)) [] no_params) None 35) None [] no_init no_init_declrs) 36))) ∷ [])

-- _Atomic int a; int _Atomic b; int *_Atomic c; _Atomic(int *) d; _Atomic(struct s { int m; }) e; const _Atomic(int) k;
-- _Atomic($tainted int) l;
abbrev pub source_15 : Source
source_15 =
    source (41 ∷ []) [] ((decl_item (decl_declaration
    (declaration [] (more_words (qualifier (quals.Word (record { token = 0; keyword = keywords.Atomic })))
    (more_words (basic (record { token = 1; keyword = keywords.Int })) no_words))
    (more_init_declrs [] (declr_name 2 0) None [] no_init no_init_declrs) 3)))
    ∷ (decl_item (decl_declaration (declaration [] (more_words (basic (record { token = 4; keyword = keywords.Int }))
    (more_words (qualifier (quals.Word (record { token = 5; keyword = keywords.Atomic }))) no_words))
    (more_init_declrs [] (declr_name 6 1) None [] no_init no_init_declrs) 7))) ∷ (decl_item (decl_declaration
    (declaration [] (more_words (basic (record { token = 8; keyword = keywords.Int })) no_words) (more_init_declrs []
    (pointer 9 ((pointer_words.Qual (quals.Word (record { token = 10; keyword = keywords.Atomic }))) ∷ [])
    (declr_name 11 2)) None [] no_init no_init_declrs) 12))) ∷ (decl_item (decl_declaration (declaration []
    (more_words (typeof_type (record { token = 13; keyword = keywords.AtomicType }) 14 (more_words (basic
    (record { token = 15; keyword = keywords.Int })) no_words) (some_declr (abs_pointer 16 [] no_declr)) 17) no_words)
    (more_init_declrs [] (declr_name 18 3) None [] no_init no_init_declrs) 19))) ∷ (decl_item (decl_declaration
    (declaration [] (more_words (typeof_type (record { token = 20; keyword = keywords.AtomicType }) 21 (more_words
    (struct_type (record { token = 22; keyword = keywords.Struct }) [] (Some (record { token = 23; name = 4 }))
    (some_body 24 (more_struct_items (member [] (more_words (basic (record { token = 25; keyword = keywords.Int }))
    no_words) (more_mem_declrs [] (named (declr_name 26 5) no_value []) no_mem_declrs) 27) no_struct_items) 28))
    no_words) no_declr 29) no_words) (more_init_declrs [] (declr_name 30 6) None [] no_init no_init_declrs) 31)))
    ∷ (decl_item (decl_declaration
    (declaration [] (more_words (qualifier (quals.Word (record { token = 32; keyword = keywords.Const })))
    (more_words (typeof_type (record { token = 33; keyword = keywords.AtomicType }) 34
    (more_words (basic (record { token = 35; keyword = keywords.Int })) no_words) no_declr 36) no_words))
    (more_init_declrs [] (declr_name 37 7) None [] no_init no_init_declrs) 38))) ∷ (decl_item (decl_declaration
    (declaration [] (more_words (typeof_type (record { token = 39; keyword = keywords.AtomicType }) 40 (more_words
    (qualifier (quals.Element 41)) (more_words (basic (record { token = 42; keyword = keywords.Int })) no_words))
    no_declr 43) no_words) (more_init_declrs [] (declr_name 44 8) None [] no_init no_init_declrs) 45))) ∷ [])

-- _Alignas(16) int a; int _Alignas(sizeof(long)) b; struct s { _Alignas(8) char c; char _Alignas(int) d; };
abbrev pub source_16 : Source
source_16 =
    source [] [] ((decl_item (decl_declaration
    (declaration [] (more_words (align (record { keyword = 0; group = (record { first = 1; last = 3 }) }))
    (more_words (basic (record { token = 4; keyword = keywords.Int })) no_words))
    (more_init_declrs [] (declr_name 5 0) None [] no_init no_init_declrs) 6)))
    ∷ (decl_item (decl_declaration (declaration [] (more_words (basic (record { token = 7; keyword = keywords.Int }))
    (more_words (align (record { keyword = 8; group = (record { first = 9; last = 14 }) })) no_words))
    (more_init_declrs [] (declr_name 15 1) None [] no_init no_init_declrs) 16))) ∷ (decl_item
    (decl_declaration (declaration [] (more_words (struct_type (record { token = 17; keyword = keywords.Struct }) []
    (Some (record { token = 18; name = 2 })) (some_body 19 (more_struct_items
    (member [] (more_words (align (record { keyword = 20; group = (record { first = 21; last = 23 }) }))
    (more_words (basic (record { token = 24; keyword = keywords.Char })) no_words))
    (more_mem_declrs [] (named (declr_name 25 3) no_value []) no_mem_declrs) 26)
    (more_struct_items (member [] (more_words (basic (record { token = 27; keyword = keywords.Char })) (more_words
    (align (record { keyword = 28; group = (record { first = 29; last = 31 }) })) no_words)) (more_mem_declrs []
    (named (declr_name 32 4) no_value []) no_mem_declrs) 33) no_struct_items)) 34)) no_words) no_init_declrs 35))) ∷ [])

-- int x, y; int *p; $tainted int t; $untainted int u; struct s { int a; int *b; } v, *w; int g(int);
-- typeof(__builtin_types_compatible_p(int, typeof(p))) a; int b[__builtin_types_compatible_p(struct s *, typeof(w)) +
-- 1];
abbrev pub source_17 : Source
source_17 =
    source (9 ∷ 13 ∷ []) [] ((decl_item (decl_declaration
    (declaration [] (more_words (basic (record { token = 0; keyword = keywords.Int })) no_words) (more_init_declrs []
    (declr_name 1 0) None [] no_init (more_init_declrs [] (declr_name 3 1) None [] no_init no_init_declrs)) 4)))
    ∷ (decl_item (decl_declaration (declaration [] (more_words (basic (record { token = 5; keyword = keywords.Int }))
    no_words) (more_init_declrs [] (pointer 6 [] (declr_name 7 2)) None [] no_init no_init_declrs) 8)))
    ∷ (decl_item (decl_declaration (declaration [] (more_words (qualifier (quals.Element 9))
    (more_words (basic (record { token = 10; keyword = keywords.Int })) no_words)) (more_init_declrs []
    (declr_name 11 3) None [] no_init no_init_declrs) 12))) ∷ (decl_item (decl_declaration (declaration [] (more_words
    (qualifier (quals.Element 13)) (more_words (basic (record { token = 14; keyword = keywords.Int })) no_words))
    (more_init_declrs [] (declr_name 15 4) None [] no_init no_init_declrs) 16)))
    ∷ (decl_item (decl_declaration (declaration [] (more_words (struct_type
    (record { token = 17; keyword = keywords.Struct }) [] (Some (record { token = 18; name = 5 })) (some_body 19
    (more_struct_items (member [] (more_words (basic (record { token = 20; keyword = keywords.Int })) no_words)
    (more_mem_declrs [] (named (declr_name 21 6) no_value []) no_mem_declrs) 22) (more_struct_items
    (member [] (more_words (basic (record { token = 23; keyword = keywords.Int })) no_words) (more_mem_declrs []
    (named (pointer 24 [] (declr_name 25 7)) no_value []) no_mem_declrs) 26) no_struct_items)) 27)) no_words)
    (more_init_declrs [] (declr_name 28 8) None [] no_init
    (more_init_declrs [] (pointer 30 [] (declr_name 31 9)) None [] no_init no_init_declrs)) 32))) ∷ (decl_item
    (decl_declaration (declaration [] (more_words (basic (record { token = 33; keyword = keywords.Int })) no_words)
    (more_init_declrs [] (params (declr_name 34 10) 35 (more_params
    (more_words (basic (record { token = 36; keyword = keywords.Int })) no_words) no_declr [] no_params) None 37) None
    [] no_init no_init_declrs) 38))) ∷ (decl_item (decl_declaration (declaration [] (more_words (typeof_value 39 40
    (compat 41 42 (more_words (basic (record { token = 43; keyword = keywords.Int })) no_words) no_declr 44
    (more_words (typeof_value 45 46 (name_use 47 2) 48) no_words) no_declr 49) 50) no_words)
    (more_init_declrs [] (declr_name 51 6) None [] no_init no_init_declrs) 52))) ∷ (decl_item
    (decl_declaration (declaration [] (more_words (basic (record { token = 53; keyword = keywords.Int })) no_words)
    (more_init_declrs [] (array (declr_name 54 7) 55 [] (some_size (size_value (operation (compat 56 57 (more_words
    (struct_type (record { token = 58; keyword = keywords.Struct }) [] (Some (record { token = 59; name = 5 })) no_body)
    no_words) (some_declr (abs_pointer 60 [] no_declr)) 61 (more_words (typeof_value 62 63 (name_use 64 9) 65) no_words)
    no_declr 66) (binary signs.Plus) 67 (number_use 68)))) 69) None [] no_init no_init_declrs) 70))) ∷ [])

-- int x, y; int *p; $tainted int t; $untainted int u; struct s { int a; int *b; } v, *w; int g(int);
-- typeof(__builtin_choose_expr(1, x, p)) a; typeof(__builtin_choose_expr(0, v, x)) b; typeof(__builtin_choose_expr(1,
-- p, 0)) c; typeof(__builtin_choose_expr(1, (void)0, x)) d;
abbrev pub source_18 : Source
source_18 =
    source (9 ∷ 13 ∷ []) (56 ∷ 73 ∷ 87 ∷ []) ((decl_item (decl_declaration
    (declaration [] (more_words (basic (record { token = 0; keyword = keywords.Int })) no_words) (more_init_declrs []
    (declr_name 1 0) None [] no_init (more_init_declrs [] (declr_name 3 1) None [] no_init no_init_declrs)) 4)))
    ∷ (decl_item (decl_declaration (declaration [] (more_words (basic (record { token = 5; keyword = keywords.Int }))
    no_words) (more_init_declrs [] (pointer 6 [] (declr_name 7 2)) None [] no_init no_init_declrs) 8)))
    ∷ (decl_item (decl_declaration (declaration [] (more_words (qualifier (quals.Element 9))
    (more_words (basic (record { token = 10; keyword = keywords.Int })) no_words)) (more_init_declrs []
    (declr_name 11 3) None [] no_init no_init_declrs) 12))) ∷ (decl_item (decl_declaration (declaration [] (more_words
    (qualifier (quals.Element 13)) (more_words (basic (record { token = 14; keyword = keywords.Int })) no_words))
    (more_init_declrs [] (declr_name 15 4) None [] no_init no_init_declrs) 16)))
    ∷ (decl_item (decl_declaration (declaration [] (more_words (struct_type
    (record { token = 17; keyword = keywords.Struct }) [] (Some (record { token = 18; name = 5 })) (some_body 19
    (more_struct_items (member [] (more_words (basic (record { token = 20; keyword = keywords.Int })) no_words)
    (more_mem_declrs [] (named (declr_name 21 6) no_value []) no_mem_declrs) 22) (more_struct_items
    (member [] (more_words (basic (record { token = 23; keyword = keywords.Int })) no_words) (more_mem_declrs []
    (named (pointer 24 [] (declr_name 25 7)) no_value []) no_mem_declrs) 26) no_struct_items)) 27)) no_words)
    (more_init_declrs [] (declr_name 28 8) None [] no_init
    (more_init_declrs [] (pointer 30 [] (declr_name 31 9)) None [] no_init no_init_declrs)) 32))) ∷ (decl_item
    (decl_declaration (declaration [] (more_words (basic (record { token = 33; keyword = keywords.Int })) no_words)
    (more_init_declrs [] (params (declr_name 34 10) 35 (more_params
    (more_words (basic (record { token = 36; keyword = keywords.Int })) no_words) no_declr [] no_params) None 37) None
    [] no_init no_init_declrs) 38))) ∷ (decl_item (decl_declaration (declaration [] (more_words
    (typeof_value 39 40 (choose 41 42 (number_use 43) 44 (name_use 45 0) 46 (name_use 47 2) 48) 49) no_words)
    (more_init_declrs [] (declr_name 50 6) None [] no_init no_init_declrs) 51))) ∷ (decl_item (decl_declaration
    (declaration [] (more_words (typeof_value 52 53 (choose 54 55 (number_use 56) 57 (name_use 58 8) 59
    (name_use 60 0) 61) 62) no_words) (more_init_declrs [] (declr_name 63 7) None [] no_init no_init_declrs) 64)))
    ∷ (decl_item (decl_declaration (declaration [] (more_words
    (typeof_value 65 66 (choose 67 68 (number_use 69) 70 (name_use 71 2) 72 (number_use 73) 74) 75) no_words)
    (more_init_declrs [] (declr_name 76 11) None [] no_init no_init_declrs) 77)))
    ∷ (decl_item (decl_declaration (declaration [] (more_words (typeof_value 78 79 (choose 80 81 (number_use 82) 83
    (cast 84 (more_words (basic (record { token = 85; keyword = keywords.Void })) no_words) no_declr 86 (number_use 87))
    88 (name_use 89 0) 90) 91) no_words) (more_init_declrs [] (declr_name 92 12) None [] no_init no_init_declrs) 93)))
    ∷ [])

-- int x, y; int *p; $tainted int t; $untainted int u; struct s { int a; int *b; } v, *w; int g(int);
-- typeof(__builtin_choose_expr(1, (void *)x, p)) a; typeof(__builtin_choose_expr(1, 0, 0)) b;
-- typeof(__builtin_choose_expr(1, (void *)x, w)) c;
abbrev pub source_19 : Source
source_19 =
    source (9 ∷ 13 ∷ []) (62 ∷ 64 ∷ []) ((decl_item (decl_declaration
    (declaration [] (more_words (basic (record { token = 0; keyword = keywords.Int })) no_words) (more_init_declrs []
    (declr_name 1 0) None [] no_init (more_init_declrs [] (declr_name 3 1) None [] no_init no_init_declrs)) 4)))
    ∷ (decl_item (decl_declaration (declaration [] (more_words (basic (record { token = 5; keyword = keywords.Int }))
    no_words) (more_init_declrs [] (pointer 6 [] (declr_name 7 2)) None [] no_init no_init_declrs) 8)))
    ∷ (decl_item (decl_declaration (declaration [] (more_words (qualifier (quals.Element 9))
    (more_words (basic (record { token = 10; keyword = keywords.Int })) no_words)) (more_init_declrs []
    (declr_name 11 3) None [] no_init no_init_declrs) 12))) ∷ (decl_item (decl_declaration (declaration [] (more_words
    (qualifier (quals.Element 13)) (more_words (basic (record { token = 14; keyword = keywords.Int })) no_words))
    (more_init_declrs [] (declr_name 15 4) None [] no_init no_init_declrs) 16)))
    ∷ (decl_item (decl_declaration (declaration [] (more_words (struct_type
    (record { token = 17; keyword = keywords.Struct }) [] (Some (record { token = 18; name = 5 })) (some_body 19
    (more_struct_items (member [] (more_words (basic (record { token = 20; keyword = keywords.Int })) no_words)
    (more_mem_declrs [] (named (declr_name 21 6) no_value []) no_mem_declrs) 22) (more_struct_items
    (member [] (more_words (basic (record { token = 23; keyword = keywords.Int })) no_words) (more_mem_declrs []
    (named (pointer 24 [] (declr_name 25 7)) no_value []) no_mem_declrs) 26) no_struct_items)) 27)) no_words)
    (more_init_declrs [] (declr_name 28 8) None [] no_init (more_init_declrs [] (pointer 30 [] (declr_name 31 9)) None
    [] no_init no_init_declrs)) 32))) ∷ (decl_item (decl_declaration (declaration []
    (more_words (basic (record { token = 33; keyword = keywords.Int })) no_words) (more_init_declrs [] (params
    (declr_name 34 10) 35 (more_params (more_words (basic (record { token = 36; keyword = keywords.Int })) no_words)
    no_declr [] no_params) None 37) None [] no_init no_init_declrs) 38)))
    ∷ (decl_item (decl_declaration (declaration [] (more_words (typeof_value 39 40 (choose 41 42 (number_use 43) 44
    (cast 45 (more_words (basic (record { token = 46; keyword = keywords.Void })) no_words)
    (some_declr (abs_pointer 47 [] no_declr)) 48 (name_use 49 0)) 50 (name_use 51 2) 52) 53) no_words)
    (more_init_declrs [] (declr_name 54 6) None [] no_init no_init_declrs) 55))) ∷ (decl_item (decl_declaration
    (declaration [] (more_words (typeof_value 56 57 (choose 58 59 (number_use 60) 61 (number_use 62) 63
    (number_use 64) 65) 66) no_words) (more_init_declrs [] (declr_name 67 7) None [] no_init no_init_declrs) 68)))
    ∷ (decl_item (decl_declaration (declaration [] (more_words (typeof_value 69 70 (choose 71 72 (number_use 73) 74
    (cast 75 (more_words (basic (record { token = 76; keyword = keywords.Void })) no_words)
    (some_declr (abs_pointer 77 [] no_declr)) 78 (name_use 79 0)) 80 (name_use 81 9) 82) 83) no_words)
    (more_init_declrs [] (declr_name 84 11) None [] no_init no_init_declrs) 85))) ∷ [])

-- int x, y; int *p; $tainted int t; $untainted int u; struct s { int a; int *b; } v, *w; int g(int); void f(void) { p =
-- __builtin_choose_expr(1, p, 0); w = __builtin_choose_expr(1, 0, w); x = __builtin_choose_expr(1, w, 0)->a; }
abbrev pub source_20 : Source
source_20 =
    source (9 ∷ 13 ∷ []) (53 ∷ 62 ∷ 75 ∷ []) ((decl_item (decl_declaration
    (declaration [] (more_words (basic (record { token = 0; keyword = keywords.Int })) no_words) (more_init_declrs []
    (declr_name 1 0) None [] no_init (more_init_declrs [] (declr_name 3 1) None [] no_init no_init_declrs)) 4)))
    ∷ (decl_item (decl_declaration (declaration [] (more_words (basic (record { token = 5; keyword = keywords.Int }))
    no_words) (more_init_declrs [] (pointer 6 [] (declr_name 7 2)) None [] no_init no_init_declrs) 8)))
    ∷ (decl_item (decl_declaration (declaration [] (more_words (qualifier (quals.Element 9))
    (more_words (basic (record { token = 10; keyword = keywords.Int })) no_words)) (more_init_declrs []
    (declr_name 11 3) None [] no_init no_init_declrs) 12))) ∷ (decl_item (decl_declaration (declaration [] (more_words
    (qualifier (quals.Element 13)) (more_words (basic (record { token = 14; keyword = keywords.Int })) no_words))
    (more_init_declrs [] (declr_name 15 4) None [] no_init no_init_declrs) 16)))
    ∷ (decl_item (decl_declaration (declaration [] (more_words (struct_type
    (record { token = 17; keyword = keywords.Struct }) [] (Some (record { token = 18; name = 5 })) (some_body 19
    (more_struct_items (member [] (more_words (basic (record { token = 20; keyword = keywords.Int })) no_words)
    (more_mem_declrs [] (named (declr_name 21 6) no_value []) no_mem_declrs) 22) (more_struct_items
    (member [] (more_words (basic (record { token = 23; keyword = keywords.Int })) no_words) (more_mem_declrs []
    (named (pointer 24 [] (declr_name 25 7)) no_value []) no_mem_declrs) 26) no_struct_items)) 27)) no_words)
    (more_init_declrs [] (declr_name 28 8) None [] no_init (more_init_declrs [] (pointer 30 [] (declr_name 31 9)) None
    [] no_init no_init_declrs)) 32))) ∷ (decl_item (decl_declaration (declaration []
    (more_words (basic (record { token = 33; keyword = keywords.Int })) no_words) (more_init_declrs [] (params
    (declr_name 34 10) 35 (more_params (more_words (basic (record { token = 36; keyword = keywords.Int })) no_words)
    no_declr [] no_params) None 37) None [] no_init no_init_declrs) 38)))
    ∷ (function_item [] (more_words (basic (record { token = 39; keyword = keywords.Void })) no_words) (params
    (declr_name 40 11) 41 (more_params (more_words (basic (record { token = 42; keyword = keywords.Void })) no_words)
    no_declr [] no_params) None 43) [] 44 (more_block_items (block_stmt (expr_stmt (some_expr (operation (name_use 45 2)
    (assign signs.Equal) 46 (choose 47 48 (number_use 49) 50 (name_use 51 2) 52 (number_use 53) 54))) 55))
    (more_block_items (block_stmt (expr_stmt (some_expr (operation (name_use 56 9) (assign signs.Equal) 57
    (choose 58 59 (number_use 60) 61 (number_use 62) 63 (name_use 64 9) 65))) 66)) (more_block_items (block_stmt
    (expr_stmt (some_expr (operation (name_use 67 0) (assign signs.Equal) 68 (arrow (choose 69 70 (number_use 71) 72
    (name_use 73 9) 74 (number_use 75) 76) 77 (record { token = 78; name = 6 })))) 79)) no_block_items))) 80) ∷ [])

-- int x, y; int *p; $tainted int t; $untainted int u; struct s { int a; int *b; } v, *w; int g(int); typeof(_Generic(x,
-- int: 1, char *: p)) a; typeof(_Generic(p, int: 1, char *: p)) b; typeof(_Generic(v, default: x, struct s: w)) c;
-- typeof(_Generic(w, int: 1, default: w)) d;
abbrev pub source_21 : Source
source_21 =
    source (9 ∷ 13 ∷ []) [] ((decl_item (decl_declaration
    (declaration [] (more_words (basic (record { token = 0; keyword = keywords.Int })) no_words) (more_init_declrs []
    (declr_name 1 0) None [] no_init (more_init_declrs [] (declr_name 3 1) None [] no_init no_init_declrs)) 4)))
    ∷ (decl_item (decl_declaration (declaration [] (more_words (basic (record { token = 5; keyword = keywords.Int }))
    no_words) (more_init_declrs [] (pointer 6 [] (declr_name 7 2)) None [] no_init no_init_declrs) 8)))
    ∷ (decl_item (decl_declaration (declaration [] (more_words (qualifier (quals.Element 9))
    (more_words (basic (record { token = 10; keyword = keywords.Int })) no_words)) (more_init_declrs []
    (declr_name 11 3) None [] no_init no_init_declrs) 12))) ∷ (decl_item (decl_declaration (declaration [] (more_words
    (qualifier (quals.Element 13)) (more_words (basic (record { token = 14; keyword = keywords.Int })) no_words))
    (more_init_declrs [] (declr_name 15 4) None [] no_init no_init_declrs) 16)))
    ∷ (decl_item (decl_declaration (declaration [] (more_words (struct_type
    (record { token = 17; keyword = keywords.Struct }) [] (Some (record { token = 18; name = 5 })) (some_body 19
    (more_struct_items (member [] (more_words (basic (record { token = 20; keyword = keywords.Int })) no_words)
    (more_mem_declrs [] (named (declr_name 21 6) no_value []) no_mem_declrs) 22) (more_struct_items
    (member [] (more_words (basic (record { token = 23; keyword = keywords.Int })) no_words) (more_mem_declrs []
    (named (pointer 24 [] (declr_name 25 7)) no_value []) no_mem_declrs) 26) no_struct_items)) 27)) no_words)
    (more_init_declrs [] (declr_name 28 8) None [] no_init (more_init_declrs [] (pointer 30 [] (declr_name 31 9)) None
    [] no_init no_init_declrs)) 32))) ∷ (decl_item (decl_declaration (declaration []
    (more_words (basic (record { token = 33; keyword = keywords.Int })) no_words) (more_init_declrs [] (params
    (declr_name 34 10) 35 (more_params (more_words (basic (record { token = 36; keyword = keywords.Int })) no_words)
    no_declr [] no_params) None 37) None [] no_init no_init_declrs) 38)))
    ∷ (decl_item (decl_declaration (declaration [] (more_words (typeof_value 39 40 (generic 41 42 (name_use 43 0)
    (more_assocs (typed_assoc (more_words (basic (record { token = 45; keyword = keywords.Int })) no_words) no_declr 46
    (number_use 47)) (more_assocs (typed_assoc (more_words (basic (record { token = 49; keyword = keywords.Char }))
    no_words) (some_declr (abs_pointer 50 [] no_declr)) 51 (name_use 52 2)) no_assocs)) 53) 54) no_words)
    (more_init_declrs [] (declr_name 55 6) None [] no_init no_init_declrs) 56))) ∷ (decl_item (decl_declaration
    (declaration [] (more_words (typeof_value 57 58 (generic 59 60 (name_use 61 2) (more_assocs (typed_assoc
    (more_words (basic (record { token = 63; keyword = keywords.Int })) no_words) no_declr 64 (number_use 65))
    (more_assocs (typed_assoc (more_words (basic (record { token = 67; keyword = keywords.Char })) no_words)
    (some_declr (abs_pointer 68 [] no_declr)) 69 (name_use 70 2)) no_assocs)) 71) 72) no_words) (more_init_declrs []
    (declr_name 73 7) None [] no_init no_init_declrs) 74))) ∷ (decl_item (decl_declaration (declaration []
    (more_words (typeof_value 75 76 (generic 77 78 (name_use 79 8) (more_assocs (default_assoc 81 82 (name_use 83 0))
    (more_assocs (typed_assoc (more_words (struct_type (record { token = 85; keyword = keywords.Struct }) []
    (Some (record { token = 86; name = 5 })) no_body) no_words) no_declr 87 (name_use 88 9)) no_assocs)) 89) 90)
    no_words) (more_init_declrs [] (declr_name 91 11) None [] no_init no_init_declrs) 92)))
    ∷ (decl_item (decl_declaration (declaration [] (more_words (typeof_value 93 94 (generic 95 96 (name_use 97 9)
    (more_assocs (typed_assoc (more_words (basic (record { token = 99; keyword = keywords.Int })) no_words) no_declr 100
    (number_use 101)) (more_assocs (default_assoc 103 104 (name_use 105 9)) no_assocs)) 106) 107) no_words)
    (more_init_declrs [] (declr_name 108 12) None [] no_init no_init_declrs) 109))) ∷ [])

-- int x, y; int *p; $tainted int t; $untainted int u; struct s { int a; int *b; } v, *w; int g(int); typeof(_Generic(x,
-- char: (char)0, unsigned char: 0, default: (x))) a; typeof(_Generic(p, char: (char)0, default: (p))) b;
-- typeof(_Generic(v, int: 0, default: v)) c;
abbrev pub source_22 : Source
source_22 =
    source (9 ∷ 13 ∷ []) (50 ∷ 55 ∷ 77 ∷ 96 ∷ []) ((decl_item (decl_declaration
    (declaration [] (more_words (basic (record { token = 0; keyword = keywords.Int })) no_words) (more_init_declrs []
    (declr_name 1 0) None [] no_init (more_init_declrs [] (declr_name 3 1) None [] no_init no_init_declrs)) 4)))
    ∷ (decl_item (decl_declaration (declaration [] (more_words (basic (record { token = 5; keyword = keywords.Int }))
    no_words) (more_init_declrs [] (pointer 6 [] (declr_name 7 2)) None [] no_init no_init_declrs) 8)))
    ∷ (decl_item (decl_declaration (declaration [] (more_words (qualifier (quals.Element 9))
    (more_words (basic (record { token = 10; keyword = keywords.Int })) no_words)) (more_init_declrs []
    (declr_name 11 3) None [] no_init no_init_declrs) 12))) ∷ (decl_item (decl_declaration (declaration [] (more_words
    (qualifier (quals.Element 13)) (more_words (basic (record { token = 14; keyword = keywords.Int })) no_words))
    (more_init_declrs [] (declr_name 15 4) None [] no_init no_init_declrs) 16)))
    ∷ (decl_item (decl_declaration (declaration [] (more_words (struct_type
    (record { token = 17; keyword = keywords.Struct }) [] (Some (record { token = 18; name = 5 })) (some_body 19
    (more_struct_items (member [] (more_words (basic (record { token = 20; keyword = keywords.Int })) no_words)
    (more_mem_declrs [] (named (declr_name 21 6) no_value []) no_mem_declrs) 22) (more_struct_items
    (member [] (more_words (basic (record { token = 23; keyword = keywords.Int })) no_words) (more_mem_declrs []
    (named (pointer 24 [] (declr_name 25 7)) no_value []) no_mem_declrs) 26) no_struct_items)) 27)) no_words)
    (more_init_declrs [] (declr_name 28 8) None [] no_init (more_init_declrs [] (pointer 30 [] (declr_name 31 9)) None
    [] no_init no_init_declrs)) 32))) ∷ (decl_item (decl_declaration (declaration []
    (more_words (basic (record { token = 33; keyword = keywords.Int })) no_words) (more_init_declrs [] (params
    (declr_name 34 10) 35 (more_params (more_words (basic (record { token = 36; keyword = keywords.Int })) no_words)
    no_declr [] no_params) None 37) None [] no_init no_init_declrs) 38)))
    ∷ (decl_item (decl_declaration (declaration [] (more_words (typeof_value 39 40 (generic 41 42 (name_use 43 0)
    (more_assocs (typed_assoc (more_words (basic (record { token = 45; keyword = keywords.Char })) no_words) no_declr 46
    (cast 47 (more_words (basic (record { token = 48; keyword = keywords.Char })) no_words) no_declr 49
    (number_use 50))) (more_assocs (typed_assoc (more_words (basic (record { token = 52; keyword = keywords.Unsigned }))
    (more_words (basic (record { token = 53; keyword = keywords.Char })) no_words)) no_declr 54 (number_use 55))
    (more_assocs (default_assoc 57 58 (paren 59 (name_use 60 0) 61)) no_assocs))) 62) 63) no_words)
    (more_init_declrs [] (declr_name 64 6) None [] no_init no_init_declrs) 65)))
    ∷ (decl_item (decl_declaration (declaration [] (more_words (typeof_value 66 67 (generic 68 69 (name_use 70 2)
    (more_assocs (typed_assoc (more_words (basic (record { token = 72; keyword = keywords.Char })) no_words) no_declr 73
    (cast 74 (more_words (basic (record { token = 75; keyword = keywords.Char })) no_words) no_declr 76
    (number_use 77))) (more_assocs (default_assoc 79 80 (paren 81 (name_use 82 2) 83)) no_assocs)) 84) 85) no_words)
    (more_init_declrs [] (declr_name 86 7) None [] no_init no_init_declrs) 87)))
    ∷ (decl_item (decl_declaration (declaration [] (more_words (typeof_value 88 89 (generic 90 91 (name_use 92 8)
    (more_assocs (typed_assoc (more_words (basic (record { token = 94; keyword = keywords.Int })) no_words) no_declr 95
    (number_use 96)) (more_assocs (default_assoc 98 99 (name_use 100 8)) no_assocs)) 101) 102) no_words)
    (more_init_declrs [] (declr_name 103 11) None [] no_init no_init_declrs) 104))) ∷ [])

-- int x, y; int *p; $tainted int t; $untainted int u; struct s { int a; int *b; } v, *w; int g(int); void f(void) {
-- _Generic(x, int *: y, default: x) = 1; &_Generic(p, default: v); _Generic(p, int: w, int *: v).a; }
abbrev pub source_23 : Source
source_23 =
    source (9 ∷ 13 ∷ []) [] ((decl_item (decl_declaration
    (declaration [] (more_words (basic (record { token = 0; keyword = keywords.Int })) no_words) (more_init_declrs []
    (declr_name 1 0) None [] no_init (more_init_declrs [] (declr_name 3 1) None [] no_init no_init_declrs)) 4)))
    ∷ (decl_item (decl_declaration (declaration [] (more_words (basic (record { token = 5; keyword = keywords.Int }))
    no_words) (more_init_declrs [] (pointer 6 [] (declr_name 7 2)) None [] no_init no_init_declrs) 8)))
    ∷ (decl_item (decl_declaration (declaration [] (more_words (qualifier (quals.Element 9))
    (more_words (basic (record { token = 10; keyword = keywords.Int })) no_words)) (more_init_declrs []
    (declr_name 11 3) None [] no_init no_init_declrs) 12))) ∷ (decl_item (decl_declaration (declaration [] (more_words
    (qualifier (quals.Element 13)) (more_words (basic (record { token = 14; keyword = keywords.Int })) no_words))
    (more_init_declrs [] (declr_name 15 4) None [] no_init no_init_declrs) 16)))
    ∷ (decl_item (decl_declaration (declaration [] (more_words (struct_type
    (record { token = 17; keyword = keywords.Struct }) [] (Some (record { token = 18; name = 5 })) (some_body 19
    (more_struct_items (member [] (more_words (basic (record { token = 20; keyword = keywords.Int })) no_words)
    (more_mem_declrs [] (named (declr_name 21 6) no_value []) no_mem_declrs) 22) (more_struct_items
    (member [] (more_words (basic (record { token = 23; keyword = keywords.Int })) no_words) (more_mem_declrs []
    (named (pointer 24 [] (declr_name 25 7)) no_value []) no_mem_declrs) 26) no_struct_items)) 27)) no_words)
    (more_init_declrs [] (declr_name 28 8) None [] no_init (more_init_declrs [] (pointer 30 [] (declr_name 31 9)) None
    [] no_init no_init_declrs)) 32))) ∷ (decl_item (decl_declaration (declaration []
    (more_words (basic (record { token = 33; keyword = keywords.Int })) no_words) (more_init_declrs [] (params
    (declr_name 34 10) 35 (more_params (more_words (basic (record { token = 36; keyword = keywords.Int })) no_words)
    no_declr [] no_params) None 37) None [] no_init no_init_declrs) 38))) ∷ (function_item []
    (more_words (basic (record { token = 39; keyword = keywords.Void })) no_words) (params (declr_name 40 11) 41
    (more_params (more_words (basic (record { token = 42; keyword = keywords.Void })) no_words) no_declr [] no_params)
    None 43) [] 44 (more_block_items (block_stmt (expr_stmt (some_expr (operation (generic 45 46 (name_use 47 0)
    (more_assocs (typed_assoc (more_words (basic (record { token = 49; keyword = keywords.Int })) no_words)
    (some_declr (abs_pointer 50 [] no_declr)) 51 (name_use 52 1))
    (more_assocs (default_assoc 54 55 (name_use 56 0)) no_assocs)) 57) (assign signs.Equal) 58 (number_use 59))) 60))
    (more_block_items (block_stmt (expr_stmt (some_expr (prefix 61 signs.Ampersand
    (generic 62 63 (name_use 64 2) (more_assocs (default_assoc 66 67 (name_use 68 8)) no_assocs) 69))) 70))
    (more_block_items (block_stmt (expr_stmt (some_expr (dot (generic 71 72 (name_use 73 2) (more_assocs (typed_assoc
    (more_words (basic (record { token = 75; keyword = keywords.Int })) no_words) no_declr 76 (name_use 77 9))
    (more_assocs (typed_assoc (more_words (basic (record { token = 79; keyword = keywords.Int })) no_words)
    (some_declr (abs_pointer 80 [] no_declr)) 81 (name_use 82 8)) no_assocs)) 83) 84 (record { token = 85; name = 6 })))
    86)) no_block_items))) 87) ∷ [])

-- void f(int x) { void *t[] = { &&a, &&b }; goto *t[x]; a: ; b: ; void *q = &&a; }
abbrev pub source_24 : Source
source_24 =
    source [] [] ((function_item [] (more_words (basic (record { token = 0; keyword = keywords.Void })) no_words)
    (params (declr_name 1 0) 2 (more_params (more_words (basic (record { token = 3; keyword = keywords.Int })) no_words)
    (some_declr (declr_name 4 1)) [] no_params) None 5) [] 6 (more_block_items (block_decl
    (decl_declaration (declaration [] (more_words (basic (record { token = 7; keyword = keywords.Void })) no_words)
    (more_init_declrs [] (pointer 8 [] (array (declr_name 9 2) 10 [] no_size 11)) None []
    (some_init 12 (init_braced (init_list 13 (more_init_items no_desigs None
    (init_value (label_use 14 (record { token = 15; name = 3 }))) (more_init_items no_desigs None
    (init_value (label_use 17 (record { token = 18; name = 4 }))) no_init_items)) None 19))) no_init_declrs) 20)))
    (more_block_items (block_stmt (goto_value 21 22 (index (name_use 23 2) 24 (name_use 25 1) 26) 27)) (more_block_items
    (block_stmt (label (record { token = 28; name = 3 }) 29 [] (expr_stmt no_expr 30))) (more_block_items
    (block_stmt (label (record { token = 31; name = 4 }) 32 [] (expr_stmt no_expr 33))) (more_block_items (block_decl
    (decl_declaration (declaration [] (more_words (basic (record { token = 34; keyword = keywords.Void })) no_words)
    (more_init_declrs [] (pointer 35 [] (declr_name 36 5)) None [] (some_init 37
    (init_value (label_use 38 (record { token = 39; name = 3 })))) no_init_declrs) 40))) no_block_items))))) 41) ∷ [])

-- typeof(&&a) x;
abbrev pub source_25 : Source
source_25 =
    source [] [] ((decl_item (decl_declaration
    (declaration [] (more_words (typeof_value 0 1 (label_use 2 (record { token = 3; name = 0 })) 4) no_words)
    (more_init_declrs [] (declr_name 5 1) None [] no_init no_init_declrs) 6))) ∷ [])

-- void f(void) { sizeof &&a; }
abbrev pub source_26 : Source
source_26 =
    source [] [] ((function_item [] (more_words (basic (record { token = 0; keyword = keywords.Void })) no_words)
    (params (declr_name 1 0) 2 (more_params
    (more_words (basic (record { token = 3; keyword = keywords.Void })) no_words) no_declr [] no_params) None 4) [] 5
    (more_block_items (block_stmt (expr_stmt (some_expr (sizeof_value (record { token = 6; keyword = keywords.Sizeof })
    (label_use 7 (record { token = 8; name = 1 })))) 9)) no_block_items) 10) ∷ [])

-- double _Complex z; typeof(__real__ z) a; void f(void) { __real__ z = 1; __imag__ z = __real__ z + __imag z; &__real
-- z; }
abbrev pub source_27 : Source
source_27 = source [] []
    ((decl_item (decl_declaration (declaration [] (more_words (basic (record { token = 0; keyword = keywords.Double }))
    (more_words (basic (record { token = 1; keyword = keywords.AnyComplex })) no_words))
    (more_init_declrs [] (declr_name 2 0) None [] no_init no_init_declrs) 3))) ∷ (decl_item
    (decl_declaration (declaration [] (more_words (typeof_value 4 5 (complex_part 6 (name_use 7 0)) 8) no_words)
    (more_init_declrs [] (declr_name 9 1) None [] no_init no_init_declrs) 10))) ∷ (function_item []
    (more_words (basic (record { token = 11; keyword = keywords.Void })) no_words) (params (declr_name 12 2) 13
    (more_params (more_words (basic (record { token = 14; keyword = keywords.Void })) no_words) no_declr [] no_params)
    None 15) [] 16 (more_block_items (block_stmt (expr_stmt (some_expr (operation (complex_part 17 (name_use 18 0))
    (assign signs.Equal) 19 (number_use 20))) 21)) (more_block_items (block_stmt (expr_stmt (some_expr
    (operation (complex_part 22 (name_use 23 0)) (assign signs.Equal) 24 (operation (complex_part 25 (name_use 26 0))
    (binary signs.Plus) 27 (complex_part 28 (name_use 29 0))))) 30)) (more_block_items (block_stmt (expr_stmt
    (some_expr (prefix 31 signs.Ampersand (complex_part 32 (name_use 33 0)))) 34)) no_block_items))) 35) ∷ [])

-- long _Complex a;
abbrev pub source_28 : Source
source_28 = source [] []
    ((decl_item (decl_declaration (declaration [] (more_words (basic (record { token = 0; keyword = keywords.Long }))
    (more_words (basic (record { token = 1; keyword = keywords.AnyComplex })) no_words))
    (more_init_declrs [] (declr_name 2 0) None [] no_init no_init_declrs) 3))) ∷ [])

-- typedef float V __attribute__((vector_size(16))); V a; typeof(a[1]) b; void f(void) { a[1] = a[2]; ((V)a)[3]; &a[1];
-- }
abbrev pub source_29 : Source
source_29 =
    source [] [] ((decl_item (decl_declaration
    (declaration [] (more_words (storage (record { token = 0; keyword = keywords.Typedef })) (more_words
    (basic (record { token = 1; keyword = keywords.Float })) no_words)) (more_init_declrs [] (declr_name 2 0) None
    ((record { keyword = 3; group = (record { first = 4; last = 11 }) }) ∷ []) no_init no_init_declrs) 12)))
    ∷ (decl_item (decl_declaration (declaration [] (more_words (typedef_name (record { token = 13; name = 0 }))
    no_words) (more_init_declrs [] (declr_name 14 1) None [] no_init no_init_declrs) 15))) ∷ (decl_item
    (decl_declaration (declaration [] (more_words (typeof_value 16 17 (index (name_use 18 1) 19 (number_use 20) 21) 22)
    no_words) (more_init_declrs [] (declr_name 23 2) None [] no_init no_init_declrs) 24)))
    ∷ (function_item [] (more_words (basic (record { token = 25; keyword = keywords.Void })) no_words) (params
    (declr_name 26 3) 27 (more_params (more_words (basic (record { token = 28; keyword = keywords.Void })) no_words)
    no_declr [] no_params) None 29) [] 30 (more_block_items
    (block_stmt (expr_stmt (some_expr (operation (index (name_use 31 1) 32 (number_use 33) 34) (assign signs.Equal) 35
    (index (name_use 36 1) 37 (number_use 38) 39))) 40)) (more_block_items (block_stmt (expr_stmt (some_expr
    (index (paren 41 (cast 42 (more_words (typedef_name (record { token = 43; name = 0 })) no_words) no_declr 44
    (name_use 45 1)) 46) 47 (number_use 48) 49)) 50)) (more_block_items (block_stmt (expr_stmt (some_expr
    (prefix 51 signs.Ampersand (index (name_use 52 1) 53 (number_use 54) 55))) 56)) no_block_items))) 57) ∷ [])

-- typedef float _Float32; typedef double _Float64; typedef long double _Float64x; _Float32 x;
abbrev pub source_30 : Source
source_30 =
    source [] [] ((decl_item
    (decl_declaration (declaration [] (more_words (storage (record { token = 0; keyword = keywords.Typedef }))
    (more_words (basic (record { token = 1; keyword = keywords.Float })) no_words))
    (more_init_declrs [] (base_name 2) None [] no_init no_init_declrs) 3))) ∷ (decl_item
    (decl_declaration (declaration [] (more_words (storage (record { token = 4; keyword = keywords.Typedef }))
    (more_words (basic (record { token = 5; keyword = keywords.Double })) no_words))
    (more_init_declrs [] (base_name 6) None [] no_init no_init_declrs) 7))) ∷ (decl_item
    (decl_declaration (declaration [] (more_words (storage (record { token = 8; keyword = keywords.Typedef }))
    (more_words (basic (record { token = 9; keyword = keywords.Long }))
    (more_words (basic (record { token = 10; keyword = keywords.Double })) no_words)))
    (more_init_declrs [] (base_name 11) None [] no_init no_init_declrs) 12))) ∷ (decl_item
    (decl_declaration (declaration [] (more_words (basic (record { token = 13; keyword = keywords.BaseWord })) no_words)
    (more_init_declrs [] (declr_name 14 0) None [] no_init no_init_declrs) 15))) ∷ [])

-- typedef struct s { int m; } _Float32; _Float32 x;
abbrev pub source_31 : Source
source_31 =
    source [] [] ((decl_item (decl_declaration
    (declaration [] (more_words (storage (record { token = 0; keyword = keywords.Typedef })) (more_words (struct_type
    (record { token = 1; keyword = keywords.Struct }) [] (Some (record { token = 2; name = 0 })) (some_body 3
    (more_struct_items (member [] (more_words (basic (record { token = 4; keyword = keywords.Int })) no_words)
    (more_mem_declrs [] (named (declr_name 5 1) no_value []) no_mem_declrs) 6) no_struct_items) 7)) no_words))
    (more_init_declrs [] (base_name 8) None [] no_init no_init_declrs) 9))) ∷ (decl_item
    (decl_declaration (declaration [] (more_words (basic (record { token = 10; keyword = keywords.BaseWord })) no_words)
    (more_init_declrs [] (declr_name 11 2) None [] no_init no_init_declrs) 12))) ∷ [])

-- typedef float _Float32, _Float64; typedef float _Float128[2]; _Float128 x;
abbrev pub source_32 : Source
source_32 =
    source [] [] ((decl_item
    (decl_declaration (declaration [] (more_words (storage (record { token = 0; keyword = keywords.Typedef }))
    (more_words (basic (record { token = 1; keyword = keywords.Float })) no_words)) (more_init_declrs []
    (base_name 2) None [] no_init (more_init_declrs [] (base_name 4) None [] no_init no_init_declrs)) 5))) ∷ (decl_item
    (decl_declaration (declaration [] (more_words (storage (record { token = 6; keyword = keywords.Typedef }))
    (more_words (basic (record { token = 7; keyword = keywords.Float })) no_words)) (more_init_declrs [] (array
    (base_name 8) 9 [] (some_size (size_value (number_use 10))) 11) None [] no_init no_init_declrs) 12))) ∷ (decl_item
    (decl_declaration (declaration [] (more_words (basic (record { token = 13; keyword = keywords.BaseWord })) no_words)
    (more_init_declrs [] (declr_name 14 0) None [] no_init no_init_declrs) 15))) ∷ [])

-- int f(a, b) char *b; int a; { return a; }
abbrev pub source_33 : Source
source_33 =
    source [] [] ((old_function_item [] (more_words (basic (record { token = 0; keyword = keywords.Int })) no_words)
    (identifiers (declr_name 1 0) 2 ((record { token = 3; name = 1 }) ∷ (record { token = 5; name = 2 }) ∷ []) 6) []
    ((declaration [] (more_words (basic (record { token = 7; keyword = keywords.Char })) no_words)
    (more_init_declrs [] (pointer 8 [] (declr_name 9 2)) None [] no_init no_init_declrs) 10)
    ∷ (declaration [] (more_words (basic (record { token = 11; keyword = keywords.Int })) no_words)
    (more_init_declrs [] (declr_name 12 1) None [] no_init no_init_declrs) 13) ∷ []) 14
    (more_block_items (block_stmt (return_stmt 15 (some_expr (name_use 16 1)) 17)) no_block_items) 18) ∷ [])

-- int f(a, b) int a, *b; { return a; }
abbrev pub source_34 : Source
source_34 =
    source [] [] ((old_function_item [] (more_words (basic (record { token = 0; keyword = keywords.Int })) no_words)
    (identifiers (declr_name 1 0) 2 ((record { token = 3; name = 1 }) ∷ (record { token = 5; name = 2 }) ∷ []) 6) []
    ((declaration [] (more_words (basic (record { token = 7; keyword = keywords.Int })) no_words)
    (more_init_declrs [] (declr_name 8 1) None [] no_init
    (more_init_declrs [] (pointer 10 [] (declr_name 11 2)) None [] no_init no_init_declrs)) 12) ∷ []) 13
    (more_block_items (block_stmt (return_stmt 14 (some_expr (name_use 15 1)) 16)) no_block_items) 17) ∷ [])

-- int f(a) int a[3]; { return *a; } int g(h) int h(); { return h(1); }
abbrev pub source_35 : Source
source_35 =
    source [] [] ((old_function_item [] (more_words (basic (record { token = 0; keyword = keywords.Int })) no_words)
    (identifiers (declr_name 1 0) 2 ((record { token = 3; name = 1 }) ∷ []) 4) []
    ((declaration [] (more_words (basic (record { token = 5; keyword = keywords.Int })) no_words) (more_init_declrs []
    (array (declr_name 6 1) 7 [] (some_size (size_value (number_use 8))) 9) None [] no_init no_init_declrs) 10) ∷ []) 11
    (more_block_items
    (block_stmt (return_stmt 12 (some_expr (prefix 13 signs.Star (name_use 14 1))) 15)) no_block_items) 16)
    ∷ (old_function_item [] (more_words (basic (record { token = 17; keyword = keywords.Int })) no_words)
    (identifiers (declr_name 18 2) 19 ((record { token = 20; name = 3 }) ∷ []) 21) []
    ((declaration [] (more_words (basic (record { token = 22; keyword = keywords.Int })) no_words)
    (more_init_declrs [] (params (declr_name 23 3) 24 no_params None 25) None [] no_init no_init_declrs) 26) ∷ []) 27
    (more_block_items (block_stmt (return_stmt 28
    (some_expr (call (name_use 29 3) 30 (more_exprs (number_use 31) no_exprs) 32)) 33)) no_block_items) 34) ∷ [])

-- typedef int T; int f(a, b) T a; struct q { int m; } *b; { struct q z; return b->m + z.m; }
abbrev pub source_36 : Source
source_36 =
    source [] [] ((decl_item
    (decl_declaration (declaration [] (more_words (storage (record { token = 0; keyword = keywords.Typedef }))
    (more_words (basic (record { token = 1; keyword = keywords.Int })) no_words))
    (more_init_declrs [] (declr_name 2 0) None [] no_init no_init_declrs) 3)))
    ∷ (old_function_item [] (more_words (basic (record { token = 4; keyword = keywords.Int })) no_words)
    (identifiers (declr_name 5 1) 6 ((record { token = 7; name = 2 }) ∷ (record { token = 9; name = 3 }) ∷ []) 10) []
    ((declaration [] (more_words (typedef_name (record { token = 11; name = 0 })) no_words) (more_init_declrs []
    (declr_name 12 2) None [] no_init no_init_declrs) 13) ∷ (declaration [] (more_words (struct_type
    (record { token = 14; keyword = keywords.Struct }) [] (Some (record { token = 15; name = 4 })) (some_body 16
    (more_struct_items (member [] (more_words (basic (record { token = 17; keyword = keywords.Int })) no_words)
    (more_mem_declrs [] (named (declr_name 18 5) no_value []) no_mem_declrs) 19) no_struct_items) 20)) no_words)
    (more_init_declrs [] (pointer 21 [] (declr_name 22 3)) None [] no_init no_init_declrs) 23) ∷ []) 24
    (more_block_items (block_decl (decl_declaration (declaration [] (more_words (struct_type
    (record { token = 25; keyword = keywords.Struct }) [] (Some (record { token = 26; name = 4 })) no_body) no_words)
    (more_init_declrs [] (declr_name 27 6) None [] no_init no_init_declrs) 28))) (more_block_items
    (block_stmt (return_stmt 29 (some_expr (operation (arrow (name_use 30 3) 31 (record { token = 32; name = 5 }))
    (binary signs.Plus) 33 (dot (name_use 34 6) 35 (record { token = 36; name = 5 })))) 37)) no_block_items)) 38) ∷ [])

-- int (*f(a))(int) int a; { return 0; }
abbrev pub source_37 : Source
source_37 =
    source [] (16 ∷ [])
    ((old_function_item [] (more_words (basic (record { token = 0; keyword = keywords.Int })) no_words) (params
    (declr_paren 1 [] (pointer 2 [] (identifiers (declr_name 3 0) 4 ((record { token = 5; name = 1 }) ∷ []) 6)) 7) 8
    (more_params (more_words (basic (record { token = 9; keyword = keywords.Int })) no_words) no_declr [] no_params)
    None 10) [] ((declaration [] (more_words (basic (record { token = 11; keyword = keywords.Int })) no_words)
    (more_init_declrs [] (declr_name 12 1) None [] no_init no_init_declrs) 13) ∷ []) 14
    (more_block_items (block_stmt (return_stmt 15 (some_expr (number_use 16)) 17)) no_block_items) 18) ∷ [])

-- int (f)(a) int a; { return a; } int (*(g)(a)) int a; { return 0; }
abbrev pub source_38 : Source
source_38 =
    source [] (30 ∷ [])
    ((old_function_item [] (more_words (basic (record { token = 0; keyword = keywords.Int })) no_words)
    (identifiers (declr_paren 1 [] (declr_name 2 0) 3) 4 ((record { token = 5; name = 1 }) ∷ []) 6) []
    ((declaration [] (more_words (basic (record { token = 7; keyword = keywords.Int })) no_words)
    (more_init_declrs [] (declr_name 8 1) None [] no_init no_init_declrs) 9) ∷ []) 10 (more_block_items
    (block_stmt (return_stmt 11 (some_expr (name_use 12 1)) 13)) no_block_items) 14) ∷ (old_function_item []
    (more_words (basic (record { token = 15; keyword = keywords.Int })) no_words) (declr_paren 16 [] (pointer 17 []
    (identifiers (declr_paren 18 [] (declr_name 19 2) 20) 21 ((record { token = 22; name = 1 }) ∷ []) 23)) 24) []
    ((declaration [] (more_words (basic (record { token = 25; keyword = keywords.Int })) no_words)
    (more_init_declrs [] (declr_name 26 1) None [] no_init no_init_declrs) 27) ∷ []) 28
    (more_block_items (block_stmt (return_stmt 29 (some_expr (number_use 30)) 31)) no_block_items) 32) ∷ [])

-- int f(a) int a; { int b = a; { int a = b; } return f(a); }
abbrev pub source_39 : Source
source_39 =
    source [] [] ((old_function_item [] (more_words (basic (record { token = 0; keyword = keywords.Int })) no_words)
    (identifiers (declr_name 1 0) 2 ((record { token = 3; name = 1 }) ∷ []) 4) []
    ((declaration [] (more_words (basic (record { token = 5; keyword = keywords.Int })) no_words)
    (more_init_declrs [] (declr_name 6 1) None [] no_init no_init_declrs) 7) ∷ []) 8 (more_block_items (block_decl
    (decl_declaration (declaration [] (more_words (basic (record { token = 9; keyword = keywords.Int })) no_words)
    (more_init_declrs [] (declr_name 10 2) None [] (some_init 11 (init_value (name_use 12 1))) no_init_declrs) 13)))
    (more_block_items (block_stmt (block 14 (more_block_items (block_decl (decl_declaration
    (declaration [] (more_words (basic (record { token = 15; keyword = keywords.Int })) no_words) (more_init_declrs []
    (declr_name 16 1) None [] (some_init 17 (init_value (name_use 18 2))) no_init_declrs) 19))) no_block_items) 20))
    (more_block_items (block_stmt (return_stmt 21
    (some_expr (call (name_use 22 0) 23 (more_exprs (name_use 24 1) no_exprs) 25)) 26)) no_block_items))) 27) ∷ [])

-- int f(); int g(void) { return f(1, 2); } int f(a, b) int a, b; { return b; }
abbrev pub source_40 : Source
source_40 =
    source [] [] ((decl_item
    (decl_declaration (declaration [] (more_words (basic (record { token = 0; keyword = keywords.Int })) no_words)
    (more_init_declrs [] (params (declr_name 1 0) 2 no_params None 3) None [] no_init no_init_declrs) 4)))
    ∷ (function_item [] (more_words (basic (record { token = 5; keyword = keywords.Int })) no_words) (params
    (declr_name 6 1) 7 (more_params (more_words (basic (record { token = 8; keyword = keywords.Void })) no_words)
    no_declr [] no_params) None 9) [] 10 (more_block_items (block_stmt (return_stmt 11 (some_expr (call
    (name_use 12 0) 13 (more_exprs (number_use 14) (more_exprs (number_use 16) no_exprs)) 17)) 18)) no_block_items) 19)
    ∷ (old_function_item [] (more_words (basic (record { token = 20; keyword = keywords.Int })) no_words)
    (identifiers (declr_name 21 0) 22 ((record { token = 23; name = 2 }) ∷ (record { token = 25; name = 3 }) ∷ []) 26)
    [] ((declaration [] (more_words (basic (record { token = 27; keyword = keywords.Int })) no_words) (more_init_declrs
    [] (declr_name 28 2) None [] no_init (more_init_declrs [] (declr_name 30 3) None [] no_init no_init_declrs)) 31)
    ∷ []) 32 (more_block_items (block_stmt (return_stmt 33 (some_expr (name_use 34 3)) 35)) no_block_items) 36) ∷ [])

-- int f(int, int); int f(a, b) int a, b; { return b; }
abbrev pub source_41 : Source
source_41 =
    source [] [] ((decl_item (decl_declaration
    (declaration [] (more_words (basic (record { token = 0; keyword = keywords.Int })) no_words) (more_init_declrs []
    (params (declr_name 1 0) 2 (more_params (more_words (basic (record { token = 3; keyword = keywords.Int })) no_words)
    no_declr [] (more_params (more_words (basic (record { token = 5; keyword = keywords.Int })) no_words) no_declr
    [] no_params)) None 6) None [] no_init no_init_declrs) 7)))
    ∷ (old_function_item [] (more_words (basic (record { token = 8; keyword = keywords.Int })) no_words)
    (identifiers (declr_name 9 0) 10 ((record { token = 11; name = 1 }) ∷ (record { token = 13; name = 2 }) ∷ []) 14) []
    ((declaration [] (more_words (basic (record { token = 15; keyword = keywords.Int })) no_words) (more_init_declrs []
    (declr_name 16 1) None [] no_init (more_init_declrs [] (declr_name 18 2) None [] no_init no_init_declrs)) 19)
    ∷ []) 20 (more_block_items (block_stmt (return_stmt 21 (some_expr (name_use 22 2)) 23)) no_block_items) 24) ∷ [])

-- int f(a, b) int a; char b[sizeof(a)]; { return *b; }
abbrev pub source_42 : Source
source_42 =
    source [] [] ((old_function_item [] (more_words (basic (record { token = 0; keyword = keywords.Int })) no_words)
    (identifiers (declr_name 1 0) 2 ((record { token = 3; name = 1 }) ∷ (record { token = 5; name = 2 }) ∷ []) 6) []
    ((declaration [] (more_words (basic (record { token = 7; keyword = keywords.Int })) no_words)
    (more_init_declrs [] (declr_name 8 1) None [] no_init no_init_declrs) 9) ∷ (declaration []
    (more_words (basic (record { token = 10; keyword = keywords.Char })) no_words) (more_init_declrs [] (array
    (declr_name 11 2) 12 [] (some_size (size_value (sizeof_value (record { token = 13; keyword = keywords.Sizeof })
    (paren 14 (name_use 15 1) 16)))) 17) None [] no_init no_init_declrs) 18) ∷ []) 19 (more_block_items
    (block_stmt (return_stmt 20 (some_expr (prefix 21 signs.Star (name_use 22 2))) 23)) no_block_items) 24) ∷ [])

-- int f(a) int a = 1; { return a; }
abbrev pub source_43 : Source
source_43 =
    source [] [] ((old_function_item [] (more_words (basic (record { token = 0; keyword = keywords.Int })) no_words)
    (identifiers (declr_name 1 0) 2 ((record { token = 3; name = 1 }) ∷ []) 4) []
    ((declaration [] (more_words (basic (record { token = 5; keyword = keywords.Int })) no_words)
    (more_init_declrs [] (declr_name 6 1) None [] (some_init 7 (init_value (number_use 8))) no_init_declrs) 9) ∷ []) 10
    (more_block_items (block_stmt (return_stmt 11 (some_expr (name_use 12 1)) 13)) no_block_items) 14) ∷ [])

-- int x, y; int *p; $tainted int t; $untainted int u; struct s { int a; int *b; } v, *w; int g(int); void f(void) {
-- __auto_type a = x; __auto_type b = p; __auto_type c = v; __auto_type d = g; const __auto_type e = &p; __auto_type k =
-- "x"; }
abbrev pub source_44 : Source
source_44 =
    source (9 ∷ 13 ∷ []) [] ((decl_item (decl_declaration
    (declaration [] (more_words (basic (record { token = 0; keyword = keywords.Int })) no_words) (more_init_declrs []
    (declr_name 1 0) None [] no_init (more_init_declrs [] (declr_name 3 1) None [] no_init no_init_declrs)) 4)))
    ∷ (decl_item (decl_declaration (declaration [] (more_words (basic (record { token = 5; keyword = keywords.Int }))
    no_words) (more_init_declrs [] (pointer 6 [] (declr_name 7 2)) None [] no_init no_init_declrs) 8)))
    ∷ (decl_item (decl_declaration (declaration [] (more_words (qualifier (quals.Element 9))
    (more_words (basic (record { token = 10; keyword = keywords.Int })) no_words)) (more_init_declrs []
    (declr_name 11 3) None [] no_init no_init_declrs) 12))) ∷ (decl_item (decl_declaration (declaration [] (more_words
    (qualifier (quals.Element 13)) (more_words (basic (record { token = 14; keyword = keywords.Int })) no_words))
    (more_init_declrs [] (declr_name 15 4) None [] no_init no_init_declrs) 16)))
    ∷ (decl_item (decl_declaration (declaration [] (more_words (struct_type
    (record { token = 17; keyword = keywords.Struct }) [] (Some (record { token = 18; name = 5 })) (some_body 19
    (more_struct_items (member [] (more_words (basic (record { token = 20; keyword = keywords.Int })) no_words)
    (more_mem_declrs [] (named (declr_name 21 6) no_value []) no_mem_declrs) 22) (more_struct_items
    (member [] (more_words (basic (record { token = 23; keyword = keywords.Int })) no_words) (more_mem_declrs []
    (named (pointer 24 [] (declr_name 25 7)) no_value []) no_mem_declrs) 26) no_struct_items)) 27)) no_words)
    (more_init_declrs [] (declr_name 28 8) None [] no_init (more_init_declrs [] (pointer 30 [] (declr_name 31 9)) None
    [] no_init no_init_declrs)) 32))) ∷ (decl_item (decl_declaration (declaration []
    (more_words (basic (record { token = 33; keyword = keywords.Int })) no_words) (more_init_declrs [] (params
    (declr_name 34 10) 35 (more_params (more_words (basic (record { token = 36; keyword = keywords.Int })) no_words)
    no_declr [] no_params) None 37) None [] no_init no_init_declrs) 38))) ∷ (function_item []
    (more_words (basic (record { token = 39; keyword = keywords.Void })) no_words) (params (declr_name 40 11) 41
    (more_params (more_words (basic (record { token = 42; keyword = keywords.Void })) no_words) no_declr [] no_params)
    None 43) [] 44 (more_block_items (block_decl (decl_declaration (declaration [] (more_words (auto_word 45) no_words)
    (more_init_declrs [] (declr_name 46 6) None [] (some_init 47 (init_value (name_use 48 0))) no_init_declrs) 49)))
    (more_block_items (block_decl (decl_declaration (declaration [] (more_words (auto_word 50) no_words)
    (more_init_declrs [] (declr_name 51 7) None [] (some_init 52 (init_value (name_use 53 2))) no_init_declrs) 54)))
    (more_block_items (block_decl (decl_declaration (declaration [] (more_words (auto_word 55) no_words)
    (more_init_declrs [] (declr_name 56 12) None [] (some_init 57 (init_value (name_use 58 8))) no_init_declrs) 59)))
    (more_block_items (block_decl (decl_declaration (declaration [] (more_words (auto_word 60) no_words)
    (more_init_declrs [] (declr_name 61 13) None [] (some_init 62 (init_value (name_use 63 10))) no_init_declrs) 64)))
    (more_block_items (block_decl (decl_declaration
    (declaration [] (more_words (qualifier (quals.Word (record { token = 65; keyword = keywords.Const })))
    (more_words (auto_word 66) no_words)) (more_init_declrs [] (declr_name 67 14) None [] (some_init 68
    (init_value (prefix 69 signs.Ampersand (name_use 70 2)))) no_init_declrs) 71))) (more_block_items (block_decl
    (decl_declaration (declaration [] (more_words (auto_word 72) no_words) (more_init_declrs [] (declr_name 73 15) None
    [] (some_init 74 (init_value (text_use (75 ∷ [])))) no_init_declrs) 76))) no_block_items)))))) 77) ∷ [])

-- int x; void f(void) { __auto_type x = &x; }
abbrev pub source_45 : Source
source_45 =
    source [] [] ((decl_item
    (decl_declaration (declaration [] (more_words (basic (record { token = 0; keyword = keywords.Int })) no_words)
    (more_init_declrs [] (declr_name 1 0) None [] no_init no_init_declrs) 2)))
    ∷ (function_item [] (more_words (basic (record { token = 3; keyword = keywords.Void })) no_words) (params
    (declr_name 4 1) 5 (more_params (more_words (basic (record { token = 6; keyword = keywords.Void })) no_words)
    no_declr [] no_params) None 7) [] 8 (more_block_items (block_decl (decl_declaration
    (declaration [] (more_words (auto_word 9) no_words) (more_init_declrs [] (declr_name 10 0) None [] (some_init 11
    (init_value (prefix 12 signs.Ampersand (name_use 13 0)))) no_init_declrs) 14))) no_block_items) 15) ∷ [])

-- int x; __auto_type y = 1; static __auto_type z = 2;
abbrev pub source_46 : Source
source_46 =
    source [] [] ((decl_item
    (decl_declaration (declaration [] (more_words (basic (record { token = 0; keyword = keywords.Int })) no_words)
    (more_init_declrs [] (declr_name 1 0) None [] no_init no_init_declrs) 2)))
    ∷ (decl_item (decl_declaration (declaration [] (more_words (auto_word 3) no_words)
    (more_init_declrs [] (declr_name 4 1) None [] (some_init 5 (init_value (number_use 6))) no_init_declrs) 7)))
    ∷ (decl_item (decl_declaration (declaration [] (more_words
    (storage (record { token = 8; keyword = keywords.Static })) (more_words (auto_word 9) no_words)) (more_init_declrs
    [] (declr_name 10 2) None [] (some_init 11 (init_value (number_use 12))) no_init_declrs) 13))) ∷ [])

-- int x, y; int *p; $tainted int t; $untainted int u; struct s { int a; int *b; } v, *w; int g(int); void f(void) { for
-- (__auto_type i = p; *i; i++) ; __auto_type z __attribute__((unused)) = ({ __auto_type q = p; *q; }); }
abbrev pub source_47 : Source
source_47 =
    source (9 ∷ 13 ∷ []) [] ((decl_item (decl_declaration
    (declaration [] (more_words (basic (record { token = 0; keyword = keywords.Int })) no_words) (more_init_declrs []
    (declr_name 1 0) None [] no_init (more_init_declrs [] (declr_name 3 1) None [] no_init no_init_declrs)) 4)))
    ∷ (decl_item (decl_declaration (declaration [] (more_words (basic (record { token = 5; keyword = keywords.Int }))
    no_words) (more_init_declrs [] (pointer 6 [] (declr_name 7 2)) None [] no_init no_init_declrs) 8)))
    ∷ (decl_item (decl_declaration (declaration [] (more_words (qualifier (quals.Element 9))
    (more_words (basic (record { token = 10; keyword = keywords.Int })) no_words)) (more_init_declrs []
    (declr_name 11 3) None [] no_init no_init_declrs) 12))) ∷ (decl_item (decl_declaration (declaration [] (more_words
    (qualifier (quals.Element 13)) (more_words (basic (record { token = 14; keyword = keywords.Int })) no_words))
    (more_init_declrs [] (declr_name 15 4) None [] no_init no_init_declrs) 16)))
    ∷ (decl_item (decl_declaration (declaration [] (more_words (struct_type
    (record { token = 17; keyword = keywords.Struct }) [] (Some (record { token = 18; name = 5 })) (some_body 19
    (more_struct_items (member [] (more_words (basic (record { token = 20; keyword = keywords.Int })) no_words)
    (more_mem_declrs [] (named (declr_name 21 6) no_value []) no_mem_declrs) 22) (more_struct_items
    (member [] (more_words (basic (record { token = 23; keyword = keywords.Int })) no_words) (more_mem_declrs []
    (named (pointer 24 [] (declr_name 25 7)) no_value []) no_mem_declrs) 26) no_struct_items)) 27)) no_words)
    (more_init_declrs [] (declr_name 28 8) None [] no_init (more_init_declrs [] (pointer 30 [] (declr_name 31 9)) None
    [] no_init no_init_declrs)) 32))) ∷ (decl_item (decl_declaration (declaration []
    (more_words (basic (record { token = 33; keyword = keywords.Int })) no_words) (more_init_declrs [] (params
    (declr_name 34 10) 35 (more_params (more_words (basic (record { token = 36; keyword = keywords.Int })) no_words)
    no_declr [] no_params) None 37) None [] no_init no_init_declrs) 38)))
    ∷ (function_item [] (more_words (basic (record { token = 39; keyword = keywords.Void })) no_words) (params
    (declr_name 40 11) 41 (more_params (more_words (basic (record { token = 42; keyword = keywords.Void })) no_words)
    no_declr [] no_params) None 43) [] 44 (more_block_items (block_stmt (for_stmt 45 46 (start_declaration
    (declaration [] (more_words (auto_word 47) no_words) (more_init_declrs [] (declr_name 48 12) None []
    (some_init 49 (init_value (name_use 50 2))) no_init_declrs) 51)) (some_expr (prefix 52 signs.Star (name_use 53 12)))
    54 (some_expr (post (name_use 55 12) 56 signs.PlusPlus)) 57 (expr_stmt no_expr 58)))
    (more_block_items (block_decl (decl_declaration (declaration [] (more_words (auto_word 59) no_words)
    (more_init_declrs [] (declr_name 60 13) None ((record { keyword = 61; group = (record { first = 62; last = 66 }) })
    ∷ []) (some_init 67 (init_value (statement_expr 68 69 (more_block_items (block_decl
    (decl_declaration (declaration [] (more_words (auto_word 70) no_words) (more_init_declrs [] (declr_name 71 14) None
    [] (some_init 72 (init_value (name_use 73 2))) no_init_declrs) 74))) (more_block_items (block_stmt
    (expr_stmt (some_expr (prefix 75 signs.Star (name_use 76 14))) 77)) no_block_items)) 78 79))) no_init_declrs) 80)))
    no_block_items)) 81) ∷ [])

-- int a[] = { [0 ... 3] = 1, [4] = 2, [5 ... 6] = 3 }; struct s { int m; int *b[4]; } v = { .m = 1, .b = { [1 ... 2] =
-- 0 } }; struct s z[3] = { [0 ... 1].m = 1 };
abbrev pub source_48 : Source
source_48 =
    source [] (7 ∷ 61 ∷ 74 ∷ []) ((decl_item
    (decl_declaration (declaration [] (more_words (basic (record { token = 0; keyword = keywords.Int })) no_words)
    (more_init_declrs [] (array (declr_name 1 0) 2 [] no_size 3) None [] (some_init 4 (init_braced
    (init_list 5 (more_init_items (more_desigs (range_desig 6 (number_use 7) 8 (number_use 9) 10) no_desigs) (Some 11)
    (init_value (number_use 12)) (more_init_items (more_desigs (index_desig 14 (number_use 15) 16) no_desigs) (Some 17)
    (init_value (number_use 18)) (more_init_items (more_desigs (range_desig 20 (number_use 21) 22 (number_use 23) 24)
    no_desigs) (Some 25) (init_value (number_use 26)) no_init_items))) None 27))) no_init_declrs) 28)))
    ∷ (decl_item (decl_declaration (declaration [] (more_words (struct_type
    (record { token = 29; keyword = keywords.Struct }) [] (Some (record { token = 30; name = 1 })) (some_body 31
    (more_struct_items (member [] (more_words (basic (record { token = 32; keyword = keywords.Int })) no_words)
    (more_mem_declrs [] (named (declr_name 33 2) no_value []) no_mem_declrs) 34) (more_struct_items
    (member [] (more_words (basic (record { token = 35; keyword = keywords.Int })) no_words) (more_mem_declrs []
    (named (pointer 36 [] (array (declr_name 37 3) 38 [] (some_size (size_value (number_use 39))) 40)) no_value
    []) no_mem_declrs) 41) no_struct_items)) 42)) no_words)
    (more_init_declrs [] (declr_name 43 4) None [] (some_init 44 (init_braced (init_list 45 (more_init_items
    (more_desigs (member_desig 46 (record { token = 47; name = 2 })) no_desigs) (Some 48) (init_value (number_use 49))
    (more_init_items (more_desigs (member_desig 51 (record { token = 52; name = 3 })) no_desigs) (Some 53) (init_braced
    (init_list 54 (more_init_items (more_desigs (range_desig 55 (number_use 56) 57 (number_use 58) 59) no_desigs)
    (Some 60) (init_value (number_use 61)) no_init_items) None 62)) no_init_items)) None 63))) no_init_declrs) 64)))
    ∷ (decl_item (decl_declaration (declaration [] (more_words (struct_type
    (record { token = 65; keyword = keywords.Struct }) [] (Some (record { token = 66; name = 1 })) no_body) no_words)
    (more_init_declrs [] (array (declr_name 67 5) 68 [] (some_size (size_value (number_use 69))) 70) None [] (some_init
    71 (init_braced (init_list 72 (more_init_items (more_desigs (range_desig 73 (number_use 74) 75 (number_use 76) 77)
    (more_desigs (member_desig 78 (record { token = 79; name = 2 })) no_desigs)) (Some 80)
    (init_value (number_use 81)) no_init_items) None 82))) no_init_declrs) 83))) ∷ [])

-- struct s { int m; int *b; } v = { m: 1, b: 0 }; struct s w = { b: 0, 1 }; union u { int i; char *c; } x = { c: 0 };
abbrev pub source_49 : Source
source_49 =
    source [] (20 ∷ 30 ∷ 51 ∷ []) ((decl_item (decl_declaration (declaration [] (more_words (struct_type
    (record { token = 0; keyword = keywords.Struct }) [] (Some (record { token = 1; name = 0 })) (some_body 2
    (more_struct_items (member [] (more_words (basic (record { token = 3; keyword = keywords.Int })) no_words)
    (more_mem_declrs [] (named (declr_name 4 1) no_value []) no_mem_declrs) 5) (more_struct_items
    (member [] (more_words (basic (record { token = 6; keyword = keywords.Int })) no_words) (more_mem_declrs []
    (named (pointer 7 [] (declr_name 8 2)) no_value []) no_mem_declrs) 9) no_struct_items)) 10)) no_words)
    (more_init_declrs [] (declr_name 11 3) None [] (some_init 12 (init_braced (init_list 13 (more_init_items
    (more_desigs (old_desig (record { token = 14; name = 1 }) 15) no_desigs) None (init_value (number_use 16))
    (more_init_items (more_desigs (old_desig (record { token = 18; name = 2 }) 19) no_desigs) None
    (init_value (number_use 20)) no_init_items)) None 21))) no_init_declrs) 22)))
    ∷ (decl_item (decl_declaration (declaration [] (more_words (struct_type
    (record { token = 23; keyword = keywords.Struct }) [] (Some (record { token = 24; name = 0 })) no_body) no_words)
    (more_init_declrs [] (declr_name 25 4) None [] (some_init 26 (init_braced (init_list 27 (more_init_items
    (more_desigs (old_desig (record { token = 28; name = 2 }) 29) no_desigs) None (init_value (number_use 30))
    (more_init_items no_desigs None (init_value (number_use 32)) no_init_items)) None 33))) no_init_declrs) 34)))
    ∷ (decl_item (decl_declaration (declaration [] (more_words (struct_type
    (record { token = 35; keyword = keywords.Union }) [] (Some (record { token = 36; name = 5 })) (some_body 37
    (more_struct_items (member [] (more_words (basic (record { token = 38; keyword = keywords.Int })) no_words)
    (more_mem_declrs [] (named (declr_name 39 6) no_value []) no_mem_declrs) 40) (more_struct_items
    (member [] (more_words (basic (record { token = 41; keyword = keywords.Char })) no_words) (more_mem_declrs []
    (named (pointer 42 [] (declr_name 43 7)) no_value []) no_mem_declrs) 44) no_struct_items)) 45)) no_words)
    (more_init_declrs [] (declr_name 46 8) None [] (some_init 47 (init_braced
    (init_list 48 (more_init_items (more_desigs (old_desig (record { token = 49; name = 7 }) 50) no_desigs) None
    (init_value (number_use 51)) no_init_items) None 52))) no_init_declrs) 53))) ∷ [])

-- int x; void f(void) { switch (x) { case 1 ... 5: x = 2; case 'a' ... 'z': case sizeof(x) ... 9: default: ; } }
abbrev pub source_50 : Source
source_50 =
    source [] [] ((decl_item
    (decl_declaration (declaration [] (more_words (basic (record { token = 0; keyword = keywords.Int })) no_words)
    (more_init_declrs [] (declr_name 1 0) None [] no_init no_init_declrs) 2)))
    ∷ (function_item [] (more_words (basic (record { token = 3; keyword = keywords.Void })) no_words) (params
    (declr_name 4 1) 5 (more_params (more_words (basic (record { token = 6; keyword = keywords.Void })) no_words)
    no_declr [] no_params) None 7) [] 8 (more_block_items (block_stmt
    (switch_stmt 9 10 (name_use 11 0) 12 (block 13 (more_block_items (block_stmt (case_range 14 (number_use 15) 16
    (number_use 17) 18 (expr_stmt (some_expr (operation (name_use 19 0) (assign signs.Equal) 20 (number_use 21))) 22)))
    (more_block_items (block_stmt (case_range 23 (char_use 24) 25 (char_use 26) 27
    (case_range 28 (sizeof_value (record { token = 29; keyword = keywords.Sizeof }) (paren 30 (name_use 31 0) 32)) 33
    (number_use 34) 35 (default_stmt 36 37 (expr_stmt no_expr 38))))) no_block_items)) 39))) no_block_items) 40) ∷ [])

-- void f(void) { __label__ a, b; __label__ c; a: b: c: ; int x = ({ __label__ d; d: 1; }); }
abbrev pub source_51 : Source
source_51 =
    source [] [] ((function_item [] (more_words (basic (record { token = 0; keyword = keywords.Void })) no_words)
    (params (declr_name 1 0) 2 (more_params
    (more_words (basic (record { token = 3; keyword = keywords.Void })) no_words) no_declr [] no_params) None 4) [] 5
    (more_block_items (block_labels 6 ((record { token = 7; name = 1 }) ∷ (record { token = 9; name = 2 }) ∷ []) 10)
    (more_block_items (block_labels 11 ((record { token = 12; name = 3 }) ∷ []) 13) (more_block_items
    (block_stmt (label (record { token = 14; name = 1 }) 15 [] (label (record { token = 16; name = 2 }) 17 []
    (label (record { token = 18; name = 3 }) 19 [] (expr_stmt no_expr 20))))) (more_block_items (block_decl
    (decl_declaration (declaration [] (more_words (basic (record { token = 21; keyword = keywords.Int })) no_words)
    (more_init_declrs [] (declr_name 22 4) None [] (some_init 23 (init_value (statement_expr 24 25
    (more_block_items (block_labels 26 ((record { token = 27; name = 5 }) ∷ []) 28) (more_block_items (block_stmt (label
    (record { token = 29; name = 5 }) 30 [] (expr_stmt (some_expr (number_use 31)) 32))) no_block_items)) 33 34)))
    no_init_declrs) 35))) no_block_items)))) 36) ∷ [])

-- extern inline int f(int x) { return x; } int f(int x) { return x; }
abbrev pub source_52 : Source
source_52 =
    source [] [] ((function_item [] (more_words (storage (record { token = 0; keyword = keywords.Extern }))
    (more_words (inline_word 1) (more_words (basic (record { token = 2; keyword = keywords.Int })) no_words)))
    (params (declr_name 3 0) 4 (more_params (more_words (basic (record { token = 5; keyword = keywords.Int })) no_words)
    (some_declr (declr_name 6 1)) [] no_params) None 7) [] 8
    (more_block_items (block_stmt (return_stmt 9 (some_expr (name_use 10 1)) 11)) no_block_items) 12)
    ∷ (function_item [] (more_words (basic (record { token = 13; keyword = keywords.Int })) no_words) (params
    (declr_name 14 0) 15 (more_params (more_words (basic (record { token = 16; keyword = keywords.Int })) no_words)
    (some_declr (declr_name 17 1)) [] no_params) None 18) [] 19
    (more_block_items (block_stmt (return_stmt 20 (some_expr (name_use 21 1)) 22)) no_block_items) 23) ∷ [])

-- typeof(u) x;
abbrev pub source_53 : Source
source_53 =
    source [] [] ((decl_item (decl_declaration (declaration [] (more_words (typeof_value 0 1 (name_use 2 0) 3) no_words)
    (more_init_declrs [] (declr_name 4 1) None [] no_init no_init_declrs) 5))) ∷ [])

-- int x; typeof(*x) y;
abbrev pub source_54 : Source
source_54 =
    source [] [] ((decl_item
    (decl_declaration (declaration [] (more_words (basic (record { token = 0; keyword = keywords.Int })) no_words)
    (more_init_declrs [] (declr_name 1 0) None [] no_init no_init_declrs) 2))) ∷ (decl_item
    (decl_declaration (declaration [] (more_words (typeof_value 3 4 (prefix 5 signs.Star (name_use 6 0)) 7) no_words)
    (more_init_declrs [] (declr_name 8 1) None [] no_init no_init_declrs) 9))) ∷ [])

-- struct s; struct s *p; typeof(p->a) y; struct s { int a; };
abbrev pub source_55 : Source
source_55 =
    source [] [] ((decl_item
    (decl_declaration (declaration [] (more_words (struct_type (record { token = 0; keyword = keywords.Struct }) []
    (Some (record { token = 1; name = 0 })) no_body) no_words) no_init_declrs 2)))
    ∷ (decl_item (decl_declaration (declaration [] (more_words (struct_type
    (record { token = 3; keyword = keywords.Struct }) [] (Some (record { token = 4; name = 0 })) no_body) no_words)
    (more_init_declrs [] (pointer 5 [] (declr_name 6 1)) None [] no_init no_init_declrs) 7)))
    ∷ (decl_item (decl_declaration (declaration []
    (more_words (typeof_value 8 9 (arrow (name_use 10 1) 11 (record { token = 12; name = 2 })) 13) no_words)
    (more_init_declrs [] (declr_name 14 3) None [] no_init no_init_declrs) 15))) ∷ (decl_item
    (decl_declaration (declaration [] (more_words (struct_type (record { token = 16; keyword = keywords.Struct }) []
    (Some (record { token = 17; name = 0 })) (some_body 18 (more_struct_items
    (member [] (more_words (basic (record { token = 19; keyword = keywords.Int })) no_words) (more_mem_declrs []
    (named (declr_name 20 2) no_value []) no_mem_declrs) 21) no_struct_items) 22)) no_words) no_init_declrs 23))) ∷ [])

-- struct s { int a; typeof(((struct s *)0)->b) c; int b; };
abbrev pub source_56 : Source
source_56 =
    source [] (14 ∷ []) ((decl_item (decl_declaration (declaration [] (more_words (struct_type
    (record { token = 0; keyword = keywords.Struct }) [] (Some (record { token = 1; name = 0 })) (some_body 2
    (more_struct_items (member [] (more_words (basic (record { token = 3; keyword = keywords.Int })) no_words)
    (more_mem_declrs [] (named (declr_name 4 1) no_value []) no_mem_declrs) 5)
    (more_struct_items (member [] (more_words (typeof_value 6 7 (arrow (paren 8 (cast 9 (more_words (struct_type
    (record { token = 10; keyword = keywords.Struct }) [] (Some (record { token = 11; name = 0 })) no_body) no_words)
    (some_declr (abs_pointer 12 [] no_declr)) 13 (number_use 14)) 15) 16 (record { token = 17; name = 2 })) 18)
    no_words) (more_mem_declrs [] (named (declr_name 19 3) no_value []) no_mem_declrs) 20) (more_struct_items
    (member [] (more_words (basic (record { token = 21; keyword = keywords.Int })) no_words) (more_mem_declrs [] (named
    (declr_name 22 2) no_value []) no_mem_declrs) 23) no_struct_items))) 24)) no_words) no_init_declrs 25))) ∷ [])

-- int y; void f(void) { *(typeof(u))y; }
abbrev pub source_57 : Source
source_57 =
    source [] [] ((decl_item
    (decl_declaration (declaration [] (more_words (basic (record { token = 0; keyword = keywords.Int })) no_words)
    (more_init_declrs [] (declr_name 1 0) None [] no_init no_init_declrs) 2))) ∷ (function_item []
    (more_words (basic (record { token = 3; keyword = keywords.Void })) no_words) (params (declr_name 4 1) 5
    (more_params (more_words (basic (record { token = 6; keyword = keywords.Void })) no_words) no_declr [] no_params)
    None 7) [] 8 (more_block_items (block_stmt (expr_stmt (some_expr (prefix 9 signs.Star (cast 10 (more_words
    (typeof_value 11 12 (name_use 13 2) 14) no_words) no_declr 15 (name_use 16 0)))) 17)) no_block_items) 18) ∷ [])

-- void f(void) { __auto_type a = u; }
abbrev pub source_58 : Source
source_58 =
    source [] [] ((function_item [] (more_words (basic (record { token = 0; keyword = keywords.Void })) no_words)
    (params (declr_name 1 0) 2 (more_params (more_words (basic
    (record { token = 3; keyword = keywords.Void })) no_words) no_declr [] no_params) None 4) [] 5 (more_block_items
    (block_decl (decl_declaration (declaration [] (more_words (auto_word 6) no_words) (more_init_declrs []
    (declr_name 7 1) None [] (some_init 8 (init_value (name_use 9 2))) no_init_declrs) 10))) no_block_items) 11) ∷ [])

-- struct s *p; void f(void) { __auto_type a = p->m; } struct s { int m; };
abbrev pub source_59 : Source
source_59 =
    source [] [] ((decl_item (decl_declaration (declaration [] (more_words (struct_type
    (record { token = 0; keyword = keywords.Struct }) [] (Some (record { token = 1; name = 0 })) no_body) no_words)
    (more_init_declrs [] (pointer 2 [] (declr_name 3 1)) None [] no_init no_init_declrs) 4)))
    ∷ (function_item [] (more_words (basic (record { token = 5; keyword = keywords.Void })) no_words) (params
    (declr_name 6 2) 7 (more_params (more_words (basic (record { token = 8; keyword = keywords.Void })) no_words)
    no_declr [] no_params) None 9) [] 10 (more_block_items (block_decl (decl_declaration
    (declaration [] (more_words (auto_word 11) no_words) (more_init_declrs [] (declr_name 12 3) None [] (some_init 13
    (init_value (arrow (name_use 14 1) 15 (record { token = 16; name = 4 })))) no_init_declrs) 17))) no_block_items) 18)
    ∷ (decl_item (decl_declaration (declaration [] (more_words (struct_type
    (record { token = 19; keyword = keywords.Struct }) [] (Some (record { token = 20; name = 0 })) (some_body 21
    (more_struct_items (member [] (more_words (basic (record { token = 22; keyword = keywords.Int })) no_words)
    (more_mem_declrs [] (named (declr_name 23 4) no_value []) no_mem_declrs) 24) no_struct_items) 25)) no_words)
    no_init_declrs 26))) ∷ [])

-- void f(void) { *(typeof(u))0; }
abbrev pub source_60 : Source
source_60 =
    source [] (13 ∷ []) ((function_item [] (more_words (basic (record { token = 0; keyword = keywords.Void })) no_words)
    (params (declr_name 1 0) 2 (more_params
    (more_words (basic (record { token = 3; keyword = keywords.Void })) no_words) no_declr [] no_params) None 4) [] 5
    (more_block_items (block_stmt (expr_stmt (some_expr (prefix 6 signs.Star (cast 7 (more_words
    (typeof_value 8 9 (name_use 10 1) 11) no_words) no_declr 12 (number_use 13)))) 14)) no_block_items) 15) ∷ [])

-- int f(a, b) int a; { return a; }
abbrev pub source_61 : Source
source_61 =
    source [] [] ((old_function_item [] (more_words (basic (record { token = 0; keyword = keywords.Int })) no_words)
    (identifiers (declr_name 1 0) 2 ((record { token = 3; name = 1 }) ∷ (record { token = 5; name = 2 }) ∷ []) 6) []
    ((declaration [] (more_words (basic (record { token = 7; keyword = keywords.Int })) no_words)
    (more_init_declrs [] (declr_name 8 1) None [] no_init no_init_declrs) 9) ∷ []) 10
    (more_block_items (block_stmt (return_stmt 11 (some_expr (name_use 12 1)) 13)) no_block_items) 14) ∷ [])

-- int f(a) int a, b; { return a; }
abbrev pub source_62 : Source
source_62 =
    source [] [] ((old_function_item [] (more_words (basic (record { token = 0; keyword = keywords.Int })) no_words)
    (identifiers (declr_name 1 0) 2 ((record { token = 3; name = 1 }) ∷ []) 4) []
    ((declaration [] (more_words (basic (record { token = 5; keyword = keywords.Int })) no_words) (more_init_declrs []
    (declr_name 6 1) None [] no_init (more_init_declrs [] (declr_name 8 2) None [] no_init no_init_declrs)) 9) ∷ []) 10
    (more_block_items (block_stmt (return_stmt 11 (some_expr (name_use 12 1)) 13)) no_block_items) 14) ∷ [])

-- int f(a, a) int a; { return a; }
abbrev pub source_63 : Source
source_63 =
    source [] [] ((old_function_item [] (more_words (basic (record { token = 0; keyword = keywords.Int })) no_words)
    (identifiers (declr_name 1 0) 2 ((record { token = 3; name = 1 }) ∷ (record { token = 5; name = 1 }) ∷ []) 6) []
    ((declaration [] (more_words (basic (record { token = 7; keyword = keywords.Int })) no_words)
    (more_init_declrs [] (declr_name 8 1) None [] no_init no_init_declrs) 9) ∷ []) 10
    (more_block_items (block_stmt (return_stmt 11 (some_expr (name_use 12 1)) 13)) no_block_items) 14) ∷ [])

-- int f(a) int a; int a; { return a; }
abbrev pub source_64 : Source
source_64 =
    source [] [] ((old_function_item [] (more_words (basic (record { token = 0; keyword = keywords.Int })) no_words)
    (identifiers (declr_name 1 0) 2 ((record { token = 3; name = 1 }) ∷ []) 4) []
    ((declaration [] (more_words (basic (record { token = 5; keyword = keywords.Int })) no_words)
    (more_init_declrs [] (declr_name 6 1) None [] no_init no_init_declrs) 7)
    ∷ (declaration [] (more_words (basic (record { token = 8; keyword = keywords.Int })) no_words)
    (more_init_declrs [] (declr_name 9 1) None [] no_init no_init_declrs) 10) ∷ []) 11
    (more_block_items (block_stmt (return_stmt 12 (some_expr (name_use 13 1)) 14)) no_block_items) 15) ∷ [])

-- int f(a) typedef int a; { return 1; }
abbrev pub source_65 : Source
source_65 =
    source [] [] ((old_function_item [] (more_words (basic (record { token = 0; keyword = keywords.Int })) no_words)
    (identifiers (declr_name 1 0) 2 ((record { token = 3; name = 1 }) ∷ []) 4) []
    ((declaration [] (more_words (storage (record { token = 5; keyword = keywords.Typedef }))
    (more_words (basic (record { token = 6; keyword = keywords.Int })) no_words))
    (more_init_declrs [] (declr_name 7 1) None [] no_init no_init_declrs) 8) ∷ []) 9
    (more_block_items (block_stmt (return_stmt 10 (some_expr (number_use 11)) 12)) no_block_items) 13) ∷ [])

-- int f(a) int a; { return a; } int f(b) int b; { return b; }
abbrev pub source_66 : Source
source_66 =
    source [] [] ((old_function_item [] (more_words (basic (record { token = 0; keyword = keywords.Int })) no_words)
    (identifiers (declr_name 1 0) 2 ((record { token = 3; name = 1 }) ∷ []) 4) []
    ((declaration [] (more_words (basic (record { token = 5; keyword = keywords.Int })) no_words)
    (more_init_declrs [] (declr_name 6 1) None [] no_init no_init_declrs) 7) ∷ []) 8
    (more_block_items (block_stmt (return_stmt 9 (some_expr (name_use 10 1)) 11)) no_block_items) 12)
    ∷ (old_function_item [] (more_words (basic (record { token = 13; keyword = keywords.Int })) no_words)
    (identifiers (declr_name 14 0) 15 ((record { token = 16; name = 2 }) ∷ []) 17) []
    ((declaration [] (more_words (basic (record { token = 18; keyword = keywords.Int })) no_words)
    (more_init_declrs [] (declr_name 19 2) None [] no_init no_init_declrs) 20) ∷ []) 21
    (more_block_items (block_stmt (return_stmt 22 (some_expr (name_use 23 2)) 24)) no_block_items) 25) ∷ [])

-- int f(a) int a; char a; double a; { return 0; }
abbrev pub source_67 : Source
source_67 =
    source [] (16 ∷ [])
    ((old_function_item [] (more_words (basic (record { token = 0; keyword = keywords.Int })) no_words)
    (identifiers (declr_name 1 0) 2 ((record { token = 3; name = 1 }) ∷ []) 4) []
    ((declaration [] (more_words (basic (record { token = 5; keyword = keywords.Int })) no_words)
    (more_init_declrs [] (declr_name 6 1) None [] no_init no_init_declrs) 7)
    ∷ (declaration [] (more_words (basic (record { token = 8; keyword = keywords.Char })) no_words)
    (more_init_declrs [] (declr_name 9 1) None [] no_init no_init_declrs) 10)
    ∷ (declaration [] (more_words (basic (record { token = 11; keyword = keywords.Double })) no_words)
    (more_init_declrs [] (declr_name 12 1) None [] no_init no_init_declrs) 13) ∷ []) 14
    (more_block_items (block_stmt (return_stmt 15 (some_expr (number_use 16)) 17)) no_block_items) 18) ∷ [])

-- extern inline int f(int x) { return x; } static int g; extern inline int f(int x) { return g; } int f(int x) { return
-- 1; } int f(int x) { return 2; }
abbrev pub source_68 : Source
source_68 =
    source [] [] ((function_item [] (more_words (storage (record { token = 0; keyword = keywords.Extern }))
    (more_words (inline_word 1) (more_words (basic (record { token = 2; keyword = keywords.Int })) no_words)))
    (params (declr_name 3 0) 4 (more_params (more_words (basic (record { token = 5; keyword = keywords.Int })) no_words)
    (some_declr (declr_name 6 1)) [] no_params) None 7) [] 8
    (more_block_items (block_stmt (return_stmt 9 (some_expr (name_use 10 1)) 11)) no_block_items) 12) ∷ (decl_item
    (decl_declaration (declaration [] (more_words (storage (record { token = 13; keyword = keywords.Static }))
    (more_words (basic (record { token = 14; keyword = keywords.Int })) no_words))
    (more_init_declrs [] (declr_name 15 2) None [] no_init no_init_declrs) 16)))
    ∷ (function_item [] (more_words (storage (record { token = 17; keyword = keywords.Extern }))
    (more_words (inline_word 18) (more_words (basic (record { token = 19; keyword = keywords.Int })) no_words))) (params
    (declr_name 20 0) 21 (more_params (more_words (basic (record { token = 22; keyword = keywords.Int })) no_words)
    (some_declr (declr_name 23 1)) [] no_params) None 24) [] 25
    (more_block_items (block_stmt (return_stmt 26 (some_expr (name_use 27 2)) 28)) no_block_items) 29)
    ∷ (function_item [] (more_words (basic (record { token = 30; keyword = keywords.Int })) no_words) (params
    (declr_name 31 0) 32 (more_params (more_words (basic (record { token = 33; keyword = keywords.Int })) no_words)
    (some_declr (declr_name 34 1)) [] no_params) None 35) [] 36
    (more_block_items (block_stmt (return_stmt 37 (some_expr (number_use 38)) 39)) no_block_items) 40)
    ∷ (function_item [] (more_words (basic (record { token = 41; keyword = keywords.Int })) no_words) (params
    (declr_name 42 0) 43 (more_params (more_words (basic (record { token = 44; keyword = keywords.Int })) no_words)
    (some_declr (declr_name 45 1)) [] no_params) None 46) [] 47
    (more_block_items (block_stmt (return_stmt 48 (some_expr (number_use 49)) 50)) no_block_items) 51) ∷ [])

-- inline int f(int x) { return x; } int f(int x) { return x; }
abbrev pub source_69 : Source
source_69 =
    source [] [] ((function_item []
    (more_words (inline_word 0) (more_words (basic (record { token = 1; keyword = keywords.Int })) no_words))
    (params (declr_name 2 0) 3 (more_params (more_words (basic (record { token = 4; keyword = keywords.Int })) no_words)
    (some_declr (declr_name 5 1)) [] no_params) None 6) [] 7
    (more_block_items (block_stmt (return_stmt 8 (some_expr (name_use 9 1)) 10)) no_block_items) 11)
    ∷ (function_item [] (more_words (basic (record { token = 12; keyword = keywords.Int })) no_words) (params
    (declr_name 13 0) 14 (more_params (more_words (basic (record { token = 15; keyword = keywords.Int })) no_words)
    (some_declr (declr_name 16 1)) [] no_params) None 17) [] 18
    (more_block_items (block_stmt (return_stmt 19 (some_expr (name_use 20 1)) 21)) no_block_items) 22) ∷ [])

-- int f(a) int a; { return a; } int g(void) { return f(1, 2); }
abbrev pub source_70 : Source
source_70 =
    source [] [] ((old_function_item [] (more_words (basic (record { token = 0; keyword = keywords.Int })) no_words)
    (identifiers (declr_name 1 0) 2 ((record { token = 3; name = 1 }) ∷ []) 4) []
    ((declaration [] (more_words (basic (record { token = 5; keyword = keywords.Int })) no_words)
    (more_init_declrs [] (declr_name 6 1) None [] no_init no_init_declrs) 7) ∷ []) 8
    (more_block_items (block_stmt (return_stmt 9 (some_expr (name_use 10 1)) 11)) no_block_items) 12) ∷ (function_item
    [] (more_words (basic (record { token = 13; keyword = keywords.Int })) no_words) (params (declr_name 14 2) 15
    (more_params (more_words (basic (record { token = 16; keyword = keywords.Void })) no_words) no_declr
    [] no_params) None 17) [] 18 (more_block_items (block_stmt (return_stmt 19 (some_expr (call (name_use 20 0) 21
    (more_exprs (number_use 22) (more_exprs (number_use 24) no_exprs)) 25)) 26)) no_block_items) 27) ∷ [])

-- int g(int); typeof(g()) y;
abbrev pub source_71 : Source
source_71 =
    source [] [] ((decl_item (decl_declaration
    (declaration [] (more_words (basic (record { token = 0; keyword = keywords.Int })) no_words) (more_init_declrs []
    (params (declr_name 1 0) 2 (more_params (more_words (basic (record { token = 3; keyword = keywords.Int })) no_words)
    no_declr [] no_params) None 4) None [] no_init no_init_declrs) 5))) ∷ (decl_item
    (decl_declaration (declaration [] (more_words (typeof_value 6 7 (call (name_use 8 0) 9 no_exprs 10) 11) no_words)
    (more_init_declrs [] (declr_name 12 1) None [] no_init no_init_declrs) 13))) ∷ [])

-- int a[] = { [1 ... u] = 1 };
abbrev pub source_72 : Source
source_72 =
    source [] [] ((decl_item
    (decl_declaration (declaration [] (more_words (basic (record { token = 0; keyword = keywords.Int })) no_words)
    (more_init_declrs [] (array (declr_name 1 0) 2 [] no_size 3) None [] (some_init 4 (init_braced
    (init_list 5 (more_init_items (more_desigs (range_desig 6 (number_use 7) 8 (name_use 9 1) 10) no_desigs) (Some 11)
    (init_value (number_use 12)) no_init_items) None 13))) no_init_declrs) 14))) ∷ [])

-- int a = { [1 ... 2] = 1 };
abbrev pub source_73 : Source
source_73 =
    source [] [] ((decl_item (decl_declaration (declaration [] (more_words (basic
    (record { token = 0; keyword = keywords.Int })) no_words) (more_init_declrs [] (declr_name 1 0) None [] (some_init 2
    (init_braced (init_list 3 (more_init_items (more_desigs (range_desig 4 (number_use 5) 6 (number_use 7) 8) no_desigs)
    (Some 9) (init_value (number_use 10)) no_init_items) None 11))) no_init_declrs) 12))) ∷ [])

-- struct s { int m; } v = { n: 1 };
abbrev pub source_74 : Source
source_74 =
    source [] [] ((decl_item (decl_declaration (declaration [] (more_words (struct_type
    (record { token = 0; keyword = keywords.Struct }) [] (Some (record { token = 1; name = 0 })) (some_body 2
    (more_struct_items (member [] (more_words (basic (record { token = 3; keyword = keywords.Int })) no_words)
    (more_mem_declrs [] (named (declr_name 4 1) no_value []) no_mem_declrs) 5) no_struct_items) 6)) no_words)
    (more_init_declrs [] (declr_name 7 2) None [] (some_init 8 (init_braced
    (init_list 9 (more_init_items (more_desigs (old_desig (record { token = 10; name = 3 }) 11) no_desigs) None
    (init_value (number_use 12)) no_init_items) None 13))) no_init_declrs) 14))) ∷ [])

-- void f(void) { switch (1) { case 1 ... u: ; } }
abbrev pub source_75 : Source
source_75 =
    source [] [] ((function_item [] (more_words (basic (record { token = 0; keyword = keywords.Void })) no_words)
    (params (declr_name 1 0) 2 (more_params
    (more_words (basic (record { token = 3; keyword = keywords.Void })) no_words) no_declr [] no_params) None 4) [] 5
    (more_block_items (block_stmt (switch_stmt 6 7 (number_use 8) 9 (block 10 (more_block_items (block_stmt (case_range
    11 (number_use 12) 13 (name_use 14 1) 15 (expr_stmt no_expr 16))) no_block_items) 17))) no_block_items) 18) ∷ [])

-- void f(void) { goto *u; }
abbrev pub source_76 : Source
source_76 =
    source [] [] ((function_item [] (more_words (basic (record { token = 0; keyword = keywords.Void })) no_words)
    (params (declr_name 1 0) 2 (more_params
    (more_words (basic (record { token = 3; keyword = keywords.Void })) no_words) no_declr [] no_params) None 4) [] 5
    (more_block_items (block_stmt (goto_value 6 7 (name_use 8 1) 9)) no_block_items) 10) ∷ [])

-- void f(int x) { goto **x; }
abbrev pub source_77 : Source
source_77 =
    source [] [] ((function_item [] (more_words (basic (record { token = 0; keyword = keywords.Void })) no_words)
    (params (declr_name 1 0) 2 (more_params (more_words (basic (record { token = 3; keyword = keywords.Int })) no_words)
    (some_declr (declr_name 4 1)) [] no_params) None 5) [] 6
    (more_block_items (block_stmt (goto_value 7 8 (prefix 9 signs.Star (name_use 10 1)) 11)) no_block_items) 12) ∷ [])

-- void f(void) { &&a = 0; }
abbrev pub source_78 : Source
source_78 =
    source [] (9 ∷ []) ((function_item [] (more_words (basic (record { token = 0; keyword = keywords.Void })) no_words)
    (params (declr_name 1 0) 2 (more_params
    (more_words (basic (record { token = 3; keyword = keywords.Void })) no_words) no_declr [] no_params) None 4) [] 5
    (more_block_items (block_stmt (expr_stmt (some_expr (operation (label_use 6 (record { token = 7; name = 1 }))
    (assign signs.Equal) 8 (number_use 9))) 10)) no_block_items) 11) ∷ [])

-- int *p; void f(void) { p = __real__ 0; __real__ 1 = 2; }
abbrev pub source_79 : Source
source_79 =
    source [] (13 ∷ []) ((decl_item
    (decl_declaration (declaration [] (more_words (basic (record { token = 0; keyword = keywords.Int })) no_words)
    (more_init_declrs [] (pointer 1 [] (declr_name 2 0)) None [] no_init no_init_declrs) 3))) ∷ (function_item []
    (more_words (basic (record { token = 4; keyword = keywords.Void })) no_words) (params (declr_name 5 1) 6
    (more_params (more_words (basic (record { token = 7; keyword = keywords.Void })) no_words) no_declr [] no_params)
    None 8) [] 9 (more_block_items (block_stmt (expr_stmt (some_expr (operation (name_use 10 0) (assign signs.Equal) 11
    (complex_part 12 (number_use 13)))) 14)) (more_block_items (block_stmt (expr_stmt (some_expr (operation
    (complex_part 15 (number_use 16)) (assign signs.Equal) 17 (number_use 18))) 19)) no_block_items)) 20) ∷ [])

-- int x; void f(void) { ((int)x)[1] = 2; }
abbrev pub source_80 : Source
source_80 =
    source [] [] ((decl_item
    (decl_declaration (declaration [] (more_words (basic (record { token = 0; keyword = keywords.Int })) no_words)
    (more_init_declrs [] (declr_name 1 0) None [] no_init no_init_declrs) 2)))
    ∷ (function_item [] (more_words (basic (record { token = 3; keyword = keywords.Void })) no_words) (params
    (declr_name 4 1) 5 (more_params (more_words (basic (record { token = 6; keyword = keywords.Void })) no_words)
    no_declr [] no_params) None 7) [] 8 (more_block_items (block_stmt (expr_stmt (some_expr (operation
    (index (paren 9 (cast 10 (more_words (basic (record { token = 11; keyword = keywords.Int })) no_words) no_declr 12
    (name_use 13 0)) 14) 15 (number_use 16) 17) (assign signs.Equal) 18 (number_use 19))) 20)) no_block_items) 21) ∷ [])

-- struct s { int m; } v; void f(void) { v[1]; }
abbrev pub source_81 : Source
source_81 =
    source [] [] ((decl_item (decl_declaration (declaration [] (more_words (struct_type
    (record { token = 0; keyword = keywords.Struct }) [] (Some (record { token = 1; name = 0 })) (some_body 2
    (more_struct_items (member [] (more_words (basic (record { token = 3; keyword = keywords.Int })) no_words)
    (more_mem_declrs [] (named (declr_name 4 1) no_value []) no_mem_declrs) 5) no_struct_items) 6)) no_words)
    (more_init_declrs [] (declr_name 7 2) None [] no_init no_init_declrs) 8)))
    ∷ (function_item [] (more_words (basic (record { token = 9; keyword = keywords.Void })) no_words) (params
    (declr_name 10 3) 11 (more_params (more_words (basic (record { token = 12; keyword = keywords.Void })) no_words)
    no_declr [] no_params) None 13) [] 14 (more_block_items
    (block_stmt (expr_stmt (some_expr (index (name_use 15 2) 16 (number_use 17) 18)) 19)) no_block_items) 20) ∷ [])

-- int x; void f(void) { *x; }
abbrev pub source_82 : Source
source_82 =
    source [] [] ((decl_item
    (decl_declaration (declaration [] (more_words (basic (record { token = 0; keyword = keywords.Int })) no_words)
    (more_init_declrs [] (declr_name 1 0) None [] no_init no_init_declrs) 2)))
    ∷ (function_item [] (more_words (basic (record { token = 3; keyword = keywords.Void })) no_words) (params
    (declr_name 4 1) 5 (more_params (more_words (basic (record { token = 6; keyword = keywords.Void })) no_words)
    no_declr [] no_params) None 7) [] 8 (more_block_items
    (block_stmt (expr_stmt (some_expr (prefix 9 signs.Star (name_use 10 0))) 11)) no_block_items) 12) ∷ [])

-- int x, y; int *p; $tainted int t; $untainted int u; struct s { int a; int *b; } v, *w; int g(int); void f(void) {
-- __builtin_choose_expr(1, p, w)->a; }
abbrev pub source_83 : Source
source_83 =
    source (9 ∷ 13 ∷ []) [] ((decl_item (decl_declaration
    (declaration [] (more_words (basic (record { token = 0; keyword = keywords.Int })) no_words) (more_init_declrs []
    (declr_name 1 0) None [] no_init (more_init_declrs [] (declr_name 3 1) None [] no_init no_init_declrs)) 4)))
    ∷ (decl_item (decl_declaration (declaration [] (more_words (basic (record { token = 5; keyword = keywords.Int }))
    no_words) (more_init_declrs [] (pointer 6 [] (declr_name 7 2)) None [] no_init no_init_declrs) 8)))
    ∷ (decl_item (decl_declaration (declaration [] (more_words (qualifier (quals.Element 9))
    (more_words (basic (record { token = 10; keyword = keywords.Int })) no_words)) (more_init_declrs []
    (declr_name 11 3) None [] no_init no_init_declrs) 12))) ∷ (decl_item (decl_declaration (declaration [] (more_words
    (qualifier (quals.Element 13)) (more_words (basic (record { token = 14; keyword = keywords.Int })) no_words))
    (more_init_declrs [] (declr_name 15 4) None [] no_init no_init_declrs) 16)))
    ∷ (decl_item (decl_declaration (declaration [] (more_words (struct_type
    (record { token = 17; keyword = keywords.Struct }) [] (Some (record { token = 18; name = 5 })) (some_body 19
    (more_struct_items (member [] (more_words (basic (record { token = 20; keyword = keywords.Int })) no_words)
    (more_mem_declrs [] (named (declr_name 21 6) no_value []) no_mem_declrs) 22) (more_struct_items
    (member [] (more_words (basic (record { token = 23; keyword = keywords.Int })) no_words) (more_mem_declrs []
    (named (pointer 24 [] (declr_name 25 7)) no_value []) no_mem_declrs) 26) no_struct_items)) 27)) no_words)
    (more_init_declrs [] (declr_name 28 8) None [] no_init (more_init_declrs [] (pointer 30 [] (declr_name 31 9)) None
    [] no_init no_init_declrs)) 32))) ∷ (decl_item (decl_declaration (declaration []
    (more_words (basic (record { token = 33; keyword = keywords.Int })) no_words) (more_init_declrs [] (params
    (declr_name 34 10) 35 (more_params (more_words (basic (record { token = 36; keyword = keywords.Int })) no_words)
    no_declr [] no_params) None 37) None [] no_init no_init_declrs) 38))) ∷ (function_item []
    (more_words (basic (record { token = 39; keyword = keywords.Void })) no_words) (params (declr_name 40 11) 41
    (more_params (more_words (basic (record { token = 42; keyword = keywords.Void })) no_words) no_declr [] no_params)
    None 43) [] 44 (more_block_items (block_stmt (expr_stmt (some_expr (arrow (choose 45 46 (number_use 47) 48
    (name_use 49 2) 50 (name_use 51 9) 52) 53 (record { token = 54; name = 6 }))) 55)) no_block_items) 56) ∷ [])

-- int x, y; int *p; $tainted int t; $untainted int u; struct s { int a; int *b; } v, *w; int g(int); void f(void) {
-- _Generic(x, int: x, char: y) = 1; }
abbrev pub source_84 : Source
source_84 =
    source (9 ∷ 13 ∷ []) [] ((decl_item (decl_declaration
    (declaration [] (more_words (basic (record { token = 0; keyword = keywords.Int })) no_words) (more_init_declrs []
    (declr_name 1 0) None [] no_init (more_init_declrs [] (declr_name 3 1) None [] no_init no_init_declrs)) 4)))
    ∷ (decl_item (decl_declaration (declaration [] (more_words (basic (record { token = 5; keyword = keywords.Int }))
    no_words) (more_init_declrs [] (pointer 6 [] (declr_name 7 2)) None [] no_init no_init_declrs) 8)))
    ∷ (decl_item (decl_declaration (declaration [] (more_words (qualifier (quals.Element 9))
    (more_words (basic (record { token = 10; keyword = keywords.Int })) no_words)) (more_init_declrs []
    (declr_name 11 3) None [] no_init no_init_declrs) 12))) ∷ (decl_item (decl_declaration (declaration [] (more_words
    (qualifier (quals.Element 13)) (more_words (basic (record { token = 14; keyword = keywords.Int })) no_words))
    (more_init_declrs [] (declr_name 15 4) None [] no_init no_init_declrs) 16)))
    ∷ (decl_item (decl_declaration (declaration [] (more_words (struct_type
    (record { token = 17; keyword = keywords.Struct }) [] (Some (record { token = 18; name = 5 })) (some_body 19
    (more_struct_items (member [] (more_words (basic (record { token = 20; keyword = keywords.Int })) no_words)
    (more_mem_declrs [] (named (declr_name 21 6) no_value []) no_mem_declrs) 22) (more_struct_items
    (member [] (more_words (basic (record { token = 23; keyword = keywords.Int })) no_words) (more_mem_declrs []
    (named (pointer 24 [] (declr_name 25 7)) no_value []) no_mem_declrs) 26) no_struct_items)) 27)) no_words)
    (more_init_declrs [] (declr_name 28 8) None [] no_init (more_init_declrs [] (pointer 30 [] (declr_name 31 9)) None
    [] no_init no_init_declrs)) 32))) ∷ (decl_item (decl_declaration (declaration []
    (more_words (basic (record { token = 33; keyword = keywords.Int })) no_words) (more_init_declrs [] (params
    (declr_name 34 10) 35 (more_params (more_words (basic (record { token = 36; keyword = keywords.Int })) no_words)
    no_declr [] no_params) None 37) None [] no_init no_init_declrs) 38)))
    ∷ (function_item [] (more_words (basic (record { token = 39; keyword = keywords.Void })) no_words) (params
    (declr_name 40 11) 41 (more_params (more_words (basic (record { token = 42; keyword = keywords.Void })) no_words)
    no_declr [] no_params) None 43) [] 44 (more_block_items
    (block_stmt (expr_stmt (some_expr (operation (generic 45 46 (name_use 47 0) (more_assocs (typed_assoc
    (more_words (basic (record { token = 49; keyword = keywords.Int })) no_words) no_declr 50 (name_use 51 0))
    (more_assocs (typed_assoc (more_words (basic (record { token = 53; keyword = keywords.Char })) no_words) no_declr 54
    (name_use 55 1)) no_assocs)) 56) (assign signs.Equal) 57 (number_use 58))) 59)) no_block_items) 60) ∷ [])

-- int x, y; int *p; $tainted int t; $untainted int u; struct s { int a; int *b; } v, *w; int g(int); void f(void) {
-- _Generic(x, int *: q, int: 1); }
abbrev pub source_85 : Source
source_85 =
    source (9 ∷ 13 ∷ []) [] ((decl_item (decl_declaration
    (declaration [] (more_words (basic (record { token = 0; keyword = keywords.Int })) no_words) (more_init_declrs []
    (declr_name 1 0) None [] no_init (more_init_declrs [] (declr_name 3 1) None [] no_init no_init_declrs)) 4)))
    ∷ (decl_item (decl_declaration (declaration [] (more_words (basic (record { token = 5; keyword = keywords.Int }))
    no_words) (more_init_declrs [] (pointer 6 [] (declr_name 7 2)) None [] no_init no_init_declrs) 8)))
    ∷ (decl_item (decl_declaration (declaration [] (more_words (qualifier (quals.Element 9))
    (more_words (basic (record { token = 10; keyword = keywords.Int })) no_words)) (more_init_declrs []
    (declr_name 11 3) None [] no_init no_init_declrs) 12))) ∷ (decl_item (decl_declaration (declaration [] (more_words
    (qualifier (quals.Element 13)) (more_words (basic (record { token = 14; keyword = keywords.Int })) no_words))
    (more_init_declrs [] (declr_name 15 4) None [] no_init no_init_declrs) 16)))
    ∷ (decl_item (decl_declaration (declaration [] (more_words (struct_type
    (record { token = 17; keyword = keywords.Struct }) [] (Some (record { token = 18; name = 5 })) (some_body 19
    (more_struct_items (member [] (more_words (basic (record { token = 20; keyword = keywords.Int })) no_words)
    (more_mem_declrs [] (named (declr_name 21 6) no_value []) no_mem_declrs) 22) (more_struct_items
    (member [] (more_words (basic (record { token = 23; keyword = keywords.Int })) no_words) (more_mem_declrs []
    (named (pointer 24 [] (declr_name 25 7)) no_value []) no_mem_declrs) 26) no_struct_items)) 27)) no_words)
    (more_init_declrs [] (declr_name 28 8) None [] no_init (more_init_declrs [] (pointer 30 [] (declr_name 31 9)) None
    [] no_init no_init_declrs)) 32))) ∷ (decl_item (decl_declaration (declaration []
    (more_words (basic (record { token = 33; keyword = keywords.Int })) no_words) (more_init_declrs [] (params
    (declr_name 34 10) 35 (more_params (more_words (basic (record { token = 36; keyword = keywords.Int })) no_words)
    no_declr [] no_params) None 37) None [] no_init no_init_declrs) 38))) ∷ (function_item []
    (more_words (basic (record { token = 39; keyword = keywords.Void })) no_words) (params (declr_name 40 11) 41
    (more_params (more_words (basic (record { token = 42; keyword = keywords.Void })) no_words) no_declr
    [] no_params) None 43) [] 44 (more_block_items (block_stmt (expr_stmt (some_expr (generic 45 46 (name_use 47 0)
    (more_assocs (typed_assoc (more_words (basic (record { token = 49; keyword = keywords.Int })) no_words)
    (some_declr (abs_pointer 50 [] no_declr)) 51 (name_use 52 12)) (more_assocs (typed_assoc (more_words
    (basic (record { token = 54; keyword = keywords.Int })) no_words) no_declr 55 (number_use 56)) no_assocs)) 57)) 58))
    no_block_items) 59) ∷ [])

-- int x, y; int *p; $tainted int t; $untainted int u; struct s { int a; int *b; } v, *w; int g(int); void f(void) {
-- *_Generic(x, int: 1); }
abbrev pub source_86 : Source
source_86 =
    source (9 ∷ 13 ∷ []) [] ((decl_item (decl_declaration
    (declaration [] (more_words (basic (record { token = 0; keyword = keywords.Int })) no_words) (more_init_declrs []
    (declr_name 1 0) None [] no_init (more_init_declrs [] (declr_name 3 1) None [] no_init no_init_declrs)) 4)))
    ∷ (decl_item (decl_declaration (declaration [] (more_words (basic (record { token = 5; keyword = keywords.Int }))
    no_words) (more_init_declrs [] (pointer 6 [] (declr_name 7 2)) None [] no_init no_init_declrs) 8)))
    ∷ (decl_item (decl_declaration (declaration [] (more_words (qualifier (quals.Element 9))
    (more_words (basic (record { token = 10; keyword = keywords.Int })) no_words)) (more_init_declrs []
    (declr_name 11 3) None [] no_init no_init_declrs) 12))) ∷ (decl_item (decl_declaration (declaration [] (more_words
    (qualifier (quals.Element 13)) (more_words (basic (record { token = 14; keyword = keywords.Int })) no_words))
    (more_init_declrs [] (declr_name 15 4) None [] no_init no_init_declrs) 16)))
    ∷ (decl_item (decl_declaration (declaration [] (more_words (struct_type
    (record { token = 17; keyword = keywords.Struct }) [] (Some (record { token = 18; name = 5 })) (some_body 19
    (more_struct_items (member [] (more_words (basic (record { token = 20; keyword = keywords.Int })) no_words)
    (more_mem_declrs [] (named (declr_name 21 6) no_value []) no_mem_declrs) 22) (more_struct_items
    (member [] (more_words (basic (record { token = 23; keyword = keywords.Int })) no_words) (more_mem_declrs []
    (named (pointer 24 [] (declr_name 25 7)) no_value []) no_mem_declrs) 26) no_struct_items)) 27)) no_words)
    (more_init_declrs [] (declr_name 28 8) None [] no_init (more_init_declrs [] (pointer 30 [] (declr_name 31 9)) None
    [] no_init no_init_declrs)) 32))) ∷ (decl_item (decl_declaration (declaration []
    (more_words (basic (record { token = 33; keyword = keywords.Int })) no_words) (more_init_declrs [] (params
    (declr_name 34 10) 35 (more_params (more_words (basic (record { token = 36; keyword = keywords.Int })) no_words)
    no_declr [] no_params) None 37) None [] no_init no_init_declrs) 38))) ∷ (function_item [] (more_words
    (basic (record { token = 39; keyword = keywords.Void })) no_words) (params (declr_name 40 11) 41 (more_params
    (more_words (basic (record { token = 42; keyword = keywords.Void })) no_words) no_declr [] no_params) None 43) [] 44
    (more_block_items (block_stmt (expr_stmt (some_expr (prefix 45 signs.Star (generic 46 47 (name_use 48 0)
    (more_assocs (typed_assoc (more_words (basic (record { token = 50; keyword = keywords.Int })) no_words) no_declr 51
    (number_use 52)) no_assocs) 53))) 54)) no_block_items) 55) ∷ [])

-- int x, y; void f(void) { &__builtin_choose_expr(1, x, y); }
abbrev pub source_87 : Source
source_87 =
    source [] [] ((decl_item (decl_declaration
    (declaration [] (more_words (basic (record { token = 0; keyword = keywords.Int })) no_words) (more_init_declrs []
    (declr_name 1 0) None [] no_init (more_init_declrs [] (declr_name 3 1) None [] no_init no_init_declrs)) 4)))
    ∷ (function_item [] (more_words (basic (record { token = 5; keyword = keywords.Void })) no_words) (params
    (declr_name 6 2) 7 (more_params (more_words (basic (record { token = 8; keyword = keywords.Void })) no_words)
    no_declr [] no_params) None 9) [] 10 (more_block_items (block_stmt (expr_stmt (some_expr (prefix 11 signs.Ampersand
    (choose 12 13 (number_use 14) 15 (name_use 16 0) 17 (name_use 18 1) 19))) 20)) no_block_items) 21) ∷ [])

-- types that are made by expressions and by names of types, and what says nothing of a type
abbrev pub Typeofs : Type 0
Typeofs =
    ((faults_of (source_1 ∷ []) ≡ [])
    × (rows_of (source_1 ∷ []) (1 ∷ 3 ∷ 7 ∷ 11 ∷ 15 ∷ 21 ∷ 25 ∷ 28 ∷ 31 ∷ 34 ∷ 43 ∷ 49 ∷ 56 ∷ 63 ∷ [])
    ≡ ((1, ((base []), (1, None))) ∷ (3, ((base []), (3, None))) ∷ (7, ((pointer [] (base [])), (7, None)))
    ∷ (11, ((base ((1, 9) ∷ [])), (11, None))) ∷ (15, ((base ((1, 13) ∷ [])), (15, None)))
    ∷ (21, ((base []), (21, None))) ∷ (25, ((pointer [] (base [])), (25, None))) ∷ (28, ((struct [] 0), (28, None)))
    ∷ (31, ((pointer [] (struct [] 0)), (31, None)))
    ∷ (34, ((function [] (more_types (base []) no_types) (base []) None), (34, (Some 34))))
    ∷ (43, ((base []), (43, None))) ∷ (49, ((pointer [] (base [])), (49, None)))
    ∷ (56, ((pointer [] (pointer [] (base []))), (56, None))) ∷ (63, ((base []), (63, None))) ∷ [])))
    × ((faults_of (source_2 ∷ []) ≡ [])
    × (rows_of (source_2 ∷ []) (1 ∷ 3 ∷ 7 ∷ 11 ∷ 15 ∷ 21 ∷ 25 ∷ 28 ∷ 31 ∷ 34 ∷ 43 ∷ 51 ∷ 60 ∷ 66 ∷ 73 ∷ 80 ∷ [])
    ≡ ((1, ((base []), (1, None))) ∷ (3, ((base []), (3, None))) ∷ (7, ((pointer [] (base [])), (7, None)))
    ∷ (11, ((base ((1, 9) ∷ [])), (11, None))) ∷ (15, ((base ((1, 13) ∷ [])), (15, None)))
    ∷ (21, ((base []), (21, None))) ∷ (25, ((pointer [] (base [])), (25, None))) ∷ (28, ((struct [] 0), (28, None)))
    ∷ (31, ((pointer [] (struct [] 0)), (31, None)))
    ∷ (34, ((function [] (more_types (base []) no_types) (base []) None), (34, (Some 34))))
    ∷ (43, ((struct [] 0), (43, None))) ∷ (51, ((pointer [] (base [])), (51, None)))
    ∷ (60, ((pointer [] (base [])), (60, None)))
    ∷ (66, ((function [] (more_types (base []) no_types) (base []) None), (66, (Some 66))))
    ∷ (73, ((pointer [] (function [] (more_types (base []) no_types) (base []) None)), (73, None)))
    ∷ (80, ((pointer [] (function [] (more_types (base []) no_types) (base []) None)), (80, None))) ∷ [])))
    × ((faults_of (source_3 ∷ []) ≡ [])
    × (rows_of (source_3 ∷ []) (1 ∷ 10 ∷ 19 ∷ 25 ∷ 31 ∷ 37 ∷ []) ≡ ((1, ((pointer [] (base [])), (1, None)))
    ∷ (10, ((pointer [] (base [])), (10, None))) ∷ (19, ((base []), (19, None)))
    ∷ (25, ((pointer [] (base [])), (25, None))) ∷ (31, ((base []), (31, None))) ∷ (37, ((base []), (37, None))) ∷ [])))
    × ((faults_of (source_4 ∷ []) ≡ [])
    × (rows_of (source_4 ∷ []) (1 ∷ 3 ∷ 7 ∷ 11 ∷ 15 ∷ 21 ∷ 25 ∷ 28 ∷ 31 ∷ 34 ∷ 45 ∷ 55 ∷ 65 ∷ 75 ∷ 83 ∷ [])
    ≡ ((1, ((base []), (1, None))) ∷ (3, ((base []), (3, None))) ∷ (7, ((pointer [] (base [])), (7, None)))
    ∷ (11, ((base ((1, 9) ∷ [])), (11, None))) ∷ (15, ((base ((1, 13) ∷ [])), (15, None)))
    ∷ (21, ((base []), (21, None))) ∷ (25, ((pointer [] (base [])), (25, None))) ∷ (28, ((struct [] 0), (28, None)))
    ∷ (31, ((pointer [] (struct [] 0)), (31, None)))
    ∷ (34, ((function [] (more_types (base []) no_types) (base []) None), (34, (Some 34))))
    ∷ (45, ((pointer [] (base [])), (45, None))) ∷ (55, ((pointer [] (base [])), (55, None)))
    ∷ (65, ((pointer [] (base [])), (65, None))) ∷ (75, ((pointer [] (base [])), (75, None)))
    ∷ (83, ((base []), (83, None))) ∷ [])))
    × ((faults_of (source_5 ∷ []) ≡ [])
    × (rows_of (source_5 ∷ []) (1 ∷ 3 ∷ 7 ∷ 11 ∷ 15 ∷ 21 ∷ 25 ∷ 28 ∷ 31 ∷ 34 ∷ 46 ∷ 57 ∷ 63 ∷ 66 ∷ 68 ∷ 73 ∷ [])
    ≡ ((1, ((base []), (1, None))) ∷ (3, ((base []), (3, None))) ∷ (7, ((pointer [] (base [])), (7, None)))
    ∷ (11, ((base ((1, 9) ∷ [])), (11, None))) ∷ (15, ((base ((1, 13) ∷ [])), (15, None)))
    ∷ (21, ((base []), (21, None))) ∷ (25, ((pointer [] (base [])), (25, None))) ∷ (28, ((struct [] 0), (28, None)))
    ∷ (31, ((pointer [] (struct [] 0)), (31, None)))
    ∷ (34, ((function [] (more_types (base []) no_types) (base []) None), (34, (Some 34))))
    ∷ (46, ((pointer [] (base [])), (46, None))) ∷ (57, ((pointer [] (base [])), (57, None)))
    ∷ (63, ((base []), (63, None))) ∷ (66, ((pointer [] (base [])), (66, None)))
    ∷ (68, ((pointer [] (base [])), (68, None)))
    ∷ (73, ((function [] (more_types (pointer [] (base [])) no_types) (base []) None), (73, (Some 73)))) ∷ [])))
    × ((faults_of (source_6 ∷ []) ≡ [])
    × (rows_of (source_6 ∷ []) (1 ∷ 3 ∷ 7 ∷ 11 ∷ 15 ∷ 21 ∷ 25 ∷ 28 ∷ 31 ∷ 34 ∷ 40 ∷ 46 ∷ 52 ∷ 62 ∷ 68 ∷ 71 ∷ 81 ∷ [])
    ≡ ((1, ((base []), (1, None))) ∷ (3, ((base []), (3, None))) ∷ (7, ((pointer [] (base [])), (7, None)))
    ∷ (11, ((base ((1, 9) ∷ [])), (11, None))) ∷ (15, ((base ((1, 13) ∷ [])), (15, None)))
    ∷ (21, ((base []), (21, None))) ∷ (25, ((pointer [] (base [])), (25, None))) ∷ (28, ((struct [] 0), (28, None)))
    ∷ (31, ((pointer [] (struct [] 0)), (31, None)))
    ∷ (34, ((function [] (more_types (base []) no_types) (base []) None), (34, (Some 34)))) ∷ (
      40,
      (
        (function [] (more_types (pointer [] (base [])) (more_types (pointer [] (base [])) no_types)) (base []) None),
        (40, (Some 40)),
      ),
    ) ∷ (46, ((pointer [] (base [])), (46, None))) ∷ (52, ((pointer [] (base [])), (52, None)))
    ∷ (62, ((pointer [] (base [])), (62, None))) ∷ (68, ((struct [] 0), (68, None))) ∷ (71, ((struct [] 1), (71, None)))
    ∷ (81, ((pointer [] (base [])), (81, None))) ∷ [])))
    × ((faults_of (source_7 ∷ []) ≡ []) × (rows_of (source_7 ∷ []) (10 ∷ 19 ∷ 27 ∷ 31 ∷ 40 ∷ 43 ∷ [])
    ≡ ((10, ((pointer [] (function [] no_types (base []) None)), (10, None)))
    ∷ (19, ((pointer [] (base [])), (19, None))) ∷ (27, ((base []), (27, None))) ∷ (31, ((struct [] 0), (31, None)))
    ∷ (40, ((base []), (40, None))) ∷ (43, ((base []), (43, None))) ∷ [])))
    × ((faults_of (source_8 ∷ []) ≡ []) × (rows_of (source_8 ∷ []) (7 ∷ 13 ∷ 19 ∷ 26 ∷ [])
    ≡ ((7, ((pointer [] (base ((1, 1) ∷ []))), (7, None))) ∷ (13, ((pointer [] (base [])), (13, None)))
    ∷ (19, ((pointer [] (base ((1, 1) ∷ []))), (19, None))) ∷ (26, ((base []), (26, None))) ∷ [])))
    × ((faults_of (source_9 ∷ []) ≡ []) × (rows_of (source_9 ∷ []) (1 ∷ 13 ∷ 20 ∷ [])
    ≡ ((1, ((function [] (more_types (base ((1, 3) ∷ [])) no_types) (base []) (Some [])), (1, (Some 1))))
    ∷ (13, ((function [] (more_types (base []) no_types) (base []) (Some [])), (13, (Some 13))))
    ∷ (20, ((pointer [] (function [] (more_types (base []) no_types) (base []) (Some []))), (20, None))) ∷ [])))
    × ((faults_of (source_10 ∷ []) ≡ []) × (rows_of (source_10 ∷ []) (2 ∷ 12 ∷ 18 ∷ [])
    ≡ ((2, ((function [] (more_types (base []) no_types) (base []) None), (2, (Some 2))))
    ∷ (12, ((function [] (more_types (base []) no_types) (base []) None), (2, (Some 2))))
    ∷ (18, ((function [] (more_types (base []) no_types) (base []) None), (18, (Some 18)))) ∷ [])))
    × ((faults_of (source_11 ∷ []) ≡ []) × (rows_of (source_11 ∷ []) (1 ∷ 4 ∷ 18 ∷ 21 ∷ 33 ∷ [])
    ≡ ((1, ((function [] (more_types (base []) no_types) (base []) None), (1, (Some 1))))
    ∷ (4, ((base []), (4, (Some 1)))) ∷ (18, ((base []), (18, None)))
    ∷ (21, ((function [] no_types (void []) None), (21, (Some 21)))) ∷ (33, ((base []), (33, (Some 21)))) ∷ [])))
    × ((faults_of (source_12 ∷ []) ≡ [])
    × (rows_of (source_12 ∷ []) (4 ∷ 19 ∷ 25 ∷ 42 ∷ []) ≡ ((4, ((base []), (4, None))) ∷ (19, ((base []), (19, None)))
    ∷ (25, ((pointer [] (base [])), (25, None))) ∷ (42, ((pointer [] (base [])), (42, None))) ∷ [])))
    × ((faults_of (source_13 ∷ []) ≡ []) × (rows_of (source_13 ∷ []) (4 ∷ 15 ∷ [])
    ≡ ((4, ((base []), (4, None))) ∷ (15, ((pointer [] (struct [] 0)), (15, None))) ∷ [])))
    × ((faults_of (source_14 ∷ []) ≡ [])
    × (rows_of (source_14 ∷ []) (3 ∷ 7 ∷ 12 ∷ 24 ∷ 27 ∷ 30 ∷ []) ≡ ((3, ((pointer [] (base [])), (3, None)))
    ∷ (7, ((base []), (7, None))) ∷ (12, ((pointer [] (base [])), (12, None))) ∷ (24, ((base []), (24, None)))
    ∷ (27, ((function [] (more_types (pointer [] (base [])) no_types) (void []) None), (27, (Some 27))))
    ∷ (30, ((pointer [] (base [])), (30, None))) ∷ [])))
    × ((faults_of (source_15 ∷ []) ≡ []) × (rows_of (source_15 ∷ []) (2 ∷ 6 ∷ 11 ∷ 18 ∷ 26 ∷ 30 ∷ 37 ∷ 44 ∷ [])
    ≡ ((2, ((base []), (2, None))) ∷ (6, ((base []), (6, None))) ∷ (11, ((pointer [] (base [])), (11, None)))
    ∷ (18, ((pointer [] (base [])), (18, None))) ∷ (26, ((base []), (26, None))) ∷ (30, ((struct [] 0), (30, None)))
    ∷ (37, ((base []), (37, None))) ∷ (44, ((base ((1, 41) ∷ [])), (44, None))) ∷ [])))
    × ((faults_of (source_16 ∷ []) ≡ [])
    × (rows_of (source_16 ∷ []) (5 ∷ 15 ∷ 25 ∷ 32 ∷ []) ≡ ((5, ((base []), (5, None))) ∷ (15, ((base []), (15, None)))
    ∷ (25, ((base []), (25, None))) ∷ (32, ((base []), (32, None))) ∷ [])))

-- selections, parts, elements of vectors and labels, by the types that they give names; mixes with `_Complex`, and base
-- words as names of typedefs
abbrev pub Values : Type 0
Values =
    ((faults_of (source_17 ∷ []) ≡ [])
    × (rows_of (source_17 ∷ []) (1 ∷ 3 ∷ 7 ∷ 11 ∷ 15 ∷ 21 ∷ 25 ∷ 28 ∷ 31 ∷ 34 ∷ 51 ∷ 54 ∷ [])
    ≡ ((1, ((base []), (1, None))) ∷ (3, ((base []), (3, None))) ∷ (7, ((pointer [] (base [])), (7, None)))
    ∷ (11, ((base ((1, 9) ∷ [])), (11, None))) ∷ (15, ((base ((1, 13) ∷ [])), (15, None)))
    ∷ (21, ((base []), (21, None))) ∷ (25, ((pointer [] (base [])), (25, None))) ∷ (28, ((struct [] 0), (28, None)))
    ∷ (31, ((pointer [] (struct [] 0)), (31, None)))
    ∷ (34, ((function [] (more_types (base []) no_types) (base []) None), (34, (Some 34))))
    ∷ (51, ((base []), (51, None))) ∷ (54, ((pointer [] (base [])), (54, None))) ∷ [])))
    × ((faults_of (source_18 ∷ []) ≡ [])
    × (rows_of (source_18 ∷ []) (1 ∷ 3 ∷ 7 ∷ 11 ∷ 15 ∷ 21 ∷ 25 ∷ 28 ∷ 31 ∷ 34 ∷ 50 ∷ 63 ∷ 76 ∷ 92 ∷ [])
    ≡ ((1, ((base []), (1, None))) ∷ (3, ((base []), (3, None))) ∷ (7, ((pointer [] (base [])), (7, None)))
    ∷ (11, ((base ((1, 9) ∷ [])), (11, None))) ∷ (15, ((base ((1, 13) ∷ [])), (15, None)))
    ∷ (21, ((base []), (21, None))) ∷ (25, ((pointer [] (base [])), (25, None))) ∷ (28, ((struct [] 0), (28, None)))
    ∷ (31, ((pointer [] (struct [] 0)), (31, None)))
    ∷ (34, ((function [] (more_types (base []) no_types) (base []) None), (34, (Some 34))))
    ∷ (50, ((pointer [] (base [])), (50, None))) ∷ (63, ((struct [] 0), (63, None)))
    ∷ (76, ((pointer [] (base [])), (76, None))) ∷ (92, ((base []), (92, None))) ∷ [])))
    × ((faults_of (source_19 ∷ []) ≡ [])
    × (rows_of (source_19 ∷ []) (1 ∷ 3 ∷ 7 ∷ 11 ∷ 15 ∷ 21 ∷ 25 ∷ 28 ∷ 31 ∷ 34 ∷ 54 ∷ 67 ∷ 84 ∷ [])
    ≡ ((1, ((base []), (1, None))) ∷ (3, ((base []), (3, None))) ∷ (7, ((pointer [] (base [])), (7, None)))
    ∷ (11, ((base ((1, 9) ∷ [])), (11, None))) ∷ (15, ((base ((1, 13) ∷ [])), (15, None)))
    ∷ (21, ((base []), (21, None))) ∷ (25, ((pointer [] (base [])), (25, None))) ∷ (28, ((struct [] 0), (28, None)))
    ∷ (31, ((pointer [] (struct [] 0)), (31, None)))
    ∷ (34, ((function [] (more_types (base []) no_types) (base []) None), (34, (Some 34))))
    ∷ (54, ((pointer [] (base [])), (54, None))) ∷ (67, ((base []), (67, None)))
    ∷ (84, ((pointer [] (struct [] 0)), (84, None))) ∷ [])))
    × ((faults_of (source_20 ∷ []) ≡ [])
    × (rows_of (source_20 ∷ []) (1 ∷ 3 ∷ 7 ∷ 11 ∷ 15 ∷ 21 ∷ 25 ∷ 28 ∷ 31 ∷ 34 ∷ 40 ∷ [])
    ≡ ((1, ((base []), (1, None))) ∷ (3, ((base []), (3, None))) ∷ (7, ((pointer [] (base [])), (7, None)))
    ∷ (11, ((base ((1, 9) ∷ [])), (11, None))) ∷ (15, ((base ((1, 13) ∷ [])), (15, None)))
    ∷ (21, ((base []), (21, None))) ∷ (25, ((pointer [] (base [])), (25, None))) ∷ (28, ((struct [] 0), (28, None)))
    ∷ (31, ((pointer [] (struct [] 0)), (31, None)))
    ∷ (34, ((function [] (more_types (base []) no_types) (base []) None), (34, (Some 34))))
    ∷ (40, ((function [] no_types (void []) None), (40, (Some 40)))) ∷ [])))
    × ((faults_of (source_21 ∷ []) ≡ [])
    × (rows_of (source_21 ∷ []) (1 ∷ 3 ∷ 7 ∷ 11 ∷ 15 ∷ 21 ∷ 25 ∷ 28 ∷ 31 ∷ 34 ∷ 55 ∷ 73 ∷ 91 ∷ 108 ∷ [])
    ≡ ((1, ((base []), (1, None))) ∷ (3, ((base []), (3, None))) ∷ (7, ((pointer [] (base [])), (7, None)))
    ∷ (11, ((base ((1, 9) ∷ [])), (11, None))) ∷ (15, ((base ((1, 13) ∷ [])), (15, None)))
    ∷ (21, ((base []), (21, None))) ∷ (25, ((pointer [] (base [])), (25, None))) ∷ (28, ((struct [] 0), (28, None)))
    ∷ (31, ((pointer [] (struct [] 0)), (31, None)))
    ∷ (34, ((function [] (more_types (base []) no_types) (base []) None), (34, (Some 34))))
    ∷ (55, ((base []), (55, None))) ∷ (73, ((pointer [] (base [])), (73, None)))
    ∷ (91, ((pointer [] (struct [] 0)), (91, None))) ∷ (108, ((pointer [] (struct [] 0)), (108, None))) ∷ [])))
    × ((faults_of (source_22 ∷ []) ≡ [])
    × (rows_of (source_22 ∷ []) (1 ∷ 3 ∷ 7 ∷ 11 ∷ 15 ∷ 21 ∷ 25 ∷ 28 ∷ 31 ∷ 34 ∷ 64 ∷ 86 ∷ 103 ∷ [])
    ≡ ((1, ((base []), (1, None))) ∷ (3, ((base []), (3, None))) ∷ (7, ((pointer [] (base [])), (7, None)))
    ∷ (11, ((base ((1, 9) ∷ [])), (11, None))) ∷ (15, ((base ((1, 13) ∷ [])), (15, None)))
    ∷ (21, ((base []), (21, None))) ∷ (25, ((pointer [] (base [])), (25, None))) ∷ (28, ((struct [] 0), (28, None)))
    ∷ (31, ((pointer [] (struct [] 0)), (31, None)))
    ∷ (34, ((function [] (more_types (base []) no_types) (base []) None), (34, (Some 34))))
    ∷ (64, ((base []), (64, None))) ∷ (86, ((pointer [] (base [])), (86, None)))
    ∷ (103, ((struct [] 0), (103, None))) ∷ [])))
    × ((faults_of (source_23 ∷ []) ≡ [])
    × (rows_of (source_23 ∷ []) (1 ∷ 3 ∷ 7 ∷ 11 ∷ 15 ∷ 21 ∷ 25 ∷ 28 ∷ 31 ∷ 34 ∷ 40 ∷ [])
    ≡ ((1, ((base []), (1, None))) ∷ (3, ((base []), (3, None))) ∷ (7, ((pointer [] (base [])), (7, None)))
    ∷ (11, ((base ((1, 9) ∷ [])), (11, None))) ∷ (15, ((base ((1, 13) ∷ [])), (15, None)))
    ∷ (21, ((base []), (21, None))) ∷ (25, ((pointer [] (base [])), (25, None))) ∷ (28, ((struct [] 0), (28, None)))
    ∷ (31, ((pointer [] (struct [] 0)), (31, None)))
    ∷ (34, ((function [] (more_types (base []) no_types) (base []) None), (34, (Some 34))))
    ∷ (40, ((function [] no_types (void []) None), (40, (Some 40)))) ∷ [])))
    × ((faults_of (source_24 ∷ []) ≡ []) × (rows_of (source_24 ∷ []) (1 ∷ 4 ∷ 9 ∷ 36 ∷ [])
    ≡ ((1, ((function [] (more_types (base []) no_types) (void []) None), (1, (Some 1))))
    ∷ (4, ((base []), (4, (Some 1)))) ∷ (9, ((pointer [] (pointer [] (void []))), (9, (Some 1))))
    ∷ (36, ((pointer [] (void [])), (36, (Some 1)))) ∷ [])))
    × ((faults_of (source_25 ∷ []) ≡ [])
    × (rows_of (source_25 ∷ []) (5 ∷ []) ≡ ((5, ((pointer [] (void [])), (5, None))) ∷ [])))
    × ((faults_of (source_26 ∷ []) ≡ [])
    × (rows_of (source_26 ∷ []) (1 ∷ []) ≡ ((1, ((function [] no_types (void []) None), (1, (Some 1)))) ∷ [])))
    × ((faults_of (source_27 ∷ []) ≡ []) × (rows_of (source_27 ∷ []) (2 ∷ 9 ∷ 12 ∷ []) ≡ ((2, ((base []), (2, None)))
    ∷ (9, ((base []), (9, None))) ∷ (12, ((function [] no_types (void []) None), (12, (Some 12)))) ∷ [])))
    × ((faults_of (source_28 ∷ []) ≡ []) × (rows_of (source_28 ∷ []) (2 ∷ []) ≡ ((2, ((base []), (2, None))) ∷ [])))
    × ((faults_of (source_29 ∷ []) ≡ [])
    × (rows_of (source_29 ∷ []) (14 ∷ 23 ∷ 26 ∷ []) ≡ ((14, ((base []), (14, None))) ∷ (23, ((base []), (23, None)))
    ∷ (26, ((function [] no_types (void []) None), (26, (Some 26)))) ∷ [])))
    × ((faults_of (source_30 ∷ []) ≡ []) × (rows_of (source_30 ∷ []) (14 ∷ []) ≡ ((14, ((base []), (14, None))) ∷ [])))
    × ((faults_of (source_31 ∷ []) ≡ [])
    × (rows_of (source_31 ∷ []) (5 ∷ 11 ∷ []) ≡ ((5, ((base []), (5, None))) ∷ (11, ((base []), (11, None))) ∷ [])))
    × ((faults_of (source_32 ∷ []) ≡ []) × (rows_of (source_32 ∷ []) (14 ∷ []) ≡ ((14, ((base []), (14, None))) ∷ [])))

-- functions with lists of identifiers
abbrev pub Lists : Type 0
Lists =
    ((faults_of (source_33 ∷ []) ≡ []) × (rows_of (source_33 ∷ []) (1 ∷ 9 ∷ 12 ∷ []) ≡ ((
      1,
      ((function [] (more_types (base []) (more_types (pointer [] (base [])) no_types)) (base []) None), (1, (Some 1))),
    ) ∷ (9, ((pointer [] (base [])), (9, (Some 1)))) ∷ (12, ((base []), (12, (Some 1)))) ∷ [])))
    × ((faults_of (source_34 ∷ []) ≡ []) × (rows_of (source_34 ∷ []) (1 ∷ 8 ∷ 11 ∷ []) ≡ ((
      1,
      ((function [] (more_types (base []) (more_types (pointer [] (base [])) no_types)) (base []) None), (1, (Some 1))),
    ) ∷ (8, ((base []), (8, (Some 1)))) ∷ (11, ((pointer [] (base [])), (11, (Some 1)))) ∷ [])))
    × ((faults_of (source_35 ∷ []) ≡ []) × (rows_of (source_35 ∷ []) (1 ∷ 6 ∷ 18 ∷ 23 ∷ [])
    ≡ ((1, ((function [] (more_types (pointer [] (base [])) no_types) (base []) None), (1, (Some 1))))
    ∷ (6, ((pointer [] (base [])), (6, (Some 1)))) ∷ (
      18,
      (
        (function [] (more_types (pointer [] (function [] no_types (base []) (Some []))) no_types) (base []) None),
        (18, (Some 18)),
      ),
    ) ∷ (23, ((pointer [] (function [] no_types (base []) (Some []))), (23, (Some 18)))) ∷ [])))
    × ((faults_of (source_36 ∷ []) ≡ []) × (rows_of (source_36 ∷ []) (5 ∷ 12 ∷ 18 ∷ 22 ∷ 27 ∷ []) ≡ ((
      5,
      (
        (function [] (more_types (base []) (more_types (pointer [] (struct [] 0)) no_types)) (base []) None),
        (5, (Some 5)),
      ),
    ) ∷ (12, ((base []), (12, (Some 5)))) ∷ (18, ((base []), (18, None)))
    ∷ (22, ((pointer [] (struct [] 0)), (22, (Some 5)))) ∷ (27, ((struct [] 0), (27, (Some 5)))) ∷ [])))
    × ((faults_of (source_37 ∷ []) ≡ []) × (rows_of (source_37 ∷ []) (3 ∷ 12 ∷ []) ≡ ((
      3,
      (
        (function [] (more_types (base []) no_types)
            (pointer [] (function [] (more_types (base []) no_types) (base []) None)) None),
        (3, (Some 3)),
      ),
    ) ∷ (12, ((base []), (12, (Some 3)))) ∷ [])))
    × ((faults_of (source_38 ∷ []) ≡ []) × (rows_of (source_38 ∷ []) (2 ∷ 8 ∷ 19 ∷ 26 ∷ [])
    ≡ ((2, ((function [] (more_types (base []) no_types) (base []) None), (2, (Some 2))))
    ∷ (8, ((base []), (8, (Some 2))))
    ∷ (19, ((function [] (more_types (base []) no_types) (pointer [] (base [])) None), (19, (Some 19))))
    ∷ (26, ((base []), (26, (Some 19)))) ∷ [])))
    × ((faults_of (source_39 ∷ []) ≡ []) × (rows_of (source_39 ∷ []) (1 ∷ 6 ∷ 10 ∷ 16 ∷ [])
    ≡ ((1, ((function [] (more_types (base []) no_types) (base []) None), (1, (Some 1))))
    ∷ (6, ((base []), (6, (Some 1)))) ∷ (10, ((base []), (10, (Some 1)))) ∷ (16, ((base []), (16, (Some 1)))) ∷ [])))
    × ((faults_of (source_40 ∷ []) ≡ []) × (rows_of (source_40 ∷ []) (1 ∷ 6 ∷ 21 ∷ 28 ∷ 30 ∷ [])
    ≡ ((1, ((function [] no_types (base []) (Some [])), (1, (Some 1))))
    ∷ (6, ((function [] no_types (base []) None), (6, (Some 6))))
    ∷ (21, ((function [] (more_types (base []) (more_types (base []) no_types)) (base []) None), (1, (Some 1))))
    ∷ (28, ((base []), (28, (Some 1)))) ∷ (30, ((base []), (30, (Some 1)))) ∷ [])))
    × ((faults_of (source_41 ∷ []) ≡ []) × (rows_of (source_41 ∷ []) (1 ∷ 9 ∷ 16 ∷ 18 ∷ [])
    ≡ ((1, ((function [] (more_types (base []) (more_types (base []) no_types)) (base []) None), (1, (Some 1))))
    ∷ (9, ((function [] (more_types (base []) (more_types (base []) no_types)) (base []) None), (1, (Some 1))))
    ∷ (16, ((base []), (16, (Some 1)))) ∷ (18, ((base []), (18, (Some 1)))) ∷ [])))
    × ((faults_of (source_42 ∷ []) ≡ []) × (rows_of (source_42 ∷ []) (1 ∷ 8 ∷ 11 ∷ []) ≡ ((
      1,
      ((function [] (more_types (base []) (more_types (pointer [] (base [])) no_types)) (base []) None), (1, (Some 1))),
    ) ∷ (8, ((base []), (8, (Some 1)))) ∷ (11, ((pointer [] (base [])), (11, (Some 1)))) ∷ [])))
    × ((faults_of (source_43 ∷ []) ≡ []) × (rows_of (source_43 ∷ []) (1 ∷ 6 ∷ [])
    ≡ ((1, ((function [] (more_types (base []) no_types) (base []) None), (1, (Some 1))))
    ∷ (6, ((base []), (6, (Some 1)))) ∷ [])))

-- `__auto_type`, designators, ranges, labels, and a second body behind `extern inline`
abbrev pub Others : Type 0
Others =
    ((faults_of (source_44 ∷ []) ≡ [])
    × (rows_of (source_44 ∷ []) (1 ∷ 3 ∷ 7 ∷ 11 ∷ 15 ∷ 21 ∷ 25 ∷ 28 ∷ 31 ∷ 34 ∷ 40 ∷ 46 ∷ 51 ∷ 56 ∷ 61 ∷ 67 ∷ 73 ∷ [])
    ≡ ((1, ((base []), (1, None))) ∷ (3, ((base []), (3, None))) ∷ (7, ((pointer [] (base [])), (7, None)))
    ∷ (11, ((base ((1, 9) ∷ [])), (11, None))) ∷ (15, ((base ((1, 13) ∷ [])), (15, None)))
    ∷ (21, ((base []), (21, None))) ∷ (25, ((pointer [] (base [])), (25, None))) ∷ (28, ((struct [] 0), (28, None)))
    ∷ (31, ((pointer [] (struct [] 0)), (31, None)))
    ∷ (34, ((function [] (more_types (base []) no_types) (base []) None), (34, (Some 34))))
    ∷ (40, ((function [] no_types (void []) None), (40, (Some 40)))) ∷ (46, ((base []), (46, (Some 40))))
    ∷ (51, ((pointer [] (base [])), (51, (Some 40)))) ∷ (56, ((struct [] 0), (56, (Some 40))))
    ∷ (61, ((pointer [] (function [] (more_types (base []) no_types) (base []) None)), (61, (Some 40))))
    ∷ (67, ((pointer [] (pointer [] (base []))), (67, (Some 40))))
    ∷ (73, ((pointer [] (base [])), (73, (Some 40)))) ∷ [])))
    × ((faults_of (source_45 ∷ []) ≡ []) × (rows_of (source_45 ∷ []) (1 ∷ 4 ∷ 10 ∷ [])
    ≡ ((1, ((base []), (1, None))) ∷ (4, ((function [] no_types (void []) None), (4, (Some 4))))
    ∷ (10, ((pointer [] (base [])), (10, (Some 4)))) ∷ [])))
    × ((faults_of (source_46 ∷ []) ≡ []) × (rows_of (source_46 ∷ []) (1 ∷ 4 ∷ 10 ∷ [])
    ≡ ((1, ((base []), (1, None))) ∷ (4, ((base []), (4, None))) ∷ (10, ((base []), (10, None))) ∷ [])))
    × ((faults_of (source_47 ∷ []) ≡ [])
    × (rows_of (source_47 ∷ []) (1 ∷ 3 ∷ 7 ∷ 11 ∷ 15 ∷ 21 ∷ 25 ∷ 28 ∷ 31 ∷ 34 ∷ 40 ∷ 48 ∷ 60 ∷ 71 ∷ [])
    ≡ ((1, ((base []), (1, None))) ∷ (3, ((base []), (3, None))) ∷ (7, ((pointer [] (base [])), (7, None)))
    ∷ (11, ((base ((1, 9) ∷ [])), (11, None))) ∷ (15, ((base ((1, 13) ∷ [])), (15, None)))
    ∷ (21, ((base []), (21, None))) ∷ (25, ((pointer [] (base [])), (25, None))) ∷ (28, ((struct [] 0), (28, None)))
    ∷ (31, ((pointer [] (struct [] 0)), (31, None)))
    ∷ (34, ((function [] (more_types (base []) no_types) (base []) None), (34, (Some 34))))
    ∷ (40, ((function [] no_types (void []) None), (40, (Some 40)))) ∷ (48, ((pointer [] (base [])), (48, (Some 40))))
    ∷ (60, ((base []), (60, (Some 40)))) ∷ (71, ((pointer [] (base [])), (71, (Some 40)))) ∷ [])))
    × ((faults_of (source_48 ∷ []) ≡ [])
    × (rows_of (source_48 ∷ []) (1 ∷ 33 ∷ 37 ∷ 43 ∷ 67 ∷ []) ≡ ((1, ((pointer [] (base [])), (1, None)))
    ∷ (33, ((base []), (33, None))) ∷ (37, ((pointer [] (pointer [] (base []))), (37, None)))
    ∷ (43, ((struct [] 0), (43, None))) ∷ (67, ((pointer [] (struct [] 0)), (67, None))) ∷ [])))
    × ((faults_of (source_49 ∷ []) ≡ []) × (rows_of (source_49 ∷ []) (4 ∷ 8 ∷ 11 ∷ 25 ∷ 39 ∷ 43 ∷ 46 ∷ [])
    ≡ ((4, ((base []), (4, None))) ∷ (8, ((pointer [] (base [])), (8, None))) ∷ (11, ((struct [] 0), (11, None)))
    ∷ (25, ((struct [] 0), (25, None))) ∷ (39, ((base []), (39, None))) ∷ (43, ((pointer [] (base [])), (43, None)))
    ∷ (46, ((struct [] 1), (46, None))) ∷ [])))
    × ((faults_of (source_50 ∷ []) ≡ []) × (rows_of (source_50 ∷ []) (1 ∷ 4 ∷ [])
    ≡ ((1, ((base []), (1, None))) ∷ (4, ((function [] no_types (void []) None), (4, (Some 4)))) ∷ [])))
    × ((faults_of (source_51 ∷ []) ≡ []) × (rows_of (source_51 ∷ []) (1 ∷ 22 ∷ [])
    ≡ ((1, ((function [] no_types (void []) None), (1, (Some 1)))) ∷ (22, ((base []), (22, (Some 1)))) ∷ [])))
    × ((faults_of (source_52 ∷ []) ≡ []) × (rows_of (source_52 ∷ []) (3 ∷ 6 ∷ 14 ∷ 17 ∷ [])
    ≡ ((3, ((function [] (more_types (base []) no_types) (base []) None), (3, (Some 3))))
    ∷ (6, ((base []), (6, (Some 3))))
    ∷ (14, ((function [] (more_types (base []) no_types) (base []) None), (3, (Some 3))))
    ∷ (17, ((base []), (17, (Some 3)))) ∷ [])))

-- first faults: of names in operands, of types that no expression gives, and of lists of identifiers
abbrev pub Faults : Type 0
Faults =
    (least_fault (faults_of (source_53 ∷ [])) ≡ Some (2, 1))
    × (least_fault (faults_of (source_54 ∷ [])) ≡ Some (5, 2))
    × (least_fault (faults_of (source_55 ∷ [])) ≡ Some (13, 9))
    × (least_fault (faults_of (source_56 ∷ [])) ≡ Some (18, 9))
    × (least_fault (faults_of (source_57 ∷ [])) ≡ Some (9, 2))
    × (least_fault (faults_of (source_58 ∷ [])) ≡ Some (9, 1))
    × (least_fault (faults_of (source_59 ∷ [])) ≡ Some (17, 9))
    × (least_fault (faults_of (source_60 ∷ [])) ≡ Some (6, 2))
    × (least_fault (faults_of (source_61 ∷ [])) ≡ Some (5, 1))
    × (least_fault (faults_of (source_62 ∷ [])) ≡ Some (8, 1))
    × (least_fault (faults_of (source_63 ∷ [])) ≡ Some (5, 7))
    × (least_fault (faults_of (source_64 ∷ [])) ≡ Some (9, 7))
    × (least_fault (faults_of (source_65 ∷ [])) ≡ Some (3, 1))
    × (least_fault (faults_of (source_66 ∷ [])) ≡ Some (14, 7))
    × (least_fault (faults_of (source_67 ∷ [])) ≡ Some (9, 7))
    × (least_fault (faults_of (source_68 ∷ [])) ≡ Some (42, 7))
    × (least_fault (faults_of (source_69 ∷ [])) ≡ Some (13, 7))

-- first faults: of values, and of calls by the types of a list
abbrev pub MoreFaults : Type 0
MoreFaults =
    (least_fault (faults_of (source_70 ∷ [])) ≡ Some (21, 5))
    × (least_fault (faults_of (source_71 ∷ [])) ≡ Some (9, 5))
    × (least_fault (faults_of (source_72 ∷ [])) ≡ Some (9, 1))
    × (least_fault (faults_of (source_73 ∷ [])) ≡ Some (4, 2))
    × (least_fault (faults_of (source_74 ∷ [])) ≡ Some (10, 4))
    × (least_fault (faults_of (source_75 ∷ [])) ≡ Some (14, 1))
    × (least_fault (faults_of (source_76 ∷ [])) ≡ Some (8, 1))
    × (least_fault (faults_of (source_77 ∷ [])) ≡ Some (9, 2))
    × (least_fault (faults_of (source_78 ∷ [])) ≡ Some (8, 6))
    × (least_fault (faults_of (source_79 ∷ [])) ≡ Some (17, 6))
    × (least_fault (faults_of (source_80 ∷ [])) ≡ Some (18, 6))
    × (least_fault (faults_of (source_81 ∷ [])) ≡ Some (16, 2))
    × (least_fault (faults_of (source_82 ∷ [])) ≡ Some (9, 2))
    × (least_fault (faults_of (source_83 ∷ [])) ≡ Some (54, 4))
    × (least_fault (faults_of (source_84 ∷ [])) ≡ Some (57, 6))
    × (least_fault (faults_of (source_85 ∷ [])) ≡ Some (52, 1))
    × (least_fault (faults_of (source_86 ∷ [])) ≡ Some (45, 2))
    × (least_fault (faults_of (source_87 ∷ [])) ≡ Some (11, 6))

-- every example of wider C has the names, types and faults of its table
abbrev pub WiderHold : Type 0
WiderHold = Typeofs × Values × Lists × Others × Faults × MoreFaults
