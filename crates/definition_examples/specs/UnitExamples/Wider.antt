-- Small sources of wider C with their tokens, their trees and their heights, which were worked out elsewhere: each form
-- that wider C alone has stands in one of them. The trees were made from the sources by a program outside the
-- repository.
use Rattle.std.specs.Prelude.{◌≡◌, ℕ, List, [], ◌∷◌, None, Some, is_some, true}
use Rattle.c_words.specs.declared.kinds.TokenKind.{TokenKind}
use Rattle.c_words.specs.declared.kinds.TokenKind.TheVariants as kinds
use Rattle.c_words.specs.declared.kinds.Keyword.TheVariants as keywords
use Rattle.c_words.specs.declared.kinds.Punct.TheVariants as signs
use Rattle.c_syntax.specs.declared.parts.Qual.TheVariants as quals
use Rattle.c_syntax.specs.declared.parts.PointerWord.TheVariants as pointer_words
use Rattle.c_syntax.specs.declared.parts.ArrayWord.TheVariants as array_words
use Rattle.c_tree.specs.Tree.{operation, cast, prefix, sizeof_type, index, dot, arrow, post, name_use, number_use, char_use, paren, statement_expr, complex_part, label_use, compat, choose, generic, no_assocs, more_assocs, typed_assoc, default_assoc, assign, binary, no_expr, some_expr, no_words, more_words, storage, inline_word, qualifier, basic, struct_type, enum_type, typedef_name, typeof_value, typeof_type, align, auto_word, no_body, some_body, no_struct_items, more_struct_items, member, no_mem_declrs, more_mem_declrs, named, no_value, enum_of, some_enum_body, no_enumerators, more_enumerators, pointer, declr_name, declr_paren, array, params, abs_pointer, abs_paren, abs_params, identifiers, base_name, no_declr, some_declr, no_size, some_size, size_value, no_params, more_params, init_value, init_braced, init_list, no_init_items, more_init_items, no_desigs, more_desigs, member_desig, index_desig, range_desig, old_desig, no_init, some_init, no_init_declrs, more_init_declrs, declaration, decl_declaration, no_block_items, more_block_items, block_decl, block_stmt, block_labels, block, expr_stmt, label, default_stmt, if_stmt, switch_stmt, for_stmt, return_stmt, case_range, goto_value, no_else, start_declaration}
use Rattle.c_tree.specs.Unit.{Item, decl_item, function_item, old_function_item, AreTokensOf, unit_height}
use Rattle.c_units.specs.HeldScopes.{file_scope}
use Rattle.c_units.specs.Units.{items_scopes, numbered}
use Rattle.definition_examples.specs.UnitExamples.Examples.{IsMisnamed}

-- the tokens are those of the items, and each name has the kind of its place in wider C; the unit with them is so high
pub record IsWideExample (tokens : List TokenKind) (items : List Item) (height : ℕ) : Type 0 where
  pub spelled : AreTokensOf (numbered tokens) items
  pub high : unit_height items ≡ height
  pub named : is_some (items_scopes items (file_scope true)) ≡ true

-- the tokens are those of the items, and some name has not the kind of its place in wider C
pub record IsMisnamedWide (tokens : List TokenKind) (items : List Item) : Type 0 where
  pub spelled : AreTokensOf (numbered tokens) items
  pub misnamed : items_scopes items (file_scope true) ≡ None

-- int x; typeof(x) y;
abbrev pub items_1 : List Item
items_1 =
    ((decl_item (decl_declaration (declaration [] (more_words (basic (record { token = 0; keyword = keywords.Int }))
    no_words) (more_init_declrs [] (declr_name 1 0) None [] no_init no_init_declrs) 2)))
    ∷ (decl_item (decl_declaration (declaration [] (more_words (typeof_value 3 4 (name_use 5 0) 6) no_words)
    (more_init_declrs [] (declr_name 7 1) None [] no_init no_init_declrs) 8))) ∷ [])

-- its tokens
abbrev pub kinds_1 : List TokenKind
kinds_1 =
    ((kinds.Keyword keywords.Int) ∷ (kinds.Name 0) ∷ (kinds.Punct signs.Semicolon) ∷ (kinds.Keyword keywords.Typeof)
    ∷ (kinds.Punct signs.OpenParen) ∷ (kinds.Name 0) ∷ (kinds.Punct signs.CloseParen) ∷ (kinds.Name 1)
    ∷ (kinds.Punct signs.Semicolon) ∷ kinds.End ∷ [])

-- typeof(int *) *a;
abbrev pub items_2 : List Item
items_2 =
    ((decl_item (decl_declaration
    (declaration [] (more_words (typeof_type (record { token = 0; keyword = keywords.Typeof }) 1 (more_words (basic
    (record { token = 2; keyword = keywords.Int })) no_words) (some_declr (abs_pointer 3 [] no_declr)) 4) no_words)
    (more_init_declrs [] (pointer 5 [] (declr_name 6 0)) None [] no_init no_init_declrs) 7))) ∷ [])

-- its tokens
abbrev pub kinds_2 : List TokenKind
kinds_2 =
    ((kinds.Keyword keywords.Typeof) ∷ (kinds.Punct signs.OpenParen) ∷ (kinds.Keyword keywords.Int)
    ∷ (kinds.Punct signs.Star) ∷ (kinds.Punct signs.CloseParen) ∷ (kinds.Punct signs.Star) ∷ (kinds.Name 0)
    ∷ (kinds.Punct signs.Semicolon) ∷ kinds.End ∷ [])

-- int k; typeof(k) c, *d, e[2], g(typeof(k));
abbrev pub items_3 : List Item
items_3 =
    ((decl_item (decl_declaration (declaration [] (more_words (basic (record { token = 0; keyword = keywords.Int }))
    no_words) (more_init_declrs [] (declr_name 1 0) None [] no_init no_init_declrs) 2)))
    ∷ (decl_item (decl_declaration (declaration [] (more_words (typeof_value 3 4 (name_use 5 0) 6) no_words)
    (more_init_declrs [] (declr_name 7 1) None [] no_init (more_init_declrs [] (pointer 9 [] (declr_name 10 2)) None
    [] no_init (more_init_declrs [] (array (declr_name 12 3) 13 [] (some_size (size_value (number_use 14))) 15) None
    [] no_init (more_init_declrs [] (params (declr_name 17 4) 18 (more_params (more_words (typeof_value 19 20
    (name_use 21 0) 22) no_words) no_declr [] no_params) None 23) None [] no_init no_init_declrs)))) 24))) ∷ [])

-- its tokens
abbrev pub kinds_3 : List TokenKind
kinds_3 =
    ((kinds.Keyword keywords.Int) ∷ (kinds.Name 0) ∷ (kinds.Punct signs.Semicolon) ∷ (kinds.Keyword keywords.Typeof)
    ∷ (kinds.Punct signs.OpenParen) ∷ (kinds.Name 0) ∷ (kinds.Punct signs.CloseParen) ∷ (kinds.Name 1)
    ∷ (kinds.Punct signs.Comma) ∷ (kinds.Punct signs.Star) ∷ (kinds.Name 2) ∷ (kinds.Punct signs.Comma) ∷ (kinds.Name 3)
    ∷ (kinds.Punct signs.OpenBracket) ∷ kinds.Number ∷ (kinds.Punct signs.CloseBracket) ∷ (kinds.Punct signs.Comma)
    ∷ (kinds.Name 4) ∷ (kinds.Punct signs.OpenParen) ∷ (kinds.Keyword keywords.Typeof) ∷ (kinds.Punct signs.OpenParen)
    ∷ (kinds.Name 0) ∷ (kinds.Punct signs.CloseParen) ∷ (kinds.Punct signs.CloseParen) ∷ (kinds.Punct signs.Semicolon)
    ∷ kinds.End ∷ [])

-- typeof(enum { E1 }) d; int e = E1;
abbrev pub items_4 : List Item
items_4 =
    ((decl_item (decl_declaration (declaration [] (more_words (typeof_type
    (record { token = 0; keyword = keywords.Typeof }) 1 (more_words (enum_type (enum_of 2 [] None (some_enum_body 3
    (more_enumerators (record { token = 4; name = 0 }) [] no_value no_enumerators) None 5))) no_words) no_declr 6)
    no_words) (more_init_declrs [] (declr_name 7 1) None [] no_init no_init_declrs) 8))) ∷ (decl_item (decl_declaration
    (declaration [] (more_words (basic (record { token = 9; keyword = keywords.Int })) no_words) (more_init_declrs []
    (declr_name 10 2) None [] (some_init 11 (init_value (name_use 12 0))) no_init_declrs) 13))) ∷ [])

-- its tokens
abbrev pub kinds_4 : List TokenKind
kinds_4 =
    ((kinds.Keyword keywords.Typeof) ∷ (kinds.Punct signs.OpenParen) ∷ (kinds.Keyword keywords.Enum)
    ∷ (kinds.Punct signs.OpenBrace) ∷ (kinds.Name 0) ∷ (kinds.Punct signs.CloseBrace) ∷ (kinds.Punct signs.CloseParen)
    ∷ (kinds.Name 1) ∷ (kinds.Punct signs.Semicolon) ∷ (kinds.Keyword keywords.Int) ∷ (kinds.Name 2)
    ∷ (kinds.Punct signs.Equal) ∷ (kinds.Name 0) ∷ (kinds.Punct signs.Semicolon) ∷ kinds.End ∷ [])

-- typedef int T; const typeof(T) a; struct s { typeof(a) m; };
abbrev pub items_5 : List Item
items_5 = ((decl_item
    (decl_declaration (declaration [] (more_words (storage (record { token = 0; keyword = keywords.Typedef }))
    (more_words (basic (record { token = 1; keyword = keywords.Int })) no_words))
    (more_init_declrs [] (declr_name 2 0) None [] no_init no_init_declrs) 3))) ∷ (decl_item (decl_declaration
    (declaration [] (more_words (qualifier (quals.Word (record { token = 4; keyword = keywords.Const })))
    (more_words (typeof_type (record { token = 5; keyword = keywords.Typeof }) 6
    (more_words (typedef_name (record { token = 7; name = 0 })) no_words) no_declr 8) no_words))
    (more_init_declrs [] (declr_name 9 1) None [] no_init no_init_declrs) 10)))
    ∷ (decl_item (decl_declaration (declaration [] (more_words (struct_type
    (record { token = 11; keyword = keywords.Struct }) [] (Some (record { token = 12; name = 2 })) (some_body 13
    (more_struct_items (member [] (more_words (typeof_value 14 15 (name_use 16 1) 17) no_words) (more_mem_declrs []
    (named (declr_name 18 3) no_value []) no_mem_declrs) 19) no_struct_items) 20)) no_words) no_init_declrs 21))) ∷ [])

-- its tokens
abbrev pub kinds_5 : List TokenKind
kinds_5 =
    ((kinds.Keyword keywords.Typedef) ∷ (kinds.Keyword keywords.Int) ∷ (kinds.Name 0) ∷ (kinds.Punct signs.Semicolon)
    ∷ (kinds.Keyword keywords.Const) ∷ (kinds.Keyword keywords.Typeof) ∷ (kinds.Punct signs.OpenParen) ∷ (kinds.Name 0)
    ∷ (kinds.Punct signs.CloseParen) ∷ (kinds.Name 1) ∷ (kinds.Punct signs.Semicolon) ∷ (kinds.Keyword keywords.Struct)
    ∷ (kinds.Name 2) ∷ (kinds.Punct signs.OpenBrace) ∷ (kinds.Keyword keywords.Typeof) ∷ (kinds.Punct signs.OpenParen)
    ∷ (kinds.Name 1) ∷ (kinds.Punct signs.CloseParen) ∷ (kinds.Name 3) ∷ (kinds.Punct signs.Semicolon)
    ∷ (kinds.Punct signs.CloseBrace) ∷ (kinds.Punct signs.Semicolon) ∷ kinds.End ∷ [])

-- void f(int x) { typeof(x) x = 1; for (typeof(x) i = 0; ; ) ; }
abbrev pub items_6 : List Item
items_6 =
    ((function_item [] (more_words (basic (record { token = 0; keyword = keywords.Void })) no_words)
    (params (declr_name 1 0) 2 (more_params (more_words (basic (record { token = 3; keyword = keywords.Int })) no_words)
    (some_declr (declr_name 4 1)) [] no_params) None 5) [] 6 (more_block_items (block_decl (decl_declaration
    (declaration [] (more_words (typeof_value 7 8 (name_use 9 1) 10) no_words) (more_init_declrs [] (declr_name 11 1)
    None [] (some_init 12 (init_value (number_use 13))) no_init_declrs) 14))) (more_block_items (block_stmt
    (for_stmt 15 16 (start_declaration (declaration [] (more_words (typeof_value 17 18 (name_use 19 1) 20) no_words)
    (more_init_declrs [] (declr_name 21 2) None [] (some_init 22 (init_value (number_use 23))) no_init_declrs) 24))
    no_expr 25 no_expr 26 (expr_stmt no_expr 27))) no_block_items)) 28) ∷ [])

-- its tokens
abbrev pub kinds_6 : List TokenKind
kinds_6 =
    ((kinds.Keyword keywords.Void) ∷ (kinds.Name 0) ∷ (kinds.Punct signs.OpenParen) ∷ (kinds.Keyword keywords.Int)
    ∷ (kinds.Name 1) ∷ (kinds.Punct signs.CloseParen) ∷ (kinds.Punct signs.OpenBrace) ∷ (kinds.Keyword keywords.Typeof)
    ∷ (kinds.Punct signs.OpenParen) ∷ (kinds.Name 1) ∷ (kinds.Punct signs.CloseParen) ∷ (kinds.Name 1)
    ∷ (kinds.Punct signs.Equal) ∷ kinds.Number ∷ (kinds.Punct signs.Semicolon) ∷ (kinds.Keyword keywords.For)
    ∷ (kinds.Punct signs.OpenParen) ∷ (kinds.Keyword keywords.Typeof) ∷ (kinds.Punct signs.OpenParen) ∷ (kinds.Name 1)
    ∷ (kinds.Punct signs.CloseParen) ∷ (kinds.Name 2) ∷ (kinds.Punct signs.Equal) ∷ kinds.Number
    ∷ (kinds.Punct signs.Semicolon) ∷ (kinds.Punct signs.Semicolon) ∷ (kinds.Punct signs.CloseParen)
    ∷ (kinds.Punct signs.Semicolon) ∷ (kinds.Punct signs.CloseBrace) ∷ kinds.End ∷ [])

-- _Atomic int a; int *_Atomic c; _Atomic(int *) d; int _Atomic e;
abbrev pub items_7 : List Item
items_7 =
    ((decl_item (decl_declaration
    (declaration [] (more_words (qualifier (quals.Word (record { token = 0; keyword = keywords.Atomic })))
    (more_words (basic (record { token = 1; keyword = keywords.Int })) no_words))
    (more_init_declrs [] (declr_name 2 0) None [] no_init no_init_declrs) 3))) ∷ (decl_item
    (decl_declaration (declaration [] (more_words (basic (record { token = 4; keyword = keywords.Int })) no_words)
    (more_init_declrs [] (pointer 5 ((pointer_words.Qual (quals.Word (record { token = 6; keyword = keywords.Atomic })))
    ∷ []) (declr_name 7 1)) None [] no_init no_init_declrs) 8))) ∷ (decl_item (decl_declaration
    (declaration [] (more_words (typeof_type (record { token = 9; keyword = keywords.AtomicType }) 10 (more_words (basic
    (record { token = 11; keyword = keywords.Int })) no_words) (some_declr (abs_pointer 12 [] no_declr)) 13) no_words)
    (more_init_declrs [] (declr_name 14 2) None [] no_init no_init_declrs) 15)))
    ∷ (decl_item (decl_declaration (declaration [] (more_words (basic (record { token = 16; keyword = keywords.Int }))
    (more_words (qualifier (quals.Word (record { token = 17; keyword = keywords.Atomic }))) no_words))
    (more_init_declrs [] (declr_name 18 3) None [] no_init no_init_declrs) 19))) ∷ [])

-- its tokens
abbrev pub kinds_7 : List TokenKind
kinds_7 =
    ((kinds.Keyword keywords.Atomic) ∷ (kinds.Keyword keywords.Int) ∷ (kinds.Name 0) ∷ (kinds.Punct signs.Semicolon)
    ∷ (kinds.Keyword keywords.Int) ∷ (kinds.Punct signs.Star) ∷ (kinds.Keyword keywords.Atomic) ∷ (kinds.Name 1)
    ∷ (kinds.Punct signs.Semicolon) ∷ (kinds.Keyword keywords.AtomicType) ∷ (kinds.Punct signs.OpenParen)
    ∷ (kinds.Keyword keywords.Int) ∷ (kinds.Punct signs.Star) ∷ (kinds.Punct signs.CloseParen) ∷ (kinds.Name 2)
    ∷ (kinds.Punct signs.Semicolon) ∷ (kinds.Keyword keywords.Int) ∷ (kinds.Keyword keywords.Atomic) ∷ (kinds.Name 3)
    ∷ (kinds.Punct signs.Semicolon) ∷ kinds.End ∷ [])

-- __seg_fs int x; int __seg_gs *p; void f(int a[__seg_fs 3]);
abbrev pub items_8 : List Item
items_8 =
    ((decl_item (decl_declaration
    (declaration [] (more_words (qualifier (quals.Word (record { token = 0; keyword = keywords.Seg })))
    (more_words (basic (record { token = 1; keyword = keywords.Int })) no_words))
    (more_init_declrs [] (declr_name 2 0) None [] no_init no_init_declrs) 3)))
    ∷ (decl_item (decl_declaration (declaration [] (more_words (basic (record { token = 4; keyword = keywords.Int }))
    (more_words (qualifier (quals.Word (record { token = 5; keyword = keywords.Seg }))) no_words))
    (more_init_declrs [] (pointer 6 [] (declr_name 7 1)) None [] no_init no_init_declrs) 8))) ∷ (decl_item
    (decl_declaration (declaration [] (more_words (basic (record { token = 9; keyword = keywords.Void })) no_words)
    (more_init_declrs [] (params (declr_name 10 2) 11
    (more_params (more_words (basic (record { token = 12; keyword = keywords.Int })) no_words) (some_declr
    (array (declr_name 13 3) 14 ((array_words.Qual (quals.Word (record { token = 15; keyword = keywords.Seg }))) ∷ [])
    (some_size (size_value (number_use 16))) 17)) [] no_params) None 18) None [] no_init no_init_declrs) 19))) ∷ [])

-- its tokens
abbrev pub kinds_8 : List TokenKind
kinds_8 =
    ((kinds.Keyword keywords.Seg) ∷ (kinds.Keyword keywords.Int) ∷ (kinds.Name 0) ∷ (kinds.Punct signs.Semicolon)
    ∷ (kinds.Keyword keywords.Int) ∷ (kinds.Keyword keywords.Seg) ∷ (kinds.Punct signs.Star) ∷ (kinds.Name 1)
    ∷ (kinds.Punct signs.Semicolon) ∷ (kinds.Keyword keywords.Void) ∷ (kinds.Name 2) ∷ (kinds.Punct signs.OpenParen)
    ∷ (kinds.Keyword keywords.Int) ∷ (kinds.Name 3) ∷ (kinds.Punct signs.OpenBracket) ∷ (kinds.Keyword keywords.Seg)
    ∷ kinds.Number ∷ (kinds.Punct signs.CloseBracket) ∷ (kinds.Punct signs.CloseParen) ∷ (kinds.Punct signs.Semicolon)
    ∷ kinds.End ∷ [])

-- _Alignas(16) int a; struct s { char _Alignas(int) d; };
abbrev pub items_9 : List Item
items_9 =
    ((decl_item (decl_declaration
    (declaration [] (more_words (align (record { keyword = 0; group = (record { first = 1; last = 3 }) }))
    (more_words (basic (record { token = 4; keyword = keywords.Int })) no_words))
    (more_init_declrs [] (declr_name 5 0) None [] no_init no_init_declrs) 6)))
    ∷ (decl_item (decl_declaration (declaration [] (more_words (struct_type
    (record { token = 7; keyword = keywords.Struct }) [] (Some (record { token = 8; name = 1 })) (some_body 9
    (more_struct_items (member [] (more_words (basic (record { token = 10; keyword = keywords.Char })) (more_words
    (align (record { keyword = 11; group = (record { first = 12; last = 14 }) })) no_words)) (more_mem_declrs []
    (named (declr_name 15 2) no_value []) no_mem_declrs) 16) no_struct_items) 17)) no_words) no_init_declrs 18))) ∷ [])

-- its tokens
abbrev pub kinds_9 : List TokenKind
kinds_9 =
    ((kinds.Keyword keywords.Alignas) ∷ (kinds.Punct signs.OpenParen) ∷ kinds.Number ∷ (kinds.Punct signs.CloseParen)
    ∷ (kinds.Keyword keywords.Int) ∷ (kinds.Name 0) ∷ (kinds.Punct signs.Semicolon) ∷ (kinds.Keyword keywords.Struct)
    ∷ (kinds.Name 1) ∷ (kinds.Punct signs.OpenBrace) ∷ (kinds.Keyword keywords.Char) ∷ (kinds.Keyword keywords.Alignas)
    ∷ (kinds.Punct signs.OpenParen) ∷ (kinds.Keyword keywords.Int) ∷ (kinds.Punct signs.CloseParen) ∷ (kinds.Name 2)
    ∷ (kinds.Punct signs.Semicolon) ∷ (kinds.Punct signs.CloseBrace) ∷ (kinds.Punct signs.Semicolon) ∷ kinds.End ∷ [])

-- int _Complex a; _Complex long long b; _Float128 _Complex d; __complex double e;
abbrev pub items_10 : List Item
items_10 =
    ((decl_item (decl_declaration (declaration [] (more_words (basic (record { token = 0; keyword = keywords.Int }))
    (more_words (basic (record { token = 1; keyword = keywords.AnyComplex })) no_words))
    (more_init_declrs [] (declr_name 2 0) None [] no_init no_init_declrs) 3))) ∷ (decl_item
    (decl_declaration (declaration [] (more_words (basic (record { token = 4; keyword = keywords.AnyComplex }))
    (more_words (basic (record { token = 5; keyword = keywords.Long }))
    (more_words (basic (record { token = 6; keyword = keywords.Long })) no_words)))
    (more_init_declrs [] (declr_name 7 1) None [] no_init no_init_declrs) 8))) ∷ (decl_item
    (decl_declaration (declaration [] (more_words (basic (record { token = 9; keyword = keywords.BaseWord }))
    (more_words (basic (record { token = 10; keyword = keywords.AnyComplex })) no_words))
    (more_init_declrs [] (declr_name 11 2) None [] no_init no_init_declrs) 12))) ∷ (decl_item
    (decl_declaration (declaration [] (more_words (basic (record { token = 13; keyword = keywords.AnyComplex }))
    (more_words (basic (record { token = 14; keyword = keywords.Double })) no_words))
    (more_init_declrs [] (declr_name 15 3) None [] no_init no_init_declrs) 16))) ∷ [])

-- its tokens
abbrev pub kinds_10 : List TokenKind
kinds_10 =
    ((kinds.Keyword keywords.Int) ∷ (kinds.Keyword keywords.AnyComplex) ∷ (kinds.Name 0) ∷ (kinds.Punct signs.Semicolon)
    ∷ (kinds.Keyword keywords.AnyComplex) ∷ (kinds.Keyword keywords.Long) ∷ (kinds.Keyword keywords.Long)
    ∷ (kinds.Name 1) ∷ (kinds.Punct signs.Semicolon) ∷ (kinds.Keyword keywords.BaseWord)
    ∷ (kinds.Keyword keywords.AnyComplex) ∷ (kinds.Name 2) ∷ (kinds.Punct signs.Semicolon)
    ∷ (kinds.Keyword keywords.AnyComplex) ∷ (kinds.Keyword keywords.Double) ∷ (kinds.Name 3)
    ∷ (kinds.Punct signs.Semicolon) ∷ kinds.End ∷ [])

-- typedef float _Float32, *_Float64; _Float32 x;
abbrev pub items_11 : List Item
items_11 = ((decl_item
    (decl_declaration (declaration [] (more_words (storage (record { token = 0; keyword = keywords.Typedef }))
    (more_words (basic (record { token = 1; keyword = keywords.Float })) no_words)) (more_init_declrs [] (base_name 2)
    None [] no_init (more_init_declrs [] (pointer 4 [] (base_name 5)) None [] no_init no_init_declrs)) 6))) ∷ (decl_item
    (decl_declaration (declaration [] (more_words (basic (record { token = 7; keyword = keywords.BaseWord })) no_words)
    (more_init_declrs [] (declr_name 8 0) None [] no_init no_init_declrs) 9))) ∷ [])

-- its tokens
abbrev pub kinds_11 : List TokenKind
kinds_11 =
    ((kinds.Keyword keywords.Typedef) ∷ (kinds.Keyword keywords.Float) ∷ (kinds.Keyword keywords.BaseWord)
    ∷ (kinds.Punct signs.Comma) ∷ (kinds.Punct signs.Star) ∷ (kinds.Keyword keywords.BaseWord)
    ∷ (kinds.Punct signs.Semicolon) ∷ (kinds.Keyword keywords.BaseWord) ∷ (kinds.Name 0) ∷ (kinds.Punct signs.Semicolon)
    ∷ kinds.End ∷ [])

-- typedef struct s { int m; } _Float32; typedef int (_Float64);
abbrev pub items_12 : List Item
items_12 =
    ((decl_item (decl_declaration
    (declaration [] (more_words (storage (record { token = 0; keyword = keywords.Typedef })) (more_words (struct_type
    (record { token = 1; keyword = keywords.Struct }) [] (Some (record { token = 2; name = 0 })) (some_body 3
    (more_struct_items (member [] (more_words (basic (record { token = 4; keyword = keywords.Int })) no_words)
    (more_mem_declrs [] (named (declr_name 5 1) no_value []) no_mem_declrs) 6) no_struct_items) 7)) no_words))
    (more_init_declrs [] (base_name 8) None [] no_init no_init_declrs) 9))) ∷ (decl_item
    (decl_declaration (declaration [] (more_words (storage (record { token = 10; keyword = keywords.Typedef }))
    (more_words (basic (record { token = 11; keyword = keywords.Int })) no_words))
    (more_init_declrs [] (declr_paren 12 [] (base_name 13) 14) None [] no_init no_init_declrs) 15))) ∷ [])

-- its tokens
abbrev pub kinds_12 : List TokenKind
kinds_12 =
    ((kinds.Keyword keywords.Typedef) ∷ (kinds.Keyword keywords.Struct) ∷ (kinds.Name 0) ∷ (kinds.Punct signs.OpenBrace)
    ∷ (kinds.Keyword keywords.Int) ∷ (kinds.Name 1) ∷ (kinds.Punct signs.Semicolon) ∷ (kinds.Punct signs.CloseBrace)
    ∷ (kinds.Keyword keywords.BaseWord) ∷ (kinds.Punct signs.Semicolon) ∷ (kinds.Keyword keywords.Typedef)
    ∷ (kinds.Keyword keywords.Int) ∷ (kinds.Punct signs.OpenParen) ∷ (kinds.Keyword keywords.BaseWord)
    ∷ (kinds.Punct signs.CloseParen) ∷ (kinds.Punct signs.Semicolon) ∷ kinds.End ∷ [])

-- int b[__builtin_types_compatible_p(struct s *, int) + 1];
abbrev pub items_13 : List Item
items_13 =
    ((decl_item (decl_declaration
    (declaration [] (more_words (basic (record { token = 0; keyword = keywords.Int })) no_words) (more_init_declrs []
    (array (declr_name 1 0) 2 [] (some_size (size_value (operation (compat 3 4 (more_words (struct_type
    (record { token = 5; keyword = keywords.Struct }) [] (Some (record { token = 6; name = 1 })) no_body) no_words)
    (some_declr (abs_pointer 7 [] no_declr)) 8 (more_words (basic (record { token = 9; keyword = keywords.Int }))
    no_words) no_declr 10) (binary signs.Plus) 11 (number_use 12)))) 13) None [] no_init no_init_declrs) 14))) ∷ [])

-- its tokens
abbrev pub kinds_13 : List TokenKind
kinds_13 =
    ((kinds.Keyword keywords.Int) ∷ (kinds.Name 0) ∷ (kinds.Punct signs.OpenBracket)
    ∷ (kinds.Keyword keywords.Compatible) ∷ (kinds.Punct signs.OpenParen) ∷ (kinds.Keyword keywords.Struct)
    ∷ (kinds.Name 1) ∷ (kinds.Punct signs.Star) ∷ (kinds.Punct signs.Comma) ∷ (kinds.Keyword keywords.Int)
    ∷ (kinds.Punct signs.CloseParen) ∷ (kinds.Punct signs.Plus) ∷ kinds.Number ∷ (kinds.Punct signs.CloseBracket)
    ∷ (kinds.Punct signs.Semicolon) ∷ kinds.End ∷ [])

-- int x = __builtin_choose_expr(1, 2, sizeof(int));
abbrev pub items_14 : List Item
items_14 =
    ((decl_item (decl_declaration (declaration [] (more_words (basic (record { token = 0; keyword = keywords.Int }))
    no_words) (more_init_declrs [] (declr_name 1 0) None [] (some_init 2 (init_value (choose 3 4 (number_use 5) 6
    (number_use 7) 8 (sizeof_type (record { token = 9; keyword = keywords.Sizeof }) 10 (more_words
    (basic (record { token = 11; keyword = keywords.Int })) no_words) no_declr 12) 13))) no_init_declrs) 14))) ∷ [])

-- its tokens
abbrev pub kinds_14 : List TokenKind
kinds_14 =
    ((kinds.Keyword keywords.Int) ∷ (kinds.Name 0) ∷ (kinds.Punct signs.Equal) ∷ (kinds.Keyword keywords.Choose)
    ∷ (kinds.Punct signs.OpenParen) ∷ kinds.Number ∷ (kinds.Punct signs.Comma) ∷ kinds.Number
    ∷ (kinds.Punct signs.Comma) ∷ (kinds.Keyword keywords.Sizeof) ∷ (kinds.Punct signs.OpenParen)
    ∷ (kinds.Keyword keywords.Int) ∷ (kinds.Punct signs.CloseParen) ∷ (kinds.Punct signs.CloseParen)
    ∷ (kinds.Punct signs.Semicolon) ∷ kinds.End ∷ [])

-- int x = _Generic(1, int *: 2, default: (3));
abbrev pub items_15 : List Item
items_15 =
    ((decl_item (decl_declaration (declaration [] (more_words (basic (record { token = 0; keyword = keywords.Int }))
    no_words) (more_init_declrs [] (declr_name 1 0) None [] (some_init 2 (init_value (generic 3 4 (number_use 5)
    (more_assocs (typed_assoc (more_words (basic (record { token = 7; keyword = keywords.Int })) no_words)
    (some_declr (abs_pointer 8 [] no_declr)) 9 (number_use 10))
    (more_assocs (default_assoc 12 13 (paren 14 (number_use 15) 16)) no_assocs)) 17))) no_init_declrs) 18))) ∷ [])

-- its tokens
abbrev pub kinds_15 : List TokenKind
kinds_15 =
    ((kinds.Keyword keywords.Int) ∷ (kinds.Name 0) ∷ (kinds.Punct signs.Equal) ∷ (kinds.Keyword keywords.Generic)
    ∷ (kinds.Punct signs.OpenParen) ∷ kinds.Number ∷ (kinds.Punct signs.Comma) ∷ (kinds.Keyword keywords.Int)
    ∷ (kinds.Punct signs.Star) ∷ (kinds.Punct signs.Colon) ∷ kinds.Number ∷ (kinds.Punct signs.Comma)
    ∷ (kinds.Keyword keywords.Default) ∷ (kinds.Punct signs.Colon) ∷ (kinds.Punct signs.OpenParen) ∷ kinds.Number
    ∷ (kinds.Punct signs.CloseParen) ∷ (kinds.Punct signs.CloseParen) ∷ (kinds.Punct signs.Semicolon) ∷ kinds.End ∷ [])

-- typedef int T; int x = _Generic((T)1, T: (T)2, char (*)(void): 4);
abbrev pub items_16 : List Item
items_16 = ((decl_item
    (decl_declaration (declaration [] (more_words (storage (record { token = 0; keyword = keywords.Typedef }))
    (more_words (basic (record { token = 1; keyword = keywords.Int })) no_words))
    (more_init_declrs [] (declr_name 2 0) None [] no_init no_init_declrs) 3))) ∷ (decl_item
    (decl_declaration (declaration [] (more_words (basic (record { token = 4; keyword = keywords.Int })) no_words)
    (more_init_declrs [] (declr_name 5 1) None [] (some_init 6 (init_value (generic 7 8
    (cast 9 (more_words (typedef_name (record { token = 10; name = 0 })) no_words) no_declr 11 (number_use 12))
    (more_assocs (typed_assoc (more_words (typedef_name (record { token = 14; name = 0 })) no_words) no_declr 15
    (cast 16 (more_words (typedef_name (record { token = 17; name = 0 })) no_words) no_declr 18 (number_use 19)))
    (more_assocs (typed_assoc (more_words (basic (record { token = 21; keyword = keywords.Char })) no_words)
    (some_declr (abs_params (some_declr (abs_paren 22 [] (abs_pointer 23 [] no_declr) 24)) 25 (more_params
    (more_words (basic (record { token = 26; keyword = keywords.Void })) no_words) no_declr [] no_params) None 27)) 28
    (number_use 29)) no_assocs)) 30))) no_init_declrs) 31))) ∷ [])

-- its tokens
abbrev pub kinds_16 : List TokenKind
kinds_16 =
    ((kinds.Keyword keywords.Typedef) ∷ (kinds.Keyword keywords.Int) ∷ (kinds.Name 0) ∷ (kinds.Punct signs.Semicolon)
    ∷ (kinds.Keyword keywords.Int) ∷ (kinds.Name 1) ∷ (kinds.Punct signs.Equal) ∷ (kinds.Keyword keywords.Generic)
    ∷ (kinds.Punct signs.OpenParen) ∷ (kinds.Punct signs.OpenParen) ∷ (kinds.Name 0) ∷ (kinds.Punct signs.CloseParen)
    ∷ kinds.Number ∷ (kinds.Punct signs.Comma) ∷ (kinds.Name 0) ∷ (kinds.Punct signs.Colon)
    ∷ (kinds.Punct signs.OpenParen) ∷ (kinds.Name 0) ∷ (kinds.Punct signs.CloseParen) ∷ kinds.Number
    ∷ (kinds.Punct signs.Comma) ∷ (kinds.Keyword keywords.Char) ∷ (kinds.Punct signs.OpenParen)
    ∷ (kinds.Punct signs.Star) ∷ (kinds.Punct signs.CloseParen) ∷ (kinds.Punct signs.OpenParen)
    ∷ (kinds.Keyword keywords.Void) ∷ (kinds.Punct signs.CloseParen) ∷ (kinds.Punct signs.Colon) ∷ kinds.Number
    ∷ (kinds.Punct signs.CloseParen) ∷ (kinds.Punct signs.Semicolon) ∷ kinds.End ∷ [])

-- double _Complex z; double d = __real__ z + __imag -z;
abbrev pub items_17 : List Item
items_17 =
    ((decl_item (decl_declaration (declaration [] (more_words (basic (record { token = 0; keyword = keywords.Double }))
    (more_words (basic (record { token = 1; keyword = keywords.AnyComplex })) no_words))
    (more_init_declrs [] (declr_name 2 0) None [] no_init no_init_declrs) 3))) ∷ (decl_item
    (decl_declaration (declaration [] (more_words (basic (record { token = 4; keyword = keywords.Double })) no_words)
    (more_init_declrs [] (declr_name 5 1) None [] (some_init 6 (init_value (operation (complex_part 7 (name_use 8 0))
    (binary signs.Plus) 9 (complex_part 10 (prefix 11 signs.Minus (name_use 12 0)))))) no_init_declrs) 13))) ∷ [])

-- its tokens
abbrev pub kinds_17 : List TokenKind
kinds_17 =
    ((kinds.Keyword keywords.Double) ∷ (kinds.Keyword keywords.AnyComplex) ∷ (kinds.Name 0)
    ∷ (kinds.Punct signs.Semicolon) ∷ (kinds.Keyword keywords.Double) ∷ (kinds.Name 1) ∷ (kinds.Punct signs.Equal)
    ∷ (kinds.Keyword keywords.Part) ∷ (kinds.Name 0) ∷ (kinds.Punct signs.Plus) ∷ (kinds.Keyword keywords.Part)
    ∷ (kinds.Punct signs.Minus) ∷ (kinds.Name 0) ∷ (kinds.Punct signs.Semicolon) ∷ kinds.End ∷ [])

-- void f(void) { void *p = &&a; goto *p; a: if (1 && &&a) ; }
abbrev pub items_18 : List Item
items_18 =
    ((function_item [] (more_words (basic (record { token = 0; keyword = keywords.Void })) no_words) (params
    (declr_name 1 0) 2 (more_params (more_words (basic (record { token = 3; keyword = keywords.Void })) no_words)
    no_declr [] no_params) None 4) [] 5 (more_block_items (block_decl (decl_declaration
    (declaration [] (more_words (basic (record { token = 6; keyword = keywords.Void })) no_words) (more_init_declrs []
    (pointer 7 [] (declr_name 8 1)) None [] (some_init 9 (init_value (label_use 10 (record { token = 11; name = 2 }))))
    no_init_declrs) 12))) (more_block_items (block_stmt (goto_value 13 14 (name_use 15 1) 16))
    (more_block_items (block_stmt (label (record { token = 17; name = 2 }) 18 [] (if_stmt 19 20
    (operation (number_use 21) (binary signs.AmpersandAmpersand) 22 (label_use 23 (record { token = 24; name = 2 }))) 25
    (expr_stmt no_expr 26) no_else))) no_block_items))) 27) ∷ [])

-- its tokens
abbrev pub kinds_18 : List TokenKind
kinds_18 =
    ((kinds.Keyword keywords.Void) ∷ (kinds.Name 0) ∷ (kinds.Punct signs.OpenParen) ∷ (kinds.Keyword keywords.Void)
    ∷ (kinds.Punct signs.CloseParen) ∷ (kinds.Punct signs.OpenBrace) ∷ (kinds.Keyword keywords.Void)
    ∷ (kinds.Punct signs.Star) ∷ (kinds.Name 1) ∷ (kinds.Punct signs.Equal) ∷ (kinds.Punct signs.AmpersandAmpersand)
    ∷ (kinds.Name 2) ∷ (kinds.Punct signs.Semicolon) ∷ (kinds.Keyword keywords.Goto) ∷ (kinds.Punct signs.Star)
    ∷ (kinds.Name 1) ∷ (kinds.Punct signs.Semicolon) ∷ (kinds.Name 2) ∷ (kinds.Punct signs.Colon)
    ∷ (kinds.Keyword keywords.If) ∷ (kinds.Punct signs.OpenParen) ∷ kinds.Number
    ∷ (kinds.Punct signs.AmpersandAmpersand) ∷ (kinds.Punct signs.AmpersandAmpersand) ∷ (kinds.Name 2)
    ∷ (kinds.Punct signs.CloseParen) ∷ (kinds.Punct signs.Semicolon) ∷ (kinds.Punct signs.CloseBrace) ∷ kinds.End ∷ [])

-- typedef float V __attribute__((vector_size(16))); V a; float b = a[1];
abbrev pub items_19 : List Item
items_19 =
    ((decl_item (decl_declaration
    (declaration [] (more_words (storage (record { token = 0; keyword = keywords.Typedef })) (more_words
    (basic (record { token = 1; keyword = keywords.Float })) no_words)) (more_init_declrs [] (declr_name 2 0) None
    ((record { keyword = 3; group = (record { first = 4; last = 11 }) }) ∷ []) no_init no_init_declrs) 12)))
    ∷ (decl_item (decl_declaration (declaration [] (more_words (typedef_name (record { token = 13; name = 0 }))
    no_words) (more_init_declrs [] (declr_name 14 2) None [] no_init no_init_declrs) 15)))
    ∷ (decl_item (decl_declaration (declaration [] (more_words
    (basic (record { token = 16; keyword = keywords.Float })) no_words) (more_init_declrs [] (declr_name 17 3) None []
    (some_init 18 (init_value (index (name_use 19 2) 20 (number_use 21) 22))) no_init_declrs) 23))) ∷ [])

-- its tokens
abbrev pub kinds_19 : List TokenKind
kinds_19 =
    ((kinds.Keyword keywords.Typedef) ∷ (kinds.Keyword keywords.Float) ∷ (kinds.Name 0)
    ∷ (kinds.Keyword keywords.Attribute) ∷ (kinds.Punct signs.OpenParen) ∷ (kinds.Punct signs.OpenParen)
    ∷ (kinds.Name 1) ∷ (kinds.Punct signs.OpenParen) ∷ kinds.Number ∷ (kinds.Punct signs.CloseParen)
    ∷ (kinds.Punct signs.CloseParen) ∷ (kinds.Punct signs.CloseParen) ∷ (kinds.Punct signs.Semicolon) ∷ (kinds.Name 0)
    ∷ (kinds.Name 2) ∷ (kinds.Punct signs.Semicolon) ∷ (kinds.Keyword keywords.Float) ∷ (kinds.Name 3)
    ∷ (kinds.Punct signs.Equal) ∷ (kinds.Name 2) ∷ (kinds.Punct signs.OpenBracket) ∷ kinds.Number
    ∷ (kinds.Punct signs.CloseBracket) ∷ (kinds.Punct signs.Semicolon) ∷ kinds.End ∷ [])

-- int f(a, b) int a; char *b; { return a + *b; }
abbrev pub items_20 : List Item
items_20 =
    ((old_function_item [] (more_words (basic (record { token = 0; keyword = keywords.Int })) no_words)
    (identifiers (declr_name 1 0) 2 ((record { token = 3; name = 1 }) ∷ (record { token = 5; name = 2 }) ∷ []) 6) []
    ((declaration [] (more_words (basic (record { token = 7; keyword = keywords.Int })) no_words)
    (more_init_declrs [] (declr_name 8 1) None [] no_init no_init_declrs) 9)
    ∷ (declaration [] (more_words (basic (record { token = 10; keyword = keywords.Char })) no_words)
    (more_init_declrs [] (pointer 11 [] (declr_name 12 2)) None [] no_init no_init_declrs) 13) ∷ []) 14
    (more_block_items (block_stmt (return_stmt 15 (some_expr (operation (name_use 16 1) (binary signs.Plus) 17
    (prefix 18 signs.Star (name_use 19 2)))) 20)) no_block_items) 21) ∷ [])

-- its tokens
abbrev pub kinds_20 : List TokenKind
kinds_20 =
    ((kinds.Keyword keywords.Int) ∷ (kinds.Name 0) ∷ (kinds.Punct signs.OpenParen) ∷ (kinds.Name 1)
    ∷ (kinds.Punct signs.Comma) ∷ (kinds.Name 2) ∷ (kinds.Punct signs.CloseParen) ∷ (kinds.Keyword keywords.Int)
    ∷ (kinds.Name 1) ∷ (kinds.Punct signs.Semicolon) ∷ (kinds.Keyword keywords.Char) ∷ (kinds.Punct signs.Star)
    ∷ (kinds.Name 2) ∷ (kinds.Punct signs.Semicolon) ∷ (kinds.Punct signs.OpenBrace) ∷ (kinds.Keyword keywords.Return)
    ∷ (kinds.Name 1) ∷ (kinds.Punct signs.Plus) ∷ (kinds.Punct signs.Star) ∷ (kinds.Name 2)
    ∷ (kinds.Punct signs.Semicolon) ∷ (kinds.Punct signs.CloseBrace) ∷ kinds.End ∷ [])

-- int (*f(a))(int) int a; { return 0; }
abbrev pub items_21 : List Item
items_21 =
    ((old_function_item [] (more_words (basic (record { token = 0; keyword = keywords.Int })) no_words) (params
    (declr_paren 1 [] (pointer 2 [] (identifiers (declr_name 3 0) 4 ((record { token = 5; name = 1 }) ∷ []) 6)) 7) 8
    (more_params (more_words (basic (record { token = 9; keyword = keywords.Int })) no_words) no_declr [] no_params)
    None 10) [] ((declaration [] (more_words (basic (record { token = 11; keyword = keywords.Int })) no_words)
    (more_init_declrs [] (declr_name 12 1) None [] no_init no_init_declrs) 13) ∷ []) 14
    (more_block_items (block_stmt (return_stmt 15 (some_expr (number_use 16)) 17)) no_block_items) 18) ∷ [])

-- its tokens
abbrev pub kinds_21 : List TokenKind
kinds_21 =
    ((kinds.Keyword keywords.Int) ∷ (kinds.Punct signs.OpenParen) ∷ (kinds.Punct signs.Star) ∷ (kinds.Name 0)
    ∷ (kinds.Punct signs.OpenParen) ∷ (kinds.Name 1) ∷ (kinds.Punct signs.CloseParen) ∷ (kinds.Punct signs.CloseParen)
    ∷ (kinds.Punct signs.OpenParen) ∷ (kinds.Keyword keywords.Int) ∷ (kinds.Punct signs.CloseParen)
    ∷ (kinds.Keyword keywords.Int) ∷ (kinds.Name 1) ∷ (kinds.Punct signs.Semicolon) ∷ (kinds.Punct signs.OpenBrace)
    ∷ (kinds.Keyword keywords.Return) ∷ kinds.Number ∷ (kinds.Punct signs.Semicolon) ∷ (kinds.Punct signs.CloseBrace)
    ∷ kinds.End ∷ [])

-- int (f)(a) register int a; { return a; }
abbrev pub items_22 : List Item
items_22 =
    ((old_function_item [] (more_words (basic (record { token = 0; keyword = keywords.Int })) no_words)
    (identifiers (declr_paren 1 [] (declr_name 2 0) 3) 4 ((record { token = 5; name = 1 }) ∷ []) 6) []
    ((declaration [] (more_words (storage (record { token = 7; keyword = keywords.Register }))
    (more_words (basic (record { token = 8; keyword = keywords.Int })) no_words))
    (more_init_declrs [] (declr_name 9 1) None [] no_init no_init_declrs) 10) ∷ []) 11
    (more_block_items (block_stmt (return_stmt 12 (some_expr (name_use 13 1)) 14)) no_block_items) 15) ∷ [])

-- its tokens
abbrev pub kinds_22 : List TokenKind
kinds_22 =
    ((kinds.Keyword keywords.Int) ∷ (kinds.Punct signs.OpenParen) ∷ (kinds.Name 0) ∷ (kinds.Punct signs.CloseParen)
    ∷ (kinds.Punct signs.OpenParen) ∷ (kinds.Name 1) ∷ (kinds.Punct signs.CloseParen)
    ∷ (kinds.Keyword keywords.Register) ∷ (kinds.Keyword keywords.Int) ∷ (kinds.Name 1) ∷ (kinds.Punct signs.Semicolon)
    ∷ (kinds.Punct signs.OpenBrace) ∷ (kinds.Keyword keywords.Return) ∷ (kinds.Name 1) ∷ (kinds.Punct signs.Semicolon)
    ∷ (kinds.Punct signs.CloseBrace) ∷ kinds.End ∷ [])

-- int f(a) __attribute__((unused)) __extension__ int a; { return a; }
abbrev pub items_23 : List Item
items_23 =
    ((old_function_item [] (more_words (basic (record { token = 0; keyword = keywords.Int })) no_words)
    (identifiers (declr_name 1 0) 2 ((record { token = 3; name = 1 }) ∷ []) 4)
    ((record { keyword = 5; group = (record { first = 6; last = 10 }) }) ∷ [])
    ((declaration (11 ∷ []) (more_words (basic (record { token = 12; keyword = keywords.Int })) no_words)
    (more_init_declrs [] (declr_name 13 1) None [] no_init no_init_declrs) 14) ∷ []) 15
    (more_block_items (block_stmt (return_stmt 16 (some_expr (name_use 17 1)) 18)) no_block_items) 19) ∷ [])

-- its tokens
abbrev pub kinds_23 : List TokenKind
kinds_23 =
    ((kinds.Keyword keywords.Int) ∷ (kinds.Name 0) ∷ (kinds.Punct signs.OpenParen) ∷ (kinds.Name 1)
    ∷ (kinds.Punct signs.CloseParen) ∷ (kinds.Keyword keywords.Attribute) ∷ (kinds.Punct signs.OpenParen)
    ∷ (kinds.Punct signs.OpenParen) ∷ (kinds.Name 2) ∷ (kinds.Punct signs.CloseParen) ∷ (kinds.Punct signs.CloseParen)
    ∷ (kinds.Keyword keywords.Extension) ∷ (kinds.Keyword keywords.Int) ∷ (kinds.Name 1) ∷ (kinds.Punct signs.Semicolon)
    ∷ (kinds.Punct signs.OpenBrace) ∷ (kinds.Keyword keywords.Return) ∷ (kinds.Name 1) ∷ (kinds.Punct signs.Semicolon)
    ∷ (kinds.Punct signs.CloseBrace) ∷ kinds.End ∷ [])

-- typedef int T; int f(a, b) T a; struct q { int m; } *b; { struct q z; return b->m + z.m; }
abbrev pub items_24 : List Item
items_24 = ((decl_item
    (decl_declaration (declaration [] (more_words (storage (record { token = 0; keyword = keywords.Typedef }))
    (more_words (basic (record { token = 1; keyword = keywords.Int })) no_words))
    (more_init_declrs [] (declr_name 2 0) None [] no_init no_init_declrs) 3)))
    ∷ (old_function_item [] (more_words (basic (record { token = 4; keyword = keywords.Int })) no_words)
    (identifiers (declr_name 5 1) 6 ((record { token = 7; name = 2 }) ∷ (record { token = 9; name = 3 }) ∷ []) 10) []
    ((declaration [] (more_words (typedef_name (record { token = 11; name = 0 })) no_words) (more_init_declrs []
    (declr_name 12 2) None [] no_init no_init_declrs) 13) ∷ (declaration [] (more_words (struct_type
    (record { token = 14; keyword = keywords.Struct }) [] (Some (record { token = 15; name = 4 })) (some_body 16
    (more_struct_items (member [] (more_words (basic (record { token = 17; keyword = keywords.Int })) no_words)
    (more_mem_declrs [] (named (declr_name 18 5) no_value []) no_mem_declrs) 19) no_struct_items) 20)) no_words)
    (more_init_declrs [] (pointer 21 [] (declr_name 22 3)) None [] no_init no_init_declrs) 23) ∷ []) 24
    (more_block_items (block_decl (decl_declaration (declaration [] (more_words (struct_type
    (record { token = 25; keyword = keywords.Struct }) [] (Some (record { token = 26; name = 4 })) no_body) no_words)
    (more_init_declrs [] (declr_name 27 6) None [] no_init no_init_declrs) 28))) (more_block_items
    (block_stmt (return_stmt 29 (some_expr (operation (arrow (name_use 30 3) 31 (record { token = 32; name = 5 }))
    (binary signs.Plus) 33 (dot (name_use 34 6) 35 (record { token = 36; name = 5 })))) 37)) no_block_items)) 38) ∷ [])

-- its tokens
abbrev pub kinds_24 : List TokenKind
kinds_24 =
    ((kinds.Keyword keywords.Typedef) ∷ (kinds.Keyword keywords.Int) ∷ (kinds.Name 0) ∷ (kinds.Punct signs.Semicolon)
    ∷ (kinds.Keyword keywords.Int) ∷ (kinds.Name 1) ∷ (kinds.Punct signs.OpenParen) ∷ (kinds.Name 2)
    ∷ (kinds.Punct signs.Comma) ∷ (kinds.Name 3) ∷ (kinds.Punct signs.CloseParen) ∷ (kinds.Name 0) ∷ (kinds.Name 2)
    ∷ (kinds.Punct signs.Semicolon) ∷ (kinds.Keyword keywords.Struct) ∷ (kinds.Name 4) ∷ (kinds.Punct signs.OpenBrace)
    ∷ (kinds.Keyword keywords.Int) ∷ (kinds.Name 5) ∷ (kinds.Punct signs.Semicolon) ∷ (kinds.Punct signs.CloseBrace)
    ∷ (kinds.Punct signs.Star) ∷ (kinds.Name 3) ∷ (kinds.Punct signs.Semicolon) ∷ (kinds.Punct signs.OpenBrace)
    ∷ (kinds.Keyword keywords.Struct) ∷ (kinds.Name 4) ∷ (kinds.Name 6) ∷ (kinds.Punct signs.Semicolon)
    ∷ (kinds.Keyword keywords.Return) ∷ (kinds.Name 3) ∷ (kinds.Punct signs.Arrow) ∷ (kinds.Name 5)
    ∷ (kinds.Punct signs.Plus) ∷ (kinds.Name 6) ∷ (kinds.Punct signs.Dot) ∷ (kinds.Name 5)
    ∷ (kinds.Punct signs.Semicolon) ∷ (kinds.Punct signs.CloseBrace) ∷ kinds.End ∷ [])

-- int f(T) int T; { typedef int f; f x; }
abbrev pub items_25 : List Item
items_25 =
    ((old_function_item [] (more_words (basic (record { token = 0; keyword = keywords.Int })) no_words)
    (identifiers (declr_name 1 0) 2 ((record { token = 3; name = 1 }) ∷ []) 4) []
    ((declaration [] (more_words (basic (record { token = 5; keyword = keywords.Int })) no_words)
    (more_init_declrs [] (declr_name 6 1) None [] no_init no_init_declrs) 7) ∷ []) 8 (more_block_items (block_decl
    (decl_declaration (declaration [] (more_words (storage (record { token = 9; keyword = keywords.Typedef }))
    (more_words (basic (record { token = 10; keyword = keywords.Int })) no_words))
    (more_init_declrs [] (declr_name 11 0) None [] no_init no_init_declrs) 12))) (more_block_items
    (block_decl (decl_declaration (declaration [] (more_words (typedef_name (record { token = 13; name = 0 })) no_words)
    (more_init_declrs [] (declr_name 14 2) None [] no_init no_init_declrs) 15))) no_block_items)) 16) ∷ [])

-- its tokens
abbrev pub kinds_25 : List TokenKind
kinds_25 =
    ((kinds.Keyword keywords.Int) ∷ (kinds.Name 0) ∷ (kinds.Punct signs.OpenParen) ∷ (kinds.Name 1)
    ∷ (kinds.Punct signs.CloseParen) ∷ (kinds.Keyword keywords.Int) ∷ (kinds.Name 1) ∷ (kinds.Punct signs.Semicolon)
    ∷ (kinds.Punct signs.OpenBrace) ∷ (kinds.Keyword keywords.Typedef) ∷ (kinds.Keyword keywords.Int) ∷ (kinds.Name 0)
    ∷ (kinds.Punct signs.Semicolon) ∷ (kinds.Name 0) ∷ (kinds.Name 2) ∷ (kinds.Punct signs.Semicolon)
    ∷ (kinds.Punct signs.CloseBrace) ∷ kinds.End ∷ [])

-- int f(a) { return 1; }
abbrev pub items_26 : List Item
items_26 =
    ((old_function_item [] (more_words (basic (record { token = 0; keyword = keywords.Int })) no_words)
    (identifiers (declr_name 1 0) 2 ((record { token = 3; name = 1 }) ∷ []) 4) [] [] 5
    (more_block_items (block_stmt (return_stmt 6 (some_expr (number_use 7)) 8)) no_block_items) 9) ∷ [])

-- its tokens
abbrev pub kinds_26 : List TokenKind
kinds_26 =
    ((kinds.Keyword keywords.Int) ∷ (kinds.Name 0) ∷ (kinds.Punct signs.OpenParen) ∷ (kinds.Name 1)
    ∷ (kinds.Punct signs.CloseParen) ∷ (kinds.Punct signs.OpenBrace) ∷ (kinds.Keyword keywords.Return) ∷ kinds.Number
    ∷ (kinds.Punct signs.Semicolon) ∷ (kinds.Punct signs.CloseBrace) ∷ kinds.End ∷ [])

-- int a[] = { [0 ... 3] = 1, [4] = 2 };
abbrev pub items_27 : List Item
items_27 =
    ((decl_item (decl_declaration (declaration [] (more_words (basic (record { token = 0; keyword = keywords.Int }))
    no_words) (more_init_declrs [] (array (declr_name 1 0) 2 [] no_size 3) None [] (some_init 4 (init_braced
    (init_list 5 (more_init_items (more_desigs (range_desig 6 (number_use 7) 8 (number_use 9) 10) no_desigs) (Some 11)
    (init_value (number_use 12)) (more_init_items (more_desigs (index_desig 14 (number_use 15) 16) no_desigs) (Some 17)
    (init_value (number_use 18)) no_init_items)) None 19))) no_init_declrs) 20))) ∷ [])

-- its tokens
abbrev pub kinds_27 : List TokenKind
kinds_27 =
    ((kinds.Keyword keywords.Int) ∷ (kinds.Name 0) ∷ (kinds.Punct signs.OpenBracket) ∷ (kinds.Punct signs.CloseBracket)
    ∷ (kinds.Punct signs.Equal) ∷ (kinds.Punct signs.OpenBrace) ∷ (kinds.Punct signs.OpenBracket) ∷ kinds.Number
    ∷ (kinds.Punct signs.Ellipsis) ∷ kinds.Number ∷ (kinds.Punct signs.CloseBracket) ∷ (kinds.Punct signs.Equal)
    ∷ kinds.Number ∷ (kinds.Punct signs.Comma) ∷ (kinds.Punct signs.OpenBracket) ∷ kinds.Number
    ∷ (kinds.Punct signs.CloseBracket) ∷ (kinds.Punct signs.Equal) ∷ kinds.Number ∷ (kinds.Punct signs.CloseBrace)
    ∷ (kinds.Punct signs.Semicolon) ∷ kinds.End ∷ [])

-- struct s { int m; int *b[4]; } z[3] = { [0 ... 1].m = 1, { m: 1, b: 0 } };
abbrev pub items_28 : List Item
items_28 =
    ((decl_item (decl_declaration (declaration [] (more_words (struct_type
    (record { token = 0; keyword = keywords.Struct }) [] (Some (record { token = 1; name = 0 })) (some_body 2
    (more_struct_items (member [] (more_words (basic (record { token = 3; keyword = keywords.Int })) no_words)
    (more_mem_declrs [] (named (declr_name 4 1) no_value []) no_mem_declrs) 5)
    (more_struct_items (member [] (more_words (basic (record { token = 6; keyword = keywords.Int })) no_words)
    (more_mem_declrs [] (named (pointer 7 [] (array (declr_name 8 2) 9 [] (some_size (size_value (number_use 10))) 11))
    no_value []) no_mem_declrs) 12) no_struct_items)) 13)) no_words) (more_init_declrs []
    (array (declr_name 14 3) 15 [] (some_size (size_value (number_use 16))) 17) None [] (some_init 18
    (init_braced (init_list 19 (more_init_items (more_desigs (range_desig 20 (number_use 21) 22 (number_use 23) 24)
    (more_desigs (member_desig 25 (record { token = 26; name = 1 })) no_desigs)) (Some 27) (init_value (number_use 28))
    (more_init_items no_desigs None (init_braced (init_list 30 (more_init_items
    (more_desigs (old_desig (record { token = 31; name = 1 }) 32) no_desigs) None (init_value (number_use 33))
    (more_init_items (more_desigs (old_desig (record { token = 35; name = 2 }) 36) no_desigs) None
    (init_value (number_use 37)) no_init_items)) None 38)) no_init_items)) None 39))) no_init_declrs) 40))) ∷ [])

-- its tokens
abbrev pub kinds_28 : List TokenKind
kinds_28 =
    ((kinds.Keyword keywords.Struct) ∷ (kinds.Name 0) ∷ (kinds.Punct signs.OpenBrace) ∷ (kinds.Keyword keywords.Int)
    ∷ (kinds.Name 1) ∷ (kinds.Punct signs.Semicolon) ∷ (kinds.Keyword keywords.Int) ∷ (kinds.Punct signs.Star)
    ∷ (kinds.Name 2) ∷ (kinds.Punct signs.OpenBracket) ∷ kinds.Number ∷ (kinds.Punct signs.CloseBracket)
    ∷ (kinds.Punct signs.Semicolon) ∷ (kinds.Punct signs.CloseBrace) ∷ (kinds.Name 3) ∷ (kinds.Punct signs.OpenBracket)
    ∷ kinds.Number ∷ (kinds.Punct signs.CloseBracket) ∷ (kinds.Punct signs.Equal) ∷ (kinds.Punct signs.OpenBrace)
    ∷ (kinds.Punct signs.OpenBracket) ∷ kinds.Number ∷ (kinds.Punct signs.Ellipsis) ∷ kinds.Number
    ∷ (kinds.Punct signs.CloseBracket) ∷ (kinds.Punct signs.Dot) ∷ (kinds.Name 1) ∷ (kinds.Punct signs.Equal)
    ∷ kinds.Number ∷ (kinds.Punct signs.Comma) ∷ (kinds.Punct signs.OpenBrace) ∷ (kinds.Name 1)
    ∷ (kinds.Punct signs.Colon) ∷ kinds.Number ∷ (kinds.Punct signs.Comma) ∷ (kinds.Name 2) ∷ (kinds.Punct signs.Colon)
    ∷ kinds.Number ∷ (kinds.Punct signs.CloseBrace) ∷ (kinds.Punct signs.CloseBrace) ∷ (kinds.Punct signs.Semicolon)
    ∷ kinds.End ∷ [])

-- void f(int x) { switch (x) { case 1 ... 5: x = 2; case 'a' ... 'z': default: ; } }
abbrev pub items_29 : List Item
items_29 =
    ((function_item [] (more_words (basic (record { token = 0; keyword = keywords.Void })) no_words)
    (params (declr_name 1 0) 2 (more_params (more_words (basic (record { token = 3; keyword = keywords.Int })) no_words)
    (some_declr (declr_name 4 1)) [] no_params) None 5) [] 6 (more_block_items (block_stmt
    (switch_stmt 7 8 (name_use 9 1) 10 (block 11 (more_block_items (block_stmt (case_range 12 (number_use 13) 14
    (number_use 15) 16 (expr_stmt (some_expr (operation (name_use 17 1) (assign signs.Equal) 18 (number_use 19))) 20)))
    (more_block_items (block_stmt (case_range 21 (char_use 22) 23 (char_use 24) 25
    (default_stmt 26 27 (expr_stmt no_expr 28)))) no_block_items)) 29))) no_block_items) 30) ∷ [])

-- its tokens
abbrev pub kinds_29 : List TokenKind
kinds_29 =
    ((kinds.Keyword keywords.Void) ∷ (kinds.Name 0) ∷ (kinds.Punct signs.OpenParen) ∷ (kinds.Keyword keywords.Int)
    ∷ (kinds.Name 1) ∷ (kinds.Punct signs.CloseParen) ∷ (kinds.Punct signs.OpenBrace) ∷ (kinds.Keyword keywords.Switch)
    ∷ (kinds.Punct signs.OpenParen) ∷ (kinds.Name 1) ∷ (kinds.Punct signs.CloseParen) ∷ (kinds.Punct signs.OpenBrace)
    ∷ (kinds.Keyword keywords.Case) ∷ kinds.Number ∷ (kinds.Punct signs.Ellipsis) ∷ kinds.Number
    ∷ (kinds.Punct signs.Colon) ∷ (kinds.Name 1) ∷ (kinds.Punct signs.Equal) ∷ kinds.Number
    ∷ (kinds.Punct signs.Semicolon) ∷ (kinds.Keyword keywords.Case) ∷ kinds.Char ∷ (kinds.Punct signs.Ellipsis)
    ∷ kinds.Char ∷ (kinds.Punct signs.Colon) ∷ (kinds.Keyword keywords.Default) ∷ (kinds.Punct signs.Colon)
    ∷ (kinds.Punct signs.Semicolon) ∷ (kinds.Punct signs.CloseBrace) ∷ (kinds.Punct signs.CloseBrace) ∷ kinds.End ∷ [])

-- void f(void) { __label__ a, b; __label__ c; a: b: c: ; ({ __label__ d; d: 1; }); }
abbrev pub items_30 : List Item
items_30 =
    ((function_item [] (more_words (basic (record { token = 0; keyword = keywords.Void })) no_words)
    (params (declr_name 1 0) 2 (more_params
    (more_words (basic (record { token = 3; keyword = keywords.Void })) no_words) no_declr [] no_params) None 4) [] 5
    (more_block_items (block_labels 6 ((record { token = 7; name = 1 }) ∷ (record { token = 9; name = 2 }) ∷ []) 10)
    (more_block_items (block_labels 11 ((record { token = 12; name = 3 }) ∷ []) 13)
    (more_block_items (block_stmt (label (record { token = 14; name = 1 }) 15 [] (label
    (record { token = 16; name = 2 }) 17 [] (label (record { token = 18; name = 3 }) 19 [] (expr_stmt no_expr 20)))))
    (more_block_items (block_stmt (expr_stmt (some_expr (statement_expr 21 22 (more_block_items (block_labels 23
    ((record { token = 24; name = 4 }) ∷ []) 25) (more_block_items (block_stmt (label (record { token = 26; name = 4 })
    27 [] (expr_stmt (some_expr (number_use 28)) 29))) no_block_items)) 30 31)) 32)) no_block_items)))) 33) ∷ [])

-- its tokens
abbrev pub kinds_30 : List TokenKind
kinds_30 =
    ((kinds.Keyword keywords.Void) ∷ (kinds.Name 0) ∷ (kinds.Punct signs.OpenParen) ∷ (kinds.Keyword keywords.Void)
    ∷ (kinds.Punct signs.CloseParen) ∷ (kinds.Punct signs.OpenBrace) ∷ (kinds.Keyword keywords.LabelWord)
    ∷ (kinds.Name 1) ∷ (kinds.Punct signs.Comma) ∷ (kinds.Name 2) ∷ (kinds.Punct signs.Semicolon)
    ∷ (kinds.Keyword keywords.LabelWord) ∷ (kinds.Name 3) ∷ (kinds.Punct signs.Semicolon) ∷ (kinds.Name 1)
    ∷ (kinds.Punct signs.Colon) ∷ (kinds.Name 2) ∷ (kinds.Punct signs.Colon) ∷ (kinds.Name 3)
    ∷ (kinds.Punct signs.Colon) ∷ (kinds.Punct signs.Semicolon) ∷ (kinds.Punct signs.OpenParen)
    ∷ (kinds.Punct signs.OpenBrace) ∷ (kinds.Keyword keywords.LabelWord) ∷ (kinds.Name 4)
    ∷ (kinds.Punct signs.Semicolon) ∷ (kinds.Name 4) ∷ (kinds.Punct signs.Colon) ∷ kinds.Number
    ∷ (kinds.Punct signs.Semicolon) ∷ (kinds.Punct signs.CloseBrace) ∷ (kinds.Punct signs.CloseParen)
    ∷ (kinds.Punct signs.Semicolon) ∷ (kinds.Punct signs.CloseBrace) ∷ kinds.End ∷ [])

-- void f(void) { __auto_type a = 1; const __auto_type b __attribute__((unused)) = &a; }
abbrev pub items_31 : List Item
items_31 =
    ((function_item [] (more_words (basic (record { token = 0; keyword = keywords.Void })) no_words)
    (params (declr_name 1 0) 2 (more_params
    (more_words (basic (record { token = 3; keyword = keywords.Void })) no_words) no_declr [] no_params) None 4) [] 5
    (more_block_items (block_decl (decl_declaration (declaration [] (more_words (auto_word 6) no_words)
    (more_init_declrs [] (declr_name 7 1) None [] (some_init 8 (init_value (number_use 9))) no_init_declrs) 10)))
    (more_block_items (block_decl (decl_declaration (declaration [] (more_words (qualifier (quals.Word
    (record { token = 11; keyword = keywords.Const }))) (more_words (auto_word 12) no_words)) (more_init_declrs []
    (declr_name 13 2) None ((record { keyword = 14; group = (record { first = 15; last = 19 }) }) ∷ []) (some_init 20
    (init_value (prefix 21 signs.Ampersand (name_use 22 1)))) no_init_declrs) 23))) no_block_items)) 24) ∷ [])

-- its tokens
abbrev pub kinds_31 : List TokenKind
kinds_31 =
    ((kinds.Keyword keywords.Void) ∷ (kinds.Name 0) ∷ (kinds.Punct signs.OpenParen) ∷ (kinds.Keyword keywords.Void)
    ∷ (kinds.Punct signs.CloseParen) ∷ (kinds.Punct signs.OpenBrace) ∷ (kinds.Keyword keywords.AutoType)
    ∷ (kinds.Name 1) ∷ (kinds.Punct signs.Equal) ∷ kinds.Number ∷ (kinds.Punct signs.Semicolon)
    ∷ (kinds.Keyword keywords.Const) ∷ (kinds.Keyword keywords.AutoType) ∷ (kinds.Name 2)
    ∷ (kinds.Keyword keywords.Attribute) ∷ (kinds.Punct signs.OpenParen) ∷ (kinds.Punct signs.OpenParen)
    ∷ (kinds.Name 3) ∷ (kinds.Punct signs.CloseParen) ∷ (kinds.Punct signs.CloseParen) ∷ (kinds.Punct signs.Equal)
    ∷ (kinds.Punct signs.Ampersand) ∷ (kinds.Name 1) ∷ (kinds.Punct signs.Semicolon) ∷ (kinds.Punct signs.CloseBrace)
    ∷ kinds.End ∷ [])

-- typedef int T; void f(void) { __auto_type T = (T)1; T = 2; }
abbrev pub items_32 : List Item
items_32 = ((decl_item
    (decl_declaration (declaration [] (more_words (storage (record { token = 0; keyword = keywords.Typedef }))
    (more_words (basic (record { token = 1; keyword = keywords.Int })) no_words))
    (more_init_declrs [] (declr_name 2 0) None [] no_init no_init_declrs) 3))) ∷ (function_item []
    (more_words (basic (record { token = 4; keyword = keywords.Void })) no_words) (params (declr_name 5 1) 6
    (more_params (more_words (basic (record { token = 7; keyword = keywords.Void })) no_words) no_declr [] no_params)
    None 8) [] 9 (more_block_items (block_decl (decl_declaration (declaration [] (more_words (auto_word 10) no_words)
    (more_init_declrs [] (declr_name 11 0) None [] (some_init 12 (init_value (cast 13 (more_words
    (typedef_name (record { token = 14; name = 0 })) no_words) no_declr 15 (number_use 16)))) no_init_declrs) 17)))
    (more_block_items (block_stmt (expr_stmt
    (some_expr (operation (name_use 18 0) (assign signs.Equal) 19 (number_use 20))) 21)) no_block_items)) 22) ∷ [])

-- its tokens
abbrev pub kinds_32 : List TokenKind
kinds_32 =
    ((kinds.Keyword keywords.Typedef) ∷ (kinds.Keyword keywords.Int) ∷ (kinds.Name 0) ∷ (kinds.Punct signs.Semicolon)
    ∷ (kinds.Keyword keywords.Void) ∷ (kinds.Name 1) ∷ (kinds.Punct signs.OpenParen) ∷ (kinds.Keyword keywords.Void)
    ∷ (kinds.Punct signs.CloseParen) ∷ (kinds.Punct signs.OpenBrace) ∷ (kinds.Keyword keywords.AutoType)
    ∷ (kinds.Name 0) ∷ (kinds.Punct signs.Equal) ∷ (kinds.Punct signs.OpenParen) ∷ (kinds.Name 0)
    ∷ (kinds.Punct signs.CloseParen) ∷ kinds.Number ∷ (kinds.Punct signs.Semicolon) ∷ (kinds.Name 0)
    ∷ (kinds.Punct signs.Equal) ∷ kinds.Number ∷ (kinds.Punct signs.Semicolon) ∷ (kinds.Punct signs.CloseBrace)
    ∷ kinds.End ∷ [])

-- static __auto_type z = 2; void f(void) { for (__auto_type i = 0; i < 3; i++) ; }
abbrev pub items_33 : List Item
items_33 =
    ((decl_item (decl_declaration (declaration []
    (more_words (storage (record { token = 0; keyword = keywords.Static })) (more_words (auto_word 1) no_words))
    (more_init_declrs [] (declr_name 2 0) None [] (some_init 3 (init_value (number_use 4))) no_init_declrs) 5)))
    ∷ (function_item [] (more_words (basic (record { token = 6; keyword = keywords.Void })) no_words) (params
    (declr_name 7 1) 8 (more_params (more_words (basic (record { token = 9; keyword = keywords.Void })) no_words)
    no_declr [] no_params) None 10) [] 11 (more_block_items
    (block_stmt (for_stmt 12 13 (start_declaration (declaration [] (more_words (auto_word 14) no_words)
    (more_init_declrs [] (declr_name 15 2) None [] (some_init 16 (init_value (number_use 17))) no_init_declrs) 18))
    (some_expr (operation (name_use 19 2) (binary signs.Less) 20 (number_use 21))) 22
    (some_expr (post (name_use 23 2) 24 signs.PlusPlus)) 25 (expr_stmt no_expr 26))) no_block_items) 27) ∷ [])

-- its tokens
abbrev pub kinds_33 : List TokenKind
kinds_33 =
    ((kinds.Keyword keywords.Static) ∷ (kinds.Keyword keywords.AutoType) ∷ (kinds.Name 0) ∷ (kinds.Punct signs.Equal)
    ∷ kinds.Number ∷ (kinds.Punct signs.Semicolon) ∷ (kinds.Keyword keywords.Void) ∷ (kinds.Name 1)
    ∷ (kinds.Punct signs.OpenParen) ∷ (kinds.Keyword keywords.Void) ∷ (kinds.Punct signs.CloseParen)
    ∷ (kinds.Punct signs.OpenBrace) ∷ (kinds.Keyword keywords.For) ∷ (kinds.Punct signs.OpenParen)
    ∷ (kinds.Keyword keywords.AutoType) ∷ (kinds.Name 2) ∷ (kinds.Punct signs.Equal) ∷ kinds.Number
    ∷ (kinds.Punct signs.Semicolon) ∷ (kinds.Name 2) ∷ (kinds.Punct signs.Less) ∷ kinds.Number
    ∷ (kinds.Punct signs.Semicolon) ∷ (kinds.Name 2) ∷ (kinds.Punct signs.PlusPlus) ∷ (kinds.Punct signs.CloseParen)
    ∷ (kinds.Punct signs.Semicolon) ∷ (kinds.Punct signs.CloseBrace) ∷ kinds.End ∷ [])

-- extern inline int f(int x) { return x; } int f(int x) { return x; }
abbrev pub items_34 : List Item
items_34 =
    ((function_item [] (more_words (storage (record { token = 0; keyword = keywords.Extern }))
    (more_words (inline_word 1) (more_words (basic (record { token = 2; keyword = keywords.Int })) no_words)))
    (params (declr_name 3 0) 4 (more_params (more_words (basic (record { token = 5; keyword = keywords.Int })) no_words)
    (some_declr (declr_name 6 1)) [] no_params) None 7) [] 8
    (more_block_items (block_stmt (return_stmt 9 (some_expr (name_use 10 1)) 11)) no_block_items) 12)
    ∷ (function_item [] (more_words (basic (record { token = 13; keyword = keywords.Int })) no_words) (params
    (declr_name 14 0) 15 (more_params (more_words (basic (record { token = 16; keyword = keywords.Int })) no_words)
    (some_declr (declr_name 17 1)) [] no_params) None 18) [] 19
    (more_block_items (block_stmt (return_stmt 20 (some_expr (name_use 21 1)) 22)) no_block_items) 23) ∷ [])

-- its tokens
abbrev pub kinds_34 : List TokenKind
kinds_34 =
    ((kinds.Keyword keywords.Extern) ∷ (kinds.Keyword keywords.Inline) ∷ (kinds.Keyword keywords.Int) ∷ (kinds.Name 0)
    ∷ (kinds.Punct signs.OpenParen) ∷ (kinds.Keyword keywords.Int) ∷ (kinds.Name 1) ∷ (kinds.Punct signs.CloseParen)
    ∷ (kinds.Punct signs.OpenBrace) ∷ (kinds.Keyword keywords.Return) ∷ (kinds.Name 1) ∷ (kinds.Punct signs.Semicolon)
    ∷ (kinds.Punct signs.CloseBrace) ∷ (kinds.Keyword keywords.Int) ∷ (kinds.Name 0) ∷ (kinds.Punct signs.OpenParen)
    ∷ (kinds.Keyword keywords.Int) ∷ (kinds.Name 1) ∷ (kinds.Punct signs.CloseParen) ∷ (kinds.Punct signs.OpenBrace)
    ∷ (kinds.Keyword keywords.Return) ∷ (kinds.Name 1) ∷ (kinds.Punct signs.Semicolon) ∷ (kinds.Punct signs.CloseBrace)
    ∷ kinds.End ∷ [])

-- typedef int T; int f(a, T) int a; { }
abbrev pub items_35 : List Item
items_35 = ((decl_item
    (decl_declaration (declaration [] (more_words (storage (record { token = 0; keyword = keywords.Typedef }))
    (more_words (basic (record { token = 1; keyword = keywords.Int })) no_words))
    (more_init_declrs [] (declr_name 2 0) None [] no_init no_init_declrs) 3)))
    ∷ (old_function_item [] (more_words (basic (record { token = 4; keyword = keywords.Int })) no_words)
    (identifiers (declr_name 5 1) 6 ((record { token = 7; name = 2 }) ∷ (record { token = 9; name = 0 }) ∷ []) 10) []
    ((declaration [] (more_words (basic (record { token = 11; keyword = keywords.Int })) no_words)
    (more_init_declrs [] (declr_name 12 2) None [] no_init no_init_declrs) 13) ∷ []) 14 no_block_items 15) ∷ [])

-- its tokens
abbrev pub kinds_35 : List TokenKind
kinds_35 =
    ((kinds.Keyword keywords.Typedef) ∷ (kinds.Keyword keywords.Int) ∷ (kinds.Name 0) ∷ (kinds.Punct signs.Semicolon)
    ∷ (kinds.Keyword keywords.Int) ∷ (kinds.Name 1) ∷ (kinds.Punct signs.OpenParen) ∷ (kinds.Name 2)
    ∷ (kinds.Punct signs.Comma) ∷ (kinds.Name 0) ∷ (kinds.Punct signs.CloseParen) ∷ (kinds.Keyword keywords.Int)
    ∷ (kinds.Name 2) ∷ (kinds.Punct signs.Semicolon) ∷ (kinds.Punct signs.OpenBrace) ∷ (kinds.Punct signs.CloseBrace)
    ∷ kinds.End ∷ [])

-- void f(void) { enum { a }; __auto_type a = 1; }
abbrev pub items_36 : List Item
items_36 =
    ((function_item [] (more_words (basic (record { token = 0; keyword = keywords.Void })) no_words)
    (params (declr_name 1 0) 2 (more_params
    (more_words (basic (record { token = 3; keyword = keywords.Void })) no_words) no_declr [] no_params) None 4) [] 5
    (more_block_items (block_decl (decl_declaration (declaration [] (more_words (enum_type (enum_of 6 [] None
    (some_enum_body 7 (more_enumerators (record { token = 8; name = 1 }) [] no_value no_enumerators) None 9))) no_words)
    no_init_declrs 10))) (more_block_items (block_decl
    (decl_declaration (declaration [] (more_words (auto_word 11) no_words) (more_init_declrs [] (declr_name 12 1) None
    [] (some_init 13 (init_value (number_use 14))) no_init_declrs) 15))) no_block_items)) 16) ∷ [])

-- its tokens
abbrev pub kinds_36 : List TokenKind
kinds_36 =
    ((kinds.Keyword keywords.Void) ∷ (kinds.Name 0) ∷ (kinds.Punct signs.OpenParen) ∷ (kinds.Keyword keywords.Void)
    ∷ (kinds.Punct signs.CloseParen) ∷ (kinds.Punct signs.OpenBrace) ∷ (kinds.Keyword keywords.Enum)
    ∷ (kinds.Punct signs.OpenBrace) ∷ (kinds.Name 1) ∷ (kinds.Punct signs.CloseBrace) ∷ (kinds.Punct signs.Semicolon)
    ∷ (kinds.Keyword keywords.AutoType) ∷ (kinds.Name 1) ∷ (kinds.Punct signs.Equal) ∷ kinds.Number
    ∷ (kinds.Punct signs.Semicolon) ∷ (kinds.Punct signs.CloseBrace) ∷ kinds.End ∷ [])

-- int f(a) int a; enum { a } b; { }
abbrev pub items_37 : List Item
items_37 =
    ((old_function_item [] (more_words (basic (record { token = 0; keyword = keywords.Int })) no_words)
    (identifiers (declr_name 1 0) 2 ((record { token = 3; name = 1 }) ∷ []) 4) []
    ((declaration [] (more_words (basic (record { token = 5; keyword = keywords.Int })) no_words)
    (more_init_declrs [] (declr_name 6 1) None [] no_init no_init_declrs) 7)
    ∷ (declaration [] (more_words (enum_type (enum_of 8 [] None (some_enum_body 9
    (more_enumerators (record { token = 10; name = 1 }) [] no_value no_enumerators) None 11))) no_words)
    (more_init_declrs [] (declr_name 12 2) None [] no_init no_init_declrs) 13) ∷ []) 14 no_block_items 15) ∷ [])

-- its tokens
abbrev pub kinds_37 : List TokenKind
kinds_37 =
    ((kinds.Keyword keywords.Int) ∷ (kinds.Name 0) ∷ (kinds.Punct signs.OpenParen) ∷ (kinds.Name 1)
    ∷ (kinds.Punct signs.CloseParen) ∷ (kinds.Keyword keywords.Int) ∷ (kinds.Name 1) ∷ (kinds.Punct signs.Semicolon)
    ∷ (kinds.Keyword keywords.Enum) ∷ (kinds.Punct signs.OpenBrace) ∷ (kinds.Name 1) ∷ (kinds.Punct signs.CloseBrace)
    ∷ (kinds.Name 2) ∷ (kinds.Punct signs.Semicolon) ∷ (kinds.Punct signs.OpenBrace) ∷ (kinds.Punct signs.CloseBrace)
    ∷ kinds.End ∷ [])

-- int f(a) int a; { return a; }
abbrev pub items_38 : List Item
items_38 =
    ((old_function_item [] (more_words (basic (record { token = 0; keyword = keywords.Int })) no_words)
    (identifiers (declr_name 1 0) 2 ((record { token = 3; name = 1 }) ∷ []) 4) []
    ((declaration [] (more_words (basic (record { token = 5; keyword = keywords.Int })) no_words)
    (more_init_declrs [] (declr_name 6 1) None [] no_init no_init_declrs) 7) ∷ []) 8
    (more_block_items (block_stmt (return_stmt 9 (some_expr (name_use 10 1)) 11)) no_block_items) 12) ∷ [])

-- its tokens
abbrev pub kinds_38 : List TokenKind
kinds_38 =
    ((kinds.Keyword keywords.Int) ∷ (kinds.Name 0) ∷ (kinds.Punct signs.OpenParen) ∷ (kinds.Name 1)
    ∷ (kinds.Punct signs.CloseParen) ∷ (kinds.Keyword keywords.Int) ∷ (kinds.Name 1) ∷ (kinds.Punct signs.Semicolon)
    ∷ (kinds.Punct signs.OpenBrace) ∷ (kinds.Keyword keywords.Return) ∷ (kinds.Name 1) ∷ (kinds.Punct signs.Semicolon)
    ∷ (kinds.Punct signs.CloseBrace) ∷ kinds.End ∷ [])

-- int a[] = { [0 ... 3] = 1 };
abbrev pub items_39 : List Item
items_39 =
    ((decl_item (decl_declaration (declaration [] (more_words (basic (record { token = 0; keyword = keywords.Int }))
    no_words) (more_init_declrs [] (array (declr_name 1 0) 2 [] no_size 3) None [] (some_init 4 (init_braced
    (init_list 5 (more_init_items (more_desigs (range_desig 6 (number_use 7) 8 (number_use 9) 10) no_desigs) (Some 11)
    (init_value (number_use 12)) no_init_items) None 13))) no_init_declrs) 14))) ∷ [])

-- its tokens
abbrev pub kinds_39 : List TokenKind
kinds_39 =
    ((kinds.Keyword keywords.Int) ∷ (kinds.Name 0) ∷ (kinds.Punct signs.OpenBracket) ∷ (kinds.Punct signs.CloseBracket)
    ∷ (kinds.Punct signs.Equal) ∷ (kinds.Punct signs.OpenBrace) ∷ (kinds.Punct signs.OpenBracket) ∷ kinds.Number
    ∷ (kinds.Punct signs.Ellipsis) ∷ kinds.Number ∷ (kinds.Punct signs.CloseBracket) ∷ (kinds.Punct signs.Equal)
    ∷ kinds.Number ∷ (kinds.Punct signs.CloseBrace) ∷ (kinds.Punct signs.Semicolon) ∷ kinds.End ∷ [])

-- struct s { int m; } v = { m: 1 };
abbrev pub items_40 : List Item
items_40 =
    ((decl_item (decl_declaration (declaration [] (more_words (struct_type
    (record { token = 0; keyword = keywords.Struct }) [] (Some (record { token = 1; name = 0 })) (some_body 2
    (more_struct_items (member [] (more_words (basic (record { token = 3; keyword = keywords.Int })) no_words)
    (more_mem_declrs [] (named (declr_name 4 1) no_value []) no_mem_declrs) 5) no_struct_items) 6)) no_words)
    (more_init_declrs [] (declr_name 7 2) None [] (some_init 8 (init_braced
    (init_list 9 (more_init_items (more_desigs (old_desig (record { token = 10; name = 1 }) 11) no_desigs) None
    (init_value (number_use 12)) no_init_items) None 13))) no_init_declrs) 14))) ∷ [])

-- its tokens
abbrev pub kinds_40 : List TokenKind
kinds_40 =
    ((kinds.Keyword keywords.Struct) ∷ (kinds.Name 0) ∷ (kinds.Punct signs.OpenBrace) ∷ (kinds.Keyword keywords.Int)
    ∷ (kinds.Name 1) ∷ (kinds.Punct signs.Semicolon) ∷ (kinds.Punct signs.CloseBrace) ∷ (kinds.Name 2)
    ∷ (kinds.Punct signs.Equal) ∷ (kinds.Punct signs.OpenBrace) ∷ (kinds.Name 1) ∷ (kinds.Punct signs.Colon)
    ∷ kinds.Number ∷ (kinds.Punct signs.CloseBrace) ∷ (kinds.Punct signs.Semicolon) ∷ kinds.End ∷ [])

-- void f(int x) { switch (x) { case 1 ... 5: ; } }
abbrev pub items_41 : List Item
items_41 =
    ((function_item [] (more_words (basic (record { token = 0; keyword = keywords.Void })) no_words)
    (params (declr_name 1 0) 2 (more_params (more_words (basic (record { token = 3; keyword = keywords.Int })) no_words)
    (some_declr (declr_name 4 1)) [] no_params) None 5) [] 6 (more_block_items
    (block_stmt (switch_stmt 7 8 (name_use 9 1) 10 (block 11 (more_block_items (block_stmt (case_range 12
    (number_use 13) 14 (number_use 15) 16 (expr_stmt no_expr 17))) no_block_items) 18))) no_block_items) 19) ∷ [])

-- its tokens
abbrev pub kinds_41 : List TokenKind
kinds_41 =
    ((kinds.Keyword keywords.Void) ∷ (kinds.Name 0) ∷ (kinds.Punct signs.OpenParen) ∷ (kinds.Keyword keywords.Int)
    ∷ (kinds.Name 1) ∷ (kinds.Punct signs.CloseParen) ∷ (kinds.Punct signs.OpenBrace) ∷ (kinds.Keyword keywords.Switch)
    ∷ (kinds.Punct signs.OpenParen) ∷ (kinds.Name 1) ∷ (kinds.Punct signs.CloseParen) ∷ (kinds.Punct signs.OpenBrace)
    ∷ (kinds.Keyword keywords.Case) ∷ kinds.Number ∷ (kinds.Punct signs.Ellipsis) ∷ kinds.Number
    ∷ (kinds.Punct signs.Colon) ∷ (kinds.Punct signs.Semicolon) ∷ (kinds.Punct signs.CloseBrace)
    ∷ (kinds.Punct signs.CloseBrace) ∷ kinds.End ∷ [])

-- void f(void *p) { goto *p; }
abbrev pub items_42 : List Item
items_42 =
    ((function_item [] (more_words (basic (record { token = 0; keyword = keywords.Void })) no_words) (params
    (declr_name 1 0) 2 (more_params (more_words (basic (record { token = 3; keyword = keywords.Void })) no_words)
    (some_declr (pointer 4 [] (declr_name 5 1))) [] no_params) None 6) [] 7
    (more_block_items (block_stmt (goto_value 8 9 (name_use 10 1) 11)) no_block_items) 12) ∷ [])

-- its tokens
abbrev pub kinds_42 : List TokenKind
kinds_42 =
    ((kinds.Keyword keywords.Void) ∷ (kinds.Name 0) ∷ (kinds.Punct signs.OpenParen) ∷ (kinds.Keyword keywords.Void)
    ∷ (kinds.Punct signs.Star) ∷ (kinds.Name 1) ∷ (kinds.Punct signs.CloseParen) ∷ (kinds.Punct signs.OpenBrace)
    ∷ (kinds.Keyword keywords.Goto) ∷ (kinds.Punct signs.Star) ∷ (kinds.Name 1) ∷ (kinds.Punct signs.Semicolon)
    ∷ (kinds.Punct signs.CloseBrace) ∷ kinds.End ∷ [])

-- void *p = &&a;
abbrev pub items_43 : List Item
items_43 =
    ((decl_item (decl_declaration (declaration [] (more_words (basic
    (record { token = 0; keyword = keywords.Void })) no_words) (more_init_declrs [] (pointer 1 [] (declr_name 2 0)) None
    [] (some_init 3 (init_value (label_use 4 (record { token = 5; name = 1 })))) no_init_declrs) 6))) ∷ [])

-- its tokens
abbrev pub kinds_43 : List TokenKind
kinds_43 =
    ((kinds.Keyword keywords.Void) ∷ (kinds.Punct signs.Star) ∷ (kinds.Name 0) ∷ (kinds.Punct signs.Equal)
    ∷ (kinds.Punct signs.AmpersandAmpersand) ∷ (kinds.Name 1) ∷ (kinds.Punct signs.Semicolon) ∷ kinds.End ∷ [])

-- typedef float _Float32;
abbrev pub items_44 : List Item
items_44 = ((decl_item
    (decl_declaration (declaration [] (more_words (storage (record { token = 0; keyword = keywords.Typedef }))
    (more_words (basic (record { token = 1; keyword = keywords.Float })) no_words))
    (more_init_declrs [] (base_name 2) None [] no_init no_init_declrs) 3))) ∷ [])

-- its tokens
abbrev pub kinds_44 : List TokenKind
kinds_44 =
    ((kinds.Keyword keywords.Typedef) ∷ (kinds.Keyword keywords.Float) ∷ (kinds.Keyword keywords.BaseWord)
    ∷ (kinds.Punct signs.Semicolon) ∷ kinds.End ∷ [])

-- types: `typeof`, `_Atomic`, address spaces, `_Alignas`, mixes with `_Complex`, base words as names of typedefs
abbrev pub Types : Type 0
Types =
    IsWideExample kinds_1 items_1 5
    × IsWideExample kinds_2 items_2 6
    × IsWideExample kinds_3 items_3 8
    × IsWideExample kinds_4 items_4 8
    × IsWideExample kinds_5 items_5 8
    × IsWideExample kinds_6 items_6 8
    × IsWideExample kinds_7 items_7 6
    × IsWideExample kinds_8 items_8 7
    × IsWideExample kinds_9 items_9 7
    × IsWideExample kinds_10 items_10 4
    × IsWideExample kinds_11 items_11 5
    × IsWideExample kinds_12 items_12 7

-- values
abbrev pub Values : Type 0
Values =
    IsWideExample kinds_13 items_13 9
    × IsWideExample kinds_14 items_14 7
    × IsWideExample kinds_15 items_15 7
    × IsWideExample kinds_16 items_16 9
    × IsWideExample kinds_17 items_17 7
    × IsWideExample kinds_18 items_18 7
    × IsWideExample kinds_19 items_19 5

-- functions with lists of identifiers, whose own name is declared behind their declarations
abbrev pub Lists : Type 0
Lists =
    IsWideExample kinds_20 items_20 7
    × IsWideExample kinds_21 items_21 7
    × IsWideExample kinds_22 items_22 5
    × IsWideExample kinds_23 items_23 5
    × IsWideExample kinds_24 items_24 8
    × IsWideExample kinds_25 items_25 6
    × IsWideExample kinds_26 items_26 5

-- ranges, designators with a colon, labels, `__auto_type`, and a second body behind `extern inline`
abbrev pub Parts : Type 0
Parts =
    IsWideExample kinds_27 items_27 7
    × IsWideExample kinds_28 items_28 9
    × IsWideExample kinds_29 items_29 9
    × IsWideExample kinds_30 items_30 9
    × IsWideExample kinds_31 items_31 7
    × IsWideExample kinds_32 items_32 9
    × IsWideExample kinds_33 items_33 7
    × IsWideExample kinds_34 items_34 5

-- an identifier of a list that is the name of a typedef, and names that are enumerators
abbrev pub Misnamed : Type 0
Misnamed =
    IsMisnamedWide kinds_35 items_35
    × IsMisnamedWide kinds_36 items_36
    × IsMisnamedWide kinds_37 items_37

-- what is a form of wider C alone is none where the unit is not read as wider C
abbrev pub Narrow : Type 0
Narrow =
    IsMisnamed kinds_38 items_38
    × IsMisnamed kinds_39 items_39
    × IsMisnamed kinds_40 items_40
    × IsMisnamed kinds_41 items_41
    × IsMisnamed kinds_42 items_42
    × IsMisnamed kinds_43 items_43
    × IsMisnamed kinds_44 items_44

-- every example of wider C is the unit of its table
abbrev pub WiderHold : Type 0
WiderHold = Types × Values × Lists × Parts × Misnamed × Narrow
