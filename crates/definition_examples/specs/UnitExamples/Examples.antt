-- Small sources with their tokens, their trees and their heights, which were worked out elsewhere. The trees were made
-- from the sources by a program outside the repository.
use Rattle.std.specs.Prelude.{◌≡◌, ℕ, List, [], ◌∷◌, None, Some, is_some, true, false}
use Rattle.c_words.specs.declared.kinds.TokenKind.{TokenKind}
use Rattle.c_words.specs.declared.kinds.TokenKind.TheVariants as kinds
use Rattle.c_words.specs.declared.kinds.Keyword.TheVariants as keywords
use Rattle.c_words.specs.declared.kinds.Punct.TheVariants as signs
use Rattle.c_syntax.specs.declared.parts.Qual.TheVariants as quals
use Rattle.c_tree.specs.Tree.{operation, cast, prefix, sizeof_value, sizeof_type, call, post, compound, name_use, number_use, paren, statement_expr, va_copy, offset, comma, assign, binary, no_expr, some_expr, no_exprs, more_exprs, no_words, more_words, storage, qualifier, basic, struct_type, enum_type, typedef_name, attribute, no_body, some_body, no_struct_items, more_struct_items, member, no_mem_declrs, more_mem_declrs, named, no_value, some_value, enum_of, some_enum_body, no_enumerators, more_enumerators, pointer, declr_name, declr_paren, array, params, abs_params, no_declr, some_declr, some_size, size_value, no_params, more_params, init_value, init_braced, init_list, no_init_items, more_init_items, no_desigs, no_init, some_init, no_init_declrs, more_init_declrs, declaration, decl_declaration, no_block_items, more_block_items, block_decl, block_stmt, expr_stmt, label, if_stmt, while_stmt, do_stmt, for_stmt, no_else, some_else, start_declaration}
use Rattle.c_tree.specs.Unit.{Item, function_item, decl_item, asm_item, semi_item, AreTokensOf, unit_height}
use Rattle.c_units.specs.HeldScopes.{file_scope}
use Rattle.c_units.specs.Units.{items_scopes, numbered}

-- the tokens are those of the items, and each name has the kind of its place; the unit with these items is so high
pub record IsExample (tokens : List TokenKind) (items : List Item) (height : ℕ) : Type 0 where
  pub spelled : AreTokensOf (numbered tokens) items
  pub high : unit_height items ≡ height
  pub named : is_some (items_scopes items (file_scope false)) ≡ true

-- the tokens are those of the items, and some name has not the kind of its place
pub record IsMisnamed (tokens : List TokenKind) (items : List Item) : Type 0 where
  pub spelled : AreTokensOf (numbered tokens) items
  pub misnamed : items_scopes items (file_scope false) ≡ None

-- an empty source
abbrev pub items_1 : List Item
items_1 = []

-- its tokens
abbrev pub kinds_1 : List TokenKind
kinds_1 = (kinds.End ∷ [])

-- ;
abbrev pub items_2 : List Item
items_2 = ((semi_item (record { token = 0 })) ∷ [])

-- its tokens
abbrev pub kinds_2 : List TokenKind
kinds_2 = ((kinds.Punct signs.Semicolon) ∷ kinds.End ∷ [])

-- ;;
abbrev pub items_3 : List Item
items_3 = ((semi_item (record { token = 0 })) ∷ (semi_item (record { token = 1 })) ∷ [])

-- its tokens
abbrev pub kinds_3 : List TokenKind
kinds_3 = ((kinds.Punct signs.Semicolon) ∷ (kinds.Punct signs.Semicolon) ∷ kinds.End ∷ [])

-- int;
abbrev pub items_4 : List Item
items_4 =
    ((decl_item (decl_declaration (declaration []
    (more_words (basic (record { token = 0; keyword = keywords.Int })) no_words) no_init_declrs 1))) ∷ [])

-- its tokens
abbrev pub kinds_4 : List TokenKind
kinds_4 = ((kinds.Keyword keywords.Int) ∷ (kinds.Punct signs.Semicolon) ∷ kinds.End ∷ [])

-- asm("x");
abbrev pub items_5 : List Item
items_5 = ((asm_item 0 (record { first = 1; last = 3 }) 4) ∷ [])

-- its tokens
abbrev pub kinds_5 : List TokenKind
kinds_5 =
    ((kinds.Keyword keywords.Asm) ∷ (kinds.Punct signs.OpenParen) ∷ kinds.Text ∷ (kinds.Punct signs.CloseParen)
    ∷ (kinds.Punct signs.Semicolon) ∷ kinds.End ∷ [])

-- int a = {};
abbrev pub items_6 : List Item
items_6 =
    ((decl_item (decl_declaration
    (declaration [] (more_words (basic (record { token = 0; keyword = keywords.Int })) no_words) (more_init_declrs []
    (declr_name 1 0) None [] (some_init 2 (init_braced (init_list 3 no_init_items None 4))) no_init_declrs) 5))) ∷ [])

-- its tokens
abbrev pub kinds_6 : List TokenKind
kinds_6 =
    ((kinds.Keyword keywords.Int) ∷ (kinds.Name 0) ∷ (kinds.Punct signs.Equal) ∷ (kinds.Punct signs.OpenBrace)
    ∷ (kinds.Punct signs.CloseBrace) ∷ (kinds.Punct signs.Semicolon) ∷ kinds.End ∷ [])

-- int f() { }
abbrev pub items_7 : List Item
items_7 =
    ((function_item [] (more_words (basic (record { token = 0; keyword = keywords.Int })) no_words)
    (params (declr_name 1 0) 2 no_params None 3) [] 4 no_block_items 5) ∷ [])

-- its tokens
abbrev pub kinds_7 : List TokenKind
kinds_7 =
    ((kinds.Keyword keywords.Int) ∷ (kinds.Name 0) ∷ (kinds.Punct signs.OpenParen) ∷ (kinds.Punct signs.CloseParen)
    ∷ (kinds.Punct signs.OpenBrace) ∷ (kinds.Punct signs.CloseBrace) ∷ kinds.End ∷ [])

-- int a[x = 3];
abbrev pub items_8 : List Item
items_8 =
    ((decl_item (decl_declaration (declaration [] (more_words (basic (record { token = 0; keyword = keywords.Int }))
    no_words) (more_init_declrs [] (array (declr_name 1 0) 2 [] (some_size (size_value
    (operation (name_use 3 1) (assign signs.Equal) 4 (number_use 5)))) 6) None [] no_init no_init_declrs) 7))) ∷ [])

-- its tokens
abbrev pub kinds_8 : List TokenKind
kinds_8 =
    ((kinds.Keyword keywords.Int) ∷ (kinds.Name 0) ∷ (kinds.Punct signs.OpenBracket) ∷ (kinds.Name 1)
    ∷ (kinds.Punct signs.Equal) ∷ kinds.Number ∷ (kinds.Punct signs.CloseBracket) ∷ (kinds.Punct signs.Semicolon)
    ∷ kinds.End ∷ [])

-- int a = {1,};
abbrev pub items_9 : List Item
items_9 =
    ((decl_item (decl_declaration (declaration [] (more_words (basic (record { token = 0; keyword = keywords.Int }))
    no_words) (more_init_declrs [] (declr_name 1 0) None [] (some_init 2 (init_braced (init_list 3
    (more_init_items no_desigs None (init_value (number_use 4)) no_init_items) (Some 5) 6))) no_init_declrs) 7))) ∷ [])

-- its tokens
abbrev pub kinds_9 : List TokenKind
kinds_9 =
    ((kinds.Keyword keywords.Int) ∷ (kinds.Name 0) ∷ (kinds.Punct signs.Equal) ∷ (kinds.Punct signs.OpenBrace)
    ∷ kinds.Number ∷ (kinds.Punct signs.Comma) ∷ (kinds.Punct signs.CloseBrace) ∷ (kinds.Punct signs.Semicolon)
    ∷ kinds.End ∷ [])

-- int a = x = 2;
abbrev pub items_10 : List Item
items_10 =
    ((decl_item (decl_declaration (declaration [] (more_words (basic
    (record { token = 0; keyword = keywords.Int })) no_words) (more_init_declrs [] (declr_name 1 1) None [] (some_init 2
    (init_value (operation (name_use 3 0) (assign signs.Equal) 4 (number_use 5)))) no_init_declrs) 6))) ∷ [])

-- its tokens
abbrev pub kinds_10 : List TokenKind
kinds_10 =
    ((kinds.Keyword keywords.Int) ∷ (kinds.Name 1) ∷ (kinds.Punct signs.Equal) ∷ (kinds.Name 0)
    ∷ (kinds.Punct signs.Equal) ∷ kinds.Number ∷ (kinds.Punct signs.Semicolon) ∷ kinds.End ∷ [])

-- int a asm("x");
abbrev pub items_11 : List Item
items_11 =
    ((decl_item (decl_declaration (declaration []
    (more_words (basic (record { token = 0; keyword = keywords.Int })) no_words) (more_init_declrs [] (declr_name 1 0)
    (Some (record { keyword = 2; group = (record { first = 3; last = 5 }) })) [] no_init no_init_declrs) 6))) ∷ [])

-- its tokens
abbrev pub kinds_11 : List TokenKind
kinds_11 =
    ((kinds.Keyword keywords.Int) ∷ (kinds.Name 0) ∷ (kinds.Keyword keywords.Asm) ∷ (kinds.Punct signs.OpenParen)
    ∷ kinds.Text ∷ (kinds.Punct signs.CloseParen) ∷ (kinds.Punct signs.Semicolon) ∷ kinds.End ∷ [])

-- asm(((()[]{})));
abbrev pub items_12 : List Item
items_12 = ((asm_item 0 (record { first = 1; last = 12 }) 13) ∷ [])

-- its tokens
abbrev pub kinds_12 : List TokenKind
kinds_12 =
    ((kinds.Keyword keywords.Asm) ∷ (kinds.Punct signs.OpenParen) ∷ (kinds.Punct signs.OpenParen)
    ∷ (kinds.Punct signs.OpenParen) ∷ (kinds.Punct signs.OpenParen) ∷ (kinds.Punct signs.CloseParen)
    ∷ (kinds.Punct signs.OpenBracket) ∷ (kinds.Punct signs.CloseBracket) ∷ (kinds.Punct signs.OpenBrace)
    ∷ (kinds.Punct signs.CloseBrace) ∷ (kinds.Punct signs.CloseParen) ∷ (kinds.Punct signs.CloseParen)
    ∷ (kinds.Punct signs.CloseParen) ∷ (kinds.Punct signs.Semicolon) ∷ kinds.End ∷ [])

-- int f(void) = 1;
abbrev pub items_13 : List Item
items_13 =
    ((decl_item (decl_declaration (declaration []
    (more_words (basic (record { token = 0; keyword = keywords.Int })) no_words) (more_init_declrs [] (params
    (declr_name 1 0) 2 (more_params (more_words (basic (record { token = 3; keyword = keywords.Void })) no_words)
    no_declr [] no_params) None 4) None [] (some_init 5 (init_value (number_use 6))) no_init_declrs) 7))) ∷ [])

-- its tokens
abbrev pub kinds_13 : List TokenKind
kinds_13 =
    ((kinds.Keyword keywords.Int) ∷ (kinds.Name 0) ∷ (kinds.Punct signs.OpenParen) ∷ (kinds.Keyword keywords.Void)
    ∷ (kinds.Punct signs.CloseParen) ∷ (kinds.Punct signs.Equal) ∷ kinds.Number ∷ (kinds.Punct signs.Semicolon)
    ∷ kinds.End ∷ [])

-- int *f(void) { }
abbrev pub items_14 : List Item
items_14 =
    ((function_item [] (more_words (basic (record { token = 0; keyword = keywords.Int })) no_words)
    (pointer 1 [] (params (declr_name 2 0) 3 (more_params
    (more_words (basic (record { token = 4; keyword = keywords.Void })) no_words) no_declr [] no_params) None 5))
    [] 6 no_block_items 7) ∷ [])

-- its tokens
abbrev pub kinds_14 : List TokenKind
kinds_14 =
    ((kinds.Keyword keywords.Int) ∷ (kinds.Punct signs.Star) ∷ (kinds.Name 0) ∷ (kinds.Punct signs.OpenParen)
    ∷ (kinds.Keyword keywords.Void) ∷ (kinds.Punct signs.CloseParen) ∷ (kinds.Punct signs.OpenBrace)
    ∷ (kinds.Punct signs.CloseBrace) ∷ kinds.End ∷ [])

-- int f(int, ...);
abbrev pub items_15 : List Item
items_15 =
    ((decl_item (decl_declaration (declaration [] (more_words
    (basic (record { token = 0; keyword = keywords.Int })) no_words) (more_init_declrs [] (params (declr_name 1 0) 2
    (more_params (more_words (basic (record { token = 3; keyword = keywords.Int })) no_words) no_declr [] no_params)
    (Some (record { comma = 4; quals = []; dots = 5 })) 6) None [] no_init no_init_declrs) 7))) ∷ [])

-- its tokens
abbrev pub kinds_15 : List TokenKind
kinds_15 =
    ((kinds.Keyword keywords.Int) ∷ (kinds.Name 0) ∷ (kinds.Punct signs.OpenParen) ∷ (kinds.Keyword keywords.Int)
    ∷ (kinds.Punct signs.Comma) ∷ (kinds.Punct signs.Ellipsis) ∷ (kinds.Punct signs.CloseParen)
    ∷ (kinds.Punct signs.Semicolon) ∷ kinds.End ∷ [])

-- typedef int T; T a;
abbrev pub items_16 : List Item
items_16 = ((decl_item
    (decl_declaration (declaration [] (more_words (storage (record { token = 0; keyword = keywords.Typedef }))
    (more_words (basic (record { token = 1; keyword = keywords.Int })) no_words))
    (more_init_declrs [] (declr_name 2 0) None [] no_init no_init_declrs) 3)))
    ∷ (decl_item (decl_declaration (declaration [] (more_words (typedef_name (record { token = 4; name = 0 })) no_words)
    (more_init_declrs [] (declr_name 5 1) None [] no_init no_init_declrs) 6))) ∷ [])

-- its tokens
abbrev pub kinds_16 : List TokenKind
kinds_16 =
    ((kinds.Keyword keywords.Typedef) ∷ (kinds.Keyword keywords.Int) ∷ (kinds.Name 0) ∷ (kinds.Punct signs.Semicolon)
    ∷ (kinds.Name 0) ∷ (kinds.Name 1) ∷ (kinds.Punct signs.Semicolon) ∷ kinds.End ∷ [])

-- void f(void) { L; }
abbrev pub items_17 : List Item
items_17 =
    ((function_item [] (more_words (basic (record { token = 0; keyword = keywords.Void })) no_words)
    (params (declr_name 1 0) 2 (more_params
    (more_words (basic (record { token = 3; keyword = keywords.Void })) no_words) no_declr [] no_params) None 4) [] 5
    (more_block_items (block_stmt (expr_stmt (some_expr (name_use 6 1)) 7)) no_block_items) 8) ∷ [])

-- its tokens
abbrev pub kinds_17 : List TokenKind
kinds_17 =
    ((kinds.Keyword keywords.Void) ∷ (kinds.Name 0) ∷ (kinds.Punct signs.OpenParen) ∷ (kinds.Keyword keywords.Void)
    ∷ (kinds.Punct signs.CloseParen) ∷ (kinds.Punct signs.OpenBrace) ∷ (kinds.Name 1) ∷ (kinds.Punct signs.Semicolon)
    ∷ (kinds.Punct signs.CloseBrace) ∷ kinds.End ∷ [])

-- void f(void) { L: ; }
abbrev pub items_18 : List Item
items_18 =
    ((function_item [] (more_words (basic (record { token = 0; keyword = keywords.Void })) no_words) (params
    (declr_name 1 0) 2 (more_params (more_words (basic (record { token = 3; keyword = keywords.Void })) no_words)
    no_declr [] no_params) None 4) [] 5 (more_block_items
    (block_stmt (label (record { token = 6; name = 1 }) 7 [] (expr_stmt no_expr 8))) no_block_items) 9) ∷ [])

-- its tokens
abbrev pub kinds_18 : List TokenKind
kinds_18 =
    ((kinds.Keyword keywords.Void) ∷ (kinds.Name 0) ∷ (kinds.Punct signs.OpenParen) ∷ (kinds.Keyword keywords.Void)
    ∷ (kinds.Punct signs.CloseParen) ∷ (kinds.Punct signs.OpenBrace) ∷ (kinds.Name 1) ∷ (kinds.Punct signs.Colon)
    ∷ (kinds.Punct signs.Semicolon) ∷ (kinds.Punct signs.CloseBrace) ∷ kinds.End ∷ [])

-- enum { A = (b = 3) };
abbrev pub items_19 : List Item
items_19 =
    ((decl_item (decl_declaration (declaration [] (more_words (enum_type (enum_of 0 [] None (some_enum_body 1
    (more_enumerators (record { token = 2; name = 0 }) [] (some_value 3 (paren 4 (operation (name_use 5 1)
    (assign signs.Equal) 6 (number_use 7)) 8)) no_enumerators) None 9))) no_words) no_init_declrs 10))) ∷ [])

-- its tokens
abbrev pub kinds_19 : List TokenKind
kinds_19 =
    ((kinds.Keyword keywords.Enum) ∷ (kinds.Punct signs.OpenBrace) ∷ (kinds.Name 0) ∷ (kinds.Punct signs.Equal)
    ∷ (kinds.Punct signs.OpenParen) ∷ (kinds.Name 1) ∷ (kinds.Punct signs.Equal) ∷ kinds.Number
    ∷ (kinds.Punct signs.CloseParen) ∷ (kinds.Punct signs.CloseBrace) ∷ (kinds.Punct signs.Semicolon) ∷ kinds.End ∷ [])

-- enum { T }; enum { T };
abbrev pub items_20 : List Item
items_20 =
    ((decl_item (decl_declaration (declaration [] (more_words (enum_type (enum_of 0 [] None
    (some_enum_body 1 (more_enumerators (record { token = 2; name = 0 }) [] no_value no_enumerators) None 3))) no_words)
    no_init_declrs 4))) ∷ (decl_item (decl_declaration (declaration [] (more_words (enum_type (enum_of 5 [] None
    (some_enum_body 6 (more_enumerators (record { token = 7; name = 0 }) [] no_value no_enumerators) None 8))) no_words)
    no_init_declrs 9))) ∷ [])

-- its tokens
abbrev pub kinds_20 : List TokenKind
kinds_20 =
    ((kinds.Keyword keywords.Enum) ∷ (kinds.Punct signs.OpenBrace) ∷ (kinds.Name 0) ∷ (kinds.Punct signs.CloseBrace)
    ∷ (kinds.Punct signs.Semicolon) ∷ (kinds.Keyword keywords.Enum) ∷ (kinds.Punct signs.OpenBrace) ∷ (kinds.Name 0)
    ∷ (kinds.Punct signs.CloseBrace) ∷ (kinds.Punct signs.Semicolon) ∷ kinds.End ∷ [])

-- __attribute__((a)) int a;
abbrev pub items_21 : List Item
items_21 =
    ((decl_item (decl_declaration
    (declaration [] (more_words (attribute (record { keyword = 0; group = (record { first = 1; last = 5 }) }))
    (more_words (basic (record { token = 6; keyword = keywords.Int })) no_words))
    (more_init_declrs [] (declr_name 7 0) None [] no_init no_init_declrs) 8))) ∷ [])

-- its tokens
abbrev pub kinds_21 : List TokenKind
kinds_21 =
    ((kinds.Keyword keywords.Attribute) ∷ (kinds.Punct signs.OpenParen) ∷ (kinds.Punct signs.OpenParen) ∷ (kinds.Name 0)
    ∷ (kinds.Punct signs.CloseParen) ∷ (kinds.Punct signs.CloseParen) ∷ (kinds.Keyword keywords.Int) ∷ (kinds.Name 0)
    ∷ (kinds.Punct signs.Semicolon) ∷ kinds.End ∷ [])

-- int __attribute__((a)) a;
abbrev pub items_22 : List Item
items_22 =
    ((decl_item (decl_declaration (declaration [] (more_words (basic (record { token = 0; keyword = keywords.Int }))
    (more_words (attribute (record { keyword = 1; group = (record { first = 2; last = 6 }) })) no_words))
    (more_init_declrs [] (declr_name 7 0) None [] no_init no_init_declrs) 8))) ∷ [])

-- its tokens
abbrev pub kinds_22 : List TokenKind
kinds_22 =
    ((kinds.Keyword keywords.Int) ∷ (kinds.Keyword keywords.Attribute) ∷ (kinds.Punct signs.OpenParen)
    ∷ (kinds.Punct signs.OpenParen) ∷ (kinds.Name 0) ∷ (kinds.Punct signs.CloseParen) ∷ (kinds.Punct signs.CloseParen)
    ∷ (kinds.Name 0) ∷ (kinds.Punct signs.Semicolon) ∷ kinds.End ∷ [])

-- int a __attribute__((a));
abbrev pub items_23 : List Item
items_23 =
    ((decl_item (decl_declaration (declaration []
    (more_words (basic (record { token = 0; keyword = keywords.Int })) no_words) (more_init_declrs [] (declr_name 1 0)
    None ((record { keyword = 2; group = (record { first = 3; last = 7 }) }) ∷ []) no_init no_init_declrs) 8))) ∷ [])

-- its tokens
abbrev pub kinds_23 : List TokenKind
kinds_23 =
    ((kinds.Keyword keywords.Int) ∷ (kinds.Name 0) ∷ (kinds.Keyword keywords.Attribute) ∷ (kinds.Punct signs.OpenParen)
    ∷ (kinds.Punct signs.OpenParen) ∷ (kinds.Name 0) ∷ (kinds.Punct signs.CloseParen) ∷ (kinds.Punct signs.CloseParen)
    ∷ (kinds.Punct signs.Semicolon) ∷ kinds.End ∷ [])

-- int f(int, $tainted ...);
abbrev pub items_24 : List Item
items_24 =
    ((decl_item (decl_declaration (declaration [] (more_words
    (basic (record { token = 0; keyword = keywords.Int })) no_words) (more_init_declrs [] (params (declr_name 1 0) 2
    (more_params (more_words (basic (record { token = 3; keyword = keywords.Int })) no_words) no_declr [] no_params)
    (Some (record { comma = 4; quals = ((quals.Element 5) ∷ []); dots = 6 })) 7) None [] no_init no_init_declrs) 8)))
    ∷ [])

-- its tokens
abbrev pub kinds_24 : List TokenKind
kinds_24 =
    ((kinds.Keyword keywords.Int) ∷ (kinds.Name 0) ∷ (kinds.Punct signs.OpenParen) ∷ (kinds.Keyword keywords.Int)
    ∷ (kinds.Punct signs.Comma) ∷ (kinds.Qual 0 0) ∷ (kinds.Punct signs.Ellipsis) ∷ (kinds.Punct signs.CloseParen)
    ∷ (kinds.Punct signs.Semicolon) ∷ kinds.End ∷ [])

-- typedef int T; int f(T T);
abbrev pub items_25 : List Item
items_25 = ((decl_item
    (decl_declaration (declaration [] (more_words (storage (record { token = 0; keyword = keywords.Typedef }))
    (more_words (basic (record { token = 1; keyword = keywords.Int })) no_words))
    (more_init_declrs [] (declr_name 2 0) None [] no_init no_init_declrs) 3))) ∷ (decl_item (decl_declaration
    (declaration [] (more_words (basic (record { token = 4; keyword = keywords.Int })) no_words) (more_init_declrs []
    (params (declr_name 5 1) 6 (more_params (more_words (typedef_name (record { token = 7; name = 0 })) no_words)
    (some_declr (declr_name 8 0)) [] no_params) None 9) None [] no_init no_init_declrs) 10))) ∷ [])

-- its tokens
abbrev pub kinds_25 : List TokenKind
kinds_25 =
    ((kinds.Keyword keywords.Typedef) ∷ (kinds.Keyword keywords.Int) ∷ (kinds.Name 0) ∷ (kinds.Punct signs.Semicolon)
    ∷ (kinds.Keyword keywords.Int) ∷ (kinds.Name 1) ∷ (kinds.Punct signs.OpenParen) ∷ (kinds.Name 0) ∷ (kinds.Name 0)
    ∷ (kinds.Punct signs.CloseParen) ∷ (kinds.Punct signs.Semicolon) ∷ kinds.End ∷ [])

-- typedef int T; typedef T T;
abbrev pub items_26 : List Item
items_26 = ((decl_item
    (decl_declaration (declaration [] (more_words (storage (record { token = 0; keyword = keywords.Typedef }))
    (more_words (basic (record { token = 1; keyword = keywords.Int })) no_words))
    (more_init_declrs [] (declr_name 2 0) None [] no_init no_init_declrs) 3))) ∷ (decl_item
    (decl_declaration (declaration [] (more_words (storage (record { token = 4; keyword = keywords.Typedef }))
    (more_words (typedef_name (record { token = 5; name = 0 })) no_words))
    (more_init_declrs [] (declr_name 6 0) None [] no_init no_init_declrs) 7))) ∷ [])

-- its tokens
abbrev pub kinds_26 : List TokenKind
kinds_26 =
    ((kinds.Keyword keywords.Typedef) ∷ (kinds.Keyword keywords.Int) ∷ (kinds.Name 0) ∷ (kinds.Punct signs.Semicolon)
    ∷ (kinds.Keyword keywords.Typedef) ∷ (kinds.Name 0) ∷ (kinds.Name 0) ∷ (kinds.Punct signs.Semicolon)
    ∷ kinds.End ∷ [])

-- void f(void) { L: M: N: ; }
abbrev pub items_27 : List Item
items_27 =
    ((function_item [] (more_words (basic (record { token = 0; keyword = keywords.Void })) no_words)
    (params (declr_name 1 0) 2 (more_params
    (more_words (basic (record { token = 3; keyword = keywords.Void })) no_words) no_declr [] no_params) None 4) [] 5
    (more_block_items (block_stmt (label (record { token = 6; name = 1 }) 7 [] (label (record { token = 8; name = 2 }) 9
    [] (label (record { token = 10; name = 3 }) 11 [] (expr_stmt no_expr 12))))) no_block_items) 13) ∷ [])

-- its tokens
abbrev pub kinds_27 : List TokenKind
kinds_27 =
    ((kinds.Keyword keywords.Void) ∷ (kinds.Name 0) ∷ (kinds.Punct signs.OpenParen) ∷ (kinds.Keyword keywords.Void)
    ∷ (kinds.Punct signs.CloseParen) ∷ (kinds.Punct signs.OpenBrace) ∷ (kinds.Name 1) ∷ (kinds.Punct signs.Colon)
    ∷ (kinds.Name 2) ∷ (kinds.Punct signs.Colon) ∷ (kinds.Name 3) ∷ (kinds.Punct signs.Colon)
    ∷ (kinds.Punct signs.Semicolon) ∷ (kinds.Punct signs.CloseBrace) ∷ kinds.End ∷ [])

-- void f(void) { if (1, 2) ; }
abbrev pub items_28 : List Item
items_28 =
    ((function_item [] (more_words (basic (record { token = 0; keyword = keywords.Void })) no_words) (params
    (declr_name 1 0) 2 (more_params (more_words (basic (record { token = 3; keyword = keywords.Void })) no_words)
    no_declr [] no_params) None 4) [] 5 (more_block_items (block_stmt (if_stmt 6 7
    (operation (number_use 8) comma 9 (number_use 10)) 11 (expr_stmt no_expr 12) no_else)) no_block_items) 13) ∷ [])

-- its tokens
abbrev pub kinds_28 : List TokenKind
kinds_28 =
    ((kinds.Keyword keywords.Void) ∷ (kinds.Name 0) ∷ (kinds.Punct signs.OpenParen) ∷ (kinds.Keyword keywords.Void)
    ∷ (kinds.Punct signs.CloseParen) ∷ (kinds.Punct signs.OpenBrace) ∷ (kinds.Keyword keywords.If)
    ∷ (kinds.Punct signs.OpenParen) ∷ kinds.Number ∷ (kinds.Punct signs.Comma) ∷ kinds.Number
    ∷ (kinds.Punct signs.CloseParen) ∷ (kinds.Punct signs.Semicolon) ∷ (kinds.Punct signs.CloseBrace) ∷ kinds.End ∷ [])

-- typedef int T; int f(T (T));
abbrev pub items_29 : List Item
items_29 = ((decl_item
    (decl_declaration (declaration [] (more_words (storage (record { token = 0; keyword = keywords.Typedef }))
    (more_words (basic (record { token = 1; keyword = keywords.Int })) no_words))
    (more_init_declrs [] (declr_name 2 0) None [] no_init no_init_declrs) 3))) ∷ (decl_item (decl_declaration
    (declaration [] (more_words (basic (record { token = 4; keyword = keywords.Int })) no_words) (more_init_declrs []
    (params (declr_name 5 1) 6 (more_params (more_words (typedef_name (record { token = 7; name = 0 })) no_words)
    (some_declr (abs_params no_declr 8 (more_params (more_words (typedef_name (record { token = 9; name = 0 }))
    no_words) no_declr [] no_params) None 10)) [] no_params) None 11) None [] no_init no_init_declrs) 12))) ∷ [])

-- its tokens
abbrev pub kinds_29 : List TokenKind
kinds_29 =
    ((kinds.Keyword keywords.Typedef) ∷ (kinds.Keyword keywords.Int) ∷ (kinds.Name 0) ∷ (kinds.Punct signs.Semicolon)
    ∷ (kinds.Keyword keywords.Int) ∷ (kinds.Name 1) ∷ (kinds.Punct signs.OpenParen) ∷ (kinds.Name 0)
    ∷ (kinds.Punct signs.OpenParen) ∷ (kinds.Name 0) ∷ (kinds.Punct signs.CloseParen) ∷ (kinds.Punct signs.CloseParen)
    ∷ (kinds.Punct signs.Semicolon) ∷ kinds.End ∷ [])

-- typedef int T; int f(int (T));
abbrev pub items_30 : List Item
items_30 = ((decl_item
    (decl_declaration (declaration [] (more_words (storage (record { token = 0; keyword = keywords.Typedef }))
    (more_words (basic (record { token = 1; keyword = keywords.Int })) no_words))
    (more_init_declrs [] (declr_name 2 0) None [] no_init no_init_declrs) 3))) ∷ (decl_item (decl_declaration
    (declaration [] (more_words (basic (record { token = 4; keyword = keywords.Int })) no_words) (more_init_declrs []
    (params (declr_name 5 1) 6 (more_params (more_words (basic (record { token = 7; keyword = keywords.Int })) no_words)
    (some_declr (abs_params no_declr 8 (more_params (more_words (typedef_name (record { token = 9; name = 0 }))
    no_words) no_declr [] no_params) None 10)) [] no_params) None 11) None [] no_init no_init_declrs) 12))) ∷ [])

-- its tokens
abbrev pub kinds_30 : List TokenKind
kinds_30 =
    ((kinds.Keyword keywords.Typedef) ∷ (kinds.Keyword keywords.Int) ∷ (kinds.Name 0) ∷ (kinds.Punct signs.Semicolon)
    ∷ (kinds.Keyword keywords.Int) ∷ (kinds.Name 1) ∷ (kinds.Punct signs.OpenParen) ∷ (kinds.Keyword keywords.Int)
    ∷ (kinds.Punct signs.OpenParen) ∷ (kinds.Name 0) ∷ (kinds.Punct signs.CloseParen) ∷ (kinds.Punct signs.CloseParen)
    ∷ (kinds.Punct signs.Semicolon) ∷ kinds.End ∷ [])

-- typedef int T; union T *p; T b;
abbrev pub items_31 : List Item
items_31 = ((decl_item
    (decl_declaration (declaration [] (more_words (storage (record { token = 0; keyword = keywords.Typedef }))
    (more_words (basic (record { token = 1; keyword = keywords.Int })) no_words))
    (more_init_declrs [] (declr_name 2 0) None [] no_init no_init_declrs) 3)))
    ∷ (decl_item (decl_declaration (declaration [] (more_words (struct_type
    (record { token = 4; keyword = keywords.Union }) [] (Some (record { token = 5; name = 0 })) no_body) no_words)
    (more_init_declrs [] (pointer 6 [] (declr_name 7 1)) None [] no_init no_init_declrs) 8)))
    ∷ (decl_item (decl_declaration (declaration [] (more_words (typedef_name (record { token = 9; name = 0 })) no_words)
    (more_init_declrs [] (declr_name 10 2) None [] no_init no_init_declrs) 11))) ∷ [])

-- its tokens
abbrev pub kinds_31 : List TokenKind
kinds_31 =
    ((kinds.Keyword keywords.Typedef) ∷ (kinds.Keyword keywords.Int) ∷ (kinds.Name 0) ∷ (kinds.Punct signs.Semicolon)
    ∷ (kinds.Keyword keywords.Union) ∷ (kinds.Name 0) ∷ (kinds.Punct signs.Star) ∷ (kinds.Name 1)
    ∷ (kinds.Punct signs.Semicolon) ∷ (kinds.Name 0) ∷ (kinds.Name 2) ∷ (kinds.Punct signs.Semicolon) ∷ kinds.End ∷ [])

-- void f(void) { if (1) ; else ; }
abbrev pub items_32 : List Item
items_32 =
    ((function_item [] (more_words (basic (record { token = 0; keyword = keywords.Void })) no_words) (params
    (declr_name 1 0) 2 (more_params (more_words (basic (record { token = 3; keyword = keywords.Void })) no_words)
    no_declr [] no_params) None 4) [] 5 (more_block_items (block_stmt (if_stmt 6 7 (number_use 8) 9
    (expr_stmt no_expr 10) (some_else 11 (expr_stmt no_expr 12)))) no_block_items) 13) ∷ [])

-- its tokens
abbrev pub kinds_32 : List TokenKind
kinds_32 =
    ((kinds.Keyword keywords.Void) ∷ (kinds.Name 0) ∷ (kinds.Punct signs.OpenParen) ∷ (kinds.Keyword keywords.Void)
    ∷ (kinds.Punct signs.CloseParen) ∷ (kinds.Punct signs.OpenBrace) ∷ (kinds.Keyword keywords.If)
    ∷ (kinds.Punct signs.OpenParen) ∷ kinds.Number ∷ (kinds.Punct signs.CloseParen) ∷ (kinds.Punct signs.Semicolon)
    ∷ (kinds.Keyword keywords.Else) ∷ (kinds.Punct signs.Semicolon) ∷ (kinds.Punct signs.CloseBrace) ∷ kinds.End ∷ [])

-- void f(void) { $tainted int x; }
abbrev pub items_33 : List Item
items_33 =
    ((function_item [] (more_words (basic (record { token = 0; keyword = keywords.Void })) no_words) (params
    (declr_name 1 0) 2 (more_params (more_words (basic (record { token = 3; keyword = keywords.Void })) no_words)
    no_declr [] no_params) None 4) [] 5 (more_block_items (block_decl (decl_declaration (declaration [] (more_words
    (qualifier (quals.Element 6)) (more_words (basic (record { token = 7; keyword = keywords.Int })) no_words))
    (more_init_declrs [] (declr_name 8 1) None [] no_init no_init_declrs) 9))) no_block_items) 10) ∷ [])

-- its tokens
abbrev pub kinds_33 : List TokenKind
kinds_33 =
    ((kinds.Keyword keywords.Void) ∷ (kinds.Name 0) ∷ (kinds.Punct signs.OpenParen) ∷ (kinds.Keyword keywords.Void)
    ∷ (kinds.Punct signs.CloseParen) ∷ (kinds.Punct signs.OpenBrace) ∷ (kinds.Qual 0 0) ∷ (kinds.Keyword keywords.Int)
    ∷ (kinds.Name 1) ∷ (kinds.Punct signs.Semicolon) ∷ (kinds.Punct signs.CloseBrace) ∷ kinds.End ∷ [])

-- $tainted int a; int $untainted b;
abbrev pub items_34 : List Item
items_34 =
    ((decl_item (decl_declaration (declaration [] (more_words (qualifier (quals.Element 0))
    (more_words (basic (record { token = 1; keyword = keywords.Int })) no_words)) (more_init_declrs []
    (declr_name 2 0) None [] no_init no_init_declrs) 3))) ∷ (decl_item (decl_declaration (declaration [] (more_words
    (basic (record { token = 4; keyword = keywords.Int })) (more_words (qualifier (quals.Element 5)) no_words))
    (more_init_declrs [] (declr_name 6 1) None [] no_init no_init_declrs) 7))) ∷ [])

-- its tokens
abbrev pub kinds_34 : List TokenKind
kinds_34 =
    ((kinds.Qual 0 0) ∷ (kinds.Keyword keywords.Int) ∷ (kinds.Name 0) ∷ (kinds.Punct signs.Semicolon)
    ∷ (kinds.Keyword keywords.Int) ∷ (kinds.Qual 0 0) ∷ (kinds.Name 1) ∷ (kinds.Punct signs.Semicolon) ∷ kinds.End ∷ [])

-- typedef int T; int f(int T), g(T);
abbrev pub items_35 : List Item
items_35 = ((decl_item
    (decl_declaration (declaration [] (more_words (storage (record { token = 0; keyword = keywords.Typedef }))
    (more_words (basic (record { token = 1; keyword = keywords.Int })) no_words))
    (more_init_declrs [] (declr_name 2 0) None [] no_init no_init_declrs) 3))) ∷ (decl_item (decl_declaration
    (declaration [] (more_words (basic (record { token = 4; keyword = keywords.Int })) no_words) (more_init_declrs []
    (params (declr_name 5 2) 6 (more_params (more_words (basic (record { token = 7; keyword = keywords.Int })) no_words)
    (some_declr (declr_name 8 0)) [] no_params) None 9) None [] no_init (more_init_declrs [] (params
    (declr_name 11 1) 12 (more_params (more_words (typedef_name (record { token = 13; name = 0 })) no_words) no_declr
    [] no_params) None 14) None [] no_init no_init_declrs)) 15))) ∷ [])

-- its tokens
abbrev pub kinds_35 : List TokenKind
kinds_35 =
    ((kinds.Keyword keywords.Typedef) ∷ (kinds.Keyword keywords.Int) ∷ (kinds.Name 0) ∷ (kinds.Punct signs.Semicolon)
    ∷ (kinds.Keyword keywords.Int) ∷ (kinds.Name 2) ∷ (kinds.Punct signs.OpenParen) ∷ (kinds.Keyword keywords.Int)
    ∷ (kinds.Name 0) ∷ (kinds.Punct signs.CloseParen) ∷ (kinds.Punct signs.Comma) ∷ (kinds.Name 1)
    ∷ (kinds.Punct signs.OpenParen) ∷ (kinds.Name 0) ∷ (kinds.Punct signs.CloseParen) ∷ (kinds.Punct signs.Semicolon)
    ∷ kinds.End ∷ [])

-- typedef int T; void f(void) { T; }
abbrev pub items_36 : List Item
items_36 = ((decl_item
    (decl_declaration (declaration [] (more_words (storage (record { token = 0; keyword = keywords.Typedef }))
    (more_words (basic (record { token = 1; keyword = keywords.Int })) no_words))
    (more_init_declrs [] (declr_name 2 0) None [] no_init no_init_declrs) 3)))
    ∷ (function_item [] (more_words (basic (record { token = 4; keyword = keywords.Void })) no_words) (params
    (declr_name 5 1) 6 (more_params (more_words (basic (record { token = 7; keyword = keywords.Void })) no_words)
    no_declr [] no_params) None 8) [] 9 (more_block_items (block_decl (decl_declaration (declaration [] (more_words
    (typedef_name (record { token = 10; name = 0 })) no_words) no_init_declrs 11))) no_block_items) 12) ∷ [])

-- its tokens
abbrev pub kinds_36 : List TokenKind
kinds_36 =
    ((kinds.Keyword keywords.Typedef) ∷ (kinds.Keyword keywords.Int) ∷ (kinds.Name 0) ∷ (kinds.Punct signs.Semicolon)
    ∷ (kinds.Keyword keywords.Void) ∷ (kinds.Name 1) ∷ (kinds.Punct signs.OpenParen) ∷ (kinds.Keyword keywords.Void)
    ∷ (kinds.Punct signs.CloseParen) ∷ (kinds.Punct signs.OpenBrace) ∷ (kinds.Name 0) ∷ (kinds.Punct signs.Semicolon)
    ∷ (kinds.Punct signs.CloseBrace) ∷ kinds.End ∷ [])

-- typedef int T; void f(T T) { T++; }
abbrev pub items_37 : List Item
items_37 = ((decl_item
    (decl_declaration (declaration [] (more_words (storage (record { token = 0; keyword = keywords.Typedef }))
    (more_words (basic (record { token = 1; keyword = keywords.Int })) no_words))
    (more_init_declrs [] (declr_name 2 0) None [] no_init no_init_declrs) 3)))
    ∷ (function_item [] (more_words (basic (record { token = 4; keyword = keywords.Void })) no_words)
    (params (declr_name 5 1) 6 (more_params (more_words (typedef_name (record { token = 7; name = 0 })) no_words)
    (some_declr (declr_name 8 0)) [] no_params) None 9) [] 10 (more_block_items
    (block_stmt (expr_stmt (some_expr (post (name_use 11 0) 12 signs.PlusPlus)) 13)) no_block_items) 14) ∷ [])

-- its tokens
abbrev pub kinds_37 : List TokenKind
kinds_37 =
    ((kinds.Keyword keywords.Typedef) ∷ (kinds.Keyword keywords.Int) ∷ (kinds.Name 0) ∷ (kinds.Punct signs.Semicolon)
    ∷ (kinds.Keyword keywords.Void) ∷ (kinds.Name 1) ∷ (kinds.Punct signs.OpenParen) ∷ (kinds.Name 0) ∷ (kinds.Name 0)
    ∷ (kinds.Punct signs.CloseParen) ∷ (kinds.Punct signs.OpenBrace) ∷ (kinds.Name 0) ∷ (kinds.Punct signs.PlusPlus)
    ∷ (kinds.Punct signs.Semicolon) ∷ (kinds.Punct signs.CloseBrace) ∷ kinds.End ∷ [])

-- typedef int T; __extension__ int a;
abbrev pub items_38 : List Item
items_38 = ((decl_item
    (decl_declaration (declaration [] (more_words (storage (record { token = 0; keyword = keywords.Typedef }))
    (more_words (basic (record { token = 1; keyword = keywords.Int })) no_words))
    (more_init_declrs [] (declr_name 2 0) None [] no_init no_init_declrs) 3))) ∷ (decl_item
    (decl_declaration (declaration (4 ∷ []) (more_words (basic (record { token = 5; keyword = keywords.Int })) no_words)
    (more_init_declrs [] (declr_name 6 1) None [] no_init no_init_declrs) 7))) ∷ [])

-- its tokens
abbrev pub kinds_38 : List TokenKind
kinds_38 =
    ((kinds.Keyword keywords.Typedef) ∷ (kinds.Keyword keywords.Int) ∷ (kinds.Name 0) ∷ (kinds.Punct signs.Semicolon)
    ∷ (kinds.Keyword keywords.Extension) ∷ (kinds.Keyword keywords.Int) ∷ (kinds.Name 1) ∷ (kinds.Punct signs.Semicolon)
    ∷ kinds.End ∷ [])

-- _Complex x; double _Complex long y;
abbrev pub items_39 : List Item
items_39 =
    ((decl_item (decl_declaration (declaration [] (more_words (basic (record { token = 0; keyword = keywords.Complex }))
    no_words) (more_init_declrs [] (declr_name 1 0) None [] no_init no_init_declrs) 2)))
    ∷ (decl_item (decl_declaration (declaration [] (more_words (basic (record { token = 3; keyword = keywords.Double }))
    (more_words (basic (record { token = 4; keyword = keywords.Complex }))
    (more_words (basic (record { token = 5; keyword = keywords.Long })) no_words)))
    (more_init_declrs [] (declr_name 6 1) None [] no_init no_init_declrs) 7))) ∷ [])

-- its tokens
abbrev pub kinds_39 : List TokenKind
kinds_39 =
    ((kinds.Keyword keywords.Complex) ∷ (kinds.Name 0) ∷ (kinds.Punct signs.Semicolon) ∷ (kinds.Keyword keywords.Double)
    ∷ (kinds.Keyword keywords.Complex) ∷ (kinds.Keyword keywords.Long) ∷ (kinds.Name 1) ∷ (kinds.Punct signs.Semicolon)
    ∷ kinds.End ∷ [])

-- typedef int T; void f(void) { T: ; }
abbrev pub items_40 : List Item
items_40 = ((decl_item
    (decl_declaration (declaration [] (more_words (storage (record { token = 0; keyword = keywords.Typedef }))
    (more_words (basic (record { token = 1; keyword = keywords.Int })) no_words))
    (more_init_declrs [] (declr_name 2 0) None [] no_init no_init_declrs) 3)))
    ∷ (function_item [] (more_words (basic (record { token = 4; keyword = keywords.Void })) no_words) (params
    (declr_name 5 1) 6 (more_params (more_words (basic (record { token = 7; keyword = keywords.Void })) no_words)
    no_declr [] no_params) None 8) [] 9 (more_block_items
    (block_stmt (label (record { token = 10; name = 0 }) 11 [] (expr_stmt no_expr 12))) no_block_items) 13) ∷ [])

-- its tokens
abbrev pub kinds_40 : List TokenKind
kinds_40 =
    ((kinds.Keyword keywords.Typedef) ∷ (kinds.Keyword keywords.Int) ∷ (kinds.Name 0) ∷ (kinds.Punct signs.Semicolon)
    ∷ (kinds.Keyword keywords.Void) ∷ (kinds.Name 1) ∷ (kinds.Punct signs.OpenParen) ∷ (kinds.Keyword keywords.Void)
    ∷ (kinds.Punct signs.CloseParen) ∷ (kinds.Punct signs.OpenBrace) ∷ (kinds.Name 0) ∷ (kinds.Punct signs.Colon)
    ∷ (kinds.Punct signs.Semicolon) ∷ (kinds.Punct signs.CloseBrace) ∷ kinds.End ∷ [])

-- typedef int T; void f(int T) { } T a;
abbrev pub items_41 : List Item
items_41 = ((decl_item
    (decl_declaration (declaration [] (more_words (storage (record { token = 0; keyword = keywords.Typedef }))
    (more_words (basic (record { token = 1; keyword = keywords.Int })) no_words))
    (more_init_declrs [] (declr_name 2 0) None [] no_init no_init_declrs) 3)))
    ∷ (function_item [] (more_words (basic (record { token = 4; keyword = keywords.Void })) no_words)
    (params (declr_name 5 1) 6 (more_params (more_words (basic (record { token = 7; keyword = keywords.Int })) no_words)
    (some_declr (declr_name 8 0)) [] no_params) None 9) [] 10 no_block_items 11) ∷ (decl_item
    (decl_declaration (declaration [] (more_words (typedef_name (record { token = 12; name = 0 })) no_words)
    (more_init_declrs [] (declr_name 13 2) None [] no_init no_init_declrs) 14))) ∷ [])

-- its tokens
abbrev pub kinds_41 : List TokenKind
kinds_41 =
    ((kinds.Keyword keywords.Typedef) ∷ (kinds.Keyword keywords.Int) ∷ (kinds.Name 0) ∷ (kinds.Punct signs.Semicolon)
    ∷ (kinds.Keyword keywords.Void) ∷ (kinds.Name 1) ∷ (kinds.Punct signs.OpenParen) ∷ (kinds.Keyword keywords.Int)
    ∷ (kinds.Name 0) ∷ (kinds.Punct signs.CloseParen) ∷ (kinds.Punct signs.OpenBrace) ∷ (kinds.Punct signs.CloseBrace)
    ∷ (kinds.Name 0) ∷ (kinds.Name 2) ∷ (kinds.Punct signs.Semicolon) ∷ kinds.End ∷ [])

-- typedef int T; void f(void) { T(x); }
abbrev pub items_42 : List Item
items_42 = ((decl_item
    (decl_declaration (declaration [] (more_words (storage (record { token = 0; keyword = keywords.Typedef }))
    (more_words (basic (record { token = 1; keyword = keywords.Int })) no_words))
    (more_init_declrs [] (declr_name 2 0) None [] no_init no_init_declrs) 3)))
    ∷ (function_item [] (more_words (basic (record { token = 4; keyword = keywords.Void })) no_words) (params
    (declr_name 5 1) 6 (more_params (more_words (basic (record { token = 7; keyword = keywords.Void })) no_words)
    no_declr [] no_params) None 8) [] 9 (more_block_items (block_decl (decl_declaration
    (declaration [] (more_words (typedef_name (record { token = 10; name = 0 })) no_words) (more_init_declrs []
    (declr_paren 11 [] (declr_name 12 2) 13) None [] no_init no_init_declrs) 14))) no_block_items) 15) ∷ [])

-- its tokens
abbrev pub kinds_42 : List TokenKind
kinds_42 =
    ((kinds.Keyword keywords.Typedef) ∷ (kinds.Keyword keywords.Int) ∷ (kinds.Name 0) ∷ (kinds.Punct signs.Semicolon)
    ∷ (kinds.Keyword keywords.Void) ∷ (kinds.Name 1) ∷ (kinds.Punct signs.OpenParen) ∷ (kinds.Keyword keywords.Void)
    ∷ (kinds.Punct signs.CloseParen) ∷ (kinds.Punct signs.OpenBrace) ∷ (kinds.Name 0) ∷ (kinds.Punct signs.OpenParen)
    ∷ (kinds.Name 2) ∷ (kinds.Punct signs.CloseParen) ∷ (kinds.Punct signs.Semicolon) ∷ (kinds.Punct signs.CloseBrace)
    ∷ kinds.End ∷ [])

-- typedef int T; void f(void) { ++-x; }
abbrev pub items_43 : List Item
items_43 = ((decl_item
    (decl_declaration (declaration [] (more_words (storage (record { token = 0; keyword = keywords.Typedef }))
    (more_words (basic (record { token = 1; keyword = keywords.Int })) no_words))
    (more_init_declrs [] (declr_name 2 0) None [] no_init no_init_declrs) 3)))
    ∷ (function_item [] (more_words (basic (record { token = 4; keyword = keywords.Void })) no_words) (params
    (declr_name 5 1) 6 (more_params (more_words (basic (record { token = 7; keyword = keywords.Void })) no_words)
    no_declr [] no_params) None 8) [] 9 (more_block_items (block_stmt (expr_stmt
    (some_expr (prefix 10 signs.PlusPlus (prefix 11 signs.Minus (name_use 12 2)))) 13)) no_block_items) 14) ∷ [])

-- its tokens
abbrev pub kinds_43 : List TokenKind
kinds_43 =
    ((kinds.Keyword keywords.Typedef) ∷ (kinds.Keyword keywords.Int) ∷ (kinds.Name 0) ∷ (kinds.Punct signs.Semicolon)
    ∷ (kinds.Keyword keywords.Void) ∷ (kinds.Name 1) ∷ (kinds.Punct signs.OpenParen) ∷ (kinds.Keyword keywords.Void)
    ∷ (kinds.Punct signs.CloseParen) ∷ (kinds.Punct signs.OpenBrace) ∷ (kinds.Punct signs.PlusPlus)
    ∷ (kinds.Punct signs.Minus) ∷ (kinds.Name 2) ∷ (kinds.Punct signs.Semicolon) ∷ (kinds.Punct signs.CloseBrace)
    ∷ kinds.End ∷ [])

-- typedef int T; void f(void) { (T)-1; }
abbrev pub items_44 : List Item
items_44 = ((decl_item
    (decl_declaration (declaration [] (more_words (storage (record { token = 0; keyword = keywords.Typedef }))
    (more_words (basic (record { token = 1; keyword = keywords.Int })) no_words))
    (more_init_declrs [] (declr_name 2 0) None [] no_init no_init_declrs) 3)))
    ∷ (function_item [] (more_words (basic (record { token = 4; keyword = keywords.Void })) no_words) (params
    (declr_name 5 1) 6 (more_params (more_words (basic (record { token = 7; keyword = keywords.Void })) no_words)
    no_declr [] no_params) None 8) [] 9 (more_block_items (block_stmt
    (expr_stmt (some_expr (cast 10 (more_words (typedef_name (record { token = 11; name = 0 })) no_words) no_declr 12
    (prefix 13 signs.Minus (number_use 14)))) 15)) no_block_items) 16) ∷ [])

-- its tokens
abbrev pub kinds_44 : List TokenKind
kinds_44 =
    ((kinds.Keyword keywords.Typedef) ∷ (kinds.Keyword keywords.Int) ∷ (kinds.Name 0) ∷ (kinds.Punct signs.Semicolon)
    ∷ (kinds.Keyword keywords.Void) ∷ (kinds.Name 1) ∷ (kinds.Punct signs.OpenParen) ∷ (kinds.Keyword keywords.Void)
    ∷ (kinds.Punct signs.CloseParen) ∷ (kinds.Punct signs.OpenBrace) ∷ (kinds.Punct signs.OpenParen) ∷ (kinds.Name 0)
    ∷ (kinds.Punct signs.CloseParen) ∷ (kinds.Punct signs.Minus) ∷ kinds.Number ∷ (kinds.Punct signs.Semicolon)
    ∷ (kinds.Punct signs.CloseBrace) ∷ kinds.End ∷ [])

-- typedef int T; void f(void) { (T)*x; }
abbrev pub items_45 : List Item
items_45 = ((decl_item
    (decl_declaration (declaration [] (more_words (storage (record { token = 0; keyword = keywords.Typedef }))
    (more_words (basic (record { token = 1; keyword = keywords.Int })) no_words))
    (more_init_declrs [] (declr_name 2 0) None [] no_init no_init_declrs) 3)))
    ∷ (function_item [] (more_words (basic (record { token = 4; keyword = keywords.Void })) no_words) (params
    (declr_name 5 1) 6 (more_params (more_words (basic (record { token = 7; keyword = keywords.Void })) no_words)
    no_declr [] no_params) None 8) [] 9 (more_block_items (block_stmt
    (expr_stmt (some_expr (cast 10 (more_words (typedef_name (record { token = 11; name = 0 })) no_words) no_declr 12
    (prefix 13 signs.Star (name_use 14 2)))) 15)) no_block_items) 16) ∷ [])

-- its tokens
abbrev pub kinds_45 : List TokenKind
kinds_45 =
    ((kinds.Keyword keywords.Typedef) ∷ (kinds.Keyword keywords.Int) ∷ (kinds.Name 0) ∷ (kinds.Punct signs.Semicolon)
    ∷ (kinds.Keyword keywords.Void) ∷ (kinds.Name 1) ∷ (kinds.Punct signs.OpenParen) ∷ (kinds.Keyword keywords.Void)
    ∷ (kinds.Punct signs.CloseParen) ∷ (kinds.Punct signs.OpenBrace) ∷ (kinds.Punct signs.OpenParen) ∷ (kinds.Name 0)
    ∷ (kinds.Punct signs.CloseParen) ∷ (kinds.Punct signs.Star) ∷ (kinds.Name 2) ∷ (kinds.Punct signs.Semicolon)
    ∷ (kinds.Punct signs.CloseBrace) ∷ kinds.End ∷ [])

-- typedef int T; void f(void) { ({ }); }
abbrev pub items_46 : List Item
items_46 = ((decl_item
    (decl_declaration (declaration [] (more_words (storage (record { token = 0; keyword = keywords.Typedef }))
    (more_words (basic (record { token = 1; keyword = keywords.Int })) no_words))
    (more_init_declrs [] (declr_name 2 0) None [] no_init no_init_declrs) 3)))
    ∷ (function_item [] (more_words (basic (record { token = 4; keyword = keywords.Void })) no_words) (params
    (declr_name 5 1) 6 (more_params (more_words (basic (record { token = 7; keyword = keywords.Void })) no_words)
    no_declr [] no_params) None 8) [] 9 (more_block_items
    (block_stmt (expr_stmt (some_expr (statement_expr 10 11 no_block_items 12 13)) 14)) no_block_items) 15) ∷ [])

-- its tokens
abbrev pub kinds_46 : List TokenKind
kinds_46 =
    ((kinds.Keyword keywords.Typedef) ∷ (kinds.Keyword keywords.Int) ∷ (kinds.Name 0) ∷ (kinds.Punct signs.Semicolon)
    ∷ (kinds.Keyword keywords.Void) ∷ (kinds.Name 1) ∷ (kinds.Punct signs.OpenParen) ∷ (kinds.Keyword keywords.Void)
    ∷ (kinds.Punct signs.CloseParen) ∷ (kinds.Punct signs.OpenBrace) ∷ (kinds.Punct signs.OpenParen)
    ∷ (kinds.Punct signs.OpenBrace) ∷ (kinds.Punct signs.CloseBrace) ∷ (kinds.Punct signs.CloseParen)
    ∷ (kinds.Punct signs.Semicolon) ∷ (kinds.Punct signs.CloseBrace) ∷ kinds.End ∷ [])

-- long int unsigned long static const x;
abbrev pub items_47 : List Item
items_47 =
    ((decl_item (decl_declaration (declaration [] (more_words (basic (record { token = 0; keyword = keywords.Long }))
    (more_words (basic (record { token = 1; keyword = keywords.Int }))
    (more_words (basic (record { token = 2; keyword = keywords.Unsigned }))
    (more_words (basic (record { token = 3; keyword = keywords.Long }))
    (more_words (storage (record { token = 4; keyword = keywords.Static }))
    (more_words (qualifier (quals.Word (record { token = 5; keyword = keywords.Const }))) no_words))))))
    (more_init_declrs [] (declr_name 6 0) None [] no_init no_init_declrs) 7))) ∷ [])

-- its tokens
abbrev pub kinds_47 : List TokenKind
kinds_47 =
    ((kinds.Keyword keywords.Long) ∷ (kinds.Keyword keywords.Int) ∷ (kinds.Keyword keywords.Unsigned)
    ∷ (kinds.Keyword keywords.Long) ∷ (kinds.Keyword keywords.Static) ∷ (kinds.Keyword keywords.Const) ∷ (kinds.Name 0)
    ∷ (kinds.Punct signs.Semicolon) ∷ kinds.End ∷ [])

-- void f(void) { if (1) if (2) ; else ; }
abbrev pub items_48 : List Item
items_48 =
    ((function_item [] (more_words (basic (record { token = 0; keyword = keywords.Void })) no_words) (params
    (declr_name 1 0) 2 (more_params (more_words (basic (record { token = 3; keyword = keywords.Void })) no_words)
    no_declr [] no_params) None 4) [] 5 (more_block_items (block_stmt (if_stmt 6 7 (number_use 8) 9 (if_stmt 10 11
    (number_use 12) 13 (expr_stmt no_expr 14) (some_else 15 (expr_stmt no_expr 16))) no_else)) no_block_items) 17) ∷ [])

-- its tokens
abbrev pub kinds_48 : List TokenKind
kinds_48 =
    ((kinds.Keyword keywords.Void) ∷ (kinds.Name 0) ∷ (kinds.Punct signs.OpenParen) ∷ (kinds.Keyword keywords.Void)
    ∷ (kinds.Punct signs.CloseParen) ∷ (kinds.Punct signs.OpenBrace) ∷ (kinds.Keyword keywords.If)
    ∷ (kinds.Punct signs.OpenParen) ∷ kinds.Number ∷ (kinds.Punct signs.CloseParen) ∷ (kinds.Keyword keywords.If)
    ∷ (kinds.Punct signs.OpenParen) ∷ kinds.Number ∷ (kinds.Punct signs.CloseParen) ∷ (kinds.Punct signs.Semicolon)
    ∷ (kinds.Keyword keywords.Else) ∷ (kinds.Punct signs.Semicolon) ∷ (kinds.Punct signs.CloseBrace) ∷ kinds.End ∷ [])

-- typedef int T; struct s { T T; T *U; };
abbrev pub items_49 : List Item
items_49 = ((decl_item
    (decl_declaration (declaration [] (more_words (storage (record { token = 0; keyword = keywords.Typedef }))
    (more_words (basic (record { token = 1; keyword = keywords.Int })) no_words)) (more_init_declrs []
    (declr_name 2 0) None [] no_init no_init_declrs) 3))) ∷ (decl_item (decl_declaration (declaration [] (more_words
    (struct_type (record { token = 4; keyword = keywords.Struct }) [] (Some (record { token = 5; name = 2 }))
    (some_body 6 (more_struct_items (member [] (more_words (typedef_name (record { token = 7; name = 0 })) no_words)
    (more_mem_declrs [] (named (declr_name 8 0) no_value []) no_mem_declrs) 9) (more_struct_items (member []
    (more_words (typedef_name (record { token = 10; name = 0 })) no_words) (more_mem_declrs [] (named (pointer 11 []
    (declr_name 12 1)) no_value []) no_mem_declrs) 13) no_struct_items)) 14)) no_words) no_init_declrs 15))) ∷ [])

-- its tokens
abbrev pub kinds_49 : List TokenKind
kinds_49 =
    ((kinds.Keyword keywords.Typedef) ∷ (kinds.Keyword keywords.Int) ∷ (kinds.Name 0) ∷ (kinds.Punct signs.Semicolon)
    ∷ (kinds.Keyword keywords.Struct) ∷ (kinds.Name 2) ∷ (kinds.Punct signs.OpenBrace) ∷ (kinds.Name 0) ∷ (kinds.Name 0)
    ∷ (kinds.Punct signs.Semicolon) ∷ (kinds.Name 0) ∷ (kinds.Punct signs.Star) ∷ (kinds.Name 1)
    ∷ (kinds.Punct signs.Semicolon) ∷ (kinds.Punct signs.CloseBrace) ∷ (kinds.Punct signs.Semicolon) ∷ kinds.End ∷ [])

-- typedef int T; void f(void) { T T = T; }
abbrev pub items_50 : List Item
items_50 = ((decl_item
    (decl_declaration (declaration [] (more_words (storage (record { token = 0; keyword = keywords.Typedef }))
    (more_words (basic (record { token = 1; keyword = keywords.Int })) no_words))
    (more_init_declrs [] (declr_name 2 0) None [] no_init no_init_declrs) 3)))
    ∷ (function_item [] (more_words (basic (record { token = 4; keyword = keywords.Void })) no_words) (params
    (declr_name 5 1) 6 (more_params (more_words (basic (record { token = 7; keyword = keywords.Void })) no_words)
    no_declr [] no_params) None 8) [] 9 (more_block_items (block_decl (decl_declaration (declaration []
    (more_words (typedef_name (record { token = 10; name = 0 })) no_words) (more_init_declrs [] (declr_name 11 0) None
    [] (some_init 12 (init_value (name_use 13 0))) no_init_declrs) 14))) no_block_items) 15) ∷ [])

-- its tokens
abbrev pub kinds_50 : List TokenKind
kinds_50 =
    ((kinds.Keyword keywords.Typedef) ∷ (kinds.Keyword keywords.Int) ∷ (kinds.Name 0) ∷ (kinds.Punct signs.Semicolon)
    ∷ (kinds.Keyword keywords.Void) ∷ (kinds.Name 1) ∷ (kinds.Punct signs.OpenParen) ∷ (kinds.Keyword keywords.Void)
    ∷ (kinds.Punct signs.CloseParen) ∷ (kinds.Punct signs.OpenBrace) ∷ (kinds.Name 0) ∷ (kinds.Name 0)
    ∷ (kinds.Punct signs.Equal) ∷ (kinds.Name 0) ∷ (kinds.Punct signs.Semicolon) ∷ (kinds.Punct signs.CloseBrace)
    ∷ kinds.End ∷ [])

-- typedef int T; void f(void) { T: ; T x; }
abbrev pub items_51 : List Item
items_51 = ((decl_item
    (decl_declaration (declaration [] (more_words (storage (record { token = 0; keyword = keywords.Typedef }))
    (more_words (basic (record { token = 1; keyword = keywords.Int })) no_words))
    (more_init_declrs [] (declr_name 2 0) None [] no_init no_init_declrs) 3)))
    ∷ (function_item [] (more_words (basic (record { token = 4; keyword = keywords.Void })) no_words) (params
    (declr_name 5 1) 6 (more_params (more_words (basic (record { token = 7; keyword = keywords.Void })) no_words)
    no_declr [] no_params) None 8) [] 9 (more_block_items
    (block_stmt (label (record { token = 10; name = 0 }) 11 [] (expr_stmt no_expr 12))) (more_block_items
    (block_decl (decl_declaration (declaration [] (more_words (typedef_name (record { token = 13; name = 0 })) no_words)
    (more_init_declrs [] (declr_name 14 2) None [] no_init no_init_declrs) 15))) no_block_items)) 16) ∷ [])

-- its tokens
abbrev pub kinds_51 : List TokenKind
kinds_51 =
    ((kinds.Keyword keywords.Typedef) ∷ (kinds.Keyword keywords.Int) ∷ (kinds.Name 0) ∷ (kinds.Punct signs.Semicolon)
    ∷ (kinds.Keyword keywords.Void) ∷ (kinds.Name 1) ∷ (kinds.Punct signs.OpenParen) ∷ (kinds.Keyword keywords.Void)
    ∷ (kinds.Punct signs.CloseParen) ∷ (kinds.Punct signs.OpenBrace) ∷ (kinds.Name 0) ∷ (kinds.Punct signs.Colon)
    ∷ (kinds.Punct signs.Semicolon) ∷ (kinds.Name 0) ∷ (kinds.Name 2) ∷ (kinds.Punct signs.Semicolon)
    ∷ (kinds.Punct signs.CloseBrace) ∷ kinds.End ∷ [])

-- typedef int T; void f(void) { T T, U, V; }
abbrev pub items_52 : List Item
items_52 = ((decl_item
    (decl_declaration (declaration [] (more_words (storage (record { token = 0; keyword = keywords.Typedef }))
    (more_words (basic (record { token = 1; keyword = keywords.Int })) no_words))
    (more_init_declrs [] (declr_name 2 0) None [] no_init no_init_declrs) 3)))
    ∷ (function_item [] (more_words (basic (record { token = 4; keyword = keywords.Void })) no_words) (params
    (declr_name 5 1) 6 (more_params (more_words (basic (record { token = 7; keyword = keywords.Void })) no_words)
    no_declr [] no_params) None 8) [] 9 (more_block_items
    (block_decl (decl_declaration (declaration [] (more_words (typedef_name (record { token = 10; name = 0 })) no_words)
    (more_init_declrs [] (declr_name 11 0) None [] no_init (more_init_declrs [] (declr_name 13 3) None [] no_init
    (more_init_declrs [] (declr_name 15 2) None [] no_init no_init_declrs))) 16))) no_block_items) 17) ∷ [])

-- its tokens
abbrev pub kinds_52 : List TokenKind
kinds_52 =
    ((kinds.Keyword keywords.Typedef) ∷ (kinds.Keyword keywords.Int) ∷ (kinds.Name 0) ∷ (kinds.Punct signs.Semicolon)
    ∷ (kinds.Keyword keywords.Void) ∷ (kinds.Name 1) ∷ (kinds.Punct signs.OpenParen) ∷ (kinds.Keyword keywords.Void)
    ∷ (kinds.Punct signs.CloseParen) ∷ (kinds.Punct signs.OpenBrace) ∷ (kinds.Name 0) ∷ (kinds.Name 0)
    ∷ (kinds.Punct signs.Comma) ∷ (kinds.Name 3) ∷ (kinds.Punct signs.Comma) ∷ (kinds.Name 2)
    ∷ (kinds.Punct signs.Semicolon) ∷ (kinds.Punct signs.CloseBrace) ∷ kinds.End ∷ [])

-- typedef int T; void f(void) { sizeof -1; }
abbrev pub items_53 : List Item
items_53 = ((decl_item
    (decl_declaration (declaration [] (more_words (storage (record { token = 0; keyword = keywords.Typedef }))
    (more_words (basic (record { token = 1; keyword = keywords.Int })) no_words))
    (more_init_declrs [] (declr_name 2 0) None [] no_init no_init_declrs) 3))) ∷ (function_item [] (more_words
    (basic (record { token = 4; keyword = keywords.Void })) no_words) (params (declr_name 5 1) 6 (more_params
    (more_words (basic (record { token = 7; keyword = keywords.Void })) no_words) no_declr [] no_params) None 8) [] 9
    (more_block_items (block_stmt (expr_stmt (some_expr (sizeof_value (record { token = 10; keyword = keywords.Sizeof })
    (prefix 11 signs.Minus (number_use 12)))) 13)) no_block_items) 14) ∷ [])

-- its tokens
abbrev pub kinds_53 : List TokenKind
kinds_53 =
    ((kinds.Keyword keywords.Typedef) ∷ (kinds.Keyword keywords.Int) ∷ (kinds.Name 0) ∷ (kinds.Punct signs.Semicolon)
    ∷ (kinds.Keyword keywords.Void) ∷ (kinds.Name 1) ∷ (kinds.Punct signs.OpenParen) ∷ (kinds.Keyword keywords.Void)
    ∷ (kinds.Punct signs.CloseParen) ∷ (kinds.Punct signs.OpenBrace) ∷ (kinds.Keyword keywords.Sizeof)
    ∷ (kinds.Punct signs.Minus) ∷ kinds.Number ∷ (kinds.Punct signs.Semicolon) ∷ (kinds.Punct signs.CloseBrace)
    ∷ kinds.End ∷ [])

-- typedef int T; void f(void) { -({ 1; }); }
abbrev pub items_54 : List Item
items_54 = ((decl_item
    (decl_declaration (declaration [] (more_words (storage (record { token = 0; keyword = keywords.Typedef }))
    (more_words (basic (record { token = 1; keyword = keywords.Int })) no_words))
    (more_init_declrs [] (declr_name 2 0) None [] no_init no_init_declrs) 3))) ∷ (function_item [] (more_words
    (basic (record { token = 4; keyword = keywords.Void })) no_words) (params (declr_name 5 1) 6 (more_params
    (more_words (basic (record { token = 7; keyword = keywords.Void })) no_words) no_declr [] no_params) None 8) [] 9
    (more_block_items (block_stmt (expr_stmt (some_expr (prefix 10 signs.Minus (statement_expr 11 12 (more_block_items
    (block_stmt (expr_stmt (some_expr (number_use 13)) 14)) no_block_items) 15 16))) 17)) no_block_items) 18) ∷ [])

-- its tokens
abbrev pub kinds_54 : List TokenKind
kinds_54 =
    ((kinds.Keyword keywords.Typedef) ∷ (kinds.Keyword keywords.Int) ∷ (kinds.Name 0) ∷ (kinds.Punct signs.Semicolon)
    ∷ (kinds.Keyword keywords.Void) ∷ (kinds.Name 1) ∷ (kinds.Punct signs.OpenParen) ∷ (kinds.Keyword keywords.Void)
    ∷ (kinds.Punct signs.CloseParen) ∷ (kinds.Punct signs.OpenBrace) ∷ (kinds.Punct signs.Minus)
    ∷ (kinds.Punct signs.OpenParen) ∷ (kinds.Punct signs.OpenBrace) ∷ kinds.Number ∷ (kinds.Punct signs.Semicolon)
    ∷ (kinds.Punct signs.CloseBrace) ∷ (kinds.Punct signs.CloseParen) ∷ (kinds.Punct signs.Semicolon)
    ∷ (kinds.Punct signs.CloseBrace) ∷ kinds.End ∷ [])

-- typedef int T; void f(void) { T T; T = 1; }
abbrev pub items_55 : List Item
items_55 = ((decl_item
    (decl_declaration (declaration [] (more_words (storage (record { token = 0; keyword = keywords.Typedef }))
    (more_words (basic (record { token = 1; keyword = keywords.Int })) no_words))
    (more_init_declrs [] (declr_name 2 0) None [] no_init no_init_declrs) 3)))
    ∷ (function_item [] (more_words (basic (record { token = 4; keyword = keywords.Void })) no_words) (params
    (declr_name 5 1) 6 (more_params (more_words (basic (record { token = 7; keyword = keywords.Void })) no_words)
    no_declr [] no_params) None 8) [] 9 (more_block_items
    (block_decl (decl_declaration (declaration [] (more_words (typedef_name (record { token = 10; name = 0 })) no_words)
    (more_init_declrs [] (declr_name 11 0) None [] no_init no_init_declrs) 12))) (more_block_items (block_stmt
    (expr_stmt (some_expr (operation (name_use 13 0) (assign signs.Equal) 14 (number_use 15))) 16)) no_block_items)) 17)
    ∷ [])

-- its tokens
abbrev pub kinds_55 : List TokenKind
kinds_55 =
    ((kinds.Keyword keywords.Typedef) ∷ (kinds.Keyword keywords.Int) ∷ (kinds.Name 0) ∷ (kinds.Punct signs.Semicolon)
    ∷ (kinds.Keyword keywords.Void) ∷ (kinds.Name 1) ∷ (kinds.Punct signs.OpenParen) ∷ (kinds.Keyword keywords.Void)
    ∷ (kinds.Punct signs.CloseParen) ∷ (kinds.Punct signs.OpenBrace) ∷ (kinds.Name 0) ∷ (kinds.Name 0)
    ∷ (kinds.Punct signs.Semicolon) ∷ (kinds.Name 0) ∷ (kinds.Punct signs.Equal) ∷ kinds.Number
    ∷ (kinds.Punct signs.Semicolon) ∷ (kinds.Punct signs.CloseBrace) ∷ kinds.End ∷ [])

-- typedef int T; void f(void) { sizeof (T); }
abbrev pub items_56 : List Item
items_56 = ((decl_item
    (decl_declaration (declaration [] (more_words (storage (record { token = 0; keyword = keywords.Typedef }))
    (more_words (basic (record { token = 1; keyword = keywords.Int })) no_words))
    (more_init_declrs [] (declr_name 2 0) None [] no_init no_init_declrs) 3)))
    ∷ (function_item [] (more_words (basic (record { token = 4; keyword = keywords.Void })) no_words) (params
    (declr_name 5 1) 6 (more_params (more_words (basic (record { token = 7; keyword = keywords.Void })) no_words)
    no_declr [] no_params) None 8) [] 9 (more_block_items
    (block_stmt (expr_stmt (some_expr (sizeof_type (record { token = 10; keyword = keywords.Sizeof }) 11
    (more_words (typedef_name (record { token = 12; name = 0 })) no_words) no_declr 13)) 14)) no_block_items) 15) ∷ [])

-- its tokens
abbrev pub kinds_56 : List TokenKind
kinds_56 =
    ((kinds.Keyword keywords.Typedef) ∷ (kinds.Keyword keywords.Int) ∷ (kinds.Name 0) ∷ (kinds.Punct signs.Semicolon)
    ∷ (kinds.Keyword keywords.Void) ∷ (kinds.Name 1) ∷ (kinds.Punct signs.OpenParen) ∷ (kinds.Keyword keywords.Void)
    ∷ (kinds.Punct signs.CloseParen) ∷ (kinds.Punct signs.OpenBrace) ∷ (kinds.Keyword keywords.Sizeof)
    ∷ (kinds.Punct signs.OpenParen) ∷ (kinds.Name 0) ∷ (kinds.Punct signs.CloseParen) ∷ (kinds.Punct signs.Semicolon)
    ∷ (kinds.Punct signs.CloseBrace) ∷ kinds.End ∷ [])

-- typedef int T; void f(void) { ({ 1; })++; }
abbrev pub items_57 : List Item
items_57 = ((decl_item
    (decl_declaration (declaration [] (more_words (storage (record { token = 0; keyword = keywords.Typedef }))
    (more_words (basic (record { token = 1; keyword = keywords.Int })) no_words))
    (more_init_declrs [] (declr_name 2 0) None [] no_init no_init_declrs) 3))) ∷ (function_item []
    (more_words (basic (record { token = 4; keyword = keywords.Void })) no_words) (params (declr_name 5 1) 6
    (more_params (more_words (basic (record { token = 7; keyword = keywords.Void })) no_words) no_declr [] no_params)
    None 8) [] 9 (more_block_items (block_stmt (expr_stmt (some_expr (post (statement_expr 10 11 (more_block_items
    (block_stmt (expr_stmt (some_expr (number_use 12)) 13)) no_block_items) 14 15) 16 signs.PlusPlus)) 17))
    no_block_items) 18) ∷ [])

-- its tokens
abbrev pub kinds_57 : List TokenKind
kinds_57 =
    ((kinds.Keyword keywords.Typedef) ∷ (kinds.Keyword keywords.Int) ∷ (kinds.Name 0) ∷ (kinds.Punct signs.Semicolon)
    ∷ (kinds.Keyword keywords.Void) ∷ (kinds.Name 1) ∷ (kinds.Punct signs.OpenParen) ∷ (kinds.Keyword keywords.Void)
    ∷ (kinds.Punct signs.CloseParen) ∷ (kinds.Punct signs.OpenBrace) ∷ (kinds.Punct signs.OpenParen)
    ∷ (kinds.Punct signs.OpenBrace) ∷ kinds.Number ∷ (kinds.Punct signs.Semicolon) ∷ (kinds.Punct signs.CloseBrace)
    ∷ (kinds.Punct signs.CloseParen) ∷ (kinds.Punct signs.PlusPlus) ∷ (kinds.Punct signs.Semicolon)
    ∷ (kinds.Punct signs.CloseBrace) ∷ kinds.End ∷ [])

-- typedef int T; __extension__ int f(void) { }
abbrev pub items_58 : List Item
items_58 = ((decl_item
    (decl_declaration (declaration [] (more_words (storage (record { token = 0; keyword = keywords.Typedef }))
    (more_words (basic (record { token = 1; keyword = keywords.Int })) no_words))
    (more_init_declrs [] (declr_name 2 0) None [] no_init no_init_declrs) 3))) ∷ (function_item (4 ∷ [])
    (more_words (basic (record { token = 5; keyword = keywords.Int })) no_words) (params (declr_name 6 1) 7 (more_params
    (more_words (basic (record { token = 8; keyword = keywords.Void })) no_words) no_declr [] no_params) None 9)
    [] 10 no_block_items 11) ∷ [])

-- its tokens
abbrev pub kinds_58 : List TokenKind
kinds_58 =
    ((kinds.Keyword keywords.Typedef) ∷ (kinds.Keyword keywords.Int) ∷ (kinds.Name 0) ∷ (kinds.Punct signs.Semicolon)
    ∷ (kinds.Keyword keywords.Extension) ∷ (kinds.Keyword keywords.Int) ∷ (kinds.Name 1) ∷ (kinds.Punct signs.OpenParen)
    ∷ (kinds.Keyword keywords.Void) ∷ (kinds.Punct signs.CloseParen) ∷ (kinds.Punct signs.OpenBrace)
    ∷ (kinds.Punct signs.CloseBrace) ∷ kinds.End ∷ [])

-- typedef int T; void f(void) { for (T; ; ) ; }
abbrev pub items_59 : List Item
items_59 = ((decl_item
    (decl_declaration (declaration [] (more_words (storage (record { token = 0; keyword = keywords.Typedef }))
    (more_words (basic (record { token = 1; keyword = keywords.Int })) no_words))
    (more_init_declrs [] (declr_name 2 0) None [] no_init no_init_declrs) 3)))
    ∷ (function_item [] (more_words (basic (record { token = 4; keyword = keywords.Void })) no_words) (params
    (declr_name 5 1) 6 (more_params (more_words (basic (record { token = 7; keyword = keywords.Void })) no_words)
    no_declr [] no_params) None 8) [] 9 (more_block_items (block_stmt (for_stmt 10 11 (start_declaration (declaration []
    (more_words (typedef_name (record { token = 12; name = 0 })) no_words) no_init_declrs 13)) no_expr 14 no_expr 15
    (expr_stmt no_expr 16))) no_block_items) 17) ∷ [])

-- its tokens
abbrev pub kinds_59 : List TokenKind
kinds_59 =
    ((kinds.Keyword keywords.Typedef) ∷ (kinds.Keyword keywords.Int) ∷ (kinds.Name 0) ∷ (kinds.Punct signs.Semicolon)
    ∷ (kinds.Keyword keywords.Void) ∷ (kinds.Name 1) ∷ (kinds.Punct signs.OpenParen) ∷ (kinds.Keyword keywords.Void)
    ∷ (kinds.Punct signs.CloseParen) ∷ (kinds.Punct signs.OpenBrace) ∷ (kinds.Keyword keywords.For)
    ∷ (kinds.Punct signs.OpenParen) ∷ (kinds.Name 0) ∷ (kinds.Punct signs.Semicolon) ∷ (kinds.Punct signs.Semicolon)
    ∷ (kinds.Punct signs.CloseParen) ∷ (kinds.Punct signs.Semicolon) ∷ (kinds.Punct signs.CloseBrace) ∷ kinds.End ∷ [])

-- typedef int T; void f(void) { enum { T, T }; }
abbrev pub items_60 : List Item
items_60 = ((decl_item
    (decl_declaration (declaration [] (more_words (storage (record { token = 0; keyword = keywords.Typedef }))
    (more_words (basic (record { token = 1; keyword = keywords.Int })) no_words))
    (more_init_declrs [] (declr_name 2 0) None [] no_init no_init_declrs) 3)))
    ∷ (function_item [] (more_words (basic (record { token = 4; keyword = keywords.Void })) no_words) (params
    (declr_name 5 1) 6 (more_params (more_words (basic (record { token = 7; keyword = keywords.Void })) no_words)
    no_declr [] no_params) None 8) [] 9 (more_block_items (block_decl (decl_declaration (declaration []
    (more_words (enum_type (enum_of 10 [] None (some_enum_body 11 (more_enumerators (record { token = 12; name = 0 })
    [] no_value (more_enumerators (record { token = 14; name = 0 }) [] no_value no_enumerators)) None 15))) no_words)
    no_init_declrs 16))) no_block_items) 17) ∷ [])

-- its tokens
abbrev pub kinds_60 : List TokenKind
kinds_60 =
    ((kinds.Keyword keywords.Typedef) ∷ (kinds.Keyword keywords.Int) ∷ (kinds.Name 0) ∷ (kinds.Punct signs.Semicolon)
    ∷ (kinds.Keyword keywords.Void) ∷ (kinds.Name 1) ∷ (kinds.Punct signs.OpenParen) ∷ (kinds.Keyword keywords.Void)
    ∷ (kinds.Punct signs.CloseParen) ∷ (kinds.Punct signs.OpenBrace) ∷ (kinds.Keyword keywords.Enum)
    ∷ (kinds.Punct signs.OpenBrace) ∷ (kinds.Name 0) ∷ (kinds.Punct signs.Comma) ∷ (kinds.Name 0)
    ∷ (kinds.Punct signs.CloseBrace) ∷ (kinds.Punct signs.Semicolon) ∷ (kinds.Punct signs.CloseBrace) ∷ kinds.End ∷ [])

-- typedef int T; void f(void) { sizeof (T){1}; }
abbrev pub items_61 : List Item
items_61 = ((decl_item
    (decl_declaration (declaration [] (more_words (storage (record { token = 0; keyword = keywords.Typedef }))
    (more_words (basic (record { token = 1; keyword = keywords.Int })) no_words))
    (more_init_declrs [] (declr_name 2 0) None [] no_init no_init_declrs) 3))) ∷ (function_item [] (more_words
    (basic (record { token = 4; keyword = keywords.Void })) no_words) (params (declr_name 5 1) 6 (more_params
    (more_words (basic (record { token = 7; keyword = keywords.Void })) no_words) no_declr [] no_params) None 8) [] 9
    (more_block_items (block_stmt (expr_stmt (some_expr (sizeof_value (record { token = 10; keyword = keywords.Sizeof })
    (compound 11 (more_words (typedef_name (record { token = 12; name = 0 })) no_words) no_declr 13 (init_list 14
    (more_init_items no_desigs None (init_value (number_use 15)) no_init_items) None 16)))) 17)) no_block_items) 18)
    ∷ [])

-- its tokens
abbrev pub kinds_61 : List TokenKind
kinds_61 =
    ((kinds.Keyword keywords.Typedef) ∷ (kinds.Keyword keywords.Int) ∷ (kinds.Name 0) ∷ (kinds.Punct signs.Semicolon)
    ∷ (kinds.Keyword keywords.Void) ∷ (kinds.Name 1) ∷ (kinds.Punct signs.OpenParen) ∷ (kinds.Keyword keywords.Void)
    ∷ (kinds.Punct signs.CloseParen) ∷ (kinds.Punct signs.OpenBrace) ∷ (kinds.Keyword keywords.Sizeof)
    ∷ (kinds.Punct signs.OpenParen) ∷ (kinds.Name 0) ∷ (kinds.Punct signs.CloseParen) ∷ (kinds.Punct signs.OpenBrace)
    ∷ kinds.Number ∷ (kinds.Punct signs.CloseBrace) ∷ (kinds.Punct signs.Semicolon) ∷ (kinds.Punct signs.CloseBrace)
    ∷ kinds.End ∷ [])

-- typedef int T; void f(void) { for (int; ; ) ; }
abbrev pub items_62 : List Item
items_62 = ((decl_item
    (decl_declaration (declaration [] (more_words (storage (record { token = 0; keyword = keywords.Typedef }))
    (more_words (basic (record { token = 1; keyword = keywords.Int })) no_words))
    (more_init_declrs [] (declr_name 2 0) None [] no_init no_init_declrs) 3)))
    ∷ (function_item [] (more_words (basic (record { token = 4; keyword = keywords.Void })) no_words) (params
    (declr_name 5 1) 6 (more_params (more_words (basic (record { token = 7; keyword = keywords.Void })) no_words)
    no_declr [] no_params) None 8) [] 9 (more_block_items (block_stmt (for_stmt 10 11 (start_declaration
    (declaration [] (more_words (basic (record { token = 12; keyword = keywords.Int })) no_words) no_init_declrs 13))
    no_expr 14 no_expr 15 (expr_stmt no_expr 16))) no_block_items) 17) ∷ [])

-- its tokens
abbrev pub kinds_62 : List TokenKind
kinds_62 =
    ((kinds.Keyword keywords.Typedef) ∷ (kinds.Keyword keywords.Int) ∷ (kinds.Name 0) ∷ (kinds.Punct signs.Semicolon)
    ∷ (kinds.Keyword keywords.Void) ∷ (kinds.Name 1) ∷ (kinds.Punct signs.OpenParen) ∷ (kinds.Keyword keywords.Void)
    ∷ (kinds.Punct signs.CloseParen) ∷ (kinds.Punct signs.OpenBrace) ∷ (kinds.Keyword keywords.For)
    ∷ (kinds.Punct signs.OpenParen) ∷ (kinds.Keyword keywords.Int) ∷ (kinds.Punct signs.Semicolon)
    ∷ (kinds.Punct signs.Semicolon) ∷ (kinds.Punct signs.CloseParen) ∷ (kinds.Punct signs.Semicolon)
    ∷ (kinds.Punct signs.CloseBrace) ∷ kinds.End ∷ [])

-- typedef int T; void f(void) { enum e { T }; T; }
abbrev pub items_63 : List Item
items_63 = ((decl_item
    (decl_declaration (declaration [] (more_words (storage (record { token = 0; keyword = keywords.Typedef }))
    (more_words (basic (record { token = 1; keyword = keywords.Int })) no_words))
    (more_init_declrs [] (declr_name 2 0) None [] no_init no_init_declrs) 3)))
    ∷ (function_item [] (more_words (basic (record { token = 4; keyword = keywords.Void })) no_words) (params
    (declr_name 5 1) 6 (more_params (more_words (basic (record { token = 7; keyword = keywords.Void })) no_words)
    no_declr [] no_params) None 8) [] 9 (more_block_items (block_decl (decl_declaration (declaration []
    (more_words (enum_type (enum_of 10 [] (Some (record { token = 11; name = 2 })) (some_enum_body 12 (more_enumerators
    (record { token = 13; name = 0 }) [] no_value no_enumerators) None 14))) no_words) no_init_declrs 15)))
    (more_block_items (block_stmt (expr_stmt (some_expr (name_use 16 0)) 17)) no_block_items)) 18) ∷ [])

-- its tokens
abbrev pub kinds_63 : List TokenKind
kinds_63 =
    ((kinds.Keyword keywords.Typedef) ∷ (kinds.Keyword keywords.Int) ∷ (kinds.Name 0) ∷ (kinds.Punct signs.Semicolon)
    ∷ (kinds.Keyword keywords.Void) ∷ (kinds.Name 1) ∷ (kinds.Punct signs.OpenParen) ∷ (kinds.Keyword keywords.Void)
    ∷ (kinds.Punct signs.CloseParen) ∷ (kinds.Punct signs.OpenBrace) ∷ (kinds.Keyword keywords.Enum) ∷ (kinds.Name 2)
    ∷ (kinds.Punct signs.OpenBrace) ∷ (kinds.Name 0) ∷ (kinds.Punct signs.CloseBrace) ∷ (kinds.Punct signs.Semicolon)
    ∷ (kinds.Name 0) ∷ (kinds.Punct signs.Semicolon) ∷ (kinds.Punct signs.CloseBrace) ∷ kinds.End ∷ [])

-- typedef int T; __extension__ __extension__ int a;
abbrev pub items_64 : List Item
items_64 = ((decl_item
    (decl_declaration (declaration [] (more_words (storage (record { token = 0; keyword = keywords.Typedef }))
    (more_words (basic (record { token = 1; keyword = keywords.Int })) no_words))
    (more_init_declrs [] (declr_name 2 0) None [] no_init no_init_declrs) 3))) ∷ (decl_item (decl_declaration
    (declaration (4 ∷ 5 ∷ []) (more_words (basic (record { token = 6; keyword = keywords.Int })) no_words)
    (more_init_declrs [] (declr_name 7 1) None [] no_init no_init_declrs) 8))) ∷ [])

-- its tokens
abbrev pub kinds_64 : List TokenKind
kinds_64 =
    ((kinds.Keyword keywords.Typedef) ∷ (kinds.Keyword keywords.Int) ∷ (kinds.Name 0) ∷ (kinds.Punct signs.Semicolon)
    ∷ (kinds.Keyword keywords.Extension) ∷ (kinds.Keyword keywords.Extension) ∷ (kinds.Keyword keywords.Int)
    ∷ (kinds.Name 1) ∷ (kinds.Punct signs.Semicolon) ∷ kinds.End ∷ [])

-- typedef int T; void f(void) { enum { T = (T)1 }; }
abbrev pub items_65 : List Item
items_65 = ((decl_item
    (decl_declaration (declaration [] (more_words (storage (record { token = 0; keyword = keywords.Typedef }))
    (more_words (basic (record { token = 1; keyword = keywords.Int })) no_words))
    (more_init_declrs [] (declr_name 2 0) None [] no_init no_init_declrs) 3)))
    ∷ (function_item [] (more_words (basic (record { token = 4; keyword = keywords.Void })) no_words) (params
    (declr_name 5 1) 6 (more_params (more_words (basic (record { token = 7; keyword = keywords.Void })) no_words)
    no_declr [] no_params) None 8) [] 9 (more_block_items (block_decl (decl_declaration (declaration []
    (more_words (enum_type (enum_of 10 [] None (some_enum_body 11 (more_enumerators (record { token = 12; name = 0 }) []
    (some_value 13 (cast 14 (more_words (typedef_name (record { token = 15; name = 0 })) no_words) no_declr 16
    (number_use 17))) no_enumerators) None 18))) no_words) no_init_declrs 19))) no_block_items) 20) ∷ [])

-- its tokens
abbrev pub kinds_65 : List TokenKind
kinds_65 =
    ((kinds.Keyword keywords.Typedef) ∷ (kinds.Keyword keywords.Int) ∷ (kinds.Name 0) ∷ (kinds.Punct signs.Semicolon)
    ∷ (kinds.Keyword keywords.Void) ∷ (kinds.Name 1) ∷ (kinds.Punct signs.OpenParen) ∷ (kinds.Keyword keywords.Void)
    ∷ (kinds.Punct signs.CloseParen) ∷ (kinds.Punct signs.OpenBrace) ∷ (kinds.Keyword keywords.Enum)
    ∷ (kinds.Punct signs.OpenBrace) ∷ (kinds.Name 0) ∷ (kinds.Punct signs.Equal) ∷ (kinds.Punct signs.OpenParen)
    ∷ (kinds.Name 0) ∷ (kinds.Punct signs.CloseParen) ∷ kinds.Number ∷ (kinds.Punct signs.CloseBrace)
    ∷ (kinds.Punct signs.Semicolon) ∷ (kinds.Punct signs.CloseBrace) ∷ kinds.End ∷ [])

-- typedef int T; void f(void) { for (T i = 0; ; ) ; }
abbrev pub items_66 : List Item
items_66 = ((decl_item
    (decl_declaration (declaration [] (more_words (storage (record { token = 0; keyword = keywords.Typedef }))
    (more_words (basic (record { token = 1; keyword = keywords.Int })) no_words))
    (more_init_declrs [] (declr_name 2 0) None [] no_init no_init_declrs) 3)))
    ∷ (function_item [] (more_words (basic (record { token = 4; keyword = keywords.Void })) no_words) (params
    (declr_name 5 1) 6 (more_params (more_words (basic (record { token = 7; keyword = keywords.Void })) no_words)
    no_declr [] no_params) None 8) [] 9 (more_block_items (block_stmt (for_stmt 10 11
    (start_declaration (declaration [] (more_words (typedef_name (record { token = 12; name = 0 })) no_words)
    (more_init_declrs [] (declr_name 13 2) None [] (some_init 14 (init_value (number_use 15))) no_init_declrs) 16))
    no_expr 17 no_expr 18 (expr_stmt no_expr 19))) no_block_items) 20) ∷ [])

-- its tokens
abbrev pub kinds_66 : List TokenKind
kinds_66 =
    ((kinds.Keyword keywords.Typedef) ∷ (kinds.Keyword keywords.Int) ∷ (kinds.Name 0) ∷ (kinds.Punct signs.Semicolon)
    ∷ (kinds.Keyword keywords.Void) ∷ (kinds.Name 1) ∷ (kinds.Punct signs.OpenParen) ∷ (kinds.Keyword keywords.Void)
    ∷ (kinds.Punct signs.CloseParen) ∷ (kinds.Punct signs.OpenBrace) ∷ (kinds.Keyword keywords.For)
    ∷ (kinds.Punct signs.OpenParen) ∷ (kinds.Name 0) ∷ (kinds.Name 2) ∷ (kinds.Punct signs.Equal) ∷ kinds.Number
    ∷ (kinds.Punct signs.Semicolon) ∷ (kinds.Punct signs.Semicolon) ∷ (kinds.Punct signs.CloseParen)
    ∷ (kinds.Punct signs.Semicolon) ∷ (kinds.Punct signs.CloseBrace) ∷ kinds.End ∷ [])

-- typedef int T; void f(void) { for (T T = 0; T; ) ; }
abbrev pub items_67 : List Item
items_67 = ((decl_item
    (decl_declaration (declaration [] (more_words (storage (record { token = 0; keyword = keywords.Typedef }))
    (more_words (basic (record { token = 1; keyword = keywords.Int })) no_words))
    (more_init_declrs [] (declr_name 2 0) None [] no_init no_init_declrs) 3)))
    ∷ (function_item [] (more_words (basic (record { token = 4; keyword = keywords.Void })) no_words) (params
    (declr_name 5 1) 6 (more_params (more_words (basic (record { token = 7; keyword = keywords.Void })) no_words)
    no_declr [] no_params) None 8) [] 9 (more_block_items (block_stmt (for_stmt 10 11
    (start_declaration (declaration [] (more_words (typedef_name (record { token = 12; name = 0 })) no_words)
    (more_init_declrs [] (declr_name 13 0) None [] (some_init 14 (init_value (number_use 15))) no_init_declrs) 16))
    (some_expr (name_use 17 0)) 18 no_expr 19 (expr_stmt no_expr 20))) no_block_items) 21) ∷ [])

-- its tokens
abbrev pub kinds_67 : List TokenKind
kinds_67 =
    ((kinds.Keyword keywords.Typedef) ∷ (kinds.Keyword keywords.Int) ∷ (kinds.Name 0) ∷ (kinds.Punct signs.Semicolon)
    ∷ (kinds.Keyword keywords.Void) ∷ (kinds.Name 1) ∷ (kinds.Punct signs.OpenParen) ∷ (kinds.Keyword keywords.Void)
    ∷ (kinds.Punct signs.CloseParen) ∷ (kinds.Punct signs.OpenBrace) ∷ (kinds.Keyword keywords.For)
    ∷ (kinds.Punct signs.OpenParen) ∷ (kinds.Name 0) ∷ (kinds.Name 0) ∷ (kinds.Punct signs.Equal) ∷ kinds.Number
    ∷ (kinds.Punct signs.Semicolon) ∷ (kinds.Name 0) ∷ (kinds.Punct signs.Semicolon) ∷ (kinds.Punct signs.CloseParen)
    ∷ (kinds.Punct signs.Semicolon) ∷ (kinds.Punct signs.CloseBrace) ∷ kinds.End ∷ [])

-- typedef int T; void f(void) { __builtin_va_end(ap); }
abbrev pub items_68 : List Item
items_68 = ((decl_item
    (decl_declaration (declaration [] (more_words (storage (record { token = 0; keyword = keywords.Typedef }))
    (more_words (basic (record { token = 1; keyword = keywords.Int })) no_words))
    (more_init_declrs [] (declr_name 2 0) None [] no_init no_init_declrs) 3)))
    ∷ (function_item [] (more_words (basic (record { token = 4; keyword = keywords.Void })) no_words) (params
    (declr_name 5 1) 6 (more_params (more_words (basic (record { token = 7; keyword = keywords.Void })) no_words)
    no_declr [] no_params) None 8) [] 9 (more_block_items (block_stmt (expr_stmt
    (some_expr (call (name_use 10 2) 11 (more_exprs (name_use 12 3) no_exprs) 13)) 14)) no_block_items) 15) ∷ [])

-- its tokens
abbrev pub kinds_68 : List TokenKind
kinds_68 =
    ((kinds.Keyword keywords.Typedef) ∷ (kinds.Keyword keywords.Int) ∷ (kinds.Name 0) ∷ (kinds.Punct signs.Semicolon)
    ∷ (kinds.Keyword keywords.Void) ∷ (kinds.Name 1) ∷ (kinds.Punct signs.OpenParen) ∷ (kinds.Keyword keywords.Void)
    ∷ (kinds.Punct signs.CloseParen) ∷ (kinds.Punct signs.OpenBrace) ∷ (kinds.Name 2) ∷ (kinds.Punct signs.OpenParen)
    ∷ (kinds.Name 3) ∷ (kinds.Punct signs.CloseParen) ∷ (kinds.Punct signs.Semicolon) ∷ (kinds.Punct signs.CloseBrace)
    ∷ kinds.End ∷ [])

-- typedef int T; void f(void) { __builtin_va_copy(a, b); }
abbrev pub items_69 : List Item
items_69 = ((decl_item
    (decl_declaration (declaration [] (more_words (storage (record { token = 0; keyword = keywords.Typedef }))
    (more_words (basic (record { token = 1; keyword = keywords.Int })) no_words))
    (more_init_declrs [] (declr_name 2 0) None [] no_init no_init_declrs) 3)))
    ∷ (function_item [] (more_words (basic (record { token = 4; keyword = keywords.Void })) no_words) (params
    (declr_name 5 1) 6 (more_params (more_words (basic (record { token = 7; keyword = keywords.Void })) no_words)
    no_declr [] no_params) None 8) [] 9 (more_block_items (block_stmt
    (expr_stmt (some_expr (va_copy 10 11 (name_use 12 2) 13 (name_use 14 3) 15)) 16)) no_block_items) 17) ∷ [])

-- its tokens
abbrev pub kinds_69 : List TokenKind
kinds_69 =
    ((kinds.Keyword keywords.Typedef) ∷ (kinds.Keyword keywords.Int) ∷ (kinds.Name 0) ∷ (kinds.Punct signs.Semicolon)
    ∷ (kinds.Keyword keywords.Void) ∷ (kinds.Name 1) ∷ (kinds.Punct signs.OpenParen) ∷ (kinds.Keyword keywords.Void)
    ∷ (kinds.Punct signs.CloseParen) ∷ (kinds.Punct signs.OpenBrace) ∷ (kinds.Keyword keywords.VaCopy)
    ∷ (kinds.Punct signs.OpenParen) ∷ (kinds.Name 2) ∷ (kinds.Punct signs.Comma) ∷ (kinds.Name 3)
    ∷ (kinds.Punct signs.CloseParen) ∷ (kinds.Punct signs.Semicolon) ∷ (kinds.Punct signs.CloseBrace) ∷ kinds.End ∷ [])

-- typedef int T; void f(void) { __builtin_offsetof(T, T); }
abbrev pub items_70 : List Item
items_70 = ((decl_item
    (decl_declaration (declaration [] (more_words (storage (record { token = 0; keyword = keywords.Typedef }))
    (more_words (basic (record { token = 1; keyword = keywords.Int })) no_words))
    (more_init_declrs [] (declr_name 2 0) None [] no_init no_init_declrs) 3)))
    ∷ (function_item [] (more_words (basic (record { token = 4; keyword = keywords.Void })) no_words) (params
    (declr_name 5 1) 6 (more_params (more_words (basic (record { token = 7; keyword = keywords.Void })) no_words)
    no_declr [] no_params) None 8) [] 9 (more_block_items (block_stmt (expr_stmt
    (some_expr (offset 10 11 (more_words (typedef_name (record { token = 12; name = 0 })) no_words) no_declr 13
    (record { token = 14; name = 0 }) no_desigs 15)) 16)) no_block_items) 17) ∷ [])

-- its tokens
abbrev pub kinds_70 : List TokenKind
kinds_70 =
    ((kinds.Keyword keywords.Typedef) ∷ (kinds.Keyword keywords.Int) ∷ (kinds.Name 0) ∷ (kinds.Punct signs.Semicolon)
    ∷ (kinds.Keyword keywords.Void) ∷ (kinds.Name 1) ∷ (kinds.Punct signs.OpenParen) ∷ (kinds.Keyword keywords.Void)
    ∷ (kinds.Punct signs.CloseParen) ∷ (kinds.Punct signs.OpenBrace) ∷ (kinds.Keyword keywords.Offsetof)
    ∷ (kinds.Punct signs.OpenParen) ∷ (kinds.Name 0) ∷ (kinds.Punct signs.Comma) ∷ (kinds.Name 0)
    ∷ (kinds.Punct signs.CloseParen) ∷ (kinds.Punct signs.Semicolon) ∷ (kinds.Punct signs.CloseBrace) ∷ kinds.End ∷ [])

-- typedef int T; void f(void) { for (int T = 0; T; T++) T; }
abbrev pub items_71 : List Item
items_71 = ((decl_item
    (decl_declaration (declaration [] (more_words (storage (record { token = 0; keyword = keywords.Typedef }))
    (more_words (basic (record { token = 1; keyword = keywords.Int })) no_words))
    (more_init_declrs [] (declr_name 2 0) None [] no_init no_init_declrs) 3)))
    ∷ (function_item [] (more_words (basic (record { token = 4; keyword = keywords.Void })) no_words) (params
    (declr_name 5 1) 6 (more_params (more_words (basic (record { token = 7; keyword = keywords.Void })) no_words)
    no_declr [] no_params) None 8) [] 9 (more_block_items (block_stmt (for_stmt 10 11 (start_declaration (declaration []
    (more_words (basic (record { token = 12; keyword = keywords.Int })) no_words) (more_init_declrs [] (declr_name 13 0)
    None [] (some_init 14 (init_value (number_use 15))) no_init_declrs) 16)) (some_expr (name_use 17 0)) 18 (some_expr
    (post (name_use 19 0) 20 signs.PlusPlus)) 21 (expr_stmt (some_expr (name_use 22 0)) 23))) no_block_items) 24) ∷ [])

-- its tokens
abbrev pub kinds_71 : List TokenKind
kinds_71 =
    ((kinds.Keyword keywords.Typedef) ∷ (kinds.Keyword keywords.Int) ∷ (kinds.Name 0) ∷ (kinds.Punct signs.Semicolon)
    ∷ (kinds.Keyword keywords.Void) ∷ (kinds.Name 1) ∷ (kinds.Punct signs.OpenParen) ∷ (kinds.Keyword keywords.Void)
    ∷ (kinds.Punct signs.CloseParen) ∷ (kinds.Punct signs.OpenBrace) ∷ (kinds.Keyword keywords.For)
    ∷ (kinds.Punct signs.OpenParen) ∷ (kinds.Keyword keywords.Int) ∷ (kinds.Name 0) ∷ (kinds.Punct signs.Equal)
    ∷ kinds.Number ∷ (kinds.Punct signs.Semicolon) ∷ (kinds.Name 0) ∷ (kinds.Punct signs.Semicolon) ∷ (kinds.Name 0)
    ∷ (kinds.Punct signs.PlusPlus) ∷ (kinds.Punct signs.CloseParen) ∷ (kinds.Name 0) ∷ (kinds.Punct signs.Semicolon)
    ∷ (kinds.Punct signs.CloseBrace) ∷ kinds.End ∷ [])

-- typedef int T; void f(void) { while (sizeof(enum { T })) T; }
abbrev pub items_72 : List Item
items_72 = ((decl_item
    (decl_declaration (declaration [] (more_words (storage (record { token = 0; keyword = keywords.Typedef }))
    (more_words (basic (record { token = 1; keyword = keywords.Int })) no_words))
    (more_init_declrs [] (declr_name 2 0) None [] no_init no_init_declrs) 3)))
    ∷ (function_item [] (more_words (basic (record { token = 4; keyword = keywords.Void })) no_words) (params
    (declr_name 5 1) 6 (more_params (more_words (basic (record { token = 7; keyword = keywords.Void })) no_words)
    no_declr [] no_params) None 8) [] 9 (more_block_items (block_stmt (while_stmt 10 11 (sizeof_type
    (record { token = 12; keyword = keywords.Sizeof }) 13 (more_words (enum_type (enum_of 14 [] None (some_enum_body 15
    (more_enumerators (record { token = 16; name = 0 }) [] no_value no_enumerators) None 17))) no_words) no_declr 18) 19
    (expr_stmt (some_expr (name_use 20 0)) 21))) no_block_items) 22) ∷ [])

-- its tokens
abbrev pub kinds_72 : List TokenKind
kinds_72 =
    ((kinds.Keyword keywords.Typedef) ∷ (kinds.Keyword keywords.Int) ∷ (kinds.Name 0) ∷ (kinds.Punct signs.Semicolon)
    ∷ (kinds.Keyword keywords.Void) ∷ (kinds.Name 1) ∷ (kinds.Punct signs.OpenParen) ∷ (kinds.Keyword keywords.Void)
    ∷ (kinds.Punct signs.CloseParen) ∷ (kinds.Punct signs.OpenBrace) ∷ (kinds.Keyword keywords.While)
    ∷ (kinds.Punct signs.OpenParen) ∷ (kinds.Keyword keywords.Sizeof) ∷ (kinds.Punct signs.OpenParen)
    ∷ (kinds.Keyword keywords.Enum) ∷ (kinds.Punct signs.OpenBrace) ∷ (kinds.Name 0) ∷ (kinds.Punct signs.CloseBrace)
    ∷ (kinds.Punct signs.CloseParen) ∷ (kinds.Punct signs.CloseParen) ∷ (kinds.Name 0) ∷ (kinds.Punct signs.Semicolon)
    ∷ (kinds.Punct signs.CloseBrace) ∷ kinds.End ∷ [])

-- int x[sizeof(enum {x})];
abbrev pub items_73 : List Item
items_73 =
    ((decl_item (decl_declaration
    (declaration [] (more_words (basic (record { token = 0; keyword = keywords.Int })) no_words) (more_init_declrs []
    (array (declr_name 1 0) 2 [] (some_size (size_value (sizeof_type (record { token = 3; keyword = keywords.Sizeof }) 4
    (more_words (enum_type (enum_of 5 [] None (some_enum_body 6 (more_enumerators (record { token = 7; name = 0 })
    [] no_value no_enumerators) None 8))) no_words) no_declr 9))) 10) None [] no_init no_init_declrs) 11))) ∷ [])

-- its tokens
abbrev pub kinds_73 : List TokenKind
kinds_73 =
    ((kinds.Keyword keywords.Int) ∷ (kinds.Name 0) ∷ (kinds.Punct signs.OpenBracket) ∷ (kinds.Keyword keywords.Sizeof)
    ∷ (kinds.Punct signs.OpenParen) ∷ (kinds.Keyword keywords.Enum) ∷ (kinds.Punct signs.OpenBrace) ∷ (kinds.Name 0)
    ∷ (kinds.Punct signs.CloseBrace) ∷ (kinds.Punct signs.CloseParen) ∷ (kinds.Punct signs.CloseBracket)
    ∷ (kinds.Punct signs.Semicolon) ∷ kinds.End ∷ [])

-- void f(enum {A} x) { int A; }
abbrev pub items_74 : List Item
items_74 =
    ((function_item [] (more_words (basic (record { token = 0; keyword = keywords.Void })) no_words)
    (params (declr_name 1 0) 2 (more_params (more_words (enum_type (enum_of 3 [] None
    (some_enum_body 4 (more_enumerators (record { token = 5; name = 1 }) [] no_value no_enumerators) None 6))) no_words)
    (some_declr (declr_name 7 2)) [] no_params) None 8) [] 9 (more_block_items (block_decl
    (decl_declaration (declaration [] (more_words (basic (record { token = 10; keyword = keywords.Int })) no_words)
    (more_init_declrs [] (declr_name 11 1) None [] no_init no_init_declrs) 12))) no_block_items) 13) ∷ [])

-- its tokens
abbrev pub kinds_74 : List TokenKind
kinds_74 =
    ((kinds.Keyword keywords.Void) ∷ (kinds.Name 0) ∷ (kinds.Punct signs.OpenParen) ∷ (kinds.Keyword keywords.Enum)
    ∷ (kinds.Punct signs.OpenBrace) ∷ (kinds.Name 1) ∷ (kinds.Punct signs.CloseBrace) ∷ (kinds.Name 2)
    ∷ (kinds.Punct signs.CloseParen) ∷ (kinds.Punct signs.OpenBrace) ∷ (kinds.Keyword keywords.Int) ∷ (kinds.Name 1)
    ∷ (kinds.Punct signs.Semicolon) ∷ (kinds.Punct signs.CloseBrace) ∷ kinds.End ∷ [])

-- int f(int a[sizeof(enum {a})]);
abbrev pub items_75 : List Item
items_75 =
    ((decl_item (decl_declaration (declaration [] (more_words (basic (record { token = 0; keyword = keywords.Int }))
    no_words) (more_init_declrs [] (params (declr_name 1 0) 2 (more_params
    (more_words (basic (record { token = 3; keyword = keywords.Int })) no_words) (some_declr (array (declr_name 4 1) 5
    [] (some_size (size_value (sizeof_type (record { token = 6; keyword = keywords.Sizeof }) 7 (more_words (enum_type
    (enum_of 8 [] None (some_enum_body 9 (more_enumerators (record { token = 10; name = 1 }) [] no_value no_enumerators)
    None 11))) no_words) no_declr 12))) 13)) [] no_params) None 14) None [] no_init no_init_declrs) 15))) ∷ [])

-- its tokens
abbrev pub kinds_75 : List TokenKind
kinds_75 =
    ((kinds.Keyword keywords.Int) ∷ (kinds.Name 0) ∷ (kinds.Punct signs.OpenParen) ∷ (kinds.Keyword keywords.Int)
    ∷ (kinds.Name 1) ∷ (kinds.Punct signs.OpenBracket) ∷ (kinds.Keyword keywords.Sizeof) ∷ (kinds.Punct signs.OpenParen)
    ∷ (kinds.Keyword keywords.Enum) ∷ (kinds.Punct signs.OpenBrace) ∷ (kinds.Name 1) ∷ (kinds.Punct signs.CloseBrace)
    ∷ (kinds.Punct signs.CloseParen) ∷ (kinds.Punct signs.CloseBracket) ∷ (kinds.Punct signs.CloseParen)
    ∷ (kinds.Punct signs.Semicolon) ∷ kinds.End ∷ [])

-- void f(int a) { enum { a }; }
abbrev pub items_76 : List Item
items_76 =
    ((function_item [] (more_words (basic (record { token = 0; keyword = keywords.Void })) no_words)
    (params (declr_name 1 0) 2 (more_params (more_words (basic (record { token = 3; keyword = keywords.Int })) no_words)
    (some_declr (declr_name 4 1)) [] no_params) None 5) [] 6
    (more_block_items (block_decl (decl_declaration (declaration [] (more_words (enum_type (enum_of 7 [] None
    (some_enum_body 8 (more_enumerators (record { token = 9; name = 1 }) [] no_value no_enumerators) None 10)))
    no_words) no_init_declrs 11))) no_block_items) 12) ∷ [])

-- its tokens
abbrev pub kinds_76 : List TokenKind
kinds_76 =
    ((kinds.Keyword keywords.Void) ∷ (kinds.Name 0) ∷ (kinds.Punct signs.OpenParen) ∷ (kinds.Keyword keywords.Int)
    ∷ (kinds.Name 1) ∷ (kinds.Punct signs.CloseParen) ∷ (kinds.Punct signs.OpenBrace) ∷ (kinds.Keyword keywords.Enum)
    ∷ (kinds.Punct signs.OpenBrace) ∷ (kinds.Name 1) ∷ (kinds.Punct signs.CloseBrace) ∷ (kinds.Punct signs.Semicolon)
    ∷ (kinds.Punct signs.CloseBrace) ∷ kinds.End ∷ [])

-- enum { a }; int a;
abbrev pub items_77 : List Item
items_77 =
    ((decl_item (decl_declaration (declaration [] (more_words (enum_type (enum_of 0 [] None
    (some_enum_body 1 (more_enumerators (record { token = 2; name = 0 }) [] no_value no_enumerators) None 3))) no_words)
    no_init_declrs 4))) ∷ (decl_item
    (decl_declaration (declaration [] (more_words (basic (record { token = 5; keyword = keywords.Int })) no_words)
    (more_init_declrs [] (declr_name 6 0) None [] no_init no_init_declrs) 7))) ∷ [])

-- its tokens
abbrev pub kinds_77 : List TokenKind
kinds_77 =
    ((kinds.Keyword keywords.Enum) ∷ (kinds.Punct signs.OpenBrace) ∷ (kinds.Name 0) ∷ (kinds.Punct signs.CloseBrace)
    ∷ (kinds.Punct signs.Semicolon) ∷ (kinds.Keyword keywords.Int) ∷ (kinds.Name 0) ∷ (kinds.Punct signs.Semicolon)
    ∷ kinds.End ∷ [])

-- void f(void) { int x; enum { x }; }
abbrev pub items_78 : List Item
items_78 =
    ((function_item [] (more_words (basic (record { token = 0; keyword = keywords.Void })) no_words) (params
    (declr_name 1 0) 2 (more_params (more_words (basic (record { token = 3; keyword = keywords.Void })) no_words)
    no_declr [] no_params) None 4) [] 5 (more_block_items (block_decl (decl_declaration
    (declaration [] (more_words (basic (record { token = 6; keyword = keywords.Int })) no_words) (more_init_declrs []
    (declr_name 7 1) None [] no_init no_init_declrs) 8))) (more_block_items (block_decl (decl_declaration (declaration
    [] (more_words (enum_type (enum_of 9 [] None (some_enum_body 10 (more_enumerators (record { token = 11; name = 1 })
    [] no_value no_enumerators) None 12))) no_words) no_init_declrs 13))) no_block_items)) 14) ∷ [])

-- its tokens
abbrev pub kinds_78 : List TokenKind
kinds_78 =
    ((kinds.Keyword keywords.Void) ∷ (kinds.Name 0) ∷ (kinds.Punct signs.OpenParen) ∷ (kinds.Keyword keywords.Void)
    ∷ (kinds.Punct signs.CloseParen) ∷ (kinds.Punct signs.OpenBrace) ∷ (kinds.Keyword keywords.Int) ∷ (kinds.Name 1)
    ∷ (kinds.Punct signs.Semicolon) ∷ (kinds.Keyword keywords.Enum) ∷ (kinds.Punct signs.OpenBrace) ∷ (kinds.Name 1)
    ∷ (kinds.Punct signs.CloseBrace) ∷ (kinds.Punct signs.Semicolon) ∷ (kinds.Punct signs.CloseBrace) ∷ kinds.End ∷ [])

-- typedef int T; int T;
abbrev pub items_79 : List Item
items_79 = ((decl_item
    (decl_declaration (declaration [] (more_words (storage (record { token = 0; keyword = keywords.Typedef }))
    (more_words (basic (record { token = 1; keyword = keywords.Int })) no_words))
    (more_init_declrs [] (declr_name 2 0) None [] no_init no_init_declrs) 3))) ∷ (decl_item
    (decl_declaration (declaration [] (more_words (basic (record { token = 4; keyword = keywords.Int })) no_words)
    (more_init_declrs [] (declr_name 5 0) None [] no_init no_init_declrs) 6))) ∷ [])

-- its tokens
abbrev pub kinds_79 : List TokenKind
kinds_79 =
    ((kinds.Keyword keywords.Typedef) ∷ (kinds.Keyword keywords.Int) ∷ (kinds.Name 0) ∷ (kinds.Punct signs.Semicolon)
    ∷ (kinds.Keyword keywords.Int) ∷ (kinds.Name 0) ∷ (kinds.Punct signs.Semicolon) ∷ kinds.End ∷ [])

-- struct { int x[sizeof(enum {x})]; } y;
abbrev pub items_80 : List Item
items_80 =
    ((decl_item (decl_declaration (declaration []
    (more_words (struct_type (record { token = 0; keyword = keywords.Struct }) [] None (some_body 1 (more_struct_items
    (member [] (more_words (basic (record { token = 2; keyword = keywords.Int })) no_words) (more_mem_declrs [] (named
    (array (declr_name 3 0) 4 [] (some_size (size_value (sizeof_type (record { token = 5; keyword = keywords.Sizeof }) 6
    (more_words (enum_type (enum_of 7 [] None (some_enum_body 8 (more_enumerators (record { token = 9; name = 0 })
    [] no_value no_enumerators) None 10))) no_words) no_declr 11))) 12) no_value []) no_mem_declrs) 13) no_struct_items)
    14)) no_words) (more_init_declrs [] (declr_name 15 1) None [] no_init no_init_declrs) 16))) ∷ [])

-- its tokens
abbrev pub kinds_80 : List TokenKind
kinds_80 =
    ((kinds.Keyword keywords.Struct) ∷ (kinds.Punct signs.OpenBrace) ∷ (kinds.Keyword keywords.Int) ∷ (kinds.Name 0)
    ∷ (kinds.Punct signs.OpenBracket) ∷ (kinds.Keyword keywords.Sizeof) ∷ (kinds.Punct signs.OpenParen)
    ∷ (kinds.Keyword keywords.Enum) ∷ (kinds.Punct signs.OpenBrace) ∷ (kinds.Name 0) ∷ (kinds.Punct signs.CloseBrace)
    ∷ (kinds.Punct signs.CloseParen) ∷ (kinds.Punct signs.CloseBracket) ∷ (kinds.Punct signs.Semicolon)
    ∷ (kinds.Punct signs.CloseBrace) ∷ (kinds.Name 1) ∷ (kinds.Punct signs.Semicolon) ∷ kinds.End ∷ [])

-- int f(int a[sizeof(enum {f})]);
abbrev pub items_81 : List Item
items_81 =
    ((decl_item (decl_declaration (declaration [] (more_words (basic (record { token = 0; keyword = keywords.Int }))
    no_words) (more_init_declrs [] (params (declr_name 1 0) 2 (more_params
    (more_words (basic (record { token = 3; keyword = keywords.Int })) no_words) (some_declr (array (declr_name 4 1) 5
    [] (some_size (size_value (sizeof_type (record { token = 6; keyword = keywords.Sizeof }) 7 (more_words (enum_type
    (enum_of 8 [] None (some_enum_body 9 (more_enumerators (record { token = 10; name = 0 }) [] no_value no_enumerators)
    None 11))) no_words) no_declr 12))) 13)) [] no_params) None 14) None [] no_init no_init_declrs) 15))) ∷ [])

-- its tokens
abbrev pub kinds_81 : List TokenKind
kinds_81 =
    ((kinds.Keyword keywords.Int) ∷ (kinds.Name 0) ∷ (kinds.Punct signs.OpenParen) ∷ (kinds.Keyword keywords.Int)
    ∷ (kinds.Name 1) ∷ (kinds.Punct signs.OpenBracket) ∷ (kinds.Keyword keywords.Sizeof) ∷ (kinds.Punct signs.OpenParen)
    ∷ (kinds.Keyword keywords.Enum) ∷ (kinds.Punct signs.OpenBrace) ∷ (kinds.Name 0) ∷ (kinds.Punct signs.CloseBrace)
    ∷ (kinds.Punct signs.CloseParen) ∷ (kinds.Punct signs.CloseBracket) ∷ (kinds.Punct signs.CloseParen)
    ∷ (kinds.Punct signs.Semicolon) ∷ kinds.End ∷ [])

-- typedef int T; int (*f(int a))(int T) { T x; }
abbrev pub items_82 : List Item
items_82 = ((decl_item
    (decl_declaration (declaration [] (more_words (storage (record { token = 0; keyword = keywords.Typedef }))
    (more_words (basic (record { token = 1; keyword = keywords.Int })) no_words))
    (more_init_declrs [] (declr_name 2 0) None [] no_init no_init_declrs) 3)))
    ∷ (function_item [] (more_words (basic (record { token = 4; keyword = keywords.Int })) no_words)
    (params (declr_paren 5 [] (pointer 6 [] (params (declr_name 7 1) 8 (more_params (more_words (basic
    (record { token = 9; keyword = keywords.Int })) no_words) (some_declr (declr_name 10 2)) [] no_params) None 11)) 12)
    13 (more_params (more_words (basic (record { token = 14; keyword = keywords.Int })) no_words)
    (some_declr (declr_name 15 0)) [] no_params) None 16) [] 17 (more_block_items
    (block_decl (decl_declaration (declaration [] (more_words (typedef_name (record { token = 18; name = 0 })) no_words)
    (more_init_declrs [] (declr_name 19 3) None [] no_init no_init_declrs) 20))) no_block_items) 21) ∷ [])

-- its tokens
abbrev pub kinds_82 : List TokenKind
kinds_82 =
    ((kinds.Keyword keywords.Typedef) ∷ (kinds.Keyword keywords.Int) ∷ (kinds.Name 0) ∷ (kinds.Punct signs.Semicolon)
    ∷ (kinds.Keyword keywords.Int) ∷ (kinds.Punct signs.OpenParen) ∷ (kinds.Punct signs.Star) ∷ (kinds.Name 1)
    ∷ (kinds.Punct signs.OpenParen) ∷ (kinds.Keyword keywords.Int) ∷ (kinds.Name 2) ∷ (kinds.Punct signs.CloseParen)
    ∷ (kinds.Punct signs.CloseParen) ∷ (kinds.Punct signs.OpenParen) ∷ (kinds.Keyword keywords.Int) ∷ (kinds.Name 0)
    ∷ (kinds.Punct signs.CloseParen) ∷ (kinds.Punct signs.OpenBrace) ∷ (kinds.Name 0) ∷ (kinds.Name 3)
    ∷ (kinds.Punct signs.Semicolon) ∷ (kinds.Punct signs.CloseBrace) ∷ kinds.End ∷ [])

-- typedef int T; void f(void) { do sizeof(enum {T}); while ((T)1); }
abbrev pub items_83 : List Item
items_83 = ((decl_item
    (decl_declaration (declaration [] (more_words (storage (record { token = 0; keyword = keywords.Typedef }))
    (more_words (basic (record { token = 1; keyword = keywords.Int })) no_words))
    (more_init_declrs [] (declr_name 2 0) None [] no_init no_init_declrs) 3)))
    ∷ (function_item [] (more_words (basic (record { token = 4; keyword = keywords.Void })) no_words) (params
    (declr_name 5 1) 6 (more_params (more_words (basic (record { token = 7; keyword = keywords.Void })) no_words)
    no_declr [] no_params) None 8) [] 9 (more_block_items (block_stmt (do_stmt 10 (expr_stmt (some_expr (sizeof_type
    (record { token = 11; keyword = keywords.Sizeof }) 12 (more_words (enum_type (enum_of 13 [] None (some_enum_body 14
    (more_enumerators (record { token = 15; name = 0 }) [] no_value no_enumerators) None 16))) no_words) no_declr 17))
    18) 19 20 (cast 21 (more_words (typedef_name (record { token = 22; name = 0 })) no_words) no_declr 23
    (number_use 24)) 25 26)) no_block_items) 27) ∷ [])

-- its tokens
abbrev pub kinds_83 : List TokenKind
kinds_83 =
    ((kinds.Keyword keywords.Typedef) ∷ (kinds.Keyword keywords.Int) ∷ (kinds.Name 0) ∷ (kinds.Punct signs.Semicolon)
    ∷ (kinds.Keyword keywords.Void) ∷ (kinds.Name 1) ∷ (kinds.Punct signs.OpenParen) ∷ (kinds.Keyword keywords.Void)
    ∷ (kinds.Punct signs.CloseParen) ∷ (kinds.Punct signs.OpenBrace) ∷ (kinds.Keyword keywords.Do)
    ∷ (kinds.Keyword keywords.Sizeof) ∷ (kinds.Punct signs.OpenParen) ∷ (kinds.Keyword keywords.Enum)
    ∷ (kinds.Punct signs.OpenBrace) ∷ (kinds.Name 0) ∷ (kinds.Punct signs.CloseBrace) ∷ (kinds.Punct signs.CloseParen)
    ∷ (kinds.Punct signs.Semicolon) ∷ (kinds.Keyword keywords.While) ∷ (kinds.Punct signs.OpenParen)
    ∷ (kinds.Punct signs.OpenParen) ∷ (kinds.Name 0) ∷ (kinds.Punct signs.CloseParen) ∷ kinds.Number
    ∷ (kinds.Punct signs.CloseParen) ∷ (kinds.Punct signs.Semicolon) ∷ (kinds.Punct signs.CloseBrace) ∷ kinds.End ∷ [])

-- typedef int T; void f(void) { if (sizeof(enum {T})) T * 2; T x; }
abbrev pub items_84 : List Item
items_84 = ((decl_item
    (decl_declaration (declaration [] (more_words (storage (record { token = 0; keyword = keywords.Typedef }))
    (more_words (basic (record { token = 1; keyword = keywords.Int })) no_words))
    (more_init_declrs [] (declr_name 2 0) None [] no_init no_init_declrs) 3))) ∷ (function_item [] (more_words
    (basic (record { token = 4; keyword = keywords.Void })) no_words) (params (declr_name 5 1) 6 (more_params
    (more_words (basic (record { token = 7; keyword = keywords.Void })) no_words) no_declr [] no_params) None 8) [] 9
    (more_block_items (block_stmt (if_stmt 10 11 (sizeof_type (record { token = 12; keyword = keywords.Sizeof }) 13
    (more_words (enum_type (enum_of 14 [] None (some_enum_body 15 (more_enumerators (record { token = 16; name = 0 })
    [] no_value no_enumerators) None 17))) no_words) no_declr 18) 19 (expr_stmt
    (some_expr (operation (name_use 20 0) (binary signs.Star) 21 (number_use 22))) 23) no_else)) (more_block_items
    (block_decl (decl_declaration (declaration [] (more_words (typedef_name (record { token = 24; name = 0 })) no_words)
    (more_init_declrs [] (declr_name 25 2) None [] no_init no_init_declrs) 26))) no_block_items)) 27) ∷ [])

-- its tokens
abbrev pub kinds_84 : List TokenKind
kinds_84 =
    ((kinds.Keyword keywords.Typedef) ∷ (kinds.Keyword keywords.Int) ∷ (kinds.Name 0) ∷ (kinds.Punct signs.Semicolon)
    ∷ (kinds.Keyword keywords.Void) ∷ (kinds.Name 1) ∷ (kinds.Punct signs.OpenParen) ∷ (kinds.Keyword keywords.Void)
    ∷ (kinds.Punct signs.CloseParen) ∷ (kinds.Punct signs.OpenBrace) ∷ (kinds.Keyword keywords.If)
    ∷ (kinds.Punct signs.OpenParen) ∷ (kinds.Keyword keywords.Sizeof) ∷ (kinds.Punct signs.OpenParen)
    ∷ (kinds.Keyword keywords.Enum) ∷ (kinds.Punct signs.OpenBrace) ∷ (kinds.Name 0) ∷ (kinds.Punct signs.CloseBrace)
    ∷ (kinds.Punct signs.CloseParen) ∷ (kinds.Punct signs.CloseParen) ∷ (kinds.Name 0) ∷ (kinds.Punct signs.Star)
    ∷ kinds.Number ∷ (kinds.Punct signs.Semicolon) ∷ (kinds.Name 0) ∷ (kinds.Name 2) ∷ (kinds.Punct signs.Semicolon)
    ∷ (kinds.Punct signs.CloseBrace) ∷ kinds.End ∷ [])

-- the sources 1 to 15: each with its tokens, its tree and the height of that
abbrev pub Group1 : Type 0
Group1 =
    IsExample kinds_1 items_1 1
    × IsExample kinds_2 items_2 2
    × IsExample kinds_3 items_3 2
    × IsExample kinds_4 items_4 3
    × IsExample kinds_5 items_5 2
    × IsExample kinds_6 items_6 4
    × IsExample kinds_7 items_7 4
    × IsExample kinds_8 items_8 6
    × IsExample kinds_9 items_9 6
    × IsExample kinds_10 items_10 5
    × IsExample kinds_11 items_11 4
    × IsExample kinds_12 items_12 2
    × IsExample kinds_13 items_13 6
    × IsExample kinds_14 items_14 6
    × IsExample kinds_15 items_15 6

-- the sources 16 to 30: each with its tokens, its tree and the height of that
abbrev pub Group2 : Type 0
Group2 =
    IsExample kinds_16 items_16 4
    × IsExample kinds_17 items_17 5
    × IsExample kinds_18 items_18 5
    × IsExample kinds_19 items_19 8
    × IsExample kinds_20 items_20 5
    × IsExample kinds_21 items_21 4
    × IsExample kinds_22 items_22 4
    × IsExample kinds_23 items_23 4
    × IsExample kinds_24 items_24 6
    × IsExample kinds_25 items_25 7
    × IsExample kinds_26 items_26 4
    × IsExample kinds_27 items_27 7
    × IsExample kinds_28 items_28 6
    × IsExample kinds_29 items_29 9
    × IsExample kinds_30 items_30 9

-- the sources 31 to 45: each with its tokens, its tree and the height of that
abbrev pub Group3 : Type 0
Group3 =
    IsExample kinds_31 items_31 5
    × IsExample kinds_32 items_32 5
    × IsExample kinds_33 items_33 6
    × IsExample kinds_34 items_34 4
    × IsExample kinds_35 items_35 7
    × IsExample kinds_36 items_36 6
    × IsExample kinds_37 items_37 6
    × IsExample kinds_38 items_38 4
    × IsExample kinds_39 items_39 4
    × IsExample kinds_40 items_40 5
    × IsExample kinds_41 items_41 5
    × IsExample kinds_42 items_42 7
    × IsExample kinds_43 items_43 7
    × IsExample kinds_44 items_44 8
    × IsExample kinds_45 items_45 8

-- the sources 46 to 60: each with its tokens, its tree and the height of that
abbrev pub Group4 : Type 0
Group4 =
    IsExample kinds_46 items_46 6
    × IsExample kinds_47 items_47 4
    × IsExample kinds_48 items_48 6
    × IsExample kinds_49 items_49 8
    × IsExample kinds_50 items_50 6
    × IsExample kinds_51 items_51 6
    × IsExample kinds_52 items_52 6
    × IsExample kinds_53 items_53 7
    × IsExample kinds_54 items_54 9
    × IsExample kinds_55 items_55 6
    × IsExample kinds_56 items_56 8
    × IsExample kinds_57 items_57 9
    × IsExample kinds_58 items_58 5
    × IsExample kinds_59 items_59 7
    × IsExample kinds_60 items_60 7

-- the sources 61 to 75, the last three of which give a name two kinds
abbrev pub Group5 : Type 0
Group5 =
    IsExample kinds_61 items_61 9
    × IsExample kinds_62 items_62 6
    × IsExample kinds_63 items_63 7
    × IsExample kinds_64 items_64 4
    × IsExample kinds_65 items_65 11
    × IsExample kinds_66 items_66 7
    × IsExample kinds_67 items_67 7
    × IsExample kinds_68 items_68 6
    × IsExample kinds_69 items_69 6
    × IsExample kinds_70 items_70 8
    × IsExample kinds_71 items_71 7
    × IsExample kinds_72 items_72 9
    × IsMisnamed kinds_73 items_73
    × IsMisnamed kinds_74 items_74
    × IsMisnamed kinds_75 items_75

-- the sources 76 to 84, the first four of which give a name two kinds
abbrev pub Group6 : Type 0
Group6 =
    IsMisnamed kinds_76 items_76
    × IsMisnamed kinds_77 items_77
    × IsMisnamed kinds_78 items_78
    × IsMisnamed kinds_79 items_79
    × IsExample kinds_80 items_80 12
    × IsExample kinds_81 items_81 11
    × IsExample kinds_82 items_82 8
    × IsExample kinds_83 items_83 10
    × IsExample kinds_84 items_84 9

-- all examples hold
abbrev pub ExamplesHold : Type 0
ExamplesHold = Group1 × Group2 × Group3 × Group4 × Group5 × Group6
