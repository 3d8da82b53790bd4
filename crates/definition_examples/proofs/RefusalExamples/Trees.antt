-- Trees of the sources: a unit that begins with the tokens before the refused one, and a tree that breaks a rule at it.
use Rattle.std.specs.Prelude.{◌++◌, take, is_some, All, Contains, Option, None, Some, nat_le}
use Rattle.std.proofs.lemmas.Bool.{ltb-true, leb-true}
use Rattle.std.proofs.lemmas.List.Elements.{All-nil, All-cons}
use Rattle.std.proofs.Common.{◌≡◌, ◌<◌, ℕ, true, false, List, [], ◌∷◌, arith, refl}
use Rattle.c_words.specs.declared.kinds.TokenKind.{TokenKind}
use Rattle.c_words.specs.declared.kinds.TokenKind.TheVariants as kinds
use Rattle.c_words.specs.declared.kinds.Keyword.{Keyword}
use Rattle.c_words.specs.declared.kinds.Keyword.TheVariants as words
use Rattle.c_words.specs.declared.kinds.Punct.TheVariants as signs
use Rattle.c_syntax.specs.declared.parts.Qual.TheVariants as quals
use Rattle.c_syntax.specs.declared.parts.Attr.{Attr}
use Rattle.c_tree.specs.Groups.{IsGroup, nothing, inner, bracketed}
use Rattle.c_tree.specs.Tree.{operation, cast, prefix, sizeof_type, compound, name_use, number_use, cond, binary, some_expr, no_expr, SpecWords, no_words, more_words, storage, qualifier, basic, enum_type, typedef_name, attribute, abs_params, attr_stmt, some_value, paren, no_value, enum_of, some_enum_body, no_enumerators, more_enumerators, declr_name, array, params, no_declr, some_declr, some_size, size_value, no_params, more_params, init_value, init_list, no_init_items, no_init, some_init, no_init_declrs, more_init_declrs, declaration, decl_declaration, no_block_items, more_block_items, block_decl, block_stmt, expr_stmt, label, if_stmt, no_else}
use Rattle.c_tree.specs.Unit.{Item, function_item, decl_item, IsItem, items_text, unit_height}
use Rattle.c_tree.specs.Specifiers.{IsMix}
use Rattle.c_specs.specs.Mix.{is_whole_mix, goes_on, class_of}
use Rattle.c_specs.specs.Laws.{WholeAreMixes, MixesGoOn}
use Rattle.typedef_scope.specs.declared.kind.Kind.TheVariants.{Value, Constant}
use Rattle.c_units.specs.HeldScopes.{HeldScopes, file_scope}
use Rattle.c_units.specs.Units.{items_scopes, numbered}
use Rattle.c_units.specs.FirstBad.{BeginsUnit}
use Rattle.refusal_rules.specs.Grammar.{DerivesItem}
use Rattle.refusal_rules.specs.Allowed.{MayHaveNoMix, MayHaveOtherKind, MayHaveNoUnaryLeft}
use Rattle.refusal_rules.specs.Laws.{UnitsAreTrees}
use Rattle.definition_examples.specs.RefusalExamples.Refusals.{float_behind_long, int_behind_typedef_name, object_named_as_typedef, enumerator_named_as_typedef, object_named_as_enumerator, sum_assigned, conditional_assigned, cast_assigned, held_name_enumerated, cast_incremented, sizeof_type_indexed, words_without_type, function_behind_comma, function_of_typedef, declaration_in_if, dots_behind_attribute, attribute_without_parameter, label_behind_attribute, extension_behind_attribute, declaration_behind_label, typedef_hidden_in_its_enum}

-- a unit whose tokens are these, which was worked out
unit_from : (before behind : List TokenKind) (items : List Item) (last : ℕ) →
    numbered (before ++ behind) ≡ items_text (numbered (before ++ behind)) items (record {
      kind =
          kinds.End;
      at = last;
    } ∷ []) →
    All (IsItem (numbered (before ++ behind))) items → nat_le (unit_height items) 500 ≡ true →
    is_some (items_scopes items (file_scope false)) ≡ true → BeginsUnit false before
unit_from before behind items last spelled parts low named = on (items_scopes items (file_scope false)) refl named
  where
    on : (scopes : Option HeldScopes) → items_scopes items (file_scope false) ≡ scopes → is_some scopes ≡ true
        → BeginsUnit false before
    on None is some = absurd cc
    on (Some scopes) is some = record {
      behind = behind;
      items = items;
      formed = record {
        tokens = record { last = last; spelled = spelled };
        rules = record { parts = parts; low = leb-true (unit_height items) 500 low };
        scopes = scopes;
        named = is;
      };
    }

no_typedef : ¬ Contains {X = Keyword} [] words.Typedef
no_typedef c = let h : c.0 < 0 = c.1 in absurd (omega arith)

module _ (whole_are : WholeAreMixes) where
  is_mix : (ws : SpecWords) → is_whole_mix ws ≡ true → IsMix ws
  is_mix ws = (whole_are ws).0

  -- long ;
  pub float_behind_long_front : BeginsUnit false (take 1 float_behind_long)
  float_behind_long_front =
      unit_from (take 1 float_behind_long) ((kinds.Punct signs.Semicolon) ∷ kinds.End ∷ [])
      ((decl_item (decl_declaration (declaration [] (more_words (basic (record {
        token =
            0;
        keyword = words.Long;
      })) no_words) no_init_declrs 1))) ∷ []) 2 refl
      (All-cons (IsItem (numbered (take 1 float_behind_long ++ ((kinds.Punct signs.Semicolon) ∷ kinds.End ∷ []))))
      (decl_item (decl_declaration (declaration [] (more_words (basic (record {
        token =
            0;
        keyword = words.Long;
      })) no_words) no_init_declrs 1))) ([]) ((
        is_mix (more_words (basic (record { token = 0; keyword = words.Long })) no_words) refl,
        (tt, tt),
        tt,
        tt,
        tt,
        tt,
      )) (All-nil _)) refl refl

  -- typedef int T; void f(void) { T x; }
  pub int_behind_typedef_name_front : BeginsUnit false (take 11 int_behind_typedef_name)
  int_behind_typedef_name_front =
      unit_from (take 11 int_behind_typedef_name)
      ((kinds.Punct signs.Semicolon) ∷ (kinds.Punct signs.CloseBrace) ∷ kinds.End ∷ [])
      ((decl_item (decl_declaration (declaration [] (more_words (storage (record {
        token =
            0;
        keyword = words.Typedef;
      })) (more_words (basic (record { token = 1; keyword = words.Int })) no_words))
      (more_init_declrs [] (declr_name 2 0) None [] no_init no_init_declrs) 3))) ∷ (function_item []
      (more_words (basic (record { token = 4; keyword = words.Void })) no_words) (params (declr_name 5 1) 6
      (more_params (more_words (basic (record { token = 7; keyword = words.Void })) no_words) no_declr
      [] no_params) None 8) [] 9 (more_block_items (block_decl (decl_declaration (declaration [] (more_words
      (typedef_name (record { token = 10; name = 0 })) no_words) no_init_declrs 11))) no_block_items) 12)
      ∷ []) 13 refl (All-cons (IsItem (numbered (take 11 int_behind_typedef_name
      ++ ((kinds.Punct signs.Semicolon) ∷ (kinds.Punct signs.CloseBrace) ∷ kinds.End ∷ []))))
      (decl_item (decl_declaration (declaration [] (more_words (storage (record {
        token =
            0;
        keyword = words.Typedef;
      })) (more_words (basic (record { token = 1; keyword = words.Int })) no_words))
      (more_init_declrs [] (declr_name 2 0) None [] no_init no_init_declrs) 3))) ((function_item []
      (more_words (basic (record { token = 4; keyword = words.Void })) no_words) (params (declr_name 5 1) 6
      (more_params (more_words (basic (record { token = 7; keyword = words.Void })) no_words) no_declr
      [] no_params) None 8) [] 9 (more_block_items (block_decl (decl_declaration (declaration [] (more_words
      (typedef_name (record { token = 10; name = 0 })) no_words) no_init_declrs 11))) no_block_items) 12) ∷ []) ((
        is_mix (more_words (storage (record { token = 0; keyword = words.Typedef }))
            (more_words (basic (record { token = 1; keyword = words.Int })) no_words)) refl,
        (refl, (tt, tt)),
        refl,
        (All-nil _, tt, refl, tt, All-nil _, tt, tt, refl),
        tt,
        λ e m. absurd cc,
      )) (All-cons (IsItem (numbered (take 11 int_behind_typedef_name
      ++ ((kinds.Punct signs.Semicolon) ∷ (kinds.Punct signs.CloseBrace) ∷ kinds.End ∷ [])))) (function_item []
      (more_words (basic (record { token = 4; keyword = words.Void })) no_words) (params (declr_name 5 1) 6
      (more_params (more_words (basic (record { token = 7; keyword = words.Void })) no_words) no_declr
      [] no_params) None 8) [] 9 (more_block_items (block_decl (decl_declaration (declaration [] (more_words
      (typedef_name (record { token = 10; name = 0 })) no_words) no_init_declrs 11))) no_block_items) 12) ([]) ((
        is_mix (more_words (basic (record { token = 4; keyword = words.Void })) no_words) refl,
        (tt, tt),
        refl,
        no_typedef,
        (
          tt,
          refl,
          refl,
          (
            is_mix (more_words (basic (record { token = 7; keyword = words.Void })) no_words) refl,
            (tt, tt),
            refl,
            tt,
            All-nil _,
            tt,
            tt,
            refl,
          ),
          tt,
        ),
        refl,
        All-nil _,
        (
          (
            is_mix (more_words (typedef_name (record { token = 10; name = 0 })) no_words) refl,
            (tt, tt),
            tt,
            tt,
            tt,
            tt,
          ),
          tt,
        ),
        refl,
      )) (All-nil _))) refl refl

  -- typedef int A; int B;
  pub object_named_as_typedef_front : BeginsUnit false (take 5 object_named_as_typedef)
  object_named_as_typedef_front =
      unit_from (take 5 object_named_as_typedef) ((kinds.Name 1) ∷ (kinds.Punct signs.Semicolon) ∷ kinds.End ∷ [])
      ((decl_item (decl_declaration (declaration [] (more_words (storage (record {
        token =
            0;
        keyword = words.Typedef;
      })) (more_words (basic (record { token = 1; keyword = words.Int })) no_words))
      (more_init_declrs [] (declr_name 2 0) None [] no_init no_init_declrs) 3))) ∷ (decl_item
      (decl_declaration (declaration [] (more_words (basic (record { token = 4; keyword = words.Int })) no_words)
      (more_init_declrs [] (declr_name 5 1) None [] no_init no_init_declrs) 6))) ∷ []) 7 refl
      (All-cons (IsItem (numbered
      (take 5 object_named_as_typedef ++ ((kinds.Name 1) ∷ (kinds.Punct signs.Semicolon) ∷ kinds.End ∷ []))))
      (decl_item (decl_declaration (declaration [] (more_words (storage (record {
        token =
            0;
        keyword = words.Typedef;
      })) (more_words (basic (record { token = 1; keyword = words.Int })) no_words))
      (more_init_declrs [] (declr_name 2 0) None [] no_init no_init_declrs) 3))) ((decl_item
      (decl_declaration (declaration [] (more_words (basic (record { token = 4; keyword = words.Int })) no_words)
      (more_init_declrs [] (declr_name 5 1) None [] no_init no_init_declrs) 6))) ∷ []) ((
        is_mix (more_words (storage (record { token = 0; keyword = words.Typedef }))
            (more_words (basic (record { token = 1; keyword = words.Int })) no_words)) refl,
        (refl, (tt, tt)),
        refl,
        (All-nil _, tt, refl, tt, All-nil _, tt, tt, refl),
        tt,
        λ e m. absurd cc,
      )) (All-cons (IsItem (numbered (take 5 object_named_as_typedef
      ++ ((kinds.Name 1) ∷ (kinds.Punct signs.Semicolon) ∷ kinds.End ∷ [])))) (decl_item
      (decl_declaration (declaration [] (more_words (basic (record { token = 4; keyword = words.Int })) no_words)
      (more_init_declrs [] (declr_name 5 1) None [] no_init no_init_declrs) 6))) ([]) ((
        is_mix (more_words (basic (record { token = 4; keyword = words.Int })) no_words) refl,
        (tt, tt),
        refl,
        (All-nil _, tt, refl, tt, All-nil _, tt, tt, refl),
        tt,
        λ e m. absurd cc,
      )) (All-nil _))) refl refl

  -- typedef int T; enum { U };
  pub enumerator_named_as_typedef_front : BeginsUnit false (take 6 enumerator_named_as_typedef)
  enumerator_named_as_typedef_front =
      unit_from (take 6 enumerator_named_as_typedef)
      ((kinds.Name 1) ∷ (kinds.Punct signs.CloseBrace) ∷ (kinds.Punct signs.Semicolon) ∷ kinds.End ∷ [])
      ((decl_item (decl_declaration (declaration [] (more_words (storage (record {
        token =
            0;
        keyword = words.Typedef;
      })) (more_words (basic (record { token = 1; keyword = words.Int })) no_words))
      (more_init_declrs [] (declr_name 2 0) None [] no_init no_init_declrs) 3)))
      ∷ (decl_item (decl_declaration (declaration [] (more_words (enum_type (enum_of 4 [] None
      (some_enum_body 5 (more_enumerators (record { token = 6; name = 1 }) [] no_value no_enumerators) None 7)))
      no_words) no_init_declrs 8))) ∷ []) 9 refl (All-cons (IsItem (numbered (take 6 enumerator_named_as_typedef
      ++ ((kinds.Name 1) ∷ (kinds.Punct signs.CloseBrace) ∷ (kinds.Punct signs.Semicolon) ∷ kinds.End ∷ []))))
      (decl_item (decl_declaration (declaration [] (more_words (storage (record {
        token =
            0;
        keyword = words.Typedef;
      })) (more_words (basic (record { token = 1; keyword = words.Int })) no_words))
      (more_init_declrs [] (declr_name 2 0) None [] no_init no_init_declrs) 3)))
      ((decl_item (decl_declaration (declaration [] (more_words (enum_type (enum_of 4 [] None
      (some_enum_body 5 (more_enumerators (record { token = 6; name = 1 }) [] no_value no_enumerators) None 7)))
      no_words) no_init_declrs 8))) ∷ []) ((
        is_mix (more_words (storage (record { token = 0; keyword = words.Typedef }))
            (more_words (basic (record { token = 1; keyword = words.Int })) no_words)) refl,
        (refl, (tt, tt)),
        refl,
        (All-nil _, tt, refl, tt, All-nil _, tt, tt, refl),
        tt,
        λ e m. absurd cc,
      )) (All-cons (IsItem (numbered (take 6 enumerator_named_as_typedef
      ++ ((kinds.Name 1) ∷ (kinds.Punct signs.CloseBrace) ∷ (kinds.Punct signs.Semicolon) ∷ kinds.End ∷ []))))
      (decl_item (decl_declaration (declaration [] (more_words (enum_type (enum_of 4 [] None
      (some_enum_body 5 (more_enumerators (record { token = 6; name = 1 }) [] no_value no_enumerators) None 7)))
      no_words) no_init_declrs 8))) ([]) ((
        is_mix (more_words (enum_type (enum_of 4 [] None (some_enum_body 5
            (more_enumerators (record { token = 6; name = 1 }) [] no_value no_enumerators) None 7))) no_words) refl,
        ((All-nil _, tt, ((λ is. absurd cc), (All-nil _, tt, tt))), tt),
        tt,
        tt,
        tt,
        tt,
      )) (All-nil _))) refl refl

  -- void f(enum { A } x) { int B; }
  pub object_named_as_enumerator_front : BeginsUnit false (take 11 object_named_as_enumerator)
  object_named_as_enumerator_front =
      unit_from (take 11 object_named_as_enumerator)
      ((kinds.Name 3) ∷ (kinds.Punct signs.Semicolon) ∷ (kinds.Punct signs.CloseBrace) ∷ kinds.End ∷ [])
      ((function_item [] (more_words (basic (record {
        token =
            0;
        keyword = words.Void;
      })) no_words) (params (declr_name 1 0) 2 (more_params (more_words (enum_type (enum_of 3 [] None (some_enum_body 4
      (more_enumerators (record { token = 5; name = 1 }) [] no_value no_enumerators) None 6))) no_words)
      (some_declr (declr_name 7 2)) [] no_params) None 8) [] 9 (more_block_items (block_decl
      (decl_declaration (declaration [] (more_words (basic (record { token = 10; keyword = words.Int })) no_words)
      (more_init_declrs [] (declr_name 11 3) None [] no_init no_init_declrs) 12))) no_block_items) 13)
      ∷ []) 14 refl (All-cons (IsItem (numbered (take 11 object_named_as_enumerator
      ++ ((kinds.Name 3) ∷ (kinds.Punct signs.Semicolon) ∷ (kinds.Punct signs.CloseBrace) ∷ kinds.End ∷ []))))
      (function_item [] (more_words (basic (record {
        token =
            0;
        keyword = words.Void;
      })) no_words) (params (declr_name 1 0) 2 (more_params (more_words (enum_type (enum_of 3 [] None (some_enum_body 4
      (more_enumerators (record { token = 5; name = 1 }) [] no_value no_enumerators) None 6))) no_words)
      (some_declr (declr_name 7 2)) [] no_params) None 8) [] 9 (more_block_items (block_decl
      (decl_declaration (declaration [] (more_words (basic (record { token = 10; keyword = words.Int })) no_words)
      (more_init_declrs [] (declr_name 11 3) None [] no_init no_init_declrs) 12))) no_block_items) 13) ([]) ((
        is_mix (more_words (basic (record { token = 0; keyword = words.Void })) no_words) refl,
        (tt, tt),
        refl,
        no_typedef,
        (
          tt,
          refl,
          refl,
          (
            is_mix (more_words (enum_type (enum_of 3 [] None (some_enum_body 4
                (more_enumerators (record { token = 5; name = 1 }) [] no_value no_enumerators) None 6))) no_words) refl,
            ((All-nil _, tt, ((λ is. absurd cc), (All-nil _, tt, tt))), tt),
            refl,
            tt,
            All-nil _,
            tt,
            tt,
            refl,
          ),
          tt,
        ),
        refl,
        All-nil _,
        (
          (
            is_mix (more_words (basic (record { token = 10; keyword = words.Int })) no_words) refl,
            (tt, tt),
            refl,
            (All-nil _, tt, refl, tt, All-nil _, tt, tt, refl),
            tt,
            λ e m. absurd cc,
          ),
          tt,
        ),
        refl,
      )) (All-nil _)) refl refl

  -- int x; void f(void) { x + 1 ; }
  pub sum_assigned_front : BeginsUnit false (take 12 sum_assigned)
  sum_assigned_front =
      unit_from (take 12 sum_assigned) ((kinds.Punct signs.Semicolon) ∷ (kinds.Punct signs.CloseBrace) ∷ kinds.End ∷ [])
      ((decl_item (decl_declaration (declaration [] (more_words (basic (record {
        token =
            0;
        keyword = words.Int;
      })) no_words) (more_init_declrs [] (declr_name 1 0) None [] no_init no_init_declrs) 2)))
      ∷ (function_item [] (more_words (basic (record { token = 3; keyword = words.Void })) no_words) (params
      (declr_name 4 1) 5 (more_params (more_words (basic (record { token = 6; keyword = words.Void })) no_words)
      no_declr [] no_params) None 7) [] 8 (more_block_items (block_stmt (expr_stmt
      (some_expr (operation (name_use 9 0) (binary signs.Plus) 10 (number_use 11))) 12)) no_block_items) 13)
      ∷ []) 14 refl (All-cons (IsItem (numbered (take 12 sum_assigned
      ++ ((kinds.Punct signs.Semicolon) ∷ (kinds.Punct signs.CloseBrace) ∷ kinds.End ∷ []))))
      (decl_item (decl_declaration (declaration [] (more_words (basic (record {
        token =
            0;
        keyword = words.Int;
      })) no_words) (more_init_declrs [] (declr_name 1 0) None [] no_init no_init_declrs) 2)))
      ((function_item [] (more_words (basic (record { token = 3; keyword = words.Void })) no_words) (params
      (declr_name 4 1) 5 (more_params (more_words (basic (record { token = 6; keyword = words.Void })) no_words)
      no_declr [] no_params) None 7) [] 8 (more_block_items (block_stmt (expr_stmt (some_expr
      (operation (name_use 9 0) (binary signs.Plus) 10 (number_use 11))) 12)) no_block_items) 13) ∷ []) ((
        is_mix (more_words (basic (record { token = 0; keyword = words.Int })) no_words) refl,
        (tt, tt),
        refl,
        (All-nil _, tt, refl, tt, All-nil _, tt, tt, refl),
        tt,
        λ e m. absurd cc,
      )) (All-cons (IsItem (numbered (take 12 sum_assigned
      ++ ((kinds.Punct signs.Semicolon) ∷ (kinds.Punct signs.CloseBrace) ∷ kinds.End ∷ [])))) (function_item []
      (more_words (basic (record { token = 3; keyword = words.Void })) no_words) (params (declr_name 4 1) 5
      (more_params (more_words (basic (record { token = 6; keyword = words.Void })) no_words) no_declr
      [] no_params) None 7) [] 8 (more_block_items (block_stmt (expr_stmt (some_expr
      (operation (name_use 9 0) (binary signs.Plus) 10 (number_use 11))) 12)) no_block_items) 13) ([]) ((
        is_mix (more_words (basic (record { token = 3; keyword = words.Void })) no_words) refl,
        (tt, tt),
        refl,
        no_typedef,
        (
          tt,
          refl,
          refl,
          (
            is_mix (more_words (basic (record { token = 6; keyword = words.Void })) no_words) refl,
            (tt, tt),
            refl,
            tt,
            All-nil _,
            tt,
            tt,
            refl,
          ),
          tt,
        ),
        refl,
        All-nil _,
        ((tt, tt, (leb-true 1 9 refl), tt, (leb-true 11 16 refl), (leb-true 12 16 refl)), tt),
        refl,
      )) (All-nil _))) refl refl

  -- int y = x ? x : x ;
  pub conditional_assigned_front : BeginsUnit false (take 8 conditional_assigned)
  conditional_assigned_front =
      unit_from (take 8 conditional_assigned) ((kinds.Punct signs.Semicolon) ∷ kinds.End ∷ [])
      ((decl_item (decl_declaration (declaration [] (more_words (basic (record {
        token =
            0;
        keyword = words.Int;
      })) no_words) (more_init_declrs [] (declr_name 1 0) None [] (some_init 2 (init_value (operation (name_use 3 1)
      (cond (some_expr (name_use 5 1)) 6) 4 (name_use 7 1)))) no_init_declrs) 8))) ∷ []) 9 refl (All-cons
      (IsItem (numbered (take 8 conditional_assigned ++ ((kinds.Punct signs.Semicolon) ∷ kinds.End ∷ []))))
      (decl_item (decl_declaration (declaration [] (more_words (basic (record {
        token =
            0;
        keyword = words.Int;
      })) no_words) (more_init_declrs [] (declr_name 1 0) None [] (some_init 2 (init_value (operation (name_use 3 1)
      (cond (some_expr (name_use 5 1)) 6) 4 (name_use 7 1)))) no_init_declrs) 8))) ([]) ((
        is_mix (more_words (basic (record { token = 0; keyword = words.Int })) no_words) refl,
        (tt, tt),
        refl,
        (
          All-nil _,
          tt,
          refl,
          tt,
          All-nil _,
          ((tt, tt, tt, tt, (leb-true 3 16 refl), (leb-true 2 16 refl)), (leb-true 1 2 refl)),
          tt,
          refl,
        ),
        tt,
        λ e m. absurd cc,
      )) (All-nil _)) refl refl

  -- int x; void f(void) { (int)x ; }
  pub cast_assigned_front : BeginsUnit false (take 13 cast_assigned)
  cast_assigned_front =
      unit_from (take 13 cast_assigned)
      ((kinds.Punct signs.Semicolon) ∷ (kinds.Punct signs.CloseBrace) ∷ kinds.End ∷ [])
      ((decl_item (decl_declaration (declaration [] (more_words (basic (record {
        token =
            0;
        keyword = words.Int;
      })) no_words) (more_init_declrs [] (declr_name 1 0) None [] no_init no_init_declrs) 2)))
      ∷ (function_item [] (more_words (basic (record { token = 3; keyword = words.Void })) no_words) (params
      (declr_name 4 1) 5 (more_params (more_words (basic (record { token = 6; keyword = words.Void })) no_words)
      no_declr [] no_params) None 7) [] 8 (more_block_items (block_stmt (expr_stmt
      (some_expr (cast 9 (more_words (basic (record { token = 10; keyword = words.Int })) no_words) no_declr 11
      (name_use 12 0))) 13)) no_block_items) 14) ∷ []) 15 refl (All-cons (IsItem (numbered (take 13 cast_assigned
      ++ ((kinds.Punct signs.Semicolon) ∷ (kinds.Punct signs.CloseBrace) ∷ kinds.End ∷ []))))
      (decl_item (decl_declaration (declaration [] (more_words (basic (record {
        token =
            0;
        keyword = words.Int;
      })) no_words) (more_init_declrs [] (declr_name 1 0) None [] no_init no_init_declrs) 2)))
      ((function_item [] (more_words (basic (record { token = 3; keyword = words.Void })) no_words) (params
      (declr_name 4 1) 5 (more_params (more_words (basic (record { token = 6; keyword = words.Void })) no_words)
      no_declr [] no_params) None 7) [] 8 (more_block_items (block_stmt (expr_stmt
      (some_expr (cast 9 (more_words (basic (record { token = 10; keyword = words.Int })) no_words) no_declr 11
      (name_use 12 0))) 13)) no_block_items) 14) ∷ []) ((
        is_mix (more_words (basic (record { token = 0; keyword = words.Int })) no_words) refl,
        (tt, tt),
        refl,
        (All-nil _, tt, refl, tt, All-nil _, tt, tt, refl),
        tt,
        λ e m. absurd cc,
      )) (All-cons (IsItem (numbered (take 13 cast_assigned
      ++ ((kinds.Punct signs.Semicolon) ∷ (kinds.Punct signs.CloseBrace) ∷ kinds.End ∷ [])))) (function_item []
      (more_words (basic (record { token = 3; keyword = words.Void })) no_words) (params (declr_name 4 1) 5
      (more_params (more_words (basic (record { token = 6; keyword = words.Void })) no_words) no_declr
      [] no_params) None 7) [] 8 (more_block_items (block_stmt (expr_stmt
      (some_expr (cast 9 (more_words (basic (record { token = 10; keyword = words.Int })) no_words) no_declr 11
      (name_use 12 0))) 13)) no_block_items) 14) ([]) ((
        is_mix (more_words (basic (record { token = 3; keyword = words.Void })) no_words) refl,
        (tt, tt),
        refl,
        no_typedef,
        (
          tt,
          refl,
          refl,
          (
            is_mix (more_words (basic (record { token = 6; keyword = words.Void })) no_words) refl,
            (tt, tt),
            refl,
            tt,
            All-nil _,
            tt,
            tt,
            refl,
          ),
          tt,
        ),
        refl,
        All-nil _,
        (
          (
            is_mix (more_words (basic (record { token = 10; keyword = words.Int })) no_words) refl,
            (tt, tt, tt),
            tt,
            tt,
            (leb-true 13 16 refl),
          ),
          tt,
        ),
        refl,
      )) (All-nil _))) refl refl

  -- int x[sizeof(enum { y })];
  pub held_name_enumerated_front : BeginsUnit false (take 7 held_name_enumerated)
  held_name_enumerated_front =
      unit_from (take 7 held_name_enumerated)
      ((kinds.Name 1) ∷ (kinds.Punct signs.CloseBrace) ∷ (kinds.Punct signs.CloseParen)
      ∷ (kinds.Punct signs.CloseBracket) ∷ (kinds.Punct signs.Semicolon) ∷ kinds.End ∷ [])
      ((decl_item (decl_declaration (declaration [] (more_words (basic (record {
        token =
            0;
        keyword = words.Int;
      })) no_words) (more_init_declrs [] (array (declr_name 1 0) 2 [] (some_size (size_value
      (sizeof_type (record { token = 3; keyword = words.Sizeof }) 4 (more_words (enum_type (enum_of 5 [] None
      (some_enum_body 6 (more_enumerators (record { token = 7; name = 1 }) [] no_value no_enumerators) None 8)))
      no_words) no_declr 9))) 10) None [] no_init no_init_declrs) 11))) ∷ []) 12 refl
      (All-cons (IsItem (numbered (take 7 held_name_enumerated ++ ((kinds.Name 1) ∷ (kinds.Punct signs.CloseBrace)
      ∷ (kinds.Punct signs.CloseParen) ∷ (kinds.Punct signs.CloseBracket) ∷ (kinds.Punct signs.Semicolon)
      ∷ kinds.End ∷ [])))) (decl_item (decl_declaration (declaration [] (more_words (basic (record {
        token =
            0;
        keyword = words.Int;
      })) no_words) (more_init_declrs [] (array (declr_name 1 0) 2 [] (some_size (size_value
      (sizeof_type (record { token = 3; keyword = words.Sizeof }) 4 (more_words (enum_type (enum_of 5 [] None
      (some_enum_body 6 (more_enumerators (record { token = 7; name = 1 }) [] no_value no_enumerators) None 8)))
      no_words) no_declr 9))) 10) None [] no_init no_init_declrs) 11))) ([]) ((
        is_mix (more_words (basic (record { token = 0; keyword = words.Int })) no_words) refl,
        (tt, tt),
        refl,
        (
          All-nil _,
          (
            tt,
            refl,
            refl,
            All-nil _,
            (
              (
                is_mix (more_words (enum_type (enum_of 5 [] None (some_enum_body 6 (more_enumerators
                    (record { token = 7; name = 1 }) [] no_value no_enumerators) None 8))) no_words) refl,
                ((All-nil _, tt, ((λ is. absurd cc), (All-nil _, tt, tt))), tt, tt),
                tt,
                refl,
              ),
              (leb-true 1 14 refl),
            ),
          ),
          refl,
          tt,
          All-nil _,
          tt,
          tt,
          refl,
        ),
        tt,
        λ e m. absurd cc,
      )) (All-nil _)) refl refl

  -- int x = ++(int){};
  pub cast_incremented_front : BeginsUnit false (take 7 cast_incremented)
  cast_incremented_front =
      unit_from (take 7 cast_incremented)
      ((kinds.Punct signs.OpenBrace) ∷ (kinds.Punct signs.CloseBrace) ∷ (kinds.Punct signs.Semicolon) ∷ kinds.End ∷ [])
      ((decl_item (decl_declaration (declaration [] (more_words (basic (record {
        token =
            0;
        keyword = words.Int;
      })) no_words) (more_init_declrs [] (declr_name 1 0) None [] (some_init 2 (init_value (prefix 3 signs.PlusPlus
      (compound 4 (more_words (basic (record { token = 5; keyword = words.Int })) no_words) no_declr 6
      (init_list 7 no_init_items None 8))))) no_init_declrs) 9))) ∷ []) 10 refl
      (All-cons (IsItem (numbered (take 7 cast_incremented ++ ((kinds.Punct signs.OpenBrace)
      ∷ (kinds.Punct signs.CloseBrace) ∷ (kinds.Punct signs.Semicolon) ∷ kinds.End ∷ []))))
      (decl_item (decl_declaration (declaration [] (more_words (basic (record {
        token =
            0;
        keyword = words.Int;
      })) no_words) (more_init_declrs [] (declr_name 1 0) None [] (some_init 2 (init_value (prefix 3 signs.PlusPlus
      (compound 4 (more_words (basic (record { token = 5; keyword = words.Int })) no_words) no_declr 6
      (init_list 7 no_init_items None 8))))) no_init_declrs) 9))) ([]) ((
        is_mix (more_words (basic (record { token = 0; keyword = words.Int })) no_words) refl,
        (tt, tt),
        refl,
        (
          All-nil _,
          tt,
          refl,
          tt,
          All-nil _,
          (
            (
              (
                is_mix (more_words (basic (record { token = 5; keyword = words.Int })) no_words) refl,
                (tt, tt, tt),
                tt,
                (tt, tt),
              ),
              (leb-true 14 15 refl),
            ),
            (leb-true 1 14 refl),
          ),
          tt,
          refl,
        ),
        tt,
        λ e m. absurd cc,
      )) (All-nil _)) refl refl

  -- int x = sizeof(int);
  pub sizeof_type_indexed_front : BeginsUnit false (take 7 sizeof_type_indexed)
  sizeof_type_indexed_front =
      unit_from (take 7 sizeof_type_indexed) ((kinds.Punct signs.Semicolon) ∷ kinds.End ∷ [])
      ((decl_item (decl_declaration (declaration [] (more_words (basic (record {
        token =
            0;
        keyword = words.Int;
      })) no_words) (more_init_declrs [] (declr_name 1 0) None []
      (some_init 2 (init_value (sizeof_type (record { token = 3; keyword = words.Sizeof }) 4
      (more_words (basic (record { token = 5; keyword = words.Int })) no_words) no_declr 6))) no_init_declrs) 7)))
      ∷ []) 8 refl (All-cons
      (IsItem (numbered (take 7 sizeof_type_indexed ++ ((kinds.Punct signs.Semicolon) ∷ kinds.End ∷ []))))
      (decl_item (decl_declaration (declaration [] (more_words (basic (record {
        token =
            0;
        keyword = words.Int;
      })) no_words) (more_init_declrs [] (declr_name 1 0) None []
      (some_init 2 (init_value (sizeof_type (record { token = 3; keyword = words.Sizeof }) 4 (more_words
      (basic (record { token = 5; keyword = words.Int })) no_words) no_declr 6))) no_init_declrs) 7))) ([]) ((
        is_mix (more_words (basic (record { token = 0; keyword = words.Int })) no_words) refl,
        (tt, tt),
        refl,
        (
          All-nil _,
          tt,
          refl,
          tt,
          All-nil _,
          (
            (
              is_mix (more_words (basic (record { token = 5; keyword = words.Int })) no_words) refl,
              (tt, tt, tt),
              tt,
              refl,
            ),
            (leb-true 1 14 refl),
          ),
          tt,
          refl,
        ),
        tt,
        λ e m. absurd cc,
      )) (All-nil _)) refl refl

  -- int f(int a, const int);
  pub words_without_type_front : BeginsUnit false (take 7 words_without_type)
  words_without_type_front =
      unit_from (take 7 words_without_type)
      ((kinds.Keyword words.Int) ∷ (kinds.Punct signs.CloseParen) ∷ (kinds.Punct signs.Semicolon) ∷ kinds.End ∷ [])
      ((decl_item (decl_declaration (declaration [] (more_words (basic (record {
        token =
            0;
        keyword = words.Int;
      })) no_words) (more_init_declrs [] (params (declr_name 1 0) 2 (more_params
      (more_words (basic (record { token = 3; keyword = words.Int })) no_words) (some_declr (declr_name 4 1)) []
      (more_params (more_words (qualifier (quals.Word (record { token = 6; keyword = words.Const })))
      (more_words (basic (record { token = 7; keyword = words.Int })) no_words)) no_declr [] no_params)) None 8)
      None [] no_init no_init_declrs) 9))) ∷ []) 10 refl
      (All-cons (IsItem (numbered (take 7 words_without_type ++ ((kinds.Keyword words.Int)
      ∷ (kinds.Punct signs.CloseParen) ∷ (kinds.Punct signs.Semicolon) ∷ kinds.End ∷ []))))
      (decl_item (decl_declaration (declaration [] (more_words (basic (record {
        token =
            0;
        keyword = words.Int;
      })) no_words) (more_init_declrs [] (params (declr_name 1 0) 2 (more_params
      (more_words (basic (record { token = 3; keyword = words.Int })) no_words) (some_declr (declr_name 4 1)) []
      (more_params (more_words (qualifier (quals.Word (record { token = 6; keyword = words.Const })))
      (more_words (basic (record { token = 7; keyword = words.Int })) no_words)) no_declr [] no_params)) None 8)
      None [] no_init no_init_declrs) 9))) ([]) ((
        is_mix (more_words (basic (record { token = 0; keyword = words.Int })) no_words) refl,
        (tt, tt),
        refl,
        (
          All-nil _,
          (
            tt,
            refl,
            refl,
            (
              is_mix (more_words (basic (record { token = 3; keyword = words.Int })) no_words) refl,
              (tt, tt),
              refl,
              tt,
              All-nil _,
              tt,
              (
                is_mix (more_words (qualifier (quals.Word (record { token = 6; keyword = words.Const })))
                    (more_words (basic (record { token = 7; keyword = words.Int })) no_words)) refl,
                ((refl, refl), (tt, tt)),
                refl,
                tt,
                All-nil _,
                tt,
                tt,
                refl,
              ),
              refl,
            ),
            tt,
          ),
          refl,
          tt,
          All-nil _,
          tt,
          tt,
          refl,
        ),
        tt,
        λ e m. absurd cc,
      )) (All-nil _)) refl refl

  -- int x, f();
  pub function_behind_comma_front : BeginsUnit false (take 6 function_behind_comma)
  function_behind_comma_front =
      unit_from (take 6 function_behind_comma) ((kinds.Punct signs.Semicolon) ∷ kinds.End ∷ [])
      ((decl_item (decl_declaration (declaration [] (more_words (basic (record {
        token =
            0;
        keyword = words.Int;
      })) no_words) (more_init_declrs [] (declr_name 1 0) None [] no_init (more_init_declrs []
      (params (declr_name 3 1) 4 no_params None 5) None [] no_init no_init_declrs)) 6))) ∷ []) 7 refl (All-cons
      (IsItem (numbered (take 6 function_behind_comma ++ ((kinds.Punct signs.Semicolon) ∷ kinds.End ∷ []))))
      (decl_item (decl_declaration (declaration [] (more_words (basic (record {
        token =
            0;
        keyword = words.Int;
      })) no_words) (more_init_declrs [] (declr_name 1 0) None [] no_init (more_init_declrs []
      (params (declr_name 3 1) 4 no_params None 5) None [] no_init no_init_declrs)) 6))) ([]) ((
        is_mix (more_words (basic (record { token = 0; keyword = words.Int })) no_words) refl,
        (tt, tt),
        refl,
        (
          All-nil _,
          tt,
          refl,
          tt,
          All-nil _,
          tt,
          (All-nil _, (tt, refl, refl, tt, tt), refl, tt, All-nil _, tt, tt, refl),
          refl,
        ),
        tt,
        λ e m. absurd cc,
      )) (All-nil _)) refl refl

  -- typedef int f(int);
  pub function_of_typedef_front : BeginsUnit false (take 6 function_of_typedef)
  function_of_typedef_front =
      unit_from (take 6 function_of_typedef) ((kinds.Punct signs.Semicolon) ∷ kinds.End ∷ [])
      ((decl_item (decl_declaration (declaration [] (more_words (storage (record {
        token =
            0;
        keyword = words.Typedef;
      })) (more_words (basic (record { token = 1; keyword = words.Int })) no_words)) (more_init_declrs [] (params
      (declr_name 2 0) 3 (more_params (more_words (basic (record { token = 4; keyword = words.Int })) no_words)
      no_declr [] no_params) None 5) None [] no_init no_init_declrs) 6))) ∷ []) 7 refl (All-cons
      (IsItem (numbered (take 6 function_of_typedef ++ ((kinds.Punct signs.Semicolon) ∷ kinds.End ∷ []))))
      (decl_item (decl_declaration (declaration [] (more_words (storage (record {
        token =
            0;
        keyword = words.Typedef;
      })) (more_words (basic (record { token = 1; keyword = words.Int })) no_words)) (more_init_declrs [] (params
      (declr_name 2 0) 3 (more_params (more_words (basic (record { token = 4; keyword = words.Int })) no_words)
      no_declr [] no_params) None 5) None [] no_init no_init_declrs) 6))) ([]) ((
        is_mix (more_words (storage (record { token = 0; keyword = words.Typedef }))
            (more_words (basic (record { token = 1; keyword = words.Int })) no_words)) refl,
        (refl, (tt, tt)),
        refl,
        (
          All-nil _,
          (
            tt,
            refl,
            refl,
            (
              is_mix (more_words (basic (record { token = 4; keyword = words.Int })) no_words) refl,
              (tt, tt),
              refl,
              tt,
              All-nil _,
              tt,
              tt,
              refl,
            ),
            tt,
          ),
          refl,
          tt,
          All-nil _,
          tt,
          tt,
          refl,
        ),
        tt,
        λ e m. absurd cc,
      )) (All-nil _)) refl refl

  -- typedef int T; void f(void) { if (1) T : ; }
  pub declaration_in_if_front : BeginsUnit false (take 15 declaration_in_if)
  declaration_in_if_front =
      unit_from (take 15 declaration_in_if)
      ((kinds.Punct signs.Colon) ∷ (kinds.Punct signs.Semicolon) ∷ (kinds.Punct signs.CloseBrace) ∷ kinds.End ∷ [])
      ((decl_item (decl_declaration (declaration [] (more_words (storage (record {
        token =
            0;
        keyword = words.Typedef;
      })) (more_words (basic (record { token = 1; keyword = words.Int })) no_words))
      (more_init_declrs [] (declr_name 2 0) None [] no_init no_init_declrs) 3)))
      ∷ (function_item [] (more_words (basic (record { token = 4; keyword = words.Void })) no_words) (params
      (declr_name 5 1) 6 (more_params (more_words (basic (record { token = 7; keyword = words.Void })) no_words)
      no_declr [] no_params) None 8) [] 9 (more_block_items (block_stmt (if_stmt 10 11 (number_use 12) 13
      (label (record { token = 14; name = 0 }) 15 [] (expr_stmt no_expr 16)) no_else)) no_block_items) 17)
      ∷ []) 18 refl (All-cons (IsItem (numbered (take 15 declaration_in_if ++ ((kinds.Punct signs.Colon)
      ∷ (kinds.Punct signs.Semicolon) ∷ (kinds.Punct signs.CloseBrace) ∷ kinds.End ∷ []))))
      (decl_item (decl_declaration (declaration [] (more_words (storage (record {
        token =
            0;
        keyword = words.Typedef;
      })) (more_words (basic (record { token = 1; keyword = words.Int })) no_words))
      (more_init_declrs [] (declr_name 2 0) None [] no_init no_init_declrs) 3)))
      ((function_item [] (more_words (basic (record { token = 4; keyword = words.Void })) no_words) (params
      (declr_name 5 1) 6 (more_params (more_words (basic (record { token = 7; keyword = words.Void })) no_words)
      no_declr [] no_params) None 8) [] 9 (more_block_items (block_stmt (if_stmt 10 11 (number_use 12) 13 (label
      (record { token = 14; name = 0 }) 15 [] (expr_stmt no_expr 16)) no_else)) no_block_items) 17) ∷ []) ((
        is_mix (more_words (storage (record { token = 0; keyword = words.Typedef }))
            (more_words (basic (record { token = 1; keyword = words.Int })) no_words)) refl,
        (refl, (tt, tt)),
        refl,
        (All-nil _, tt, refl, tt, All-nil _, tt, tt, refl),
        tt,
        λ e m. absurd cc,
      )) (All-cons (IsItem (numbered (take 15 declaration_in_if ++ ((kinds.Punct signs.Colon)
      ∷ (kinds.Punct signs.Semicolon) ∷ (kinds.Punct signs.CloseBrace) ∷ kinds.End ∷ [])))) (function_item []
      (more_words (basic (record { token = 4; keyword = words.Void })) no_words) (params (declr_name 5 1) 6
      (more_params (more_words (basic (record { token = 7; keyword = words.Void })) no_words) no_declr
      [] no_params) None 8) [] 9 (more_block_items (block_stmt (if_stmt 10 11 (number_use 12) 13
      (label (record { token = 14; name = 0 }) 15 [] (expr_stmt no_expr 16)) no_else)) no_block_items) 17) ([]) ((
        is_mix (more_words (basic (record { token = 4; keyword = words.Void })) no_words) refl,
        (tt, tt),
        refl,
        no_typedef,
        (
          tt,
          refl,
          refl,
          (
            is_mix (more_words (basic (record { token = 7; keyword = words.Void })) no_words) refl,
            (tt, tt),
            refl,
            tt,
            All-nil _,
            tt,
            tt,
            refl,
          ),
          tt,
        ),
        refl,
        All-nil _,
        ((tt, (All-nil _, tt, tt), tt), tt),
        refl,
      )) (All-nil _))) refl refl

  -- int f(int, __attribute__((a)) int);
  pub dots_behind_attribute_front : BeginsUnit false (take 11 dots_behind_attribute)
  dots_behind_attribute_front =
      unit_from (take 11 dots_behind_attribute)
      ((kinds.Keyword words.Int) ∷ (kinds.Punct signs.CloseParen) ∷ (kinds.Punct signs.Semicolon) ∷ kinds.End ∷ [])
      ((decl_item (decl_declaration (declaration [] (more_words (basic (record {
        token =
            0;
        keyword = words.Int;
      })) no_words) (more_init_declrs [] (params (declr_name 1 0) 2
      (more_params (more_words (basic (record { token = 3; keyword = words.Int })) no_words) no_declr []
      (more_params (more_words (attribute (record { keyword = 5; group = record { first = 6; last = 10 } }))
      (more_words (basic (record { token = 11; keyword = words.Int })) no_words)) no_declr [] no_params)) None 12)
      None [] no_init no_init_declrs) 13))) ∷ []) 14 refl
      (All-cons (IsItem (numbered (take 11 dots_behind_attribute ++ ((kinds.Keyword words.Int)
      ∷ (kinds.Punct signs.CloseParen) ∷ (kinds.Punct signs.Semicolon) ∷ kinds.End ∷ []))))
      (decl_item (decl_declaration (declaration [] (more_words (basic (record {
        token =
            0;
        keyword = words.Int;
      })) no_words) (more_init_declrs [] (params (declr_name 1 0) 2
      (more_params (more_words (basic (record { token = 3; keyword = words.Int })) no_words) no_declr []
      (more_params (more_words (attribute (record { keyword = 5; group = record { first = 6; last = 10 } }))
      (more_words (basic (record { token = 11; keyword = words.Int })) no_words)) no_declr [] no_params)) None 12)
      None [] no_init no_init_declrs) 13))) ([]) ((
        is_mix (more_words (basic (record { token = 0; keyword = words.Int })) no_words) refl,
        (tt, tt),
        refl,
        (
          All-nil _,
          (
            tt,
            refl,
            refl,
            (
              is_mix (more_words (basic (record { token = 3; keyword = words.Int })) no_words) refl,
              (tt, tt),
              refl,
              tt,
              All-nil _,
              tt,
              (
                is_mix (more_words (attribute (record { keyword = 5; group = record { first = 6; last = 10 } }))
                    (more_words (basic (record { token = 11; keyword = words.Int })) no_words)) refl,
                (
                  (record {
                    inside = (record { kind = kinds.Punct signs.OpenParen; at = 7 })
                        ∷ (record { kind = kinds.Name 1; at = 8 })
                        ∷ (record { kind = kinds.Punct signs.CloseParen; at = 9 }) ∷ [];
                    tokens = refl;
                    balanced = bracketed (record { kind = kinds.Punct signs.OpenParen; at = 7 })
                        (record { kind = kinds.Punct signs.CloseParen; at = 9 })
                        ((record { kind = kinds.Name 1; at = 8 }) ∷ []) [] refl
                        (inner (record { kind = kinds.Name 1; at = 8 }) [] refl nothing) nothing;
                  }),
                  (tt, tt),
                ),
                refl,
                tt,
                All-nil _,
                tt,
                tt,
                refl,
              ),
              refl,
            ),
            tt,
          ),
          refl,
          tt,
          All-nil _,
          tt,
          tt,
          refl,
        ),
        tt,
        λ e m. absurd cc,
      )) (All-nil _)) refl refl

  -- void f(int (__attribute__((a)) int));
  pub attribute_without_parameter_front : BeginsUnit false (take 11 attribute_without_parameter)
  attribute_without_parameter_front =
      unit_from (take 11 attribute_without_parameter) ((kinds.Keyword words.Int) ∷ (kinds.Punct signs.CloseParen)
      ∷ (kinds.Punct signs.CloseParen) ∷ (kinds.Punct signs.Semicolon) ∷ kinds.End ∷ [])
      ((decl_item (decl_declaration (declaration [] (more_words (basic (record {
        token =
            0;
        keyword = words.Void;
      })) no_words) (more_init_declrs [] (params (declr_name 1 0) 2 (more_params
      (more_words (basic (record { token = 3; keyword = words.Int })) no_words) (some_declr (abs_params no_declr 4
      (more_params (more_words (attribute (record { keyword = 5; group = record { first = 6; last = 10 } }))
      (more_words (basic (record { token = 11; keyword = words.Int })) no_words)) no_declr [] no_params) None 12))
      [] no_params) None 13) None [] no_init no_init_declrs) 14))) ∷ []) 15 refl (All-cons (IsItem (numbered
      (take 11 attribute_without_parameter ++ ((kinds.Keyword words.Int) ∷ (kinds.Punct signs.CloseParen)
      ∷ (kinds.Punct signs.CloseParen) ∷ (kinds.Punct signs.Semicolon) ∷ kinds.End ∷ []))))
      (decl_item (decl_declaration (declaration [] (more_words (basic (record {
        token =
            0;
        keyword = words.Void;
      })) no_words) (more_init_declrs [] (params (declr_name 1 0) 2 (more_params
      (more_words (basic (record { token = 3; keyword = words.Int })) no_words) (some_declr (abs_params no_declr 4
      (more_params (more_words (attribute (record { keyword = 5; group = record { first = 6; last = 10 } }))
      (more_words (basic (record { token = 11; keyword = words.Int })) no_words)) no_declr [] no_params) None 12))
      [] no_params) None 13) None [] no_init no_init_declrs) 14))) ([]) ((
        is_mix (more_words (basic (record { token = 0; keyword = words.Void })) no_words) refl,
        (tt, tt),
        refl,
        (
          All-nil _,
          (
            tt,
            refl,
            refl,
            (
              is_mix (more_words (basic (record { token = 3; keyword = words.Int })) no_words) refl,
              (tt, tt),
              refl,
              (
                tt,
                (
                  is_mix (more_words (attribute (record { keyword = 5; group = record { first = 6; last = 10 } }))
                      (more_words (basic (record { token = 11; keyword = words.Int })) no_words)) refl,
                  (
                    (record {
                      inside = (record { kind = kinds.Punct signs.OpenParen; at = 7 })
                          ∷ (record { kind = kinds.Name 1; at = 8 })
                          ∷ (record { kind = kinds.Punct signs.CloseParen; at = 9 }) ∷ [];
                      tokens = refl;
                      balanced = bracketed (record { kind = kinds.Punct signs.OpenParen; at = 7 })
                          (record { kind = kinds.Punct signs.CloseParen; at = 9 })
                          ((record { kind = kinds.Name 1; at = 8 }) ∷ []) [] refl
                          (inner (record { kind = kinds.Name 1; at = 8 }) [] refl nothing) nothing;
                    }),
                    (tt, tt),
                  ),
                  refl,
                  tt,
                  All-nil _,
                  tt,
                  tt,
                  refl,
                ),
                tt,
              ),
              All-nil _,
              tt,
              tt,
              refl,
            ),
            tt,
          ),
          refl,
          tt,
          All-nil _,
          tt,
          tt,
          refl,
        ),
        tt,
        λ e m. absurd cc,
      )) (All-nil _)) refl refl

  -- int f() __attribute__((a));
  pub label_behind_attribute_front : BeginsUnit false (take 10 label_behind_attribute)
  label_behind_attribute_front =
      unit_from (take 10 label_behind_attribute) ((kinds.Punct signs.Semicolon) ∷ kinds.End ∷ [])
      ((decl_item (decl_declaration (declaration [] (more_words (basic (record {
        token =
            0;
        keyword = words.Int;
      })) no_words) (more_init_declrs [] (params (declr_name 1 0) 2 no_params None 3) None
      ((record { keyword = 4; group = record { first = 5; last = 9 } }) ∷ []) no_init no_init_declrs) 10)))
      ∷ []) 11 refl (All-cons
      (IsItem (numbered (take 10 label_behind_attribute ++ ((kinds.Punct signs.Semicolon) ∷ kinds.End ∷ []))))
      (decl_item (decl_declaration (declaration [] (more_words (basic (record {
        token =
            0;
        keyword = words.Int;
      })) no_words) (more_init_declrs [] (params (declr_name 1 0) 2 no_params None 3) None
      ((record { keyword = 4; group = record { first = 5; last = 9 } }) ∷ []) no_init no_init_declrs) 10))) ([])
      ((
        is_mix (more_words (basic (record { token = 0; keyword = words.Int })) no_words) refl,
        (tt, tt),
        refl,
        (
          All-nil _,
          (tt, refl, refl, tt, tt),
          refl,
          tt,
          (All-cons (λ (a : Attr). IsGroup
              (numbered (take 10 label_behind_attribute ++ ((kinds.Punct signs.Semicolon) ∷ kinds.End ∷ []))) a.group)
              (record { keyword = 4; group = record { first = 5; last = 9 } }) [] (record {
                inside =
                    (record { kind = kinds.Punct signs.OpenParen; at = 6 }) ∷ (record { kind = kinds.Name 1; at = 7 })
                    ∷ (record { kind = kinds.Punct signs.CloseParen; at = 8 }) ∷ [];
                tokens = refl;
                balanced = bracketed (record { kind = kinds.Punct signs.OpenParen; at = 6 })
                    (record { kind = kinds.Punct signs.CloseParen; at = 8 })
                    ((record { kind = kinds.Name 1; at = 7 }) ∷ [])
                    [] refl (inner (record { kind = kinds.Name 1; at = 7 }) [] refl nothing) nothing;
              }) (All-nil _)),
          tt,
          tt,
          refl,
        ),
        tt,
        λ e m. absurd cc,
      )) (All-nil _)) refl refl

  -- void f(void) { __attribute__((a)) ; }
  pub extension_behind_attribute_front : BeginsUnit false (take 12 extension_behind_attribute)
  extension_behind_attribute_front =
      unit_from (take 12 extension_behind_attribute)
      ((kinds.Punct signs.Semicolon) ∷ (kinds.Punct signs.CloseBrace) ∷ kinds.End ∷ [])
      ((function_item [] (more_words (basic (record {
        token =
            0;
        keyword = words.Void;
      })) no_words) (params (declr_name 1 0) 2 (more_params
      (more_words (basic (record { token = 3; keyword = words.Void })) no_words) no_declr [] no_params) None 4)
      [] 5 (more_block_items (block_stmt (attr_stmt
      ((record { keyword = 6; group = record { first = 7; last = 11 } }) ∷ []) 12)) no_block_items) 13) ∷ []) 14
      refl (All-cons (IsItem (numbered (take 12 extension_behind_attribute ++ ((kinds.Punct signs.Semicolon)
      ∷ (kinds.Punct signs.CloseBrace) ∷ kinds.End ∷ [])))) (function_item [] (more_words (basic (record {
        token =
            0;
        keyword = words.Void;
      })) no_words) (params (declr_name 1 0) 2 (more_params
      (more_words (basic (record { token = 3; keyword = words.Void })) no_words) no_declr [] no_params) None 4)
      [] 5 (more_block_items (block_stmt (attr_stmt
      ((record { keyword = 6; group = record { first = 7; last = 11 } }) ∷ []) 12)) no_block_items) 13) ([]) ((
        is_mix (more_words (basic (record { token = 0; keyword = words.Void })) no_words) refl,
        (tt, tt),
        refl,
        no_typedef,
        (
          tt,
          refl,
          refl,
          (
            is_mix (more_words (basic (record { token = 3; keyword = words.Void })) no_words) refl,
            (tt, tt),
            refl,
            tt,
            All-nil _,
            tt,
            tt,
            refl,
          ),
          tt,
        ),
        refl,
        All-nil _,
        (
          (
            (λ is. absurd cc),
            (All-cons (λ (a : Attr). IsGroup (numbered (take 12 extension_behind_attribute
                ++ ((kinds.Punct signs.Semicolon) ∷ (kinds.Punct signs.CloseBrace) ∷ kinds.End ∷ []))) a.group)
                (record { keyword = 6; group = record { first = 7; last = 11 } }) [] (record {
                  inside =
                      (record { kind = kinds.Punct signs.OpenParen; at = 8 }) ∷ (record { kind = kinds.Name 1; at = 9 })
                      ∷ (record { kind = kinds.Punct signs.CloseParen; at = 10 }) ∷ [];
                  tokens = refl;
                  balanced = bracketed (record { kind = kinds.Punct signs.OpenParen; at = 8 })
                      (record { kind = kinds.Punct signs.CloseParen; at = 10 })
                      ((record { kind = kinds.Name 1; at = 9 }) ∷ []) [] refl
                      (inner (record { kind = kinds.Name 1; at = 9 }) [] refl nothing) nothing;
                }) (All-nil _)),
          ),
          tt,
        ),
        refl,
      )) (All-nil _)) refl refl

  -- void f(void) { L: __attribute__((a)) ; }
  pub declaration_behind_label_front : BeginsUnit false (take 14 declaration_behind_label)
  declaration_behind_label_front =
      unit_from (take 14 declaration_behind_label)
      ((kinds.Punct signs.Semicolon) ∷ (kinds.Punct signs.CloseBrace) ∷ kinds.End ∷ [])
      ((function_item [] (more_words (basic (record {
        token =
            0;
        keyword = words.Void;
      })) no_words) (params (declr_name 1 0) 2 (more_params
      (more_words (basic (record { token = 3; keyword = words.Void })) no_words) no_declr [] no_params) None 4)
      [] 5 (more_block_items (block_stmt (label (record { token = 6; name = 1 }) 7
      ((record { keyword = 8; group = record { first = 9; last = 13 } }) ∷ []) (expr_stmt no_expr 14)))
      no_block_items) 15) ∷ []) 16 refl (All-cons (IsItem (numbered (take 14 declaration_behind_label
      ++ ((kinds.Punct signs.Semicolon) ∷ (kinds.Punct signs.CloseBrace) ∷ kinds.End ∷ []))))
      (function_item [] (more_words (basic (record {
        token =
            0;
        keyword = words.Void;
      })) no_words) (params (declr_name 1 0) 2 (more_params
      (more_words (basic (record { token = 3; keyword = words.Void })) no_words) no_declr [] no_params) None 4)
      [] 5 (more_block_items (block_stmt (label (record { token = 6; name = 1 }) 7
      ((record { keyword = 8; group = record { first = 9; last = 13 } }) ∷ []) (expr_stmt no_expr 14)))
      no_block_items) 15) ([]) ((
        is_mix (more_words (basic (record { token = 0; keyword = words.Void })) no_words) refl,
        (tt, tt),
        refl,
        no_typedef,
        (
          tt,
          refl,
          refl,
          (
            is_mix (more_words (basic (record { token = 3; keyword = words.Void })) no_words) refl,
            (tt, tt),
            refl,
            tt,
            All-nil _,
            tt,
            tt,
            refl,
          ),
          tt,
        ),
        refl,
        All-nil _,
        (
          (
            (All-cons (λ (a : Attr). IsGroup (numbered (take 14 declaration_behind_label
                ++ ((kinds.Punct signs.Semicolon) ∷ (kinds.Punct signs.CloseBrace) ∷ kinds.End ∷ []))) a.group)
                (record { keyword = 8; group = record { first = 9; last = 13 } }) [] (record {
                  inside =
                      (record { kind = kinds.Punct signs.OpenParen; at = 10 })
                      ∷ (record { kind = kinds.Name 2; at = 11 })
                      ∷ (record { kind = kinds.Punct signs.CloseParen; at = 12 }) ∷ [];
                  tokens = refl;
                  balanced = bracketed (record { kind = kinds.Punct signs.OpenParen; at = 10 })
                      (record { kind = kinds.Punct signs.CloseParen; at = 12 })
                      ((record { kind = kinds.Name 2; at = 11 }) ∷ []) [] refl
                      (inner (record { kind = kinds.Name 2; at = 11 }) [] refl nothing) nothing;
                }) (All-nil _)),
            tt,
            tt,
          ),
          tt,
        ),
        refl,
      )) (All-nil _)) refl refl

  -- typedef int T; void f(void) { enum { A, T = (T)1, B = (T) }; }
  pub typedef_hidden_in_its_enum_front : BeginsUnit false (take 26 typedef_hidden_in_its_enum)
  typedef_hidden_in_its_enum_front =
      unit_from (take 26 typedef_hidden_in_its_enum)
      ((kinds.Punct signs.CloseBrace) ∷ (kinds.Punct signs.Semicolon) ∷ (kinds.Punct signs.CloseBrace) ∷ kinds.End ∷ [])
      ((decl_item (decl_declaration (declaration [] (more_words (storage (record {
        token =
            0;
        keyword = words.Typedef;
      })) (more_words (basic (record { token = 1; keyword = words.Int })) no_words))
      (more_init_declrs [] (declr_name 2 0) None [] no_init no_init_declrs) 3))) ∷ (function_item []
      (more_words (basic (record { token = 4; keyword = words.Void })) no_words) (params (declr_name 5 1) 6
      (more_params (more_words (basic (record { token = 7; keyword = words.Void })) no_words) no_declr
      [] no_params) None 8) [] 9 (more_block_items (block_decl (decl_declaration (declaration [] (more_words
      (enum_type (enum_of 10 [] None (some_enum_body 11 (more_enumerators (record { token = 12; name = 2 })
      [] no_value (more_enumerators (record { token = 14; name = 0 }) [] (some_value 15 (cast 16
      (more_words (typedef_name (record { token = 17; name = 0 })) no_words) no_declr 18 (number_use 19)))
      (more_enumerators (record { token = 21; name = 3 }) [] (some_value 22 (paren 23 (name_use 24 0) 25))
      no_enumerators))) None 26))) no_words) no_init_declrs 27))) no_block_items) 28) ∷ []) 29 refl
      (All-cons (IsItem (numbered (take 26 typedef_hidden_in_its_enum ++ ((kinds.Punct signs.CloseBrace)
      ∷ (kinds.Punct signs.Semicolon) ∷ (kinds.Punct signs.CloseBrace) ∷ kinds.End ∷ []))))
      (decl_item (decl_declaration (declaration [] (more_words (storage (record {
        token =
            0;
        keyword = words.Typedef;
      })) (more_words (basic (record { token = 1; keyword = words.Int })) no_words))
      (more_init_declrs [] (declr_name 2 0) None [] no_init no_init_declrs) 3))) ((function_item []
      (more_words (basic (record { token = 4; keyword = words.Void })) no_words) (params (declr_name 5 1) 6
      (more_params (more_words (basic (record { token = 7; keyword = words.Void })) no_words) no_declr
      [] no_params) None 8) [] 9 (more_block_items (block_decl (decl_declaration (declaration [] (more_words
      (enum_type (enum_of 10 [] None (some_enum_body 11 (more_enumerators (record { token = 12; name = 2 })
      [] no_value (more_enumerators (record { token = 14; name = 0 }) [] (some_value 15 (cast 16
      (more_words (typedef_name (record { token = 17; name = 0 })) no_words) no_declr 18 (number_use 19)))
      (more_enumerators (record { token = 21; name = 3 }) [] (some_value 22 (paren 23 (name_use 24 0) 25))
      no_enumerators))) None 26))) no_words) no_init_declrs 27))) no_block_items) 28) ∷ []) ((
        is_mix (more_words (storage (record { token = 0; keyword = words.Typedef }))
            (more_words (basic (record { token = 1; keyword = words.Int })) no_words)) refl,
        (refl, (tt, tt)),
        refl,
        (All-nil _, tt, refl, tt, All-nil _, tt, tt, refl),
        tt,
        λ e m. absurd cc,
      )) (All-cons (IsItem (numbered (take 26 typedef_hidden_in_its_enum ++ ((kinds.Punct signs.CloseBrace)
      ∷ (kinds.Punct signs.Semicolon) ∷ (kinds.Punct signs.CloseBrace) ∷ kinds.End ∷ [])))) (function_item []
      (more_words (basic (record { token = 4; keyword = words.Void })) no_words) (params (declr_name 5 1) 6
      (more_params (more_words (basic (record { token = 7; keyword = words.Void })) no_words) no_declr
      [] no_params) None 8) [] 9 (more_block_items (block_decl (decl_declaration (declaration [] (more_words
      (enum_type (enum_of 10 [] None (some_enum_body 11 (more_enumerators (record { token = 12; name = 2 })
      [] no_value (more_enumerators (record { token = 14; name = 0 }) [] (some_value 15 (cast 16
      (more_words (typedef_name (record { token = 17; name = 0 })) no_words) no_declr 18 (number_use 19)))
      (more_enumerators (record { token = 21; name = 3 }) [] (some_value 22 (paren 23 (name_use 24 0) 25))
      no_enumerators))) None 26))) no_words) no_init_declrs 27))) no_block_items) 28) ([]) ((
        is_mix (more_words (basic (record { token = 4; keyword = words.Void })) no_words) refl,
        (tt, tt),
        refl,
        no_typedef,
        (
          tt,
          refl,
          refl,
          (
            is_mix (more_words (basic (record { token = 7; keyword = words.Void })) no_words) refl,
            (tt, tt),
            refl,
            tt,
            All-nil _,
            tt,
            tt,
            refl,
          ),
          tt,
        ),
        refl,
        All-nil _,
        (
          (
            is_mix (more_words (enum_type (enum_of 10 [] None (some_enum_body 11 (more_enumerators
                (record { token = 12; name = 2 }) [] no_value (more_enumerators (record { token = 14; name = 0 }) []
                (some_value 15 (cast 16 (more_words (typedef_name (record { token = 17; name = 0 })) no_words) no_declr
                18 (number_use 19))) (more_enumerators (record { token = 21; name = 3 }) []
                (some_value 22 (paren 23 (name_use 24 0) 25)) no_enumerators))) None 26))) no_words) refl,
            (
              (
                All-nil _,
                tt,
                (
                  (λ is. absurd cc),
                  (
                    All-nil _,
                    tt,
                    (
                      All-nil _,
                      (
                        (
                          is_mix (more_words (typedef_name (record { token = 17; name = 0 })) no_words) refl,
                          (tt, tt, tt),
                          tt,
                          tt,
                          (leb-true 13 16 refl),
                        ),
                        (leb-true 2 13 refl),
                      ),
                      (All-nil _, (tt, (leb-true 2 16 refl)), tt),
                    ),
                  ),
                ),
              ),
              tt,
            ),
            tt,
            tt,
            tt,
            tt,
          ),
          tt,
        ),
        refl,
      )) (All-nil _))) refl refl

module _ (whole_are : WholeAreMixes) (goes : MixesGoOn) (trees : UnitsAreTrees) where
  is_mix_2 : (ws : SpecWords) → is_whole_mix ws ≡ true → IsMix ws
  is_mix_2 ws = (whole_are ws).0

  pub object_named_as_typedef_bad : MayHaveOtherKind false object_named_as_typedef 5
  object_named_as_typedef_bad = record {
    items =
        ((decl_item
        (decl_declaration (declaration [] (more_words (storage (record { token = 0; keyword = words.Typedef }))
        (more_words (basic (record { token = 1; keyword = words.Int })) no_words))
        (more_init_declrs [] (declr_name 2 0) None [] no_init no_init_declrs) 3))) ∷ (decl_item
        (decl_declaration (declaration [] (more_words (basic (record { token = 4; keyword = words.Int })) no_words)
        (more_init_declrs [] (declr_name 5 0) None [] no_init no_init_declrs) 6))) ∷ []);
    tree = record {
      behind = ((kinds.Punct signs.Semicolon) ∷ kinds.End ∷ []);
      spelled = record { last = 7; spelled = refl };
      derived =
          trees _ ((decl_item
          (decl_declaration (declaration [] (more_words (storage (record { token = 0; keyword = words.Typedef }))
          (more_words (basic (record { token = 1; keyword = words.Int })) no_words))
          (more_init_declrs [] (declr_name 2 0) None [] no_init no_init_declrs) 3))) ∷ (decl_item
          (decl_declaration (declaration [] (more_words (basic (record { token = 4; keyword = words.Int })) no_words)
          (more_init_declrs [] (declr_name 5 0) None [] no_init no_init_declrs) 6))) ∷ []) (record {
            parts = All-cons (IsItem (numbered
                (take 6 object_named_as_typedef ++ ((kinds.Punct signs.Semicolon) ∷ kinds.End ∷ [])))) (decl_item
                (decl_declaration (declaration [] (more_words (storage (record { token = 0; keyword = words.Typedef }))
                (more_words (basic (record { token = 1; keyword = words.Int })) no_words))
                (more_init_declrs [] (declr_name 2 0) None [] no_init no_init_declrs) 3))) ((decl_item (decl_declaration
                (declaration [] (more_words (basic (record { token = 4; keyword = words.Int })) no_words)
                (more_init_declrs [] (declr_name 5 0) None [] no_init no_init_declrs) 6))) ∷ []) ((
                  is_mix_2 (more_words (storage (record { token = 0; keyword = words.Typedef }))
                      (more_words (basic (record { token = 1; keyword = words.Int })) no_words)) refl,
                  (refl, (tt, tt)),
                  refl,
                  (All-nil _, tt, refl, tt, All-nil _, tt, tt, refl),
                  tt,
                  λ e m. absurd cc,
                )) (All-cons (IsItem (numbered (take 6 object_named_as_typedef
                ++ ((kinds.Punct signs.Semicolon) ∷ kinds.End ∷ [])))) (decl_item (decl_declaration
                (declaration [] (more_words (basic (record { token = 4; keyword = words.Int })) no_words)
                (more_init_declrs [] (declr_name 5 0) None [] no_init no_init_declrs) 6))) ([]) ((
                  is_mix_2 (more_words (basic (record { token = 4; keyword = words.Int })) no_words) refl,
                  (tt, tt),
                  refl,
                  (All-nil _, tt, refl, tt, All-nil _, tt, tt, refl),
                  tt,
                  λ e m. absurd cc,
                )) (All-nil _));
            low = leb-true _ 500 refl;
          });
    };
    bad = record { name = 0; kind = Value; scopes = _; there = (3, ltb-true 3 _ refl, refl); other = refl };
  }

  pub enumerator_named_as_typedef_bad : MayHaveOtherKind false enumerator_named_as_typedef 6
  enumerator_named_as_typedef_bad = record {
    items =
        ((decl_item
        (decl_declaration (declaration [] (more_words (storage (record { token = 0; keyword = words.Typedef }))
        (more_words (basic (record { token = 1; keyword = words.Int })) no_words))
        (more_init_declrs [] (declr_name 2 0) None [] no_init no_init_declrs) 3))) ∷ (decl_item
        (decl_declaration (declaration [] (more_words (enum_type (enum_of 4 [] None (some_enum_body 5 (more_enumerators
        (record { token = 6; name = 0 }) [] no_value no_enumerators) None 7))) no_words) no_init_declrs 8))) ∷ []);
    tree = record {
      behind = ((kinds.Punct signs.CloseBrace) ∷ (kinds.Punct signs.Semicolon) ∷ kinds.End ∷ []);
      spelled = record { last = 9; spelled = refl };
      derived =
          trees _ ((decl_item
          (decl_declaration (declaration [] (more_words (storage (record { token = 0; keyword = words.Typedef }))
          (more_words (basic (record { token = 1; keyword = words.Int })) no_words))
          (more_init_declrs [] (declr_name 2 0) None [] no_init no_init_declrs) 3)))
          ∷ (decl_item (decl_declaration (declaration [] (more_words (enum_type (enum_of 4 [] None (some_enum_body 5
          (more_enumerators (record { token = 6; name = 0 }) [] no_value no_enumerators) None 7))) no_words)
          no_init_declrs 8))) ∷ []) (record {
            parts = All-cons (IsItem (numbered (take 7 enumerator_named_as_typedef
                ++ ((kinds.Punct signs.CloseBrace) ∷ (kinds.Punct signs.Semicolon) ∷ kinds.End ∷ [])))) (decl_item
                (decl_declaration (declaration [] (more_words (storage (record { token = 0; keyword = words.Typedef }))
                (more_words (basic (record { token = 1; keyword = words.Int })) no_words))
                (more_init_declrs [] (declr_name 2 0) None [] no_init no_init_declrs) 3)))
                ((decl_item (decl_declaration (declaration [] (more_words (enum_type (enum_of 4 [] None (some_enum_body
                5 (more_enumerators (record { token = 6; name = 0 }) [] no_value no_enumerators) None 7))) no_words)
                no_init_declrs 8))) ∷ []) ((
                  is_mix_2 (more_words (storage (record { token = 0; keyword = words.Typedef }))
                      (more_words (basic (record { token = 1; keyword = words.Int })) no_words)) refl,
                  (refl, (tt, tt)),
                  refl,
                  (All-nil _, tt, refl, tt, All-nil _, tt, tt, refl),
                  tt,
                  λ e m. absurd cc,
                )) (All-cons (IsItem (numbered (take 7 enumerator_named_as_typedef
                ++ ((kinds.Punct signs.CloseBrace) ∷ (kinds.Punct signs.Semicolon) ∷ kinds.End ∷ [])))) (decl_item
                (decl_declaration (declaration [] (more_words (enum_type (enum_of 4 [] None (some_enum_body 5
                (more_enumerators (record { token = 6; name = 0 }) [] no_value no_enumerators) None 7))) no_words)
                no_init_declrs 8))) ([]) ((
                  is_mix_2 (more_words (enum_type (enum_of 4 [] None (some_enum_body 5 (more_enumerators
                      (record { token = 6; name = 0 }) [] no_value no_enumerators) None 7))) no_words) refl,
                  ((All-nil _, tt, ((λ is. absurd cc), (All-nil _, tt, tt))), tt),
                  tt,
                  tt,
                  tt,
                  tt,
                )) (All-nil _));
            low = leb-true _ 500 refl;
          });
    };
    bad = record { name = 0; kind = Constant; scopes = _; there = (3, ltb-true 3 _ refl, refl); other = refl };
  }

  pub object_named_as_enumerator_bad : MayHaveOtherKind false object_named_as_enumerator 11
  object_named_as_enumerator_bad = record {
    items =
        ((function_item [] (more_words (basic (record { token = 0; keyword = words.Void })) no_words)
        (params (declr_name 1 0) 2 (more_params (more_words (enum_type (enum_of 3 [] None (some_enum_body 4
        (more_enumerators (record { token = 5; name = 1 }) [] no_value no_enumerators) None 6))) no_words)
        (some_declr (declr_name 7 2)) [] no_params) None 8) [] 9 (more_block_items (block_decl
        (decl_declaration (declaration [] (more_words (basic (record { token = 10; keyword = words.Int })) no_words)
        (more_init_declrs [] (declr_name 11 1) None [] no_init no_init_declrs) 12))) no_block_items) 13) ∷ []);
    tree = record {
      behind = ((kinds.Punct signs.Semicolon) ∷ (kinds.Punct signs.CloseBrace) ∷ kinds.End ∷ []);
      spelled = record { last = 14; spelled = refl };
      derived =
          trees _ ((function_item [] (more_words (basic (record { token = 0; keyword = words.Void })) no_words)
          (params (declr_name 1 0) 2 (more_params (more_words (enum_type (enum_of 3 [] None (some_enum_body 4
          (more_enumerators (record { token = 5; name = 1 }) [] no_value no_enumerators) None 6))) no_words)
          (some_declr (declr_name 7 2)) [] no_params) None 8) [] 9 (more_block_items (block_decl
          (decl_declaration (declaration [] (more_words (basic (record { token = 10; keyword = words.Int })) no_words)
          (more_init_declrs [] (declr_name 11 1) None [] no_init no_init_declrs) 12))) no_block_items) 13)
          ∷ []) (record {
            parts = All-cons (IsItem (numbered (take 12 object_named_as_enumerator
                ++ ((kinds.Punct signs.Semicolon) ∷ (kinds.Punct signs.CloseBrace) ∷ kinds.End ∷ []))))
                (function_item [] (more_words (basic (record { token = 0; keyword = words.Void })) no_words)
                (params (declr_name 1 0) 2 (more_params (more_words (enum_type (enum_of 3 [] None (some_enum_body 4
                (more_enumerators (record { token = 5; name = 1 }) [] no_value no_enumerators) None 6))) no_words)
                (some_declr (declr_name 7 2)) [] no_params) None 8) [] 9 (more_block_items (block_decl (decl_declaration
                (declaration [] (more_words (basic (record { token = 10; keyword = words.Int })) no_words)
                (more_init_declrs [] (declr_name 11 1) None [] no_init no_init_declrs) 12))) no_block_items) 13) ([]) ((
                  is_mix_2 (more_words (basic (record { token = 0; keyword = words.Void })) no_words) refl,
                  (tt, tt),
                  refl,
                  no_typedef,
                  (
                    tt,
                    refl,
                    refl,
                    (
                      is_mix_2 (more_words (enum_type (enum_of 3 [] None (some_enum_body 4 (more_enumerators
                          (record { token = 5; name = 1 }) [] no_value no_enumerators) None 6))) no_words) refl,
                      ((All-nil _, tt, ((λ is. absurd cc), (All-nil _, tt, tt))), tt),
                      refl,
                      tt,
                      All-nil _,
                      tt,
                      tt,
                      refl,
                    ),
                    tt,
                  ),
                  refl,
                  All-nil _,
                  (
                    (
                      is_mix_2 (more_words (basic (record { token = 10; keyword = words.Int })) no_words) refl,
                      (tt, tt),
                      refl,
                      (All-nil _, tt, refl, tt, All-nil _, tt, tt, refl),
                      tt,
                      λ e m. absurd cc,
                    ),
                    tt,
                  ),
                  refl,
                )) (All-nil _);
            low = leb-true _ 500 refl;
          });
    };
    bad = record { name = 1; kind = Value; scopes = _; there = (6, ltb-true 6 _ refl, refl); other = refl };
  }

  pub float_behind_long_bad : MayHaveNoMix false float_behind_long 1
  float_behind_long_bad = record {
    keyword = words.Float;
    is = refl;
    items =
        ((decl_item (decl_declaration (declaration [] (more_words (basic (record { token = 0; keyword = words.Long }))
        (more_words (basic (record { token = 1; keyword = words.Float })) no_words)) no_init_declrs 2))) ∷ []);
    tree = record {
      behind = ((kinds.Punct signs.Semicolon) ∷ kinds.End ∷ []);
      spelled = record { last = 3; spelled = refl };
      derived =
          All-cons (DerivesItem (numbered (take 2 float_behind_long
          ++ ((kinds.Punct signs.Semicolon) ∷ kinds.End ∷ []))))
          (decl_item (decl_declaration (declaration [] (more_words (basic (record { token = 0; keyword = words.Long }))
          (more_words (basic (record { token = 1; keyword = words.Float })) no_words)) no_init_declrs 2))) ([])
          (((λ is. absurd cc), (refl, (refl, tt)), tt, tt, tt)) (All-nil _);
    };
    bad = record {
      scopes = _;
      front = (more_words (basic (record { token = 0; keyword = words.Long })) no_words);
      word = (basic (record { token = 1; keyword = words.Float }));
      more = no_words;
      there = (0, ltb-true 0 _ refl, refl);
      first = refl;
      none =
          λ begun.
          let e : goes_on (more_words (basic (record { token = 0; keyword = words.Long })) no_words)
          (class_of (basic (record { token = 1; keyword = words.Float }))) ≡ true =
          goes (more_words (basic (record { token = 0; keyword = words.Long })) no_words)
          (basic (record { token = 1; keyword = words.Float })) begun.0 begun.1 in
          absurd cc;
    };
  }

  pub int_behind_typedef_name_bad : MayHaveNoMix false int_behind_typedef_name 11
  int_behind_typedef_name_bad = record {
    keyword = words.Int;
    is = refl;
    items =
        ((decl_item
        (decl_declaration (declaration [] (more_words (storage (record { token = 0; keyword = words.Typedef }))
        (more_words (basic (record { token = 1; keyword = words.Int })) no_words))
        (more_init_declrs [] (declr_name 2 0) None [] no_init no_init_declrs) 3)))
        ∷ (function_item [] (more_words (basic (record { token = 4; keyword = words.Void })) no_words) (params
        (declr_name 5 1) 6 (more_params (more_words (basic (record { token = 7; keyword = words.Void })) no_words)
        no_declr [] no_params) None 8) [] 9 (more_block_items (block_decl
        (decl_declaration (declaration [] (more_words (typedef_name (record { token = 10; name = 0 })) (more_words
        (basic (record { token = 11; keyword = words.Int })) no_words)) no_init_declrs 12))) no_block_items) 13) ∷ []);
    tree = record {
      behind = ((kinds.Punct signs.Semicolon) ∷ (kinds.Punct signs.CloseBrace) ∷ kinds.End ∷ []);
      spelled = record { last = 14; spelled = refl };
      derived =
          All-cons (DerivesItem (numbered (take 12 int_behind_typedef_name
          ++ ((kinds.Punct signs.Semicolon) ∷ (kinds.Punct signs.CloseBrace) ∷ kinds.End ∷ [])))) (decl_item
          (decl_declaration (declaration [] (more_words (storage (record { token = 0; keyword = words.Typedef }))
          (more_words (basic (record { token = 1; keyword = words.Int })) no_words))
          (more_init_declrs [] (declr_name 2 0) None [] no_init no_init_declrs) 3)))
          ((function_item [] (more_words (basic (record { token = 4; keyword = words.Void })) no_words) (params
          (declr_name 5 1) 6 (more_params (more_words (basic (record { token = 7; keyword = words.Void })) no_words)
          no_declr [] no_params) None 8) [] 9 (more_block_items (block_decl
          (decl_declaration (declaration [] (more_words (typedef_name (record { token = 10; name = 0 })) (more_words
          (basic (record { token = 11; keyword = words.Int })) no_words)) no_init_declrs 12))) no_block_items) 13) ∷ [])
          (((λ is. absurd cc), (refl, (refl, tt)), refl, (All-nil _, tt, refl, tt, All-nil _, tt, tt), tt))
          (All-cons (DerivesItem (numbered (take 12 int_behind_typedef_name
          ++ ((kinds.Punct signs.Semicolon) ∷ (kinds.Punct signs.CloseBrace) ∷ kinds.End ∷ [])))) (function_item []
          (more_words (basic (record { token = 4; keyword = words.Void })) no_words) (params (declr_name 5 1) 6
          (more_params (more_words (basic (record { token = 7; keyword = words.Void })) no_words) no_declr
          [] no_params) None 8) [] 9 (more_block_items (block_decl (decl_declaration
          (declaration [] (more_words (typedef_name (record { token = 10; name = 0 })) (more_words (basic
          (record { token = 11; keyword = words.Int })) no_words)) no_init_declrs 12))) no_block_items) 13) ([]) ((
            (λ is. absurd cc),
            (refl, tt),
            refl,
            (tt, refl, refl, ((λ is. absurd cc), (refl, tt), refl, tt, All-nil _, tt), tt),
            refl,
            All-nil _,
            (((λ is. absurd cc), (tt, (refl, tt)), tt, tt, tt), tt),
            refl,
          )) (All-nil _));
    };
    bad = record {
      scopes = _;
      front = (more_words (typedef_name (record { token = 10; name = 0 })) no_words);
      word = (basic (record { token = 11; keyword = words.Int }));
      more = no_words;
      there = (5, ltb-true 5 _ refl, refl);
      first = refl;
      none =
          λ begun.
          let e : goes_on (more_words (typedef_name (record { token = 10; name = 0 })) no_words)
          (class_of (basic (record { token = 11; keyword = words.Int }))) ≡ true =
          goes (more_words (typedef_name (record { token = 10; name = 0 })) no_words)
          (basic (record { token = 11; keyword = words.Int })) begun.0 begun.1 in
          absurd cc;
    };
  }

  pub sum_assigned_bad : MayHaveNoUnaryLeft false sum_assigned 12
  sum_assigned_bad = record {
    sign = signs.Equal;
    is = refl;
    assigns = refl;
    items =
        ((decl_item (decl_declaration (declaration [] (more_words (basic (record { token = 0; keyword = words.Int }))
        no_words) (more_init_declrs [] (declr_name 1 0) None [] no_init no_init_declrs) 2)))
        ∷ (function_item [] (more_words (basic (record { token = 3; keyword = words.Void })) no_words) (params
        (declr_name 4 1) 5 (more_params (more_words (basic (record { token = 6; keyword = words.Void })) no_words)
        no_declr [] no_params) None 7) [] 8 (more_block_items (block_stmt (expr_stmt
        (some_expr (operation (name_use 9 0) (binary signs.Plus) 10 (number_use 11))) 12)) no_block_items) 13) ∷ []);
    tree = record {
      behind = ((kinds.Punct signs.Semicolon) ∷ (kinds.Punct signs.CloseBrace) ∷ kinds.End ∷ []);
      spelled = record { last = 14; spelled = refl };
      derived =
          trees _ ((decl_item
          (decl_declaration (declaration [] (more_words (basic (record { token = 0; keyword = words.Int })) no_words)
          (more_init_declrs [] (declr_name 1 0) None [] no_init no_init_declrs) 2)))
          ∷ (function_item [] (more_words (basic (record { token = 3; keyword = words.Void })) no_words) (params
          (declr_name 4 1) 5 (more_params (more_words (basic (record { token = 6; keyword = words.Void })) no_words)
          no_declr [] no_params) None 7) [] 8 (more_block_items (block_stmt (expr_stmt (some_expr
          (operation (name_use 9 0) (binary signs.Plus) 10 (number_use 11))) 12)) no_block_items) 13) ∷ []) (record {
            parts = All-cons (IsItem (numbered (take 12 sum_assigned ++ ((kinds.Punct signs.Semicolon)
                ∷ (kinds.Punct signs.CloseBrace) ∷ kinds.End ∷ [])))) (decl_item (decl_declaration
                (declaration [] (more_words (basic (record { token = 0; keyword = words.Int })) no_words)
                (more_init_declrs [] (declr_name 1 0) None [] no_init no_init_declrs) 2))) ((function_item []
                (more_words (basic (record { token = 3; keyword = words.Void })) no_words) (params (declr_name 4 1) 5
                (more_params (more_words (basic (record { token = 6; keyword = words.Void })) no_words) no_declr
                [] no_params) None 7) [] 8 (more_block_items (block_stmt (expr_stmt (some_expr
                (operation (name_use 9 0) (binary signs.Plus) 10 (number_use 11))) 12)) no_block_items) 13) ∷ []) ((
                  is_mix_2 (more_words (basic (record { token = 0; keyword = words.Int })) no_words) refl,
                  (tt, tt),
                  refl,
                  (All-nil _, tt, refl, tt, All-nil _, tt, tt, refl),
                  tt,
                  λ e m. absurd cc,
                )) (All-cons (IsItem (numbered (take 12 sum_assigned ++ ((kinds.Punct signs.Semicolon)
                ∷ (kinds.Punct signs.CloseBrace) ∷ kinds.End ∷ [])))) (function_item []
                (more_words (basic (record { token = 3; keyword = words.Void })) no_words) (params (declr_name 4 1) 5
                (more_params (more_words (basic (record { token = 6; keyword = words.Void })) no_words) no_declr
                [] no_params) None 7) [] 8 (more_block_items (block_stmt (expr_stmt (some_expr
                (operation (name_use 9 0) (binary signs.Plus) 10 (number_use 11))) 12)) no_block_items) 13) ([]) ((
                  is_mix_2 (more_words (basic (record { token = 3; keyword = words.Void })) no_words) refl,
                  (tt, tt),
                  refl,
                  no_typedef,
                  (
                    tt,
                    refl,
                    refl,
                    (
                      is_mix_2 (more_words (basic (record { token = 6; keyword = words.Void })) no_words) refl,
                      (tt, tt),
                      refl,
                      tt,
                      All-nil _,
                      tt,
                      tt,
                      refl,
                    ),
                    tt,
                  ),
                  refl,
                  All-nil _,
                  ((tt, tt, (leb-true 1 9 refl), tt, (leb-true 11 16 refl), (leb-true 12 16 refl)), tt),
                  refl,
                )) (All-nil _));
            low = leb-true _ 500 refl;
          });
    };
    bad =
        record {
          scopes = _;
          left = (operation (name_use 9 0) (binary signs.Plus) 10 (number_use 11));
          there = (
            5,
            ltb-true 5 _ refl,
            refl,
          );
          low = ltb-true _ 14 refl;
          ends = refl;
        };
  }

  pub conditional_assigned_bad : MayHaveNoUnaryLeft false conditional_assigned 8
  conditional_assigned_bad = record {
    sign = signs.Equal;
    is = refl;
    assigns = refl;
    items =
        ((decl_item (decl_declaration (declaration [] (more_words (basic (record { token = 0; keyword = words.Int }))
        no_words) (more_init_declrs [] (declr_name 1 0) None [] (some_init 2 (init_value
        (operation (name_use 3 1) (cond (some_expr (name_use 5 1)) 6) 4 (name_use 7 1)))) no_init_declrs) 8))) ∷ []);
    tree = record {
      behind = ((kinds.Punct signs.Semicolon) ∷ kinds.End ∷ []);
      spelled = record { last = 9; spelled = refl };
      derived =
          trees _ ((decl_item
          (decl_declaration (declaration [] (more_words (basic (record { token = 0; keyword = words.Int })) no_words)
          (more_init_declrs [] (declr_name 1 0) None [] (some_init 2 (init_value (operation (name_use 3 1)
          (cond (some_expr (name_use 5 1)) 6) 4 (name_use 7 1)))) no_init_declrs) 8))) ∷ []) (record {
            parts = All-cons
                (IsItem (numbered (take 8 conditional_assigned ++ ((kinds.Punct signs.Semicolon) ∷ kinds.End ∷ []))))
                (decl_item (decl_declaration
                (declaration [] (more_words (basic (record { token = 0; keyword = words.Int })) no_words)
                (more_init_declrs [] (declr_name 1 0) None [] (some_init 2 (init_value (operation (name_use 3 1)
                (cond (some_expr (name_use 5 1)) 6) 4 (name_use 7 1)))) no_init_declrs) 8))) ([]) ((
                  is_mix_2 (more_words (basic (record { token = 0; keyword = words.Int })) no_words) refl,
                  (tt, tt),
                  refl,
                  (
                    All-nil _,
                    tt,
                    refl,
                    tt,
                    All-nil _,
                    ((tt, tt, tt, tt, (leb-true 3 16 refl), (leb-true 2 16 refl)), (leb-true 1 2 refl)),
                    tt,
                    refl,
                  ),
                  tt,
                  λ e m. absurd cc,
                )) (All-nil _);
            low = leb-true _ 500 refl;
          });
    };
    bad =
        record {
          scopes = _;
          left = (operation (name_use 3 1) (cond (some_expr (name_use 5 1)) 6) 4 (name_use 7 1));
          there = (2, ltb-true 2 _ refl, refl);
          low = ltb-true _ 14 refl;
          ends = refl;
        };
  }

  pub cast_assigned_bad : MayHaveNoUnaryLeft false cast_assigned 13
  cast_assigned_bad = record {
    sign = signs.Equal;
    is = refl;
    assigns = refl;
    items =
        ((decl_item (decl_declaration (declaration [] (more_words (basic (record { token = 0; keyword = words.Int }))
        no_words) (more_init_declrs [] (declr_name 1 0) None [] no_init no_init_declrs) 2)))
        ∷ (function_item [] (more_words (basic (record { token = 3; keyword = words.Void })) no_words) (params
        (declr_name 4 1) 5 (more_params (more_words (basic (record { token = 6; keyword = words.Void })) no_words)
        no_declr [] no_params) None 7) [] 8 (more_block_items (block_stmt (expr_stmt (some_expr (cast 9
        (more_words (basic (record { token = 10; keyword = words.Int })) no_words) no_declr 11 (name_use 12 0))) 13))
        no_block_items) 14) ∷ []);
    tree = record {
      behind = ((kinds.Punct signs.Semicolon) ∷ (kinds.Punct signs.CloseBrace) ∷ kinds.End ∷ []);
      spelled = record { last = 15; spelled = refl };
      derived =
          trees _ ((decl_item
          (decl_declaration (declaration [] (more_words (basic (record { token = 0; keyword = words.Int })) no_words)
          (more_init_declrs [] (declr_name 1 0) None [] no_init no_init_declrs) 2))) ∷ (function_item []
          (more_words (basic (record { token = 3; keyword = words.Void })) no_words) (params (declr_name 4 1) 5
          (more_params (more_words (basic (record { token = 6; keyword = words.Void })) no_words) no_declr
          [] no_params) None 7) [] 8 (more_block_items (block_stmt (expr_stmt (some_expr (cast 9 (more_words (basic
          (record { token = 10; keyword = words.Int })) no_words) no_declr 11 (name_use 12 0))) 13)) no_block_items) 14)
          ∷ []) (record {
            parts = All-cons (IsItem (numbered (take 13 cast_assigned ++ ((kinds.Punct signs.Semicolon)
                ∷ (kinds.Punct signs.CloseBrace) ∷ kinds.End ∷ [])))) (decl_item (decl_declaration
                (declaration [] (more_words (basic (record { token = 0; keyword = words.Int })) no_words)
                (more_init_declrs [] (declr_name 1 0) None [] no_init no_init_declrs) 2))) ((function_item []
                (more_words (basic (record { token = 3; keyword = words.Void })) no_words) (params (declr_name 4 1) 5
                (more_params (more_words (basic (record { token = 6; keyword = words.Void })) no_words) no_declr
                [] no_params) None 7) [] 8 (more_block_items (block_stmt
                (expr_stmt (some_expr (cast 9 (more_words (basic (record { token = 10; keyword = words.Int })) no_words)
                no_declr 11 (name_use 12 0))) 13)) no_block_items) 14) ∷ []) ((
                  is_mix_2 (more_words (basic (record { token = 0; keyword = words.Int })) no_words) refl,
                  (tt, tt),
                  refl,
                  (All-nil _, tt, refl, tt, All-nil _, tt, tt, refl),
                  tt,
                  λ e m. absurd cc,
                )) (All-cons (IsItem (numbered (take 13 cast_assigned ++ ((kinds.Punct signs.Semicolon)
                ∷ (kinds.Punct signs.CloseBrace) ∷ kinds.End ∷ [])))) (function_item []
                (more_words (basic (record { token = 3; keyword = words.Void })) no_words) (params (declr_name 4 1) 5
                (more_params (more_words (basic (record { token = 6; keyword = words.Void })) no_words) no_declr
                [] no_params) None 7) [] 8 (more_block_items (block_stmt (expr_stmt (some_expr
                (cast 9 (more_words (basic (record { token = 10; keyword = words.Int })) no_words) no_declr 11
                (name_use 12 0))) 13)) no_block_items) 14) ([]) ((
                  is_mix_2 (more_words (basic (record { token = 3; keyword = words.Void })) no_words) refl,
                  (tt, tt),
                  refl,
                  no_typedef,
                  (
                    tt,
                    refl,
                    refl,
                    (
                      is_mix_2 (more_words (basic (record { token = 6; keyword = words.Void })) no_words) refl,
                      (tt, tt),
                      refl,
                      tt,
                      All-nil _,
                      tt,
                      tt,
                      refl,
                    ),
                    tt,
                  ),
                  refl,
                  All-nil _,
                  (
                    (
                      is_mix_2 (more_words (basic (record { token = 10; keyword = words.Int })) no_words) refl,
                      (tt, tt, tt),
                      tt,
                      tt,
                      (leb-true 13 16 refl),
                    ),
                    tt,
                  ),
                  refl,
                )) (All-nil _));
            low = leb-true _ 500 refl;
          });
    };
    bad =
        record {
          scopes = _;
          left = (cast 9 (more_words (basic (record { token = 10; keyword = words.Int })) no_words) no_declr 11
              (name_use 12 0));
          there = (5, ltb-true 5 _ refl, refl);
          low = ltb-true _ 14 refl;
          ends = refl;
        };
  }
