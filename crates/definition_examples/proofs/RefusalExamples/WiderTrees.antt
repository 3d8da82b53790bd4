-- Trees of the sources of wider C: a unit that begins with the tokens before the refused one, and a tree that breaks a
-- rule at it.
use Rattle.std.specs.Prelude.{◌++◌, take, is_some, All, Contains, Option, None, Some, nat_le, Bool}
use Rattle.std.proofs.lemmas.Bool.{ltb-true, leb-true}
use Rattle.std.proofs.lemmas.List.Elements.{All-nil, All-cons}
use Rattle.std.proofs.Common.{◌≡◌, ◌<◌, ℕ, true, false, List, [], ◌∷◌, arith, refl}
use Rattle.c_words.specs.declared.kinds.TokenKind.{TokenKind}
use Rattle.c_words.specs.declared.kinds.TokenKind.TheVariants as kinds
use Rattle.c_words.specs.declared.kinds.Keyword.{Keyword}
use Rattle.c_words.specs.declared.kinds.Keyword.TheVariants as words
use Rattle.c_words.specs.declared.kinds.Punct.TheVariants as signs
use Rattle.c_tree.specs.Tree.{SpecWords, operation, name_use, number_use, binary, no_expr, no_words, more_words, storage, basic, struct_type, enum_type, typeof_value, typeof_type, auto_word, some_body, no_struct_items, more_struct_items, member, no_mem_declrs, more_mem_declrs, named, no_value, enum_of, some_enum_body, no_enumerators, more_enumerators, declr_name, array, params, identifiers, no_declr, no_size, no_params, more_params, init_value, init_braced, init_list, no_init_items, more_init_items, no_desigs, more_desigs, member_desig, range_desig, no_init, some_init, no_init_declrs, more_init_declrs, declaration, decl_declaration, no_block_items, more_block_items, block_decl, block_stmt, expr_stmt, goto_value}
use Rattle.c_tree.specs.Unit.{Item, decl_item, function_item, old_function_item, IsItem, items_text, unit_height}
use Rattle.c_tree.specs.WellFormed.{IsDeclaration}
use Rattle.c_tree.specs.Specifiers.{IsMix}
use Rattle.c_specs.specs.Mix.{is_whole_mix, goes_on, class_of}
use Rattle.c_specs.specs.Laws.{WholeAreMixes, MixesGoOn}
use Rattle.typedef_scope.specs.declared.kind.Kind.TheVariants.{Value, Constant}
use Rattle.c_units.specs.HeldScopes.{HeldScopes, file_scope}
use Rattle.c_units.specs.Units.{items_scopes, numbered}
use Rattle.c_units.specs.FirstBad.{BeginsUnit}
use Rattle.refusal_rules.specs.Grammar.{DerivesItem}
use Rattle.refusal_rules.specs.Allowed.{MayHaveNoMix, MayHaveOtherKind, MayHaveNoUnaryLeft}
use Rattle.refusal_rules.specs.Laws.{UnitsAreTrees}
use Rattle.definition_examples.specs.RefusalExamples.Wider.{identifiers_declared, two_autos, nothing_in_typeof, labels_behind_statement, goto_nothing, semicolon_among_parameters, typedef_as_identifier, range_without_end, two_designators, typeof_behind_int, int_behind_atomic, two_complexes, auto_named_as_enumerator, enumerator_named_as_parameter, begin_of_range_assigned, end_of_range_assigned, identifiers_in_narrow_c}

-- a unit whose tokens are these, which was worked out
unit_from : (wide : Bool) (before behind : List TokenKind) (items : List Item) (last : ℕ) →
    numbered (before ++ behind)
    ≡ items_text (numbered (before ++ behind)) items (record { kind = kinds.End; at = last } ∷ []) →
    All (IsItem (numbered (before ++ behind))) items → nat_le (unit_height items) 500 ≡ true →
    is_some (items_scopes items (file_scope wide)) ≡ true → BeginsUnit wide before
unit_from wide before behind items last spelled parts low known = on (items_scopes items (file_scope wide)) refl known
  where
    on : (scopes : Option HeldScopes) → items_scopes items (file_scope wide) ≡ scopes → is_some scopes ≡ true
        → BeginsUnit wide before
    on None is some = absurd cc
    on (Some scopes) is some = record {
      behind = behind;
      items = items;
      formed = record {
        tokens = record { last = last; spelled = spelled };
        rules = record { parts = parts; low = leb-true (unit_height items) 500 low };
        scopes = scopes;
        named = is;
      };
    }

no_typedef : ¬ Contains {X = Keyword} [] words.Typedef
no_typedef c = let h : c.0 < 0 = c.1 in absurd (omega arith)

module _ (whole_are : WholeAreMixes) where
  is_mix : (ws : SpecWords) → is_whole_mix ws ≡ true → IsMix ws
  is_mix ws = (whole_are ws).0

  -- int f(a) { }
  pub identifiers_declared_front : BeginsUnit true (take 5 identifiers_declared)
  identifiers_declared_front =
      unit_from true (take 5 identifiers_declared) ((kinds.Punct signs.OpenBrace) ∷ (kinds.Punct signs.CloseBrace)
      ∷ kinds.End ∷ []) ((old_function_item [] (more_words (basic (record { token = 0; keyword = words.Int })) no_words)
      (identifiers (declr_name 1 0) 2 ((record { token = 3; name = 1 }) ∷ []) 4) [] [] 5 no_block_items 6) ∷ []) 7 refl
      (All-cons (IsItem (numbered (take 5 identifiers_declared
      ++ ((kinds.Punct signs.OpenBrace) ∷ (kinds.Punct signs.CloseBrace) ∷ kinds.End ∷ []))))
      (old_function_item [] (more_words (basic (record { token = 0; keyword = words.Int })) no_words)
      (identifiers (declr_name 1 0) 2 ((record { token = 3; name = 1 }) ∷ []) 4) [] [] 5 no_block_items 6) [] (
        is_mix (more_words (basic (record { token = 0; keyword = words.Int })) no_words) refl,
        (tt, tt),
        refl,
        no_typedef,
        (tt, refl, (λ is. absurd cc)),
        refl,
        All-nil _,
        All-nil _,
        tt,
        tt,
        refl,
      ) (All-nil _)) refl refl

  -- void f(void) { __auto_type a = 1; }
  pub two_autos_front : BeginsUnit true (take 10 two_autos)
  two_autos_front =
      unit_from true (take 10 two_autos) ((kinds.Punct signs.Semicolon) ∷ (kinds.Punct signs.CloseBrace) ∷ kinds.End
      ∷ []) ((function_item [] (more_words (basic (record { token = 0; keyword = words.Void })) no_words)
      (params (declr_name 1 0) 2 (more_params (more_words (basic (record { token = 3; keyword = words.Void })) no_words)
      no_declr [] no_params) None 4) [] 5 (more_block_items (block_decl
      (decl_declaration (declaration [] (more_words (auto_word 6) no_words) (more_init_declrs [] (declr_name 7 1) None
      [] (some_init 8 (init_value (number_use 9))) no_init_declrs) 10))) no_block_items) 11) ∷ []) 12 refl
      (All-cons (IsItem (numbered (take 10 two_autos ++ ((kinds.Punct signs.Semicolon) ∷ (kinds.Punct signs.CloseBrace)
      ∷ kinds.End ∷ [])))) (function_item [] (more_words (basic (record { token = 0; keyword = words.Void })) no_words)
      (params (declr_name 1 0) 2 (more_params (more_words (basic (record { token = 3; keyword = words.Void })) no_words)
      no_declr [] no_params) None 4) [] 5 (more_block_items
      (block_decl (decl_declaration (declaration [] (more_words (auto_word 6) no_words) (more_init_declrs []
      (declr_name 7 1) None [] (some_init 8 (init_value (number_use 9))) no_init_declrs) 10))) no_block_items) 11) [] (
        is_mix (more_words (basic (record { token = 0; keyword = words.Void })) no_words) refl,
        (tt, tt),
        refl,
        no_typedef,
        (
          tt,
          refl,
          refl,
          (
            is_mix (more_words (basic (record { token = 3; keyword = words.Void })) no_words) refl,
            (tt, tt),
            refl,
            tt,
            All-nil _,
            tt,
            tt,
            refl,
          ),
          tt,
        ),
        refl,
        All-nil _,
        (
          (
            is_mix (more_words (auto_word 6) no_words) refl,
            (tt, tt),
            refl,
            (All-nil _, tt, refl, tt, All-nil _, (tt, (leb-true 1 16 refl)), tt, refl),
            no_typedef,
            λ e m. absurd cc,
          ),
          tt,
        ),
        refl,
      ) (All-nil _)) refl refl

  -- typeof(1) x;
  pub nothing_in_typeof_front : BeginsUnit true (take 2 nothing_in_typeof)
  nothing_in_typeof_front =
      unit_from true (take 2 nothing_in_typeof)
      (kinds.Number ∷ (kinds.Punct signs.CloseParen) ∷ (kinds.Name 0) ∷ (kinds.Punct signs.Semicolon) ∷ kinds.End ∷ [])
      ((decl_item (decl_declaration (declaration [] (more_words (typeof_value 0 1 (number_use 2) 3) no_words)
      (more_init_declrs [] (declr_name 4 0) None [] no_init no_init_declrs) 5))) ∷ []) 6 refl
      (All-cons (IsItem (numbered (take 2 nothing_in_typeof ++ (kinds.Number ∷ (kinds.Punct signs.CloseParen)
      ∷ (kinds.Name 0) ∷ (kinds.Punct signs.Semicolon) ∷ kinds.End ∷ []))))
      (decl_item (decl_declaration (declaration [] (more_words (typeof_value 0 1 (number_use 2) 3) no_words)
      (more_init_declrs [] (declr_name 4 0) None [] no_init no_init_declrs) 5))) [] (
        is_mix (more_words (typeof_value 0 1 (number_use 2) 3) no_words) refl,
        (tt, tt),
        refl,
        (All-nil _, tt, refl, tt, All-nil _, tt, tt, refl),
        tt,
        λ e m. absurd cc,
      ) (All-nil _)) refl refl

  -- void f(void) { ; }
  pub labels_behind_statement_front : BeginsUnit true (take 7 labels_behind_statement)
  labels_behind_statement_front =
      unit_from true (take 7 labels_behind_statement) ((kinds.Punct signs.CloseBrace) ∷ kinds.End ∷ []) ((function_item
      [] (more_words (basic (record { token = 0; keyword = words.Void })) no_words) (params (declr_name 1 0) 2
      (more_params (more_words (basic (record { token = 3; keyword = words.Void })) no_words) no_declr
      [] no_params) None 4) [] 5 (more_block_items (block_stmt (expr_stmt no_expr 6)) no_block_items) 7) ∷ []) 8 refl
      (All-cons
      (IsItem (numbered (take 7 labels_behind_statement ++ ((kinds.Punct signs.CloseBrace) ∷ kinds.End ∷ []))))
      (function_item [] (more_words (basic (record { token = 0; keyword = words.Void })) no_words)
      (params (declr_name 1 0) 2 (more_params (more_words (basic (record { token = 3; keyword = words.Void })) no_words)
      no_declr [] no_params) None 4) [] 5 (more_block_items (block_stmt (expr_stmt no_expr 6)) no_block_items) 7) [] (
        is_mix (more_words (basic (record { token = 0; keyword = words.Void })) no_words) refl,
        (tt, tt),
        refl,
        no_typedef,
        (
          tt,
          refl,
          refl,
          (
            is_mix (more_words (basic (record { token = 3; keyword = words.Void })) no_words) refl,
            (tt, tt),
            refl,
            tt,
            All-nil _,
            tt,
            tt,
            refl,
          ),
          tt,
        ),
        refl,
        All-nil _,
        (tt, tt),
        refl,
      ) (All-nil _)) refl refl

  -- void f(void) { goto *1; }
  pub goto_nothing_front : BeginsUnit true (take 8 goto_nothing)
  goto_nothing_front =
      unit_from true (take 8 goto_nothing) (kinds.Number ∷ (kinds.Punct signs.Semicolon)
      ∷ (kinds.Punct signs.CloseBrace) ∷ kinds.End ∷ []) ((function_item []
      (more_words (basic (record { token = 0; keyword = words.Void })) no_words) (params (declr_name 1 0) 2 (more_params
      (more_words (basic (record { token = 3; keyword = words.Void })) no_words) no_declr [] no_params) None 4) [] 5
      (more_block_items (block_stmt (goto_value 6 7 (number_use 8) 9)) no_block_items) 10) ∷ []) 11 refl
      (All-cons (IsItem (numbered (take 8 goto_nothing ++ (kinds.Number ∷ (kinds.Punct signs.Semicolon)
      ∷ (kinds.Punct signs.CloseBrace) ∷ kinds.End ∷ [])))) (function_item []
      (more_words (basic (record { token = 0; keyword = words.Void })) no_words) (params (declr_name 1 0) 2 (more_params
      (more_words (basic (record { token = 3; keyword = words.Void })) no_words) no_declr [] no_params) None 4) [] 5
      (more_block_items (block_stmt (goto_value 6 7 (number_use 8) 9)) no_block_items) 10) [] (
        is_mix (more_words (basic (record { token = 0; keyword = words.Void })) no_words) refl,
        (tt, tt),
        refl,
        no_typedef,
        (
          tt,
          refl,
          refl,
          (
            is_mix (more_words (basic (record { token = 3; keyword = words.Void })) no_words) refl,
            (tt, tt),
            refl,
            tt,
            All-nil _,
            tt,
            tt,
            refl,
          ),
          tt,
        ),
        refl,
        All-nil _,
        (tt, tt),
        refl,
      ) (All-nil _)) refl refl

  -- int f(a) int a; { }
  pub semicolon_among_parameters_front : BeginsUnit true (take 8 semicolon_among_parameters)
  semicolon_among_parameters_front =
      unit_from true (take 8 semicolon_among_parameters) ((kinds.Punct signs.OpenBrace) ∷ (kinds.Punct signs.CloseBrace)
      ∷ kinds.End ∷ []) ((old_function_item [] (more_words (basic (record { token = 0; keyword = words.Int })) no_words)
      (identifiers (declr_name 1 0) 2 ((record { token = 3; name = 1 }) ∷ []) 4) []
      ((declaration [] (more_words (basic (record { token = 5; keyword = words.Int })) no_words)
      (more_init_declrs [] (declr_name 6 1) None [] no_init no_init_declrs) 7) ∷ []) 8 no_block_items 9) ∷ []) 10 refl
      (All-cons (IsItem (numbered (take 8 semicolon_among_parameters
      ++ ((kinds.Punct signs.OpenBrace) ∷ (kinds.Punct signs.CloseBrace) ∷ kinds.End ∷ []))))
      (old_function_item [] (more_words (basic (record { token = 0; keyword = words.Int })) no_words)
      (identifiers (declr_name 1 0) 2 ((record { token = 3; name = 1 }) ∷ []) 4) []
      ((declaration [] (more_words (basic (record { token = 5; keyword = words.Int })) no_words)
      (more_init_declrs [] (declr_name 6 1) None [] no_init no_init_declrs) 7) ∷ []) 8 no_block_items 9) [] (
        is_mix (more_words (basic (record { token = 0; keyword = words.Int })) no_words) refl,
        (tt, tt),
        refl,
        no_typedef,
        (tt, refl, (λ is. absurd cc)),
        refl,
        All-nil _,
        All-cons (IsDeclaration (numbered (take 8 semicolon_among_parameters
            ++ ((kinds.Punct signs.OpenBrace) ∷ (kinds.Punct signs.CloseBrace) ∷ kinds.End ∷ []))))
            (declaration [] (more_words (basic (record { token = 5; keyword = words.Int })) no_words)
            (more_init_declrs [] (declr_name 6 1) None [] no_init no_init_declrs) 7) [] (
              is_mix (more_words (basic (record { token = 5; keyword = words.Int })) no_words) refl,
              (tt, tt),
              refl,
              (All-nil _, tt, refl, tt, All-nil _, tt, tt, refl),
              tt,
              λ e m. absurd cc,
            ) (All-nil _),
        tt,
        tt,
        refl,
      ) (All-nil _)) refl refl

  -- typedef int T; int f(a, b) { }
  pub typedef_as_identifier_front : BeginsUnit true (take 9 typedef_as_identifier)
  typedef_as_identifier_front =
      unit_from true (take 9 typedef_as_identifier) ((kinds.Name 3) ∷ (kinds.Punct signs.CloseParen)
      ∷ (kinds.Punct signs.OpenBrace) ∷ (kinds.Punct signs.CloseBrace) ∷ kinds.End ∷ []) ((decl_item
      (decl_declaration (declaration [] (more_words (storage (record { token = 0; keyword = words.Typedef }))
      (more_words (basic (record { token = 1; keyword = words.Int })) no_words))
      (more_init_declrs [] (declr_name 2 0) None [] no_init no_init_declrs) 3)))
      ∷ (old_function_item [] (more_words (basic (record { token = 4; keyword = words.Int })) no_words)
      (identifiers (declr_name 5 1) 6 ((record { token = 7; name = 2 }) ∷ (record { token = 9; name = 3 }) ∷ []) 10) []
      [] 11 no_block_items 12) ∷ []) 13 refl
      (All-cons (IsItem (numbered (take 9 typedef_as_identifier ++ ((kinds.Name 3) ∷ (kinds.Punct signs.CloseParen)
      ∷ (kinds.Punct signs.OpenBrace) ∷ (kinds.Punct signs.CloseBrace) ∷ kinds.End ∷ []))))
      (decl_item (decl_declaration (declaration [] (more_words (storage (record { token = 0; keyword = words.Typedef }))
      (more_words (basic (record { token = 1; keyword = words.Int })) no_words))
      (more_init_declrs [] (declr_name 2 0) None [] no_init no_init_declrs) 3))) ((old_function_item []
      (more_words (basic (record { token = 4; keyword = words.Int })) no_words) (identifiers (declr_name 5 1) 6
      ((record { token = 7; name = 2 }) ∷ (record { token = 9; name = 3 }) ∷ []) 10) [] [] 11 no_block_items 12) ∷ []) (
        is_mix (more_words (storage (record { token = 0; keyword = words.Typedef }))
            (more_words (basic (record { token = 1; keyword = words.Int })) no_words)) refl,
        (refl, (tt, tt)),
        refl,
        (All-nil _, tt, refl, tt, All-nil _, tt, tt, refl),
        tt,
        λ e m. absurd cc,
      ) (All-cons (IsItem (numbered (take 9 typedef_as_identifier ++ ((kinds.Name 3) ∷ (kinds.Punct signs.CloseParen)
      ∷ (kinds.Punct signs.OpenBrace) ∷ (kinds.Punct signs.CloseBrace) ∷ kinds.End ∷ []))))
      (old_function_item [] (more_words (basic (record { token = 4; keyword = words.Int })) no_words) (identifiers
      (declr_name 5 1) 6 ((record { token = 7; name = 2 }) ∷ (record { token = 9; name = 3 }) ∷ []) 10) []
      [] 11 no_block_items 12) [] (
        is_mix (more_words (basic (record { token = 4; keyword = words.Int })) no_words) refl,
        (tt, tt),
        refl,
        no_typedef,
        (tt, refl, (λ is. absurd cc)),
        refl,
        All-nil _,
        All-nil _,
        tt,
        tt,
        refl,
      ) (All-nil _))) refl refl

  -- int a[] = { [1 ... 1] = 1 };
  pub range_without_end_front : BeginsUnit true (take 9 range_without_end)
  range_without_end_front =
      unit_from true (take 9 range_without_end)
      (kinds.Number ∷ (kinds.Punct signs.CloseBracket) ∷ (kinds.Punct signs.Equal) ∷ kinds.Number
      ∷ (kinds.Punct signs.CloseBrace) ∷ (kinds.Punct signs.Semicolon) ∷ kinds.End ∷ []) ((decl_item
      (decl_declaration (declaration [] (more_words (basic (record { token = 0; keyword = words.Int })) no_words)
      (more_init_declrs [] (array (declr_name 1 0) 2 [] no_size 3) None [] (some_init 4 (init_braced
      (init_list 5 (more_init_items (more_desigs (range_desig 6 (number_use 7) 8 (number_use 9) 10) no_desigs) (Some 11)
      (init_value (number_use 12)) no_init_items) None 13))) no_init_declrs) 14))) ∷ []) 15 refl
      (All-cons (IsItem (numbered
      (take 9 range_without_end ++ (kinds.Number ∷ (kinds.Punct signs.CloseBracket) ∷ (kinds.Punct signs.Equal)
      ∷ kinds.Number ∷ (kinds.Punct signs.CloseBrace) ∷ (kinds.Punct signs.Semicolon) ∷ kinds.End ∷ [])))) (decl_item
      (decl_declaration (declaration [] (more_words (basic (record { token = 0; keyword = words.Int })) no_words)
      (more_init_declrs [] (array (declr_name 1 0) 2 [] no_size 3) None [] (some_init 4 (init_braced
      (init_list 5 (more_init_items (more_desigs (range_desig 6 (number_use 7) 8 (number_use 9) 10) no_desigs) (Some 11)
      (init_value (number_use 12)) no_init_items) None 13))) no_init_declrs) 14))) [] (
        is_mix (more_words (basic (record { token = 0; keyword = words.Int })) no_words) refl,
        (tt, tt),
        refl,
        (
          All-nil _,
          (tt, refl, refl, All-nil _, tt),
          refl,
          tt,
          All-nil _,
          ((((tt, (leb-true 2 16 refl), tt, (leb-true 2 16 refl)), tt), refl, (tt, (leb-true 1 16 refl)), tt), tt),
          tt,
          refl,
        ),
        tt,
        λ e m. absurd cc,
      ) (All-nil _)) refl refl

  -- struct s { int m; } v = { .m = 1 };
  pub two_designators_front : BeginsUnit true (take 12 two_designators)
  two_designators_front =
      unit_from true (take 12 two_designators) ((kinds.Punct signs.Equal) ∷ kinds.Number
      ∷ (kinds.Punct signs.CloseBrace) ∷ (kinds.Punct signs.Semicolon) ∷ kinds.End ∷ [])
      ((decl_item (decl_declaration (declaration [] (more_words (struct_type
      (record { token = 0; keyword = words.Struct }) [] (Some (record { token = 1; name = 0 })) (some_body 2
      (more_struct_items (member [] (more_words (basic (record { token = 3; keyword = words.Int })) no_words)
      (more_mem_declrs [] (named (declr_name 4 1) no_value []) no_mem_declrs) 5) no_struct_items) 6)) no_words)
      (more_init_declrs [] (declr_name 7 2) None [] (some_init 8 (init_braced
      (init_list 9 (more_init_items (more_desigs (member_desig 10 (record { token = 11; name = 1 })) no_desigs)
      (Some 12) (init_value (number_use 13)) no_init_items) None 14))) no_init_declrs) 15))) ∷ []) 16 refl
      (All-cons (IsItem (numbered (take 12 two_designators ++ ((kinds.Punct signs.Equal) ∷ kinds.Number
      ∷ (kinds.Punct signs.CloseBrace) ∷ (kinds.Punct signs.Semicolon) ∷ kinds.End ∷ []))))
      (decl_item (decl_declaration (declaration [] (more_words (struct_type
      (record { token = 0; keyword = words.Struct }) [] (Some (record { token = 1; name = 0 })) (some_body 2
      (more_struct_items (member [] (more_words (basic (record { token = 3; keyword = words.Int })) no_words)
      (more_mem_declrs [] (named (declr_name 4 1) no_value []) no_mem_declrs) 5) no_struct_items) 6)) no_words)
      (more_init_declrs [] (declr_name 7 2) None [] (some_init 8 (init_braced
      (init_list 9 (more_init_items (more_desigs (member_desig 10 (record { token = 11; name = 1 })) no_desigs)
      (Some 12) (init_value (number_use 13)) no_init_items) None 14))) no_init_declrs) 15))) [] (
        is_mix (more_words (struct_type (record { token = 0; keyword = words.Struct }) []
            (Some (record { token = 1; name = 0 })) (some_body 2 (more_struct_items
            (member [] (more_words (basic (record { token = 3; keyword = words.Int })) no_words) (more_mem_declrs []
            (named (declr_name 4 1) no_value []) no_mem_declrs) 5) no_struct_items) 6)) no_words) refl,
        (
          (
            refl,
            All-nil _,
            tt,
            (
              (
                is_mix (more_words (basic (record { token = 3; keyword = words.Int })) no_words) refl,
                (tt, tt),
                refl,
                refl,
                (All-nil _, (tt, refl, tt, All-nil _, refl), tt),
              ),
              tt,
            ),
          ),
          tt,
        ),
        refl,
        (All-nil _, tt, refl, tt, All-nil _, (((tt, tt), refl, (tt, (leb-true 1 16 refl)), tt), tt), tt, refl),
        tt,
        λ e m. absurd cc,
      ) (All-nil _)) refl refl

  -- int x; int ;
  pub typeof_behind_int_front : BeginsUnit true (take 4 typeof_behind_int)
  typeof_behind_int_front =
      unit_from true (take 4 typeof_behind_int) ((kinds.Punct signs.Semicolon) ∷ kinds.End ∷ []) ((decl_item
      (decl_declaration (declaration [] (more_words (basic (record { token = 0; keyword = words.Int })) no_words)
      (more_init_declrs [] (declr_name 1 0) None [] no_init no_init_declrs) 2)))
      ∷ (decl_item (decl_declaration (declaration []
      (more_words (basic (record { token = 3; keyword = words.Int })) no_words) no_init_declrs 4))) ∷ []) 5 refl
      (All-cons (IsItem (numbered (take 4 typeof_behind_int ++ ((kinds.Punct signs.Semicolon) ∷ kinds.End ∷ []))))
      (decl_item (decl_declaration (declaration [] (more_words (basic (record { token = 0; keyword = words.Int }))
      no_words) (more_init_declrs [] (declr_name 1 0) None [] no_init no_init_declrs) 2)))
      ((decl_item (decl_declaration (declaration []
      (more_words (basic (record { token = 3; keyword = words.Int })) no_words) no_init_declrs 4))) ∷ []) (
        is_mix (more_words (basic (record { token = 0; keyword = words.Int })) no_words) refl,
        (tt, tt),
        refl,
        (All-nil _, tt, refl, tt, All-nil _, tt, tt, refl),
        tt,
        λ e m. absurd cc,
      ) (All-cons (IsItem (numbered (take 4 typeof_behind_int ++ ((kinds.Punct signs.Semicolon) ∷ kinds.End ∷ []))))
      (decl_item (decl_declaration
      (declaration [] (more_words (basic (record { token = 3; keyword = words.Int })) no_words) no_init_declrs 4))) []
      (is_mix (more_words (basic (record { token = 3; keyword = words.Int })) no_words) refl, (tt, tt), tt, tt, tt, tt)
      (All-nil _))) refl refl

  -- _Atomic(int) ;
  pub int_behind_atomic_front : BeginsUnit true (take 4 int_behind_atomic)
  int_behind_atomic_front =
      unit_from true (take 4 int_behind_atomic) ((kinds.Punct signs.Semicolon) ∷ kinds.End ∷ [])
      ((decl_item (decl_declaration
      (declaration [] (more_words (typeof_type (record { token = 0; keyword = words.AtomicType }) 1 (more_words (basic
      (record { token = 2; keyword = words.Int })) no_words) no_declr 3) no_words) no_init_declrs 4))) ∷ []) 5 refl
      (All-cons (IsItem (numbered (take 4 int_behind_atomic ++ ((kinds.Punct signs.Semicolon) ∷ kinds.End ∷ []))))
      (decl_item (decl_declaration
      (declaration [] (more_words (typeof_type (record { token = 0; keyword = words.AtomicType }) 1 (more_words
      (basic (record { token = 2; keyword = words.Int })) no_words) no_declr 3) no_words) no_init_declrs 4))) [] (
        is_mix (more_words (typeof_type (record { token = 0; keyword = words.AtomicType }) 1
            (more_words (basic (record { token = 2; keyword = words.Int })) no_words) no_declr 3) no_words) refl,
        (
          (
            refl,
            is_mix (more_words (basic (record { token = 2; keyword = words.Int })) no_words) refl,
            (tt, tt, tt),
            tt,
          ),
          tt,
        ),
        tt,
        tt,
        tt,
        tt,
      ) (All-nil _)) refl refl

  -- int _Complex ;
  pub two_complexes_front : BeginsUnit true (take 2 two_complexes)
  two_complexes_front =
      unit_from true (take 2 two_complexes) ((kinds.Punct signs.Semicolon) ∷ kinds.End ∷ [])
      ((decl_item (decl_declaration (declaration [] (more_words (basic (record { token = 0; keyword = words.Int }))
      (more_words (basic (record { token = 1; keyword = words.AnyComplex })) no_words)) no_init_declrs 2))) ∷ []) 3 refl
      (All-cons (IsItem (numbered (take 2 two_complexes ++ ((kinds.Punct signs.Semicolon) ∷ kinds.End ∷ []))))
      (decl_item (decl_declaration (declaration [] (more_words (basic (record { token = 0; keyword = words.Int }))
      (more_words (basic (record { token = 1; keyword = words.AnyComplex })) no_words)) no_init_declrs 2))) [] (
        is_mix (more_words (basic (record { token = 0; keyword = words.Int }))
            (more_words (basic (record { token = 1; keyword = words.AnyComplex })) no_words)) refl,
        (tt, (tt, tt)),
        tt,
        tt,
        tt,
        tt,
      ) (All-nil _)) refl refl

  -- void f(void) { enum { a }; __auto_type b = 1; }
  pub auto_named_as_enumerator_front : BeginsUnit true (take 12 auto_named_as_enumerator)
  auto_named_as_enumerator_front =
      unit_from true (take 12 auto_named_as_enumerator) ((kinds.Name 2) ∷ (kinds.Punct signs.Equal) ∷ kinds.Number
      ∷ (kinds.Punct signs.Semicolon) ∷ (kinds.Punct signs.CloseBrace) ∷ kinds.End ∷ []) ((function_item []
      (more_words (basic (record { token = 0; keyword = words.Void })) no_words) (params (declr_name 1 0) 2 (more_params
      (more_words (basic (record { token = 3; keyword = words.Void })) no_words) no_declr [] no_params) None 4) [] 5
      (more_block_items (block_decl (decl_declaration (declaration [] (more_words (enum_type (enum_of 6 [] None
      (some_enum_body 7 (more_enumerators (record { token = 8; name = 1 }) [] no_value no_enumerators) None 9)))
      no_words) no_init_declrs 10))) (more_block_items (block_decl
      (decl_declaration (declaration [] (more_words (auto_word 11) no_words) (more_init_declrs [] (declr_name 12 2) None
      [] (some_init 13 (init_value (number_use 14))) no_init_declrs) 15))) no_block_items)) 16) ∷ []) 17 refl
      (All-cons (IsItem (numbered (take 12 auto_named_as_enumerator ++ ((kinds.Name 2) ∷ (kinds.Punct signs.Equal)
      ∷ kinds.Number ∷ (kinds.Punct signs.Semicolon) ∷ (kinds.Punct signs.CloseBrace) ∷ kinds.End ∷ []))))
      (function_item [] (more_words (basic (record { token = 0; keyword = words.Void })) no_words)
      (params (declr_name 1 0) 2 (more_params (more_words (basic (record { token = 3; keyword = words.Void })) no_words)
      no_declr [] no_params) None 4) [] 5 (more_block_items (block_decl (decl_declaration (declaration []
      (more_words (enum_type (enum_of 6 [] None (some_enum_body 7 (more_enumerators (record { token = 8; name = 1 })
      [] no_value no_enumerators) None 9))) no_words) no_init_declrs 10))) (more_block_items (block_decl
      (decl_declaration (declaration [] (more_words (auto_word 11) no_words) (more_init_declrs [] (declr_name 12 2) None
      [] (some_init 13 (init_value (number_use 14))) no_init_declrs) 15))) no_block_items)) 16) [] (
        is_mix (more_words (basic (record { token = 0; keyword = words.Void })) no_words) refl,
        (tt, tt),
        refl,
        no_typedef,
        (
          tt,
          refl,
          refl,
          (
            is_mix (more_words (basic (record { token = 3; keyword = words.Void })) no_words) refl,
            (tt, tt),
            refl,
            tt,
            All-nil _,
            tt,
            tt,
            refl,
          ),
          tt,
        ),
        refl,
        All-nil _,
        (
          (
            is_mix (more_words (enum_type (enum_of 6 [] None (some_enum_body 7
                (more_enumerators (record { token = 8; name = 1 }) [] no_value no_enumerators) None 9))) no_words) refl,
            ((All-nil _, tt, ((λ is. absurd cc), (All-nil _, tt, tt))), tt),
            tt,
            tt,
            tt,
            tt,
          ),
          (
            (
              is_mix (more_words (auto_word 11) no_words) refl,
              (tt, tt),
              refl,
              (All-nil _, tt, refl, tt, All-nil _, (tt, (leb-true 1 16 refl)), tt, refl),
              no_typedef,
              λ e m. absurd cc,
            ),
            tt,
          ),
        ),
        refl,
      ) (All-nil _)) refl refl

  -- int f(a) int a; enum { b }; { }
  pub enumerator_named_as_parameter_front : BeginsUnit true (take 10 enumerator_named_as_parameter)
  enumerator_named_as_parameter_front =
      unit_from true (take 10 enumerator_named_as_parameter) ((kinds.Name 2) ∷ (kinds.Punct signs.CloseBrace)
      ∷ (kinds.Punct signs.Semicolon) ∷ (kinds.Punct signs.OpenBrace) ∷ (kinds.Punct signs.CloseBrace) ∷ kinds.End ∷ [])
      ((old_function_item [] (more_words (basic (record { token = 0; keyword = words.Int })) no_words)
      (identifiers (declr_name 1 0) 2 ((record { token = 3; name = 1 }) ∷ []) 4) []
      ((declaration [] (more_words (basic (record { token = 5; keyword = words.Int })) no_words)
      (more_init_declrs [] (declr_name 6 1) None [] no_init no_init_declrs) 7) ∷ (declaration []
      (more_words (enum_type (enum_of 8 [] None (some_enum_body 9 (more_enumerators (record { token = 10; name = 2 })
      [] no_value no_enumerators) None 11))) no_words) no_init_declrs 12) ∷ []) 13 no_block_items 14) ∷ []) 15 refl
      (All-cons (IsItem (numbered (take 10 enumerator_named_as_parameter
      ++ ((kinds.Name 2) ∷ (kinds.Punct signs.CloseBrace) ∷ (kinds.Punct signs.Semicolon)
      ∷ (kinds.Punct signs.OpenBrace) ∷ (kinds.Punct signs.CloseBrace) ∷ kinds.End ∷ []))))
      (old_function_item [] (more_words (basic (record { token = 0; keyword = words.Int })) no_words)
      (identifiers (declr_name 1 0) 2 ((record { token = 3; name = 1 }) ∷ []) 4) []
      ((declaration [] (more_words (basic (record { token = 5; keyword = words.Int })) no_words)
      (more_init_declrs [] (declr_name 6 1) None [] no_init no_init_declrs) 7) ∷ (declaration []
      (more_words (enum_type (enum_of 8 [] None (some_enum_body 9 (more_enumerators (record { token = 10; name = 2 })
      [] no_value no_enumerators) None 11))) no_words) no_init_declrs 12) ∷ []) 13 no_block_items 14) [] (
        is_mix (more_words (basic (record { token = 0; keyword = words.Int })) no_words) refl,
        (tt, tt),
        refl,
        no_typedef,
        (tt, refl, (λ is. absurd cc)),
        refl,
        All-nil _,
        All-cons (IsDeclaration (numbered (take 10 enumerator_named_as_parameter
            ++ ((kinds.Name 2) ∷ (kinds.Punct signs.CloseBrace) ∷ (kinds.Punct signs.Semicolon)
            ∷ (kinds.Punct signs.OpenBrace) ∷ (kinds.Punct signs.CloseBrace) ∷ kinds.End ∷ []))))
            (declaration [] (more_words (basic (record { token = 5; keyword = words.Int })) no_words)
            (more_init_declrs [] (declr_name 6 1) None [] no_init no_init_declrs) 7) ((declaration [] (more_words
            (enum_type (enum_of 8 [] None (some_enum_body 9 (more_enumerators (record { token = 10; name = 2 })
            [] no_value no_enumerators) None 11))) no_words) no_init_declrs 12) ∷ []) (
              is_mix (more_words (basic (record { token = 5; keyword = words.Int })) no_words) refl,
              (tt, tt),
              refl,
              (All-nil _, tt, refl, tt, All-nil _, tt, tt, refl),
              tt,
              λ e m. absurd cc,
            ) (All-cons (IsDeclaration (numbered (take 10 enumerator_named_as_parameter
            ++ ((kinds.Name 2) ∷ (kinds.Punct signs.CloseBrace) ∷ (kinds.Punct signs.Semicolon)
            ∷ (kinds.Punct signs.OpenBrace) ∷ (kinds.Punct signs.CloseBrace) ∷ kinds.End ∷ []))))
            (declaration [] (more_words (enum_type (enum_of 8 [] None (some_enum_body 9 (more_enumerators
            (record { token = 10; name = 2 }) [] no_value no_enumerators) None 11))) no_words) no_init_declrs 12) [] (
              is_mix (more_words (enum_type (enum_of 8 [] None (some_enum_body 9
                  (more_enumerators (record { token = 10; name = 2 }) [] no_value no_enumerators) None 11)))
                  no_words) refl,
              ((All-nil _, tt, ((λ is. absurd cc), (All-nil _, tt, tt))), tt),
              tt,
              tt,
              tt,
              tt,
            ) (All-nil _)),
        tt,
        tt,
        refl,
      ) (All-nil _)) refl refl

  -- int x; int a[] = { [1 + x ... 3] = 1 };
  pub begin_of_range_assigned_front : BeginsUnit true (take 13 begin_of_range_assigned)
  begin_of_range_assigned_front =
      unit_from true (take 13 begin_of_range_assigned)
      ((kinds.Punct signs.Ellipsis) ∷ kinds.Number ∷ (kinds.Punct signs.CloseBracket) ∷ (kinds.Punct signs.Equal)
      ∷ kinds.Number ∷ (kinds.Punct signs.CloseBrace) ∷ (kinds.Punct signs.Semicolon) ∷ kinds.End ∷ []) ((decl_item
      (decl_declaration (declaration [] (more_words (basic (record { token = 0; keyword = words.Int })) no_words)
      (more_init_declrs [] (declr_name 1 0) None [] no_init no_init_declrs) 2))) ∷ (decl_item
      (decl_declaration (declaration [] (more_words (basic (record { token = 3; keyword = words.Int })) no_words)
      (more_init_declrs [] (array (declr_name 4 1) 5 [] no_size 6) None [] (some_init 7 (init_braced (init_list 8
      (more_init_items (more_desigs (range_desig 9 (operation (number_use 10) (binary signs.Plus) 11 (name_use 12 0)) 13
      (number_use 14) 15) no_desigs) (Some 16) (init_value (number_use 17)) no_init_items) None 18))) no_init_declrs)
      19))) ∷ []) 20 refl
      (All-cons (IsItem (numbered (take 13 begin_of_range_assigned
      ++ ((kinds.Punct signs.Ellipsis) ∷ kinds.Number ∷ (kinds.Punct signs.CloseBracket) ∷ (kinds.Punct signs.Equal)
      ∷ kinds.Number ∷ (kinds.Punct signs.CloseBrace) ∷ (kinds.Punct signs.Semicolon) ∷ kinds.End ∷ [])))) (decl_item
      (decl_declaration (declaration [] (more_words (basic (record { token = 0; keyword = words.Int })) no_words)
      (more_init_declrs [] (declr_name 1 0) None [] no_init no_init_declrs) 2))) ((decl_item (decl_declaration
      (declaration [] (more_words (basic (record { token = 3; keyword = words.Int })) no_words) (more_init_declrs []
      (array (declr_name 4 1) 5 [] no_size 6) None [] (some_init 7 (init_braced (init_list 8 (more_init_items
      (more_desigs (range_desig 9 (operation (number_use 10) (binary signs.Plus) 11 (name_use 12 0)) 13 (number_use 14)
      15) no_desigs) (Some 16) (init_value (number_use 17)) no_init_items) None 18))) no_init_declrs) 19))) ∷ []) (
        is_mix (more_words (basic (record { token = 0; keyword = words.Int })) no_words) refl,
        (tt, tt),
        refl,
        (All-nil _, tt, refl, tt, All-nil _, tt, tt, refl),
        tt,
        λ e m. absurd cc,
      ) (All-cons (IsItem (numbered (take 13 begin_of_range_assigned ++ ((kinds.Punct signs.Ellipsis) ∷ kinds.Number
      ∷ (kinds.Punct signs.CloseBracket) ∷ (kinds.Punct signs.Equal) ∷ kinds.Number
      ∷ (kinds.Punct signs.CloseBrace) ∷ (kinds.Punct signs.Semicolon) ∷ kinds.End ∷ [])))) (decl_item
      (decl_declaration (declaration [] (more_words (basic (record { token = 3; keyword = words.Int })) no_words)
      (more_init_declrs [] (array (declr_name 4 1) 5 [] no_size 6) None []
      (some_init 7 (init_braced (init_list 8 (more_init_items (more_desigs (range_desig 9
      (operation (number_use 10) (binary signs.Plus) 11 (name_use 12 0)) 13 (number_use 14) 15) no_desigs)
      (Some 16) (init_value (number_use 17)) no_init_items) None 18))) no_init_declrs) 19))) [] (
        is_mix (more_words (basic (record { token = 3; keyword = words.Int })) no_words) refl,
        (tt, tt),
        refl,
        (
          All-nil _,
          (tt, refl, refl, All-nil _, tt),
          refl,
          tt,
          All-nil _,
          (
            (
              (
                (
                  (tt, tt, (leb-true 1 9 refl), tt, (leb-true 11 16 refl), (leb-true 12 16 refl)),
                  (leb-true 2 11 refl),
                  tt,
                  (leb-true 2 16 refl),
                ),
                tt,
              ),
              refl,
              (tt, (leb-true 1 16 refl)),
              tt,
            ),
            tt,
          ),
          tt,
          refl,
        ),
        tt,
        λ e m. absurd cc,
      ) (All-nil _))) refl refl

  -- int x; int a[] = { [0 ... 1 + x] = 1 };
  pub end_of_range_assigned_front : BeginsUnit true (take 15 end_of_range_assigned)
  end_of_range_assigned_front =
      unit_from true (take 15 end_of_range_assigned) ((kinds.Punct signs.CloseBracket) ∷ (kinds.Punct signs.Equal)
      ∷ kinds.Number ∷ (kinds.Punct signs.CloseBrace) ∷ (kinds.Punct signs.Semicolon) ∷ kinds.End ∷ []) ((decl_item
      (decl_declaration (declaration [] (more_words (basic (record { token = 0; keyword = words.Int })) no_words)
      (more_init_declrs [] (declr_name 1 0) None [] no_init no_init_declrs) 2))) ∷ (decl_item (decl_declaration
      (declaration [] (more_words (basic (record { token = 3; keyword = words.Int })) no_words) (more_init_declrs []
      (array (declr_name 4 1) 5 [] no_size 6) None [] (some_init 7 (init_braced (init_list 8 (more_init_items
      (more_desigs (range_desig 9 (number_use 10) 11 (operation (number_use 12) (binary signs.Plus) 13 (name_use 14 0))
      15) no_desigs) (Some 16) (init_value (number_use 17)) no_init_items) None 18))) no_init_declrs) 19)))
      ∷ []) 20 refl
      (All-cons
      (IsItem (numbered (take 15 end_of_range_assigned ++ ((kinds.Punct signs.CloseBracket) ∷ (kinds.Punct signs.Equal)
      ∷ kinds.Number ∷ (kinds.Punct signs.CloseBrace) ∷ (kinds.Punct signs.Semicolon) ∷ kinds.End ∷ [])))) (decl_item
      (decl_declaration (declaration [] (more_words (basic (record { token = 0; keyword = words.Int })) no_words)
      (more_init_declrs [] (declr_name 1 0) None [] no_init no_init_declrs) 2))) ((decl_item (decl_declaration
      (declaration [] (more_words (basic (record { token = 3; keyword = words.Int })) no_words) (more_init_declrs []
      (array (declr_name 4 1) 5 [] no_size 6) None [] (some_init 7 (init_braced (init_list 8 (more_init_items
      (more_desigs (range_desig 9 (number_use 10) 11 (operation (number_use 12) (binary signs.Plus) 13 (name_use 14 0))
      15) no_desigs) (Some 16) (init_value (number_use 17)) no_init_items) None 18))) no_init_declrs) 19))) ∷ []) (
        is_mix (more_words (basic (record { token = 0; keyword = words.Int })) no_words) refl,
        (tt, tt),
        refl,
        (All-nil _, tt, refl, tt, All-nil _, tt, tt, refl),
        tt,
        λ e m. absurd cc,
      ) (All-cons (IsItem (numbered (take 15 end_of_range_assigned
      ++ ((kinds.Punct signs.CloseBracket) ∷ (kinds.Punct signs.Equal) ∷ kinds.Number
      ∷ (kinds.Punct signs.CloseBrace) ∷ (kinds.Punct signs.Semicolon) ∷ kinds.End ∷ [])))) (decl_item
      (decl_declaration (declaration [] (more_words (basic (record { token = 3; keyword = words.Int })) no_words)
      (more_init_declrs [] (array (declr_name 4 1) 5 [] no_size 6) None []
      (some_init 7 (init_braced (init_list 8 (more_init_items (more_desigs (range_desig 9 (number_use 10) 11
      (operation (number_use 12) (binary signs.Plus) 13 (name_use 14 0)) 15) no_desigs) (Some 16)
      (init_value (number_use 17)) no_init_items) None 18))) no_init_declrs) 19))) [] (
        is_mix (more_words (basic (record { token = 3; keyword = words.Int })) no_words) refl,
        (tt, tt),
        refl,
        (
          All-nil _,
          (tt, refl, refl, All-nil _, tt),
          refl,
          tt,
          All-nil _,
          (
            (
              (
                (
                  tt,
                  (leb-true 2 16 refl),
                  (tt, tt, (leb-true 1 9 refl), tt, (leb-true 11 16 refl), (leb-true 12 16 refl)),
                  (leb-true 2 11 refl),
                ),
                tt,
              ),
              refl,
              (tt, (leb-true 1 16 refl)),
              tt,
            ),
            tt,
          ),
          tt,
          refl,
        ),
        tt,
        λ e m. absurd cc,
      ) (All-nil _))) refl refl

  -- int f( ) ;
  pub identifiers_in_narrow_c_front : BeginsUnit false (take 3 identifiers_in_narrow_c)
  identifiers_in_narrow_c_front =
      unit_from false (take 3 identifiers_in_narrow_c)
      ((kinds.Punct signs.CloseParen) ∷ (kinds.Punct signs.Semicolon) ∷ kinds.End ∷ []) ((decl_item (decl_declaration
      (declaration [] (more_words (basic (record { token = 0; keyword = words.Int })) no_words) (more_init_declrs []
      (params (declr_name 1 0) 2 no_params None 3) None [] no_init no_init_declrs) 4))) ∷ []) 5 refl
      (All-cons (IsItem (numbered (take 3 identifiers_in_narrow_c
      ++ ((kinds.Punct signs.CloseParen) ∷ (kinds.Punct signs.Semicolon) ∷ kinds.End ∷ [])))) (decl_item
      (decl_declaration (declaration [] (more_words (basic (record { token = 0; keyword = words.Int })) no_words)
      (more_init_declrs [] (params (declr_name 1 0) 2 no_params None 3) None [] no_init no_init_declrs) 4))) [] (
        is_mix (more_words (basic (record { token = 0; keyword = words.Int })) no_words) refl,
        (tt, tt),
        refl,
        (All-nil _, (tt, refl, refl, tt, tt), refl, tt, All-nil _, tt, tt, refl),
        tt,
        λ e m. absurd cc,
      ) (All-nil _)) refl refl

module _ (whole_are : WholeAreMixes) (goes : MixesGoOn) (trees : UnitsAreTrees) where
  is_mix_2 : (ws : SpecWords) → is_whole_mix ws ≡ true → IsMix ws
  is_mix_2 ws = (whole_are ws).0

  pub typeof_behind_int_bad : MayHaveNoMix true typeof_behind_int 4
  typeof_behind_int_bad = record {
    keyword = words.Typeof;
    is = refl;
    items = ((decl_item
        (decl_declaration (declaration [] (more_words (basic (record { token = 0; keyword = words.Int })) no_words)
        (more_init_declrs [] (declr_name 1 0) None [] no_init no_init_declrs) 2)))
        ∷ (decl_item (decl_declaration (declaration [] (more_words (basic (record { token = 3; keyword = words.Int }))
        (more_words (typeof_value 4 5 (name_use 6 0) 7) no_words))
        (more_init_declrs [] (declr_name 8 1) None [] no_init no_init_declrs) 9))) ∷ []);
    tree = record {
      behind = ((kinds.Punct signs.OpenParen) ∷ (kinds.Name 0) ∷ (kinds.Punct signs.CloseParen) ∷ (kinds.Name 1)
          ∷ (kinds.Punct signs.Semicolon) ∷ kinds.End ∷ []);
      spelled = record { last = 10; spelled = refl };
      derived =
          (All-cons (DerivesItem (numbered (take 5 typeof_behind_int ++ ((kinds.Punct signs.OpenParen) ∷ (kinds.Name 0)
          ∷ (kinds.Punct signs.CloseParen) ∷ (kinds.Name 1) ∷ (kinds.Punct signs.Semicolon) ∷ kinds.End ∷ []))))
          (decl_item (decl_declaration (declaration [] (more_words (basic (record { token = 0; keyword = words.Int }))
          no_words) (more_init_declrs [] (declr_name 1 0) None [] no_init no_init_declrs) 2)))
          ((decl_item (decl_declaration (declaration [] (more_words (basic (record { token = 3; keyword = words.Int }))
          (more_words (typeof_value 4 5 (name_use 6 0) 7) no_words))
          (more_init_declrs [] (declr_name 8 1) None [] no_init no_init_declrs) 9))) ∷ [])
          ((λ is. absurd cc), (refl, tt), refl, (All-nil _, tt, refl, tt, All-nil _, tt, tt), tt)
          (All-cons (DerivesItem (numbered (take 5 typeof_behind_int ++ ((kinds.Punct signs.OpenParen) ∷ (kinds.Name 0)
          ∷ (kinds.Punct signs.CloseParen) ∷ (kinds.Name 1) ∷ (kinds.Punct signs.Semicolon) ∷ kinds.End ∷ []))))
          (decl_item (decl_declaration (declaration [] (more_words (basic (record { token = 3; keyword = words.Int }))
          (more_words (typeof_value 4 5 (name_use 6 0) 7) no_words))
          (more_init_declrs [] (declr_name 8 1) None [] no_init no_init_declrs) 9))) []
          ((λ is. absurd cc), (refl, (tt, tt)), refl, (All-nil _, tt, refl, tt, All-nil _, tt, tt), tt) (All-nil _)));
    };
    bad = record {
      scopes = _;
      front = (more_words (basic (record { token = 3; keyword = words.Int })) no_words);
      word = (typeof_value 4 5 (name_use 6 0) 7);
      more = no_words;
      there = (2, ltb-true 2 _ refl, refl);
      first = refl;
      none = λ begun.
          let e : goes_on (more_words (basic (record { token = 3; keyword = words.Int })) no_words)
          (class_of (typeof_value 4 5 (name_use 6 0) 7)) ≡ true =
          goes (more_words (basic (record { token = 3; keyword = words.Int })) no_words)
          (typeof_value 4 5 (name_use 6 0) 7) begun.0 begun.1 in
          absurd cc;
    };
  }

  pub int_behind_atomic_bad : MayHaveNoMix true int_behind_atomic 4
  int_behind_atomic_bad = record {
    keyword = words.Int;
    is = refl;
    items = ((decl_item
        (decl_declaration (declaration [] (more_words (typeof_type (record { token = 0; keyword = words.AtomicType }) 1
        (more_words (basic (record { token = 2; keyword = words.Int })) no_words) no_declr 3)
        (more_words (basic (record { token = 4; keyword = words.Int })) no_words))
        (more_init_declrs [] (declr_name 5 0) None [] no_init no_init_declrs) 6))) ∷ []);
    tree = record {
      behind = ((kinds.Name 0) ∷ (kinds.Punct signs.Semicolon) ∷ kinds.End ∷ []);
      spelled = record { last = 7; spelled = refl };
      derived = (All-cons (DerivesItem (numbered (take 5 int_behind_atomic
          ++ ((kinds.Name 0) ∷ (kinds.Punct signs.Semicolon) ∷ kinds.End ∷ [])))) (decl_item (decl_declaration
          (declaration [] (more_words (typeof_type (record { token = 0; keyword = words.AtomicType }) 1
          (more_words (basic (record { token = 2; keyword = words.Int })) no_words) no_declr 3)
          (more_words (basic (record { token = 4; keyword = words.Int })) no_words))
          (more_init_declrs [] (declr_name 5 0) None [] no_init no_init_declrs) 6))) [] (
            (λ is. absurd cc),
            ((refl, (λ is. absurd cc), (refl, tt, tt), tt), (refl, tt)),
            refl,
            (All-nil _, tt, refl, tt, All-nil _, tt, tt),
            tt,
          ) (All-nil _));
    };
    bad = record {
      scopes = _;
      front = (more_words (typeof_type (record { token = 0; keyword = words.AtomicType }) 1
          (more_words (basic (record { token = 2; keyword = words.Int })) no_words) no_declr 3) no_words);
      word = (basic (record { token = 4; keyword = words.Int }));
      more = no_words;
      there = (0, ltb-true 0 _ refl, refl);
      first = refl;
      none = λ begun.
          let e : goes_on (more_words (typeof_type (record { token = 0; keyword = words.AtomicType }) 1
          (more_words (basic (record { token = 2; keyword = words.Int })) no_words) no_declr 3) no_words)
          (class_of (basic (record { token = 4; keyword = words.Int }))) ≡ true =
          goes (more_words (typeof_type (record { token = 0; keyword = words.AtomicType }) 1
          (more_words (basic (record { token = 2; keyword = words.Int })) no_words) no_declr 3) no_words)
          (basic (record { token = 4; keyword = words.Int })) begun.0 begun.1 in
          absurd cc;
    };
  }

  pub two_complexes_bad : MayHaveNoMix true two_complexes 2
  two_complexes_bad = record {
    keyword = words.AnyComplex;
    is = refl;
    items =
        ((decl_item (decl_declaration (declaration [] (more_words (basic (record { token = 0; keyword = words.Int }))
        (more_words (basic (record { token = 1; keyword = words.AnyComplex }))
        (more_words (basic (record { token = 2; keyword = words.AnyComplex })) no_words)))
        (more_init_declrs [] (declr_name 3 0) None [] no_init no_init_declrs) 4))) ∷ []);
    tree = record {
      behind = ((kinds.Name 0) ∷ (kinds.Punct signs.Semicolon) ∷ kinds.End ∷ []);
      spelled = record { last = 5; spelled = refl };
      derived = (All-cons (DerivesItem
          (numbered (take 3 two_complexes ++ ((kinds.Name 0) ∷ (kinds.Punct signs.Semicolon) ∷ kinds.End ∷ []))))
          (decl_item (decl_declaration (declaration [] (more_words (basic (record { token = 0; keyword = words.Int }))
          (more_words (basic (record { token = 1; keyword = words.AnyComplex }))
          (more_words (basic (record { token = 2; keyword = words.AnyComplex })) no_words)))
          (more_init_declrs [] (declr_name 3 0) None [] no_init no_init_declrs) 4))) []
          ((λ is. absurd cc), (refl, (refl, (refl, tt))), refl, (All-nil _, tt, refl, tt, All-nil _, tt, tt), tt)
          (All-nil _));
    };
    bad = record {
      scopes = _;
      front = (more_words (basic (record { token = 0; keyword = words.Int }))
          (more_words (basic (record { token = 1; keyword = words.AnyComplex })) no_words));
      word = (basic (record { token = 2; keyword = words.AnyComplex }));
      more = no_words;
      there = (0, ltb-true 0 _ refl, refl);
      first = refl;
      none = λ begun.
          let e : goes_on (more_words (basic (record { token = 0; keyword = words.Int }))
          (more_words (basic (record { token = 1; keyword = words.AnyComplex })) no_words))
          (class_of (basic (record { token = 2; keyword = words.AnyComplex }))) ≡ true =
          goes (more_words (basic (record { token = 0; keyword = words.Int }))
          (more_words (basic (record { token = 1; keyword = words.AnyComplex })) no_words))
          (basic (record { token = 2; keyword = words.AnyComplex })) begun.0 begun.1 in
          absurd cc;
    };
  }

  pub auto_named_as_enumerator_bad : MayHaveOtherKind true auto_named_as_enumerator 12
  auto_named_as_enumerator_bad = record {
    items = ((function_item [] (more_words (basic (record { token = 0; keyword = words.Void })) no_words) (params
        (declr_name 1 0) 2 (more_params (more_words (basic (record { token = 3; keyword = words.Void })) no_words)
        no_declr [] no_params) None 4) [] 5 (more_block_items (block_decl (decl_declaration (declaration []
        (more_words (enum_type (enum_of 6 [] None (some_enum_body 7 (more_enumerators (record { token = 8; name = 1 })
        [] no_value no_enumerators) None 9))) no_words) no_init_declrs 10))) (more_block_items (block_decl
        (decl_declaration (declaration [] (more_words (auto_word 11) no_words) (more_init_declrs [] (declr_name 12 1)
        None [] (some_init 13 (init_value (number_use 14))) no_init_declrs) 15))) no_block_items)) 16) ∷ []);
    tree = record {
      behind = ((kinds.Punct signs.Equal) ∷ kinds.Number ∷ (kinds.Punct signs.Semicolon)
          ∷ (kinds.Punct signs.CloseBrace) ∷ kinds.End ∷ []);
      spelled = record { last = 17; spelled = refl };
      derived = trees _ ((function_item [] (more_words (basic (record { token = 0; keyword = words.Void })) no_words)
          (params (declr_name 1 0) 2 (more_params
          (more_words (basic (record { token = 3; keyword = words.Void })) no_words) no_declr [] no_params) None 4) [] 5
          (more_block_items (block_decl (decl_declaration (declaration [] (more_words (enum_type (enum_of 6 [] None
          (some_enum_body 7 (more_enumerators (record { token = 8; name = 1 }) [] no_value no_enumerators) None 9)))
          no_words) no_init_declrs 10))) (more_block_items (block_decl (decl_declaration
          (declaration [] (more_words (auto_word 11) no_words) (more_init_declrs [] (declr_name 12 1) None []
          (some_init 13 (init_value (number_use 14))) no_init_declrs) 15))) no_block_items)) 16) ∷ []) (record {
            parts = (All-cons (IsItem (numbered (take 13 auto_named_as_enumerator ++ ((kinds.Punct signs.Equal)
                ∷ kinds.Number ∷ (kinds.Punct signs.Semicolon) ∷ (kinds.Punct signs.CloseBrace) ∷ kinds.End ∷ []))))
                (function_item [] (more_words (basic (record { token = 0; keyword = words.Void })) no_words)
                (params (declr_name 1 0) 2 (more_params (more_words (basic (record { token = 3; keyword = words.Void }))
                no_words) no_declr [] no_params) None 4) [] 5 (more_block_items (block_decl (decl_declaration
                (declaration [] (more_words (enum_type (enum_of 6 [] None (some_enum_body 7 (more_enumerators
                (record { token = 8; name = 1 }) [] no_value no_enumerators) None 9))) no_words) no_init_declrs 10)))
                (more_block_items (block_decl (decl_declaration
                (declaration [] (more_words (auto_word 11) no_words) (more_init_declrs [] (declr_name 12 1) None []
                (some_init 13 (init_value (number_use 14))) no_init_declrs) 15))) no_block_items)) 16) [] (
                  is_mix_2 (more_words (basic (record { token = 0; keyword = words.Void })) no_words) refl,
                  (tt, tt),
                  refl,
                  no_typedef,
                  (
                    tt,
                    refl,
                    refl,
                    (
                      is_mix_2 (more_words (basic (record { token = 3; keyword = words.Void })) no_words) refl,
                      (tt, tt),
                      refl,
                      tt,
                      All-nil _,
                      tt,
                      tt,
                      refl,
                    ),
                    tt,
                  ),
                  refl,
                  All-nil _,
                  (
                    (
                      is_mix_2 (more_words (enum_type (enum_of 6 [] None (some_enum_body 7 (more_enumerators
                          (record { token = 8; name = 1 }) [] no_value no_enumerators) None 9))) no_words) refl,
                      ((All-nil _, tt, ((λ is. absurd cc), (All-nil _, tt, tt))), tt),
                      tt,
                      tt,
                      tt,
                      tt,
                    ),
                    (
                      (
                        is_mix_2 (more_words (auto_word 11) no_words) refl,
                        (tt, tt),
                        refl,
                        (All-nil _, tt, refl, tt, All-nil _, (tt, (leb-true 1 16 refl)), tt, refl),
                        no_typedef,
                        λ e m. absurd cc,
                      ),
                      tt,
                    ),
                  ),
                  refl,
                ) (All-nil _));
            low = leb-true _ 500 refl;
          });
    };
    bad = record { name = 1; kind = Value; scopes = _; there = (6, ltb-true 6 _ refl, refl); other = refl };
  }

  pub enumerator_named_as_parameter_bad : MayHaveOtherKind true enumerator_named_as_parameter 10
  enumerator_named_as_parameter_bad = record {
    items = ((old_function_item [] (more_words (basic (record { token = 0; keyword = words.Int })) no_words)
        (identifiers (declr_name 1 0) 2 ((record { token = 3; name = 1 }) ∷ []) 4) []
        ((declaration [] (more_words (basic (record { token = 5; keyword = words.Int })) no_words)
        (more_init_declrs [] (declr_name 6 1) None [] no_init no_init_declrs) 7) ∷ (declaration []
        (more_words (enum_type (enum_of 8 [] None (some_enum_body 9 (more_enumerators (record { token = 10; name = 1 })
        [] no_value no_enumerators) None 11))) no_words) no_init_declrs 12) ∷ []) 13 no_block_items 14) ∷ []);
    tree = record {
      behind = ((kinds.Punct signs.CloseBrace) ∷ (kinds.Punct signs.Semicolon) ∷ (kinds.Punct signs.OpenBrace)
          ∷ (kinds.Punct signs.CloseBrace) ∷ kinds.End ∷ []);
      spelled = record { last = 15; spelled = refl };
      derived = trees _ ((old_function_item [] (more_words (basic (record { token = 0; keyword = words.Int })) no_words)
          (identifiers (declr_name 1 0) 2 ((record { token = 3; name = 1 }) ∷ []) 4) []
          ((declaration [] (more_words (basic (record { token = 5; keyword = words.Int })) no_words)
          (more_init_declrs [] (declr_name 6 1) None [] no_init no_init_declrs) 7) ∷ (declaration [] (more_words
          (enum_type (enum_of 8 [] None (some_enum_body 9 (more_enumerators (record { token = 10; name = 1 }) []
          no_value no_enumerators) None 11))) no_words) no_init_declrs 12) ∷ []) 13 no_block_items 14) ∷ []) (record {
            parts = (All-cons (IsItem (numbered (take 11 enumerator_named_as_parameter
                ++ ((kinds.Punct signs.CloseBrace) ∷ (kinds.Punct signs.Semicolon) ∷ (kinds.Punct signs.OpenBrace)
                ∷ (kinds.Punct signs.CloseBrace) ∷ kinds.End ∷ []))))
                (old_function_item [] (more_words (basic (record { token = 0; keyword = words.Int })) no_words)
                (identifiers (declr_name 1 0) 2 ((record { token = 3; name = 1 }) ∷ []) 4) []
                ((declaration [] (more_words (basic (record { token = 5; keyword = words.Int })) no_words)
                (more_init_declrs [] (declr_name 6 1) None [] no_init no_init_declrs) 7) ∷ (declaration [] (more_words
                (enum_type (enum_of 8 [] None (some_enum_body 9 (more_enumerators (record { token = 10; name = 1 })
                [] no_value no_enumerators) None 11))) no_words) no_init_declrs 12) ∷ []) 13 no_block_items 14) [] (
                  is_mix_2 (more_words (basic (record { token = 0; keyword = words.Int })) no_words) refl,
                  (tt, tt),
                  refl,
                  no_typedef,
                  (tt, refl, (λ is. absurd cc)),
                  refl,
                  All-nil _,
                  All-cons (IsDeclaration (numbered (take 11 enumerator_named_as_parameter
                      ++ ((kinds.Punct signs.CloseBrace) ∷ (kinds.Punct signs.Semicolon) ∷ (kinds.Punct signs.OpenBrace)
                      ∷ (kinds.Punct signs.CloseBrace) ∷ kinds.End ∷ []))))
                      (declaration [] (more_words (basic (record { token = 5; keyword = words.Int })) no_words)
                      (more_init_declrs [] (declr_name 6 1) None [] no_init no_init_declrs) 7)
                      ((declaration [] (more_words (enum_type (enum_of 8 [] None (some_enum_body 9 (more_enumerators
                      (record { token = 10; name = 1 }) [] no_value no_enumerators) None 11))) no_words)
                      no_init_declrs 12) ∷ []) (
                        is_mix_2 (more_words (basic (record { token = 5; keyword = words.Int })) no_words) refl,
                        (tt, tt),
                        refl,
                        (All-nil _, tt, refl, tt, All-nil _, tt, tt, refl),
                        tt,
                        λ e m. absurd cc,
                      ) (All-cons (IsDeclaration (numbered (take 11 enumerator_named_as_parameter
                      ++ ((kinds.Punct signs.CloseBrace) ∷ (kinds.Punct signs.Semicolon)
                      ∷ (kinds.Punct signs.OpenBrace) ∷ (kinds.Punct signs.CloseBrace) ∷ kinds.End ∷ []))))
                      (declaration [] (more_words (enum_type (enum_of 8 [] None (some_enum_body 9 (more_enumerators
                      (record { token = 10; name = 1 }) [] no_value no_enumerators) None 11))) no_words)
                      no_init_declrs 12) [] (
                        is_mix_2 (more_words (enum_type (enum_of 8 [] None (some_enum_body 9 (more_enumerators
                            (record { token = 10; name = 1 }) [] no_value no_enumerators) None 11))) no_words) refl,
                        ((All-nil _, tt, ((λ is. absurd cc), (All-nil _, tt, tt))), tt),
                        tt,
                        tt,
                        tt,
                        tt,
                      ) (All-nil _)),
                  tt,
                  tt,
                  refl,
                ) (All-nil _));
            low = leb-true _ 500 refl;
          });
    };
    bad = record { name = 1; kind = Constant; scopes = _; there = (5, ltb-true 5 _ refl, refl); other = refl };
  }

  pub begin_of_range_assigned_bad : MayHaveNoUnaryLeft true begin_of_range_assigned 13
  begin_of_range_assigned_bad = record {
    sign = signs.Equal;
    is = refl;
    assigns = refl;
    items = ((decl_item
        (decl_declaration (declaration [] (more_words (basic (record { token = 0; keyword = words.Int })) no_words)
        (more_init_declrs [] (declr_name 1 0) None [] no_init no_init_declrs) 2))) ∷ (decl_item (decl_declaration
        (declaration [] (more_words (basic (record { token = 3; keyword = words.Int })) no_words) (more_init_declrs []
        (array (declr_name 4 1) 5 [] no_size 6) None [] (some_init 7 (init_braced (init_list 8 (more_init_items
        (more_desigs (range_desig 9 (operation (number_use 10) (binary signs.Plus) 11 (name_use 12 0)) 13 (number_use
        14) 15) no_desigs) (Some 16) (init_value (number_use 17)) no_init_items) None 18))) no_init_declrs) 19))) ∷ []);
    tree = record {
      behind =
          ((kinds.Punct signs.Ellipsis) ∷ kinds.Number ∷ (kinds.Punct signs.CloseBracket) ∷ (kinds.Punct signs.Equal)
          ∷ kinds.Number ∷ (kinds.Punct signs.CloseBrace) ∷ (kinds.Punct signs.Semicolon) ∷ kinds.End ∷ []);
      spelled = record { last = 20; spelled = refl };
      derived = trees _ ((decl_item
          (decl_declaration (declaration [] (more_words (basic (record { token = 0; keyword = words.Int })) no_words)
          (more_init_declrs [] (declr_name 1 0) None [] no_init no_init_declrs) 2))) ∷ (decl_item
          (decl_declaration (declaration [] (more_words (basic (record { token = 3; keyword = words.Int })) no_words)
          (more_init_declrs [] (array (declr_name 4 1) 5 [] no_size 6) None []
          (some_init 7 (init_braced (init_list 8 (more_init_items (more_desigs (range_desig 9
          (operation (number_use 10) (binary signs.Plus) 11 (name_use 12 0)) 13 (number_use 14) 15) no_desigs) (Some 16)
          (init_value (number_use 17)) no_init_items) None 18))) no_init_declrs) 19))) ∷ []) (record {
            parts = (All-cons (IsItem (numbered (take 13 begin_of_range_assigned ++ ((kinds.Punct signs.Ellipsis)
                ∷ kinds.Number ∷ (kinds.Punct signs.CloseBracket) ∷ (kinds.Punct signs.Equal) ∷ kinds.Number
                ∷ (kinds.Punct signs.CloseBrace) ∷ (kinds.Punct signs.Semicolon) ∷ kinds.End ∷ []))))
                (decl_item (decl_declaration
                (declaration [] (more_words (basic (record { token = 0; keyword = words.Int })) no_words)
                (more_init_declrs [] (declr_name 1 0) None [] no_init no_init_declrs) 2))) ((decl_item (decl_declaration
                (declaration [] (more_words (basic (record { token = 3; keyword = words.Int })) no_words)
                (more_init_declrs [] (array (declr_name 4 1) 5 [] no_size 6) None []
                (some_init 7 (init_braced (init_list 8 (more_init_items (more_desigs (range_desig 9
                (operation (number_use 10) (binary signs.Plus) 11 (name_use 12 0)) 13 (number_use 14) 15) no_desigs)
                (Some 16) (init_value (number_use 17)) no_init_items) None 18))) no_init_declrs) 19))) ∷ []) (
                  is_mix_2 (more_words (basic (record { token = 0; keyword = words.Int })) no_words) refl,
                  (tt, tt),
                  refl,
                  (All-nil _, tt, refl, tt, All-nil _, tt, tt, refl),
                  tt,
                  λ e m. absurd cc,
                ) (All-cons (IsItem (numbered (take 13 begin_of_range_assigned ++ ((kinds.Punct signs.Ellipsis)
                ∷ kinds.Number ∷ (kinds.Punct signs.CloseBracket) ∷ (kinds.Punct signs.Equal) ∷ kinds.Number
                ∷ (kinds.Punct signs.CloseBrace) ∷ (kinds.Punct signs.Semicolon) ∷ kinds.End ∷ [])))) (decl_item
                (decl_declaration (declaration [] (more_words (basic (record { token = 3; keyword = words.Int }))
                no_words) (more_init_declrs [] (array (declr_name 4 1) 5 [] no_size 6) None []
                (some_init 7 (init_braced (init_list 8 (more_init_items (more_desigs (range_desig 9
                (operation (number_use 10) (binary signs.Plus) 11 (name_use 12 0)) 13 (number_use 14) 15) no_desigs)
                (Some 16) (init_value (number_use 17)) no_init_items) None 18))) no_init_declrs) 19))) [] (
                  is_mix_2 (more_words (basic (record { token = 3; keyword = words.Int })) no_words) refl,
                  (tt, tt),
                  refl,
                  (
                    All-nil _,
                    (tt, refl, refl, All-nil _, tt),
                    refl,
                    tt,
                    All-nil _,
                    (
                      (
                        (
                          (
                            (tt, tt, (leb-true 1 9 refl), tt, (leb-true 11 16 refl), (leb-true 12 16 refl)),
                            (leb-true 2 11 refl),
                            tt,
                            (leb-true 2 16 refl),
                          ),
                          tt,
                        ),
                        refl,
                        (tt, (leb-true 1 16 refl)),
                        tt,
                      ),
                      tt,
                    ),
                    tt,
                    refl,
                  ),
                  tt,
                  λ e m. absurd cc,
                ) (All-nil _)));
            low = leb-true _ 500 refl;
          });
    };
    bad = record {
      scopes = _;
      left = (operation (number_use 10) (binary signs.Plus) 11 (name_use 12 0));
      there = (4, ltb-true 4 _ refl, refl);
      low = ltb-true _ 14 refl;
      ends = refl;
    };
  }

  pub end_of_range_assigned_bad : MayHaveNoUnaryLeft true end_of_range_assigned 15
  end_of_range_assigned_bad = record {
    sign = signs.Equal;
    is = refl;
    assigns = refl;
    items = ((decl_item
        (decl_declaration (declaration [] (more_words (basic (record { token = 0; keyword = words.Int })) no_words)
        (more_init_declrs [] (declr_name 1 0) None [] no_init no_init_declrs) 2))) ∷ (decl_item
        (decl_declaration (declaration [] (more_words (basic (record { token = 3; keyword = words.Int })) no_words)
        (more_init_declrs [] (array (declr_name 4 1) 5 [] no_size 6) None []
        (some_init 7 (init_braced (init_list 8 (more_init_items (more_desigs (range_desig 9 (number_use 10) 11
        (operation (number_use 12) (binary signs.Plus) 13 (name_use 14 0)) 15) no_desigs) (Some 16)
        (init_value (number_use 17)) no_init_items) None 18))) no_init_declrs) 19))) ∷ []);
    tree = record {
      behind = ((kinds.Punct signs.CloseBracket) ∷ (kinds.Punct signs.Equal) ∷ kinds.Number
          ∷ (kinds.Punct signs.CloseBrace) ∷ (kinds.Punct signs.Semicolon) ∷ kinds.End ∷ []);
      spelled = record { last = 20; spelled = refl };
      derived = trees _ ((decl_item
          (decl_declaration (declaration [] (more_words (basic (record { token = 0; keyword = words.Int })) no_words)
          (more_init_declrs [] (declr_name 1 0) None [] no_init no_init_declrs) 2))) ∷ (decl_item
          (decl_declaration (declaration [] (more_words (basic (record { token = 3; keyword = words.Int })) no_words)
          (more_init_declrs [] (array (declr_name 4 1) 5 [] no_size 6) None []
          (some_init 7 (init_braced (init_list 8 (more_init_items (more_desigs (range_desig 9 (number_use 10) 11
          (operation (number_use 12) (binary signs.Plus) 13 (name_use 14 0)) 15) no_desigs) (Some 16)
          (init_value (number_use 17)) no_init_items) None 18))) no_init_declrs) 19))) ∷ []) (record {
            parts = (All-cons (IsItem (numbered (take 15 end_of_range_assigned ++ ((kinds.Punct signs.CloseBracket)
                ∷ (kinds.Punct signs.Equal) ∷ kinds.Number ∷ (kinds.Punct signs.CloseBrace)
                ∷ (kinds.Punct signs.Semicolon) ∷ kinds.End ∷ [])))) (decl_item (decl_declaration
                (declaration [] (more_words (basic (record { token = 0; keyword = words.Int })) no_words)
                (more_init_declrs [] (declr_name 1 0) None [] no_init no_init_declrs) 2))) ((decl_item (decl_declaration
                (declaration [] (more_words (basic (record { token = 3; keyword = words.Int })) no_words)
                (more_init_declrs [] (array (declr_name 4 1) 5 [] no_size 6) None []
                (some_init 7 (init_braced (init_list 8 (more_init_items (more_desigs (range_desig 9 (number_use 10) 11
                (operation (number_use 12) (binary signs.Plus) 13 (name_use 14 0)) 15) no_desigs) (Some 16)
                (init_value (number_use 17)) no_init_items) None 18))) no_init_declrs) 19))) ∷ []) (
                  is_mix_2 (more_words (basic (record { token = 0; keyword = words.Int })) no_words) refl,
                  (tt, tt),
                  refl,
                  (All-nil _, tt, refl, tt, All-nil _, tt, tt, refl),
                  tt,
                  λ e m. absurd cc,
                ) (All-cons (IsItem (numbered (take 15 end_of_range_assigned ++ ((kinds.Punct signs.CloseBracket)
                ∷ (kinds.Punct signs.Equal) ∷ kinds.Number ∷ (kinds.Punct signs.CloseBrace)
                ∷ (kinds.Punct signs.Semicolon) ∷ kinds.End ∷ [])))) (decl_item (decl_declaration
                (declaration [] (more_words (basic (record { token = 3; keyword = words.Int })) no_words)
                (more_init_declrs [] (array (declr_name 4 1) 5 [] no_size 6) None []
                (some_init 7 (init_braced (init_list 8 (more_init_items (more_desigs (range_desig 9 (number_use 10) 11
                (operation (number_use 12) (binary signs.Plus) 13 (name_use 14 0)) 15) no_desigs) (Some 16)
                (init_value (number_use 17)) no_init_items) None 18))) no_init_declrs) 19))) [] (
                  is_mix_2 (more_words (basic (record { token = 3; keyword = words.Int })) no_words) refl,
                  (tt, tt),
                  refl,
                  (
                    All-nil _,
                    (tt, refl, refl, All-nil _, tt),
                    refl,
                    tt,
                    All-nil _,
                    (
                      (
                        (
                          (
                            tt,
                            (leb-true 2 16 refl),
                            (tt, tt, (leb-true 1 9 refl), tt, (leb-true 11 16 refl), (leb-true 12 16 refl)),
                            (leb-true 2 11 refl),
                          ),
                          tt,
                        ),
                        refl,
                        (tt, (leb-true 1 16 refl)),
                        tt,
                      ),
                      tt,
                    ),
                    tt,
                    refl,
                  ),
                  tt,
                  λ e m. absurd cc,
                ) (All-nil _)));
            low = leb-true _ 500 refl;
          });
    };
    bad = record {
      scopes = _;
      left = (operation (number_use 12) (binary signs.Plus) 13 (name_use 14 0));
      there = (5, ltb-true 5 _ refl, refl);
      low = ltb-true _ 14 refl;
      ends = refl;
    };
  }
