-- Bounds of the readers of statements and declarations.
use Rattle.std.proofs.Common.{◌≡◌, ℕ, ◌+◌, ◌<◌, ◌≤◌, Bool, true, false, if◌then◌else◌, List, [], ◌∷◌, ◌++◌, length, Option, Some, None, refl, arith}
use Rattle.std.specs.Prelude.{◌*◌, ◌-◌, max, not, ◌&&◌}
use Rattle.c_words.specs.declared.kinds.TokenKind.{TokenKind}
use Rattle.c_syntax.specs.declared.parts.Attr.{Attr}
use Rattle.c_tree.specs.Tree.{init_value, Expr, no_expr, some_expr, SpecWords, no_words, more_words, typedef_name, Declr, base_name, no_init, some_init, declaration, decl_declaration, decl_assert, block_decl, block_stmt, Stmt, attr_stmt, switch_stmt, while_stmt, continue_stmt, break_stmt, no_else, some_else, start_declaration, start_value}
use Rattle.c_tree.specs.Height.{some_declr_height, specs_height, attrs_height, block_item_height, declaration_height, declr_height, expr_height, for_start_height, init_height, label_height, some_else_height, some_expr_height, some_init_height, stmt_height}
use Rattle.typedef_scope.specs.declared.kind.Kind.{Kind}
use Rattle.c_units.specs.HeldScopes.{is_wide, names_type, enter, leave, HeldScopes}
use Rattle.c_units.specs.Scoping.{declared_kind, at_name, has_typedef_word}
use Rattle.c_tree.specs.Specifiers.{storage_words}
use Rattle.c_tree.specs.WellFormed.{has_auto}
use Rattle.c_syntax.specs.declared.parts.Identifier.{Identifier}
use Rattle.typedef_scope.specs.declared.kind.Kind.TheVariants.{Value}
use Rattle.c_reading.specs.declared.kinds.FaultKind.TheVariants.{Unexpected}
use Rattle.c_reading.specs.declared.kinds.Reach.TheVariants.{Whole, Assigned, Conditional}
use Rattle.c_reading.specs.declared.kinds.Role.TheVariants.{Declaring}
use Rattle.c_reading.specs.declared.kinds.StmtStart.{StmtStart}
use Rattle.c_reading.specs.declared.kinds.StmtStart.TheVariants as starts
use Rattle.c_reading.specs.Reading.{Reader, ends, refuses, fits, kind_at, behind_first, take_one, token_at, listed, IsNumbered, and_then}
use Rattle.c_reading.specs.Tokens.{is_dots, is_star, is_label_word, name_at, is_open_paren, is_close_paren, is_open_brace, is_close_brace, is_colon, is_semicolon, is_equal, is_base_word, is_asm, is_while, is_else, is_extension, is_attribute, is_static_assert, spelled_name, group_at, assert_at, is_end}
use Rattle.c_reading.specs.Specifying.{begins_specs}
use Rattle.c_reading.specs.Declaring.{words_of_attrs}
use Rattle.c_reading.specs.Expressing.{begins_expr}
use Rattle.c_reading.specs.Initialising.{init_with}
use Rattle.c_reading.specs.Parts.{Inner, Begun, nothing, extensions, DeclrItem, init_declrs_from}
use Rattle.c_reading.specs.Stating as stating
use Rattle.c_reading.specs.Stating.{auto_declr, auto_name, auto_declarator, auto_behind, labels_with, goto_value_with, goto_name, stmt_start, label_at, some_init_with, declr_behind, init_declr_with, next_init_declr, declrs_with, bare_declaration, declaration_behind, declaration_with, declaration_from, expr_stmt_with, label_with, named_item, extended_item, attr_item_by, attr_item, other_item, block_item_with, block_body, block_with, some_expr_with, case_with, default_with, some_else_with, if_inside, headed_inside, do_inside, start_value_with, extended_start, for_start_with, for_inside, goto_with, jump_with, return_with, asm_with, attr_stmt_with, named_stmt, stmt_by, stmt_with}
use Rattle.c_tree.specs.declared.lexeme.Lexeme.{Lexeme}
use Rattle.c_syntax.specs.declared.parts.Assert.{Assert}
use Rattle.c_syntax.specs.declared.parts.Group.{Group}
use Rattle.c_reading.proofs.Aims.{TokenLaws, Laws}
use Rattle.deep_places.proofs.Words.{b_names_list, name_shrinks, attrs_low, b_group_at, b_assert_at, b_asm_words_at, b_extensions_at, b_attrs_at}
use Rattle.c_reading.proofs.StmtFalls.{labels_shrinks, next_declr_falls, block_item_shrinks}
use Rattle.deep_places.proofs.Heights.{most_append, low_init_declrs, low_block_items, low_words_of_attrs}
use Rattle.deep_places.proofs.Specs.{b_specs_here, b_named_declr, b_present}
use Rattle.deep_places.proofs.Declrs.{b_name_held}
use Rattle.deep_places.proofs.Inits.{b_init_with}
use Rattle.deep_places.specs.Bounds.{declared_height, BoundAt, most_of, begun_levels, block_tree_height, declr_item_height, InnerBounds}
use Rattle.deep_places.proofs.Bounding.{bound_ends, bound_weaker, bound_bind, bound_fits, bound_if, token_levels, no_levels, bound_take, bound_token, bound_name, bound_repeated, next_height, list_height, bound_listed, known_of, known_by}

module _ (all : List Lexeme) (numbered : IsNumbered all) (tokens : TokenLaws all) (n : ℕ) (inner : Inner)
    (laws : Laws all n inner)
    (good : InnerBounds inner) where
  pub b_label_at : (room : ℕ) (s : HeldScopes) (ts : List Lexeme) → BoundAt label_height (1) room (0) ts (label_at s ts)
  unfolding label_at
  b_label_at room s ts =
      bound_if _ _ _ _ _ (is_asm (kind_at ts))
      (and_then (take_one s ts) (λ keyword. (and_then (group_at keyword.scopes keyword.rest) (λ group.
      (ends (Some (record { keyword = keyword.tree; group = group.tree })) group.scopes group.rest))))) (ends None s ts)
      (λ is569. bound_bind token_levels _ (0) _ _ _ _ _ _ (bound_take _ _ _ _) (λ keyword b570 e571 l572. bound_bind
      (no_levels {A = Group}) _ (0) _ _ _ _ _ _ (bound_weaker _ (0) room (0) _ _ _ _ _ (omega arith) (omega arith)
      (b_group_at room _ _)) (λ group b573 e574 l575. bound_ends _ _ _ _ _ _ _ (omega arith))))
      (λ is569. bound_ends _ _ _ _ _ _ _ (omega arith))

  pub b_some_init_with : (room : ℕ) (s : HeldScopes) (ts : List Lexeme)
      → BoundAt some_init_height (1) room (10) ts (some_init_with
      inner room s ts)
  unfolding some_init_with
  b_some_init_with room s ts =
      bound_if _ _ _ _ _ (is_equal (kind_at ts))
      (and_then (take_one s ts) (λ equal. (and_then (init_with inner (room - 1) equal.scopes equal.rest)
      (λ init. (ends (some_init equal.tree init.tree) init.scopes init.rest))))) (ends no_init s ts)
      (λ is576. bound_bind token_levels _ (0) _ _ _ _ _ _ (bound_take _ _ _ _)
      (λ equal b577 e578 l579. bound_bind init_height _ (1) _ _ _ _ _ _ (bound_weaker _ (1) (room - 1) (10) _ _ _ _ _
      (omega arith) (omega arith) (b_init_with all numbered tokens n inner laws good (room - 1) _ _))
      (λ init b580 e581 l582. bound_ends _ _ _ _ _ _ _ (omega arith))))
      (λ is576. bound_ends _ _ _ _ _ _ _ (omega arith))

  pub b_declr_behind : (before : List Attr) (d : Declr) (room : ℕ) (s : HeldScopes) (ts : List Lexeme)
      → BoundAt declr_item_height
      (declr_height d + 2) room (declr_height d + 10) ts (declr_behind inner before d room s ts)
  unfolding declr_behind
  b_declr_behind before d room s ts =
      let g583 = attrs_low before in
      bound_bind label_height _ (1) _ _ _ _ _ _ (bound_weaker _ (1) room (0) _ _ _ _ _ (omega arith) (omega arith)
      (b_label_at room _ _)) (λ name b584 e585 l586. bound_bind attrs_height _ (1) _ _ _ _ _ _
      (bound_weaker _ (1) room (1) _ _ _ _ _ (omega arith) (omega arith) (b_attrs_at room _ _)) (λ attrs b587 e588 l589.
      bound_bind some_init_height _ (1) _ _ _ _ _ _ (bound_weaker _ (1) room (10) _ _ _ _ _ (omega arith) (omega arith)
      (b_some_init_with room _ _)) (λ init b590 e591 l592. bound_ends _ _ _ _ _ _ _ (omega arith))))

  pub b_init_declr_with : (before : List Attr) (kind : Kind) (room : ℕ) (s : HeldScopes) (ts : List Lexeme) → BoundAt
      declr_item_height (2) room (11) ts (init_declr_with inner before kind room s ts)
  unfolding init_declr_with
  b_init_declr_with before kind room s ts =
      bound_bind declr_height _ (0) _ _ _ _ _ _ (bound_weaker _ (0) (room - 1) (10) _ _ _ _ _ (omega arith)
      (omega arith) (b_named_declr all numbered tokens n inner laws good (Some kind) (room - 1) _ _))
      (λ d b593 e594 l595. bound_weaker _ (declr_height d.tree + 2) room (declr_height d.tree + 10) _ _ _ _ _
      (omega arith) (omega arith) (b_declr_behind before d.tree room _ _))

  pub b_next_init_declr : (kind : Kind) (room : ℕ) (token : ℕ) (s : HeldScopes) (ts : List Lexeme)
      → BoundAt (next_height {E = ⊥}
      declr_item_height) (2) room (11) ts (next_init_declr inner kind room token s ts)
  unfolding next_init_declr
  b_next_init_declr kind room token s ts =
      bound_bind attrs_height _ (1) _ _ _ _ _ _
      (bound_weaker _ (1) room (1) _ _ _ _ _ (omega arith) (omega arith) (b_attrs_at room _ _)) (λ attrs b596 e597 l598.
      bound_bind declr_item_height _ (2) _ _ _ _ _ _ (bound_weaker _ (2) room (11) _ _ _ _ _ (omega arith) (omega arith)
      (b_init_declr_with attrs.tree kind room _ _)) (λ d b599 e600 l601. bound_ends _ _ _ _ _ _ _ (omega arith)))

  pub b_declrs_with : (exts : List ℕ) (words : SpecWords) (kind : Kind) (room : ℕ) (first : Reader DeclrItem)
      (s : HeldScopes) (ts :
      List Lexeme) (e : ℕ) → 2 ≤ e →
      ((s : HeldScopes) (ts : List Lexeme) → BoundAt declr_item_height e room (e + 14) ts (first s ts))
      → BoundAt declaration_height
      (specs_height words + e + 1) room (e + 15) ts (declrs_with inner exts words kind room first s ts)
  unfolding declrs_with
  b_declrs_with exts words kind room first s ts e high item =
      bound_bind (list_height {E = ⊥} declr_item_height) declaration_height e (specs_height words + e + 1) room
      (e + 15) ts (listed first (next_init_declr inner kind (room - 1)) s ts)
      (λ ds. and_then (token_at is_semicolon ds.scopes ds.rest)
      (λ semi. ends (declaration exts words (init_declrs_from ds.tree.items) semi.tree) semi.scopes semi.rest))
      (bound_listed first (next_init_declr inner kind (room - 1)) declr_item_height e room (e + 15)
      (λ comma. next_declr_falls all tokens n inner laws kind (room - 1) comma) (omega arith) s ts
      (bound_weaker declr_item_height e room (e + 14) e room (e + 15) ts (first s ts) (omega arith) (omega arith)
      (item s ts)) (λ comma s9 ts9. bound_weaker (next_height {E = ⊥} declr_item_height) 2 (room - 1) 11 e room
      (e + 15) ts9 (next_init_declr inner kind (room - 1) comma s9 ts9) (omega arith) (omega arith)
      (b_next_init_declr kind (room - 1) comma s9 ts9)))
      (λ ds b1 e1 l1. bound_bind token_levels declaration_height 0 (8 * length b1 + (specs_height words + e + 1)) room
      (8 * length b1 + (e + 15)) ds.rest (token_at is_semicolon ds.scopes ds.rest)
      (λ semi. ends (declaration exts words (init_declrs_from ds.tree.items) semi.tree) semi.scopes semi.rest)
      (bound_token is_semicolon room (8 * length b1 + (e + 15)) ds.scopes ds.rest) (λ semi b2 e2 l2.
      bound_ends declaration_height (8 * length b2 + (8 * length b1 + (specs_height words + e + 1))) room
      (8 * length b2 + (8 * length b1 + (e + 15))) (declaration exts words (init_declrs_from ds.tree.items) semi.tree)
      semi.scopes semi.rest (let few = low_init_declrs ds.tree.items in omega arith)))

  pub b_bare_declaration : (exts : List ℕ) (words : SpecWords) (room : ℕ) (s : HeldScopes) (ts : List Lexeme)
      → is_end (kind_at ts) ≡ false → BoundAt declaration_height (specs_height words + 1) room
      (specs_height words + 14) ts (bare_declaration inner exts words room s ts)
  unfolding bare_declaration
  b_bare_declaration exts words room s ts known =
      bound_fits _ _ _ _ _ _ _ _ (known) (λ less602. omega arith)
      (λ less602. bound_bind token_levels _ (0) _ _ _ _ _ _ (bound_take _ _ _ _) (λ semi b603 e604 l605.
      bound_ends _ _ _ _ _ _ _ (let f606 = low_init_declrs [] in omega arith)))

  pub b_auto_declr : (exts : List ℕ) (words : SpecWords) (d : Declr) (room : ℕ) (s : HeldScopes) (ts : List Lexeme)
      → BoundAt declaration_height (specs_height words + declr_height d + 4) room (14) ts
      (auto_declr inner exts words d room s ts)
  unfolding auto_declr
  b_auto_declr exts words d room s ts =
      bound_bind attrs_height _ (1) _ _ _ _ _ _
      (bound_weaker _ (1) room (1) _ _ _ _ _ (omega arith) (omega arith) (b_attrs_at room _ _)) (λ attrs p504 q504 r504.
      bound_bind token_levels _ (0) _ _ _ _ _ _ (bound_token is_equal _ _ _ _) (λ equal p503 q503 r503. bound_bind
      expr_height _ (1 + begun_levels nothing) _ _ _ _ _ _ (bound_weaker _ (1 + begun_levels nothing) (room - 1)
      (10 + begun_levels nothing) _ _ _ _ _ (omega arith) (omega arith) (good.expr Assigned nothing (room - 1) _ _))
      (λ e p502 q502 r502. bound_bind token_levels _ (0) _ _ _ _ _ _ (bound_token is_semicolon _ _ _ _)
      (λ semi p501 q501 r501. bound_ends _ _ _ _ _ _ _ (let few = low_init_declrs (record {
        before = [];
        declr = d;
        label = None;
        attrs = attrs.tree;
        init
            = some_init equal.tree (init_value e.tree);
      } ∷ []) in omega arith)))))

  b_auto_name : (o : Option ℕ) (room : ℕ) (s : HeldScopes) (ts : List Lexeme)
      → ((o ≡ None → ⊥) → is_end (kind_at ts) ≡ false)
      → BoundAt declr_height (0) room (0) ts (auto_name inner o room s ts)
  b_auto_name None room s ts known = record { held = λ e. absurd cc }
  b_auto_name (Some name) room s ts known =
      bound_bind declared_height _ (0) _ _ _ _ _ _ (bound_weaker _ (0) room (0) _ _ _ _ _ (omega arith) (omega arith)
      (b_name_held all numbered tokens n inner laws good name room (at_name (Some Value) name s) s ts
      (known (λ e9. absurd cc))))
      (λ d b1 e1 l1. bound_weaker _ (some_declr_height d.tree.declr) room (0) _ _ _ _ _ (omega arith) (omega arith)
      (b_present all numbered tokens n inner laws good room d.tree.declr d.scopes d.rest))

  b_auto_declarator : (typed : Bool) (room : ℕ) (s : HeldScopes) (ts : List Lexeme)
      → BoundAt declr_height (0) room (0) ts (auto_declarator inner typed room s ts)
  b_auto_declarator false room s ts =
      b_auto_name (spelled_name (kind_at ts)) room s ts (known_of spelled_name None refl (kind_at ts))
  b_auto_declarator true room s ts =
      bound_if _ _ _ _ _ (is_base_word (kind_at ts)) (fits 1 room ts
      (and_then (take_one s ts) (λ token. ends (base_name token.tree) token.scopes token.rest))) (refuses Unexpected ts)
      (λ on. bound_fits _ _ _ _ _ _ _ _ (known_by (λ kind9. is_base_word kind9) refl (kind_at ts) on)
      (λ less. omega arith) (λ less. bound_bind token_levels _ (0) _ _ _ _ _ _ (bound_take _ _ _ _)
      (λ token b1 e1 l1. bound_ends _ _ _ _ _ _ _ (omega arith)))) (λ off. record { held = λ e. absurd cc })

  pub b_auto_behind : (exts : List ℕ) (words : SpecWords) (room : ℕ) (s : HeldScopes) (ts : List Lexeme) → BoundAt
      declaration_height (specs_height words + 4) room (specs_height words + 17) ts
      (auto_behind inner exts words room s ts)
  unfolding auto_behind
  b_auto_behind exts words room s ts =
      bound_bind declr_height _ (0) _ _ _ _ _ _ (bound_weaker _ (0) (room - 2) (0) _ _ _ _ _ (omega arith) (omega arith)
      (b_auto_declarator (has_typedef_word (storage_words words)) (room - 2) s ts))
      (λ d p505 q505 r505. bound_weaker _ (specs_height words + declr_height d.tree + 4) (room - 1) (14) _ _ _ _ _
      (omega arith) (omega arith) (b_auto_declr exts words d.tree (room - 1) d.scopes d.rest))

  pub b_declaration_behind : (exts : List ℕ) (words : SpecWords) (room : ℕ) (s : HeldScopes) (ts : List Lexeme)
      → BoundAt declaration_height (specs_height words + 4) room (specs_height words + 17) ts
      (declaration_behind inner exts words room s ts)
  unfolding declaration_behind
  b_declaration_behind exts words room s ts =
      bound_if _ _ _ _ _ (has_auto words) (auto_behind inner exts words room s ts)
      (if is_semicolon (kind_at ts) then bare_declaration inner exts words room s ts else declrs_with inner exts words
      (declared_kind words) room (init_declr_with inner [] (declared_kind words) (room - 1)) s ts)
      (λ on. b_auto_behind exts words room s ts) (λ off. bound_if _ _ _ _ _ (is_semicolon (kind_at ts))
      (bare_declaration inner exts words room s ts) (declrs_with inner exts words (declared_kind words) room
      (init_declr_with inner [] (declared_kind words) (room - 1)) s ts) (λ is607. bound_weaker _
      (specs_height words + 1) room (specs_height words + 14) _ _ _ _ _ (omega arith) (omega arith)
      (b_bare_declaration exts words room _ _ (known_by (λ kind9. is_semicolon kind9) refl (kind_at ts) is607)))
      (λ is607. bound_weaker _ (specs_height words + (2) + 1) room (2 + 15) _ _ _ _ _ (omega arith) (omega arith)
      (b_declrs_with exts words (declared_kind words) room (init_declr_with inner [] (declared_kind words) (room - 1)) _
      _ 2 (omega arith) (λ s8 ts8. bound_weaker declr_item_height 2 (room - 1) 11 2 room (2 + 14) ts8
      (init_declr_with inner [] (declared_kind words) (room - 1) s8 ts8) (omega arith) (omega arith)
      (b_init_declr_with [] (declared_kind words) (room - 1) s8 ts8)))))

  pub b_declaration_with : (exts : List ℕ) (room : ℕ) (s : HeldScopes) (ts : List Lexeme)
      → BoundAt declaration_height (5) room (18)
      ts (declaration_with inner exts room s ts)
  unfolding declaration_with
  b_declaration_with exts room s ts =
      bound_bind specs_height _ (1) _ _ _ _ _ _ (bound_weaker _ (1) room (12) _ _ _ _ _ (omega arith) (omega arith)
      (b_specs_here all numbered tokens n inner laws good Declaring room _ _)) (λ words b608 e609 l610.
      bound_weaker _ (specs_height words.tree + 4) room (specs_height words.tree + 17) _ _ _ _ _ (omega arith)
      (omega arith) (b_declaration_behind exts words.tree room _ _))

  pub b_declaration_from : (known : SpecWords) (room : ℕ) (s : HeldScopes) (ts : List Lexeme)
      → BoundAt declaration_height
      (specs_height known + 4) room (specs_height known + 17) ts (declaration_from inner known room s ts)
  unfolding declaration_from
  b_declaration_from known room s ts =
      bound_bind specs_height _ (specs_height known) _ _ _ _ _ _ (bound_weaker _ (specs_height known) (room - 1)
      (specs_height known + 10) _ _ _ _ _ (omega arith) (omega arith) (good.specs Declaring known (room - 1) _ _))
      (λ words b611 e612 l613. bound_weaker _ (specs_height words.tree + 4) room (specs_height words.tree + 17) _ _ _ _
      _ (omega arith) (omega arith) (b_declaration_behind [] words.tree room _ _))

  pub b_expr_stmt_with : (begun : Begun) (room : ℕ) (s : HeldScopes) (ts : List Lexeme)
      → BoundAt stmt_height (2 + begun_levels
      begun) room (11 + begun_levels begun) ts (expr_stmt_with inner begun room s ts)
  unfolding expr_stmt_with
  b_expr_stmt_with begun room s ts =
      bound_bind expr_height _ (1 + begun_levels begun) _ _ _ _ _ _ (bound_weaker _ (1 + begun_levels begun) (room - 1)
      (10 + begun_levels begun) _ _ _ _ _ (omega arith) (omega arith) (good.expr Whole begun (room - 1) _ _))
      (λ e b614 e615 l616. bound_bind token_levels _ (0) _ _ _ _ _ _ (bound_token is_semicolon _ _ _ _)
      (λ semi b617 e618 l619. bound_ends _ _ _ _ _ _ _ (omega arith)))

  pub b_label_with : (room : ℕ) (s : HeldScopes) (ts : List Lexeme)
      → BoundAt stmt_height (2) room (10) ts (label_with inner room s ts)
  unfolding label_with
  b_label_with room s ts =
      bound_bind token_levels _ (0) _ _ _ _ _ _ (bound_name _ _ _ _) (λ name b620 e621 l622. bound_bind token_levels _
      (0) _ _ _ _ _ _ (bound_token is_colon _ _ _ _) (λ colon b623 e624 l625. bound_bind attrs_height _ (1) _ _ _ _ _ _
      (bound_weaker _ (1) room (1) _ _ _ _ _ (omega arith) (omega arith) (b_attrs_at room _ _)) (λ attrs b626 e627 l628.
      bound_bind stmt_height _ (2) _ _ _ _ _ _ (bound_weaker _ (2) (room - 1) (14) _ _ _ _ _ (omega arith) (omega arith)
      (good.stmt (room - 1) _ _)) (λ t b629 e630 l631. bound_ends _ _ _ _ _ _ _ (omega arith)))))

  pub b_named_item : (name : ℕ) (room : ℕ) (s : HeldScopes) (ts : List Lexeme) → is_end (kind_at ts) ≡ false → BoundAt
      block_item_height (6) room (20) ts (named_item inner name room s ts)
  unfolding named_item
  b_named_item name room s ts known =
      bound_fits _ _ _ _ _ _ _ _ (known) (λ less632. omega arith) (λ less632.
      bound_if _ _ _ _ _ (is_colon (kind_at (behind_first ts))) (and_then (label_with inner room s ts)
      (λ m634. (ends (block_stmt m634.tree) m634.scopes m634.rest))) (if names_type s name
      then (and_then (take_one s ts) (λ token. (and_then (declaration_from inner (more_words (typedef_name (record {
        token = token.tree;
        name = name;
      })) no_words) room token.scopes token.rest)
      (λ m635. (ends (block_decl (decl_declaration m635.tree)) m635.scopes m635.rest))))) else (and_then
      (expr_stmt_with inner nothing room s ts) (λ m636. (ends (block_stmt m636.tree) m636.scopes m636.rest))))
      (λ is633. bound_bind stmt_height _ (2) _ _ _ _ _ _ (bound_weaker _ (2) room (10) _ _ _ _ _ (omega arith)
      (omega arith) (b_label_with room _ _)) (λ m637 b638 e639 l640. bound_ends _ _ _ _ _ _ _ (omega arith))) (λ is633.
      bound_if _ _ _ _ _ (names_type s name) (and_then (take_one s ts) (λ token. (and_then (declaration_from inner
      (more_words (typedef_name (record { token = token.tree; name = name })) no_words) room token.scopes token.rest)
      (λ m642. (ends (block_decl (decl_declaration m642.tree)) m642.scopes m642.rest)))))
      (and_then (expr_stmt_with inner nothing room s ts) (λ m643. (ends (block_stmt m643.tree) m643.scopes m643.rest)))
      (λ is641. bound_bind token_levels _ (0) _ _ _ _ _ _ (bound_take _ _ _ _)
      (λ token b644 e645 l646. bound_bind declaration_height _ (specs_height
      (more_words (typedef_name (record { token = token.tree; name = name })) no_words) + 4) _ _ _ _ _ _ (bound_weaker _
      (specs_height (more_words (typedef_name (record { token = token.tree; name = name })) no_words) + 4) room
      (specs_height (more_words (typedef_name (record { token = token.tree; name = name })) no_words) + 17) _ _ _ _ _
      (omega arith) (omega arith)
      (b_declaration_from (more_words (typedef_name (record { token = token.tree; name = name })) no_words) room _ _))
      (λ m647 b648 e649 l650. bound_ends _ _ _ _ _ _ _ (omega arith)))) (λ is641.
      bound_bind stmt_height _ (2 + begun_levels nothing) _ _ _ _ _ _ (bound_weaker _ (2 + begun_levels nothing) room
      (11 + begun_levels nothing) _ _ _ _ _ (omega arith) (omega arith) (b_expr_stmt_with nothing room _ _))
      (λ m651 b652 e653 l654. bound_ends _ _ _ _ _ _ _ (omega arith)))))

  pub b_extended_item : (room : ℕ) (s : HeldScopes) (ts : List Lexeme)
      → BoundAt block_item_height (6) room (20) ts (extended_item
      inner room s ts)
  unfolding extended_item
  b_extended_item room s ts =
      bound_bind (λ (xs : List ℕ). length xs) _ (0) _ _ _ _ _ _
      (bound_weaker _ (0) room (1) _ _ _ _ _ (omega arith) (omega arith) (b_extensions_at room _ _))
      (λ exts b655 e656 l657. bound_if _ _ _ _ _ (begins_specs exts.scopes (kind_at exts.rest))
      (and_then (declaration_with inner exts.tree room exts.scopes exts.rest)
      (λ m659. (ends (block_decl (decl_declaration m659.tree)) m659.scopes m659.rest)))
      (and_then (expr_stmt_with inner (extensions exts.tree) room exts.scopes exts.rest)
      (λ m660. (ends (block_stmt m660.tree) m660.scopes m660.rest))) (λ is658. bound_bind declaration_height _
      (5) _ _ _ _ _ _ (bound_weaker _ (5) room (18) _ _ _ _ _ (omega arith) (omega arith)
      (b_declaration_with exts.tree room _ _)) (λ m661 b662 e663 l664. bound_ends _ _ _ _ _ _ _ (omega arith)))
      (λ is658. bound_bind stmt_height _ (2 + begun_levels (extensions exts.tree)) _ _ _ _ _ _ (bound_weaker _
      (2 + begun_levels (extensions exts.tree)) room (11 + begun_levels (extensions exts.tree)) _ _ _ _ _ (omega arith)
      (omega arith) (b_expr_stmt_with (extensions exts.tree) room _ _))
      (λ m665 b666 e667 l668. bound_ends _ _ _ _ _ _ _ (omega arith))))

  pub b_attr_item_by : (attrs : List Attr) (room : ℕ) (s : HeldScopes) (ts : List Lexeme)
      → BoundAt block_item_height (6) room (20)
      ts (attr_item_by inner attrs room s ts)
  unfolding attr_item_by
  b_attr_item_by attrs room s ts =
      let g669 = attrs_low attrs in
      bound_if _ _ _ _ _ (is_semicolon (kind_at ts))
      (and_then (take_one s ts) (λ semi. (ends (block_stmt (attr_stmt attrs semi.tree)) semi.scopes semi.rest)))
      (if begins_specs s (kind_at ts) then (and_then (declaration_from inner (words_of_attrs attrs) room s ts)
      (λ m671. (ends (block_decl (decl_declaration m671.tree)) m671.scopes m671.rest))) else (refuses Unexpected ts))
      (λ is670. bound_bind token_levels _ (0) _ _ _ _ _ _ (bound_take _ _ _ _)
      (λ semi b672 e673 l674. bound_ends _ _ _ _ _ _ _ (omega arith))) (λ is670. bound_if _ _ _ _ _
      (begins_specs s (kind_at ts)) (and_then (declaration_from inner (words_of_attrs attrs) room s ts)
      (λ m676. (ends (block_decl (decl_declaration m676.tree)) m676.scopes m676.rest))) (refuses Unexpected ts)
      (λ is675. let f678 = low_words_of_attrs attrs in
      bound_bind declaration_height _ (specs_height (words_of_attrs attrs) + 4) _ _ _ _ _ _ (bound_weaker _
      (specs_height (words_of_attrs attrs) + 4) room (specs_height (words_of_attrs attrs) + 17) _ _ _ _ _ (omega arith)
      (omega arith) (b_declaration_from (words_of_attrs attrs) room _ _))
      (λ m677 b679 e680 l681. bound_ends _ _ _ _ _ _ _ (omega arith))) (λ is675. record { held = λ e. absurd cc }))

  pub b_attr_item : (room : ℕ) (s : HeldScopes) (ts : List Lexeme)
      → BoundAt block_item_height (6) room (20) ts (attr_item inner room s ts)
  unfolding attr_item
  b_attr_item room s ts =
      bound_bind attrs_height _ (1) _ _ _ _ _ _
      (bound_weaker _ (1) room (1) _ _ _ _ _ (omega arith) (omega arith) (b_attrs_at room _ _)) (λ attrs b682 e683 l684.
      bound_weaker _ (6) room (20) _ _ _ _ _ (omega arith) (omega arith) (b_attr_item_by attrs.tree room _ _))

  pub b_other_item : (a0 : Option ℕ) (room : ℕ) (s : HeldScopes) (ts : List Lexeme)
      → ((a0 ≡ None → ⊥) → is_end (kind_at ts) ≡
      false) → BoundAt block_item_height (6) room (20) ts (other_item inner a0 room s ts)
  unfolding other_item
  b_other_item (Some name) room s ts known =
      bound_weaker _ (6) room (20) _ _ _ _ _ (omega arith) (omega arith)
      (b_named_item name room _ _ (known (λ e9. absurd cc)))
  b_other_item None room s ts known =
      bound_if _ _ _ _ _ (begins_specs s (kind_at ts)) (and_then (declaration_with inner [] room s ts)
      (λ m686. (ends (block_decl (decl_declaration m686.tree)) m686.scopes m686.rest)))
      (and_then (inner.stmt room s ts) (λ m687. (ends (block_stmt m687.tree) m687.scopes m687.rest)))
      (λ is685. bound_bind declaration_height _ (5) _ _ _ _ _ _ (bound_weaker _ (5) room (18) _ _ _ _ _ (omega arith)
      (omega arith) (b_declaration_with [] room _ _)) (λ m688 b689 e690 l691. bound_ends _ _ _ _ _ _ _ (omega arith)))
      (λ is685. bound_bind stmt_height _ (2) _ _ _ _ _ _ (bound_weaker _ (2) room (14) _ _ _ _ _ (omega arith)
      (omega arith) (good.stmt room _ _)) (λ m692 b693 e694 l695. bound_ends _ _ _ _ _ _ _ (omega arith)))

  pub b_block_item_with : (room : ℕ) (s : HeldScopes) (ts : List Lexeme) → BoundAt block_item_height (6) room (20) ts
      (block_item_with inner room s ts)
  unfolding block_item_with
  b_block_item_with room s ts =
      bound_if _ _ _ _ _ (is_static_assert (kind_at ts))
      (fits 1 room ts (and_then (assert_at s ts) (λ it. (ends (block_decl
      (decl_assert it.tree)) it.scopes it.rest)))) (if is_extension (kind_at ts)
      then (extended_item inner room s ts) else (if
      is_attribute (kind_at ts) then (attr_item inner room s ts)
      else (other_item inner (spelled_name (kind_at ts)) room s ts))) (λ is696. bound_fits _ _ _ _ _ _ _ _
      (known_by (λ kind9. is_static_assert kind9) refl (kind_at ts) is696) (λ less697. omega arith) (λ less697.
      bound_bind (no_levels {A = Assert}) _ (0) _ _ _ _ _ _ (bound_weaker _ (0) room (0) _ _ _ _ _ (omega arith)
      (omega arith) (b_assert_at room _ _)) (λ it b698 e699 l700. bound_ends _ _ _ _ _ _ _ (omega arith)))) (λ is696.
      bound_if _ _ _ _ _ (is_extension (kind_at ts)) (extended_item inner room s ts) (if is_attribute (kind_at ts)
      then (attr_item inner room s ts) else (other_item inner (spelled_name (kind_at ts)) room s ts))
      (λ is701. bound_weaker _ (6) room (20) _ _ _ _ _ (omega arith) (omega arith) (b_extended_item room _ _)) (λ is701.
      bound_if _ _ _ _ _ (is_attribute (kind_at ts)) (attr_item inner room s ts) (other_item inner
      (spelled_name (kind_at ts)) room s ts) (λ is702. bound_weaker _ (6) room (20) _ _ _ _ _ (omega arith)
      (omega arith) (b_attr_item room _ _)) (λ is702. bound_weaker _ (6) room (20) _ _ _ _ _ (omega arith) (omega arith)
      (b_other_item (spelled_name (kind_at ts)) room _ _ (known_of spelled_name None refl (kind_at ts))))))

  pub b_labels_with : (room : ℕ) (s : HeldScopes) (ts : List Lexeme) → is_end (kind_at ts) ≡ false
      → BoundAt block_item_height (6)
      room (20) ts (labels_with inner room s ts)
  unfolding labels_with
  b_labels_with room s ts known =
      bound_fits _ _ _ _ _ _ _ _ (known) (λ less509. omega arith) (λ less509. bound_bind token_levels _ (0) _ _ _ _ _ _
      (bound_take _ _ _ _) (λ keyword p508 q508 r508. bound_bind (no_levels {A = List Identifier}) _ (0) _ _ _ _ _ _
      (bound_weaker _ (0) room (0) _ _ _ _ _ (omega arith) (omega arith) (b_names_list name_at name_shrinks
      (λ room2 s2 ts2. bound_name room2 0 s2 ts2) room _ _)) (λ names p507 q507 r507. bound_bind token_levels _ (0) _ _
      _ _ _ _ (bound_token is_semicolon _ _ _ _) (λ semi p506 q506 r506. bound_ends _ _ _ _ _ _ _ (omega arith)))))

  pub b_block_body : (room : ℕ) (s : HeldScopes) (ts : List Lexeme)
      → BoundAt block_tree_height (1) room (13) ts (block_body inner
      room s ts)
  unfolding block_body
  b_block_body room s ts =
      bound_bind token_levels _ (0) _ _ _ _ _ _ (bound_take _ _ _ _) (λ opening b703 e704 l705. bound_bind
      (most_of block_item_height) _ (6) _ _ _ _ _ _ (bound_weaker _ (6) (room - 1) (20) _ _ _ _ _ (omega arith)
      (omega arith) (bound_repeated is_label_word (labels_with inner (room - 1)) block_item_height (6) (room - 1) (20)
      (labels_shrinks all tokens n inner laws (room - 1)) (omega arith) (λ s9 ts9 is9. b_labels_with (room - 1) _ _
      (known_by is_label_word refl (kind_at ts9) is9)) opening.scopes opening.rest)) (λ labels b800 e800 l800.
      bound_bind (most_of block_item_height) _ (6) _ _ _ _ _ _ (bound_weaker _ (6) (room - 1) (20) _ _ _ _ _
      (omega arith) (omega arith) (bound_repeated (λ kind. not (is_close_brace kind)) (block_item_with inner (room - 1))
      block_item_height (6) (room - 1) (20) (block_item_shrinks all tokens n inner laws (room - 1)) (omega arith)
      (λ s9 ts9 is9. b_block_item_with (room - 1) _ _) labels.scopes labels.rest)) (λ items b706 e707 l708.
      bound_bind token_levels _ (0) _ _ _ _ _ _ (bound_token is_close_brace _ _ _ _) (λ closing b709 e710 l711.
      bound_ends _ _ _ _ _ _ _ (let f712 = low_block_items (labels.tree ++ items.tree) in let f713 =
      most_append block_item_height labels.tree items.tree in omega arith)))))

  pub b_block_with : (room : ℕ) (s : HeldScopes) (ts : List Lexeme)
      → BoundAt block_tree_height (1) room (13) ts (block_with inner
      room s ts)
  unfolding block_with
  b_block_with room s ts =
      bound_if _ _ _ _ _ (is_open_brace (kind_at ts)) (fits 1 room ts (and_then (block_body inner room (enter s) ts)
      (λ m714. (ends m714.tree (leave m714.scopes) m714.rest)))) (refuses Unexpected ts)
      (λ is713. bound_fits _ _ _ _ _ _ _ _ (known_by (λ kind9. is_open_brace kind9) refl (kind_at ts) is713)
      (λ less715. omega arith) (λ less715. bound_bind block_tree_height _ (1) _ _ _ _ _ _
      (bound_weaker _ (1) room (13) _ _ _ _ _ (omega arith) (omega arith) (b_block_body room _ _))
      (λ m716 b717 e718 l719. bound_ends _ _ _ _ _ _ _ (omega arith)))) (λ is713. record { held = λ e. absurd cc })

  pub b_some_expr_with : (test : (TokenKind → Bool)) (room : ℕ) (s : HeldScopes) (ts : List Lexeme)
      → BoundAt some_expr_height (1)
      room (10) ts (some_expr_with inner test room s ts)
  unfolding some_expr_with
  b_some_expr_with test room s ts =
      bound_if _ _ _ _ _ (test (kind_at ts)) (ends no_expr s ts) (and_then (inner.expr Whole nothing room s ts)
      (λ e. (ends (some_expr e.tree) e.scopes e.rest))) (λ is720. bound_ends _ _ _ _ _ _ _ (omega arith))
      (λ is720. bound_bind expr_height _ (1 + begun_levels nothing) _ _ _ _ _ _
      (bound_weaker _ (1 + begun_levels nothing) room (10 + begun_levels nothing) _ _ _ _ _ (omega arith) (omega arith)
      (good.expr Whole nothing room _ _)) (λ e b721 e722 l723. bound_ends _ _ _ _ _ _ _ (omega arith)))

  pub b_case_range : (keyword : ℕ) (first : Expr) (room : ℕ) (s : HeldScopes) (ts : List Lexeme)
      → BoundAt stmt_height (max
      (expr_height first + 1) 2) room (15) ts (stating.range_behind inner keyword first room s ts)
  unfolding stating.range_behind
  b_case_range keyword first room s ts =
      bound_bind token_levels _ (0) _ _ _ _ _ _ (bound_take _ _ _ _)
      (λ dots p513 q513 r513. bound_bind expr_height _ (1 + begun_levels nothing) _ _ _ _ _ _
      (bound_weaker _ (1 + begun_levels nothing) (room - 1) (10 + begun_levels nothing) _ _ _ _ _ (omega arith)
      (omega arith) (good.expr Conditional nothing (room - 1) _ _)) (λ e p512 q512 r512.
      bound_bind token_levels _ (0) _ _ _ _ _ _ (bound_token is_colon _ _ _ _) (λ colon p511 q511 r511.
      bound_bind stmt_height _ (2) _ _ _ _ _ _ (bound_weaker _ (2) (room - 1) (14) _ _ _ _ _ (omega arith) (omega arith)
      (good.stmt (room - 1) _ _)) (λ t p510 q510 r510. bound_ends _ _ _ _ _ _ _ (omega arith)))))

  pub b_case_value : (keyword : ℕ) (first : Expr) (room : ℕ) (s : HeldScopes) (ts : List Lexeme)
      → BoundAt stmt_height (max
      (expr_height first + 1) 2) room (15) ts (stating.value_behind inner keyword first room s ts)
  unfolding stating.value_behind
  b_case_value keyword first room s ts =
      bound_bind token_levels _ (0) _ _ _ _ _ _ (bound_token is_colon _ _ _ _) (λ colon p515 q515 r515.
      bound_bind stmt_height _ (2) _ _ _ _ _ _ (bound_weaker _ (2) (room - 1) (14) _ _ _ _ _ (omega arith) (omega arith)
      (good.stmt (room - 1) _ _)) (λ t p514 q514 r514. bound_ends _ _ _ _ _ _ _ (omega arith)))

  pub b_case_with : (room : ℕ) (s : HeldScopes) (ts : List Lexeme) → is_end (kind_at ts) ≡ false
      → BoundAt stmt_height (2) room (14)
      ts (case_with inner room s ts)
  unfolding case_with
  b_case_with room s ts known =
      bound_fits _ _ _ _ _ _ _ _ (known) (λ less724. omega arith) (λ less724.
      bound_bind token_levels _ (0) _ _ _ _ _ _ (bound_take _ _ _ _) (λ keyword b725 e726 l727. bound_bind expr_height _
      (1 + begun_levels nothing) _ _ _ _ _ _ (bound_weaker _ (1 + begun_levels nothing) (room - 1)
      (10 + begun_levels nothing) _ _ _ _ _ (omega arith) (omega arith) (good.expr Conditional nothing (room - 1) _ _))
      (λ e b728 e729 l730. bound_if _ _ _ _ _ (is_wide e.scopes && is_dots (kind_at e.rest)) (stating.range_behind inner
      keyword.tree e.tree room e.scopes e.rest) (stating.value_behind inner keyword.tree e.tree room e.scopes e.rest)
      (λ on. bound_weaker _ (max (expr_height e.tree + 1) 2) room (15) _ _ _ _ _ (omega arith) (omega arith)
      (b_case_range keyword.tree e.tree room _ _)) (λ off. bound_weaker _ (max (expr_height e.tree + 1) 2) room
      (15) _ _ _ _ _ (omega arith) (omega arith) (b_case_value keyword.tree e.tree room _ _)))))

  pub b_default_with : (room : ℕ) (s : HeldScopes) (ts : List Lexeme) → is_end (kind_at ts) ≡ false
      → BoundAt stmt_height (2) room
      (14) ts (default_with inner room s ts)
  unfolding default_with
  b_default_with room s ts known =
      bound_fits _ _ _ _ _ _ _ _ (known) (λ less737. omega arith)
      (λ less737. bound_bind token_levels _ (0) _ _ _ _ _ _ (bound_take _ _ _ _) (λ keyword b738 e739 l740.
      bound_bind token_levels _ (0) _ _ _ _ _ _ (bound_token is_colon _ _ _ _) (λ colon b741 e742 l743.
      bound_bind stmt_height _ (2) _ _ _ _ _ _ (bound_weaker _ (2) (room - 1) (14) _ _ _ _ _ (omega arith) (omega arith)
      (good.stmt (room - 1) _ _)) (λ t b744 e745 l746. bound_ends _ _ _ _ _ _ _ (omega arith)))))

  pub b_some_else_with : (room : ℕ) (s : HeldScopes) (ts : List Lexeme)
      → BoundAt some_else_height (2) room (14) ts (some_else_with
      inner room s ts)
  unfolding some_else_with
  b_some_else_with room s ts =
      bound_if _ _ _ _ _ (is_else (kind_at ts)) (and_then (take_one s ts) (λ keyword. (and_then (and_then
      (inner.stmt room (enter keyword.scopes) keyword.rest) (λ m748. (ends m748.tree (leave m748.scopes) m748.rest)))
      (λ t. (ends (some_else keyword.tree t.tree) t.scopes t.rest))))) (ends no_else s ts)
      (λ is747. bound_bind token_levels _ (0) _ _ _ _ _ _ (bound_take _ _ _ _) (λ keyword b749 e750 l751. bound_bind
      stmt_height _ (2) _ _ _ _ _ _ (bound_bind stmt_height _ (2) _ _ _ _ _ _ (bound_weaker _ (2) room (14) _ _ _ _ _
      (omega arith) (omega arith) (good.stmt room _ _)) (λ m752 b757 e758 l759. bound_ends _ _ _ _ _ _ _ (omega arith)))
      (λ t b753 e754 l755. bound_ends _ _ _ _ _ _ _ (omega arith)))) (λ is747. bound_ends _ _ _ _ _ _ _ (omega arith))

  pub b_if_inside : (room : ℕ) (s : HeldScopes) (ts : List Lexeme)
      → BoundAt stmt_height (2) room (14) ts (if_inside inner room s ts)
  unfolding if_inside
  b_if_inside room s ts =
      bound_bind token_levels _ (0) _ _ _ _ _ _ (bound_take _ _ _ _) (λ keyword b760 e761 l762. bound_bind token_levels
      _ (0) _ _ _ _ _ _ (bound_token is_open_paren _ _ _ _) (λ opening b763 e764 l765. bound_bind expr_height _
      (1 + begun_levels nothing) _ _ _ _ _ _ (bound_weaker _ (1 + begun_levels nothing) (room - 1)
      (10 + begun_levels nothing) _ _ _ _ _ (omega arith) (omega arith) (good.expr Whole nothing (room - 1) _ _))
      (λ e b766 e767 l768. bound_bind token_levels _ (0) _ _ _ _ _ _ (bound_token is_close_paren _ _ _ _)
      (λ closing b769 e770 l771. bound_bind stmt_height _ (2) _ _ _ _ _ _ (bound_bind stmt_height _ (2) _ _ _ _ _ _
      (bound_weaker _ (2) (room - 1) (14) _ _ _ _ _ (omega arith) (omega arith) (good.stmt (room - 1) _ _))
      (λ m772 b780 e781 l782. bound_ends _ _ _ _ _ _ _ (omega arith))) (λ t b773 e774 l775. bound_bind some_else_height
      _ (2) _ _ _ _ _ _ (bound_weaker _ (2) (room - 1) (14) _ _ _ _ _ (omega arith) (omega arith)
      (b_some_else_with (room - 1) _ _)) (λ other b777 e778 l779. bound_ends _ _ _ _ _ _ _ (omega arith)))))))

  pub b_headed_inside : (make : (ℕ → ℕ → Expr → ℕ → Stmt → Stmt)) (room : ℕ) (s : HeldScopes) (ts : List Lexeme)
      → ((a b : ℕ) (e : Expr) (x : ℕ) (t : Stmt)
      → stmt_height (make a b e x t) ≤ max (expr_height e) (stmt_height t) + 1)
      → BoundAt stmt_height (2) room (14) ts (headed_inside inner make room s ts)
  unfolding headed_inside
  b_headed_inside make room s ts low =
      bound_bind token_levels _ (0) _ _ _ _ _ _ (bound_take _ _ _ _) (λ keyword b783 e784 l785. bound_bind token_levels
      _ (0) _ _ _ _ _ _ (bound_token is_open_paren _ _ _ _) (λ opening b786 e787 l788. bound_bind expr_height _
      (1 + begun_levels nothing) _ _ _ _ _ _ (bound_weaker _ (1 + begun_levels nothing) (room - 1)
      (10 + begun_levels nothing) _ _ _ _ _ (omega arith) (omega arith) (good.expr Whole nothing (room - 1) _ _))
      (λ e b789 e790 l791. bound_bind token_levels _ (0) _ _ _ _ _ _ (bound_token is_close_paren _ _ _ _)
      (λ closing b792 e793 l794. bound_bind stmt_height _ (2) _ _ _ _ _ _ (bound_bind stmt_height _ (2) _ _ _ _ _ _
      (bound_weaker _ (2) (room - 1) (14) _ _ _ _ _ (omega arith) (omega arith) (good.stmt (room - 1) _ _))
      (λ m795 b801 e802 l803. bound_ends _ _ _ _ _ _ _ (omega arith))) (λ t b796 e797 l798.
      bound_ends _ _ _ _ _ _ _ (let f800 = low keyword.tree opening.tree e.tree closing.tree t.tree in omega arith))))))

  pub b_do_inside : (room : ℕ) (s : HeldScopes) (ts : List Lexeme)
      → BoundAt stmt_height (2) room (14) ts (do_inside inner room s ts)
  unfolding do_inside
  b_do_inside room s ts =
      bound_bind token_levels _ (0) _ _ _ _ _ _ (bound_take _ _ _ _)
      (λ keyword b804 e805 l806. bound_bind stmt_height _ (2) _ _ _ _ _ _
      (bound_bind stmt_height _ (2) _ _ _ _ _ _ (bound_weaker _ (2) (room - 1) (14) _ _ _ _ _ (omega arith)
      (omega arith) (good.stmt (room - 1) _ _)) (λ m807 b827 e828 l829. bound_ends _ _ _ _ _ _ _ (omega arith)))
      (λ t b808 e809 l810. bound_bind token_levels _ (0) _ _ _ _ _ _ (bound_token is_while _ _ _ _)
      (λ keyword2 b812 e813 l814. bound_bind token_levels _ (0) _ _ _ _ _ _ (bound_token is_open_paren _ _ _ _)
      (λ opening b815 e816 l817. bound_bind expr_height _ (1 + begun_levels nothing) _ _ _ _ _ _ (bound_weaker _
      (1 + begun_levels nothing) (room - 1) (10 + begun_levels nothing) _ _ _ _ _ (omega arith) (omega arith)
      (good.expr Whole nothing (room - 1) _ _)) (λ e b818 e819 l820. bound_bind token_levels _ (0) _ _ _ _ _ _
      (bound_token is_close_paren _ _ _ _) (λ closing b821 e822 l823. bound_bind token_levels _ (0) _ _ _ _ _ _
      (bound_token is_semicolon _ _ _ _) (λ semi b824 e825 l826. bound_ends _ _ _ _ _ _ _ (omega arith))))))))

  pub b_start_value_with : (begun : Begun) (room : ℕ) (s : HeldScopes) (ts : List Lexeme)
      → BoundAt for_start_height (1 +
      begun_levels begun) room (10 + begun_levels begun) ts (start_value_with inner begun room s ts)
  unfolding start_value_with
  b_start_value_with begun room s ts =
      bound_bind expr_height _ (1 + begun_levels begun) _ _ _ _ _ _ (bound_weaker _ (1 + begun_levels begun) room
      (10 + begun_levels begun) _ _ _ _ _ (omega arith) (omega arith) (good.expr Whole begun room _ _))
      (λ e b830 e831 l832. bound_bind token_levels _ (0) _ _ _ _ _ _ (bound_token is_semicolon _ _ _ _)
      (λ semi b833 e834 l835. bound_ends _ _ _ _ _ _ _ (omega arith)))

  pub b_extended_start : (room : ℕ) (s : HeldScopes) (ts : List Lexeme)
      → BoundAt for_start_height (6) room (19) ts (extended_start
      inner room s ts)
  unfolding extended_start
  b_extended_start room s ts =
      bound_bind (λ (xs : List ℕ). length xs) _ (0) _ _ _ _ _ _
      (bound_weaker _ (0) room (1) _ _ _ _ _ (omega arith) (omega arith) (b_extensions_at room _ _))
      (λ exts b836 e837 l838. bound_if _ _ _ _ _ (begins_specs exts.scopes (kind_at exts.rest))
      (and_then (declaration_with inner exts.tree room exts.scopes exts.rest)
      (λ m840. (ends (start_declaration m840.tree) m840.scopes m840.rest))) (start_value_with inner
      (extensions exts.tree) room exts.scopes exts.rest) (λ is839. bound_bind declaration_height _ (5) _ _ _ _ _ _
      (bound_weaker _ (5) room (18) _ _ _ _ _ (omega arith) (omega arith) (b_declaration_with exts.tree room _ _))
      (λ m841 b842 e843 l844. bound_ends _ _ _ _ _ _ _ (omega arith))) (λ is839.
      bound_weaker _ (1 + begun_levels (extensions exts.tree)) room (10 + begun_levels (extensions exts.tree)) _ _ _ _ _
      (omega arith) (omega arith) (b_start_value_with (extensions exts.tree) room _ _)))

  pub b_for_start_with : (room : ℕ) (s : HeldScopes) (ts : List Lexeme)
      → BoundAt for_start_height (6) room (19) ts (for_start_with
      inner room s ts)
  unfolding for_start_with
  b_for_start_with room s ts =
      bound_if _ _ _ _ _ (is_semicolon (kind_at ts))
      (and_then (take_one s ts) (λ semi. (ends (start_value no_expr semi.tree) semi.scopes semi.rest))) (if is_extension
      (kind_at ts) then (extended_start inner room s ts) else (if begins_specs s (kind_at ts) then (and_then
      (declaration_with inner [] room s ts) (λ m846. (ends (start_declaration m846.tree) m846.scopes m846.rest)))
      else (start_value_with inner nothing room s ts))) (λ is845. bound_bind token_levels _ (0) _ _ _ _ _ _
      (bound_take _ _ _ _) (λ semi b847 e848 l849. bound_ends _ _ _ _ _ _ _ (omega arith))) (λ is845. bound_if _ _ _ _ _
      (is_extension (kind_at ts)) (extended_start inner room s ts) (if begins_specs s (kind_at ts) then (and_then
      (declaration_with inner [] room s ts) (λ m851. (ends (start_declaration m851.tree) m851.scopes m851.rest)))
      else (start_value_with inner nothing room s ts))
      (λ is850. bound_weaker _ (6) room (19) _ _ _ _ _ (omega arith) (omega arith) (b_extended_start room _ _))
      (λ is850. bound_if _ _ _ _ _ (begins_specs s (kind_at ts)) (and_then (declaration_with inner [] room s ts)
      (λ m853. (ends (start_declaration m853.tree) m853.scopes m853.rest))) (start_value_with inner nothing room s ts)
      (λ is852. bound_bind declaration_height _ (5) _ _ _ _ _ _ (bound_weaker _ (5) room (18) _ _ _ _ _ (omega arith)
      (omega arith) (b_declaration_with [] room _ _)) (λ m854 b855 e856 l857. bound_ends _ _ _ _ _ _ _ (omega arith)))
      (λ is852. bound_weaker _ (1 + begun_levels nothing) room (10 + begun_levels nothing) _ _ _ _ _ (omega arith)
      (omega arith) (b_start_value_with nothing room _ _))))

  pub b_for_inside : (room : ℕ) (s : HeldScopes) (ts : List Lexeme)
      → BoundAt stmt_height (2) room (14) ts (for_inside inner room s ts)
  unfolding for_inside
  b_for_inside room s ts =
      bound_bind token_levels _ (0) _ _ _ _ _ _ (bound_take _ _ _ _)
      (λ keyword b858 e859 l860. bound_bind token_levels _ (0) _ _ _ _ _ _ (bound_token is_open_paren _ _ _ _)
      (λ opening b861 e862 l863. bound_bind for_start_height _ (6) _ _ _ _ _ _
      (bound_weaker _ (6) (room - 1) (19) _ _ _ _ _ (omega arith) (omega arith) (b_for_start_with (room - 1) _ _))
      (λ start b864 e865 l866. bound_bind some_expr_height _ (1) _ _ _ _ _ _ (bound_weaker _ (1) (room - 1)
      (10) _ _ _ _ _ (omega arith) (omega arith) (b_some_expr_with is_semicolon (room - 1) _ _)) (λ e b867 e868 l869.
      bound_bind token_levels _ (0) _ _ _ _ _ _ (bound_token is_semicolon _ _ _ _) (λ semi b870 e871 l872.
      bound_bind some_expr_height _ (1) _ _ _ _ _ _ (bound_weaker _ (1) (room - 1) (10) _ _ _ _ _ (omega arith)
      (omega arith) (b_some_expr_with is_close_paren (room - 1) _ _)) (λ e2 b873 e874 l875. bound_bind token_levels _
      (0) _ _ _ _ _ _ (bound_token is_close_paren _ _ _ _) (λ closing b876 e877 l878. bound_bind stmt_height _ (2) _ _ _
      _ _ _ (bound_bind stmt_height _ (2) _ _ _ _ _ _ (bound_weaker _ (2) (room - 1) (14) _ _ _ _ _ (omega arith)
      (omega arith) (good.stmt (room - 1) _ _)) (λ m879 b884 e885 l886. bound_ends _ _ _ _ _ _ _ (omega arith)))
      (λ t b880 e881 l882. bound_ends _ _ _ _ _ _ _ (omega arith)))))))))

  pub b_goto_value : (keyword : ℕ) (room : ℕ) (s : HeldScopes) (ts : List Lexeme) → is_end (kind_at ts) ≡ false
      → BoundAt
      stmt_height (2) room (14) ts (goto_value_with inner keyword room s ts)
  unfolding goto_value_with
  b_goto_value keyword room s ts known =
      bound_fits _ _ _ _ _ _ _ _ (known) (λ less519. omega arith) (λ less519. bound_bind token_levels _ (0) _ _ _ _ _ _
      (bound_take _ _ _ _) (λ star p518 q518 r518. bound_bind expr_height _ (1 + begun_levels nothing) _ _ _ _ _ _
      (bound_weaker _ (1 + begun_levels nothing) (room - 1) (10 + begun_levels nothing) _ _ _ _ _ (omega arith)
      (omega arith) (good.expr Whole nothing (room - 1) _ _)) (λ e p517 q517 r517. bound_bind token_levels _ (0) _ _ _ _
      _ _ (bound_token is_semicolon _ _ _ _) (λ semi p516 q516 r516. bound_ends _ _ _ _ _ _ _ (omega arith)))))

  pub b_goto_name : (keyword : ℕ) (room : ℕ) (s : HeldScopes) (ts : List Lexeme)
      → BoundAt stmt_height (2) room (14) ts (goto_name
      inner keyword s ts)
  unfolding goto_name
  b_goto_name keyword room s ts =
      bound_bind token_levels _ (0) _ _ _ _ _ _ (bound_name _ _ _ _)
      (λ name p521 q521 r521. bound_bind token_levels _ (0) _ _ _ _ _ _ (bound_token is_semicolon _ _ _ _)
      (λ semi p520 q520 r520. bound_ends _ _ _ _ _ _ _ (omega arith)))

  star_known : (b : Bool) (kind : TokenKind) → (b && is_star kind) ≡ true → is_end kind ≡ false
  star_known true kind is = known_by is_star refl kind is
  star_known false kind is = absurd cc

  pub b_goto_with : (room : ℕ) (s : HeldScopes) (ts : List Lexeme) → is_end (kind_at ts) ≡ false
      → BoundAt stmt_height (2) room (14)
      ts (goto_with inner room s ts)
  unfolding goto_with
  b_goto_with room s ts known =
      bound_fits _ _ _ _ _ _ _ _ (known) (λ less887. omega arith)
      (λ less887. bound_bind token_levels _ (0) _ _ _ _ _ _ (bound_take _ _ _ _) (λ keyword b888 e889 l890.
      bound_if _ _ _ _ _ (is_wide keyword.scopes && is_star (kind_at keyword.rest)) (goto_value_with inner keyword.tree
      room keyword.scopes keyword.rest) (goto_name inner keyword.tree keyword.scopes keyword.rest)
      (λ on. bound_weaker _ (2) room (14) _ _ _ _ _ (omega arith) (omega arith)
      (b_goto_value keyword.tree room _ _ (star_known (is_wide keyword.scopes) (kind_at keyword.rest) on))) (λ off.
      bound_weaker _ (2) room (14) _ _ _ _ _ (omega arith) (omega arith) (b_goto_name keyword.tree room _ _))))

  pub b_jump_with : (make : (ℕ → ℕ → Stmt)) (room : ℕ) (s : HeldScopes) (ts : List Lexeme) → is_end (kind_at ts) ≡ false
      → ((a b :
      ℕ) → stmt_height (make a b) ≤ 1) → BoundAt stmt_height (2) room (14) ts (jump_with inner make room s ts)
  unfolding jump_with
  b_jump_with make room s ts known low =
      bound_fits _ _ _ _ _ _ _ _ (known) (λ less897. omega arith)
      (λ less897. bound_bind token_levels _ (0) _ _ _ _ _ _ (bound_take _ _ _ _) (λ keyword b898 e899 l900.
      bound_bind token_levels _ (0) _ _ _ _ _ _ (bound_token is_semicolon _ _ _ _) (λ semi b901 e902 l903.
      bound_ends _ _ _ _ _ _ _ (let f904 = low keyword.tree semi.tree in omega arith))))

  pub b_return_with : (room : ℕ) (s : HeldScopes) (ts : List Lexeme) → is_end (kind_at ts) ≡ false
      → BoundAt stmt_height (2) room
      (14) ts (return_with inner room s ts)
  unfolding return_with
  b_return_with room s ts known =
      bound_fits _ _ _ _ _ _ _ _ (known) (λ less905. omega arith)
      (λ less905. bound_bind token_levels _ (0) _ _ _ _ _ _ (bound_take _ _ _ _) (λ keyword b906 e907 l908.
      bound_bind some_expr_height _ (1) _ _ _ _ _ _ (bound_weaker _ (1) (room - 1) (10) _ _ _ _ _ (omega arith)
      (omega arith) (b_some_expr_with is_semicolon (room - 1) _ _)) (λ e b909 e910 l911. bound_bind token_levels _ (0) _
      _ _ _ _ _ (bound_token is_semicolon _ _ _ _) (λ semi b912 e913 l914. bound_ends _ _ _ _ _ _ _ (omega arith)))))

  pub b_asm_with : (room : ℕ) (s : HeldScopes) (ts : List Lexeme) → is_end (kind_at ts) ≡ false
      → BoundAt stmt_height (2) room (14)
      ts (asm_with inner room s ts)
  unfolding asm_with
  b_asm_with room s ts known =
      bound_fits _ _ _ _ _ _ _ _ (known) (λ less915. omega arith) (λ less915. bound_bind token_levels _ (0) _ _ _ _ _ _
      (bound_take _ _ _ _) (λ keyword b916 e917 l918. bound_bind no_levels _ (0) _ _ _ _ _ _ (bound_weaker _ (0) room
      (0) _ _ _ _ _ (omega arith) (omega arith) (b_asm_words_at room _ _)) (λ words b919 e920 l921.
      bound_bind (no_levels {A = Group}) _ (0) _ _ _ _ _ _ (bound_weaker _ (0) room (0) _ _ _ _ _ (omega arith)
      (omega arith) (b_group_at room _ _)) (λ group b922 e923 l924. bound_bind token_levels _ (0) _ _ _ _ _ _
      (bound_token is_semicolon _ _ _ _) (λ semi b925 e926 l927. bound_ends _ _ _ _ _ _ _ (omega arith))))))

  pub b_attr_stmt_with : (room : ℕ) (s : HeldScopes) (ts : List Lexeme)
      → BoundAt stmt_height (2) room (14) ts (attr_stmt_with inner
      room s ts)
  unfolding attr_stmt_with
  b_attr_stmt_with room s ts =
      bound_bind attrs_height _ (1) _ _ _ _ _ _ (bound_weaker _ (1) room (1) _ _ _ _ _ (omega arith) (omega arith)
      (b_attrs_at room _ _)) (λ attrs b928 e929 l930. bound_bind token_levels _ (0) _ _ _ _ _ _
      (bound_token is_semicolon _ _ _ _) (λ semi b931 e932 l933. bound_ends _ _ _ _ _ _ _ (omega arith)))

  pub b_named_stmt : (name : ℕ) (room : ℕ) (s : HeldScopes) (ts : List Lexeme) → is_end (kind_at ts) ≡ false
      → BoundAt stmt_height
      (2) room (14) ts (named_stmt inner name room s ts)
  unfolding named_stmt
  b_named_stmt name room s ts known =
      bound_fits _ _ _ _ _ _ _ _ (known) (λ less934. omega arith) (λ less934.
      bound_if _ _ _ _ _ (is_colon (kind_at (behind_first ts))) (label_with inner room s ts) (if names_type s name
      then (refuses Unexpected (behind_first ts)) else (expr_stmt_with inner nothing room s ts)) (λ is935. bound_weaker
      _ (2) room (10) _ _ _ _ _ (omega arith) (omega arith) (b_label_with room _ _)) (λ is935. bound_if _ _ _ _ _
      (names_type s name) (refuses Unexpected (behind_first ts)) (expr_stmt_with inner nothing room s ts)
      (λ is936. record { held = λ e. absurd cc }) (λ is936. bound_weaker _ (2 + begun_levels nothing) room
      (11 + begun_levels nothing) _ _ _ _ _ (omega arith) (omega arith) (b_expr_stmt_with nothing room _ _))))

  pub b_stmt_by : (a0 : StmtStart) (room : ℕ) (s : HeldScopes) (ts : List Lexeme)
      → ((a0 ≡ starts.Value → ⊥) → is_end (kind_at ts) ≡
      false) → BoundAt stmt_height (2) room (14) ts (stmt_by inner a0 room s ts)
  unfolding stmt_by
  b_stmt_by starts.Block room s ts known =
      bound_bind block_tree_height _ (1) _ _ _ _ _ _ (bound_weaker _ (1) room (13) _ _ _ _ _ (omega arith) (omega arith)
      (b_block_with room _ _)) (λ b b937 e938 l939. bound_ends _ _ _ _ _ _ _ (omega arith))
  b_stmt_by starts.Semicolon room s ts known =
      bound_fits _ _ _ _ _ _ _ _ (known (λ e9. absurd cc)) (λ less940. omega arith) (λ less940. bound_bind token_levels
      _ (0) _ _ _ _ _ _ (bound_take _ _ _ _) (λ semi b941 e942 l943. bound_ends _ _ _ _ _ _ _ (omega arith)))
  b_stmt_by starts.Attribute room s ts known =
      bound_weaker _ (2) room (14) _ _ _ _ _ (omega arith) (omega arith) (b_attr_stmt_with room _ _)
  b_stmt_by (starts.Name name) room s ts known =
      bound_weaker _ (2) room (14) _ _ _ _ _ (omega arith) (omega arith)
      (b_named_stmt name room _ _ (known (λ e9. absurd cc)))
  b_stmt_by starts.Case room s ts known =
      bound_weaker _ (2) room (14) _ _ _ _ _ (omega arith) (omega arith)
      (b_case_with room _ _ (known (λ e9. absurd cc)))
  b_stmt_by starts.Default room s ts known =
      bound_weaker _ (2) room (14) _ _ _ _ _ (omega arith) (omega arith)
      (b_default_with room _ _ (known (λ e9. absurd cc)))
  b_stmt_by starts.If room s ts known =
      bound_fits _ _ _ _ _ _ _ _ (known (λ e9. absurd cc)) (λ less944. omega arith)
      (λ less944. bound_bind stmt_height _ (2) _ _ _ _ _ _ (bound_weaker _ (2) room (14) _ _ _ _ _ (omega arith)
      (omega arith) (b_if_inside room _ _)) (λ m945 b946 e947 l948. bound_ends _ _ _ _ _ _ _ (omega arith)))
  b_stmt_by starts.Switch room s ts known =
      bound_fits _ _ _ _ _ _ _ _ (known (λ e9. absurd cc)) (λ less949. omega arith)
      (λ less949. bound_bind stmt_height _ (2) _ _ _ _ _ _ (bound_weaker _ (2) room (14) _ _ _ _ _ (omega arith)
      (omega arith) (b_headed_inside switch_stmt room _ _ (λ a b e x t. omega arith)))
      (λ m950 b951 e952 l953. bound_ends _ _ _ _ _ _ _ (omega arith)))
  b_stmt_by starts.While room s ts known =
      bound_fits _ _ _ _ _ _ _ _ (known (λ e9. absurd cc)) (λ less954. omega arith)
      (λ less954. bound_bind stmt_height _ (2) _ _ _ _ _ _ (bound_weaker _ (2) room (14) _ _ _ _ _ (omega arith)
      (omega arith) (b_headed_inside while_stmt room _ _ (λ a b e x t. omega arith)))
      (λ m955 b956 e957 l958. bound_ends _ _ _ _ _ _ _ (omega arith)))
  b_stmt_by starts.Do room s ts known =
      bound_fits _ _ _ _ _ _ _ _ (known (λ e9. absurd cc)) (λ less959. omega arith)
      (λ less959. bound_bind stmt_height _ (2) _ _ _ _ _ _ (bound_weaker _ (2) room (14) _ _ _ _ _ (omega arith)
      (omega arith) (b_do_inside room _ _)) (λ m960 b961 e962 l963. bound_ends _ _ _ _ _ _ _ (omega arith)))
  b_stmt_by starts.For room s ts known =
      bound_fits _ _ _ _ _ _ _ _ (known (λ e9. absurd cc)) (λ less964. omega arith)
      (λ less964. bound_bind stmt_height _ (2) _ _ _ _ _ _ (bound_weaker _ (2) room (14) _ _ _ _ _ (omega arith)
      (omega arith) (b_for_inside room _ _)) (λ m965 b966 e967 l968. bound_ends _ _ _ _ _ _ _ (omega arith)))
  b_stmt_by starts.Goto room s ts known =
      bound_weaker _ (2) room (14) _ _ _ _ _ (omega arith) (omega arith)
      (b_goto_with room _ _ (known (λ e9. absurd cc)))
  b_stmt_by starts.Continue room s ts known =
      bound_weaker _ (2) room (14) _ _ _ _ _ (omega arith) (omega arith)
      (b_jump_with continue_stmt room _ _ (known (λ e9. absurd cc)) (λ a b. omega arith))
  b_stmt_by starts.Break room s ts known =
      bound_weaker _ (2) room (14) _ _ _ _ _ (omega arith) (omega arith)
      (b_jump_with break_stmt room _ _ (known (λ e9. absurd cc))
      (λ a b. omega arith))
  b_stmt_by starts.Return room s ts known =
      bound_weaker _ (2) room (14) _ _ _ _ _ (omega arith) (omega arith)
      (b_return_with room _ _ (known (λ e9. absurd cc)))
  b_stmt_by starts.Asm room s ts known =
      bound_weaker _ (2) room (14) _ _ _ _ _ (omega arith) (omega arith) (b_asm_with room _ _ (known (λ e9. absurd cc)))
  b_stmt_by starts.Value room s ts known =
      bound_if _ _ _ _ _ (begins_expr s (kind_at ts)) (fits 2 room ts (expr_stmt_with inner nothing room s ts))
      (refuses Unexpected ts) (λ is969. bound_fits _ _ _ _ _ _ _ _
      (known_by (λ kind9. begins_expr s kind9) refl (kind_at ts) is969) (λ less970. omega arith)
      (λ less970. bound_weaker _ (2 + begun_levels nothing) room (11 + begun_levels nothing) _ _ _ _ _ (omega arith)
      (omega arith) (b_expr_stmt_with nothing room _ _))) (λ is969. record { held = λ e. absurd cc })

  pub b_stmt_with : (room : ℕ) (s : HeldScopes) (ts : List Lexeme)
      → BoundAt stmt_height (2) room (14) ts (stmt_with inner room s ts)
  unfolding stmt_with
  b_stmt_with room s ts =
      bound_weaker _ (2) room (14) _ _ _ _ _ (omega arith) (omega arith)
      (b_stmt_by (stmt_start (kind_at ts)) room _ _ (known_of stmt_start starts.Value refl (kind_at ts)))
