-- Initialisers, declarations, statements and the items of a unit with more room.
use Rattle.std.proofs.Common.{◌≡◌, ℕ, suc, ◌+◌, ◌<◌, ◌≤◌, Bool, true, false, List, [], inr, Option, Some, None, Ok, refl, arith}
use Rattle.std.specs.Prelude.{◌-◌, not, ◌&&◌}
use Rattle.c_words.specs.declared.kinds.TokenKind.{TokenKind}
use Rattle.c_tree.specs.declared.lexeme.Lexeme.{Lexeme}
use Rattle.c_syntax.specs.declared.parts.Attr.{Attr}
use Rattle.c_tree.specs.Tree.{Expr, SpecWords, Declr, Stmt, switch_stmt, while_stmt}
use Rattle.c_tree.specs.Height.{specs_height}
use Rattle.c_tree.specs.Specifiers.{storage_words}
use Rattle.c_tree.specs.WellFormed.{has_auto}
use Rattle.typedef_scope.specs.declared.kind.Kind.TheVariants.{Value}
use Rattle.typedef_scope.specs.declared.kind.Kind.{Kind}
use Rattle.c_units.specs.HeldScopes.{HeldScopes, names_type, enter, release, is_wide}
use Rattle.c_units.specs.Scoping.{declared_kind, at_name, has_typedef_word}
use Rattle.c_reading.specs.declared.kinds.Reach.TheVariants.{Whole, Assigned, Conditional}
use Rattle.c_reading.specs.declared.kinds.Role.TheVariants.{Declaring}
use Rattle.c_reading.specs.declared.kinds.StmtStart.{StmtStart}
use Rattle.c_reading.specs.declared.kinds.StmtStart.TheVariants as starts
use Rattle.c_reading.specs.Reading.{Found, Reader, take_one, token_at, kind_at, behind_first}
use Rattle.c_reading.specs.Tokens.{is_open_paren, is_close_paren, is_open_brace, is_close_brace, is_colon, is_semicolon, is_equal, is_base_word, is_while, is_else, is_extension, is_attribute, is_static_assert, spelled_name, name_at, extensions_at, attrs_at, attr_at, is_dots, is_star, is_label_word}
use Rattle.c_reading.specs.Parts.{Inner, Begun, nothing, extensions, DeclrItem}
use Rattle.c_reading.specs.Specifying.{begins_specs}
use Rattle.c_reading.specs.Declaring.{words_of_attrs, name_held}
use Rattle.c_reading.specs.Expressing.{begins_expr, begins_desig, is_dot}
use Rattle.c_reading.specs.Initialising.{begins_init, init_with, member_desig_with, index_desig_with, desig_with, init_here, init_item_with, next_init_item, init_items_with, braced_with, init_list_with, index_behind, plain_item, old_item, named_init_item, init_item_by}
use Rattle.c_reading.specs.Stating.{label_at, some_init_with, declr_behind, init_declr_with, next_init_declr, declrs_with, bare_declaration, declaration_behind, declaration_with, declaration_from, expr_stmt_with, label_with, named_item, extended_item, attr_item_by, attr_item, other_item, block_item_with, block_body, block_with, part_with, some_expr_with, case_with, default_with, some_else_with, if_inside, headed_inside, do_inside, start_value_with, extended_start, for_start_with, for_inside, goto_with, jump_with, return_with, asm_with, attr_stmt_with, named_stmt, stmt_by, auto_declr, auto_name, auto_declarator, auto_behind, labels_with, value_behind, goto_value_with, goto_name}
use Rattle.c_reading.specs.Initialising as initialising
use Rattle.c_reading.specs.Stating as stating
use Rattle.c_reading.proofs.Binding.{take_falls}
use Rattle.c_reading.proofs.KnotLaws.{none_tokens}
use Rattle.room_laws.specs.Rooms.{More, InnerMore}
use Rattle.room_laws.proofs.More.{more_same, more_bind, more_behind, more_fits, more_if, more_choice, first_fits, more_repeated, more_listed}
use Rattle.room_laws.proofs.Specs.{attrs_more, exts_more, specs_here_more, specs_two, named_declr_more}

attrs_two : (room : ℕ) (s : HeldScopes) (ts : List Lexeme) (x : Found (List Attr)) → is_attribute (kind_at ts) ≡ true
    → attrs_at room s ts ≡ Ok x → 2 ≤ room
unfolding attrs_at
attrs_two room s ts x begun e = first_fits is_attribute 2 room attr_at none_tokens.attr_shrinks s ts x begun e

exts_two : (room : ℕ) (s : HeldScopes) (ts : List Lexeme) (x : Found (List ℕ)) → is_extension (kind_at ts) ≡ true
    → extensions_at room s ts ≡ Ok x → 2 ≤ room
unfolding extensions_at
exts_two room s ts x begun e =
    first_fits is_extension 2 room take_one
    (λ s ts x e. let one = take_falls s ts x e in omega (arith, one)) s ts x begun e

module _ (n : ℕ) (inner other : Inner) (m : InnerMore n inner other) where
  -- Initialisers.

  init_more : (room wide : ℕ) → room < n → room ≤ wide → (s : HeldScopes) (ts : List Lexeme)
      → More (init_with inner room s ts) (init_with other wide s ts)
  unfolding init_with
  init_more room wide less wider s ts =
      more_if (is_open_brace (kind_at ts)) _ _ _ _
      (more_bind _ _ _ _ (m.lists room wide less wider s ts) (λ list. refl))
      (more_bind _ _ _ _ (m.exprs Assigned nothing room wide less wider s ts) (λ e. refl))

  module _ (room wide : ℕ) (less : room < suc n) (wider : room ≤ wide) where
    desig_more : (s : HeldScopes) (ts : List Lexeme) → More (desig_with inner room s ts) (desig_with other wide s ts)
    unfolding desig_with member_desig_with index_desig_with index_behind initialising.range_behind
    desig_more s ts =
        more_if (is_dot (kind_at ts)) _ _ _ _ (more_fits 2 room wide ts _ _ wider (λ two. more_same _))
        (more_fits 3 room wide ts _ _ wider (λ three. more_bind _ _ _ _ (more_same (take_one s ts))
        (λ opening. more_bind _ _ _ _ (m.exprs Conditional nothing (room - 2) (wide - 2) (omega (arith, less, three))
        (omega (arith, wider)) opening.scopes opening.rest)
        (λ e. more_if (is_wide e.scopes && is_dots (kind_at e.rest)) _ _ _ _
        (more_bind _ _ _ _ (more_same (take_one e.scopes e.rest))
        (λ dots. more_bind _ _ _ _ (m.exprs Conditional nothing (room - 2) (wide - 2) (omega (arith, less, three))
        (omega (arith, wider)) dots.scopes dots.rest) (λ e2. more_same _)))
        (more_same _)))))

    init_here_more : (s : HeldScopes) (ts : List Lexeme) → More (init_here inner room s ts) (init_here other wide s ts)
    unfolding init_here
    init_here_more s ts =
        more_if (begins_init s (kind_at ts)) _ _ _ _
        (more_fits 2 room wide ts _ _ wider
        (λ two. init_more (room - 1) (wide - 1) (omega (arith, less, two)) (omega (arith, wider)) s ts)) (inr refl)

    plain_item_more : (s : HeldScopes) (ts : List Lexeme)
        → More (plain_item inner room s ts) (plain_item other wide s ts)
    unfolding plain_item
    plain_item_more s ts =
        more_bind _ _ _ _ (more_repeated begins_desig (desig_with inner room) (desig_with other wide) desig_more s ts)
        (λ desigs. more_bind _ _ _ _ (more_same _)
        (λ equal. more_bind _ _ _ _ (init_here_more equal.scopes equal.rest) (λ init. refl)))

    init_item_more : (s : HeldScopes) (ts : List Lexeme)
        → More (init_item_with inner room s ts) (init_item_with other wide s ts)
    unfolding init_item_with named_init_item old_item
    init_item_more s ts = by (spelled_name (kind_at ts))
      where
        by : (o : Option ℕ) → More (init_item_by inner o room s ts) (init_item_by other o wide s ts)
        by None = plain_item_more s ts
        by (Some name) =
            more_if (is_wide s) _ _ _ _
            (more_fits 2 room wide ts _ _ wider (λ two. more_if (is_colon (kind_at (behind_first ts))) _ _ _ _
            (more_bind _ _ _ _ (more_same (name_at s ts)) (λ name.
            more_bind _ _ _ _ (more_same (token_at is_colon name.scopes name.rest))
            (λ colon. more_bind _ _ _ _ (init_here_more colon.scopes colon.rest) (λ init. refl))))
            (more_if (names_type s name) _ _ _ _ (inr refl) (plain_item_more s ts))))
            (plain_item_more s ts)

  module _ (room wide : ℕ) (less : room < suc n) (wider : room ≤ wide) where
    pub init_list_more : (s : HeldScopes) (ts : List Lexeme)
        → More (init_list_with inner room s ts) (init_list_with other wide s ts)
    unfolding init_list_with braced_with init_items_with next_init_item
    init_list_more s ts =
        more_if (is_open_brace (kind_at ts)) _ _ _ _
        (more_fits 1 room wide ts _ _ wider (λ one.
        more_bind _ _ _ _ (more_same (take_one s ts)) (λ opening. more_bind _ _ _ _
        (more_if (is_close_brace (kind_at opening.rest)) _ _ _ _ refl
        (more_listed (init_item_with inner (room - 1)) (init_item_with other (wide - 1))
        (next_init_item inner (room - 1)) (next_init_item other (wide - 1)) opening.scopes opening.rest
        (init_item_more (room - 1) (wide - 1) (omega (arith, less)) (omega (arith, wider)) opening.scopes opening.rest)
        (λ x is comma s ts. more_if (is_close_brace (kind_at ts)) _ _ _ _ refl (more_bind _ _ _ _
        (init_item_more (room - 1) (wide - 1) (omega (arith, less)) (omega (arith, wider)) s ts) (λ x. refl)))))
        (λ items. more_same _))))
        (inr refl)

  -- Declarations.

  module _ (room wide : ℕ) (less : room < suc n) (one : 1 ≤ room) (wider : room ≤ wide) where
    pub some_init_more : (s : HeldScopes) (ts : List Lexeme)
        → More (some_init_with inner room s ts) (some_init_with other wide s ts)
    unfolding some_init_with
    some_init_more s ts =
        more_if (is_equal (kind_at ts)) _ _ _ _
        (more_bind _ _ _ _ (more_same (take_one s ts)) (λ equal. more_bind _ _ _ _ (init_more (room - 1) (wide - 1)
        (omega (arith, less, one)) (omega (arith, wider)) equal.scopes equal.rest) (λ init. refl))) refl

    pub declr_behind_more : (before : List Attr) (d : Declr) (s : HeldScopes) (ts : List Lexeme)
        → More (declr_behind inner before d room s ts) (declr_behind other before d wide s ts)
    unfolding declr_behind
    declr_behind_more before d s ts =
        more_bind _ _ _ _ (more_same (label_at s ts))
        (λ name. more_bind _ _ _ _ (attrs_more room wide wider name.scopes name.rest) (λ attrs.
        more_bind _ _ _ _ (some_init_more attrs.scopes attrs.rest) (λ init. refl)))

    init_declr_more : (before : List Attr) (kind : Kind) (s : HeldScopes) (ts : List Lexeme)
        → More (init_declr_with inner before kind room s ts) (init_declr_with other before kind wide s ts)
    unfolding init_declr_with
    init_declr_more before kind s ts =
        more_bind _ _ _ _ (named_declr_more n inner other m (Some kind) (room - 1) (wide - 1) (omega (arith, less, one))
        (omega (arith, wider)) s ts) (λ d. declr_behind_more before d.tree (release kind d.scopes) d.rest)

    next_init_declr_more : (kind : Kind) (comma : ℕ) (s : HeldScopes) (ts : List Lexeme)
        → More (next_init_declr inner kind room comma s ts) (next_init_declr other kind wide comma s ts)
    unfolding next_init_declr
    next_init_declr_more kind comma s ts =
        more_bind _ _ _ _ (attrs_more room wide wider s ts)
        (λ attrs. more_bind _ _ _ _ (init_declr_more attrs.tree kind attrs.scopes attrs.rest) (λ d. refl))

  -- a name of the type of its initialiser

  auto_declr_more : (room wide : ℕ) → room < suc n → 1 ≤ room → room ≤ wide
      → (exts : List ℕ) (words : SpecWords) (d : Declr) (s : HeldScopes) (ts : List Lexeme) →
      More (auto_declr inner exts words d room s ts) (auto_declr other exts words d wide s ts)
  unfolding auto_declr
  auto_declr_more room wide less one wider exts words d s ts =
      more_bind _ _ _ _ (attrs_more room wide wider s ts) (λ attrs.
      more_bind _ _ _ _ (more_same (token_at is_equal attrs.scopes attrs.rest))
      (λ equal. more_bind _ _ _ _ (m.exprs Assigned nothing (room - 1) (wide - 1) (omega (arith, less, one))
      (omega (arith, wider)) equal.scopes equal.rest) (λ e. more_same _)))

  auto_name_more : (room wide : ℕ) → room ≤ wide → (o : Option ℕ) (s : HeldScopes) (ts : List Lexeme)
      → More (auto_name inner o room s ts) (auto_name other o wide s ts)
  auto_name_more room wide wider None s ts = inr refl
  auto_name_more room wide wider (Some name) s ts =
      more_bind _ _ _ _ (held (at_name (Some Value) name s)) (λ d. more_same _)
    where
      held : (o : Option HeldScopes) → More (name_held name room o s ts) (name_held name wide o s ts)
      held None = inr refl
      held (Some t) = more_fits 1 room wide ts _ _ wider (λ one. more_same _)

  auto_declarator_more : (typed : Bool) (room wide : ℕ) → room ≤ wide → (s : HeldScopes) (ts : List Lexeme)
      → More (auto_declarator inner typed room s ts) (auto_declarator other typed wide s ts)
  auto_declarator_more false room wide wider s ts = auto_name_more room wide wider (spelled_name (kind_at ts)) s ts
  auto_declarator_more true room wide wider s ts =
      more_if (is_base_word (kind_at ts)) _ _ _ _ (more_fits 1 room wide ts _ _ wider (λ one. more_same _)) (inr refl)

  auto_behind_more : (room wide : ℕ) → room < suc n → 2 ≤ room → room ≤ wide
      → (exts : List ℕ) (words : SpecWords) (s : HeldScopes) (ts : List Lexeme) →
      More (auto_behind inner exts words room s ts) (auto_behind other exts words wide s ts)
  unfolding auto_behind
  auto_behind_more room wide less two wider exts words s ts =
      more_bind _ _ _ _
      (auto_declarator_more (has_typedef_word (storage_words words)) (room - 2) (wide - 2) (omega (arith, wider)) s ts)
      (λ d. auto_declr_more (room - 1) (wide - 1) (omega (arith, less)) (omega (arith, two))
      (omega (arith, wider)) exts words d.tree d.scopes d.rest)

  module _ (room wide : ℕ) (less : room < suc n) (two : 2 ≤ room) (wider : room ≤ wide) where
    pub declrs_more : (exts : List ℕ) (words : SpecWords) (kind : Kind) (first firsts : Reader DeclrItem)
        (s : HeldScopes) (ts : List Lexeme)
        → More (first s ts) (firsts s ts) →
        More (declrs_with inner exts words kind room first s ts) (declrs_with other exts words kind wide firsts s ts)
    unfolding declrs_with
    declrs_more exts words kind first firsts s ts h =
        more_bind _ _ _ _
        (more_listed first firsts (next_init_declr inner kind (room - 1)) (next_init_declr other kind (wide - 1)) s ts h
        (λ x is comma s ts. next_init_declr_more (room - 1) (wide - 1) (omega (arith, less)) (omega (arith, two))
        (omega (arith, wider)) kind comma s ts)) (λ ds. more_same _)

    pub declaration_behind_more : (exts : List ℕ) (words : SpecWords) (s : HeldScopes) (ts : List Lexeme)
        → More (declaration_behind inner exts words room s ts) (declaration_behind other exts words wide s ts)
    unfolding declaration_behind bare_declaration
    declaration_behind_more exts words s ts =
        more_if (has_auto words) _ _ _ _ (auto_behind_more room wide less two wider exts words s ts)
        (more_if (is_semicolon (kind_at ts)) _ _ _ _
        (more_fits (1 + specs_height words) room wide ts _ _ wider (λ fit. more_same _))
        (declrs_more exts words (declared_kind words) (init_declr_with inner [] (declared_kind words) (room - 1))
        (init_declr_with other [] (declared_kind words) (wide - 1)) s ts
        (init_declr_more (room - 1) (wide - 1) (omega (arith, less)) (omega (arith, two)) (omega (arith, wider)) []
        (declared_kind words) s ts)))

  module _ (room wide : ℕ) (less : room < suc n) (wider : room ≤ wide) where
    declaration_more : (exts : List ℕ) (s : HeldScopes) (ts : List Lexeme)
        → More (declaration_with inner exts room s ts) (declaration_with other exts wide s ts)
    unfolding declaration_with
    declaration_more exts s ts =
        more_behind _ _ _ _ (specs_here_more n inner other m room wide less wider Declaring s ts)
        (λ words is. declaration_behind_more room wide less
        (specs_two n inner other m Declaring room s ts words is) wider exts words.tree words.scopes words.rest)

    from_more : (known : SpecWords) → 2 ≤ room → (s : HeldScopes) (ts : List Lexeme)
        → More (declaration_from inner known room s ts) (declaration_from other known wide s ts)
    unfolding declaration_from
    from_more known two s ts =
        more_bind _ _ _ _
        (m.words Declaring known (room - 1) (wide - 1) (omega (arith, less, two)) (omega (arith, wider)) s ts)
        (λ words. declaration_behind_more room wide less two wider [] words.tree words.scopes words.rest)

    expr_stmt_more : (begun : Begun) → 1 ≤ room → (s : HeldScopes) (ts : List Lexeme)
        → More (expr_stmt_with inner begun room s ts) (expr_stmt_with other begun wide s ts)
    unfolding expr_stmt_with
    expr_stmt_more begun one s ts =
        more_bind _ _ _ _ (m.exprs Whole begun (room - 1) (wide - 1) (omega (arith, less, one))
        (omega (arith, wider)) s ts) (λ e. more_same _)

    label_more : 1 ≤ room → (s : HeldScopes) (ts : List Lexeme)
        → More (label_with inner room s ts) (label_with other wide s ts)
    unfolding label_with
    label_more one s ts =
        more_bind _ _ _ _ (more_same (name_at s ts)) (λ name.
        more_bind _ _ _ _ (more_same (token_at is_colon name.scopes name.rest)) (λ colon.
        more_bind _ _ _ _ (attrs_more room wide wider colon.scopes colon.rest)
        (λ attrs. more_bind _ _ _ _ (m.stmts (room - 1) (wide - 1) (omega (arith, less, one))
        (omega (arith, wider)) attrs.scopes attrs.rest) (λ t. refl))))

    -- Items of a block.

    named_item_more : (name : ℕ) (s : HeldScopes) (ts : List Lexeme)
        → More (named_item inner name room s ts) (named_item other name wide s ts)
    unfolding named_item
    named_item_more name s ts =
        more_fits 2 room wide ts _ _ wider (λ two. more_if (is_colon (kind_at (behind_first ts))) _ _ _ _
        (more_bind _ _ _ _ (label_more (omega (arith, two)) s ts) (λ t. refl))
        (more_if (names_type s name) _ _ _ _ (more_bind _ _ _ _ (more_same (take_one s ts)) (λ token.
        more_bind _ _ _ _ (from_more _ two token.scopes token.rest) (λ d. refl)))
        (more_bind _ _ _ _ (expr_stmt_more nothing (omega (arith, two)) s ts) (λ t. refl))))

    attr_item_more : (s : HeldScopes) (ts : List Lexeme) → is_attribute (kind_at ts) ≡ true
        → More (attr_item inner room s ts) (attr_item other wide s ts)
    unfolding attr_item attr_item_by
    attr_item_more s ts begun =
        more_behind _ _ _ _ (attrs_more room wide wider s ts) (λ attrs is.
        more_if (is_semicolon (kind_at attrs.rest)) _ _ _ _ (more_same _)
        (more_if (begins_specs attrs.scopes (kind_at attrs.rest)) _ _ _ _ (more_bind _ _ _ _
        (from_more (words_of_attrs attrs.tree) (attrs_two room s ts attrs begun is) attrs.scopes attrs.rest)
        (λ d. refl)) (inr refl)))

    extended_item_more : (s : HeldScopes) (ts : List Lexeme) → is_extension (kind_at ts) ≡ true
        → More (extended_item inner room s ts) (extended_item other wide s ts)
    unfolding extended_item
    extended_item_more s ts begun =
        more_behind _ _ _ _ (exts_more room wide wider s ts) (λ exts is. let two = exts_two room s ts exts begun is in
        more_if (begins_specs exts.scopes (kind_at exts.rest)) _ _ _ _
        (more_bind _ _ _ _ (declaration_more exts.tree exts.scopes exts.rest) (λ d. refl))
        (more_bind _ _ _ _
        (expr_stmt_more (extensions exts.tree) (omega (arith, two)) exts.scopes exts.rest) (λ t. refl)))

  module _ (room wide : ℕ) (less : room < n) (wider : room ≤ wide) where
    other_item_more : (o : Option ℕ) (s : HeldScopes) (ts : List Lexeme)
        → More (other_item inner o room s ts) (other_item other o wide s ts)
    unfolding other_item
    other_item_more (Some name) s ts = named_item_more room wide (omega (arith, less)) wider name s ts
    other_item_more None s ts =
        more_if (begins_specs s (kind_at ts)) _ _ _ _
        (more_bind _ _ _ _ (declaration_more room wide (omega (arith, less)) wider [] s ts) (λ d. refl))
        (more_bind _ _ _ _ (m.stmts room wide less wider s ts) (λ t. refl))

    block_item_more : (s : HeldScopes) (ts : List Lexeme)
        → More (block_item_with inner room s ts) (block_item_with other wide s ts)
    unfolding block_item_with
    block_item_more s ts =
        more_if (is_static_assert (kind_at ts)) _ _ _ _ (more_fits 1 room wide ts _ _ wider (λ one. more_same _))
        (more_choice (is_extension (kind_at ts)) _ _ _ _
        (λ is. extended_item_more room wide (omega (arith, less)) wider s ts is)
        (λ off. more_choice (is_attribute (kind_at ts)) _ _ _ _ (λ is. attr_item_more room wide
        (omega (arith, less)) wider s ts is) (λ off. other_item_more (spelled_name (kind_at ts)) s ts)))

    some_expr_more : (test : TokenKind → Bool) (s : HeldScopes) (ts : List Lexeme)
        → More (some_expr_with inner test room s ts) (some_expr_with other test wide s ts)
    unfolding some_expr_with
    some_expr_more test s ts =
        more_if (test (kind_at ts)) _ _ _ _ refl
        (more_bind _ _ _ _ (m.exprs Whole nothing room wide less wider s ts) (λ e. refl))

    part_more : (s : HeldScopes) (ts : List Lexeme) → More (part_with inner room s ts) (part_with other wide s ts)
    part_more s ts = more_bind _ _ _ _ (m.stmts room wide less wider (enter s) ts) (λ t. refl)

    some_else_more : (s : HeldScopes) (ts : List Lexeme)
        → More (some_else_with inner room s ts) (some_else_with other wide s ts)
    unfolding some_else_with
    some_else_more s ts =
        more_if (is_else (kind_at ts)) _ _ _ _ (more_bind _ _ _ _ (more_same (take_one s ts))
        (λ keyword. more_bind _ _ _ _ (part_more keyword.scopes keyword.rest) (λ t. refl))) refl

    value_start_more : (begun : Begun) (s : HeldScopes) (ts : List Lexeme)
        → More (start_value_with inner begun room s ts) (start_value_with other begun wide s ts)
    unfolding start_value_with
    value_start_more begun s ts = more_bind _ _ _ _ (m.exprs Whole begun room wide less wider s ts) (λ e. more_same _)

    for_start_more : (s : HeldScopes) (ts : List Lexeme)
        → More (for_start_with inner room s ts) (for_start_with other wide s ts)
    unfolding for_start_with extended_start
    for_start_more s ts =
        more_if (is_semicolon (kind_at ts)) _ _ _ _ (more_same _) (more_if (is_extension (kind_at ts)) _ _ _ _
        (more_bind _ _ _ _ (exts_more room wide wider s ts) (λ exts.
        more_if (begins_specs exts.scopes (kind_at exts.rest)) _ _ _ _
        (more_bind _ _ _ _ (declaration_more room wide (omega (arith, less)) wider exts.tree exts.scopes exts.rest)
        (λ d. refl)) (value_start_more (extensions exts.tree) exts.scopes exts.rest)))
        (more_if (begins_specs s (kind_at ts)) _ _ _ _ (more_bind _ _ _ _
        (declaration_more room wide (omega (arith, less)) wider [] s ts) (λ d. refl)) (value_start_more nothing s ts)))

  -- Blocks and statements.

  module _ (room wide : ℕ) (less : room < suc n) (one : 1 ≤ room) (wider : room ≤ wide) where
    lower : room - 1 < n
    lower = omega (arith, less, one)

    wide_lower : room - 1 ≤ wide - 1
    wide_lower = omega (arith, wider)

    pub block_body_more : (s : HeldScopes) (ts : List Lexeme)
        → More (block_body inner room s ts) (block_body other wide s ts)
    unfolding block_body labels_with
    block_body_more s ts =
        more_bind _ _ _ _ (more_same (take_one s ts)) (λ opening. more_bind _ _ _ _
        (more_repeated is_label_word (labels_with inner (room - 1)) (labels_with other (wide - 1))
        (λ s ts. more_fits 1 (room - 1) (wide - 1) ts _ _ wide_lower (λ fit. more_same _)) opening.scopes opening.rest)
        (λ labels. more_bind _ _ _ _ (more_repeated (λ kind. not (is_close_brace kind))
        (block_item_with inner (room - 1)) (block_item_with other (wide - 1))
        (block_item_more (room - 1) (wide - 1) lower wide_lower) labels.scopes labels.rest) (λ items. more_same _)))

    headed_more : (make : ℕ → ℕ → Expr → ℕ → Stmt → Stmt) (s : HeldScopes) (ts : List Lexeme)
        → More (headed_inside inner make room s ts) (headed_inside other make wide s ts)
    unfolding headed_inside
    headed_more make s ts =
        more_bind _ _ _ _ (more_same (take_one s ts)) (λ keyword.
        more_bind _ _ _ _ (more_same (token_at is_open_paren keyword.scopes keyword.rest))
        (λ opening.
        more_bind _ _ _ _ (m.exprs Whole nothing (room - 1) (wide - 1) lower wide_lower opening.scopes opening.rest)
        (λ e. more_bind _ _ _ _ (more_same (token_at is_close_paren e.scopes e.rest))
        (λ closing.
        more_bind _ _ _ _ (part_more (room - 1) (wide - 1) lower wide_lower closing.scopes closing.rest) (λ t. refl)))))

    if_more : (s : HeldScopes) (ts : List Lexeme) → More (if_inside inner room s ts) (if_inside other wide s ts)
    unfolding if_inside
    if_more s ts =
        more_bind _ _ _ _ (more_same (take_one s ts)) (λ keyword.
        more_bind _ _ _ _ (more_same (token_at is_open_paren keyword.scopes keyword.rest))
        (λ opening.
        more_bind _ _ _ _ (m.exprs Whole nothing (room - 1) (wide - 1) lower wide_lower opening.scopes opening.rest)
        (λ e. more_bind _ _ _ _ (more_same (token_at is_close_paren e.scopes e.rest))
        (λ closing. more_bind _ _ _ _ (part_more (room - 1) (wide - 1) lower wide_lower closing.scopes closing.rest)
        (λ t. more_bind _ _ _ _ (some_else_more (room - 1) (wide - 1) lower wide_lower t.scopes t.rest) (λ o. refl))))))

    do_more : (s : HeldScopes) (ts : List Lexeme) → More (do_inside inner room s ts) (do_inside other wide s ts)
    unfolding do_inside
    do_more s ts =
        more_bind _ _ _ _ (more_same (take_one s ts)) (λ keyword.
        more_bind _ _ _ _ (part_more (room - 1) (wide - 1) lower wide_lower keyword.scopes keyword.rest)
        (λ t. more_bind _ _ _ _ (more_same (token_at is_while t.scopes t.rest)) (λ keyword2.
        more_bind _ _ _ _ (more_same (token_at is_open_paren keyword2.scopes keyword2.rest))
        (λ opening. more_bind _ _ _ _ (m.exprs Whole nothing (room - 1)
        (wide - 1) lower wide_lower opening.scopes opening.rest) (λ e. more_same _)))))

    for_more : (s : HeldScopes) (ts : List Lexeme) → More (for_inside inner room s ts) (for_inside other wide s ts)
    unfolding for_inside
    for_more s ts =
        more_bind _ _ _ _ (more_same (take_one s ts)) (λ keyword.
        more_bind _ _ _ _ (more_same (token_at is_open_paren keyword.scopes keyword.rest))
        (λ opening.
        more_bind _ _ _ _ (for_start_more (room - 1) (wide - 1) lower wide_lower opening.scopes opening.rest)
        (λ start.
        more_bind _ _ _ _ (some_expr_more (room - 1) (wide - 1) lower wide_lower is_semicolon start.scopes start.rest)
        (λ e. more_bind _ _ _ _ (more_same (token_at is_semicolon e.scopes e.rest))
        (λ semi.
        more_bind _ _ _ _ (some_expr_more (room - 1) (wide - 1) lower wide_lower is_close_paren semi.scopes semi.rest)
        (λ e2. more_bind _ _ _ _ (more_same (token_at is_close_paren e2.scopes e2.rest))
        (λ closing. more_bind _ _ _ _ (part_more (room - 1) (wide - 1) lower wide_lower closing.scopes closing.rest)
        (λ t. refl))))))))

    case_more : (s : HeldScopes) (ts : List Lexeme) → More (case_with inner room s ts) (case_with other wide s ts)
    unfolding case_with stating.range_behind value_behind
    case_more s ts =
        more_fits 2 room wide ts _ _ wider (λ two. more_bind _ _ _ _ (more_same (take_one s ts)) (λ keyword. more_bind _
        _ _ _ (m.exprs Conditional nothing (room - 1) (wide - 1) lower wide_lower keyword.scopes keyword.rest)
        (λ e. more_if (is_wide e.scopes && is_dots (kind_at e.rest)) _ _ _ _
        (more_bind _ _ _ _ (more_same (take_one e.scopes e.rest)) (λ dots.
        more_bind _ _ _ _ (m.exprs Conditional nothing (room - 1) (wide - 1) lower wide_lower dots.scopes dots.rest)
        (λ e2. more_bind _ _ _ _ (more_same (token_at is_colon e2.scopes e2.rest)) (λ colon.
        more_bind _ _ _ _ (m.stmts (room - 1) (wide - 1) lower wide_lower colon.scopes colon.rest) (λ t. refl)))))
        (more_bind _ _ _ _ (more_same (token_at is_colon e.scopes e.rest)) (λ colon.
        more_bind _ _ _ _ (m.stmts (room - 1) (wide - 1) lower wide_lower colon.scopes colon.rest) (λ t. refl))))))

    default_more : (s : HeldScopes) (ts : List Lexeme)
        → More (default_with inner room s ts) (default_with other wide s ts)
    unfolding default_with
    default_more s ts =
        more_fits 2 room wide ts _ _ wider (λ two. more_bind _ _ _ _ (more_same (take_one s ts)) (λ keyword.
        more_bind _ _ _ _ (more_same (token_at is_colon keyword.scopes keyword.rest))
        (λ colon.
        more_bind _ _ _ _ (m.stmts (room - 1) (wide - 1) lower wide_lower colon.scopes colon.rest) (λ t. refl))))

    return_more : (s : HeldScopes) (ts : List Lexeme) → More (return_with inner room s ts) (return_with other wide s ts)
    unfolding return_with
    return_more s ts =
        more_fits 1 room wide ts _ _ wider
        (λ fit. more_bind _ _ _ _ (more_same (take_one s ts)) (λ keyword. more_bind _ _ _ _ (some_expr_more (room - 1)
        (wide - 1) lower wide_lower is_semicolon keyword.scopes keyword.rest) (λ e. more_same _)))

    named_stmt_more : (name : ℕ) (s : HeldScopes) (ts : List Lexeme)
        → More (named_stmt inner name room s ts) (named_stmt other name wide s ts)
    unfolding named_stmt
    named_stmt_more name s ts =
        more_fits 2 room wide ts _ _ wider (λ two.
        more_if (is_colon (kind_at (behind_first ts))) _ _ _ _ (label_more room wide less wider one s ts)
        (more_if (names_type s name) _ _ _ _ (inr refl) (expr_stmt_more room wide less wider nothing one s ts)))

    pub stmt_by_more : (start : StmtStart) (s : HeldScopes) (ts : List Lexeme)
        → More (stmt_by inner start room s ts) (stmt_by other start wide s ts)
    unfolding stmt_by block_with goto_with goto_value_with goto_name jump_with asm_with attr_stmt_with
    stmt_by_more starts.Block s ts =
        more_bind _ _ _ _ (more_if (is_open_brace (kind_at ts)) _ _ _ _ (more_fits 1 room wide ts _ _ wider
        (λ fit. more_bind _ _ _ _ (block_body_more (enter s) ts) (λ b. refl))) (inr refl)) (λ b. refl)
    stmt_by_more starts.Semicolon s ts = more_fits 1 room wide ts _ _ wider (λ fit. more_same _)
    stmt_by_more starts.Attribute s ts = more_bind _ _ _ _ (attrs_more room wide wider s ts) (λ attrs. more_same _)
    stmt_by_more (starts.Name name) s ts = named_stmt_more name s ts
    stmt_by_more starts.Case s ts = case_more s ts
    stmt_by_more starts.Default s ts = default_more s ts
    stmt_by_more starts.If s ts =
        more_fits 2 room wide ts _ _ wider (λ fit. more_bind _ _ _ _ (if_more (enter s) ts) (λ t. refl))
    stmt_by_more starts.Switch s ts =
        more_fits 2 room wide ts _ _ wider (λ fit. more_bind _ _ _ _ (headed_more switch_stmt (enter s) ts) (λ t. refl))
    stmt_by_more starts.While s ts =
        more_fits 2 room wide ts _ _ wider (λ fit. more_bind _ _ _ _ (headed_more while_stmt (enter s) ts) (λ t. refl))
    stmt_by_more starts.Do s ts =
        more_fits 2 room wide ts _ _ wider (λ fit. more_bind _ _ _ _ (do_more (enter s) ts) (λ t. refl))
    stmt_by_more starts.For s ts =
        more_fits 2 room wide ts _ _ wider (λ fit. more_bind _ _ _ _ (for_more (enter s) ts) (λ t. refl))
    stmt_by_more starts.Goto s ts =
        more_fits 1 room wide ts _ _ wider (λ fit. more_bind _ _ _ _ (more_same (take_one s ts)) (λ keyword.
        more_if (is_wide keyword.scopes && is_star (kind_at keyword.rest)) _ _ _ _
        (more_fits 2 room wide keyword.rest _ _ wider (λ two.
        more_bind _ _ _ _ (more_same (take_one keyword.scopes keyword.rest))
        (λ star. more_bind _ _ _ _ (m.exprs Whole nothing (room - 1) (wide - 1) lower wide_lower star.scopes star.rest)
        (λ e. more_same _)))) (more_same _)))
    stmt_by_more starts.Continue s ts = more_fits 1 room wide ts _ _ wider (λ fit. more_same _)
    stmt_by_more starts.Break s ts = more_fits 1 room wide ts _ _ wider (λ fit. more_same _)
    stmt_by_more starts.Return s ts = return_more s ts
    stmt_by_more starts.Asm s ts = more_fits 1 room wide ts _ _ wider (λ fit. more_same _)
    stmt_by_more starts.Value s ts =
        more_if (begins_expr s (kind_at ts)) _ _ _ _
        (more_fits 2 room wide ts _ _ wider (λ two. expr_stmt_more room wide less wider nothing one s ts)) (inr refl)

  -- without room nothing is read but a refusal
  module _ (room wide : ℕ) (less : room < suc n) (wider : room ≤ wide) where
    pub block_more : (s : HeldScopes) (ts : List Lexeme)
        → More (block_with inner room s ts) (block_with other wide s ts)
    unfolding block_with
    block_more s ts =
        more_if (is_open_brace (kind_at ts)) _ _ _ _ (more_fits 1 room wide ts _ _ wider
        (λ one. more_bind _ _ _ _ (block_body_more room wide less one wider (enter s) ts) (λ b. refl))) (inr refl)
