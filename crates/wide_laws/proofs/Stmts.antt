-- Initialisers, declarations, statements and the items of a unit with more room.
use Rattle.std.proofs.Common.{◌++◌, if◌then◌else◌, ◌≡◌, ℕ, suc, sym, ap, subst, ◌∷◌, false, ◌+◌, ◌<◌, ◌≤◌, Bool, true, List, [], inr, Option, Some, None, Ok, refl, arith}
use Rattle.std.specs.Prelude.{◌-◌, ◌||◌, not, ◌&&◌}
use Rattle.std.proofs.lemmas.Bool.{not_from_false}
use Rattle.c_words.specs.declared.kinds.TokenKind.{TokenKind}
use Rattle.c_words.specs.declared.kinds.TokenKind.TheVariants as kinds
use Rattle.c_syntax.specs.declared.parts.Identifier.{Identifier}
use Rattle.c_tree.specs.declared.lexeme.Lexeme.{Lexeme}
use Rattle.c_syntax.specs.declared.parts.Attr.{Attr}
use Rattle.c_tree.specs.Tree.{label, continue_stmt, break_stmt, Desigs, no_desigs, more_desigs, Expr, SpecWords, Declr, Stmt, switch_stmt, while_stmt}
use Rattle.c_tree.specs.Height.{specs_height}
use Rattle.c_tree.specs.Specifiers.{storage_words}
use Rattle.c_tree.specs.WellFormed.{has_auto}
use Rattle.typedef_scope.specs.declared.kind.Kind.TheVariants.{Value}
use Rattle.typedef_scope.specs.declared.kind.Kind.{Kind}
use Rattle.c_units.specs.HeldScopes.{HeldScopes, names_type, enter, release, is_wide}
use Rattle.c_units.specs.Scoping.{declared_kind, at_name, has_typedef_word}
use Rattle.c_reading.specs.declared.kinds.Reach.TheVariants.{Whole, Assigned, Conditional}
use Rattle.c_reading.specs.declared.kinds.Role.TheVariants.{Declaring}
use Rattle.c_reading.specs.declared.kinds.StmtStart.{StmtStart}
use Rattle.c_reading.specs.declared.kinds.StmtStart.TheVariants as starts
use Rattle.c_reading.specs.Reading.{Found, Read, Reader, and_then, ends, take_one, token_at, kind_at, behind_first, repeated, repeated_turn}
use Rattle.c_reading.specs.Tokens.{name_by, identifier_of, is_asm, is_close_bracket, is_open_paren, is_close_paren, is_open_brace, is_close_brace, is_colon, is_semicolon, is_equal, is_base_word, is_while, is_else, is_extension, is_attribute, is_static_assert, spelled_name, name_at, extensions_at, attrs_at, attr_at, is_dots, is_star, is_label_word}
use Rattle.c_reading.specs.Parts.{Inner, Begun, nothing, extensions, DeclrItem, desigs_from}
use Rattle.c_reading.specs.Specifying.{begins_specs}
use Rattle.c_reading.specs.Declaring.{words_of_attrs, name_held}
use Rattle.c_reading.specs.Expressing.{begins_expr, begins_desig, is_dot}
use Rattle.c_reading.specs.Initialising.{equal_behind, begins_init, init_with, member_desig_with, index_desig_with, desig_with, init_here, init_item_with, next_init_item, init_items_with, braced_with, init_list_with, index_behind, plain_item, old_item, named_init_item, init_item_by}
use Rattle.c_reading.specs.Stating.{stmt_start, stmt_with, label_at, some_init_with, declr_behind, init_declr_with, next_init_declr, declrs_with, bare_declaration, declaration_behind, declaration_with, declaration_from, expr_stmt_with, label_with, named_item, extended_item, attr_item_by, attr_item, other_item, block_item_with, block_body, block_with, part_with, some_expr_with, case_with, default_with, some_else_with, if_inside, headed_inside, do_inside, start_value_with, extended_start, for_start_with, for_inside, goto_with, jump_with, return_with, asm_with, attr_stmt_with, named_stmt, stmt_by, auto_declr, auto_name, auto_declarator, auto_behind, labels_with, value_behind, goto_value_with, goto_name}
use Rattle.c_reading.specs.Initialising as initialising
use Rattle.c_reading.specs.Stating as stating
use Rattle.c_reading.proofs.Binding.{take_falls}
use Rattle.c_reading.proofs.StmtKinds.{start_name}
use Rattle.c_reading.proofs.KnotLaws.{none_tokens}
use Rattle.room_laws.proofs.More.{first_fits}
use Rattle.wide_laws.specs.Wide.{Near, Late, Both, Ahead, InnerBoth}
use Rattle.wide_laws.proofs.Both.{ahead_take, owned_asks, refused_behind, all_left, late_bind, late_refused, late_if, late_take, past_take, ready, refused, when, both_bind, both_behind, both_then, both_takes, both_asks, both_fits, both_if, both_choice, both_repeated, both_listed, late_fits, run_ends, both_same}
use Rattle.wide_laws.proofs.Words.{late_token, late_name, late_group, late_asm_words, assert_both, attrs_both, exts_both}
use Rattle.wide_laws.proofs.Declr.{late_names_list}
use Rattle.wide_laws.proofs.Specs.{specs_here_both, specs_two, named_declr_both, late_present}

attrs_two : (room : ℕ) (s : HeldScopes) (ts : List Lexeme) (x : Found (List Attr)) → is_attribute (kind_at ts) ≡ true
    → attrs_at room s ts ≡ Ok x → 2 ≤ room
unfolding attrs_at
attrs_two room s ts x begun e = first_fits is_attribute 2 room attr_at none_tokens.attr_shrinks s ts x begun e

exts_two : (room : ℕ) (s : HeldScopes) (ts : List Lexeme) (x : Found (List ℕ)) → is_extension (kind_at ts) ≡ true
    → extensions_at room s ts ≡ Ok x → 2 ≤ room
unfolding extensions_at
exts_two room s ts x begun e =
    first_fits is_extension 2 room take_one
    (λ s ts x e. let one = take_falls s ts x e in omega (arith, one)) s ts x begun e

pub late_label : (s : HeldScopes) (ts : List Lexeme) → Late ts (label_at s ts)
unfolding label_at
late_label s ts =
    late_if ts (is_asm (kind_at ts)) _ _ (λ is. late_bind ts _ _ (late_take s ts) (λ keyword. late_bind keyword.rest _ _
    (late_group keyword.scopes keyword.rest) (λ group. all_left group.rest))) (λ off. all_left ts)

pub past_label : (s : HeldScopes) (ts : List Lexeme) → is_asm (kind_at ts) ≡ true
    → Late (behind_first ts) (label_at s ts)
unfolding label_at
past_label s ts is =
    late_if (behind_first ts) (is_asm (kind_at ts)) _ _ (λ on. past_take s ts _ (λ keyword. late_bind keyword.rest _ _
    (late_group keyword.scopes keyword.rest) (λ group. all_left group.rest))) (λ off. absurd cc)

-- a name is taken
past_name : {A : Type 0} (s : HeldScopes) (ts : List Lexeme) (f : Found Identifier → Read A) (name : ℕ)
    → spelled_name (kind_at ts) ≡ Some name → ((x : Found Identifier) → Late x.rest (f x))
    → Late (behind_first ts) (and_then (name_at s ts) f)
unfolding and_then
past_name s [] f name is k = inr (late_refused [])
past_name {A} s (t ∷ ts) f name is k = by_name (spelled_name t.kind) is
  where
    by_name : (o : Option ℕ) → o ≡ Some name → Late ts (and_then (name_by o t s ts) f)
    by_name None h = absurd cc
    by_name (Some x) h = k (record { tree = identifier_of t.at x; scopes = s; rest = ts })

-- an initialiser that is no list begins as an expression
value_begins : (s : HeldScopes) (kind : TokenKind) → begins_init s kind ≡ true → is_open_brace kind ≡ false
    → begins_expr s kind ≡ true
value_begins s kind h off = by_test (is_open_brace kind) (begins_expr s kind) h off
  where
    by_test : (b c : Bool) → b || c ≡ true → b ≡ false → c ≡ true
    by_test true c h off = absurd cc
    by_test false c h off = h

-- a name that is no type begins an expression
name_begins : (s : HeldScopes) (kind : TokenKind) (name : ℕ) → spelled_name kind ≡ Some name → names_type s name ≡ false
    → begins_expr s kind ≡ true
name_begins s (kinds.Name x) name is off =
    subst (λ (x : ℕ). not (names_type s x) ≡ true) (sym (some_is x name is)) (not_from_false (names_type s name) off)
  where
    some_is : (x y : ℕ) → Some x ≡ Some y → x ≡ y
    some_is x y h = cc
name_begins s kind name is off = absurd cc

module _ {S : Type 0} (n gap : ℕ) (inner other : Inner) (m : InnerBoth S n gap inner other) where
  -- Initialisers.

  pub init_both : (room wide : ℕ) → Near gap room wide → (s : HeldScopes) (ts : List Lexeme)
      → Both S (room < n) ts (init_with inner room s ts) (init_with other wide s ts)
  unfolding init_with
  init_both room wide wider s ts =
      both_if (is_open_brace (kind_at ts)) _ _ _ _ (both_bind _ _ _ _ (m.lists room wide wider s ts) (λ list. ready _))
      (both_bind _ _ _ _ (m.exprs Assigned nothing room wide wider s ts) (λ e. ready _))

  init_past : S → (wide : ℕ) → wide ≤ n + gap - 1 → (s : HeldScopes) (ts : List Lexeme)
      → begins_init s (kind_at ts) ≡ true → Late (behind_first ts) (init_with other wide s ts)
  unfolding init_with
  init_past strict wide bound s ts is =
      late_if (behind_first ts) (is_open_brace (kind_at ts)) _ _
      (λ on. late_bind (behind_first ts) _ _ (m.list_first strict wide bound s ts on) (λ list. all_left list.rest))
      (λ off. late_bind (behind_first ts) _ _
      (m.assigned_first strict wide bound s ts (value_begins s (kind_at ts) is off)) (λ e. all_left e.rest))

  module _ (room wide : ℕ) (less : room < suc n) (wider : Near gap room wide) where
    desig_both : {D : Type 0} (s : HeldScopes) (ts : List Lexeme)
        → Both S D ts (desig_with inner room s ts) (desig_with other wide s ts)
    unfolding desig_with member_desig_with index_desig_with index_behind initialising.range_behind
    desig_both s ts =
        both_if (is_dot (kind_at ts)) _ _ _ _ (both_asks 2 room wide s ts _ _ wider.0 (λ token.
        both_then _ _ _ (late_name token.scopes token.rest) (λ name. ready _)))
        (both_asks 3 room wide s ts _ _ wider.0 (λ opening.
        both_bind _ _ _ _ (when (λ three. omega (arith, less, three))
        (m.exprs Conditional nothing (room - 2) (wide - 2) (omega (arith, wider)) opening.scopes opening.rest))
        (λ e. both_if (is_wide e.scopes && is_dots (kind_at e.rest)) _ _ _ _
        (both_then _ _ _ (late_take e.scopes e.rest) (λ dots.
        both_bind _ _ _ _ (when (λ three. omega (arith, less, three))
        (m.exprs Conditional nothing (room - 2) (wide - 2) (omega (arith, wider)) dots.scopes dots.rest))
        (λ e2. both_then _ _ _ (late_token is_close_bracket e2.scopes e2.rest) (λ closing. ready _))))
        (both_then _ _ _ (late_token is_close_bracket e.scopes e.rest) (λ closing. ready _)))))

    late_equal : (desigs : Desigs) (s : HeldScopes) (ts : List Lexeme) → Late ts (equal_behind desigs s ts)
    late_equal no_desigs s ts = all_left ts
    late_equal (more_desigs d ds) s ts = late_bind ts _ _ (late_token is_equal s ts) (λ equal. all_left equal.rest)

    init_here_both : {D : Type 0} (s : HeldScopes) (ts : List Lexeme)
        → Both S D ts (init_here inner room s ts) (init_here other wide s ts)
    unfolding init_here
    init_here_both s ts =
        both_choice (begins_init s (kind_at ts)) _ _ _ _
        (λ is. both_fits 2 room wide ts _ _ wider.0
        (λ strict. init_past strict (wide - 1) (omega (arith, less, wider)) s ts is)
        (when (λ two. omega (arith, less, two)) (init_both (room - 1) (wide - 1) (omega (arith, wider)) s ts)))
        (λ off. refused _ ts)

    init_here_past : S → (s : HeldScopes) (ts : List Lexeme) → begins_init s (kind_at ts) ≡ true
        → Late (behind_first ts) (init_here other wide s ts)
    unfolding init_here
    init_here_past strict s ts is =
        late_if (behind_first ts) (begins_init s (kind_at ts)) _ _ (λ on. late_fits 2 wide ts (behind_first ts) _
        (init_past strict (wide - 1) (omega (arith, less, wider)) s ts is)) (λ off. absurd cc)

    plain_item_both : {D : Type 0} (s : HeldScopes) (ts : List Lexeme)
        → Both S D ts (plain_item inner room s ts) (plain_item other wide s ts)
    unfolding plain_item
    plain_item_both s ts =
        both_bind _ _ _ _
        (both_repeated begins_desig (desig_with inner room) (desig_with other wide) (λ s ts is. desig_both s ts) s ts)
        (λ desigs. both_then _ _ _ (late_equal (desigs_from desigs.tree) desigs.scopes desigs.rest)
        (λ equal. both_bind _ _ _ _ (init_here_both equal.scopes equal.rest) (λ init. ready _)))

    -- a name that is no type begins an initialiser without designators
    plain_item_past : S → (s : HeldScopes) (ts : List Lexeme) (name : ℕ) → spelled_name (kind_at ts) ≡ Some name
        → names_type s name ≡ false → Late (behind_first ts) (plain_item other wide s ts)
    unfolding plain_item repeated and_then
    plain_item_past strict s ts name is off =
        rw (run_ends (repeated_turn begins_desig (desig_with other wide)) [] s ts (no_turn (kind_at ts) is))
        (late_bind (behind_first ts) _ _ (init_here_past strict s ts
        (inits s (kind_at ts) (name_begins s (kind_at ts) name is off))) (λ init. all_left init.rest))
      where
        no_turn : (kind : TokenKind) → spelled_name kind ≡ Some name
            → (if begins_desig kind then Some
            (and_then (desig_with other wide s ts) (λ x. ends ([] ++ x.tree ∷ []) x.scopes x.rest)) else None) ≡ None
        no_turn (kinds.Name n) is = refl
        no_turn kind is = absurd cc

        inits : (s : HeldScopes) (kind : TokenKind) → begins_expr s kind ≡ true → begins_init s kind ≡ true
        inits s kind h = by (is_open_brace kind) (begins_expr s kind) h
          where
            by : (b c : Bool) → c ≡ true → b || c ≡ true
            by true c h = refl
            by false c h = h

    named_init_both : {D : Type 0} (name : ℕ) (s : HeldScopes) (ts : List Lexeme)
        → spelled_name (kind_at ts) ≡ Some name
        → Both S D ts (named_init_item inner name room s ts) (named_init_item other name wide s ts)
    unfolding named_init_item old_item
    named_init_both name s ts is =
        both_fits 2 room wide ts _ _ wider.0
        (λ strict. late_if (behind_first ts) (is_colon (kind_at (behind_first ts))) _ _
        (λ on. past_name s ts _ name is (λ name. late_bind name.rest _ _ (late_token is_colon name.scopes name.rest)
        (λ colon.
        late_bind colon.rest _ _ (init_here_both {D = ⊥} colon.scopes colon.rest).late (λ init. all_left init.rest))))
        (λ off. late_if (behind_first ts) (names_type s name) _ _ (λ on. inr (late_refused (behind_first ts)))
        (λ off. plain_item_past strict s ts name is off)))
        (both_if (is_colon (kind_at (behind_first ts))) _ _ _ _
        (both_then _ _ _ (late_name s ts) (λ name. both_then _ _ _ (late_token is_colon name.scopes name.rest) (λ colon.
        both_bind _ _ _ _ (init_here_both colon.scopes colon.rest) (λ init. ready _))))
        (both_if (names_type s name) _ _ _ _ (refused_behind _ ts) (plain_item_both s ts)))

    init_item_both : {D : Type 0} (s : HeldScopes) (ts : List Lexeme)
        → Both S D ts (init_item_with inner room s ts) (init_item_with other wide s ts)
    unfolding init_item_with
    init_item_both {D} s ts = by (spelled_name (kind_at ts)) refl
      where
        by : (o : Option ℕ) → spelled_name (kind_at ts) ≡ o
            → Both S D ts (init_item_by inner o room s ts) (init_item_by other o wide s ts)
        by None is = plain_item_both s ts
        by (Some name) is = both_if (is_wide s) _ _ _ _ (named_init_both name s ts is) (plain_item_both s ts)

  module _ (room wide : ℕ) (less : room < suc n) (wider : Near gap room wide) where
    braced_both : {D : Type 0} (s : HeldScopes) (ts : List Lexeme)
        → Ahead S D ts (braced_with inner room s ts) (braced_with other wide s ts)
    unfolding braced_with init_items_with next_init_item
    braced_both s ts =
        both_takes 1 room wide s ts _ _ wider.0 (λ opening. both_bind _ _ _ _
        (both_if (is_close_brace (kind_at opening.rest)) _ _ _ _ (ready _)
        (both_listed (init_item_with inner (room - 1)) (init_item_with other (wide - 1))
        (next_init_item inner (room - 1)) (next_init_item other (wide - 1)) opening.scopes opening.rest
        (init_item_both (room - 1) (wide - 1) (omega (arith, less)) (omega (arith, wider)) opening.scopes opening.rest)
        (λ x one is. one)
        (λ comma s ts. both_if (is_close_brace (kind_at ts)) _ _ _ _ (ready _) (both_bind _ _ _ _
        (init_item_both (room - 1) (wide - 1) (omega (arith, less)) (omega (arith, wider)) s ts) (λ x. ready _)))))
        (λ items. both_then _ _ _ (late_token is_close_brace items.scopes items.rest) (λ closing. ready _)))

    pub init_list_both : {D : Type 0} (s : HeldScopes) (ts : List Lexeme)
        → Both S D ts (init_list_with inner room s ts) (init_list_with other wide s ts)
    unfolding init_list_with
    init_list_both s ts = both_if (is_open_brace (kind_at ts)) _ _ _ _ (braced_both s ts).both (refused _ ts)

    pub init_list_past : (s : HeldScopes) (ts : List Lexeme) → is_open_brace (kind_at ts) ≡ true
        → Late (behind_first ts) (init_list_with other wide s ts)
    unfolding init_list_with
    init_list_past s ts is =
        late_if (behind_first ts) (is_open_brace (kind_at ts)) _ _ (λ on. (braced_both {D = ⊥} s ts).past)
        (λ off. absurd cc)

  -- Declarations.

  module _ (room wide : ℕ) (less : room < suc n) (wider : Near gap room wide) where
    pub some_init_both : (s : HeldScopes) (ts : List Lexeme)
        → Both S (1 ≤ room) ts (some_init_with inner room s ts) (some_init_with other wide s ts)
    unfolding some_init_with
    some_init_both s ts =
        both_if (is_equal (kind_at ts)) _ _ _ _
        (both_then _ _ _ (late_take s ts) (λ equal. both_bind _ _ _ _ (when (λ one. omega (arith, less, one))
        (init_both (room - 1) (wide - 1) (omega (arith, wider)) equal.scopes equal.rest)) (λ init. ready _))) (ready _)

    pub declr_behind_both : (before : List Attr) (d : Declr) (s : HeldScopes) (ts : List Lexeme)
        → Both S (1 ≤ room) ts (declr_behind inner before d room s ts) (declr_behind other before d wide s ts)
    unfolding declr_behind
    declr_behind_both before d s ts =
        both_then _ _ _ (late_label s ts)
        (λ name. both_bind _ _ _ _ (attrs_both room wide wider.0 name.scopes name.rest) (λ attrs.
        both_bind _ _ _ _ (some_init_both attrs.scopes attrs.rest) (λ init. ready _)))

    init_declr_both : (before : List Attr) (kind : Kind) (s : HeldScopes) (ts : List Lexeme)
        → Both S (1 ≤ room) ts (init_declr_with inner before kind room s ts)
        (init_declr_with other before kind wide s ts)
    unfolding init_declr_with
    init_declr_both before kind s ts =
        both_bind _ _ _ _ (when (λ one. omega (arith, less, one))
        (named_declr_both n gap inner other m (Some kind) (room - 1) (wide - 1) (omega (arith, wider)) s ts))
        (λ d. declr_behind_both before d.tree (release kind d.scopes) d.rest)

    pub next_init_declr_both : (kind : Kind) (comma : ℕ) (s : HeldScopes) (ts : List Lexeme)
        → Both S (1 ≤ room) ts (next_init_declr inner kind room comma s ts) (next_init_declr other kind wide comma s ts)
    unfolding next_init_declr
    next_init_declr_both kind comma s ts =
        both_bind _ _ _ _ (attrs_both room wide wider.0 s ts)
        (λ attrs. both_bind _ _ _ _ (init_declr_both attrs.tree kind attrs.scopes attrs.rest) (λ d. ready _))

  module _ (room wide : ℕ) (less : room < suc n) (wider : Near gap room wide) where
    pub declrs_both : (exts : List ℕ) (words : SpecWords) (kind : Kind) (first firsts : Reader DeclrItem)
        (s : HeldScopes) (ts : List Lexeme)
        → Both S (2 ≤ room) ts (first s ts) (firsts s ts) →
        Both S (2 ≤ room) ts (declrs_with inner exts words kind room first s ts)
        (declrs_with other exts words kind wide firsts s ts)
    unfolding declrs_with
    declrs_both exts words kind first firsts s ts h =
        both_bind _ _ _ _ (both_listed first firsts (next_init_declr inner kind (room - 1))
        (next_init_declr other kind (wide - 1)) s ts h (λ x two is. two)
        (λ comma s ts. when (λ two. omega (arith, two))
        (next_init_declr_both (room - 1) (wide - 1) (omega (arith, less)) (omega (arith, wider)) kind comma s ts)))
        (λ ds. both_then _ _ _ (late_token is_semicolon ds.scopes ds.rest) (λ semi. ready _))

    pub bare_both : {D : Type 0} (exts : List ℕ) (words : SpecWords) (s : HeldScopes) (ts : List Lexeme)
        → Both S D ts (bare_declaration inner exts words room s ts) (bare_declaration other exts words wide s ts)
    unfolding bare_declaration
    bare_both exts words s ts = both_asks (1 + specs_height words) room wide s ts _ _ wider.0 (λ semi. ready _)

    -- a name of the type of its initialiser

    auto_name_both : {D : Type 0} (o : Option ℕ) (s : HeldScopes) (ts : List Lexeme)
        → Both S D ts (auto_name inner o (room - 2) s ts) (auto_name other o (wide - 2) s ts)
    auto_name_both None s ts = refused _ ts
    auto_name_both {D} (Some name) s ts =
        both_bind _ _ _ _ (held (at_name (Some Value) name s))
        (λ d. both_same _ (late_present d.tree.declr d.scopes d.rest))
      where
        held : (o : Option HeldScopes)
            → Both S D ts (name_held name (room - 2) o s ts) (name_held name (wide - 2) o s ts)
        held None = refused _ ts
        held (Some t) = both_asks 1 (room - 2) (wide - 2) s ts _ _ (omega (arith, wider)) (λ token. ready _)

    auto_declarator_both : {D : Type 0} (typed : Bool) (s : HeldScopes) (ts : List Lexeme)
        → Both S D ts (auto_declarator inner typed (room - 2) s ts) (auto_declarator other typed (wide - 2) s ts)
    auto_declarator_both false s ts = auto_name_both (spelled_name (kind_at ts)) s ts
    auto_declarator_both true s ts =
        both_if (is_base_word (kind_at ts)) _ _ _ _
        (both_asks 1 (room - 2) (wide - 2) s ts _ _ (omega (arith, wider)) (λ token. ready _)) (refused _ ts)

    auto_declr_both : (exts : List ℕ) (words : SpecWords) (d : Declr) (s : HeldScopes) (ts : List Lexeme)
        → Both S (2 ≤ room) ts (auto_declr inner exts words d (room - 1) s ts)
        (auto_declr other exts words d (wide - 1) s ts)
    unfolding auto_declr
    auto_declr_both exts words d s ts =
        both_bind _ _ _ _ (attrs_both (room - 1) (wide - 1) (omega (arith, wider)) s ts) (λ attrs.
        both_then _ _ _ (late_token is_equal attrs.scopes attrs.rest)
        (λ equal. both_bind _ _ _ _ (when (λ two. omega (arith, less, two))
        (m.exprs Assigned nothing (room - 1 - 1) (wide - 1 - 1) (omega (arith, wider)) equal.scopes equal.rest))
        (λ e. both_then _ _ _ (late_token is_semicolon (release Value e.scopes) e.rest) (λ semi. ready _))))

    auto_behind_both : (exts : List ℕ) (words : SpecWords) (s : HeldScopes) (ts : List Lexeme)
        → Both S (2 ≤ room) ts (auto_behind inner exts words room s ts) (auto_behind other exts words wide s ts)
    unfolding auto_behind
    auto_behind_both exts words s ts =
        both_bind _ _ _ _ (auto_declarator_both (has_typedef_word (storage_words words)) s ts)
        (λ d. auto_declr_both exts words d.tree d.scopes d.rest)

    pub declaration_behind_both : (exts : List ℕ) (words : SpecWords) (s : HeldScopes) (ts : List Lexeme)
        → Both S (2 ≤ room) ts (declaration_behind inner exts words room s ts)
        (declaration_behind other exts words wide s ts)
    unfolding declaration_behind
    declaration_behind_both exts words s ts =
        both_if (has_auto words) _ _ _ _ (auto_behind_both exts words s ts)
        (both_if (is_semicolon (kind_at ts)) _ _ _ _ (bare_both exts words s ts)
        (declrs_both exts words (declared_kind words) (init_declr_with inner [] (declared_kind words) (room - 1))
        (init_declr_with other [] (declared_kind words) (wide - 1)) s ts
        (when (λ two. omega (arith, two)) (init_declr_both (room - 1) (wide - 1) (omega (arith, less))
        (omega (arith, wider)) [] (declared_kind words) s ts))))

  module _ (room wide : ℕ) (less : room < suc n) (wider : Near gap room wide) where
    declaration_both : {D : Type 0} (exts : List ℕ) (s : HeldScopes) (ts : List Lexeme)
        → Both S D ts (declaration_with inner exts room s ts) (declaration_with other exts wide s ts)
    unfolding declaration_with
    declaration_both exts s ts =
        both_behind _ _ _ _ (specs_here_both n gap inner other m room wide less wider Declaring s ts)
        (λ words. when (λ d. specs_two n gap inner other m Declaring room s ts words d.1)
        (declaration_behind_both room wide less wider exts words.tree words.scopes words.rest))

    from_both : (known : SpecWords) (s : HeldScopes) (ts : List Lexeme)
        → Both S (2 ≤ room) ts (declaration_from inner known room s ts) (declaration_from other known wide s ts)
    unfolding declaration_from
    from_both known s ts =
        both_bind _ _ _ _ (when (λ two. omega (arith, less, two))
        (m.words Declaring known (room - 1) (wide - 1) (omega (arith, wider)) s ts))
        (λ words. declaration_behind_both room wide less wider [] words.tree words.scopes words.rest)

    expr_stmt_both : (begun : Begun) (s : HeldScopes) (ts : List Lexeme)
        → Both S (1 ≤ room) ts (expr_stmt_with inner begun room s ts) (expr_stmt_with other begun wide s ts)
    unfolding expr_stmt_with
    expr_stmt_both begun s ts =
        both_bind _ _ _ _
        (when (λ one. omega (arith, less, one)) (m.exprs Whole begun (room - 1) (wide - 1) (omega (arith, wider)) s ts))
        (λ e. both_then _ _ _ (late_token is_semicolon e.scopes e.rest) (λ semi. ready _))

    expr_stmt_past : S → (s : HeldScopes) (ts : List Lexeme) → begins_expr s (kind_at ts) ≡ true
        → Late (behind_first ts) (expr_stmt_with other nothing wide s ts)
    unfolding expr_stmt_with
    expr_stmt_past strict s ts is =
        late_bind (behind_first ts) _ _ (m.whole_first strict (wide - 1) (omega (arith, less, wider)) s ts is)
        (λ e. late_bind e.rest _ _ (late_token is_semicolon e.scopes e.rest) (λ semi. all_left semi.rest))

    -- behind the name of a label
    label_behind : (name : Found Identifier) → Both S (1 ≤ room) name.rest
        (and_then (token_at is_colon name.scopes name.rest) (λ colon. and_then (attrs_at room colon.scopes colon.rest)
        (λ attrs. and_then (inner.stmt (room - 1) attrs.scopes attrs.rest)
        (λ t. ends (label name.tree colon.tree attrs.tree t.tree) t.scopes t.rest))))
        (and_then (token_at is_colon name.scopes name.rest) (λ colon. and_then (attrs_at wide colon.scopes colon.rest)
        (λ attrs. and_then (other.stmt (wide - 1) attrs.scopes attrs.rest)
        (λ t. ends (label name.tree colon.tree attrs.tree t.tree) t.scopes t.rest))))
    label_behind name =
        both_then _ _ _ (late_token is_colon name.scopes name.rest) (λ colon.
        both_bind _ _ _ _ (attrs_both room wide wider.0 colon.scopes colon.rest)
        (λ attrs. both_bind _ _ _ _ (when (λ one. omega (arith, less, one))
        (m.stmts (room - 1) (wide - 1) (omega (arith, wider)) attrs.scopes attrs.rest)) (λ t. ready _)))

    label_both : (s : HeldScopes) (ts : List Lexeme)
        → Both S (1 ≤ room) ts (label_with inner room s ts) (label_with other wide s ts)
    unfolding label_with
    label_both s ts = both_then _ _ _ (late_name s ts) (λ name. label_behind name)

    label_past : (s : HeldScopes) (ts : List Lexeme) (name : ℕ) → spelled_name (kind_at ts) ≡ Some name
        → Late (behind_first ts) (label_with other wide s ts)
    unfolding label_with
    label_past s ts name is = past_name s ts _ name is (λ name. (label_behind name).late)

    -- Items of a block.

    named_item_both : {D : Type 0} (name : ℕ) (s : HeldScopes) (ts : List Lexeme)
        → spelled_name (kind_at ts) ≡ Some name
        → Both S D ts (named_item inner name room s ts) (named_item other name wide s ts)
    unfolding named_item
    named_item_both name s ts is =
        both_fits 2 room wide ts _ _ wider.0
        (λ strict. late_if (behind_first ts) (is_colon (kind_at (behind_first ts))) _ _
        (λ on. late_bind (behind_first ts) _ _ (label_past s ts name is) (λ t. all_left t.rest))
        (λ off. late_if (behind_first ts) (names_type s name) _ _ (λ on. past_take s ts _ (λ token.
        late_bind token.rest _ _ (from_both _ token.scopes token.rest).late (λ d. all_left d.rest)))
        (λ off. late_bind (behind_first ts) _ _ (expr_stmt_past strict s ts (name_begins s (kind_at ts) name is off))
        (λ t. all_left t.rest))))
        (both_if (is_colon (kind_at (behind_first ts))) _ _ _ _
        (both_bind _ _ _ _ (when (λ two. omega (arith, two)) (label_both s ts)) (λ t. ready _))
        (both_if (names_type s name) _ _ _ _ (both_then _ _ _ (late_take s ts) (λ token.
        both_bind _ _ _ _ (from_both _ token.scopes token.rest) (λ d. ready _)))
        (both_bind _ _ _ _ (when (λ two. omega (arith, two)) (expr_stmt_both nothing s ts)) (λ t. ready _))))

    attr_item_both : {D : Type 0} (s : HeldScopes) (ts : List Lexeme) → is_attribute (kind_at ts) ≡ true
        → Both S D ts (attr_item inner room s ts) (attr_item other wide s ts)
    unfolding attr_item attr_item_by
    attr_item_both s ts begun =
        both_behind _ _ _ _ (attrs_both room wide wider.0 s ts) (λ attrs. both_if (is_semicolon (kind_at attrs.rest)) _
        _ _ _ (both_then _ _ _ (late_take attrs.scopes attrs.rest) (λ semi. ready _))
        (both_if (begins_specs attrs.scopes (kind_at attrs.rest)) _ _ _ _
        (both_bind _ _ _ _ (when (λ d. attrs_two room s ts attrs begun d.1)
        (from_both (words_of_attrs attrs.tree) attrs.scopes attrs.rest)) (λ d. ready _)) (refused _ attrs.rest)))

    extended_item_both : {D : Type 0} (s : HeldScopes) (ts : List Lexeme) → is_extension (kind_at ts) ≡ true
        → Both S D ts (extended_item inner room s ts) (extended_item other wide s ts)
    unfolding extended_item
    extended_item_both s ts begun =
        both_behind _ _ _ _ (exts_both room wide wider.0 s ts) (λ exts.
        both_if (begins_specs exts.scopes (kind_at exts.rest)) _ _ _ _
        (both_bind _ _ _ _ (declaration_both exts.tree exts.scopes exts.rest) (λ d. ready _))
        (both_bind _ _ _ _ (when (λ d. let two = exts_two room s ts exts begun d.1 in omega (arith, two))
        (expr_stmt_both (extensions exts.tree) exts.scopes exts.rest)) (λ t. ready _)))

  module _ (room wide : ℕ) (less : room < suc n) (wider : Near gap room wide) where
    other_item_both : (o : Option ℕ) (s : HeldScopes) (ts : List Lexeme) → spelled_name (kind_at ts) ≡ o
        → Both S (room < n) ts (other_item inner o room s ts) (other_item other o wide s ts)
    unfolding other_item
    other_item_both (Some name) s ts is = named_item_both room wide less wider name s ts is
    other_item_both None s ts is =
        both_if (begins_specs s (kind_at ts)) _ _ _ _ (both_bind _ _ _ _ (declaration_both room wide less wider [] s ts)
        (λ d. ready _)) (both_bind _ _ _ _ (m.stmts room wide wider s ts) (λ t. ready _))

    block_item_both : (s : HeldScopes) (ts : List Lexeme)
        → Both S (room < n) ts (block_item_with inner room s ts) (block_item_with other wide s ts)
    unfolding block_item_with
    block_item_both s ts =
        both_choice (is_static_assert (kind_at ts)) _ _ _ _
        (λ is. assert_both room wide wider.0 s ts _ is (λ it. all_left it.rest))
        (λ off. both_choice (is_extension (kind_at ts)) _ _ _ _ (λ is. extended_item_both room wide less wider s ts is)
        (λ off. both_choice (is_attribute (kind_at ts)) _ _ _ _ (λ is. attr_item_both room wide less wider s ts is)
        (λ off. other_item_both (spelled_name (kind_at ts)) s ts refl)))

  module _ (room wide : ℕ) (wider : Near gap room wide) where
    some_expr_both : (test : TokenKind → Bool) (s : HeldScopes) (ts : List Lexeme)
        → Both S (room < n) ts (some_expr_with inner test room s ts) (some_expr_with other test wide s ts)
    unfolding some_expr_with
    some_expr_both test s ts =
        both_if (test (kind_at ts)) _ _ _ _ (ready _)
        (both_bind _ _ _ _ (m.exprs Whole nothing room wide wider s ts) (λ e. ready _))

    part_both : (s : HeldScopes) (ts : List Lexeme)
        → Both S (room < n) ts (part_with inner room s ts) (part_with other wide s ts)
    part_both s ts = both_bind _ _ _ _ (m.stmts room wide wider (enter s) ts) (λ t. ready _)

    some_else_both : (s : HeldScopes) (ts : List Lexeme)
        → Both S (room < n) ts (some_else_with inner room s ts) (some_else_with other wide s ts)
    unfolding some_else_with
    some_else_both s ts =
        both_if (is_else (kind_at ts)) _ _ _ _ (both_then _ _ _ (late_take s ts)
        (λ keyword. both_bind _ _ _ _ (part_both keyword.scopes keyword.rest) (λ t. ready _))) (ready _)

    value_start_both : (begun : Begun) (s : HeldScopes) (ts : List Lexeme)
        → Both S (room < n) ts (start_value_with inner begun room s ts) (start_value_with other begun wide s ts)
    unfolding start_value_with
    value_start_both begun s ts =
        both_bind _ _ _ _ (m.exprs Whole begun room wide wider s ts)
        (λ e. both_then _ _ _ (late_token is_semicolon e.scopes e.rest) (λ semi. ready _))

    for_start_both : room < suc n → (s : HeldScopes) (ts : List Lexeme)
        → Both S (room < n) ts (for_start_with inner room s ts) (for_start_with other wide s ts)
    unfolding for_start_with extended_start
    for_start_both less s ts =
        both_if (is_semicolon (kind_at ts)) _ _ _ _ (both_then _ _ _ (late_take s ts) (λ semi. ready _))
        (both_if (is_extension (kind_at ts)) _ _ _ _
        (both_bind _ _ _ _ (exts_both room wide wider.0 s ts) (λ exts.
        both_if (begins_specs exts.scopes (kind_at exts.rest)) _ _ _ _
        (both_bind _ _ _ _ (declaration_both room wide less wider exts.tree exts.scopes exts.rest) (λ d. ready _))
        (value_start_both (extensions exts.tree) exts.scopes exts.rest)))
        (both_if (begins_specs s (kind_at ts)) _ _ _ _ (both_bind _ _ _ _
        (declaration_both room wide less wider [] s ts) (λ d. ready _)) (value_start_both nothing s ts)))

  -- Blocks and statements.

  module _ (room wide : ℕ) (less : room < suc n) (wider : Near gap room wide) where
    below : room - 1 < suc n
    below = omega (arith, less)

    wide_lower : Near gap (room - 1) (wide - 1)
    wide_lower = omega (arith, wider)

    -- the rooms of what stands inside, where there is one at all
    lower : 1 ≤ room → room - 1 < n
    lower one = omega (arith, less, one)

    lower_two : 2 ≤ room → room - 1 < n
    lower_two two = omega (arith, less, two)

    pub block_body_both : (s : HeldScopes) (ts : List Lexeme)
        → Ahead S (1 ≤ room) ts (block_body inner room s ts) (block_body other wide s ts)
    unfolding block_body labels_with
    block_body_both s ts =
        ahead_take s ts _ _ (λ opening. both_bind _ _ _ _
        (both_repeated is_label_word (labels_with inner (room - 1)) (labels_with other (wide - 1))
        (λ s ts is. both_asks 1 (room - 1) (wide - 1) s ts _ _ wide_lower.0 (λ keyword.
        both_then _ _ _ (late_names_list name_at late_name keyword.scopes keyword.rest)
        (λ names. both_then _ _ _ (late_token is_semicolon names.scopes names.rest) (λ semi. ready _))))
        opening.scopes opening.rest)
        (λ labels. both_bind _ _ _ _ (when lower (both_repeated (λ kind. not (is_close_brace kind))
        (block_item_with inner (room - 1)) (block_item_with other (wide - 1))
        (λ s ts is. block_item_both (room - 1) (wide - 1) below wide_lower s ts) labels.scopes labels.rest))
        (λ items. both_then _ _ _ (late_token is_close_brace items.scopes items.rest) (λ closing. ready _))))

    headed_both : (make : ℕ → ℕ → Expr → ℕ → Stmt → Stmt) (s : HeldScopes) (ts : List Lexeme)
        → Ahead S (2 ≤ room) ts (headed_inside inner make room s ts) (headed_inside other make wide s ts)
    unfolding headed_inside
    headed_both make s ts =
        ahead_take s ts _ _ (λ keyword. both_then _ _ _ (late_token is_open_paren keyword.scopes keyword.rest)
        (λ opening. both_bind _ _ _ _
        (when lower_two (m.exprs Whole nothing (room - 1) (wide - 1) wide_lower opening.scopes opening.rest)) (λ e.
        both_then _ _ _ (late_token is_close_paren e.scopes e.rest)
        (λ closing. both_bind _ _ _ _
        (when lower_two (part_both (room - 1) (wide - 1) wide_lower closing.scopes closing.rest)) (λ t. ready _)))))

    if_both : (s : HeldScopes) (ts : List Lexeme)
        → Ahead S (2 ≤ room) ts (if_inside inner room s ts) (if_inside other wide s ts)
    unfolding if_inside
    if_both s ts =
        ahead_take s ts _ _ (λ keyword. both_then _ _ _ (late_token is_open_paren keyword.scopes keyword.rest)
        (λ opening. both_bind _ _ _ _
        (when lower_two (m.exprs Whole nothing (room - 1) (wide - 1) wide_lower opening.scopes opening.rest)) (λ e.
        both_then _ _ _ (late_token is_close_paren e.scopes e.rest)
        (λ closing.
        both_bind _ _ _ _ (when lower_two (part_both (room - 1) (wide - 1) wide_lower closing.scopes closing.rest))
        (λ t. both_bind _ _ _ _ (when lower_two (some_else_both (room - 1) (wide - 1) wide_lower t.scopes t.rest))
        (λ o. ready _))))))

    do_both : (s : HeldScopes) (ts : List Lexeme)
        → Ahead S (2 ≤ room) ts (do_inside inner room s ts) (do_inside other wide s ts)
    unfolding do_inside
    do_both s ts =
        ahead_take s ts _ _ (λ keyword.
        both_bind _ _ _ _ (when lower_two (part_both (room - 1) (wide - 1) wide_lower keyword.scopes keyword.rest))
        (λ t. both_then _ _ _ (late_token is_while t.scopes t.rest) (λ keyword2.
        both_then _ _ _ (late_token is_open_paren keyword2.scopes keyword2.rest)
        (λ opening. both_bind _ _ _ _
        (when lower_two (m.exprs Whole nothing (room - 1) (wide - 1) wide_lower opening.scopes opening.rest)) (λ e.
        both_then _ _ _ (late_token is_close_paren e.scopes e.rest)
        (λ closing. both_then _ _ _ (late_token is_semicolon closing.scopes closing.rest) (λ semi. ready _)))))))

    for_both : (s : HeldScopes) (ts : List Lexeme)
        → Ahead S (2 ≤ room) ts (for_inside inner room s ts) (for_inside other wide s ts)
    unfolding for_inside
    for_both s ts =
        ahead_take s ts _ _ (λ keyword. both_then _ _ _ (late_token is_open_paren keyword.scopes keyword.rest)
        (λ opening. both_bind _ _ _ _
        (when lower_two (for_start_both (room - 1) (wide - 1) wide_lower below opening.scopes opening.rest))
        (λ start. both_bind _ _ _ _
        (when lower_two (some_expr_both (room - 1) (wide - 1) wide_lower is_semicolon start.scopes start.rest)) (λ e.
        both_then _ _ _ (late_token is_semicolon e.scopes e.rest)
        (λ semi. both_bind _ _ _ _
        (when lower_two (some_expr_both (room - 1) (wide - 1) wide_lower is_close_paren semi.scopes semi.rest)) (λ e2.
        both_then _ _ _ (late_token is_close_paren e2.scopes e2.rest)
        (λ closing. both_bind _ _ _ _
        (when lower_two (part_both (room - 1) (wide - 1) wide_lower closing.scopes closing.rest)) (λ t. ready _))))))))

    case_both : {D : Type 0} (s : HeldScopes) (ts : List Lexeme)
        → Both S D ts (case_with inner room s ts) (case_with other wide s ts)
    unfolding case_with stating.range_behind value_behind
    case_both s ts =
        both_asks 2 room wide s ts _ _ wider.0 (λ keyword. both_bind _ _ _ _
        (when lower_two (m.exprs Conditional nothing (room - 1) (wide - 1) wide_lower keyword.scopes keyword.rest))
        (λ e. both_if (is_wide e.scopes && is_dots (kind_at e.rest)) _ _ _ _
        (both_then _ _ _ (late_take e.scopes e.rest) (λ dots. both_bind _ _ _ _
        (when lower_two (m.exprs Conditional nothing (room - 1) (wide - 1) wide_lower dots.scopes dots.rest))
        (λ e2. both_then _ _ _ (late_token is_colon e2.scopes e2.rest) (λ colon. both_bind _ _ _ _
        (when lower_two (m.stmts (room - 1) (wide - 1) wide_lower colon.scopes colon.rest)) (λ t. ready _)))))
        (both_then _ _ _ (late_token is_colon e.scopes e.rest) (λ colon. both_bind _ _ _ _
        (when lower_two (m.stmts (room - 1) (wide - 1) wide_lower colon.scopes colon.rest)) (λ t. ready _)))))

    default_both : {D : Type 0} (s : HeldScopes) (ts : List Lexeme)
        → Both S D ts (default_with inner room s ts) (default_with other wide s ts)
    unfolding default_with
    default_both s ts =
        both_asks 2 room wide s ts _ _ wider.0 (λ keyword.
        both_then _ _ _ (late_token is_colon keyword.scopes keyword.rest)
        (λ colon. both_bind _ _ _ _ (when lower_two (m.stmts (room - 1) (wide - 1) wide_lower colon.scopes colon.rest))
        (λ t. ready _)))

    return_both : {D : Type 0} (s : HeldScopes) (ts : List Lexeme)
        → Both S D ts (return_with inner room s ts) (return_with other wide s ts)
    unfolding return_with
    return_both s ts =
        both_asks 1 room wide s ts _ _ wider.0 (λ keyword. both_bind _ _ _ _
        (when lower (some_expr_both (room - 1) (wide - 1) wide_lower is_semicolon keyword.scopes keyword.rest))
        (λ e. both_then _ _ _ (late_token is_semicolon e.scopes e.rest) (λ semi. ready _)))

    asm_both : {D : Type 0} (s : HeldScopes) (ts : List Lexeme)
        → Both S D ts (asm_with inner room s ts) (asm_with other wide s ts)
    unfolding asm_with
    asm_both s ts =
        both_asks 1 room wide s ts _ _ wider.0 (λ keyword. both_then _ _ _ (late_asm_words keyword.scopes keyword.rest)
        (λ words. both_then _ _ _ (late_group words.scopes words.rest)
        (λ group. both_then _ _ _ (late_token is_semicolon group.scopes group.rest) (λ semi. ready _))))

    goto_both : {D : Type 0} (s : HeldScopes) (ts : List Lexeme)
        → Both S D ts (goto_with inner room s ts) (goto_with other wide s ts)
    unfolding goto_with goto_value_with goto_name
    goto_both s ts =
        both_asks 1 room wide s ts _ _ wider.0 (λ keyword.
        both_if (is_wide keyword.scopes && is_star (kind_at keyword.rest)) _ _ _ _
        (both_asks 2 room wide keyword.scopes keyword.rest _ _ wider.0 (λ star. both_bind _ _ _ _
        (when lower_two (m.exprs Whole nothing (room - 1) (wide - 1) wide_lower star.scopes star.rest))
        (λ e. both_then _ _ _ (late_token is_semicolon e.scopes e.rest) (λ semi. ready _))))
        (both_then _ _ _ (late_name keyword.scopes keyword.rest) (λ name.
        both_then _ _ _ (late_token is_semicolon name.scopes name.rest) (λ semi. ready _))))

    jump_both : {D : Type 0} (make : ℕ → ℕ → Stmt) (s : HeldScopes) (ts : List Lexeme)
        → Both S D ts (jump_with inner make room s ts) (jump_with other make wide s ts)
    unfolding jump_with
    jump_both make s ts =
        both_asks 1 room wide s ts _ _ wider.0
        (λ keyword. both_then _ _ _ (late_token is_semicolon keyword.scopes keyword.rest) (λ semi. ready _))

    attr_stmt_both : {D : Type 0} (s : HeldScopes) (ts : List Lexeme)
        → Both S D ts (attr_stmt_with inner room s ts) (attr_stmt_with other wide s ts)
    unfolding attr_stmt_with
    attr_stmt_both s ts =
        both_bind _ _ _ _ (attrs_both room wide wider.0 s ts)
        (λ attrs. both_then _ _ _ (late_token is_semicolon attrs.scopes attrs.rest) (λ semi. ready _))

    named_stmt_both : {D : Type 0} (name : ℕ) (s : HeldScopes) (ts : List Lexeme)
        → spelled_name (kind_at ts) ≡ Some name
        → Both S D ts (named_stmt inner name room s ts) (named_stmt other name wide s ts)
    unfolding named_stmt
    named_stmt_both name s ts is =
        both_fits 2 room wide ts _ _ wider.0
        (λ strict. late_if (behind_first ts) (is_colon (kind_at (behind_first ts))) _ _
        (λ on. label_past room wide less wider s ts name is)
        (λ off. late_if (behind_first ts) (names_type s name) _ _ (λ on. inr (late_refused (behind_first ts)))
        (λ off. expr_stmt_past room wide less wider strict s ts (name_begins s (kind_at ts) name is off))))
        (both_if (is_colon (kind_at (behind_first ts))) _ _ _ _
        (when (λ two. omega (arith, two)) (label_both room wide less wider s ts))
        (both_if (names_type s name) _ _ _ _ (refused_behind _ ts)
        (when (λ two. omega (arith, two)) (expr_stmt_both room wide less wider nothing s ts))))

    pub block_both : {D : Type 0} (s : HeldScopes) (ts : List Lexeme)
        → Both S D ts (block_with inner room s ts) (block_with other wide s ts)
    unfolding block_with
    block_both s ts =
        both_if (is_open_brace (kind_at ts)) _ _ _ _
        (owned_asks 1 room wide ts _ _ _ wider.0 (block_body_both (enter s) ts) (λ b. all_left b.rest)) (refused _ ts)

    stmt_by_both : {D : Type 0} (start : StmtStart) (s : HeldScopes) (ts : List Lexeme)
        → ((name : ℕ) → start ≡ starts.Name name → spelled_name (kind_at ts) ≡ Some name)
        → Both S D ts (stmt_by inner start room s ts) (stmt_by other start wide s ts)
    unfolding stmt_by
    stmt_by_both starts.Block s ts is = both_bind _ _ _ _ (block_both s ts) (λ b. ready _)
    stmt_by_both starts.Semicolon s ts is = both_asks 1 room wide s ts _ _ wider.0 (λ semi. ready _)
    stmt_by_both starts.Attribute s ts is = attr_stmt_both s ts
    stmt_by_both (starts.Name name) s ts is = named_stmt_both name s ts (is name refl)
    stmt_by_both starts.Case s ts is = case_both s ts
    stmt_by_both starts.Default s ts is = default_both s ts
    stmt_by_both starts.If s ts is =
        owned_asks 2 room wide ts _ _ _ wider.0 (if_both (enter s) ts) (λ t. all_left t.rest)
    stmt_by_both starts.Switch s ts is =
        owned_asks 2 room wide ts _ _ _ wider.0 (headed_both switch_stmt (enter s) ts) (λ t. all_left t.rest)
    stmt_by_both starts.While s ts is =
        owned_asks 2 room wide ts _ _ _ wider.0 (headed_both while_stmt (enter s) ts) (λ t. all_left t.rest)
    stmt_by_both starts.Do s ts is =
        owned_asks 2 room wide ts _ _ _ wider.0 (do_both (enter s) ts) (λ t. all_left t.rest)
    stmt_by_both starts.For s ts is =
        owned_asks 2 room wide ts _ _ _ wider.0 (for_both (enter s) ts) (λ t. all_left t.rest)
    stmt_by_both starts.Goto s ts is = goto_both s ts
    stmt_by_both starts.Continue s ts is = jump_both continue_stmt s ts
    stmt_by_both starts.Break s ts is = jump_both break_stmt s ts
    stmt_by_both starts.Return s ts is = return_both s ts
    stmt_by_both starts.Asm s ts is = asm_both s ts
    stmt_by_both starts.Value s ts is =
        both_choice (begins_expr s (kind_at ts)) _ _ _ _
        (λ on. both_fits 2 room wide ts _ _ wider.0 (λ strict. expr_stmt_past room wide less wider strict s ts on)
        (when (λ two. omega (arith, two)) (expr_stmt_both room wide less wider nothing s ts))) (λ off. refused _ ts)

    pub stmt_both : {D : Type 0} (s : HeldScopes) (ts : List Lexeme)
        → Both S D ts (stmt_with inner room s ts) (stmt_with other wide s ts)
    unfolding stmt_with
    stmt_both s ts =
        stmt_by_both (stmt_start (kind_at ts)) s ts
        (λ name is. ap (λ (kind : TokenKind). spelled_name kind) (start_name (kind_at ts) name is))
