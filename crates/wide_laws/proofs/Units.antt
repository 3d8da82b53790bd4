-- The items of a unit with more room, the readers of all numbers, and units with more room.
use Rattle.c_reading.specs.declared.kinds.Role.TheVariants.{Declaring, Naming}
use Rattle.c_tree.specs.WellFormed.{has_auto, lists_identifiers}
use Rattle.std.proofs.Common.{◌≡◌, ℕ, zero, suc, false, if◌then◌else◌, ◌∷◌, ◌⊎◌, inl, Ok, ◌+◌, ◌<◌, ◌≤◌, Bool, true, List, [], inr, Option, Some, None, refl, subst, arith}
use Rattle.c_reading.specs.Specifying.{begins_role}
use Rattle.std.specs.Prelude.{◌-◌, not}
use Rattle.c_words.specs.declared.kinds.TokenKind.{TokenKind}
use Rattle.c_words.specs.declared.kinds.TokenKind.TheVariants as kinds
use Rattle.c_words.specs.declared.kinds.Punct.TheVariants as puncts
use Rattle.typedef_scope.specs.declared.kind.Kind.{Kind}
use Rattle.c_tree.specs.declared.lexeme.Lexeme.{Lexeme}
use Rattle.c_syntax.specs.declared.parts.Attr.{Attr}
use Rattle.c_tree.specs.Tree.{no_words, SpecWords, Declr, no_init, declaration}
use Rattle.c_tree.specs.Specifiers.{storage_words}
use Rattle.c_tree.specs.Height.{declr_height}
use Rattle.typedef_scope.specs.declared.kind.Kind.TheVariants.{Value}
use Rattle.c_units.specs.HeldScopes.{HeldScopes, HeldScope, reopen, release, enter, innermost, leave}
use Rattle.c_units.specs.Scoping.{has_typedef_word}
use Rattle.c_reading.specs.declared.kinds.Mode.TheVariants.{Named}
use Rattle.c_reading.specs.Reading.{Found, Read, Reader, Next, CommaList, comma_turn, comma_turn_by, with_next, is_comma, and_then, ends, run, listed, kind_at, behind_first, token_at}
use Rattle.c_reading.specs.Tokens.{is_equal, is_open_brace, is_semicolon, is_asm, is_static_assert, is_end}
use Rattle.c_reading.specs.Parts.{Inner, never, DeclrItem, init_declrs_from}
use Rattle.c_reading.specs.Stating.{some_init_with, next_init_declr, declrs_with, declr_behind}
use Rattle.c_reading.specs.Items.{goes_on_declared, function_with, attrs_behind, function_or_not, behind_function, behind_declr, first_declr, declared_item, asm_item_with, item_with, items_with, old_declaration, old_function_with}
use Rattle.c_tree.specs.Unit.{Item}
use Rattle.c_reading.specs.Knot.{tied, knot, alone}
use Rattle.room_laws.specs.Rooms.{number_of, unit_of}
use Rattle.wide_laws.specs.Wide.{Near, Late, Both, InnerBoth, WithMoreRoomItPasses}
use Rattle.wide_laws.proofs.Both.{both_guarded, run_ends, all_left, late_bind, late_if, late_refused, past_take, late_down, behind_left, ready, refused, when, both_same, both_bind, both_behind, both_then, both_asks, both_fits, both_if, both_choice, both_commas, past_run, BothTurn, both_repeated}
use Rattle.wide_laws.proofs.Words.{late_token, past_token, late_group, assert_both, attrs_both, exts_both}
use Rattle.wide_laws.proofs.Exprs.{expr_both, whole_past, assigned_past, expr_past}
use Rattle.wide_laws.proofs.Specs.{specs_here_both, specs_two, specs_both, specs_past, late_present}
use Rattle.wide_laws.proofs.Declr.{declr_both, type_name_both, type_name_past}
use Rattle.wide_laws.proofs.Stmts.{init_both, past_label, init_list_both, init_list_past, some_init_both, declr_behind_both, next_init_declr_both, declrs_both, bare_both, declaration_behind_both, block_body_both, block_both, stmt_both}

-- a semicolon is no comma
no_comma : (kind : TokenKind) → is_semicolon kind ≡ true → is_comma kind ≡ false
no_comma (kinds.Punct puncts.Semicolon) h = refl
no_comma (kinds.Punct p) h = absurd cc
no_comma kind h = absurd cc

-- behind a comma
commas_past : {T E : Type 0} (next : ℕ → Reader (Next T E))
    → ((comma : ℕ) (s : HeldScopes) (ts : List Lexeme) → Late ts (next comma s ts))
    → (items : List T) (s : HeldScopes) (ts : List Lexeme) → is_comma (kind_at ts) ≡ true →
    Late (behind_first ts) (run (comma_turn next) (record { items = items; ending = None }) s ts)
commas_past next late items s [] is = absurd cc
commas_past {T} {E} next late items s (t ∷ ts) is =
    past_run (comma_turn next) turn_late ts (record { items = items; ending = None }) s (t ∷ ts)
    (and_then (next t.at s ts) (λ x. ends (with_next items x.tree) x.scopes x.rest)) (guarded (is_comma t.kind) is)
    (late_bind ts _ _ (late t.at s ts) (λ x. all_left x.rest))
  where
    guarded : (b : Bool) → b ≡ true
        → (if b then Some (and_then (next t.at s ts) (λ x. ends (with_next items x.tree) x.scopes x.rest)) else None)
        ≡ Some (and_then (next t.at s ts) (λ x. ends (with_next items x.tree) x.scopes x.rest))
    guarded true h = refl
    guarded false h = absurd cc

    turn_late : (a : CommaList T E) (s : HeldScopes) (ts : List Lexeme)
        → BothTurn ⊥ ⊥ ts (comma_turn next a s ts) (comma_turn next a s ts)
    turn_late a s ts = by_ending a.ending ts
      where
        by_ending : (o : Option E) (ts : List Lexeme)
            → BothTurn ⊥ ⊥ ts (comma_turn_by next o a.items s ts) (comma_turn_by next o a.items s ts)
        by_ending (Some e) ts = tt
        by_ending None [] = tt
        by_ending None (t ∷ ts) =
            both_guarded (is_comma t.kind) _ _ (λ is. both_same _
            (late_bind (t ∷ ts) _ _ (late_down (behind_left (t ∷ ts)) _ (late t.at s ts)) (λ x. all_left x.rest)))

-- no turn at a semicolon
commas_end : {T E : Type 0} (next : ℕ → Reader (Next T E)) (a : CommaList T E) (s : HeldScopes) (ts : List Lexeme)
    → is_semicolon (kind_at ts) ≡ true → run (comma_turn next) a s ts ≡ Ok (record { tree = a; scopes = s; rest = ts })
commas_end {T} {E} next a s ts is = run_ends (comma_turn next) a s ts (no_turn a.ending ts is)
  where
    no_turn : (o : Option E) (ts : List Lexeme) → is_semicolon (kind_at ts) ≡ true
        → comma_turn_by next o a.items s ts ≡ None
    no_turn (Some e) ts is = refl
    no_turn None [] is = refl
    no_turn None (t ∷ ts) is = rw (no_comma t.kind is) refl

module _ {S : Type 0} (n gap : ℕ) (inner other : Inner) (m : InnerBoth S n gap inner other) where
  -- Items of a unit.

  module _ (room wide : ℕ) (less : room < suc n) (wider : Near gap room wide) where
    attrs_behind_both : (d : Declr) (attrs : List Attr) (s : HeldScopes) (ts : List Lexeme)
        → Both S (2 ≤ room) ts (attrs_behind inner d attrs (room - 1) s ts) (attrs_behind other d attrs (wide - 1) s ts)
    unfolding attrs_behind
    attrs_behind_both d attrs s ts =
        both_bind _ _ _ _ (when (λ two. omega (arith, two)) (some_init_both n gap inner other m (room - 1) (wide - 1)
        (omega (arith, less)) (omega (arith, wider)) s ts)) (λ init. ready _)

    next_late : (kind : Kind) (comma : ℕ) (s : HeldScopes) (ts : List Lexeme)
        → Late ts (next_init_declr other kind (wide - 1) comma s ts)
    next_late kind comma s ts =
        (next_init_declr_both n gap inner other m (room - 1) (wide - 1) (omega (arith, less))
        (omega (arith, wider)) kind comma s ts).late

    -- behind a first that goes on behind the first token
    declrs_past : (exts : List ℕ) (words : SpecWords) (kind : Kind) (first : Reader DeclrItem) (s : HeldScopes)
        (ts : List Lexeme)
        → Late (behind_first ts) (first s ts)
        → Late (behind_first ts) (declrs_with other exts words kind wide first s ts)
    unfolding declrs_with listed
    declrs_past exts words kind first s ts h =
        late_bind (behind_first ts) _ _ (late_bind (behind_first ts) _ _ h (λ x. commas_late x))
        (λ ds. late_bind ds.rest _ _ (late_token is_semicolon ds.scopes ds.rest) (λ semi. all_left semi.rest))
      where
        commas_late : (x : Found DeclrItem)
            → Late x.rest (run (comma_turn (next_init_declr other kind (wide - 1)))
            (record { items = x.tree ∷ []; ending = None }) x.scopes x.rest)
        commas_late x =
            let both : Both ⊥ ⊥ x.rest (run (comma_turn (next_init_declr other kind (wide - 1)))
            (record { items = x.tree ∷ []; ending = None }) x.scopes x.rest)
            (run (comma_turn (next_init_declr other kind (wide - 1)))
            (record { items = x.tree ∷ []; ending = None }) x.scopes x.rest) =
            both_commas (next_init_declr other kind (wide - 1)) (next_init_declr other kind (wide - 1))
            (λ comma s ts. both_same _ (next_late kind comma s ts))
            (record { items = x.tree ∷ []; ending = None }) x.scopes x.rest in both.late

    declrs_of : (exts : List ℕ) (words : SpecWords) (kind : Kind) (first : Reader DeclrItem) (item : DeclrItem)
        (s : HeldScopes) (ts : List Lexeme)
        → first s ts ≡ Ok (record { tree = item; scopes = s; rest = ts }) →
        Late (behind_first ts) (and_then
        (run (comma_turn (next_init_declr other kind (wide - 1))) (record { items = item ∷ []; ending = None }) s ts)
        (λ ds. and_then (token_at is_semicolon ds.scopes ds.rest)
        (λ semi. ends (declaration exts words (init_declrs_from ds.tree.items) semi.tree) semi.scopes semi.rest))) →
        Late (behind_first ts) (declrs_with other exts words kind wide first s ts)
    unfolding declrs_with listed and_then
    declrs_of exts words kind first item s ts is h = rw is h

    -- behind a first that takes nothing
    declrs_on : (exts : List ℕ) (words : SpecWords) (kind : Kind) (first : Reader DeclrItem) (item : DeclrItem)
        (s : HeldScopes) (ts : List Lexeme)
        → first s ts ≡ Ok (record { tree = item; scopes = s; rest = ts }) →
        (is_comma (kind_at ts) ≡ true) ⊎ (is_semicolon (kind_at ts) ≡ true)
        → Late (behind_first ts) (declrs_with other exts words kind wide first s ts)
    unfolding and_then
    declrs_on exts words kind first item s ts is (inl comma) =
        declrs_of exts words kind first item s ts is (late_bind (behind_first ts) _ _
        (commas_past (next_init_declr other kind (wide - 1)) (next_late kind) (item ∷ []) s ts comma)
        (λ ds. late_bind ds.rest _ _ (late_token is_semicolon ds.scopes ds.rest) (λ semi. all_left semi.rest)))
    declrs_on exts words kind first item s ts is (inr semi) =
        declrs_of exts words kind first item s ts is
        (rw (commas_end (next_init_declr other kind (wide - 1)) (record { items = item ∷ []; ending = None }) s ts semi)
        (past_token is_semicolon s ts _ semi (λ semi. all_left semi.rest)))

    attrs_behind_past : (d : Declr) (attrs : List Attr) (s : HeldScopes) (ts : List Lexeme)
        → is_equal (kind_at ts) ≡ true → Late (behind_first ts) (attrs_behind other d attrs (wide - 1) s ts)
    unfolding attrs_behind some_init_with
    attrs_behind_past d attrs s ts is =
        late_bind (behind_first ts) _ _
        (late_if (behind_first ts) (is_equal (kind_at ts)) _ _
        (λ on. past_take s ts _ (λ equal. late_bind equal.rest _ _ (init_both n gap inner other m (room - 1 - 1)
        (wide - 1 - 1) (omega (arith, wider)) equal.scopes equal.rest).late (λ init. all_left init.rest)))
        (λ off. absurd cc))
        (λ init. all_left init.rest)

    attrs_behind_is : (d : Declr) (attrs : List Attr) (s : HeldScopes) (ts : List Lexeme)
        → is_equal (kind_at ts) ≡ false →
        attrs_behind other d attrs (wide - 1) s ts ≡ Ok (record {
          tree = record { before = []; declr = d; label = None; attrs = attrs; init = no_init };
          scopes = s;
          rest = ts;
        })
    unfolding attrs_behind some_init_with and_then
    attrs_behind_is d attrs s ts off = rw off refl

    goes_past : (exts : List ℕ) (words : SpecWords) (d : Declr) (attrs : List Attr) (s : HeldScopes) (ts : List Lexeme)
        → goes_on_declared (kind_at ts) ≡ true →
        Late (behind_first ts) (declrs_with other exts words Value wide (attrs_behind other d attrs (wide - 1)) s ts)
    goes_past exts words d attrs s ts is = by_kind (is_equal (kind_at ts)) (is_comma (kind_at ts)) refl refl is
      where
        by_kind : (b c : Bool) → is_equal (kind_at ts) ≡ b → is_comma (kind_at ts) ≡ c
            → (if b then true else if c then true else is_semicolon (kind_at ts)) ≡ true →
            Late (behind_first ts)
            (declrs_with other exts words Value wide (attrs_behind other d attrs (wide - 1)) s ts)
        by_kind true c at k h =
            declrs_past exts words Value (attrs_behind other d attrs (wide - 1)) s ts
            (attrs_behind_past d attrs s ts at)
        by_kind false true at k h =
            declrs_on exts words Value (attrs_behind other d attrs (wide - 1)) _ s ts
            (attrs_behind_is d attrs s ts at) (inl k)
        by_kind false false at k h =
            declrs_on exts words Value (attrs_behind other d attrs (wide - 1)) _ s ts
            (attrs_behind_is d attrs s ts at) (inr h)

    function_or_not_both : (exts : List ℕ) (words : SpecWords) (d : Declr) (attrs : List Attr) (closed : HeldScope)
        (s : HeldScopes) (ts : List Lexeme) →
        Both S (2 ≤ room) ts (function_or_not inner exts words d attrs closed room s ts)
        (function_or_not other exts words d attrs closed wide s ts)
    unfolding function_or_not function_with
    function_or_not_both exts words d attrs closed s ts =
        both_if (is_open_brace (kind_at ts)) _ _ _ _
        (both_bind _ _ _ _ (when (λ two. omega (arith, two)) (block_body_both n gap inner other m (room - 1) (wide - 1)
        (omega (arith, less)) (omega (arith, wider)) (reopen closed s) ts).both) (λ body. ready _))
        (both_choice (goes_on_declared (kind_at ts)) _ _ _ _
        (λ is. both_fits (2 + declr_height d) room wide ts _ _ wider.0
        (λ strict. late_bind (behind_first ts) _ _ (goes_past exts words d attrs s ts is) (λ d. all_left d.rest))
        (when (λ fit. omega (arith, fit)) (both_bind _ _ _ _ (declrs_both n gap inner other m room wide less wider exts
        words Value _ _ s ts (attrs_behind_both d attrs s ts)) (λ d. ready _)))) (λ off. refused _ ts))

    declared_both : (d : Declr) (s : HeldScopes) (ts : List Lexeme)
        → Both S (2 ≤ room) ts (declr_behind inner [] d (room - 1) s ts) (declr_behind other [] d (wide - 1) s ts)
    declared_both d s ts =
        when (λ two. omega (arith, two)) (declr_behind_both n gap inner other m (room - 1) (wide - 1)
        (omega (arith, less)) (omega (arith, wider)) [] d s ts)

    declr_behind_past : (d : Declr) (s : HeldScopes) (ts : List Lexeme) → is_asm (kind_at ts) ≡ true
        → Late (behind_first ts) (declr_behind other [] d (wide - 1) s ts)
    unfolding declr_behind
    declr_behind_past d s ts is =
        late_bind (behind_first ts) _ _ (past_label s ts is) (λ name. late_bind name.rest _ _
        (attrs_both {S = ⊥} {D = ⊥} (room - 1) (wide - 1) (omega (arith, wider)) name.scopes name.rest).late
        (λ attrs. late_bind attrs.rest _ _ (some_init_both n gap inner other m (room - 1) (wide - 1)
        (omega (arith, less)) (omega (arith, wider)) attrs.scopes attrs.rest).late (λ init. all_left init.rest)))

    behind_declr_both : (exts : List ℕ) (words : SpecWords) (d : Declr) (closed : Option HeldScope) (s : HeldScopes)
        (ts : List Lexeme) →
        Both S (2 ≤ room) ts (behind_declr inner exts words d closed room s ts)
        (behind_declr other exts words d closed wide s ts)
    unfolding behind_function
    behind_declr_both exts words d None s ts =
        both_bind _ _ _ _ (declrs_both n gap inner other m room wide less wider exts words Value _ _ s ts
        (declared_both d s ts)) (λ d. ready _)
    behind_declr_both exts words d (Some closed) s ts =
        both_choice (is_asm (kind_at ts)) _ _ _ _
        (λ is. both_fits (2 + declr_height d) room wide ts _ _ wider.0
        (λ strict. late_bind (behind_first ts) _ _ (declrs_past exts words Value
        (declr_behind other [] d (wide - 1)) s ts (declr_behind_past d s ts is)) (λ d. all_left d.rest))
        (when (λ fit. omega (arith, fit)) (both_bind _ _ _ _ (declrs_both n gap inner other m room wide less wider exts
        words Value _ _ s ts (declared_both d s ts)) (λ d. ready _))))
        (λ off. both_bind _ _ _ _ (attrs_both room wide wider.0 s ts) (λ attrs.
        function_or_not_both exts words d attrs.tree closed attrs.scopes attrs.rest))

    -- declarations behind a list of identifiers
    old_declaration_both : {D : Type 0} (s : HeldScopes) (ts : List Lexeme)
        → Both S D ts (old_declaration inner (room - 1) s ts) (old_declaration other (wide - 1) s ts)
    unfolding old_declaration
    old_declaration_both s ts =
        both_bind _ _ _ _ (exts_both (room - 1) (wide - 1) (omega (arith, wider)) s ts)
        (λ exts. both_behind _ _ _ _ (specs_here_both n gap inner other m (room - 1) (wide - 1) (omega (arith, less))
        (omega (arith, wider)) Declaring exts.scopes exts.rest)
        (λ words. when (λ d. specs_two n gap inner other m Declaring (room - 1) exts.scopes exts.rest words d.1)
        (declaration_behind_both n gap inner other m (room - 1) (wide - 1) (omega (arith, less))
        (omega (arith, wider)) exts.tree words.tree words.scopes words.rest)))

    old_function_both : (exts : List ℕ) (words : SpecWords) (d : Declr) (s : HeldScopes) (ts : List Lexeme)
        → Both S (2 ≤ room) ts (old_function_with inner exts words d room s ts)
        (old_function_with other exts words d wide s ts)
    unfolding old_function_with
    old_function_both exts words d s ts =
        both_bind _ _ _ _ (attrs_both room wide wider.0 s ts)
        (λ attrs. both_bind _ _ _ _ (both_repeated (λ kind. not (is_open_brace kind)) (old_declaration inner (room - 1))
        (old_declaration other (wide - 1)) (λ s ts is. old_declaration_both s ts) (enter attrs.scopes) attrs.rest)
        (λ ds. both_bind _ _ _ _
        (when (λ two. omega (arith, two))
        (block_body_both n gap inner other m (room - 1) (wide - 1) (omega (arith, less)) (omega (arith, wider))
        (reopen (innermost ds.scopes) (release Value (leave ds.scopes))) ds.rest).both)
        (λ body. ready _)))

    first_declr_both : (exts : List ℕ) (words : SpecWords) (s : HeldScopes) (ts : List Lexeme)
        → Both S (2 ≤ room) ts (first_declr inner exts words room s ts) (first_declr other exts words wide s ts)
    unfolding first_declr
    first_declr_both exts words s ts =
        both_bind _ _ _ _ (when (λ two. omega (arith, less, two))
        (m.declrs Named (Some Value) true (room - 2) (wide - 2) (omega (arith, wider)) s ts))
        (λ d. both_then _ _ _ (late_present d.tree.declr d.scopes d.rest) (λ known.
        both_if (lists_identifiers known.tree) _ _ _ _ (old_function_both exts words known.tree known.scopes known.rest)
        (behind_declr_both exts words known.tree d.tree.closed (release Value known.scopes) known.rest)))

  module _ (room wide : ℕ) (less : room < suc n) (wider : Near gap room wide) where
    declared_item_both : {D : Type 0} (s : HeldScopes) (ts : List Lexeme)
        → Both S D ts (declared_item inner room s ts) (declared_item other wide s ts)
    unfolding declared_item
    declared_item_both s ts =
        both_bind _ _ _ _ (exts_both room wide wider.0 s ts) (λ exts.
        both_behind _ _ _ _ (specs_here_both n gap inner other m room wide less wider Declaring exts.scopes exts.rest)
        (λ words. when (λ d. specs_two n gap inner other m Declaring room exts.scopes exts.rest words d.1)
        (both_if (has_auto words.tree) _ _ _ _ (both_bind _ _ _ _ (declaration_behind_both n gap inner other m room wide
        less wider exts.tree words.tree words.scopes words.rest) (λ d. ready _))
        (both_if (is_semicolon (kind_at words.rest)) _ _ _ _ (both_bind _ _ _ _ (bare_both n gap inner other m room wide
        less wider exts.tree words.tree words.scopes words.rest) (λ d. ready _))
        (both_if (has_typedef_word (storage_words words.tree)) _ _ _ _ (both_bind _ _ _ _ (declaration_behind_both n gap
        inner other m room wide less wider exts.tree words.tree words.scopes words.rest) (λ d. ready _))
        (first_declr_both room wide less wider exts.tree words.tree words.scopes words.rest))))))

    item_both : {D : Type 0} (s : HeldScopes) (ts : List Lexeme)
        → Both S D ts (item_with inner room s ts) (item_with other wide s ts)
    unfolding item_with asm_item_with
    item_both s ts =
        both_if (is_semicolon (kind_at ts)) _ _ _ _ (both_asks 1 room wide s ts _ _ wider.0 (λ semi. ready _))
        (both_if (is_asm (kind_at ts)) _ _ _ _
        (both_asks 1 room wide s ts _ _ wider.0 (λ keyword. both_then _ _ _ (late_group keyword.scopes keyword.rest)
        (λ group. both_then _ _ _ (late_token is_semicolon group.scopes group.rest) (λ semi. ready _))))
        (both_choice (is_static_assert (kind_at ts)) _ _ _ _
        (λ is. assert_both room wide wider.0 s ts _ is (λ it. all_left it.rest)) (λ off. declared_item_both s ts)))

    items_both : {D : Type 0} (s : HeldScopes) (ts : List Lexeme)
        → Both S D ts (items_with inner room s ts) (items_with other wide s ts)
    unfolding items_with
    items_both s ts =
        both_repeated (λ kind. not (is_end kind)) (item_with inner room) (item_with other wide)
        (λ s ts is. item_both s ts) s ts

-- The readers of all numbers.

-- what is left and refused needs no room
slack : {S : Type 0} (n k gap : ℕ) (inner other : Inner) → InnerBoth S n gap inner other → InnerBoth ⊥ k gap inner other
slack n k gap inner other m = record {
  exprs = λ reach begun room wide wider s ts.
      record { late = (m.exprs reach begun room wide wider s ts).late; pass = λ s. absurd s };
  types = λ room wide wider s ts. record { late = (m.types room wide wider s ts).late; pass = λ s. absurd s };
  words = λ role words room wide wider s ts.
      record { late = (m.words role words room wide wider s ts).late; pass = λ s. absurd s };
  declrs = λ mode wanted flag room wide wider s ts.
      record { late = (m.declrs mode wanted flag room wide wider s ts).late; pass = λ s. absurd s };
  lists = λ room wide wider s ts. record { late = (m.lists room wide wider s ts).late; pass = λ s. absurd s };
  blocks = λ room wide wider s ts. record { late = (m.blocks room wide wider s ts).late; pass = λ s. absurd s };
  stmts = λ room wide wider s ts. record { late = (m.stmts room wide wider s ts).late; pass = λ s. absurd s };
  whole_first = λ s. absurd s;
  assigned_first = λ s. absurd s;
  unary_first = λ s. absurd s;
  words_first = λ s. absurd s;
  types_first = λ s. absurd s;
  list_first = λ s. absurd s;
}

-- what is late in any case passes where there is room
split : {A S D : Type 0} {ts : List Lexeme} {r q : Read A} → Both ⊥ ⊥ ts r q → (D → Both S (Unit {0}) ts r q)
    → Both S D ts r q
split h k = record { late = h.late; pass = λ s d. (k d).pass s tt }

numbered : (flag : Bool) (room : ℕ) → number_of flag room < suc (suc (suc room))
numbered true room = omega arith
numbered false room = omega arith

module _ {S : Type 0} (n gap : ℕ) (inner other : Inner) (m : InnerBoth S n gap inner other) where
  loose : (room : ℕ) → InnerBoth ⊥ (suc (suc room)) gap inner other
  loose room = slack n (suc (suc room)) gap inner other m

  below : (room : ℕ) → room < suc (suc (suc room))
  below room = omega arith

  tied_both : InnerBoth S (suc n) gap (tied inner) (tied other)
  tied_both = record {
    exprs = λ reach begun room wide wider s ts.
        split (expr_both _ gap inner other (loose room) room wide (below room) wider reach begun s ts)
        (λ less. expr_both n gap inner other m room wide less wider reach begun s ts);
    types = λ room wide wider s ts. record {
      late = (type_name_both _ gap inner other (loose room) room wide (below room) wider s ts).late;
      pass = λ s d. (type_name_both n gap inner other m room wide d.0 wider _ ts).pass s d.1;
    };
    words = λ role words room wide wider s ts.
        split (specs_both _ gap inner other (loose room) room wide (below room) wider role words s ts)
        (λ less. specs_both n gap inner other m room wide less wider role words s ts);
    declrs = λ mode wanted flag room wide wider s ts.
        split (declr_both _ gap inner other (loose room) flag room wide (numbered flag room) wider mode wanted s ts)
        (λ less. declr_both n gap inner other m flag room wide less wider mode wanted s ts);
    lists = λ room wide wider s ts. split (init_list_both _ gap inner other (loose room) room wide
        (below room) wider s ts) (λ less. init_list_both n gap inner other m room wide less wider s ts);
    blocks = λ room wide wider s ts. split (block_both _ gap inner other (loose room) room wide (below room) wider s ts)
        (λ less. block_both n gap inner other m room wide less wider s ts);
    stmts = λ room wide wider s ts. split (stmt_both _ gap inner other (loose room) room wide (below room) wider s ts)
        (λ less. stmt_both n gap inner other m room wide less wider s ts);
    whole_first = λ strict wide bound s ts is.
        whole_past n gap inner other m (wide - gap) wide (omega (arith, bound)) (omega (arith, bound)) s ts is;
    assigned_first = λ strict wide bound s ts is.
        assigned_past n gap inner other m (wide - gap) wide (omega (arith, bound)) (omega (arith, bound)) s ts is;
    unary_first = λ strict wide bound s ts is.
        expr_past n gap inner other m (wide - gap) wide (omega (arith, bound)) (omega (arith, bound)) s ts is;
    words_first = λ strict role wide bound s ts is.
        specs_past n gap inner other m (wide - gap) wide (omega (arith, bound)) (omega (arith, bound)) role s ts is;
    types_first =
        λ strict wide deep bound s ts is. type_name_past n gap inner other m (wide - gap) wide (omega (arith, bound))
        (omega (arith, bound)) s ts (m.words_first strict Naming (wide - 1) (omega (arith, bound)) s ts is);
    list_first = λ strict wide bound s ts is.
        init_list_past n gap inner other m (wide - gap) wide (omega (arith, bound)) (omega (arith, bound)) s ts is;
  }

-- readers that are never called
nothing_both : InnerBoth ⊥ 0 0 never never
nothing_both = record {
  exprs = λ reach begun room wide wider s ts. record { late = inr (late_refused ts); pass = λ s. absurd s };
  types = λ room wide wider s ts. record { late = inr (late_refused ts); pass = λ s. absurd s };
  words = λ role words room wide wider s ts. record { late = inr (late_refused ts); pass = λ s. absurd s };
  declrs = λ mode wanted flag room wide wider s ts. record { late = inr (late_refused ts); pass = λ s. absurd s };
  lists = λ room wide wider s ts. record { late = inr (late_refused ts); pass = λ s. absurd s };
  blocks = λ room wide wider s ts. record { late = inr (late_refused ts); pass = λ s. absurd s };
  stmts = λ room wide wider s ts. record { late = inr (late_refused ts); pass = λ s. absurd s };
  whole_first = λ s. absurd s;
  assigned_first = λ s. absurd s;
  unary_first = λ s. absurd s;
  words_first = λ s. absurd s;
  types_first = λ s. absurd s;
  list_first = λ s. absurd s;
}

knot_late : (d : ℕ) → InnerBoth ⊥ (suc d) 0 (knot d) (knot d)
unfolding knot
knot_late zero = tied_both 0 0 never never nothing_both
knot_late (suc d) = tied_both (suc d) 0 (knot d) (knot d) (knot_late d)

none_less : (room : ℕ) → room < 0 → ⊥
none_less room h = absurd (omega (arith, h))

none_numbered : (flag : Bool) (room : ℕ) → number_of flag room < 0 → ⊥
none_numbered flag room h = absurd (omega (arith, h))

-- readers that are never called, and any others, whose own specifiers go on behind their first token
tied_any : (n : ℕ) (inner other : Inner) → InnerBoth ⊥ n 0 inner other →
    ((wide : ℕ) → 3 ≤ 0 + suc n → wide ≤ n - 1 → (s : HeldScopes) (ts : List Lexeme)
    → begins_role Naming s (kind_at ts) ≡ true → Late (behind_first ts) (other.specs Naming no_words wide s ts)) →
    InnerBoth (Unit {0}) 0 (suc n) never (tied other)
tied_any n inner other m words_on =
    let t = tied_both n 0 inner other m in
    record {
      exprs = λ reach begun room wide wider s ts. record {
        late = (t.exprs reach begun wide wide (omega arith) s ts).late;
        pass = λ s less. absurd (none_less room less);
      };
      types = λ room wide wider s ts. record {
        late = (t.types wide wide (omega arith) s ts).late;
        pass = λ s less. absurd (none_less room less.0);
      };
      words = λ role words room wide wider s ts. record {
        late = (t.words role words wide wide (omega arith) s ts).late;
        pass = λ s less. absurd (none_less room less);
      };
      declrs = λ mode wanted flag room wide wider s ts. record {
        late = (t.declrs mode wanted flag wide wide (omega arith) s ts).late;
        pass = λ s less. absurd (none_numbered flag room less);
      };
      lists = λ room wide wider s ts.
          record { late = (t.lists wide wide (omega arith) s ts).late; pass = λ s less. absurd (none_less room less) };
      blocks = λ room wide wider s ts.
          record { late = (t.blocks wide wide (omega arith) s ts).late; pass = λ s less. absurd (none_less room less) };
      stmts = λ room wide wider s ts.
          record { late = (t.stmts wide wide (omega arith) s ts).late; pass = λ s less. absurd (none_less room less) };
      whole_first = λ strict wide bound s ts is.
          whole_past n 0 inner other m wide wide (omega (arith, bound)) (omega (arith, bound)) s ts is;
      assigned_first = λ strict wide bound s ts is.
          assigned_past n 0 inner other m wide wide (omega (arith, bound)) (omega (arith, bound)) s ts is;
      unary_first = λ strict wide bound s ts is.
          expr_past n 0 inner other m wide wide (omega (arith, bound)) (omega (arith, bound)) s ts is;
      words_first = λ strict role wide bound s ts is.
          specs_past n 0 inner other m wide wide (omega (arith, bound)) (omega (arith, bound)) role s ts is;
      types_first = λ strict wide deep bound s ts is. type_name_past n 0 inner other m wide wide (omega (arith, bound))
          (omega (arith, bound)) s ts (words_on (wide - 1) deep (omega (arith, bound)) s ts is);
      list_first = λ strict wide bound s ts is.
          init_list_past n 0 inner other m wide wide (omega (arith, bound)) (omega (arith, bound)) s ts is;
    }

-- specifiers of every number go on behind the first token
specs_on : (d wide : ℕ) → wide ≤ d → (s : HeldScopes) (ts : List Lexeme) → begins_role Naming s (kind_at ts) ≡ true
    → Late (behind_first ts) ((knot d).specs Naming no_words wide s ts)
unfolding knot
specs_on zero wide bound s ts is =
    specs_past 0 0 never never nothing_both wide wide (omega (arith, bound)) (omega arith) Naming s ts is
specs_on (suc d) wide bound s ts is =
    specs_past (suc d) 0 (knot d) (knot d) (knot_late d) wide wide (omega (arith, bound)) (omega arith) Naming s ts is

not_deep : 3 ≤ 0 + 1 → ⊥
not_deep h = absurd (omega (arith, h))

knot_any : (d : ℕ) → InnerBoth (Unit {0}) 0 (suc d) never (knot d)
unfolding knot
knot_any zero = tied_any 0 never never nothing_both (λ wide deep. absurd (not_deep deep))
knot_any (suc d) =
    tied_any (suc d) (knot d) (knot d) (knot_late d)
    (λ wide deep bound s ts is. specs_on d wide (omega (arith, bound)) s ts is)

knot_both : (n d gap : ℕ) → 1 ≤ gap → d ≡ n + gap → InnerBoth (Unit {0}) (suc n) gap (knot n) (knot d)
unfolding knot
knot_both zero zero gap one h = absurd (omega (arith, one, h))
knot_both zero (suc d) gap one h =
    let same : suc d ≡ gap = omega (arith, h) in
    subst (λ (g : ℕ). InnerBoth (Unit {0}) 1 g (tied never) (tied (knot d))) same
    (tied_both 0 (suc d) never (knot d) (knot_any d))
knot_both (suc n) zero gap one h = absurd (omega (arith, one, h))
knot_both (suc n) (suc d) gap one h = tied_both (suc n) gap (knot n) (knot d) (knot_both n d gap one (omega (arith, h)))

late_alone : (dialect : Bool) (items : List Item) (ts : List Lexeme) → Late ts (alone dialect items ts)
late_alone dialect items [] = all_left []
late_alone dialect items (t ∷ ts) = inr (late_refused (t ∷ ts))

-- with more room a unit is read alike, or the reader goes on behind the token refused for the height
unit_both : (room wide : ℕ) → 1 ≤ room → room < wide → (dialect : Bool) (all : List Lexeme)
    → Both (Unit {0}) (Unit {0}) all (unit_of room dialect all) (unit_of wide dialect all)
unit_both room wide one less dialect all =
    both_bind _ _ _ _ (items_both (suc room) (wide - room) (knot room) (knot wide) (knot_both room wide (wide - room)
    (omega (arith, less)) (omega (arith, less))) (room - 1) (wide - 1) (omega arith) (omega (arith, one, less)) _ all)
    (λ items. both_same _ (late_bind items.rest _ _ (late_token is_end items.scopes items.rest)
    (λ last. late_alone dialect items.tree last.rest)))

pub with_more_room_it_passes : WithMoreRoomItPasses
with_more_room_it_passes room wide one less dialect all = (unit_both room wide one less dialect all).pass tt tt
