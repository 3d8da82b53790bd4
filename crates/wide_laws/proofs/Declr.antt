-- Declarators, parameters and names of types with more room, and what they do behind their first token.
use Rattle.c_reading.specs.Specifying.{begins_role}
use Rattle.std.proofs.Common.{◌≡◌, ℕ, suc, ◌<◌, ◌≤◌, Bool, true, false, if◌then◌else◌, List, [], ◌∷◌, ◌⊎◌, inl, inr, Option, Some, None, Ok, refl, arith}
use Rattle.std.specs.Prelude.{◌-◌, ◌&&◌, ◌||◌, is_some}
use Rattle.c_words.specs.declared.kinds.TokenKind.{TokenKind}
use Rattle.c_tree.specs.declared.lexeme.Lexeme.{Lexeme}
use Rattle.c_syntax.specs.declared.parts.Attr.{Attr}
use Rattle.c_syntax.specs.declared.parts.Identifier.{Identifier}
use Rattle.c_tree.specs.Tree.{SpecWords, no_words, more_words, SomeDeclr, no_declr, some_declr}
use Rattle.c_tree.specs.Height.{some_declr_height}
use Rattle.typedef_scope.specs.declared.kind.Kind.{Kind}
use Rattle.typedef_scope.specs.declared.kind.Kind.TheVariants.{Value}
use Rattle.c_units.specs.HeldScopes.{HeldScopes, enter, release}
use Rattle.c_units.specs.Scoping.{at_name}
use Rattle.c_reading.specs.declared.kinds.Reach.TheVariants.{Assigned}
use Rattle.c_reading.specs.declared.kinds.Role.TheVariants.{Typed, Naming}
use Rattle.c_reading.specs.declared.kinds.Mode.{Mode}
use Rattle.c_reading.specs.declared.kinds.Mode.TheVariants.{Named, Abstract, Either}
use Rattle.c_reading.specs.Reading.{behind_first, Found, kind_at, fits, and_then, ends, Reader, listed}
use Rattle.c_reading.specs.Tokens.{is_open_paren, is_close_paren, is_open_bracket, is_close_bracket, is_star, is_dots, spelled_name}
use Rattle.c_reading.specs.Parts.{Inner, nothing, star, Declared, ParamItem}
use Rattle.c_reading.specs.Declaring.{absent, takes_name, least_pointer, is_bare, room_at, words_of_quals, words_of_attrs, are_none, opens_params, opens_declr, takes_attrs, name_held, star_size, size_with, array_with, param_words, param_attrs, param_with, next_param, params_with, prototype_with, params_behind, suffix_turn, paren_with, named_paren, opened_by, opened_with, some_paren, name_or_none, core_with, direct_with, pointer_with, declr_with, type_name_with, begins_identifiers, identifiers_of, identifiers_with, list_behind, names_base, names_list, next_name, identifier_at, is_identifier}
use Rattle.c_reading.proofs.Binding.{bind_ok}
use Rattle.room_laws.specs.Rooms.{number_of}
use Rattle.room_laws.proofs.Specs.{attrs_lead}
use Rattle.room_laws.proofs.Declr.{room_below, number_lower, plain_number}
use Rattle.wide_laws.specs.Wide.{Near, Late, Both, InnerBoth}
use Rattle.wide_laws.proofs.Both.{all_left, late_take, ready, refused, when, both_same, both_bind, both_behind, both_then, both_asks, both_if, BothTurn, both_run, both_listed, late_bind, late_if, late_refused}
use Rattle.wide_laws.proofs.Words.{late_token, late_quals, late_array_words, attrs_both, pointer_words_both, late_name}
use Rattle.wide_laws.proofs.Specs.{specs_here_both, specs_two, late_present, specs_past}

-- the room of what stands behind a declarator that may be a function's, in a smaller and in a greater room
wider_at : (gap : ℕ) (flag : Bool) (room wide : ℕ) (d : Declared) (kind : TokenKind) → Near gap room wide
    → Near gap (room_at flag room d kind) (room_at flag wide d kind)
wider_at gap flag room wide d kind h = by_test (flag && (is_some d.closed || (is_open_paren kind && is_bare d.declr)))
  where
    by_test : (b : Bool) → Near gap (if b then suc room else room) (if b then suc wide else wide)
    by_test true = omega (arith, h)
    by_test false = h

-- names with a comma between two
pub late_names_list : (name : Reader Identifier) → ((s : HeldScopes) (ts : List Lexeme) → Late ts (name s ts))
    → (s : HeldScopes) (ts : List Lexeme) → Late ts (names_list name s ts)
unfolding names_list
late_names_list name late s ts =
    let both : Both ⊥ ⊥ ts (listed name (next_name name) s ts) (listed name (next_name name) s ts) =
    both_listed {F = ⊥} name name (next_name name) (next_name name) s ts (both_same _ (late s ts)) (λ x d is. d)
    (λ token s ts. both_same _ (late_bind ts _ _ (late s ts) (λ x. all_left x.rest))) in
    late_bind ts _ _ both.late (λ xs. all_left xs.rest)

late_identifier : (s : HeldScopes) (ts : List Lexeme) → Late ts (identifier_at s ts)
late_identifier s ts =
    late_if ts (is_identifier s (spelled_name (kind_at ts))) _ _ (λ is. late_name s ts) (λ off. inr (late_refused ts))

-- some attributes, for which there is room, or a room of none
late_absent : (mode : Mode) (s : HeldScopes) (ts : List Lexeme) → Late ts (absent mode s ts)
late_absent Named s ts = inr (ts, (all_left ts, refl))
late_absent Abstract s ts = all_left ts
late_absent Either s ts = all_left ts

module _ {S : Type 0} (n gap : ℕ) (inner other : Inner) (m : InnerBoth S n gap inner other) where
  module _ (room wide : ℕ) (less : room < suc n) (wider : Near gap room wide) where
    size_both : (s : HeldScopes) (ts : List Lexeme)
        → Both S (1 ≤ room) ts (size_with inner room s ts) (size_with other wide s ts)
    unfolding size_with star_size
    size_both s ts =
        both_if (is_close_bracket (kind_at ts)) _ _ _ _ (ready _) (both_if (is_star (kind_at ts)) _ _ _ _
        (both_then _ _ _ (late_take s ts) (λ token. both_if (is_close_bracket (kind_at token.rest)) _ _ _ _ (ready _)
        (both_bind _ _ _ _ (when (λ one. omega (arith, less, one)) (m.exprs Assigned (star token.tree) (room - 1)
        (wide - 1) (omega (arith, wider)) token.scopes token.rest)) (λ e. ready _))))
        (both_bind _ _ _ _ (when (λ one. omega (arith, less, one))
        (m.exprs Assigned nothing (room - 1) (wide - 1) (omega (arith, wider)) s ts)) (λ e. ready _)))

    param_attrs_both : {D : Type 0} (d : SomeDeclr) (s : HeldScopes) (ts : List Lexeme)
        → Both S D ts (param_attrs inner d room s ts) (param_attrs other d wide s ts)
    param_attrs_both d s ts = both_if (takes_attrs d) _ _ _ _ (attrs_both room wide wider.0 s ts) (ready _)

    -- behind words, for which there was room
    param_behind : (words : Found SpecWords) → Both {A = ParamItem} S (1 ≤ room) words.rest
        (and_then (inner.declr Either (Some Value) false (room - 1) words.scopes words.rest) (λ d.
        and_then (param_attrs inner d.tree.declr room (release Value d.scopes) d.rest) (λ attrs.
        ends (record { words = words.tree; declr = d.tree.declr; attrs = attrs.tree }) attrs.scopes attrs.rest)))
        (and_then (other.declr Either (Some Value) false (wide - 1) words.scopes words.rest) (λ d.
        and_then (param_attrs other d.tree.declr wide (release Value d.scopes) d.rest) (λ attrs.
        ends (record { words = words.tree; declr = d.tree.declr; attrs = attrs.tree }) attrs.scopes attrs.rest)))
    param_behind words =
        both_bind _ _ _ _ (when (λ one. omega (arith, less, one))
        (m.declrs Either (Some Value) false (room - 1) (wide - 1) (omega (arith, wider)) words.scopes words.rest))
        (λ d. both_bind _ _ _ _ (param_attrs_both d.tree.declr (release Value d.scopes) d.rest) (λ attrs. ready _))

    param_both : (known : SpecWords) (s : HeldScopes) (ts : List Lexeme)
        → Both S (1 ≤ room) ts (param_with inner known room s ts) (param_with other known wide s ts)
    unfolding param_with
    param_both known s ts = both_bind _ _ _ _ (words_both known s ts) (λ words. param_behind words)
      where
        words_both : (known : SpecWords) (s : HeldScopes) (ts : List Lexeme)
            → Both S (1 ≤ room) ts (param_words inner known room s ts) (param_words other known wide s ts)
        words_both no_words s ts = specs_here_both n gap inner other m room wide less wider Typed s ts
        words_both (more_words w ws) s ts =
            when (λ one. omega (arith, less, one))
            (m.words Typed (more_words w ws) (room - 1) (wide - 1) (omega (arith, wider)) s ts)

    next_param_both : (comma : ℕ) (s : HeldScopes) (ts : List Lexeme)
        → Both S (1 ≤ room) ts (next_param inner room comma s ts) (next_param other wide comma s ts)
    unfolding next_param
    next_param_both comma s ts =
        both_then _ _ _ (late_quals s ts) (λ quals. both_if (is_dots (kind_at quals.rest)) _ _ _ _
        (both_then _ _ _ (late_take quals.scopes quals.rest) (λ dots. ready _))
        (both_bind _ _ _ _ (param_both (words_of_quals quals.tree) quals.scopes quals.rest) (λ p. ready _)))

    -- a first parameter without attributes before it: where it is read, there is room
    first_param : {D : Type 0} (s : HeldScopes) (ts : List Lexeme)
        → Both S D ts (param_with inner no_words room s ts) (param_with other no_words wide s ts)
    unfolding param_with
    first_param s ts =
        both_behind _ _ _ _ (specs_here_both n gap inner other m room wide less wider Typed s ts)
        (λ words. when (λ d. let two = specs_two n gap inner other m Typed room s ts words d.1 in
        omega (arith, two)) (param_behind words))

    param_one : (s : HeldScopes) (ts : List Lexeme) (x : Found ParamItem) → param_with inner no_words room s ts ≡ Ok x
        → 1 ≤ room
    unfolding param_with
    param_one s ts x e =
        let a = bind_ok e in
        let two = specs_two n gap inner other m Typed room s ts a.0 a.1 in
        omega (arith, two)

    params_both : (lead : List Attr) (s : HeldScopes) (ts : List Lexeme)
        → Both S ((are_none lead ≡ true) ⊎ (1 ≤ room)) ts (params_with inner lead room s ts)
        (params_with other lead wide s ts)
    unfolding params_with
    params_both [] s ts =
        both_if (is_close_paren (kind_at ts)) _ _ _ _ (ready _)
        (both_listed (param_with inner no_words room) (param_with other no_words wide) (next_param inner room)
        (next_param other wide) s ts (first_param s ts)
        (λ x d is. param_one s ts x is) (λ comma s2 ts2. next_param_both comma s2 ts2))
    params_both (a ∷ lead) s ts =
        both_listed (param_with inner (words_of_attrs (a ∷ lead)) room)
        (param_with other (words_of_attrs (a ∷ lead)) wide) (next_param inner room) (next_param other wide) s ts
        (when some_room (param_both (words_of_attrs (a ∷ lead)) s ts)) (λ x d is. some_room d)
        (λ comma s2 ts2. next_param_both comma s2 ts2)
      where
        some_room : (are_none (a ∷ lead) ≡ true) ⊎ (1 ≤ room) → 1 ≤ room
        some_room (inl none) = absurd cc
        some_room (inr one) = one

  module _ (room wide : ℕ) (less : room < suc n) (wider : Near gap room wide) where
    prototype_both : (d : Declared) (opening : ℕ) (lead : List Attr) (s : HeldScopes) (ts : List Lexeme) →
        Both S ((are_none lead ≡ true) ⊎ (1 ≤ room - 1)) ts (prototype_with inner d opening lead room s ts)
        (prototype_with other d opening lead wide s ts)
    unfolding prototype_with
    prototype_both d opening lead s ts =
        both_bind _ _ _ _ (params_both (room - 1) (wide - 1) (omega (arith, less)) (omega (arith, wider)) lead
        (enter s) ts) (λ ps. both_then _ _ _ (late_token is_close_paren ps.scopes ps.rest) (λ closing. ready _))

    -- a list of identifiers asks for no room
    list_both : {D : Type 0} (b : Bool) (d : Declared) (opening : ℕ) (s : HeldScopes) (ts : List Lexeme)
        → Both S D ts (list_behind inner b d opening room s ts) (list_behind other b d opening wide s ts)
    unfolding identifiers_with
    list_both false d opening s ts = when (λ fit. inl refl) (prototype_both d opening [] s ts)
    list_both {D} true d opening s ts = by d.declr
      where
        by : (o : SomeDeclr)
            → Both S D ts (identifiers_of o (λ inside. identifiers_with inner inside opening s ts)
            (prototype_with inner d opening [] room s ts))
            (identifiers_of o (λ inside. identifiers_with other inside opening s ts)
            (prototype_with other d opening [] wide s ts))
        by no_declr = when (λ fit. inl refl) (prototype_both d opening [] s ts)
        by (some_declr inside) =
            both_then _ _ _ (late_names_list identifier_at late_identifier s ts)
            (λ names. both_then _ _ _ (late_token is_close_paren names.scopes names.rest) (λ closing. ready _))

  module _ (flag : Bool) (room wide : ℕ) (less : number_of flag room < suc n) (wider : Near gap room wide) where
    suffix_both : (D : Type 0) (d : Declared) (s : HeldScopes) (ts : List Lexeme)
        → BothTurn S D ts (suffix_turn inner flag room d s ts) (suffix_turn other flag wide d s ts)
    unfolding array_with
    suffix_both D d s ts = by_bracket (is_open_bracket (kind_at ts)) (is_open_paren (kind_at ts))
      where
        near : ℕ
        near = room_at flag room d (kind_at ts)

        far : ℕ
        far = room_at flag wide d (kind_at ts)

        below : near < suc n
        below = room_below flag room n d (kind_at ts) less

        wide_enough : Near gap near far
        wide_enough = wider_at gap flag room wide d (kind_at ts) wider

        by_bracket : (b c : Bool) →
            BothTurn S D ts
            (if b then Some (fits (suc (some_declr_height d.declr)) near ts (array_with inner d near s ts)) else if c
            then Some (fits (suc (some_declr_height d.declr)) near ts (params_behind inner flag d near s ts)) else None)
            (if b then Some (fits (suc (some_declr_height d.declr)) far ts (array_with other d far s ts)) else if c
            then Some (fits (suc (some_declr_height d.declr)) far ts (params_behind other flag d far s ts)) else None)
        by_bracket true c =
            both_asks (suc (some_declr_height d.declr)) near far s ts _ _ wide_enough.0 (λ opening.
            both_then _ _ _ (late_array_words opening.scopes opening.rest)
            (λ words. both_bind _ _ _ _
            (when (λ fit. omega (arith, fit)) (size_both near far below wide_enough words.scopes words.rest))
            (λ size. both_then _ _ _ (late_token is_close_bracket size.scopes size.rest) (λ closing. ready _))))
        by_bracket false true =
            both_asks (suc (some_declr_height d.declr)) near far s ts _ _ wide_enough.0
            (λ opening. list_both near far below wide_enough (flag && is_bare d.declr
            && begins_identifiers opening.scopes (kind_at opening.rest)) d opening.tree opening.scopes opening.rest)
        by_bracket false false = tt

    paren_both : (mode : Mode) (wanted : Option Kind) (opening : ℕ) (attrs : List Attr) (s : HeldScopes)
        (ts : List Lexeme) →
        Both S (1 ≤ room) ts (paren_with inner mode wanted flag opening attrs room s ts)
        (paren_with other mode wanted flag opening attrs wide s ts)
    unfolding paren_with
    paren_both mode wanted opening attrs s ts =
        both_bind _ _ _ _ (when (λ one. number_lower flag room n less one)
        (m.declrs mode wanted flag (room - 1) (wide - 1) (omega (arith, wider)) s ts))
        (λ d. both_then _ _ _ (late_present d.tree.declr d.scopes d.rest) (λ known.
        both_then _ _ _ (late_token is_close_paren known.scopes known.rest) (λ closing. ready _)))

    opened_both : {D : Type 0} (mode : Mode) (wanted : Option Kind) (s : HeldScopes) (ts : List Lexeme)
        → Both S D ts (opened_with inner mode wanted flag room s ts) (opened_with other mode wanted flag wide s ts)
    unfolding opened_with opened_by
    opened_both mode wanted s ts =
        both_asks 1 room wide s ts _ _ wider.0 (λ opening.
        both_behind _ _ _ _ (attrs_both room wide wider.0 opening.scopes opening.rest)
        (λ attrs. both_if (opens_params attrs.tree attrs.scopes (kind_at attrs.rest)) _ _ _ _
        (when (λ d. attrs_lead room opening.scopes opening.rest attrs d.1)
        (prototype_both room wide (plain_number flag room n less) wider
        (record { declr = no_declr; closed = None }) opening.tree attrs.tree attrs.scopes attrs.rest))
        (both_if (opens_declr mode (kind_at attrs.rest)) _ _ _ _ (when (λ d. d.0)
        (paren_both mode wanted opening.tree attrs.tree attrs.scopes attrs.rest)) (refused _ attrs.rest))))

    named_paren_both : {D : Type 0} (wanted : Option Kind) (s : HeldScopes) (ts : List Lexeme)
        → Both S D ts (named_paren inner wanted flag room s ts) (named_paren other wanted flag wide s ts)
    unfolding named_paren
    named_paren_both wanted s ts =
        both_asks 2 room wide s ts _ _ wider.0 (λ opening.
        both_bind _ _ _ _ (attrs_both room wide wider.0 opening.scopes opening.rest)
        (λ attrs.
        when (λ two. omega (arith, two)) (paren_both Named wanted opening.tree attrs.tree attrs.scopes attrs.rest)))

    some_paren_both : {D : Type 0} (mode : Mode) (wanted : Option Kind) (s : HeldScopes) (ts : List Lexeme)
        → Both S D ts (some_paren inner mode wanted flag room s ts) (some_paren other mode wanted flag wide s ts)
    some_paren_both Named wanted s ts = named_paren_both wanted s ts
    some_paren_both Abstract wanted s ts = opened_both Abstract wanted s ts
    some_paren_both Either wanted s ts = opened_both Either wanted s ts

    name_both : {D : Type 0} (mode : Mode) (wanted : Option Kind) (o : Option ℕ) (s : HeldScopes) (ts : List Lexeme)
        → Both S D ts (name_or_none inner mode wanted o room s ts) (name_or_none other mode wanted o wide s ts)
    name_both mode wanted None s ts = both_same _ (late_absent mode s ts)
    name_both {D} mode wanted (Some name) s ts =
        both_if (takes_name mode) _ _ _ _ (held (at_name wanted name s)) (both_same _ (late_absent mode s ts))
      where
        held : (o : Option HeldScopes) → Both S D ts (name_held name room o s ts) (name_held name wide o s ts)
        held None = refused _ ts
        held (Some t) = both_asks 1 room wide s ts _ _ wider.0 (λ token. ready _)

    core_both : {D : Type 0} (mode : Mode) (wanted : Option Kind) (s : HeldScopes) (ts : List Lexeme)
        → Both S D ts (core_with inner mode wanted flag room s ts) (core_with other mode wanted flag wide s ts)
    unfolding core_with
    core_both mode wanted s ts = both_if (is_open_paren (kind_at ts)) _ _ _ _ (some_paren_both mode wanted s ts)
        (both_if (names_base s mode wanted (kind_at ts)) _ _ _ _ (both_asks 1 room wide s ts _ _ wider.0
        (λ token. ready _)) (name_both mode wanted (spelled_name (kind_at ts)) s ts))

    pub declr_both : {D : Type 0} (mode : Mode) (wanted : Option Kind) (s : HeldScopes) (ts : List Lexeme)
        → Both S D ts (declr_with inner mode wanted flag room s ts) (declr_with other mode wanted flag wide s ts)
    unfolding declr_with pointer_with direct_with
    declr_both {D} mode wanted s ts =
        both_if (is_star (kind_at ts)) _ _ _ _
        (both_asks (least_pointer mode) room wide s ts _ _ wider.0 (λ token.
        both_bind _ _ _ _ (pointer_words_both room wide wider.0 token.scopes token.rest)
        (λ words. both_bind _ _ _ _ (when (λ fit. number_lower flag room n less (least mode fit)) (m.declrs mode wanted
        flag (room - 1) (wide - 1) (omega (arith, wider)) words.scopes words.rest)) (λ d. ready _))))
        (both_bind _ _ _ _ (core_both mode wanted s ts) (λ core. both_run (suffix_turn inner flag room)
        (suffix_turn other flag wide) (suffix_both D) core.tree core.scopes core.rest))
      where
        least : (mode : Mode) → least_pointer mode ≤ room → 1 ≤ room
        least Named fit = omega (arith, fit)
        least Abstract fit = fit
        least Either fit = fit

  module _ (room wide : ℕ) (less : room < suc n) (wider : Near gap room wide) where
    pub type_name_both : (s : HeldScopes) (ts : List Lexeme)
        → Both S (1 ≤ room) ts (type_name_with inner room s ts) (type_name_with other wide s ts)
    unfolding type_name_with
    type_name_both s ts =
        both_bind _ _ _ _ (when (λ one. omega (arith, less, one))
        (m.words Naming no_words (room - 1) (wide - 1) (omega (arith, wider)) s ts))
        (λ words. both_bind _ _ _ _ (when (λ one. omega (arith, less, one)) (m.declrs Abstract None false (room - 1)
        (wide - 1) (omega (arith, wider)) words.scopes words.rest)) (λ d. ready _))

    -- the name of a type takes the word that begins it
    -- where its specifiers go on behind their first token
    pub type_name_past : (s : HeldScopes) (ts : List Lexeme)
        → Late (behind_first ts) (other.specs Naming no_words (wide - 1) s ts)
        → Late (behind_first ts) (type_name_with other wide s ts)
    unfolding type_name_with
    type_name_past s ts words_on =
        late_bind (behind_first ts) _ _ words_on
        (λ words. late_bind words.rest _ _ (m.declrs Abstract None false (room - 1) (wide - 1)
        (omega (arith, wider)) words.scopes words.rest).late (λ d. all_left d.rest))
