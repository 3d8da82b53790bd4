-- Declarators, parameters and names of types with more room.
use Rattle.std.proofs.Common.{◌≡◌, ℕ, zero, suc, ◌<◌, ◌≤◌, Bool, true, false, if◌then◌else◌, List, [], ◌∷◌, ◌⊎◌, inl, inr, Option, Some, None, Ok, refl, arith}
use Rattle.std.specs.Prelude.{◌-◌, ◌&&◌, ◌||◌, is_some}
use Rattle.c_words.specs.declared.kinds.TokenKind.{TokenKind}
use Rattle.c_tree.specs.declared.lexeme.Lexeme.{Lexeme}
use Rattle.c_syntax.specs.declared.parts.Attr.{Attr}
use Rattle.c_tree.specs.Tree.{SpecWords, no_words, more_words, SomeDeclr, no_declr, some_declr}
use Rattle.c_tree.specs.Height.{some_declr_height}
use Rattle.typedef_scope.specs.declared.kind.Kind.{Kind}
use Rattle.typedef_scope.specs.declared.kind.Kind.TheVariants.{Value}
use Rattle.c_units.specs.HeldScopes.{HeldScopes, enter, release}
use Rattle.c_units.specs.Scoping.{at_name}
use Rattle.c_reading.specs.declared.kinds.Reach.TheVariants.{Assigned}
use Rattle.c_reading.specs.declared.kinds.Role.TheVariants.{Typed, Naming}
use Rattle.c_reading.specs.declared.kinds.Mode.{Mode}
use Rattle.c_reading.specs.declared.kinds.Mode.TheVariants.{Named, Abstract, Either}
use Rattle.c_reading.specs.Reading.{Found, take_one, kind_at, fits}
use Rattle.c_reading.specs.Tokens.{is_open_paren, is_close_paren, is_open_bracket, is_close_bracket, is_star, is_dots, spelled_name, quals_at, array_words_at}
use Rattle.c_reading.specs.Parts.{Inner, nothing, star, Declared, ParamItem}
use Rattle.c_reading.specs.Declaring.{takes_name, least_pointer, is_bare, room_at, words_of_quals, words_of_attrs, are_none, opens_params, opens_declr, takes_attrs, name_held, star_size, size_with, array_with, param_words, param_attrs, param_with, next_param, params_with, prototype_with, params_behind, suffix_turn, paren_with, named_paren, opened_by, opened_with, some_paren, name_or_none, core_with, direct_with, pointer_with, declr_with, type_name_with, begins_identifiers, identifiers_of, identifiers_with, list_behind, names_base}
use Rattle.c_reading.proofs.Binding.{bind_ok}
use Rattle.room_laws.specs.Rooms.{More, InnerMore, number_of}
use Rattle.room_laws.proofs.More.{more_same, more_bind, more_behind, more_fits, more_if, MoreTurn, more_run, more_listed}
use Rattle.room_laws.proofs.Specs.{attrs_more, pointer_words_more, specs_here_more, specs_two, attrs_lead}

-- the room of what stands behind a declarator that may be a function's, in a smaller and in a greater room
wider_at : (flag : Bool) (room wide : ℕ) (d : Declared) (kind : TokenKind) → room ≤ wide
    → room_at flag room d kind ≤ room_at flag wide d kind
wider_at flag room wide d kind h = by_test (flag && (is_some d.closed || (is_open_paren kind && is_bare d.declr)))
  where
    by_test : (b : Bool) → (if b then suc room else room) ≤ (if b then suc wide else wide)
    by_test true = omega (arith, h)
    by_test false = h

-- the room inside a declarator is below a number where the declarator's number is
pub room_below : (flag : Bool) (room n : ℕ) (d : Declared) (kind : TokenKind) → number_of flag room < suc n
    → room_at flag room d kind < suc n
room_below false room n d kind h = h
room_below true room n d kind h = by_test (is_some d.closed || (is_open_paren kind && is_bare d.declr))
  where
    by_test : (b : Bool) → (if b then suc room else room) < suc n
    by_test true = h
    by_test false = omega (arith, h)

pub number_lower : (flag : Bool) (room n : ℕ) → number_of flag room < suc n → 1 ≤ room → number_of flag (room - 1) < n
number_lower false room n h one = omega (arith, h, one)
number_lower true room n h one = omega (arith, h, one)

pub plain_number : (flag : Bool) (room n : ℕ) → number_of flag room < suc n → room < suc n
plain_number false room n h = h
plain_number true room n h = omega (arith, h)

module _ (n : ℕ) (inner other : Inner) (m : InnerMore n inner other) where
  module _ (room wide : ℕ) (less : room < suc n) (wider : room ≤ wide) where
    size_more : 1 ≤ room → (s : HeldScopes) (ts : List Lexeme)
        → More (size_with inner room s ts) (size_with other wide s ts)
    unfolding size_with star_size
    size_more one s ts =
        more_if (is_close_bracket (kind_at ts)) _ _ _ _ refl (more_if (is_star (kind_at ts)) _ _ _ _
        (more_bind _ _ _ _ (more_same (take_one s ts)) (λ token.
        more_if (is_close_bracket (kind_at token.rest)) _ _ _ _ refl
        (more_bind _ _ _ _ (m.exprs Assigned (star token.tree) (room - 1) (wide - 1) (omega (arith, less, one))
        (omega (arith, wider)) token.scopes token.rest) (λ e. refl))))
        (more_bind _ _ _ _ (m.exprs Assigned nothing (room - 1) (wide - 1) (omega (arith, less, one))
        (omega (arith, wider)) s ts) (λ e. refl)))

    array_more : (d : Declared) → 1 ≤ room → (s : HeldScopes) (ts : List Lexeme)
        → More (array_with inner d room s ts) (array_with other d wide s ts)
    unfolding array_with
    array_more d one s ts =
        more_bind _ _ _ _ (more_same (take_one s ts)) (λ opening.
        more_bind _ _ _ _ (more_same (array_words_at opening.scopes opening.rest))
        (λ words. more_bind _ _ _ _ (size_more one words.scopes words.rest) (λ size. more_same _)))

    param_attrs_more : (d : SomeDeclr) (s : HeldScopes) (ts : List Lexeme)
        → More (param_attrs inner d room s ts) (param_attrs other d wide s ts)
    param_attrs_more d s ts = more_if (takes_attrs d) _ _ _ _ (attrs_more room wide wider s ts) refl

    -- behind words, for which there was room
    param_more : (known : SpecWords) → 1 ≤ room → (s : HeldScopes) (ts : List Lexeme)
        → More (param_with inner known room s ts) (param_with other known wide s ts)
    unfolding param_with
    param_more known one s ts =
        more_bind _ _ _ _ (words_more known s ts) (λ words. more_bind _ _ _ _ (m.declrs Either (Some Value) false
        (room - 1) (wide - 1) (omega (arith, less, one)) (omega (arith, wider)) words.scopes words.rest)
        (λ d. more_bind _ _ _ _ (param_attrs_more d.tree.declr (release Value d.scopes) d.rest) (λ attrs. refl)))
      where
        words_more : (known : SpecWords) (s : HeldScopes) (ts : List Lexeme)
            → More (param_words inner known room s ts) (param_words other known wide s ts)
        words_more no_words s ts = specs_here_more n inner other m room wide less wider Typed s ts
        words_more (more_words w ws) s ts =
            m.words Typed (more_words w ws) (room - 1) (wide - 1) (omega (arith, less, one)) (omega (arith, wider)) s ts

    next_param_more : (comma : ℕ) → 1 ≤ room → (s : HeldScopes) (ts : List Lexeme)
        → More (next_param inner room comma s ts) (next_param other wide comma s ts)
    unfolding next_param
    next_param_more comma one s ts =
        more_bind _ _ _ _ (more_same (quals_at s ts)) (λ quals.
        more_if (is_dots (kind_at quals.rest)) _ _ _ _ (more_same _)
        (more_bind _ _ _ _ (param_more (words_of_quals quals.tree) one quals.scopes quals.rest) (λ p. refl)))

    -- a first parameter without attributes before it: where it is read, there is room
    first_param : 1 ≤ room ⊎ (room < 1) → (s : HeldScopes) (ts : List Lexeme)
        → More (param_with inner no_words room s ts) (param_with other no_words wide s ts)
    unfolding param_with
    first_param (inl one) s ts = param_more no_words one s ts
    first_param (inr none) s ts =
        more_behind _ _ _ _ (specs_here_more n inner other m room wide less wider Typed s ts)
        (λ words is. let two = specs_two n inner other m Typed room s ts words is in absurd (omega (arith, two, none)))

    param_one : (s : HeldScopes) (ts : List Lexeme) (x : Found ParamItem) → param_with inner no_words room s ts ≡ Ok x
        → 1 ≤ room
    unfolding param_with
    param_one s ts x e =
        let a = bind_ok e in
        let two = specs_two n inner other m Typed room s ts a.0 a.1 in
        omega (arith, two)

    one_or_none : 1 ≤ room ⊎ (room < 1)
    one_or_none = by_room room
      where
        by_room : (room : ℕ) → 1 ≤ room ⊎ (room < 1)
        by_room zero = inr (omega arith)
        by_room (suc room) = inl (omega arith)

    params_more : (lead : List Attr) → (are_none lead ≡ true) ⊎ (1 ≤ room) → (s : HeldScopes) (ts : List Lexeme)
        → More (params_with inner lead room s ts) (params_with other lead wide s ts)
    unfolding params_with
    params_more [] fit s ts =
        more_if (is_close_paren (kind_at ts)) _ _ _ _ refl
        (more_listed (param_with inner no_words room) (param_with other no_words wide) (next_param inner room)
        (next_param other wide) s ts (first_param one_or_none s ts)
        (λ x is comma s2 ts2. next_param_more comma (param_one s ts x is) s2 ts2))
    params_more (a ∷ lead) (inl none) s ts = absurd cc
    params_more (a ∷ lead) (inr one) s ts =
        more_listed (param_with inner (words_of_attrs (a ∷ lead)) room)
        (param_with other (words_of_attrs (a ∷ lead)) wide) (next_param inner room) (next_param other wide) s ts
        (param_more (words_of_attrs (a ∷ lead)) one s ts)
        (λ x is comma s2 ts2. next_param_more comma one s2 ts2)

  module _ (room wide : ℕ) (less : room < suc n) (wider : room ≤ wide) where
    prototype_more : (d : Declared) (opening : ℕ) (lead : List Attr) → (are_none lead ≡ true) ⊎ (1 ≤ room - 1)
        → (s : HeldScopes) (ts : List Lexeme) →
        More (prototype_with inner d opening lead room s ts) (prototype_with other d opening lead wide s ts)
    unfolding prototype_with
    prototype_more d opening lead fit s ts =
        more_bind _ _ _ _ (params_more (room - 1) (wide - 1) (omega (arith, less)) (omega (arith, wider)) lead fit
        (enter s) ts) (λ ps. more_same _)

    -- a list of identifiers asks for no room
    list_more : (b : Bool) (d : Declared) (opening : ℕ) (s : HeldScopes) (ts : List Lexeme)
        → More (list_behind inner b d opening room s ts) (list_behind other b d opening wide s ts)
    unfolding identifiers_with
    list_more false d opening s ts = prototype_more d opening [] (inl refl) s ts
    list_more true d opening s ts = by d.declr
      where
        by : (o : SomeDeclr)
            → More (identifiers_of o (λ inside. identifiers_with inner inside opening s ts)
            (prototype_with inner d opening [] room s ts))
            (identifiers_of o (λ inside. identifiers_with other inside opening s ts)
            (prototype_with other d opening [] wide s ts))
        by no_declr = prototype_more d opening [] (inl refl) s ts
        by (some_declr inside) = more_same _

    params_behind_more : (flag : Bool) (d : Declared) (s : HeldScopes) (ts : List Lexeme)
        → More (params_behind inner flag d room s ts) (params_behind other flag d wide s ts)
    params_behind_more flag d s ts =
        more_bind _ _ _ _ (more_same (take_one s ts)) (λ opening. list_more (flag && is_bare d.declr
        && begins_identifiers opening.scopes (kind_at opening.rest)) d opening.tree opening.scopes opening.rest)

  module _ (flag : Bool) (room wide : ℕ) (less : number_of flag room < suc n) (wider : room ≤ wide) where
    suffix_more : (d : Declared) (s : HeldScopes) (ts : List Lexeme)
        → MoreTurn (suffix_turn inner flag room d s ts) (suffix_turn other flag wide d s ts)
    suffix_more d s ts = by_bracket (is_open_bracket (kind_at ts)) (is_open_paren (kind_at ts)) refl
      where
        near : ℕ
        near = room_at flag room d (kind_at ts)

        far : ℕ
        far = room_at flag wide d (kind_at ts)

        below : near < suc n
        below = room_below flag room n d (kind_at ts) less

        wide_enough : near ≤ far
        wide_enough = wider_at flag room wide d (kind_at ts) wider

        by_bracket : (b c : Bool) → b ≡ b →
            MoreTurn
            (if b then Some (fits (suc (some_declr_height d.declr)) near ts (array_with inner d near s ts)) else if c
            then Some (fits (suc (some_declr_height d.declr)) near ts (params_behind inner flag d near s ts)) else None)
            (if b then Some (fits (suc (some_declr_height d.declr)) far ts (array_with other d far s ts)) else if c
            then Some (fits (suc (some_declr_height d.declr)) far ts (params_behind other flag d far s ts)) else None)
        by_bracket true c h =
            more_fits (suc (some_declr_height d.declr)) near far ts _ _ wide_enough
            (λ fit. array_more near far below wide_enough d (omega (arith, fit)) s ts)
        by_bracket false true h =
            more_fits (suc (some_declr_height d.declr)) near far ts _ _ wide_enough
            (λ fit. params_behind_more near far below wide_enough flag d s ts)
        by_bracket false false h = tt

    paren_more : (mode : Mode) (wanted : Option Kind) (opening : ℕ) (attrs : List Attr) → 1 ≤ room
        → (s : HeldScopes) (ts : List Lexeme) →
        More (paren_with inner mode wanted flag opening attrs room s ts)
        (paren_with other mode wanted flag opening attrs wide s ts)
    unfolding paren_with
    paren_more mode wanted opening attrs one s ts =
        more_bind _ _ _ _ (m.declrs mode wanted flag (room - 1) (wide - 1) (number_lower flag room n less one)
        (omega (arith, wider)) s ts) (λ d. more_same _)

    opened_more : (mode : Mode) (wanted : Option Kind) (s : HeldScopes) (ts : List Lexeme)
        → More (opened_with inner mode wanted flag room s ts) (opened_with other mode wanted flag wide s ts)
    unfolding opened_with opened_by
    opened_more mode wanted s ts =
        more_fits 1 room wide ts _ _ wider (λ one. more_bind _ _ _ _ (more_same (take_one s ts)) (λ opening.
        more_behind _ _ _ _ (attrs_more room wide wider opening.scopes opening.rest)
        (λ attrs is. more_if (opens_params attrs.tree attrs.scopes (kind_at attrs.rest)) _ _ _ _
        (prototype_more room wide (plain_number flag room n less) wider (record { declr = no_declr; closed = None })
        opening.tree attrs.tree (attrs_lead room opening.scopes opening.rest attrs is) attrs.scopes attrs.rest)
        (more_if (opens_declr mode (kind_at attrs.rest)) _ _ _ _
        (paren_more mode wanted opening.tree attrs.tree one attrs.scopes attrs.rest) (inr refl)))))

    named_paren_more : (wanted : Option Kind) (s : HeldScopes) (ts : List Lexeme)
        → More (named_paren inner wanted flag room s ts) (named_paren other wanted flag wide s ts)
    unfolding named_paren
    named_paren_more wanted s ts =
        more_fits 2 room wide ts _ _ wider (λ two. more_bind _ _ _ _ (more_same (take_one s ts)) (λ opening.
        more_bind _ _ _ _ (attrs_more room wide wider opening.scopes opening.rest)
        (λ attrs. paren_more Named wanted opening.tree attrs.tree (omega (arith, two)) attrs.scopes attrs.rest)))

    some_paren_more : (mode : Mode) (wanted : Option Kind) (s : HeldScopes) (ts : List Lexeme)
        → More (some_paren inner mode wanted flag room s ts) (some_paren other mode wanted flag wide s ts)
    some_paren_more Named wanted s ts = named_paren_more wanted s ts
    some_paren_more Abstract wanted s ts = opened_more Abstract wanted s ts
    some_paren_more Either wanted s ts = opened_more Either wanted s ts

    name_more : (mode : Mode) (wanted : Option Kind) (o : Option ℕ) (s : HeldScopes) (ts : List Lexeme)
        → More (name_or_none inner mode wanted o room s ts) (name_or_none other mode wanted o wide s ts)
    name_more mode wanted None s ts = more_same _
    name_more mode wanted (Some name) s ts =
        more_if (takes_name mode) _ _ _ _ (held (at_name wanted name s)) (more_same _)
      where
        held : (o : Option HeldScopes) → More (name_held name room o s ts) (name_held name wide o s ts)
        held None = inr refl
        held (Some t) = more_fits 1 room wide ts _ _ wider (λ one. more_same _)

    core_more : (mode : Mode) (wanted : Option Kind) (s : HeldScopes) (ts : List Lexeme)
        → More (core_with inner mode wanted flag room s ts) (core_with other mode wanted flag wide s ts)
    unfolding core_with
    core_more mode wanted s ts = more_if (is_open_paren (kind_at ts)) _ _ _ _ (some_paren_more mode wanted s ts)
        (more_if (names_base s mode wanted (kind_at ts)) _ _ _ _ (more_fits 1 room wide ts _ _ wider
        (λ one. more_same _)) (name_more mode wanted (spelled_name (kind_at ts)) s ts))

    pub declr_more : (mode : Mode) (wanted : Option Kind) (s : HeldScopes) (ts : List Lexeme)
        → More (declr_with inner mode wanted flag room s ts) (declr_with other mode wanted flag wide s ts)
    unfolding declr_with pointer_with direct_with
    declr_more mode wanted s ts =
        more_if (is_star (kind_at ts)) _ _ _ _
        (more_fits (least_pointer mode) room wide ts _ _ wider (λ fit. more_bind _ _ _ _ (more_same (take_one s ts))
        (λ token. more_bind _ _ _ _ (pointer_words_more room wide wider token.scopes token.rest)
        (λ words. more_bind _ _ _ _ (m.declrs mode wanted flag (room - 1) (wide - 1)
        (number_lower flag room n less (least mode fit)) (omega (arith, wider)) words.scopes words.rest) (λ d. refl)))))
        (more_bind _ _ _ _ (core_more mode wanted s ts) (λ core. more_run (suffix_turn inner flag room)
        (suffix_turn other flag wide) suffix_more core.tree core.scopes core.rest))
      where
        least : (mode : Mode) → least_pointer mode ≤ room → 1 ≤ room
        least Named fit = omega (arith, fit)
        least Abstract fit = fit
        least Either fit = fit

  module _ (room wide : ℕ) (less : room < suc n) (one : 1 ≤ room) (wider : room ≤ wide) where
    pub type_name_more : (s : HeldScopes) (ts : List Lexeme)
        → More (type_name_with inner room s ts) (type_name_with other wide s ts)
    unfolding type_name_with
    type_name_more s ts =
        more_bind _ _ _ _
        (m.words Naming no_words (room - 1) (wide - 1) (omega (arith, less, one)) (omega (arith, wider)) s ts)
        (λ words. more_bind _ _ _ _ (m.declrs Abstract None false (room - 1) (wide - 1) (omega (arith, less, one))
        (omega (arith, wider)) words.scopes words.rest) (λ d. refl))
