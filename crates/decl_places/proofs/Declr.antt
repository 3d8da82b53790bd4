-- Declarators: a name, something in parentheses or nothing, with brackets and parameters behind it, and stars before
-- it.
use Rattle.std.proofs.Common.{◌≡◌, ℕ, suc, ◌+◌, ◌<◌, ◌≤◌, Bool, true, false, if◌then◌else◌, List, [], ◌∷◌, ◌++◌, length, ◌⊎◌, inl, inr, Option, Some, None, refl, ◌∙◌, ap, subst, arith}
use Rattle.std.specs.Prelude.{◌-◌, ◌&&◌, ◌||◌, nat_le, is_some}
use Rattle.std.proofs.lemmas.Bool.{leb-true}
use Rattle.c_words.specs.declared.kinds.TokenKind.{TokenKind}
use Rattle.c_words.specs.declared.kinds.TokenKind.TheVariants as kinds
use Rattle.c_words.specs.declared.kinds.Punct.TheVariants as puncts
use Rattle.c_tree.specs.declared.lexeme.Lexeme.{Lexeme}
use Rattle.c_syntax.specs.declared.parts.Attr.{Attr}
use Rattle.c_syntax.specs.declared.parts.PointerWord.{PointerWord}
use Rattle.c_tree.specs.Tree.{Declr, declr_name, base_name, SomeDeclr, no_declr, some_declr}
use Rattle.c_tree.specs.Height.{some_declr_height}
use Rattle.typedef_scope.specs.declared.kind.Kind.{Kind}
use Rattle.typedef_scope.specs.declared.kind.Kind.TheVariants.{Typedef}
use Rattle.c_units.specs.HeldScopes.{HeldScopes, HeldScope, is_wide, innermost, leave}
use Rattle.c_units.specs.Scoping.{at_name}
use Rattle.c_units.specs.Units.{numbered_from}
use Rattle.c_reading.specs.declared.kinds.FaultKind.{FaultKind}
use Rattle.c_reading.specs.declared.kinds.FaultKind.TheVariants.{Unexpected, TooDeep, Redeclared}
use Rattle.c_reading.specs.declared.kinds.Mode.{Mode}
use Rattle.c_reading.specs.declared.kinds.Mode.TheVariants.{Named, Abstract, Either}
use Rattle.c_reading.specs.Reading.{Found, Read, Reader, ends, refuses, fits, kind_at, take_one, token_at, run, and_then}
use Rattle.c_reading.specs.Tokens.{is_end, is_open_paren, is_close_paren, is_open_bracket, is_star, is_attribute, spelled_name, begins_pointer_word, pointer_words_at, attrs_at}
use Rattle.c_reading.specs.Parts.{Inner, Declared}
use Rattle.c_reading.specs.Specifying.{begins_specs, present}
use Rattle.c_reading.specs.Declaring.{takes_name, least_pointer, with_pointer, with_paren, is_bare, room_at, are_none, opens_params, opens_declr, absent, name_held, names_base, base_named, array_with, params_behind, prototype_with, suffix_turn, paren_with, named_paren, opened_by, opened_with, some_paren, core_with, direct_with, pointer_with, declr_with}
use Rattle.c_reading.proofs.Binding.{found, done, bind_ok, bind_is, fits_ok, fits_is, take_falls, token_falls, if_ok}
use Rattle.c_reading.proofs.Forms.{Shrinks}
use Rattle.c_reading.proofs.KnotLaws.{none_tokens}
use Rattle.c_reading.proofs.Shared.{present_ok}
use Rattle.c_reading.proofs.DeclrFalls.{prototype_shrinks, suffix_shrinks, paren_shrinks}
use Rattle.c_reading.proofs.Aims.{Laws}
use Rattle.reading_steps.specs.Keeping.{Kept}
use Rattle.reading_steps.specs.Fresh.{fresh}
use Rattle.reading_steps.specs.Steps.{first_kind, any, Good, Ready, Law}
use Rattle.reading_steps.specs.Stops.{is_name_kind, stops_type, stops_named, stops_declr}
use Rattle.reading_steps.specs.InnerLaws.{InnerLaws, number_of, holds_none, may_be_absent}
use Rattle.reading_steps.proofs.Keeping.{kept_refl, hold_kept}
use Rattle.reading_steps.proofs.Fresh.{fresh_free, free_held}
use Rattle.reading_steps.proofs.Steps.{behind, kind_same, GoodTurn, run_good, run_stops, refused_here, good_as, if_good, fits_good, ready_fits, ready_take, ready_as, ready_bind, bind_good, bind_law, ends_law, token_law, good_before, ready_before, good_weaker, ready_weaker}
use Rattle.token_places.proofs.Single.{open_paren_end, close_paren_end, star_end, name_end, one_good, none_good, mapped_ready, mapped_law}
use Rattle.token_places.proofs.Rows.{attrs_law, pointer_words_law}
use Rattle.decl_places.proofs.Helping.{then_is, else_is, fits_not, left_is, ready_behind, put_before, behind_good, node_good}
use Rattle.decl_places.proofs.Members.{name_attribute}
use Rattle.decl_places.proofs.Params.{paren_type, attrs_none, attrs_some, attrs_taken, array_good, prototype_good, empty_read, params_behind_good}

-- What may follow a declarator.

-- `)` stops a declarator of each mode
paren_declr : (mode : Mode) (kind : TokenKind) → is_close_paren kind ≡ true → stops_declr mode kind ≡ true
paren_declr Named (kinds.Punct puncts.CloseParen) h = refl
paren_declr Abstract (kinds.Punct puncts.CloseParen) h = refl
paren_declr Either (kinds.Punct puncts.CloseParen) h = refl
paren_declr mode kind h = absurd cc

-- what stops a declarator is no `(`
declr_open_paren : (mode : Mode) (kind : TokenKind) → stops_declr mode kind ≡ true → is_open_paren kind ≡ false
declr_open_paren Named (kinds.Punct puncts.OpenParen) h = absurd cc
declr_open_paren Abstract (kinds.Punct puncts.OpenParen) h = absurd cc
declr_open_paren Either (kinds.Punct puncts.OpenParen) h = absurd cc
declr_open_paren mode kind h = refl

-- what stops a declarator is no `[`
declr_open_bracket : (mode : Mode) (kind : TokenKind) → stops_declr mode kind ≡ true → is_open_bracket kind ≡ false
declr_open_bracket Named (kinds.Punct puncts.OpenBracket) h = absurd cc
declr_open_bracket Abstract (kinds.Punct puncts.OpenBracket) h = absurd cc
declr_open_bracket Either (kinds.Punct puncts.OpenBracket) h = absurd cc
declr_open_bracket mode kind h = refl

-- what stops a declarator is no `*`
declr_star : (mode : Mode) (kind : TokenKind) → stops_declr mode kind ≡ true → is_star kind ≡ false
declr_star Named (kinds.Punct puncts.Star) h = absurd cc
declr_star Abstract (kinds.Punct puncts.Star) h = absurd cc
declr_star Either (kinds.Punct puncts.Star) h = absurd cc
declr_star mode kind h = refl

-- what stops the name of a type begins no word of a pointer
type_word : (kind : TokenKind) → stops_type kind ≡ true → begins_pointer_word kind ≡ false
type_word (kinds.Punct puncts.CloseParen) h = refl
type_word (kinds.Punct puncts.Comma) h = refl
type_word (kinds.Punct puncts.Colon) h = refl
type_word kind h = absurd cc

-- what stops the name of a type spells no name
type_name_none : (kind : TokenKind) → stops_type kind ≡ true → spelled_name kind ≡ None
type_name_none (kinds.Punct puncts.CloseParen) h = refl
type_name_none (kinds.Punct puncts.Comma) h = refl
type_name_none (kinds.Punct puncts.Colon) h = refl
type_name_none kind h = absurd cc

type_open_paren : (kind : TokenKind) → stops_type kind ≡ true → is_open_paren kind ≡ false
type_open_paren kind h = declr_open_paren Abstract kind h

name_word : (kind : TokenKind) → is_name_kind kind ≡ true → begins_pointer_word kind ≡ false
name_word (kinds.Name name) h = refl
name_word kind h = absurd cc

name_star : (kind : TokenKind) → is_name_kind kind ≡ true → is_star kind ≡ false
name_star (kinds.Name name) h = refl
name_star kind h = absurd cc

star_attribute : (kind : TokenKind) → is_star kind ≡ true → is_attribute kind ≡ false
star_attribute (kinds.Punct puncts.Star) h = refl
star_attribute kind h = absurd cc

star_specs : (s : HeldScopes) (kind : TokenKind) → is_star kind ≡ true → begins_specs s kind ≡ false
star_specs s (kinds.Punct puncts.Star) h = refl
star_specs s kind h = absurd cc

star_close : (kind : TokenKind) → is_star kind ≡ true → is_close_paren kind ≡ false
star_close (kinds.Punct puncts.Star) h = refl
star_close kind h = absurd cc

-- a name is no base word, and the end is none
name_no_base : (s : HeldScopes) (mode : Mode) (wanted : Option Kind) (name : ℕ)
    → names_base s mode wanted (kinds.Name name) ≡ false
name_no_base s Named (Some Typedef) name = by_wide (is_wide s)
  where
    by_wide : (b : Bool) → (b && false) ≡ false
    by_wide true = refl
    by_wide false = refl
name_no_base s mode wanted name = refl

-- a token that is a base word in the place of a name is not the end
base_end : (s : HeldScopes) (mode : Mode) (wanted : Option Kind) (kind : TokenKind)
    → names_base s mode wanted kind ≡ true → is_end kind ≡ false
base_end s Named (Some Typedef) kinds.End h = absurd (by_wide (is_wide s) h)
  where
    by_wide : (b : Bool) → (b && false) ≡ true → ⊥
    by_wide true h = absurd cc
    by_wide false h = absurd cc
base_end s mode wanted kinds.End h = absurd cc
base_end s mode wanted kind h = refl

-- what a declarator of a mode begins with where it is completed from nothing
abbrev front_of : Mode → TokenKind → Bool
front_of Named kind = is_name_kind kind
front_of Abstract kind = stops_type kind
front_of Either kind = stops_type kind

-- what a declarator completed from nothing begins with begins no word of a pointer
front_word : (mode : Mode) (kind : TokenKind) → front_of mode kind ≡ true → begins_pointer_word kind ≡ false
front_word Named kind h = name_word kind h
front_word Abstract kind h = type_word kind h
front_word Either kind h = type_word kind h

at_name_kept : (wanted : Option Kind) (name : ℕ) (s t : HeldScopes) → at_name wanted name s ≡ Some t
    → Kept (holds_none wanted) s t
at_name_kept None name s t e =
    let same : s ≡ t = cc in
    subst (λ (t : HeldScopes). Kept true s t) same (kept_refl true s)
at_name_kept (Some kind) name s t e = hold_kept name kind s t e

fresh_at : (wanted : Option Kind) (s : HeldScopes) → (t : HeldScopes) × (at_name wanted (fresh s) s ≡ Some t)
fresh_at None s = (s, refl)
fresh_at (Some kind) s =
    (record (innermost s) { held = Some (fresh s) } ∷ leave s, free_held s (fresh s) kind (fresh_free s))

-- the room of what stands behind a declarator that may be a function's
room_below : (flag : Bool) (room n : ℕ) (d : Declared) (kind : TokenKind) → number_of flag room < suc n
    → room_at flag room d kind < suc n
room_below false room n d kind h = h
room_below true room n d kind h = by_test (is_some d.closed || (is_open_paren kind && is_bare d.declr))
  where
    by_test : (b : Bool) → (if b then suc room else room) < suc n
    by_test true = h
    by_test false = omega (arith, h)

number_lower : (flag : Bool) (room n : ℕ) → number_of flag room < suc n → 1 ≤ room → number_of flag (room - 1) < n
number_lower false room n h one = omega (arith, h, one)
number_lower true room n h one = omega (arith, h, one)

module _ (n : ℕ) (inner : Inner) (places : InnerLaws n inner) (laws : Laws [] n inner) where
  -- Brackets and parameters behind a declarator.

  abbrev bracket_read : Bool → ℕ → Declared → TokenKind → Reader Declared
  bracket_read flag room d kind s ts =
      fits (suc (some_declr_height d.declr)) (room_at flag room d kind) ts
      (array_with inner d (room_at flag room d kind) s ts)

  abbrev paren_read : Bool → ℕ → Declared → TokenKind → Reader Declared
  paren_read flag room d kind s ts =
      fits (suc (some_declr_height d.declr)) (room_at flag room d kind) ts
      (params_behind inner flag d (room_at flag room d kind) s ts)

  suffix_law : (flag : Bool) (room : ℕ) → number_of flag room < suc n → (mode : Mode) (d : Declared)
      → Law true (run (suffix_turn inner flag room) d) (stops_declr mode) (stops_declr mode)
  suffix_law flag room less mode d = record {
    good = λ s ts. run_good true (suffix_turn inner flag room) (suffix_shrinks [] none_tokens n inner laws flag room)
        (stops_declr mode) none step d s ts;
    ready = λ s at. record {
      more = [];
      tree = d;
      scopes = s;
      keeps = kept_refl true s;
      begins = λ k h. h;
      reads = λ k h. run_stops true (suffix_turn inner flag room) (suffix_shrinks [] none_tokens n inner laws flag room)
          (stops_declr mode) none d s k h;
    };
  }
    where
      none : (d : Declared) (s : HeldScopes) (k : List Lexeme) → stops_declr mode (kind_at k) ≡ true
          → suffix_turn inner flag room d s k ≡ None
      none d s k h = rw (declr_open_bracket mode (kind_at k) h, declr_open_paren mode (kind_at k) h) refl

      step : (d : Declared) (s : HeldScopes) (ts : List Lexeme)
          → GoodTurn true (suffix_turn inner flag room) (stops_declr mode) d s ts
      step d s ts = by_bracket (is_open_bracket (kind_at ts)) refl
        where
          turn_at : TokenKind → Option (Read Declared)
          turn_at kind = None

          by_paren : is_open_bracket (kind_at ts) ≡ false → (b : Bool) → is_open_paren (kind_at ts) ≡ b
              → GoodTurn true (suffix_turn inner flag room) (stops_declr mode) d s ts
          by_paren off false other = inl (λ k h. rw (kind_same k ts h, off, other) refl)
          by_paren off true is =
              inr (
                paren_read flag room d (kind_at ts),
                (λ k h. rw (kind_same k ts h, off, is) refl),
                fits_good true (suc (some_declr_height d.declr)) (room_at flag room d (kind_at ts))
                    (params_behind inner flag d (room_at flag room d (kind_at ts))) (stops_declr mode) s ts
                    (λ fit. good_before true (params_behind inner flag d (room_at flag room d (kind_at ts))) any
                    (stops_declr mode) s ts (λ kind h. refl)
                    (params_behind_good n inner places laws flag d (room_at flag room d (kind_at ts))
                    (room_below flag room n d (kind_at ts) less) (omega (arith, fit)) s ts is)),
              )

          by_bracket : (b : Bool) → is_open_bracket (kind_at ts) ≡ b
              → GoodTurn true (suffix_turn inner flag room) (stops_declr mode) d s ts
          by_bracket true is =
              inr (
                bracket_read flag room d (kind_at ts),
                (λ k h. rw (kind_same k ts h, is) refl),
                fits_good true (suc (some_declr_height d.declr)) (room_at flag room d (kind_at ts))
                    (array_with inner d (room_at flag room d (kind_at ts))) (stops_declr mode) s ts
                    (λ fit. good_before true (array_with inner d (room_at flag room d (kind_at ts))) any
                    (stops_declr mode) s ts (λ kind h. refl)
                    (array_good n inner places laws d (room_at flag room d (kind_at ts))
                    (room_below flag room n d (kind_at ts) less) (omega (arith, fit)) s ts is)),
              )
          by_bracket false off = by_paren off (is_open_paren (kind_at ts)) refl

  module _ (wanted : Option Kind) (flag : Bool) (room : ℕ) (less : number_of flag room < suc n) where
    abbrev kept : Bool
    kept = holds_none wanted

    -- A declarator in parentheses.

    abbrev closed_paren : ℕ → List Attr → Option HeldScope → Declr → Reader Declared
    closed_paren opening attrs closed d =
        behind (token_at is_close_paren)
        (λ closing. ends (record { declr = some_declr (with_paren opening attrs d closing); closed = closed }))

    closed_paren_law : (opening : ℕ) (attrs : List Attr) (closed : Option HeldScope) (d : Declr)
        → Law kept (closed_paren opening attrs closed d) is_close_paren any
    closed_paren_law opening attrs closed d =
        bind_law kept (token_at is_close_paren) (λ closing. ends
        (record { declr = some_declr (with_paren opening attrs d closing); closed = closed })) is_close_paren any any
        (token_law kept is_close_paren (kinds.Punct puncts.CloseParen) is_close_paren close_paren_end refl refl)
        (λ closing. ends_law kept (record { declr = some_declr (with_paren opening attrs d closing); closed = closed })
        any any (λ kind h. h)) (inr (λ kind h. h))

    abbrev paren_rest : ℕ → List Attr → Declared → Reader Declared
    paren_rest opening attrs d = behind (present d.declr) (closed_paren opening attrs d.closed)

    paren_rest_good : (opening : ℕ) (attrs : List Attr) (d : SomeDeclr) (closed : Option HeldScope) (s : HeldScopes)
        (ts : List Lexeme)
        → Good kept (paren_rest opening attrs (record { declr = d; closed = closed })) any s ts
    unfolding and_then
    paren_rest_good opening attrs no_declr closed s ts =
        refused_here kept
        (paren_rest opening attrs (record { declr = no_declr; closed = closed })) any s ts Unexpected (λ k e. refl)
    paren_rest_good opening attrs (some_declr d) closed s ts = (closed_paren_law opening attrs closed d).good s ts

    paren_rest_ready : (opening : ℕ) (attrs : List Attr) (d : SomeDeclr) (closed : Option HeldScope) (it : Declr)
        → d ≡ some_declr it → (s : HeldScopes) (at : ℕ) →
        Ready kept (paren_rest opening attrs (record { declr = d; closed = closed })) is_close_paren any s at
    unfolding and_then
    paren_rest_ready opening attrs no_declr closed it e s at = absurd cc
    paren_rest_ready opening attrs (some_declr d) closed it e s at =
        (closed_paren_law opening attrs closed d).ready s at

    paren_rest_shrinks : (opening : ℕ) (attrs : List Attr) (d : Declared) → Shrinks (paren_rest opening attrs d)
    paren_rest_shrinks opening attrs d s ts x e =
        let a = bind_ok e in
        let p = present_ok d.declr s ts a.0 a.1 in
        let same = ap (λ (x : Found Declr). length x.rest) p.1 in
        let b = bind_ok a.2 in
        omega (arith, same, token_falls is_close_paren _ _ _ b.1, left_is b.2)

    paren_good : (mode : Mode) (opening : ℕ) (attrs : List Attr) → 1 ≤ room → (s : HeldScopes) (ts : List Lexeme)
        → Good kept (paren_with inner mode wanted flag opening attrs room) any s ts
    unfolding paren_with
    paren_good mode opening attrs one s ts =
        bind_good kept (inner.declr mode wanted flag (room - 1)) (paren_rest opening attrs) is_close_paren any s ts
        (λ d scopes gives at.
        let h = gives.reads (record { kind = kinds.Punct puncts.CloseParen; at = 0 } ∷ []) refl in
        let it = places.declrs.there mode wanted flag (room - 1) s h.0
        (found d scopes (record { kind = kinds.Punct puncts.CloseParen; at = 0 } ∷ [])) h.1 h.2 in
        paren_rest_ready opening attrs d.declr d.closed it.0 it.1 scopes at)
        (good_before kept (inner.declr mode wanted flag (room - 1)) (stops_declr mode) is_close_paren s ts
        (paren_declr mode) (places.declrs.good mode wanted flag (room - 1) (number_lower flag room n less one) s ts))
        (λ x is. paren_rest_good opening attrs x.tree.declr x.tree.closed x.scopes x.rest)
        (inl (λ x y is e. paren_rest_shrinks opening attrs x.tree x.scopes x.rest y e))

    -- where a name must come
    named_paren_law : (opening : ℕ) (attrs : List Attr) → 2 ≤ room
        → Law kept (paren_with inner Named wanted flag opening attrs room) is_name_kind any
    unfolding paren_with
    named_paren_law opening attrs two = record {
      good = λ s ts. paren_good Named opening attrs (omega (arith, two)) s ts;
      ready = λ s at.
          ready_bind kept (inner.declr Named wanted flag (room - 1))
          (paren_rest opening attrs) is_name_kind is_close_paren any s at
          (ready_before kept (inner.declr Named wanted flag (room - 1)) is_name_kind is_name_kind stops_named
          is_close_paren s at (paren_declr Named) (λ kind h. h)
          (places.declrs.named wanted flag (room - 1) (number_lower flag room n less (omega (arith, two)))
          (omega (arith, two)) s at))
          (λ d scopes gives at.
          let h = gives.reads (record { kind = kinds.Punct puncts.CloseParen; at = 0 } ∷ []) refl in
          let fewer = laws.declrs.shrinks wanted flag (room - 1) s h.0
          (found d scopes (record { kind = kinds.Punct puncts.CloseParen; at = 0 } ∷ [])) h.1 in
          let it = places.declrs.there Named wanted flag (room - 1) s h.0
          (found d scopes (record { kind = kinds.Punct puncts.CloseParen; at = 0 } ∷ [])) h.1 fewer in
          paren_rest_ready opening attrs d.declr d.closed it.0 it.1 scopes at);
    }

    named_paren_good : (s : HeldScopes) (ts : List Lexeme) → is_open_paren (kind_at ts) ≡ true
        → Good kept (named_paren inner wanted flag room) any s ts
    unfolding named_paren
    named_paren_good s ts is =
        node_good kept 2 room
        (λ opening. behind (attrs_at room) (λ attrs. paren_with inner Named wanted flag opening attrs room)) any
        (λ two opening. bind_law kept (attrs_at room) (λ attrs. paren_with inner Named wanted flag opening attrs room)
        any is_name_kind any (attrs_law kept room any is_name_kind ((λ kind h. refl), name_attribute))
        (λ attrs. named_paren_law opening attrs two) (inl (λ attrs s ts y e. paren_shrinks [] none_tokens n inner laws
        Named wanted flag opening attrs room s ts y e))) s ts (open_paren_end (kind_at ts) is)

    named_paren_shrinks : Shrinks (named_paren inner wanted flag room)
    unfolding named_paren
    named_paren_shrinks s ts x e =
        let r = fits_ok 2 room ts e in
        let a = bind_ok r.1 in
        let b = bind_ok a.2 in
        omega (
          arith,
          take_falls _ _ _ a.1,
          none_tokens.attrs_falls room _ _ _ b.1,
          paren_shrinks [] none_tokens n inner laws Named wanted flag a.0.tree b.0.tree room _ _ _ b.2,
        )

    -- Where none need come: parameters or a declarator, by the token behind the parenthesis and attributes.

    abbrev nothing_yet : Declared
    nothing_yet = record { declr = no_declr; closed = None }

    opened_good : (mode : Mode) (opening : ℕ) (attrs : List Attr) → 1 ≤ room → (are_none attrs ≡ true) ⊎ (1 ≤ room - 1)
        → (s : HeldScopes) (ts : List Lexeme) → Good kept (opened_by inner mode wanted flag opening attrs room) any s ts
    unfolding opened_by
    opened_good mode opening attrs one fit s ts =
        if_good kept (opens_params attrs) (prototype_with inner nothing_yet opening attrs room)
        (λ s ts. if opens_declr mode (kind_at ts) then paren_with inner mode wanted flag opening attrs room s ts
        else refuses Unexpected ts) any s ts
        (λ is. good_weaker kept (prototype_with inner nothing_yet opening attrs room) any s ts
        (prototype_good n inner places laws nothing_yet opening attrs room (room_less flag less) one fit s ts))
        (λ is. if_good kept (λ s. opens_declr mode) (paren_with inner mode wanted flag opening attrs room)
        (λ s ts. refuses Unexpected ts) any s ts
        (λ is. paren_good mode opening attrs one s ts)
        (λ is. refused_here kept (λ s ts. refuses Unexpected ts) any s ts Unexpected (λ k e. refl))
        (λ is. inl (λ x e. paren_shrinks [] none_tokens n inner laws mode wanted flag opening attrs room s ts x e))
        (λ is. inl (λ x e. absurd cc)))
        (λ is. inl (λ x e. prototype_shrinks [] none_tokens n inner laws nothing_yet opening attrs room s ts x e))
        (λ is. inl (λ x e. if_ok (opens_declr mode (kind_at ts)) e (λ is e. paren_shrinks
        [] none_tokens n inner laws mode wanted flag opening attrs room s ts x e) (λ is e. absurd cc)))
      where
        room_less : (flag : Bool) → number_of flag room < suc n → room < suc n
        room_less true h = omega (arith, h)
        room_less false h = h

    opened_shrinks : (mode : Mode) (opening : ℕ) (attrs : List Attr)
        → Shrinks (opened_by inner mode wanted flag opening attrs room)
    unfolding opened_by
    opened_shrinks mode opening attrs s ts x e =
        if_ok (opens_params attrs s (kind_at ts)) e
        (λ is e. prototype_shrinks [] none_tokens n inner laws nothing_yet opening attrs room s ts x e)
        (λ is e. if_ok (opens_declr mode (kind_at ts)) e
        (λ is e. paren_shrinks [] none_tokens n inner laws mode wanted flag opening attrs room s ts x e)
        (λ is e. absurd cc))

    opened_empty : (mode : Mode) (opening : ℕ) (s : HeldScopes) (k : List Lexeme) → is_close_paren (kind_at k) ≡ true
        → opened_by inner mode wanted flag opening [] room s k ≡ prototype_with inner nothing_yet opening [] room s k
    unfolding opened_by
    opened_empty mode opening s k h = rw h refl

    -- behind attributes: `* )`
    star_opened : (mode : Mode) (opening : ℕ) (attrs : List Attr) → may_be_absent mode ≡ true → 2 ≤ room
        → (s : HeldScopes) (at : ℕ) → Ready kept (opened_by inner mode wanted flag opening attrs room) is_star any s at
    unfolding opened_by paren_with
    star_opened mode opening attrs absent_is two s at =
        ready_as kept (paren_with inner mode wanted flag opening attrs room)
        (opened_by inner mode wanted flag opening attrs room) is_star any s at (λ k h. chosen k (kind_at k) refl h)
        (ready_behind kept (inner.declr mode wanted flag (room - 1))
        (paren_rest opening attrs) is_star is_close_paren any s at r
        (paren_rest_ready opening attrs r.tree.declr r.tree.closed it.0 it.1 r.scopes (at + length r.more)))
      where
        r : Ready kept (inner.declr mode wanted flag (room - 1)) is_star is_close_paren s at
        r = ready_weaker kept (inner.declr mode wanted flag (room - 1)) is_star is_close_paren s at
            (ready_before true (inner.declr mode wanted flag (room - 1)) is_star is_star stops_type is_close_paren s at
            paren_type (λ kind h. h)
            (places.declrs.starred mode wanted flag (room - 1) absent_is
            (number_lower flag room n less (omega (arith, two))) (omega (arith, two)) s at))

        closing : Lexeme
        closing = record { kind = kinds.Punct puncts.CloseParen; at = 0 }

        it : (d : Declr) × (r.tree.declr ≡ some_declr d)
        it = places.declrs.there mode wanted flag (room - 1) s (numbered_from at r.more ++ closing ∷ [])
            (found r.tree r.scopes (closing ∷ [])) (r.reads (closing ∷ []) refl)
            (put_before is_star at r.more closing refl (r.begins (closing ∷ []) refl))

        chosen : (k : List Lexeme) (kind : TokenKind) → kind_at k ≡ kind → is_star kind ≡ true
            → opened_by inner mode wanted flag opening attrs room s k
            ≡ paren_with inner mode wanted flag opening attrs room s k
        chosen k kind is h =
            else_is (opens_params attrs s (kind_at k)) _ (no_params (are_none attrs) k kind is h)
            (then_is (opens_declr mode (kind_at k)) _ (a_declr k kind is h) refl)
          where
            no_params : (b : Bool) (k : List Lexeme) (kind : TokenKind) → kind_at k ≡ kind → is_star kind ≡ true
                → ((b && is_close_paren (kind_at k)) || begins_specs s (kind_at k)) ≡ false
            no_params true k kind is h = rw (is, star_close kind h, star_specs s kind h) refl
            no_params false k kind is h = rw (is, star_specs s kind h) refl

            a_declr : (k : List Lexeme) (kind : TokenKind) → kind_at k ≡ kind → is_star kind ≡ true
                → opens_declr mode (kind_at k) ≡ true
            a_declr k kind is h = rw (is, h) refl

    -- the parenthesis, attributes, and what stands behind them
    abbrev opened_rest : Mode → ℕ → Reader Declared
    opened_rest mode opening = behind (attrs_at room) (λ attrs. opened_by inner mode wanted flag opening attrs room)

    opened_rest_law : (mode : Mode) → may_be_absent mode ≡ true → 1 ≤ room → (opening : ℕ)
        → Law kept (opened_rest mode opening) any any
    opened_rest_law mode absent_is one opening = record {
      good = λ s ts.
          bind_good kept (attrs_at room) (λ attrs. opened_by inner mode wanted flag opening attrs room) is_star any s ts
          (λ attrs scopes gives at.
          let h = gives.reads (record { kind = kinds.Punct puncts.Star; at = 0 } ∷ []) refl in
          star_opened mode opening attrs absent_is (attrs_taken room s h.0
          (found attrs scopes (record { kind = kinds.Punct puncts.Star; at = 0 } ∷ [])) h.1 h.2) scopes at)
          ((attrs_law kept room is_star is_star ((λ kind h. h), star_attribute)).good s ts)
          (λ x is. opened_good mode opening x.tree one (fits_lead x.tree (attrs_some room s ts x is)) x.scopes x.rest)
          (inl (λ x y is e. opened_shrinks mode opening x.tree x.scopes x.rest y e));
      ready = λ s at. record {
        more = kinds.Punct puncts.CloseParen ∷ [];
        tree = (empty_read n inner places laws nothing_yet opening room s at).0;
        scopes = s;
        keeps = kept_refl kept s;
        begins = λ k h. refl;
        reads = λ k h.
            bind_is (λ (x : Found (List Attr)). opened_by inner mode wanted flag opening x.tree room x.scopes x.rest)
            (attrs_none room s (record { kind = kinds.Punct puncts.CloseParen; at = at } ∷ k) refl)
            (opened_empty mode opening s (record { kind = kinds.Punct puncts.CloseParen; at = at } ∷ k) refl
            ∙ (empty_read n inner places laws nothing_yet opening room s at).1 k);
      };
    }
      where
        fits_lead : (attrs : List Attr) → (are_none attrs ≡ true) ⊎ (2 ≤ room)
            → (are_none attrs ≡ true) ⊎ (1 ≤ room - 1)
        fits_lead attrs (inl none) = inl none
        fits_lead attrs (inr two) = inr (omega (arith, two))

    opened_with_good : (mode : Mode) → may_be_absent mode ≡ true → (s : HeldScopes) (ts : List Lexeme)
        → is_open_paren (kind_at ts) ≡ true → Good kept (opened_with inner mode wanted flag room) any s ts
    unfolding opened_with
    opened_with_good mode absent_is s ts is =
        node_good kept 1 room (opened_rest mode) any (λ one opening. opened_rest_law mode absent_is one opening) s ts
        (open_paren_end (kind_at ts) is)

    opened_with_shrinks : (mode : Mode) → Shrinks (opened_with inner mode wanted flag room)
    unfolding opened_with
    opened_with_shrinks mode s ts x e =
        let r = fits_ok 1 room ts e in
        let a = bind_ok r.1 in
        let b = bind_ok a.2 in
        omega (
          arith,
          take_falls _ _ _ a.1,
          none_tokens.attrs_falls room _ _ _ b.1,
          opened_shrinks mode a.0.tree b.0.tree _ _ _ b.2,
        )

    some_paren_good : (mode : Mode) (s : HeldScopes) (ts : List Lexeme) → is_open_paren (kind_at ts) ≡ true
        → Good kept (some_paren inner mode wanted flag room) any s ts
    some_paren_good Named s ts is = named_paren_good s ts is
    some_paren_good Abstract s ts is = opened_with_good Abstract refl s ts is
    some_paren_good Either s ts is = opened_with_good Either refl s ts is

    some_paren_shrinks : (mode : Mode) → Shrinks (some_paren inner mode wanted flag room)
    some_paren_shrinks Named s ts x e = named_paren_shrinks s ts x e
    some_paren_shrinks Abstract s ts x e = opened_with_shrinks Abstract s ts x e
    some_paren_shrinks Either s ts x e = opened_with_shrinks Either s ts x e

    -- A name, or nothing.

    absent_is : (mode : Mode) → may_be_absent mode ≡ true → (s : HeldScopes) (k : List Lexeme)
        → absent mode s k ≡ ends nothing_yet s k
    absent_is Named h s k = absurd cc
    absent_is Abstract h s k = refl
    absent_is Either h s k = refl

    -- where no name need stand a base word is none
    no_base : (mode : Mode) → may_be_absent mode ≡ true → (s : HeldScopes) (kind : TokenKind)
        → names_base s mode wanted kind ≡ false
    no_base Named h s kind = absurd cc
    no_base Abstract h s kind = refl
    no_base Either h s kind = refl

    -- before what may follow an absent declarator there is none
    none_read : (mode : Mode) → may_be_absent mode ≡ true → (s : HeldScopes) (k : List Lexeme)
        → stops_type (kind_at k) ≡ true → core_with inner mode wanted flag room s k ≡ ends nothing_yet s k
    unfolding core_with
    none_read mode h s k stop =
        rw (type_open_paren (kind_at k) stop, no_base mode h s (kind_at k), type_name_none (kind_at k) stop)
        (absent_is mode h s k)

    named_good : (mode : Mode) (name : ℕ) (s : HeldScopes) (t : Lexeme) (ts : List Lexeme)
        → spelled_name t.kind ≡ Some name → takes_name mode ≡ true
        → Good kept (core_with inner mode wanted flag room) (stops_declr mode) s (t ∷ ts)
    unfolding core_with and_then
    named_good mode name s t ts is takes = by_held (at_name wanted name s) refl
      where
        plain : (kind : TokenKind) → spelled_name kind ≡ Some name → names_base s mode wanted kind ≡ false
        plain (kinds.Name other) e = name_no_base s mode wanted other
        plain kind e = absurd cc

        no_paren : (kind : TokenKind) → spelled_name kind ≡ Some name → is_open_paren kind ≡ false
        no_paren (kinds.Punct puncts.OpenParen) e = absurd cc
        no_paren kind e = refl

        kind_is : (u : Lexeme) (us : List Lexeme) → first_kind (u ∷ us) ≡ Some t.kind → u.kind ≡ t.kind
        kind_is u us e = cc

        to_name : (u : Lexeme) (us : List Lexeme) → first_kind (u ∷ us) ≡ Some t.kind
            → core_with inner mode wanted flag room s (u ∷ us) ≡ name_held name room (at_name wanted name s) s (u ∷ us)
        to_name u us e = rw (kind_is u us e, no_paren t.kind is, plain t.kind is, is, takes) refl

        refused : (f : FaultKind)
            → ((u : Lexeme) (us : List Lexeme)
            → name_held name room (at_name wanted name s) s (u ∷ us) ≡ refuses f (u ∷ us)) →
            Good kept (core_with inner mode wanted flag room) (stops_declr mode) s (t ∷ ts)
        refused f all = refused_here kept (core_with inner mode wanted flag room) (stops_declr mode) s (t ∷ ts) f each
          where
            each : (k : List Lexeme) → first_kind k ≡ Some t.kind
                → core_with inner mode wanted flag room s k ≡ refuses f k
            each [] e = absurd cc
            each (u ∷ us) e = to_name u us e ∙ all u us

        by_room : (held : HeldScopes) → at_name wanted name s ≡ Some held → (b : Bool) → nat_le 1 room ≡ b
            → Good kept (core_with inner mode wanted flag room) (stops_declr mode) s (t ∷ ts)
        by_room held at false none = refused TooDeep (λ u us. rw at (fits_not 1 room (u ∷ us) _ none))
        by_room held at true fit =
            one_good kept (core_with inner mode wanted flag room) (stops_declr mode) s held t ts
            (record { declr = some_declr (declr_name t.at name); closed = None })
            (λ k. to_name t k refl ∙ rw at (fits_is 1 room (t ∷ k) _ (leb-true 1 room fit))) (name_end t.kind name is)
            (at_name_kept wanted name s held at)

        by_held : (o : Option HeldScopes) → at_name wanted name s ≡ o
            → Good kept (core_with inner mode wanted flag room) (stops_declr mode) s (t ∷ ts)
        by_held None at = refused Redeclared (λ u us. rw at refl)
        by_held (Some held) at = by_room held at (nat_le 1 room) refl

    -- no name that may stand there
    unnamed_good : (mode : Mode) (s : HeldScopes) (ts : List Lexeme) → is_open_paren (kind_at ts) ≡ false →
        ((k : List Lexeme) → first_kind k ≡ first_kind ts → core_with inner mode wanted flag room s k ≡ absent mode s k)
        → Good kept (core_with inner mode wanted flag room) (stops_declr mode) s ts
    unnamed_good Named s ts off same =
        refused_here kept (core_with inner Named wanted flag room) stops_named s ts Unexpected (λ k e. same k e)
    unnamed_good Abstract s ts off same =
        none_good kept (core_with inner Abstract wanted flag room) stops_type s ts nothing_yet (λ k e. same k e)
        (λ k h. none_read Abstract refl s k h)
    unnamed_good Either s ts off same =
        none_good kept (core_with inner Either wanted flag room) stops_type s ts nothing_yet (λ k e. same k e)
        (λ k h. none_read Either refl s k h)

    -- a base word, which names a typedef
    base_good : (s : HeldScopes) (ts : List Lexeme) → is_end (kind_at ts) ≡ false → Good kept (base_named room) any s ts
    base_good s ts known =
        node_good kept 1 room (λ token. ends (record { declr = some_declr (base_name token); closed = None })) any
        (λ fit token. ends_law kept (record { declr = some_declr (base_name token); closed = None }) any any
        (λ kind h. h)) s ts known

    base_shrinks : Shrinks (base_named room)
    base_shrinks s ts x e =
        let a = bind_ok (fits_ok 1 room ts e).1 in
        omega (arith, take_falls _ _ _ a.1, left_is a.2)

    core_good : (mode : Mode) (s : HeldScopes) (ts : List Lexeme)
        → Good kept (core_with inner mode wanted flag room) (stops_declr mode) s ts
    unfolding core_with
    core_good mode s ts = by_paren (is_open_paren (kind_at ts)) refl
      where
        by_name : is_open_paren (kind_at ts) ≡ false → names_base s mode wanted (kind_at ts) ≡ false → (o : Option ℕ)
            → spelled_name (kind_at ts) ≡ o → Good kept (core_with inner mode wanted flag room) (stops_declr mode) s ts
        by_name off plain None is = unnamed_good mode s ts off (λ k e. rw (kind_same k ts e, off, plain, is) refl)
        by_name off plain (Some name) is = by_takes ts off plain is (takes_name mode) refl
          where
            by_takes : (ts : List Lexeme) → is_open_paren (kind_at ts) ≡ false
                → names_base s mode wanted (kind_at ts) ≡ false → spelled_name (kind_at ts) ≡ Some name → (b : Bool)
                → takes_name mode ≡ b →
                Good kept (core_with inner mode wanted flag room) (stops_declr mode) s ts
            by_takes [] off plain is b takes = absurd cc
            by_takes (t ∷ ts) off plain is true takes = named_good mode name s t ts is takes
            by_takes (t ∷ ts) off plain is false takes =
                unnamed_good mode s (t ∷ ts) off (λ k e. rw (kind_same k (t ∷ ts) e, off, plain, is, takes) refl)

        by_base : is_open_paren (kind_at ts) ≡ false → (b : Bool) → names_base s mode wanted (kind_at ts) ≡ b
            → Good kept (core_with inner mode wanted flag room) (stops_declr mode) s ts
        by_base off true is =
            good_as kept (base_named room) (core_with inner mode wanted flag room) (stops_declr mode) s ts
            (λ k e. rw (kind_same k ts e, off, is) refl) (inl (λ x e. base_shrinks s ts x e))
            (good_before kept (base_named room) any (stops_declr mode) s ts (λ kind h. refl)
            (base_good s ts (base_end s mode wanted (kind_at ts) is)))
        by_base off false plain = by_name off plain (spelled_name (kind_at ts)) refl

        by_paren : (b : Bool) → is_open_paren (kind_at ts) ≡ b
            → Good kept (core_with inner mode wanted flag room) (stops_declr mode) s ts
        by_paren true is =
            good_as kept (some_paren inner mode wanted flag room) (core_with inner mode wanted flag room)
            (stops_declr mode) s ts (λ k e. rw (kind_same k ts e, is) refl)
            (inl (λ x e. some_paren_shrinks mode s ts x e))
            (good_before kept (some_paren inner mode wanted flag room) any (stops_declr mode) s ts (λ kind h. refl)
            (some_paren_good mode s ts is))
        by_paren false off = by_base off (names_base s mode wanted (kind_at ts)) refl

    -- a fresh name
    core_ready : 1 ≤ room → (s : HeldScopes) (at : ℕ)
        → Ready kept (core_with inner Named wanted flag room) is_name_kind stops_named s at
    unfolding core_with and_then
    core_ready one s at =
        let held = fresh_at wanted s in
        record {
          more = kinds.Name (fresh s) ∷ [];
          tree = record { declr = some_declr (declr_name at (fresh s)); closed = None };
          scopes = held.0;
          keeps = at_name_kept wanted (fresh s) s held.0 held.1;
          begins = λ k h. refl;
          reads = λ k h. rw (name_no_base s Named wanted (fresh s), held.1)
              (fits_is 1 room (record { kind = kinds.Name (fresh s); at = at } ∷ k) _ one);
        }

    direct_good : (mode : Mode) (s : HeldScopes) (ts : List Lexeme)
        → Good kept (direct_with inner mode wanted flag room) (stops_declr mode) s ts
    unfolding direct_with
    direct_good mode s ts =
        behind_good kept (core_with inner mode wanted flag room) (λ core. run (suffix_turn inner flag room) core)
        (stops_declr mode) (stops_declr mode) s ts (core_good mode s ts)
        (λ core. let l = suffix_law flag room less mode core in record {
          good = λ s ts.
              good_weaker kept (run (suffix_turn inner flag room) core) (stops_declr mode) s ts (l.good s ts);
          ready = λ s at. ready_weaker kept (run (suffix_turn inner flag room) core) (stops_declr mode)
              (stops_declr mode) s at (l.ready s at);
        })
        (inr (λ kind h. h))

    -- A star, words, and a declarator.

    inner_law : (mode : Mode) → 1 ≤ room → least_pointer mode ≤ room
        → Law kept (inner.declr mode wanted flag (room - 1)) (front_of mode) (stops_declr mode)
    inner_law Named one fit = record {
      good = λ s ts. places.declrs.good Named wanted flag (room - 1) (number_lower flag room n less one) s ts;
      ready = λ s at.
          places.declrs.named wanted flag (room - 1) (number_lower flag room n less one) (omega (arith, fit)) s at;
    }
    inner_law Abstract one fit = record {
      good = λ s ts. places.declrs.good Abstract wanted flag (room - 1) (number_lower flag room n less one) s ts;
      ready = λ s at. ready_weaker kept (inner.declr Abstract wanted flag (room - 1)) stops_type stops_type s at
          (places.declrs.absent wanted flag (room - 1) (number_lower flag room n less one) s at);
    }
    inner_law Either one fit = record {
      good = λ s ts. places.declrs.good Either wanted flag (room - 1) (number_lower flag room n less one) s ts;
      ready = λ s at. ready_weaker kept (inner.declr Either wanted flag (room - 1)) stops_type stops_type s at
          (places.declrs.either wanted flag (room - 1) (number_lower flag room n less one) s at);
    }

    abbrev pointed : ℕ → List PointerWord → Declared → Declared
    pointed token words d = record { declr = some_declr (with_pointer token words d.declr); closed = d.closed }

    abbrev pointer_rest : Mode → ℕ → Reader Declared
    pointer_rest mode token =
        behind (pointer_words_at room)
        (λ words. behind (inner.declr mode wanted flag (room - 1)) (λ d. ends (pointed token words d)))

    pointer_passes : (mode : Mode) (token : ℕ)
        → ((words : List PointerWord) (s : HeldScopes) (ts : List Lexeme) (y : Found Declared)
        → behind (inner.declr mode wanted flag (room - 1)) (λ d. ends (pointed token words d)) s ts ≡ done y
        → length y.rest < length ts)
        ⊎ ((kind : TokenKind) → stops_declr mode kind ≡ true → front_of mode kind ≡ true)
    pointer_passes Named token =
        inl (λ words s ts y e. let a = bind_ok e in
        omega (arith, laws.declrs.shrinks wanted flag (room - 1) s ts a.0 a.1, left_is a.2))
    pointer_passes Abstract token = inr (λ kind h. h)
    pointer_passes Either token = inr (λ kind h. h)

    pub least_one : (mode : Mode) → 1 ≤ least_pointer mode
    least_one Named = omega arith
    least_one Abstract = omega arith
    least_one Either = omega arith

    pointer_rest_law : (mode : Mode) → least_pointer mode ≤ room → (token : ℕ)
        → Law kept (pointer_rest mode token) any (stops_declr mode)
    pointer_rest_law mode fit token =
        let least = least_one mode in
        bind_law kept (pointer_words_at room) (λ words. behind (inner.declr mode wanted flag (room - 1))
        (λ d. ends (pointed token words d))) any (front_of mode) (stops_declr mode)
        (pointer_words_law kept room any (front_of mode) ((λ kind h. refl), front_word mode))
        (λ words. mapped_law kept (inner.declr mode wanted flag (room - 1)) (pointed token words) (front_of mode)
        (stops_declr mode) (inner_law mode (omega (arith, fit, least)) fit)) (pointer_passes mode token)

    pointer_good : (mode : Mode) (s : HeldScopes) (ts : List Lexeme) → is_star (kind_at ts) ≡ true
        → Good kept (pointer_with inner mode wanted flag room) (stops_declr mode) s ts
    unfolding pointer_with
    pointer_good mode s ts is =
        node_good kept (least_pointer mode) room (pointer_rest mode) (stops_declr mode) (pointer_rest_law mode) s ts
        (star_end (kind_at ts) is)

    pointer_shrinks : (mode : Mode) → Shrinks (pointer_with inner mode wanted flag room)
    unfolding pointer_with
    pointer_shrinks mode s ts x e =
        let r = fits_ok (least_pointer mode) room ts e in
        let a = bind_ok r.1 in
        let b = bind_ok a.2 in
        let c = bind_ok b.2 in
        omega (
          arith,
          take_falls _ _ _ a.1,
          none_tokens.pointer_words_falls room _ _ _ b.1,
          laws.declrs.falls _ _ _ _ _ _ _ c.1,
          left_is c.2,
        )

    pub declr_good : (mode : Mode) (s : HeldScopes) (ts : List Lexeme)
        → Good kept (declr_with inner mode wanted flag room) (stops_declr mode) s ts
    unfolding declr_with
    declr_good mode s ts =
        if_good kept (λ s. is_star) (pointer_with inner mode wanted flag room) (direct_with inner mode wanted flag room)
        (stops_declr mode) s ts (λ is. pointer_good mode s ts is) (λ is. direct_good mode s ts)
        (λ is. inl (λ x e. pointer_shrinks mode s ts x e)) (λ is. inr (declr_star mode))

    -- From nothing.

    suffix_read : (mode : Mode) (d : Declared) (s : HeldScopes) (at : ℕ)
        → Ready kept (run (suffix_turn inner flag room) d) (stops_declr mode) (stops_declr mode) s at
    suffix_read mode d s at =
        ready_weaker kept (run (suffix_turn inner flag room) d) (stops_declr mode) (stops_declr mode) s at
        ((suffix_law flag room less mode d).ready s at)

    pub declr_named : 1 ≤ room → (s : HeldScopes) (at : ℕ)
        → Ready kept (declr_with inner Named wanted flag room) is_name_kind stops_named s at
    unfolding declr_with direct_with
    declr_named one s at =
        ready_as kept (behind (core_with inner Named wanted flag room) (λ core. run (suffix_turn inner flag room) core))
        (declr_with inner Named wanted flag room) is_name_kind stops_named s at
        (λ k h. rw (name_star (kind_at k) h) refl)
        (ready_bind kept (core_with inner Named wanted flag room)
        (λ core. run (suffix_turn inner flag room) core) is_name_kind stops_named stops_named s at (core_ready one s at)
        (λ core scopes gives at. suffix_read Named core scopes at))

    -- nothing at all
    absent_core : (mode : Mode) → may_be_absent mode ≡ true → (s : HeldScopes) (at : ℕ)
        → Ready true (core_with inner mode wanted flag room) stops_type stops_type s at
    absent_core mode h s at = record {
      more = [];
      tree = nothing_yet;
      scopes = s;
      keeps = kept_refl true s;
      begins = λ k stop. stop;
      reads = λ k stop. none_read mode h s k stop;
    }

    pub declr_absent : (mode : Mode) → may_be_absent mode ≡ true → (s : HeldScopes) (at : ℕ)
        → Ready true (declr_with inner mode wanted flag room) stops_type stops_type s at
    unfolding declr_with direct_with
    declr_absent mode h s at =
        ready_as true (behind (core_with inner mode wanted flag room) (λ core. run (suffix_turn inner flag room) core))
        (declr_with inner mode wanted flag room) stops_type stops_type s at
        (λ k stop. rw (declr_star Abstract (kind_at k) stop) refl)
        (ready_bind true (core_with inner mode wanted flag room)
        (λ core. run (suffix_turn inner flag room) core) stops_type stops_type stops_type s at (absent_core mode h s at)
        (λ core scopes gives at. (suffix_law flag room less Abstract core).ready scopes at))

    -- a star
    starred_rest : (mode : Mode) → may_be_absent mode ≡ true → 1 ≤ room → (token : ℕ) (s : HeldScopes) (at : ℕ)
        → Ready true (pointer_rest mode token) any stops_type s at
    starred_rest mode h one token s at =
        ready_bind true (pointer_words_at room) (λ words. behind (inner.declr mode wanted flag (room - 1))
        (λ d. ends (pointed token words d))) any stops_type stops_type s at
        ((pointer_words_law true room any stops_type ((λ kind h. refl), type_word)).ready s at)
        (λ words scopes gives at. mapped_ready true (inner.declr mode wanted flag (room - 1))
        (pointed token words) stops_type stops_type scopes at (inner_none mode h scopes at))
      where
        inner_none : (mode : Mode) → may_be_absent mode ≡ true → (s : HeldScopes) (at : ℕ)
            → Ready true (inner.declr mode wanted flag (room - 1)) stops_type stops_type s at
        inner_none Named h s at = absurd cc
        inner_none Abstract h s at =
            places.declrs.absent wanted flag (room - 1) (number_lower flag room n less one) s at
        inner_none Either h s at = places.declrs.either wanted flag (room - 1) (number_lower flag room n less one) s at

    least_absent : (mode : Mode) → may_be_absent mode ≡ true → 1 ≤ room → least_pointer mode ≤ room
    least_absent Named h one = absurd cc
    least_absent Abstract h one = one
    least_absent Either h one = one

    pub declr_starred : (mode : Mode) → may_be_absent mode ≡ true → 1 ≤ room → (s : HeldScopes) (at : ℕ)
        → Ready true (declr_with inner mode wanted flag room) is_star stops_type s at
    unfolding declr_with pointer_with
    declr_starred mode h one s at =
        ready_as true (λ s ts. fits (least_pointer mode) room ts (behind take_one (pointer_rest mode) s ts))
        (declr_with inner mode wanted flag room) is_star stops_type s at (λ k is. rw is refl)
        (ready_fits true (least_pointer mode) room (behind take_one (pointer_rest mode)) is_star stops_type s at
        (least_absent mode h one)
        (ready_bind true take_one (pointer_rest mode) is_star any stops_type s at
        (ready_take true (kinds.Punct puncts.Star) is_star any s at refl)
        (λ token scopes gives at. starred_rest mode h one token scopes at)))
