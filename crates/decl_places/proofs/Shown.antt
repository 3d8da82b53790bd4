-- What the readers of declarators and of names of types owe.
use Rattle.std.proofs.Common.{◌≡◌, ℕ, suc, ◌<◌, ◌≤◌, Bool, true, false, if◌then◌else◌, List, [], length, ◌⊎◌, inl, inr, Option, Some, None, refl, ◌∙◌, ap, subst, arith}
use Rattle.std.specs.Prelude.{◌-◌, ◌&&◌, ◌||◌}
use Rattle.qual_base.proofs.Tests.{some_is}
use Rattle.c_words.specs.declared.kinds.TokenKind.{TokenKind}
use Rattle.c_words.specs.declared.kinds.TokenKind.TheVariants as kinds
use Rattle.c_words.specs.declared.kinds.Punct.TheVariants as puncts
use Rattle.c_tree.specs.declared.lexeme.Lexeme.{Lexeme}
use Rattle.c_syntax.specs.declared.parts.Attr.{Attr}
use Rattle.c_tree.specs.Tree.{SpecWords, no_words, Declr, SomeDeclr, no_declr, some_declr}
use Rattle.c_tree.specs.Height.{some_declr_height}
use Rattle.typedef_scope.specs.declared.kind.Kind.{Kind}
use Rattle.c_units.specs.HeldScopes.{HeldScopes}
use Rattle.c_units.specs.Scoping.{at_name}
use Rattle.c_reading.specs.declared.kinds.Role.TheVariants.{Naming}
use Rattle.c_reading.specs.declared.kinds.Mode.{Mode}
use Rattle.c_reading.specs.declared.kinds.Mode.TheVariants.{Named, Abstract, Either}
use Rattle.c_reading.specs.Reading.{Found, ends, fits, kind_at}
use Rattle.c_reading.specs.Tokens.{is_open_paren, is_open_bracket, is_star, spelled_name}
use Rattle.c_reading.specs.Parts.{Inner, Declared, TypeName}
use Rattle.c_reading.specs.Declaring.{is_bare, begins_identifiers, identifiers_of, identifiers_with, list_behind, names_base, base_named, least_pointer, takes_name, room_at, opens_params, opens_declr, absent, name_held, array_with, prototype_with, params_behind, suffix_turn, paren_with, named_paren, opened_by, opened_with, some_paren, name_or_none, core_with, direct_with, pointer_with, declr_with, type_name_with}
use Rattle.c_reading.proofs.Binding.{done, ok_is, bind_ok, fits_ok, if_ok}
use Rattle.c_reading.proofs.Loops.{run-keep}
use Rattle.c_reading.proofs.Aims.{Laws}
use Rattle.reading_steps.specs.Steps.{Law}
use Rattle.reading_steps.specs.Stops.{is_int, stops_type, stops_specs}
use Rattle.reading_steps.specs.InnerLaws.{InnerLaws, DeclrPlaces, TypeNamePlaces}
use Rattle.reading_steps.proofs.Steps.{behind, ready_bind, ready_before}
use Rattle.token_places.proofs.Single.{mapped_law}
use Rattle.decl_places.proofs.Helping.{behind_good}
use Rattle.decl_places.proofs.Declr.{declr_good, declr_named, declr_absent, declr_starred}

-- what stops the name of a type stops specifiers
type_specs : (kind : TokenKind) → stops_type kind ≡ true → stops_specs kind ≡ true
type_specs (kinds.Punct puncts.CloseParen) h = refl
type_specs (kinds.Punct puncts.Comma) h = refl
type_specs (kinds.Punct puncts.Colon) h = refl
type_specs kind h = absurd cc

abbrev There : SomeDeclr → Type 0
There d = (it : Declr) × (d ≡ some_declr it)

abbrev nothing_yet : Declared
nothing_yet = record { declr = no_declr; closed = None }

module _ (n : ℕ) (inner : Inner) (places : InnerLaws n inner) (laws : Laws [] n inner) where
  -- what is made of brackets and parentheses is a declarator

  array_there : (d : Declared) (room : ℕ) (s : HeldScopes) (ts : List Lexeme) (x : Found Declared)
      → array_with inner d room s ts ≡ done x → There x.tree.declr
  unfolding array_with
  array_there d room s ts x e =
      let a = bind_ok e in
      let b = bind_ok a.2 in
      let c = bind_ok b.2 in
      let f = bind_ok c.2 in
      subst (λ (x : Found Declared). There x.tree.declr) (ok_is f.2) (_, refl)

  prototype_there : (d : Declared) (opening : ℕ) (lead : List Attr) (room : ℕ) (s : HeldScopes) (ts : List Lexeme)
      (x : Found Declared)
      → prototype_with inner d opening lead room s ts ≡ done x → There x.tree.declr
  unfolding prototype_with
  prototype_there d opening lead room s ts x e =
      let a = bind_ok e in
      let b = bind_ok a.2 in
      subst (λ (x : Found Declared). There x.tree.declr) (ok_is b.2) (_, refl)

  identifiers_there : (inside : Declr) (opening : ℕ) (s : HeldScopes) (ts : List Lexeme) (x : Found Declared)
      → identifiers_with inner inside opening s ts ≡ done x → There x.tree.declr
  unfolding identifiers_with
  identifiers_there inside opening s ts x e =
      let a = bind_ok e in
      let b = bind_ok a.2 in
      subst (λ (x : Found Declared). There x.tree.declr) (ok_is b.2) (_, refl)

  list_there : (b : Bool) (d : Declared) (opening room : ℕ) (s : HeldScopes) (ts : List Lexeme) (x : Found Declared)
      → list_behind inner b d opening room s ts ≡ done x → There x.tree.declr
  list_there false d opening room s ts x e = prototype_there d opening [] room s ts x e
  list_there true d opening room s ts x e = by_declr d.declr e
    where
      by_declr : (inside : SomeDeclr)
          → identifiers_of inside (λ inside. identifiers_with inner inside opening s ts)
          (prototype_with inner d opening [] room s ts) ≡ done x
          → There x.tree.declr
      by_declr no_declr e = prototype_there d opening [] room s ts x e
      by_declr (some_declr inside) e = identifiers_there inside opening s ts x e

  paren_there : (mode : Mode) (wanted : Option Kind) (flag : Bool) (opening : ℕ) (attrs : List Attr) (room : ℕ)
      (s : HeldScopes) (ts : List Lexeme) (x : Found Declared) →
      paren_with inner mode wanted flag opening attrs room s ts ≡ done x → There x.tree.declr
  unfolding paren_with
  paren_there mode wanted flag opening attrs room s ts x e =
      let a = bind_ok e in
      let b = bind_ok a.2 in
      let c = bind_ok b.2 in
      subst (λ (x : Found Declared). There x.tree.declr) (ok_is c.2) (_, refl)

  -- nothing was taken, or there is a declarator, and room for one level
  abbrev Read : ℕ → List Lexeme → Declared → List Lexeme → Type 0
  Read room ts d k = ((length k ≡ length ts) × (d ≡ nothing_yet)) ⊎ ((1 ≤ room) × There d.declr)

  opened_there : (mode : Mode) (wanted : Option Kind) (flag : Bool) (opening : ℕ) (attrs : List Attr) (room : ℕ)
      (s : HeldScopes) (ts : List Lexeme) (x : Found Declared) →
      opened_by inner mode wanted flag opening attrs room s ts ≡ done x → There x.tree.declr
  unfolding opened_by
  opened_there mode wanted flag opening attrs room s ts x e =
      if_ok (opens_params attrs s (kind_at ts)) e
      (λ is e. prototype_there nothing_yet opening attrs room s ts x e)
      (λ is e. if_ok (opens_declr mode (kind_at ts)) e
      (λ is e. paren_there mode wanted flag opening attrs room s ts x e)
      (λ is e. absurd cc))

  paren_read : (mode : Mode) (wanted : Option Kind) (flag : Bool) (room : ℕ) (s : HeldScopes) (ts : List Lexeme)
      (x : Found Declared)
      → some_paren inner mode wanted flag room s ts ≡ done x → (1 ≤ room) × There x.tree.declr
  unfolding named_paren opened_with
  paren_read Named wanted flag room s ts x e =
      let r = fits_ok 2 room ts e in
      let a = bind_ok r.1 in
      let b = bind_ok a.2 in
      (omega (arith, r.0), paren_there Named wanted flag a.0.tree b.0.tree room b.0.scopes b.0.rest x b.2)
  paren_read Abstract wanted flag room s ts x e =
      let r = fits_ok 1 room ts e in
      let a = bind_ok r.1 in
      let b = bind_ok a.2 in
      (r.0, opened_there Abstract wanted flag a.0.tree b.0.tree room b.0.scopes b.0.rest x b.2)
  paren_read Either wanted flag room s ts x e =
      let r = fits_ok 1 room ts e in
      let a = bind_ok r.1 in
      let b = bind_ok a.2 in
      (r.0, opened_there Either wanted flag a.0.tree b.0.tree room b.0.scopes b.0.rest x b.2)

  absent_read : (mode : Mode) (room : ℕ) (s : HeldScopes) (ts : List Lexeme) (x : Found Declared)
      → absent mode s ts ≡ done x → Read room ts x.tree x.rest
  absent_read Named room s ts x e = absurd cc
  absent_read Abstract room s ts x e =
      subst (λ (x : Found Declared). Read room ts x.tree x.rest) (ok_is e) (inl (refl, refl))
  absent_read Either room s ts x e =
      subst (λ (x : Found Declared). Read room ts x.tree x.rest) (ok_is e) (inl (refl, refl))

  held_read : (name room : ℕ) (held : Option HeldScopes) (s : HeldScopes) (ts : List Lexeme) (x : Found Declared)
      → name_held name room held s ts ≡ done x → Read room ts x.tree x.rest
  held_read name room None s ts x e = absurd cc
  held_read name room (Some held) s ts x e =
      let r = fits_ok 1 room ts e in
      let a = bind_ok r.1 in
      inr (r.0, subst (λ (x : Found Declared). There x.tree.declr) (ok_is a.2) (_, refl))

  name_read : (mode : Mode) (wanted : Option Kind) (o : Option ℕ) (room : ℕ) (s : HeldScopes) (ts : List Lexeme)
      (x : Found Declared)
      → name_or_none inner mode wanted o room s ts ≡ done x → Read room ts x.tree x.rest
  name_read mode wanted None room s ts x e = absent_read mode room s ts x e
  name_read mode wanted (Some name) room s ts x e =
      if_ok (takes_name mode) e (λ is e. held_read name room (at_name wanted name s) s ts x e)
      (λ is e. absent_read mode room s ts x e)

  base_read : (room : ℕ) (s : HeldScopes) (ts : List Lexeme) (x : Found Declared) → base_named room s ts ≡ done x
      → Read room ts x.tree x.rest
  base_read room s ts x e =
      let r = fits_ok 1 room ts e in
      let a = bind_ok r.1 in
      inr (r.0, subst (λ (x : Found Declared). There x.tree.declr) (ok_is a.2) (_, refl))

  core_read : (mode : Mode) (wanted : Option Kind) (flag : Bool) (room : ℕ) (s : HeldScopes) (ts : List Lexeme)
      (x : Found Declared)
      → core_with inner mode wanted flag room s ts ≡ done x → Read room ts x.tree x.rest
  unfolding core_with
  core_read mode wanted flag room s ts x e =
      if_ok (is_open_paren (kind_at ts)) e (λ is e. inr (paren_read mode wanted flag room s ts x e)) (λ is e.
      if_ok (names_base s mode wanted (kind_at ts)) e (λ base e. base_read room s ts x e)
      (λ plain e. name_read mode wanted (spelled_name (kind_at ts)) room s ts x e))

  room_behind : (flag : Bool) (room : ℕ) (d : Declared) (kind : TokenKind) → d ≡ nothing_yet
      → room_at flag room d kind ≡ room
  room_behind flag room d kind e = ap (λ (d : Declared). room_at flag room d kind) e ∙ by_flag flag (is_open_paren kind)
    where
      by_flag : (flag paren : Bool) → (if flag && (false || (paren && false)) then suc room else room) ≡ room
      by_flag true true = refl
      by_flag true false = refl
      by_flag false paren = refl

  suffix_keeps : (flag : Bool) (room : ℕ) (ts : List Lexeme) (d : Declared) (s : HeldScopes) (k : List Lexeme)
      (x : Found Declared)
      → Read room ts d k → suffix_turn inner flag room d s k ≡ Some (done x) → Read room ts x.tree x.rest
  suffix_keeps flag room ts d s k x h e = inr (by_bracket (is_open_bracket (kind_at k)) e)
    where
      one : (least : ℕ) → suc least ≤ room_at flag room d (kind_at k) → 1 ≤ room
      one least fit = by_read h
        where
          by_read : Read room ts d k → 1 ≤ room
          by_read (inl none) = let same = room_behind flag room d (kind_at k) none.1 in omega (arith, fit, same)
          by_read (inr some) = some.0

      by_paren : (b : Bool)
          → (if b then Some (fits (suc (some_declr_height d.declr)) (room_at flag room d (kind_at k)) k
          (params_behind inner flag d (room_at flag room d (kind_at k)) s k)) else None) ≡ Some (done x)
          → (1 ≤ room) × There x.tree.declr
      by_paren false e = absurd cc
      by_paren true e =
          let r = fits_ok (suc (some_declr_height d.declr)) (room_at flag room d (kind_at k)) k (some_is e) in
          let a = bind_ok r.1 in (
            one (some_declr_height d.declr) r.0,
            list_there (flag && is_bare d.declr && begins_identifiers a.0.scopes (kind_at a.0.rest)) d a.0.tree
                (room_at flag room d (kind_at k)) a.0.scopes a.0.rest x a.2,
          )

      by_bracket : (b : Bool)
          → (if b then Some (fits (suc (some_declr_height d.declr)) (room_at flag room d (kind_at k)) k
          (array_with inner d (room_at flag room d (kind_at k)) s k))
          else if is_open_paren (kind_at k) then Some (fits (suc (some_declr_height d.declr))
          (room_at flag room d (kind_at k)) k (params_behind inner flag d (room_at flag room d (kind_at k)) s k))
          else None) ≡ Some (done x) →
          (1 ≤ room) × There x.tree.declr
      by_bracket true e =
          let r = fits_ok (suc (some_declr_height d.declr)) (room_at flag room d (kind_at k)) k (some_is e) in
          (one (some_declr_height d.declr) r.0, array_there d (room_at flag room d (kind_at k)) s k x r.1)
      by_bracket false e = by_paren (is_open_paren (kind_at k)) e

  least_high : (mode : Mode) → 1 ≤ least_pointer mode
  least_high Named = omega arith
  least_high Abstract = omega arith
  least_high Either = omega arith

  declr_read : (mode : Mode) (wanted : Option Kind) (flag : Bool) (room : ℕ) (s : HeldScopes) (ts : List Lexeme)
      (x : Found Declared)
      → declr_with inner mode wanted flag room s ts ≡ done x → Read room ts x.tree x.rest
  unfolding declr_with direct_with pointer_with
  declr_read mode wanted flag room s ts x e =
      if_ok (is_star (kind_at ts)) e
      (λ is e. let r = fits_ok (least_pointer mode) room ts e in
      let a = bind_ok r.1 in
      let b = bind_ok a.2 in
      let c = bind_ok b.2 in
      inr
      (omega (arith, r.0, least_high mode), subst (λ (x : Found Declared). There x.tree.declr) (ok_is c.2) (_, refl)))
      (λ is e. let a = bind_ok e in
      run-keep (suffix_turn inner flag room) (λ d s k. Read room ts d k)
      (λ d s k x h e. suffix_keeps flag room ts d s k x h e) a.0.tree a.0.scopes a.0.rest x
      (core_read mode wanted flag room s ts a.0 a.1) a.2)

  declr_taken : (mode : Mode) (wanted : Option Kind) (flag : Bool) (room : ℕ) (s : HeldScopes) (ts : List Lexeme)
      (x : Found Declared)
      → declr_with inner mode wanted flag room s ts ≡ done x → length x.rest < length ts →
      (1 ≤ room) × There x.tree.declr
  declr_taken mode wanted flag room s ts x e less = by_read (declr_read mode wanted flag room s ts x e)
    where
      by_read : Read room ts x.tree x.rest → (1 ≤ room) × There x.tree.declr
      by_read (inl none) = let same = none.0 in absurd (omega (arith, same, less))
      by_read (inr some) = some

  pub declr_places : DeclrPlaces (suc n) (declr_with inner)
  declr_places = record {
    good = λ mode wanted flag room less s ts. declr_good n inner places laws wanted flag room less mode s ts;
    named = λ wanted flag room less one s at. declr_named n inner places laws wanted flag room less one s at;
    absent = λ wanted flag room less s at. declr_absent n inner places laws wanted flag room less Abstract refl s at;
    either = λ wanted flag room less s at. declr_absent n inner places laws wanted flag room less Either refl s at;
    starred = λ mode wanted flag room absent_is less one s at.
        declr_starred n inner places laws wanted flag room less mode absent_is one s at;
    there = λ mode wanted flag room s ts x e less. (declr_taken mode wanted flag room s ts x e less).1;
    room = λ mode wanted flag room s ts x e less. (declr_taken mode wanted flag room s ts x e less).0;
  }

  -- Names of types.

  abbrev named_of : SpecWords → Declared → TypeName
  named_of words d = record { words = words; declr = d.declr }

  absent_law : (room : ℕ) → room < suc n → 1 ≤ room → (words : SpecWords)
      → Law true
      (behind (inner.declr Abstract None false (room - 1)) (λ d. ends (named_of words d))) stops_specs stops_type
  absent_law room less one words =
      mapped_law true (inner.declr Abstract None false (room - 1)) (named_of words) stops_specs stops_type
      (record {
        good = λ s ts. places.declrs.good Abstract None false (room - 1) (omega (arith, less, one)) s ts;
        ready = λ s at.
            ready_before true (inner.declr Abstract None false (room - 1)) stops_type stops_specs stops_type stops_type
            s at (λ kind h. h) type_specs (places.declrs.absent None false (room - 1) (omega (arith, less, one)) s at);
      })

  pub type_name_places : TypeNamePlaces (suc n) (type_name_with inner)
  unfolding type_name_with
  type_name_places = record {
    good = λ room less one s ts.
        behind_good true (inner.specs Naming no_words (room - 1)) (λ words. behind
        (inner.declr Abstract None false (room - 1)) (λ d. ends (named_of words d))) stops_specs stops_type s ts
        (places.words.good Naming no_words (room - 1) (omega (arith, less, one)) s ts) (absent_law room less one)
        (inr type_specs);
    ready = λ room less two s at.
        ready_bind true (inner.specs Naming no_words (room - 1)) (λ words. behind
        (inner.declr Abstract None false (room - 1)) (λ d. ends (named_of words d))) is_int stops_specs stops_type s at
        (places.words.begins Naming (room - 1) (omega (arith, less, two)) (omega (arith, two)) s at)
        (λ words scopes gives at. (absent_law room less (omega (arith, two)) words).ready scopes at);
  }
