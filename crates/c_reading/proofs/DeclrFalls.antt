-- The readers of declarators take tokens.
use Rattle.std.proofs.Common.{◌≡◌, ℕ, suc, ◌<◌, ◌≤◌, Bool, true, false, List, [], ◌∷◌, length, Option, Some, None, ap, arith}
use Rattle.std.specs.Prelude.{◌-◌, ◌&&◌, if◌then◌else◌}
use Rattle.c_tree.specs.declared.lexeme.Lexeme.{Lexeme}
use Rattle.c_syntax.specs.declared.parts.Attr.{Attr}
use Rattle.c_tree.specs.Tree.{SpecWords, no_words, more_words, Declr, SomeDeclr, no_declr, some_declr}
use Rattle.c_tree.specs.Height.{some_declr_height}
use Rattle.typedef_scope.specs.declared.kind.Kind.{Kind}
use Rattle.c_units.specs.HeldScopes.{HeldScopes}
use Rattle.c_units.specs.Scoping.{at_name}
use Rattle.c_reading.specs.declared.kinds.Role.TheVariants.{Typed}
use Rattle.c_reading.specs.declared.kinds.Mode.{Mode}
use Rattle.c_reading.specs.declared.kinds.Mode.TheVariants.{Named, Abstract, Either}
use Rattle.c_reading.specs.Reading.{Found, Reader, fits, kind_at, run, listed, comma_turn, Next}
use Rattle.c_reading.specs.Tokens.{is_open_paren, is_close_paren, is_open_bracket, is_close_bracket, is_star, is_dots, spelled_name}
use Rattle.c_reading.specs.Parts.{Inner, Declared}
use Rattle.c_reading.specs.Declaring.{takes_name, star_size, size_with, array_with, param_words, param_attrs, takes_attrs, param_with, next_param, params_with, are_none, prototype_with, is_identifier, begins_identifiers, identifier_at, next_name, names_list, identifiers_of, identifiers_with, list_behind, is_bare, names_base, base_named, params_behind, room_at, suffix_turn, paren_with, named_paren, opens_params, opens_declr, opened_by, opened_with, some_paren, absent, name_held, name_or_none, core_with, direct_with, pointer_with, declr_with, type_name_with, words_of_quals, words_of_attrs}
use Rattle.c_reading.proofs.Binding.{done, ok_is, bind_ok, fits_ok, if_ok, take_falls, token_falls}
use Rattle.c_reading.proofs.Loops.{TurnShrinks, run-keep}
use Rattle.c_reading.proofs.Forms.{Falls, Shrinks, name_falls}
use Rattle.c_reading.proofs.Commas.{comma_turn_shrinks, listed_shrinks}
use Rattle.c_reading.proofs.Shared.{present_ok, specs_here_shrinks}
use Rattle.c_reading.proofs.Aims.{Laws, TokenLaws}

pub identifier_shrinks : Shrinks identifier_at
identifier_shrinks s ts x e =
    if_ok (is_identifier s (spelled_name (kind_at ts))) e (λ is e. omega (arith, name_falls s ts x e))
    (λ is e. absurd cc)

module _ (all : List Lexeme) (tokens : TokenLaws all) (n : ℕ) (inner : Inner) (laws : Laws all n inner) where
  end_is : {A : Type 0} {x y : Found A} → done x ≡ done y → length x.rest ≡ length y.rest
  end_is {A} e = ap (λ (x : Found A). length x.rest) (ok_is e)

  star_size_shrinks : (room : ℕ) → Shrinks (star_size inner room)
  unfolding star_size
  star_size_shrinks room s ts x e =
      let a = bind_ok e in
      if_ok (is_close_bracket (kind_at a.0.rest)) a.2
      (λ is e. omega (arith, take_falls _ _ _ a.1, end_is e))
      (λ is e. let b = bind_ok e in
      omega (arith, take_falls _ _ _ a.1, laws.exprs.shrinks _ _ _ _ _ _ b.1, end_is b.2))

  size_falls : (room : ℕ) → Falls (size_with inner room)
  unfolding size_with
  size_falls room s ts x e =
      if_ok (is_close_bracket (kind_at ts)) e
      (λ is e. omega (arith, end_is e))
      (λ is e. if_ok (is_star (kind_at ts)) e
      (λ is e. omega (arith, star_size_shrinks room s ts x e))
      (λ is e. let b = bind_ok e in
      omega (arith, laws.exprs.shrinks _ _ _ _ _ _ b.1, end_is b.2)))

  pub array_shrinks : (d : Declared) (room : ℕ) → Shrinks (array_with inner d room)
  unfolding array_with
  array_shrinks d room s ts x e =
      let a = bind_ok e in
      let b = bind_ok a.2 in
      let c = bind_ok b.2 in
      let f = bind_ok c.2 in
      omega (
        arith,
        take_falls _ _ _ a.1,
        tokens.array_words_falls _ _ _ b.1,
        size_falls room _ _ _ c.1,
        token_falls is_close_bracket _ _ _ f.1,
        end_is f.2,
      )

  param_attrs_falls : (d : SomeDeclr) (room : ℕ) → Falls (param_attrs inner d room)
  param_attrs_falls d room s ts x e =
      if_ok (takes_attrs d) e (λ is e. tokens.attrs_falls room s ts x e) (λ is e. omega (arith, end_is e))

  param_words_falls : (known : SpecWords) (room : ℕ) → Falls (param_words inner known room)
  param_words_falls no_words room s ts x e = omega (arith, specs_here_shrinks all n inner laws Typed room s ts x e)
  param_words_falls (more_words w ws) room s ts x e = laws.words.falls Typed (more_words w ws) (room - 1) s ts x e

  pub param_falls : (known : SpecWords) (room : ℕ) → Falls (param_with inner known room)
  unfolding param_with
  param_falls known room s ts x e =
      let a = bind_ok e in
      let b = bind_ok a.2 in
      let c = bind_ok b.2 in
      omega (
        arith,
        param_words_falls known room _ _ _ a.1,
        laws.declrs.falls _ _ _ _ _ _ _ b.1,
        param_attrs_falls b.0.tree.declr room _ _ _ c.1,
        end_is c.2,
      )

  pub param_shrinks : (room : ℕ) → Shrinks (param_with inner no_words room)
  unfolding param_with
  param_shrinks room s ts x e =
      let a = bind_ok e in
      let b = bind_ok a.2 in
      let c = bind_ok b.2 in
      omega (
        arith,
        specs_here_shrinks all n inner laws Typed room _ _ _ a.1,
        laws.declrs.falls _ _ _ _ _ _ _ b.1,
        param_attrs_falls b.0.tree.declr room _ _ _ c.1,
        end_is c.2,
      )

  pub next_param_falls : (room comma : ℕ) → Falls (next_param inner room comma)
  unfolding next_param
  next_param_falls room comma s ts x e =
      let a = bind_ok e in
      if_ok (is_dots (kind_at a.0.rest)) a.2
      (λ is e. let b = bind_ok e in omega (arith, tokens.quals_falls _ _ _ a.1, take_falls _ _ _ b.1, end_is b.2))
      (λ is e. let b = bind_ok e in
      omega (arith, tokens.quals_falls _ _ _ a.1, param_falls (words_of_quals a.0.tree) room _ _ _ b.1, end_is b.2))

  listed_falls : {T E : Type 0} (first : Reader T) (next : ℕ → Reader (Next T E)) → Falls first
      → ((comma : ℕ) → Falls (next comma)) → Falls (listed first next)
  unfolding listed
  listed_falls {T} {E} first next first_falls next_falls s ts x e =
      let a = bind_ok e in
      let less : length a.0.rest ≤ length ts = first_falls s ts a.0 a.1 in
      run-keep (comma_turn next) (λ l s k. length k ≤ length ts)
      (λ l s k x h e.
      let less : length x.rest < length k = comma_turn_shrinks first next next_falls l s k x e in omega arith)
      (record { items = a.0.tree ∷ []; ending = None }) a.0.scopes a.0.rest x less a.2

  pub params_falls : (lead : List Attr) (room : ℕ) → Falls (params_with inner lead room)
  unfolding params_with
  params_falls lead room s ts x e =
      if_ok (are_none lead && is_close_paren (kind_at ts)) e
      (λ is e. omega (arith, end_is e))
      (λ is e. listed_falls (param_with inner (words_of_attrs lead) room) (next_param inner room)
      (param_falls (words_of_attrs lead) room) (next_param_falls room) s ts x e)

  pub prototype_shrinks : (d : Declared) (opening : ℕ) (lead : List Attr) (room : ℕ)
      → Shrinks (prototype_with inner d opening lead room)
  unfolding prototype_with
  prototype_shrinks d opening lead room s ts x e =
      let a = bind_ok e in
      let b = bind_ok a.2 in
      omega (arith, params_falls lead (room - 1) _ _ _ a.1, token_falls is_close_paren _ _ _ b.1, end_is b.2)

  next_name_falls : (token : ℕ) → Falls (next_name identifier_at token)
  next_name_falls token s ts x e = let a = bind_ok e in omega (arith, identifier_shrinks s ts a.0 a.1, end_is a.2)

  pub names_shrink : Shrinks (names_list identifier_at)
  unfolding names_list
  names_shrink s ts x e =
      let a = bind_ok e in
      omega (
        arith,
        listed_shrinks identifier_at (next_name identifier_at) next_name_falls identifier_shrinks _ _ _ a.1,
        end_is a.2,
      )

  identifiers_shrink : (d : Declr) (opening : ℕ) → Shrinks (identifiers_with inner d opening)
  unfolding identifiers_with
  identifiers_shrink d opening s ts x e =
      let a = bind_ok e in
      let b = bind_ok a.2 in
      omega (arith, names_shrink _ _ _ a.1, token_falls is_close_paren _ _ _ b.1, end_is b.2)

  -- identifiers or parameters
  list_shrinks : (identified : Bool) (d : Declared) (opening room : ℕ)
      → Shrinks (list_behind inner identified d opening room)
  list_shrinks true d opening room s ts x e = by_declr d.declr e
    where
      by_declr : (inside : SomeDeclr)
          → identifiers_of inside (λ inside. identifiers_with inner inside opening s ts)
          (prototype_with inner d opening [] room s ts) ≡ done x
          → length x.rest < length ts
      by_declr no_declr e = prototype_shrinks d opening [] room s ts x e
      by_declr (some_declr inside) e = identifiers_shrink inside opening s ts x e
  list_shrinks false d opening room s ts x e = prototype_shrinks d opening [] room s ts x e

  pub suffix_shrinks : (flag : Bool) (room : ℕ) → TurnShrinks (suffix_turn inner flag room)
  suffix_shrinks flag room d s ts x e =
      by_bracket (is_open_bracket (kind_at ts)) e
    where
      some_is : {A : Type 0} {x y : A} → Some x ≡ Some y → x ≡ y
      some_is e = cc

      by_paren : (b : Bool)
          → (if b then Some (fits (suc (some_declr_height d.declr)) (room_at flag room d (kind_at ts)) ts
          (params_behind inner flag d (room_at flag room d (kind_at ts)) s ts)) else None) ≡ Some (done x)
          → length x.rest < length ts
      by_paren true e =
          let r = fits_ok (suc (some_declr_height d.declr)) (room_at flag room d (kind_at ts)) ts (some_is e) in
          let a = bind_ok r.1 in
          omega (
            arith,
            take_falls _ _ _ a.1,
            list_shrinks (flag && is_bare d.declr && begins_identifiers a.0.scopes (kind_at a.0.rest)) d a.0.tree
                (room_at flag room d (kind_at ts)) _ _ _ a.2,
          )
      by_paren false e = absurd cc

      by_bracket : (b : Bool)
          → (if b then Some (fits (suc (some_declr_height d.declr)) (room_at flag room d (kind_at ts)) ts
          (array_with inner d (room_at flag room d (kind_at ts)) s ts))
          else if is_open_paren (kind_at ts) then Some (fits (suc (some_declr_height d.declr))
          (room_at flag room d (kind_at ts)) ts (params_behind inner flag d (room_at flag room d (kind_at ts)) s ts))
          else None) ≡ Some (done x) → length x.rest < length ts
      by_bracket true e =
          let r = fits_ok (suc (some_declr_height d.declr)) (room_at flag room d (kind_at ts)) ts (some_is e) in
          array_shrinks d (room_at flag room d (kind_at ts)) s ts x r.1
      by_bracket false e = by_paren (is_open_paren (kind_at ts)) e

  pub paren_shrinks : (mode : Mode) (wanted : Option Kind) (flag : Bool) (opening : ℕ) (attrs : List Attr) (room : ℕ)
      → Shrinks (paren_with inner mode wanted flag opening attrs room)
  unfolding paren_with
  paren_shrinks mode wanted flag opening attrs room s ts x e =
      let a = bind_ok e in
      let b = bind_ok a.2 in
      let c = bind_ok b.2 in
      let p = present_ok a.0.tree.declr a.0.scopes a.0.rest b.0 b.1 in
      omega (
        arith,
        laws.declrs.falls _ _ _ _ _ _ _ a.1,
        ap (λ (x : Found Declr). length x.rest) p.1,
        token_falls is_close_paren _ _ _ c.1,
        end_is c.2,
      )

  named_paren_shrinks : (wanted : Option Kind) (flag : Bool) (room : ℕ) → Shrinks (named_paren inner wanted flag room)
  unfolding named_paren
  named_paren_shrinks wanted flag room s ts x e =
      let r = fits_ok 2 room ts e in
      let a = bind_ok r.1 in
      let b = bind_ok a.2 in
      omega (
        arith,
        take_falls _ _ _ a.1,
        tokens.attrs_falls room _ _ _ b.1,
        paren_shrinks Named wanted flag a.0.tree b.0.tree room _ _ _ b.2,
      )

  opened_by_shrinks : (mode : Mode) (wanted : Option Kind) (flag : Bool) (opening : ℕ) (attrs : List Attr) (room : ℕ)
      → Shrinks (opened_by inner mode wanted flag opening attrs room)
  unfolding opened_by
  opened_by_shrinks mode wanted flag opening attrs room s ts x e =
      if_ok (opens_params attrs s (kind_at ts)) e
      (λ is e. prototype_shrinks (record { declr = no_declr; closed = None }) opening attrs room s ts x e)
      (λ is e. if_ok (opens_declr mode (kind_at ts)) e
      (λ is e. paren_shrinks mode wanted flag opening attrs room s ts x e)
      (λ is e. absurd cc))

  opened_shrinks : (mode : Mode) (wanted : Option Kind) (flag : Bool) (room : ℕ)
      → Shrinks (opened_with inner mode wanted flag room)
  unfolding opened_with
  opened_shrinks mode wanted flag room s ts x e =
      let r = fits_ok 1 room ts e in
      let a = bind_ok r.1 in
      let b = bind_ok a.2 in
      omega (
        arith,
        take_falls _ _ _ a.1,
        tokens.attrs_falls room _ _ _ b.1,
        opened_by_shrinks mode wanted flag a.0.tree b.0.tree room _ _ _ b.2,
      )

  some_paren_shrinks : (mode : Mode) (wanted : Option Kind) (flag : Bool) (room : ℕ)
      → Shrinks (some_paren inner mode wanted flag room)
  some_paren_shrinks Named wanted flag room s ts x e = named_paren_shrinks wanted flag room s ts x e
  some_paren_shrinks Abstract wanted flag room s ts x e = opened_shrinks Abstract wanted flag room s ts x e
  some_paren_shrinks Either wanted flag room s ts x e = opened_shrinks Either wanted flag room s ts x e

  pub name_held_shrinks : (name room : ℕ) (held : Option HeldScopes) (s : HeldScopes) (ts : List Lexeme)
      (x : Found Declared)
      → name_held name room held s ts ≡ done x → length x.rest < length ts
  name_held_shrinks name room None s ts x e = absurd cc
  name_held_shrinks name room (Some held) s ts x e =
      let r = fits_ok 1 room ts e in
      let a = bind_ok r.1 in
      omega (arith, take_falls _ _ _ a.1, end_is a.2)

  absent_falls : (mode : Mode) → Falls (absent mode)
  absent_falls Named s ts x e = absurd cc
  absent_falls Abstract s ts x e = omega (arith, end_is e)
  absent_falls Either s ts x e = omega (arith, end_is e)

  name_falls_by : (mode : Mode) (wanted : Option Kind) (o : Option ℕ) (room : ℕ)
      → Falls (name_or_none inner mode wanted o room)
  name_falls_by mode wanted None room s ts x e = absent_falls mode s ts x e
  name_falls_by mode wanted (Some name) room s ts x e =
      if_ok (takes_name mode) e
      (λ is e. omega (arith, name_held_shrinks name room (at_name wanted name s) s ts x e))
      (λ is e. absent_falls mode s ts x e)

  base_shrinks : (room : ℕ) → Shrinks (base_named room)
  base_shrinks room s ts x e =
      let r = fits_ok 1 room ts e in
      let a = bind_ok r.1 in
      omega (arith, take_falls _ _ _ a.1, end_is a.2)

  core_falls : (mode : Mode) (wanted : Option Kind) (flag : Bool) (room : ℕ)
      → Falls (core_with inner mode wanted flag room)
  unfolding core_with
  core_falls mode wanted flag room s ts x e =
      if_ok (is_open_paren (kind_at ts)) e
      (λ is e. omega (arith, some_paren_shrinks mode wanted flag room s ts x e))
      (λ is e. if_ok (names_base s mode wanted (kind_at ts)) e
      (λ is e. omega (arith, base_shrinks room s ts x e))
      (λ is e. name_falls_by mode wanted (spelled_name (kind_at ts)) room s ts x e))

  -- a name must come: something is taken
  core_shrinks : (wanted : Option Kind) (flag : Bool) (room : ℕ) → Shrinks (core_with inner Named wanted flag room)
  unfolding core_with
  core_shrinks wanted flag room s ts x e =
      if_ok (is_open_paren (kind_at ts)) e
      (λ is e. named_paren_shrinks wanted flag room s ts x e)
      (λ is e. if_ok (names_base s Named wanted (kind_at ts)) e
      (λ is e. base_shrinks room s ts x e)
      (λ is e. by_name (spelled_name (kind_at ts)) e))
    where
      by_name : (o : Option ℕ) → name_or_none inner Named wanted o room s ts ≡ done x → length x.rest < length ts
      by_name None e = absurd cc
      by_name (Some name) e = name_held_shrinks name room (at_name wanted name s) s ts x e

  suffixes_fall : (flag : Bool) (room : ℕ) (d : Declared) → Falls (λ s ts. run (suffix_turn inner flag room) d s ts)
  suffixes_fall flag room d s ts x e =
      run-keep (suffix_turn inner flag room) (λ d s k. length k ≤ length ts)
      (λ d s k x h e. let less : length x.rest < length k = suffix_shrinks flag room d s k x e in
      omega arith) d s ts x (omega arith) e

  pointer_shrinks : (mode : Mode) (wanted : Option Kind) (flag : Bool) (room : ℕ)
      → Shrinks (pointer_with inner mode wanted flag room)
  unfolding pointer_with
  pointer_shrinks mode wanted flag room s ts x e =
      let r = fits_ok _ room ts e in
      let a = bind_ok r.1 in
      let b = bind_ok a.2 in
      let c = bind_ok b.2 in
      omega (
        arith,
        take_falls _ _ _ a.1,
        tokens.pointer_words_falls room _ _ _ b.1,
        laws.declrs.falls _ _ _ _ _ _ _ c.1,
        end_is c.2,
      )

  pub declr_falls : (mode : Mode) (wanted : Option Kind) (flag : Bool) (room : ℕ)
      → Falls (declr_with inner mode wanted flag room)
  unfolding declr_with direct_with
  declr_falls mode wanted flag room s ts x e =
      if_ok (is_star (kind_at ts)) e
      (λ is e. omega (arith, pointer_shrinks mode wanted flag room s ts x e))
      (λ is e. let a = bind_ok e in
      omega (arith, core_falls mode wanted flag room _ _ _ a.1, suffixes_fall flag room _ _ _ _ a.2))

  pub declr_shrinks : (wanted : Option Kind) (flag : Bool) (room : ℕ)
      → Shrinks (declr_with inner Named wanted flag room)
  unfolding declr_with direct_with
  declr_shrinks wanted flag room s ts x e =
      if_ok (is_star (kind_at ts)) e
      (λ is e. pointer_shrinks Named wanted flag room s ts x e)
      (λ is e. let a = bind_ok e in
      omega (arith, core_shrinks wanted flag room _ _ _ a.1, suffixes_fall flag room _ _ _ _ a.2))

  pub type_name_shrinks : (room : ℕ) → Shrinks (type_name_with inner room)
  unfolding type_name_with
  type_name_shrinks room s ts x e =
      let a = bind_ok e in
      let b = bind_ok a.2 in
      omega (arith, laws.words.shrinks _ _ _ _ _ a.1, laws.declrs.falls _ _ _ _ _ _ _ b.1, end_is b.2)
