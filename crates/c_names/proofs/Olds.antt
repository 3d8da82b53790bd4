-- Identifiers of a list, with types in place of their numbers.
use Rattle.std.proofs.Common.{◌≡◌, ◌∙◌, sym, ap, refl, ℕ, zero, suc, nat_eq, Bool, true, false, ◌||◌, List, [], ◌∷◌, ◌++◌, map, slice_get, Option, Some, None, is_some, option_map, if◌then◌else◌, append-nil}
use Rattle.type_table.specs.Types.{CType}
use Rattle.name_rules.specs.Spellings.{Place, Spelling, place, Named}
use Rattle.name_rules.specs.Faults.{undeclared, defined_twice, fault_where}
use Rattle.name_rules.specs.Scopes.{Names, with_faults, changed_at}
use Rattle.name_rules.specs.Declaring.{declared_param}
use Rattle.name_rules.specs.Identifiers.{OldParameter as Shown, Olds, has_identifier, number_of_identifier, identified, typed_first, is_typed, old_declared}
use Rattle.c_names.specs.declared.identifiers.OldParameter.{OldParameter}
use Rattle.c_names.specs.Identifiers.{number_in, is_typed_in, typed_once}
use Rattle.c_names.specs.Shown.{old_of}
use Rattle.c_names.proofs.Low.{map_more}

abbrev with_names : List Shown → Names → Olds
with_names list names = record { list = list; names = names }

module _ (t : ℕ → CType) where
  number_shown : (ids : List OldParameter) (key : ℕ) → number_of_identifier key (map (old_of t) ids) ≡ number_in key ids
  number_shown [] key = refl
  number_shown (it ∷ ids) key =
      ap (λ (o : Option ℕ). if nat_eq it.key key then Some 0 else option_map suc o) (number_shown ids key)

  has_shown : (ids : List OldParameter) (key : ℕ)
      → has_identifier key (map (old_of t) ids) ≡ is_some (number_in key ids)
  has_shown [] key = refl
  has_shown (it ∷ ids) key = by (nat_eq it.key key) (number_in key ids) (has_shown ids key) where
    by : (b : Bool) (o : Option ℕ) → has_identifier key (map (old_of t) ids) ≡ is_some o →
        (b || has_identifier key (map (old_of t) ids)) ≡ is_some (if b then Some 0 else option_map suc o)
    by true o h = refl
    by false None h = h
    by false (Some n) h = h

  typed_shown : (ids : List OldParameter) (n : ℕ)
      → is_typed (slice_get (map (old_of t) ids) n) ≡ is_typed_in (slice_get ids n)
  typed_shown [] n = refl
  typed_shown (it ∷ ids) zero = by it.ty where
    by : (o : Option ℕ) → is_some (option_map t o) ≡ is_some o
    by None = refl
    by (Some ty) = refl
  typed_shown (it ∷ ids) (suc n) = typed_shown ids n

  once_shown : (it : OldParameter) (ty : ℕ) → old_of t (typed_once ty it) ≡ typed_first (t ty) (old_of t it)
  once_shown it ty = by it.ty where
    by : (o : Option ℕ)
        → old_of t (typed_once ty (record it { ty = o })) ≡ typed_first (t ty) (old_of t (record it { ty = o }))
    by None = refl
    by (Some first) = refl

  changed_shown : (ids : List OldParameter) (n ty : ℕ) →
      map (old_of t) (changed_at ids n (typed_once ty)) ≡ changed_at (map (old_of t) ids) n (typed_first (t ty))
  changed_shown [] n ty = refl
  changed_shown (it ∷ ids) zero ty = ap (λ x. x ∷ map (old_of t) ids) (once_shown it ty)
  changed_shown (it ∷ ids) (suc n) ty = ap (λ xs. old_of t it ∷ xs) (changed_shown ids n ty)

  pub declared_is : (u : Spelling) (own : Option Place) (it : Named) (ty : ℕ) (ids new : List OldParameter) (number : ℕ)
      (names after : Names) → Some number ≡ number_in (u.key it.name) ids
      → new ≡ changed_at ids number (typed_once ty) →
      after ≡ declared_param u (Some it) number own (t ty)
      (with_faults (fault_where (is_typed_in (slice_get ids number)) (place u it.token) defined_twice) names) →
      with_names (map (old_of t) new) after ≡
      old_declared u own it (t ty) (number_of_identifier (u.key it.name) (map (old_of t) ids))
      (with_names (map (old_of t) ids) names)
  declared_is u own it ty ids new number names after found changed made =
      ap (λ (l : List Shown). with_names l after) (ap (map (old_of t)) changed ∙ changed_shown ids number ty) ∙
      ap (λ (s : Names). with_names (changed_at (map (old_of t) ids) number (typed_first (t ty))) s)
      (made ∙ ap (λ (b : Bool). declared_param u (Some it) number own (t ty)
      (with_faults (fault_where b (place u it.token) defined_twice) names)) (sym (typed_shown ids number))) ∙
      ap (λ (o : Option ℕ). old_declared u own it (t ty) o (with_names (map (old_of t) ids) names))
      (found ∙ sym (number_shown ids (u.key it.name)))

  pub undeclared_is : (u : Spelling) (own : Option Place) (it : Named) (ty : ℕ) (ids : List OldParameter)
      (names after : Names) →
      None ≡ number_in (u.key it.name) ids
      → after ≡ with_faults (fault_where true (place u it.token) undeclared) names →
      with_names (map (old_of t) ids) after ≡
      old_declared u own it (t ty) (number_of_identifier (u.key it.name) (map (old_of t) ids))
      (with_names (map (old_of t) ids) names)
  undeclared_is u own it ty ids names after found made =
      ap (λ (s : Names). with_names (map (old_of t) ids) s) made ∙
      ap (λ (o : Option ℕ). old_declared u own it (t ty) o (with_names (map (old_of t) ids) names))
      (found ∙ sym (number_shown ids (u.key it.name)))

  abbrev by_known : Bool → Spelling → ℕ → ℕ → List Shown → Names → Olds
  by_known b u token name list names = record {
    list = if b then list else list ++ record { token = token; key = u.key name; type = None } ∷ [];
    names = with_faults (fault_where b (place u token) defined_twice) names;
  }

  pub known_is : (u : Spelling) (token name n : ℕ) (ids : List OldParameter) (names after : Names) →
      Some n ≡ number_in (u.key name) ids → after ≡ with_faults (fault_where true (place u token) defined_twice) names →
      with_names (map (old_of t) ids) after ≡ identified u token name (with_names (map (old_of t) ids) names)
  known_is u token name n ids names after found made =
      ap (λ (s : Names). with_names (map (old_of t) ids) s) made ∙
      ap (λ (b : Bool). by_known b u token name (map (old_of t) ids) names)
      (ap is_some found ∙ sym (has_shown ids (u.key name)))

  pub new_is : (u : Spelling) (token name : ℕ) (ids new : List OldParameter) (names : Names) →
      None ≡ number_in (u.key name) ids → new ≡ ids ++ record { token = token; key = u.key name; ty = None } ∷ [] →
      with_names (map (old_of t) new) names ≡ identified u token name (with_names (map (old_of t) ids) names)
  new_is u token name ids new names found made =
      ap (λ (l : List Shown). with_names l names)
      (ap (map (old_of t)) made
      ∙ map_more (old_of t) ids (record { token = token; key = u.key name; ty = None } ∷ [])) ∙
      ap (λ fs. with_names (map (old_of t) ids ++ record { token = token; key = u.key name; type = None } ∷ [])
      (record names { faults = fs })) (sym (append-nil names.faults)) ∙
      ap (λ (b : Bool). by_known b u token name (map (old_of t) ids) names)
      (ap is_some found ∙ sym (has_shown ids (u.key name)))
