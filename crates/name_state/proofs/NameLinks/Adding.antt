-- The first of several is added.
use Rattle.std.proofs.Common.{◌≡◌, ℕ, true, false, nat_eq, Option, Some, None, is_some, inl, inr, refl, sym, ◌∙◌, ap, if◌then◌else◌}
use Rattle.std.proofs.lemmas.Bool.Decides.{eqb_tells}
use Rattle.name_rules.specs.Spellings.{Place}
use Rattle.name_rules.specs.Scopes.{is_place}
use Rattle.name_tables.specs.PlaceMap.Values.{or_else, there}
use Rattle.name_tables.proofs.PlaceMap.Adding as adding
use Rattle.name_state.specs.NameLinks.Tables.{PlaceTable, member_there, NameTable, name_there, first_by}

-- a name that has a member keeps it
pub stays : (table : PlaceTable) (at v : Place) → is_some (member_there table at) ≡ true → (p : Place)
    → member_there table p ≡ or_else (member_there table p) (there at v p)
stays table at v known p = adding.stays (member_there table) at v known p

-- another gets one
pub comes : (table : PlaceTable) (at v : Place) (after : PlaceTable) → is_some (member_there table at) ≡ false
    → ((p : Place) → member_there after p ≡ (if is_place at p then Some v else member_there table p)) → (p : Place)
    → member_there after p ≡ or_else (member_there table p) (there at v p)
comes table at v after unknown set p = adding.comes (member_there table) at v (member_there after) unknown set p

known_stays : (o e : Option Place) → is_some o ≡ true → o ≡ or_else o e
known_stays None e is = absurd cc
known_stays (Some v) e is = refl

none_gets : (o e : Option Place) → is_some o ≡ false → e ≡ or_else o e
none_gets None e is = refl
none_gets (Some v) e is = absurd cc

-- the same of names
pub name_stays : (table : NameTable) (name : ℕ) (v : Place) → is_some (name_there table name) ≡ true → (n : ℕ)
    → name_there table n ≡ or_else (name_there table n) (first_by name v n)
name_stays table name v known n = elim (eqb_tells name n) [
  | inl same ↦ known_stays (name_there table n) (first_by name v n)
      (ap (λ (k : ℕ). is_some (name_there table k)) (sym same.1) ∙ known)
  | inr other ↦ sym (ap (λ b. or_else (name_there table n) (if b then Some v else None)) other.0
      ∙ adding.or_none (name_there table n))
]

-- a name without a place in a table gets one, and every name then has its old place or else this one
pub name_comes : (table : NameTable) (name : ℕ) (v : Place) (after : NameTable)
    → is_some (name_there table name) ≡ false
    → ((n : ℕ) → name_there after n ≡ (if nat_eq name n then Some v else name_there table n)) → (n : ℕ)
    → name_there after n ≡ or_else (name_there table n) (first_by name v n)
name_comes table name v after unknown set n = elim (eqb_tells name n) [
  | inl same ↦ set n ∙ ap (λ b. if b then Some v else name_there table n) same.0
      ∙ none_gets (name_there table n) (Some v) (ap (λ (k : ℕ). is_some (name_there table k)) (sym same.1) ∙ unknown)
      ∙ ap (λ b. or_else (name_there table n) (if b then Some v else None)) (sym same.0)
  | inr other ↦ set n ∙ ap (λ b. if b then Some v else name_there table n) other.0
      ∙ sym (ap (λ b. or_else (name_there table n) (if b then Some v else None)) other.0
      ∙ adding.or_none (name_there table n))
]
