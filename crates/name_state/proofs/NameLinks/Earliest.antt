-- Second bodies by the earliest units, against the rules.
use Rattle.std.proofs.Common.{◌≡◌, ℕ, ◌<◌, arith, Bool, true, false, ◌&&◌, ◌||◌, nat_lt, List, [], ◌∷◌, ◌++◌, map, Option, Some, None, refl, sym, ◌∙◌, ap, if◌then◌else◌}
use Rattle.std.proofs.lemmas.Bool.{ltb-true, ltb-false, lt-ltb}
use Rattle.qual_base.proofs.Tests.{and_false, or_false}
use Rattle.name_rules.specs.Spellings.{Place}
use Rattle.name_rules.specs.Faults.{Fault, defined_twice, fault_where}
use Rattle.name_rules.specs.Scopes.{Names, is_place}
use Rattle.name_rules.specs.Scopes as rules
use Rattle.name_rules.specs.Linking.{link_of, has_earlier, faults_in}
use Rattle.name_tables.specs.declared.name_records.bodies.Bodied.{Bodied}
use Rattle.name_tables.specs.NameRecords.Held.{bodied_of}
use Rattle.name_tables.specs.declared.place_map.map.PlaceMap.{PlaceMap}
use Rattle.name_tables.specs.PlaceMap.Values.{value_at}
use Rattle.name_state.specs.NameLinks.Tables.{linked_by, earlier_unit, plain_there, earliest_plain, is_earlier, second_faults}
use Rattle.name_state.proofs.NameLinks.Tests.{and_true}

-- one of two units is earlier than a third
least_of : (a b v : ℕ) (x : Bool) → nat_lt b a ≡ x
    → is_earlier (if x then Some b else Some a) v ≡ nat_lt b v || nat_lt a v
least_of a b v true less = by_test (nat_lt a v) refl
  where
    by_test : (y : Bool) → nat_lt a v ≡ y → nat_lt b v ≡ nat_lt b v || y
    by_test false other = sym (or_false (nat_lt b v))
    by_test true is =
        let lt : b < v = omega (arith, ltb-true b a less, ltb-true a v is) in
        ap (λ z. z) (lt-ltb b v lt) ∙ sym (ap (λ z. z || true) (lt-ltb b v lt))
least_of a b v false less = by_test (nat_lt b v) refl
  where
    by_test : (y : Bool) → nat_lt b v ≡ y → nat_lt a v ≡ y || nat_lt a v
    by_test false other = refl
    by_test true is =
        let lt : a < v = omega (arith, ltb-false b a less, ltb-true b v is) in
        lt-ltb a v lt

-- the earlier of two units is earlier than a third where one of the two is
earlier_or : (e f : Option ℕ) (v : ℕ) → is_earlier (earlier_unit e f) v ≡ is_earlier f v || is_earlier e v
earlier_or None f v = sym (or_false (is_earlier f v))
earlier_or (Some a) None v = refl
earlier_or (Some a) (Some b) v = least_of a b v (nat_lt b a) refl

-- a unit that counts for a plain body of the same place alone is earlier than another where it is below and both hold
plain_is : (plain same : Bool) (unit v : ℕ)
    → is_earlier (if plain then (if same then Some unit else None) else None) v ≡ plain && (nat_lt unit v && same)
plain_is true true unit v = sym (and_true (nat_lt unit v))
plain_is true false unit v = sym (and_false (nat_lt unit v))
plain_is false same unit v = refl

module _ (s : Names) (links : PlaceMap Place) (are : (p : Place) → linked_by links p ≡ link_of s p) where
  -- whether an earlier unit has one
  earlier_is : (it : Bodied) (all : List Bodied)
      → is_earlier (earliest_plain links all (linked_by links it.first)) it.at.0
      ≡ has_earlier s (bodied_of it) (map bodied_of all)
  earlier_is it [] = refl
  earlier_is it (other ∷ all) =
      let p = linked_by links it.first in
      earlier_or (earliest_plain links all p) (plain_there links other p) it.at.0
      ∙ ap (λ x. is_earlier (plain_there links other p) it.at.0 || x) (earlier_is it all)
      ∙ ap (λ x. x || has_earlier s (bodied_of it) (map bodied_of all))
      (plain_is other.is_plain (is_place (linked_by links other.first) p) other.at.0 it.at.0
      ∙ ap (λ (q : Place). other.is_plain && (nat_lt other.at.0 it.at.0 && is_place q p)) (are other.first)
      ∙ ap (λ (q : Place). other.is_plain && (nat_lt other.at.0 it.at.0 && is_place (link_of s other.first) q))
      (are it.first))

  -- the faults are those of the rules
  pub faults_are : (units : PlaceMap ℕ) (all bodies : List Bodied)
      → ((p : Place) → value_at units p ≡ earliest_plain links all p)
      → s.bodies ≡ map bodied_of all → second_faults links units bodies ≡ faults_in s (map bodied_of bodies)
  faults_are units all [] found is = refl
  faults_are units all (it ∷ bodies) found is =
      let faults = second_faults links units bodies in
      ap (λ (o : Option ℕ). faults ++ fault_where (it.is_plain && is_earlier o it.at.0) it.at defined_twice)
      (found (linked_by links it.first))
      ∙ ap (λ x. faults ++ fault_where (it.is_plain && x) it.at defined_twice) (earlier_is it all)
      ∙ ap (λ (them : List rules.Bodied).
      faults ++ fault_where (it.is_plain && has_earlier s (bodied_of it) them) it.at defined_twice)
      (sym is)
      ∙ ap (λ (them : List Fault).
      them ++ fault_where (it.is_plain && has_earlier s (bodied_of it) s.bodies) it.at defined_twice)
      (faults_are units all bodies found is)
