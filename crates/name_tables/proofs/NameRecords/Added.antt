-- Maps that go along with lists, when both get one more.
use Rattle.std.proofs.Common.{◌≡◌, ℕ, nat_eq, Bool, true, false, ◌&&◌, ◌||◌, cond, List, [], ◌∷◌, ◌++◌, reverse, map, Option, Some, is_some, refl, sym, ◌∙◌, ap, if◌then◌else◌}
use Rattle.std.proofs.lemmas.List.{reverse-append}
use Rattle.std.specs.HashMap.{get}
use Rattle.name_rules.specs.Spellings.{Place}
use Rattle.name_rules.specs.Scopes.{is_place, thing_of}
use Rattle.name_rules.specs.Declaring.{has_body_in}
use Rattle.name_tables.specs.declared.name_records.bodies.Bodied.{Bodied}
use Rattle.name_tables.specs.NameRecords.Held.{bodied_of, PlaceInUnit, is_same_in_unit, BodySet, AreKnown, ThingTable, AreNewest}

newer : {A : Type 0} (new all : List A) (it : A) → new ≡ all ++ it ∷ [] → reverse new ≡ it ∷ reverse all
newer new all it is = ap reverse is ∙ reverse-append all (it ∷ [])

-- a body more, and its function in its unit
pub body_added : (new all : List Bodied) (it : Bodied) (before after : BodySet) (value : Unit {0})
    → new ≡ all ++ it ∷ []
    → AreKnown (reverse all) before
    → ((q : PlaceInUnit) → get is_same_in_unit after q
    ≡ cond (is_same_in_unit (it.first, it.at.0) q) (Some value) (get is_same_in_unit before q))
    → AreKnown (reverse new) after
body_added new all it before after value is known set =
    record {
      same = λ unit first.
          ap is_some (set (first, unit))
          ∙ by_tests (is_place it.first first) (nat_eq it.at.0 unit) (get is_same_in_unit before (first, unit))
          (has_body_in unit (map bodied_of (reverse all)) first) (known.same unit first)
          ∙ ap (λ (them : List Bodied). has_body_in unit (map bodied_of them) first) (sym (newer new all it is));
    }
  where
    by_tests : (same here : Bool) (o : Option (Unit {0})) (rest : Bool) → is_some o ≡ rest
        → is_some (cond (same && here) (Some value) o) ≡ (here && same) || rest
    by_tests true true o rest is = refl
    by_tests true false o rest is = is
    by_tests false true o rest is = is
    by_tests false false o rest is = is

-- a thing more, which is the newest of its unit and name
pub thing_added : (new all : List (ℕ × Place)) (name : ℕ) (at : Place) (before after : ThingTable)
    → new ≡ all ++ (name, at) ∷ []
    → AreNewest (reverse all) before
    → ((q : Place) → get is_place after q ≡ cond (is_place (at.0, name) q) (Some at) (get is_place before q))
    → AreNewest (reverse new) after
thing_added new all name at before after is newest set =
    record {
      same = λ unit asked.
          set (unit, asked)
          ∙ by_tests (nat_eq at.0 unit) (nat_eq name asked) (get is_place before (unit, asked))
          (thing_of unit (reverse all) asked) (newest.same unit asked)
          ∙ ap (λ (them : List (ℕ × Place)). thing_of unit them asked) (sym (newer new all (name, at) is));
    }
  where
    by_tests : (here named : Bool) (o rest : Option Place) → o ≡ rest
        → cond (here && named) (Some at) o ≡ (if named && here then Some at else rest)
    by_tests true true o rest is = refl
    by_tests true false o rest is = is
    by_tests false true o rest is = is
    by_tests false false o rest is = is
