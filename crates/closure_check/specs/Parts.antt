-- A certificate of one lattice as lists: pairs of variables in ascending order, and sets of elements by variables.
use Rattle.std.specs.Prelude.{◌≡◌, ℕ, ◌<◌, Bool, true, false, ◌||◌, ◌&&◌, ◌==◌, nat_eq, nat_lt, List, [], ◌∷◌, length, slice_get, slice_index, Some}
use Rattle.std.specs.Int.{bit_at}
use Rattle.lattice_core.specs.Order.{Order, size}
use Rattle.flow_graph.specs.System.{System, vars_of}
use Rattle.certificate_laws.specs.Certificates.{Certificate}
use Rattle.closure_check.specs.declared.part.Part.{Part}

-- a pair comes before that of two variables
abbrev pub is_below : ℕ × ℕ → ℕ → ℕ → Bool
is_below p from to = nat_lt p.0 from || (p.0 == from && nat_lt p.1 to)

-- each comes before those behind it
abbrev pub AreAscending : List (ℕ × ℕ) → Type 0
AreAscending pairs =
    (i j : ℕ) (p q : ℕ × ℕ) → i < j → slice_get pairs i ≡ Some p → slice_get pairs j ≡ Some q
    → is_below p q.0 q.1 ≡ true

-- a pair is that of two variables
abbrev pub is_that : ℕ × ℕ → ℕ → ℕ → Bool
is_that p from to = p.0 == from && p.1 == to

-- the pair of two variables is there
abbrev pub is_among : List (ℕ × ℕ) → ℕ → ℕ → Bool
is_among [] from to = false
is_among (p ∷ pairs) from to = is_that p from to || is_among pairs from to

-- an element is in a set, bit n for element n
abbrev pub has : ℕ → ℕ → Bool
has set e = nat_eq (bit_at set e) 1

-- an element is in the set of a variable; past the last variable the sets are empty
abbrev pub is_in : List ℕ → ℕ → ℕ → Bool
is_in sets v e = has (slice_index sets v) e

-- what the lists say
abbrev pub certificate_of : Part → Certificate
certificate_of part = record {
  paired = λ u v. is_among part.pairs.items u v;
  first = λ v e. is_in part.first.items v e;
  second = λ v e. is_in part.second.items v e;
}

-- as many sets, with elements of a lattice alone
pub record AreSets (order : Order) (count : ℕ) (sets : List ℕ) : Type 0 where
  pub size_is : length sets ≡ count
  pub elements : (v e : ℕ) → is_in sets v e ≡ true → e < size order

-- all pairs are of variables below a number
abbrev pub AreBelow : ℕ → List (ℕ × ℕ) → Type 0
AreBelow vars pairs = (k : ℕ) (p : ℕ × ℕ) → slice_get pairs k ≡ Some p → (p.0 < vars) × (p.1 < vars)

-- The sets are those of all variables of the system and have elements of the lattice alone; the pairs ascend and are of
-- its variables.
pub record IsPart (sys : System) (order : Order) (part : Part) : Type 0 where
  pub firsts : AreSets order (vars_of sys) part.first.items
  pub seconds : AreSets order (vars_of sys) part.second.items
  pub ascending : AreAscending part.pairs.items
  pub below : AreBelow (vars_of sys) part.pairs.items
