-- In a lattice each set of elements that has a test has a least element above it.
use Rattle.std.proofs.Common.{◌≡◌, ℕ, zero, suc, ◌≤◌, ◌<◌, Bool, true, false, refl, sym, ◌∙◌, ap, subst, arith, inl, inr}
use Rattle.lattice_core.specs.Order.{Order, size, leq, IsOrder, IsLattice, IsLeastUpper}
use Rattle.lattice_core.proofs.Joins.{low_of}
use Rattle.flow_laws.specs.Least.{IsLeastOver}
use Rattle.flow_laws.proofs.Search.{last_or}

-- the least element above those of the first k elements that are in the set
record IsLeastOfFirst (order : Order) (set : ℕ → Bool) (k j : ℕ) : Type 0 where
  element : j < size order
  upper : (a : ℕ) → a < k → set a ≡ true → leq order a j ≡ true
  least : (d : ℕ) → d < size order → ((a : ℕ) → a < k → set a ≡ true → leq order a d ≡ true) → leq order j d ≡ true

-- the next element, where it is not in the set, leaves the least one above the first elements as it is
without : (order : Order) (set : ℕ → Bool) (k j : ℕ) → set k ≡ false → IsLeastOfFirst order set k j
    → IsLeastOfFirst order set (suc k) j
without order set k j out before = record {
  element = before.element;
  upper = λ a low is. elim (last_or a k low) [
    | inl same ↦ let wrong : set a ≡ false = ap set same ∙ out in absurd cc
    | inr less ↦ before.upper a less is
  ];
  least = λ d is above. before.least d is (λ a less in_set. above a (omega (arith, less)) in_set);
}

-- the next element, where it is in the set, is joined with the least one above the elements before it
joined_with : (order : Order) (set : ℕ → Bool) (k j c : ℕ) → IsOrder order → set k ≡ true → IsLeastOfFirst order set k j
    → IsLeastUpper order j k c →
    IsLeastOfFirst order set (suc k) c
joined_with order set k j c ordered is before join = record {
  element = (ordered.inside k c join.right).1;
  upper = λ a low in_set. elim (last_or a k low) [
    | inl same ↦ subst (λ x. leq order x c ≡ true) (sym same) join.right
    | inr less ↦ ordered.through a j c (before.upper a less in_set) join.left
  ];
  least = λ d element above. join.least d
      (before.least d element (λ a less in_set. above a (omega (arith, less)) in_set)) (above k (omega arith) is);
}

-- in a lattice the first elements of a set have a least one above them
least_of_first : (order : Order) → IsLattice order → (set : ℕ → Bool) (k : ℕ) → k ≤ size order
    → (j : ℕ) × IsLeastOfFirst order set k j
least_of_first order lat set zero fits =
    let low = low_of order lat (size order) (omega arith) in (
      low.0,
      record {
        element = low.1;
        upper = λ a less in_set. absurd (omega (arith, less));
        least = λ d is above. low.2 d is;
      },
    )
least_of_first order lat set (suc k) fits = by_test (set k) refl (least_of_first order lat set k (omega (arith, fits)))
  where
    by_test : (t : Bool) → set k ≡ t → (j : ℕ) × IsLeastOfFirst order set k j
        → (j : ℕ) × IsLeastOfFirst order set (suc k) j
    by_test false out before = (before.0, without order set k before.0 out before.1)
    by_test true is before =
        let join = lat.joins before.0 k before.1.element (omega (arith, fits)) in
        (join.0, joined_with order set k before.0 join.0 lat.ordered is before.1 join.1)

-- a set whose members are those of a test, and elements
pub least_over : (order : Order) (In : ℕ → Type 0) (set : ℕ → Bool) → IsLattice order
    → ((e : ℕ) → In e → (set e ≡ true) × (e < size order)) → ((e : ℕ) → set e ≡ true → In e) →
    (r : ℕ) × IsLeastOver order In r
least_over order In set lat to of =
    let first = least_of_first order lat set (size order) (omega arith) in (
      first.0,
      record {
        element = first.1.element;
        upper = λ e is. first.1.upper e (to e is).1 (to e is).0;
        least = λ d element above. first.1.least d element (λ a less in_set. above a (of a in_set));
      },
    )
