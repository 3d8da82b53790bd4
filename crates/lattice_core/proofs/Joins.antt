-- The join of a set: the element whose row is what the rows of the set share.
use Rattle.std.proofs.Common.{◌≡◌, ℕ, ◌<◌, ◌≤◌, ◌-◌, ◌^◌, zero, suc, true, List, length, get_or, sym, ◌∙◌, ap, arith, inl, inr, ◌↔◌}
use Rattle.std.specs.Int.{bit_at}
use Rattle.std.proofs.lemmas.Bool.{cases_lt, cases_eq}
use Rattle.std.proofs.lemmas.Nat.Bits.{bit_at_ones, bit_at_ones_above}
use Rattle.lattice_core.specs.Order.{Order, size, leq, IsLattice, IsJoinOf}
use Rattle.lattice_core.specs.Rows.{order_of}
use Rattle.lattice_core.proofs.UpperLower.{leq_bit, bit_leq, same_row}

-- an element at or below each of the first k
pub low_of : (order : Order) → IsLattice order → (k : ℕ) → k ≤ size order
    → (c : ℕ) × (c < size order) × ((a : ℕ) → a < k → leq order c a ≡ true)
low_of order lattice zero h = (0, lattice.inhabited, λ a none. absurd (omega arith))
low_of order lattice (suc k) h =
    let before = low_of order lattice k (omega arith) in
    let meet = lattice.meets before.0 k before.1 (omega arith) in (
      meet.0,
      (lattice.ordered.inside meet.0 k meet.1.right).0,
      λ a within. elim (cases_lt a k) [
        | inl under ↦ lattice.ordered.through meet.0 before.0 a meet.1.left (before.2 a under)
        | inr past ↦ let e : a ≡ k = omega arith in rw e meet.1.right
      ],
    )

-- the join of those of the first k that stand in a set
record IsJoinBelow (order : Order) (set k j : ℕ) : Type 0 where
  element : j < size order
  upper : (a : ℕ) → a < k → bit_at set a ≡ 1 → leq order a j ≡ true
  least : (d : ℕ) → d < size order → ((a : ℕ) → a < k → bit_at set a ≡ 1 → leq order a d ≡ true) → leq order j d ≡ true

-- in a lattice those of the first elements that a set has have a join
join_below : (order : Order) → IsLattice order → (set k : ℕ) → k ≤ size order → (j : ℕ) × IsJoinBelow order set k j
join_below order lattice set zero h =
    let low = low_of order lattice (size order) (omega arith) in
    (low.0, record { element = low.1; upper = λ a none _. absurd (omega arith); least = λ d within _. low.2 d within })
join_below order lattice set (suc k) h =
    let before = join_below order lattice set k (omega arith) in
    let j = before.0 in
    let is = before.1 in
    elim (cases_eq (bit_at set k) 1) [
      | inl there ↦
          let join = lattice.joins j k is.element (omega arith) in (
            join.0,
            record {
              element = (lattice.ordered.inside j join.0 join.1.left).1;
              upper = λ a within bit. elim (cases_lt a k) [
                | inl under ↦ lattice.ordered.through a j join.0 (is.upper a under bit) join.1.left
                | inr past ↦ let e : a ≡ k = omega arith in rw e join.1.right
              ];
              least = λ d within all. join.1.least d (is.least d within (λ a under bit. all a (omega arith) bit))
                  (all k (omega arith) there);
            },
          )
      | inr none ↦ (
        j,
        record {
          element = is.element;
          upper = λ a within bit. elim (cases_lt a k) [
            | inl under ↦ is.upper a under bit
            | inr past ↦ let e : a ≡ k = omega arith in absurd (none (rw e at bit))
          ];
          least = λ d within all. is.least d within (λ a under bit. all a (omega arith) bit);
        },
      )
    ]

-- what a set's rows share
abbrev pub IsShared : List ℕ → ℕ → ℕ → Type 0
IsShared above set row =
    (i : ℕ) → (bit_at row i ≡ 1) ↔ ((bit_at (2 ^ length above - 1) i ≡ 1)
    × ((a : ℕ) → a < length above → bit_at set a ≡ 1 → bit_at (get_or above a 0) i ≡ 1))

-- the set of all elements below a number has none from it on
all_bit : (n i : ℕ) → bit_at (2 ^ n - 1) i ≡ 1 → i < n
all_bit n i h = elim (cases_lt i n) [
  | inl within ↦ within
  | inr past ↦ let zero : bit_at (2 ^ n - 1) i ≡ 0 = bit_at_ones_above n i past in absurd cc
]

-- what the rows of a set's elements share is the row of some element of a lattice
pub shared_there : (above : List ℕ) → IsLattice (order_of above) → (set row : ℕ) → IsShared above set row
    → (x : ℕ) × (x < length above) × (get_or above x 0 ≡ row)
shared_there above lattice set row shared =
    let join = join_below (order_of above) lattice set (length above) (omega arith) in
    let j = join.0 in
    let is = join.1 in (
      j,
      is.element,
      same_row (get_or above j 0) row
          (λ i h. (shared i).1 (
            bit_at_ones (length above) i (lattice.ordered.inside j i (bit_leq above j i h)).1,
            λ a within bit.
                leq_bit above a i (lattice.ordered.through a j i (is.upper a within bit) (bit_leq above j i h)),
          ))
          (λ i h.
          let both = (shared i).0 h in
          leq_bit above j i
          (is.least i (all_bit (length above) i both.0) (λ a within bit. bit_leq above a i (both.1 a within bit)))),
    )

-- an element whose row is what the rows of a set's elements share is the join of the set
pub shared_joins : (above : List ℕ) → IsLattice (order_of above) → (set row c : ℕ) → IsShared above set row
    → c < length above → get_or above c 0 ≡ row → IsJoinOf (order_of above) set c
shared_joins above lattice set row c shared within e =
    let own : bit_at row c ≡ 1 = ap (λ r. bit_at r c) (sym e) ∙ leq_bit above c c (lattice.ordered.same c within) in
    record {
      element = within;
      upper = λ a h bit. bit_leq above a c (((shared c).0 own).1 a h bit);
      least = λ d h all. bit_leq above c d (ap (λ r. bit_at r d) e
          ∙ (shared d).1 (bit_at_ones (length above) d h, λ a p bit. leq_bit above a d (all a p bit)));
    }
