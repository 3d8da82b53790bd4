-- Bounds in an order of rows: an element is the least upper bound of two exactly where its row is what theirs share.
use Rattle.std.proofs.Common.{◌≡◌, ℕ, ◌<◌, ◌≢◌, ◌+◌, true, List, length, get_or, bit_and, ◌∙◌, ap, arith, inl, inr, Bool, false, Some, None, is_some, MatchOption, MatchBool, eq-eqb, eqb-true}
use Rattle.std.specs.Int.{bit_at}
use Rattle.std.specs.declared.option.Option.{Option}
use Rattle.std.proofs.lemmas.Bool.{cases_lt}
use Rattle.std.proofs.lemmas.Nat.Bits.{bit_at-lt, same_from_bits}
use Rattle.lattice_core.specs.Order.{Order, leq, IsOrder, IsLeastUpper, IsGreatestLower}
use Rattle.lattice_core.specs.Rows.{order_of}
use Rattle.lattice_core.specs.Tables.{IsConverse}
use Rattle.lattice_core.specs.Building.{LacksBound, HasBounds, AreBounded}
use Rattle.lattice_core.proofs.Bits.{and_both, and_of_both}

same_number : (u v : ℕ) → u < 2 → v < 2 → (u ≡ 1 → v ≡ 1) → (v ≡ 1 → u ≡ 1) → u ≡ v
same_number u v p q f g = grind arith

-- two rows with the same elements are equal
pub same_row : (x y : ℕ) → ((i : ℕ) → bit_at x i ≡ 1 → bit_at y i ≡ 1) → ((i : ℕ) → bit_at y i ≡ 1 → bit_at x i ≡ 1)
    → x ≡ y
same_row x y f g =
    same_from_bits x y (λ i. same_number (bit_at x i) (bit_at y i) (bit_at-lt x i) (bit_at-lt y i) (f i) (g i))

pub leq_bit : (rows : List ℕ) (a b : ℕ) → leq (order_of rows) a b ≡ true → bit_at (get_or rows a 0) b ≡ 1
leq_bit rows a b h = eqb-true (bit_at (get_or rows a 0) b) 1 h

pub bit_leq : (rows : List ℕ) (a b : ℕ) → bit_at (get_or rows a 0) b ≡ 1 → leq (order_of rows) a b ≡ true
bit_leq rows a b h = eq-eqb (bit_at (get_or rows a 0) b) 1 h

-- an element whose row is the common part of two rows is their least upper bound
pub upper_from_row : (rows : List ℕ) → IsOrder (order_of rows) → (a b c : ℕ) → c < length rows
    → get_or rows c 0 ≡ bit_and (get_or rows a 0) (get_or rows b 0) → IsLeastUpper (order_of rows) a b c
upper_from_row rows order a b c within e =
    let own : bit_at (get_or rows c 0) c ≡ 1 = leq_bit rows c c (order.same c within) in
    let shared : bit_at (bit_and (get_or rows a 0) (get_or rows b 0)) c ≡ 1 = rw e at own in
    let both = and_both (get_or rows a 0) (get_or rows b 0) c shared in
    record {
      left = bit_leq rows a c both.0;
      right = bit_leq rows b c both.1;
      least = λ d p q. bit_leq rows c d (ap (λ r. bit_at r d) e
          ∙ and_of_both (get_or rows a 0) (get_or rows b 0) d (leq_bit rows a d p) (leq_bit rows b d q));
    }

-- the row of a least upper bound is the common part of both rows
pub row_from_upper : (rows : List ℕ) → IsOrder (order_of rows) → (a b c : ℕ) → IsLeastUpper (order_of rows) a b c
    → get_or rows c 0 ≡ bit_and (get_or rows a 0) (get_or rows b 0)
row_from_upper rows order a b c is =
    same_row (get_or rows c 0) (bit_and (get_or rows a 0) (get_or rows b 0))
    (λ i h. and_of_both (get_or rows a 0) (get_or rows b 0) i
    (leq_bit rows a i (order.through a c i is.left (bit_leq rows c i h)))
    (leq_bit rows b i (order.through b c i is.right (bit_leq rows c i h))))
    (λ i h. let both = and_both (get_or rows a 0) (get_or rows b 0) i h in
    leq_bit rows c i (is.least i (bit_leq rows a i both.0) (bit_leq rows b i both.1)))

-- the order read downwards is an order
pub converse_order : (above below : List ℕ) → IsOrder (order_of above) → IsConverse above below
    → IsOrder (order_of below)
converse_order above below order turn = record {
  inside = λ a b h.
      let in_above = order.inside b a ((turn.turned b a).0 h) in
      (omega (arith, in_above.1, turn.elements), omega (arith, in_above.0, turn.elements));
  same = λ a h. (turn.turned a a).1 (order.same a (omega (arith, h, turn.elements)));
  through = λ a b c p q. (turn.turned c a).1 (order.through c b a ((turn.turned c b).0 q) ((turn.turned b a).0 p));
  apart = λ a b p q. order.apart a b ((turn.turned a b).0 q) ((turn.turned b a).0 p);
}

-- a least upper bound downwards is a greatest lower bound
pub lower_from_upper : (above below : List ℕ) → IsConverse above below → (a b c : ℕ)
    → IsLeastUpper (order_of below) a b c → IsGreatestLower (order_of above) a b c
lower_from_upper above below turn a b c is = record {
  left = (turn.turned c a).0 is.left;
  right = (turn.turned c b).0 is.right;
  greatest = λ d p q. (turn.turned d c).0 (is.least d ((turn.turned d a).1 p) ((turn.turned d b).1 q));
}

-- a greatest lower bound is a least upper bound in the rows read downwards
pub upper_from_lower : (above below : List ℕ) → IsConverse above below → (a b c : ℕ)
    → IsGreatestLower (order_of above) a b c → IsLeastUpper (order_of below) a b c
upper_from_lower above below turn a b c is = record {
  left = (turn.turned c a).1 is.left;
  right = (turn.turned c b).1 is.right;
  least = λ d p q. (turn.turned d c).1 (is.greatest d ((turn.turned d a).0 p) ((turn.turned d b).0 q));
}

pub lacks_none : (order : Order) (a b : ℕ) → HasBounds order a b → LacksBound order a b → ⊥
lacks_none order a b has lacks =
    elim lacks [ inl none ↦ none has.upper has.is_upper | inr none ↦ none has.lower has.is_lower ]

-- what a search for the row that two share finds
pub upper_found : (rows : List ℕ) → IsOrder (order_of rows) → (a b : ℕ) (found : Option ℕ) →
    MatchOption found ((k : ℕ) → k < length rows → get_or rows k 0 ≢ bit_and (get_or rows a 0) (get_or rows b 0))
    (λ k. (k < length rows) × (get_or rows k 0 ≡ bit_and (get_or rows a 0) (get_or rows b 0))) →
    MatchOption found ((c : ℕ) → IsLeastUpper (order_of rows) a b c → ⊥) (IsLeastUpper (order_of rows) a b)
upper_found rows order a b None none = λ c is. none c (order.inside a c is.left).1 (row_from_upper rows order a b c is)
upper_found rows order a b (Some c) found = upper_from_row rows order a b c found.0 found.1

-- whether two elements have both bounds, where they have the upper one
pub bounds_found : (above below : List ℕ) → IsConverse above below → (a b : ℕ) (upper lower : Option ℕ)
    → is_some upper ≡ true →
    MatchOption upper ((c : ℕ) → IsLeastUpper (order_of above) a b c → ⊥) (IsLeastUpper (order_of above) a b) →
    MatchOption lower ((c : ℕ) → IsLeastUpper (order_of below) a b c → ⊥) (IsLeastUpper (order_of below) a b) →
    MatchBool (is_some lower) (HasBounds (order_of above) a b) (LacksBound (order_of above) a b)
bounds_found above below turn a b None lower h up down = absurd cc
bounds_found above below turn a b (Some c) None h up down =
    inr (λ d is. down d (upper_from_lower above below turn a b d is))
bounds_found above below turn a b (Some c) (Some d) h up down =
    record { upper = c; is_upper = up; lower = d; is_lower = lower_from_upper above below turn a b d down }

pub bounded_at : (order : Order) (a b : ℕ) (r : Bool) → r ≡ true
    → MatchBool r (HasBounds order a b) (LacksBound order a b) → HasBounds order a b
bounded_at order a b true h is = is
bounded_at order a b false h is = absurd cc

pub lacking_at : (order : Order) (a b : ℕ) (r : Bool) → r ≡ false
    → MatchBool r (HasBounds order a b) (LacksBound order a b) → LacksBound order a b
lacking_at order a b false h is = is
lacking_at order a b true h is = absurd cc

-- an element that has bounds with those before one and with it has them with all up to it
pub bounded_on : (order : Order) (a k : ℕ) → AreBounded order a k → HasBounds order a k → AreBounded order a (k + 1)
bounded_on order a k before here b lt within = elim (cases_lt b k) [
  | inl under ↦ before b lt under
  | inr past ↦ let e : b ≡ k = omega arith in rw e here
]
