-- From order lines to a lattice.
use Rattle.std.proofs.Common.{◌≡◌, ℕ, ◌<◌, ◌≤◌, true, List, length, get_or, Some, None, ◌∙◌, ap, arith, inl, inr, ◌↔◌, bit_and}
use Rattle.std.specs.Int.{bit_at}
use Rattle.std.proofs.lemmas.Bool.{cases_lt, cases_order}
use Rattle.lattice_core.specs.declared.Entry.{Entry}
use Rattle.lattice_core.specs.declared.Pair.{Pair}
use Rattle.lattice_core.specs.Order.{Order, size, leq, IsOrder, IsLeastUpper, IsGreatestLower, IsLattice}
use Rattle.lattice_core.specs.Rows.{order_of}
use Rattle.lattice_core.specs.Rows.{Leads, Here, On}
use Rattle.lattice_core.specs.Tables.{IsConverse}
use Rattle.lattice_core.specs.Building.{IsWritten, IsBelow, Same, Through, IsClosureOf, IsCycle, HasNoPair, HasBounds, AreBounded, LacksBound, IsFirstPair, AreFit, first_unknown, RefusesCycle, RefusesBounds}
use Rattle.lattice_core.specs.Entries.{AreDistinct, AreOfOneLevel, name_at}
use Rattle.lattice_core.proofs.Naming.{has_name}
use Rattle.lattice_core.proofs.UpperLower.{leq_bit, bit_leq, row_from_upper, upper_from_row, converse_order, upper_from_lower, lower_from_upper}
use Rattle.lattice_core.proofs.Bits.{none_past}

below_from_leads : (entries : List Entry) (pairs : List Pair) (links : List ℕ)
    → ((a b : ℕ) → (bit_at (get_or links a 0) b ≡ 1) ↔ IsWritten entries pairs a b) →
    (a : ℕ) → a < length entries → (b : ℕ) → Leads links a b → IsBelow entries pairs a b
below_from_leads entries pairs links linked a h b Here = Same h
below_from_leads entries pairs links linked a h b (On m _ to link) =
    Through m b (below_from_leads entries pairs links linked a h m to) ((linked m b).0 link)

leads_from_below : (entries : List Entry) (pairs : List Pair) (links : List ℕ)
    → ((a b : ℕ) → (bit_at (get_or links a 0) b ≡ 1) ↔ IsWritten entries pairs a b) →
    (a b : ℕ) → IsBelow entries pairs a b → Leads links a b
leads_from_below entries pairs links linked a b (Same h) = Here
leads_from_below entries pairs links linked a b (Through m _ to line) =
    On m b (leads_from_below entries pairs links linked a m to) ((linked m b).1 line)

below_starts : (entries : List Entry) (pairs : List Pair) (a b : ℕ) → IsBelow entries pairs a b → a < length entries
below_starts entries pairs a b (Same h) = h
below_starts entries pairs a b (Through m _ to line) = below_starts entries pairs a m to

below_ends : (entries : List Entry) (pairs : List Pair) (a b : ℕ) → IsBelow entries pairs a b → b < length entries
below_ends entries pairs a b (Same h) = h
below_ends entries pairs a b (Through m _ to line) = (has_name entries line.pair.high b line.high).0

below_through : (entries : List Entry) (pairs : List Pair) (a b c : ℕ) → IsBelow entries pairs a b
    → IsBelow entries pairs b c → IsBelow entries pairs a c
below_through entries pairs a b c p (Same h) = p
below_through entries pairs a b c p (Through m _ to line) = Through m c (below_through entries pairs a b m p to) line

-- rows that say where the links of order lines lead are the closure of these lines
pub closure_of_rows : (entries : List Entry) (pairs : List Pair) (links above : List ℕ)
    → length above ≡ length entries →
    ((a b : ℕ) → (bit_at (get_or links a 0) b ≡ 1) ↔ IsWritten entries pairs a b) →
    ((a b : ℕ) → a < length entries → (bit_at (get_or above a 0) b ≡ 1) ↔ Leads links a b)
    → IsClosureOf entries pairs (order_of above)
closure_of_rows entries pairs links above len linked closed = record {
  elements = len;
  below = λ a b. (
    λ h. elim (cases_lt a (length entries)) [
      | inl within ↦
          below_from_leads entries pairs links linked a within b ((closed a b within).0 (leq_bit above a b h))
      | inr past ↦ absurd (none_past above a b (omega (arith, len, past)) (leq_bit above a b h))
    ],
    λ is. bit_leq above a b
        ((closed a b (below_starts entries pairs a b is)).1 (leads_from_below entries pairs links linked a b is)),
  );
}

-- a closure in which no two elements are below each other is an order
pub order_of_closure : (entries : List Entry) (pairs : List Pair) (order : Order) → IsClosureOf entries pairs order
    → HasNoPair (IsCycle order) (length entries) → IsOrder order
order_of_closure entries pairs order is acyclic =
    let inside : (a b : ℕ) → leq order a b ≡ true → (a < length entries) × (b < length entries) =
    λ a b h. (below_starts entries pairs a b ((is.below a b).0 h), below_ends entries pairs a b ((is.below a b).0 h)) in
    record {
      inside = λ a b h. (omega (arith, is.elements, (inside a b h).0), omega (arith, is.elements, (inside a b h).1));
      same = λ a h. (is.below a a).1 (Same (omega (arith, is.elements, h)));
      through =
          λ a b c p q. (is.below a c).1 (below_through entries pairs a b c ((is.below a b).0 p) ((is.below b c).0 q));
      apart = λ a b p q. elim (cases_order a b) [
        | inl e ↦ e
        | inr other ↦ elim other [
          | inl lt ↦ absurd (acyclic a b lt (inside a b p).1 (p, q))
          | inr gt ↦ absurd (acyclic b a gt (inside a b p).0 (q, p))
        ]
      ];
    }

-- rows that are turned round are the converse of those of an order
pub converse_of : (above below : List ℕ) → IsOrder (order_of above) → length below ≡ length above →
    ((a b : ℕ) → b < length above → (bit_at (get_or below b 0) a ≡ 1) ↔ (bit_at (get_or above a 0) b ≡ 1))
    → IsConverse above below
converse_of above below order len turned = record {
  elements = len;
  turned = λ a b. (
    λ h. elim (cases_lt b (length above)) [
      | inl within ↦ bit_leq above a b ((turned a b within).0 (leq_bit below b a h))
      | inr past ↦ absurd (none_past below b a (omega (arith, len, past)) (leq_bit below b a h))
    ],
    λ h. bit_leq below b a ((turned a b (order.inside a b h).1).1 (leq_bit above a b h)),
  );
}

same_upper : (order : Order) → IsOrder order → (a : ℕ) → a < size order → IsLeastUpper order a a a
same_upper order is a h = record { left = is.same a h; right = is.same a h; least = λ d p q. p }

same_lower : (order : Order) → IsOrder order → (a : ℕ) → a < size order → IsGreatestLower order a a a
same_lower order is a h = record { left = is.same a h; right = is.same a h; greatest = λ d p q. p }

turn_upper : (order : Order) (a b c : ℕ) → IsLeastUpper order a b c → IsLeastUpper order b a c
turn_upper order a b c is = record { left = is.right; right = is.left; least = λ d p q. is.least d q p }

turn_lower : (order : Order) (a b c : ℕ) → IsGreatestLower order a b c → IsGreatestLower order b a c
turn_lower order a b c is = record { left = is.right; right = is.left; greatest = λ d p q. is.greatest d q p }

-- two elements have both bounds where each element has them with those behind it
bounds_of : (order : Order) → IsOrder order → ((a : ℕ) → a < size order → AreBounded order a (size order)) → (a b : ℕ)
    → a < size order → b < size order → HasBounds order a b
bounds_of order is bounded a b p q = elim (cases_order a b) [
  | inl e ↦
      rw (← e) (record { upper = a; is_upper = same_upper order is a p; lower = a; is_lower = same_lower order is a p })
  | inr other ↦ elim other [
    | inl lt ↦ bounded a p b lt q
    | inr gt ↦
        let turned = bounded b q a gt p in
        record {
          upper = turned.upper;
          is_upper = turn_upper order b a turned.upper turned.is_upper;
          lower = turned.lower;
          is_lower = turn_lower order b a turned.lower turned.is_lower;
        }
  ]
]

-- an order with an element, in which each is bounded with those behind it, is a lattice
pub lattice_of : (order : Order) → IsOrder order → 0 < size order
    → ((a : ℕ) → a < size order → AreBounded order a (size order)) → IsLattice order
lattice_of order is some bounded = record {
  ordered = is;
  inhabited = some;
  joins = λ a b p q. let has = bounds_of order is bounded a b p q in (has.upper, has.is_upper);
  meets = λ a b p q. let has = bounds_of order is bounded a b p q in (has.lower, has.is_lower);
}

-- the same, of tables that the code reads through references

-- the rows that are made from the links of order lines are the closure of these lines
pub closure_made : (entries seen : List Entry) (pairs : List Pair) (links read above : List ℕ) → seen ≡ entries
    → read ≡ links → length links ≡ length seen →
    ((a b : ℕ) → (bit_at (get_or links a 0) b ≡ 1) ↔ IsWritten seen pairs a b) → length above ≡ length read →
    ((a b : ℕ) → a < length read → (bit_at (get_or above a 0) b ≡ 1) ↔ Leads read a b)
    → IsClosureOf entries pairs (order_of above)
closure_made entries seen pairs links read above e f len linked closed_len closed =
    let links_len : length links ≡ length entries = len ∙ ap length e in
    let above_len : length above ≡ length entries = closed_len ∙ ap length f ∙ links_len in
    let linked_now : (a b : ℕ) → (bit_at (get_or links a 0) b ≡ 1) ↔ IsWritten entries pairs a b = rw e at linked in
    let closed_now : (a b : ℕ) → a < length links → (bit_at (get_or above a 0) b ≡ 1) ↔ Leads links a b =
    rw f at closed in
    closure_of_rows entries pairs links above above_len linked_now
    (λ a b h. closed_now a b (omega (arith, links_len, h)))

-- a closure in whose rows no cycle is found is an order
pub order_made : (entries : List Entry) (pairs : List Pair) (above read : List ℕ)
    → IsClosureOf entries pairs (order_of above) → read ≡ above →
    HasNoPair (IsCycle (order_of read)) (length read) → IsOrder (order_of above)
order_made entries pairs above read closed e acyclic =
    let here : HasNoPair (IsCycle (order_of above)) (length above) = rw e at acyclic in
    order_of_closure entries pairs (order_of above) closed
    (λ a b lt within. here a b lt (omega (arith, closed.elements, within)))

-- the rows that are made by turning those of an order round are its converse
pub converse_made : (above read below : List ℕ) → IsOrder (order_of above) → read ≡ above → length below ≡ length read →
    ((a b : ℕ) → b < length read → (bit_at (get_or below b 0) a ≡ 1) ↔ (bit_at (get_or read a 0) b ≡ 1))
    → IsConverse above below
converse_made above read below order e len turned =
    let turned_now : (a b : ℕ) → b < length above
    → (bit_at (get_or below b 0) a ≡ 1) ↔ (bit_at (get_or above a 0) b ≡ 1) = rw e at turned in
    converse_of above below order (len ∙ ap length e) turned_now

-- an order in whose rows no lack of a bound is found is a lattice
pub lattice_made : (above read : List ℕ) → IsOrder (order_of above) → read ≡ above → 0 < length above →
    ((a : ℕ) → a < length read → AreBounded (order_of read) a (length read)) → IsLattice (order_of above)
lattice_made above read order e some bounded =
    let bounded_now : (a : ℕ) → a < length above → AreBounded (order_of above) a (length above) = rw e at bounded in
    lattice_of (order_of above) order some bounded_now

-- in a lattice the common part of two rows is the row of some element
pub join_there : (above : List ℕ) → IsLattice (order_of above) → (a b : ℕ) → a < length above → b < length above →
    (x : ℕ) × (x < length above) × (get_or above x 0 ≡ bit_and (get_or above a 0) (get_or above b 0))
join_there above lattice a b p q =
    let join = lattice.joins a b p q in
    (join.0, (lattice.ordered.inside a join.0 join.1.left).1, row_from_upper above lattice.ordered a b join.0 join.1)

-- in a lattice the common part of two rows read downwards is the row of some element
pub meet_there : (above below : List ℕ) → IsLattice (order_of above) → IsConverse above below → (a b : ℕ)
    → a < length above → b < length above →
    (x : ℕ) × (x < length below) × (get_or below x 0 ≡ bit_and (get_or below a 0) (get_or below b 0))
meet_there above below lattice turn a b p q =
    let meet = lattice.meets a b p q in
    let order = converse_order above below lattice.ordered turn in
    let upper = upper_from_lower above below turn a b meet.0 meet.1 in
    (meet.0, (order.inside a meet.0 upper.left).1, row_from_upper below order a b meet.0 upper)

pub meet_from_row : (above below : List ℕ) → IsOrder (order_of above) → IsConverse above below → (a b c : ℕ)
    → c < length below → get_or below c 0 ≡ bit_and (get_or below a 0) (get_or below b 0) →
    IsGreatestLower (order_of above) a b c
meet_from_row above below order turn a b c within e =
    lower_from_upper above below turn a b c
    (upper_from_row below (converse_order above below order turn) a b c within e)

-- at most 64 entries that pass the tests of names, of order lines and of levels are fit
pub fit_made : (entries : List Entry) (pairs : List Pair) (one two three : List Entry) → length entries ≤ 64
    → one ≡ entries → AreDistinct one (length one) →
    two ≡ entries → first_unknown two pairs ≡ None → three ≡ entries → AreOfOneLevel three (length three)
    → AreFit entries pairs
fit_made entries pairs one two three few e distinct f known g level =
    let distinct_now : AreDistinct entries (length entries) = rw e at distinct in
    let known_now : first_unknown entries pairs ≡ None = rw f at known in
    let level_now : AreOfOneLevel entries (length entries) = rw g at level in
    record {
      known = record { named = record { few = few; distinct = distinct_now }; known = known_now };
      level = level_now;
    }

-- the first cycle that is found in the rows is the one for which fit entries are refused
pub cycle_made : (entries : List Entry) (pairs : List Pair) (above read : List ℕ) (a b : ℕ) (one other : List ℕ)
    → AreFit entries pairs → IsClosureOf entries pairs (order_of above) →
    read ≡ above → IsFirstPair (IsCycle (order_of read)) (length read) a b → name_at entries a ≡ Some one
    → name_at entries b ≡ Some other → RefusesCycle entries pairs one other
cycle_made entries pairs above read a b one other fit closed e first p q =
    let first_now : IsFirstPair (IsCycle (order_of above)) (length above) a b = rw e at first in
    let elements : length above ≡ length entries = closed.elements in
    let first_here : IsFirstPair (IsCycle (order_of above)) (length entries) a b = rw elements at first_now in
    record {
      fit = fit;
      order = order_of above;
      closure = closed;
      a = a;
      b = b;
      first = first_here;
      one_named = p;
      other_named = q;
    }

-- the first lack of a bound that is found in the rows is the one for which fit entries are refused
pub lack_made : (entries : List Entry) (pairs : List Pair) (above read : List ℕ) (a b : ℕ) (one other : List ℕ)
    → AreFit entries pairs → IsClosureOf entries pairs (order_of above) →
    IsOrder (order_of above) → read ≡ above → IsFirstPair (LacksBound (order_of read)) (length read) a b
    → name_at entries a ≡ Some one → name_at entries b ≡ Some other →
    RefusesBounds entries pairs one other
lack_made entries pairs above read a b one other fit closed order e first p q =
    let first_now : IsFirstPair (LacksBound (order_of above)) (length above) a b = rw e at first in
    let elements : length above ≡ length entries = closed.elements in
    let first_here : IsFirstPair (LacksBound (order_of above)) (length entries) a b = rw elements at first_now in
    record {
      fit = fit;
      order = order_of above;
      closure = closed;
      acyclic = λ c d h. order.apart c d h.0 h.1;
      a = a;
      b = b;
      first = first_here;
      one_named = p;
      other_named = q;
    }
