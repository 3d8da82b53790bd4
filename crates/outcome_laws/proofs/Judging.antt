-- A program is accepted or rejected and not both. Its listings are least elements, and so they are one list.
use Rattle.std.proofs.Common.{◌≡◌, ℕ, zero, suc, ◌+◌, Bool, true, List, [], ◌∷◌, ◌++◌, length, Option, Some, slice_get, refl, sym, ◌∙◌, ap, subst, arith}
use Rattle.std.proofs.lemmas.List.{same_from_push}
use Rattle.lattice_core.specs.Order.{Order, IsOrder}
use Rattle.lattice_core.specs.View.{LatticeView, orders_of, AreLattices}
use Rattle.flow_graph.specs.System.{System}
use Rattle.flow_graph.specs.Unfolding.{Printed}
use Rattle.annotate.specs.declared.listing.Listing.{Listing}
use Rattle.annotate.specs.Texts.{Scene, accepted_text}
use Rattle.annotate.specs.Annotated.{annotation}
use Rattle.annotate.specs.Reports.{IsBottom, IsListed, AtBottom, Above, VarListings, NoLattice, NextLattice, Listings, NoVar, NextVar, IsOver, ErrorCount, NoneBelow, OneHolds, OneExceeds, IsAcceptedReport, IsJudgedWith, AcceptedWith, RejectedWith}
use Rattle.outcome_laws.specs.Judgements.{OneJudgement, OneErrorCount}

-- what is listed of a variable in one lattice

module _ (sys : System) (lattice : ℕ) (order : Order) (ordered : IsOrder order) (var : ℕ) where
  printed_once : (a b : ℕ) → Printed sys lattice order var a → Printed sys lattice order var b → a ≡ b
  printed_once a b h k = ordered.apart a b (h.least b k.can) (k.least a h.can)

  listed_once : (a b : List Listing) → IsListed sys lattice order var a → IsListed sys lattice order var b → a ≡ b
  listed_once _ _ (AtBottom x bottom h) (AtBottom y floor k) = refl
  listed_once _ _ (AtBottom x bottom h) (Above y other k) =
      absurd (other (subst (λ (e : ℕ). IsBottom order e) (printed_once x y h k) bottom))
  listed_once _ _ (Above x other h) (AtBottom y floor k) =
      absurd (other (subst (λ (e : ℕ). IsBottom order e) (printed_once y x k h) floor))
  listed_once _ _ (Above x other h) (Above y above k) =
      ap (λ (e : ℕ). record { var = var; lattice = lattice; elem = e } ∷ []) (printed_once x y h k)

-- the orders of lattices are orders
are_orders : (lattices : List LatticeView) → AreLattices lattices → (n : ℕ) (order : Order)
    → slice_get (orders_of lattices) n ≡ Some order →
    IsOrder order
are_orders [] h n order there = absurd cc
are_orders (l ∷ ls) h zero order there =
    let is : l.order ≡ order = cc in
    subst (λ (o : Order). IsOrder o) is (h zero l refl).ordered
are_orders (l ∷ ls) h (suc n) order there = are_orders ls (λ m view is. h (suc m) view is) n order there

no_push : {X : Type 0} (xs : List X) (x : X) → [] ≡ xs ++ x ∷ [] → ⊥
no_push [] x e = absurd cc
no_push (y ∷ ys) x e = absurd cc

-- in all lattices, and of all variables

module _ (lattices : List LatticeView) (sys : System) (are : AreLattices lattices) where
  var_listings_once : (var n m : ℕ) (a b : List Listing) → n ≡ m → VarListings lattices sys var n a
      → VarListings lattices sys var m b → a ≡ b
  var_listings_once var _ _ _ _ e NoLattice NoLattice = refl
  var_listings_once var _ _ _ _ e NoLattice (NextLattice l order before here there rest is) = absurd (omega (arith, e))
  var_listings_once var _ _ _ _ e (NextLattice l order before here there rest is) NoLattice = absurd (omega (arith, e))
  var_listings_once var _ _ _ _ e (NextLattice l order before here there rest is)
      (NextLattice k other ahead now found more so) =
      let same : l ≡ k = omega (arith, e) in
      let both : Some order ≡ Some other = sym there ∙ ap (λ (n : ℕ). slice_get (orders_of lattices) n) same ∙ found in
      let order_is : order ≡ other = cc in
      let front : before ≡ ahead = var_listings_once var l k before ahead same rest more in
      let behind : here ≡ now = listed_once sys l order (are_orders lattices are l order there) var here now is
      (subst (λ (o : Order). IsListed sys l o var now) (sym order_is)
      (subst (λ (n : ℕ). IsListed sys n other var now) (sym same) so)) in
      λ i. front i ++ behind i

  listings_once : (vars others : List ℕ) (a b : List Listing) → vars ≡ others → Listings lattices sys vars a
      → Listings lattices sys others b → a ≡ b
  listings_once _ _ _ _ e NoVar NoVar = refl
  listings_once _ _ _ _ e NoVar (NextVar vars var before here rest is) = absurd (no_push vars var e)
  listings_once _ _ _ _ e (NextVar vars var before here rest is) NoVar = absurd (no_push vars var (sym e))
  listings_once _ _ _ _ e (NextVar vars var before here rest is) (NextVar others v ahead now more so) =
      let same = same_from_push vars others var v e in
      let front : before ≡ ahead = listings_once vars others before ahead same.0 rest more in
      let behind : here ≡ now = var_listings_once var (length lattices) (length lattices) here now refl is
      (subst (λ (x : ℕ). VarListings lattices sys x (length lattices) now) (sym same.1) so) in
      λ i. front i ++ behind i

module _ (scene : Scene) (sys : System) where
  accepted_once : AreLattices scene.lattices
      → (a b : List ℕ) (h : IsAcceptedReport scene sys a) (k : IsAcceptedReport scene sys b) →
      h.listings ≡ k.listings
  accepted_once are a b h k =
      listings_once scene.lattices sys are scene.listed scene.listed h.listings k.listings refl h.listed k.listed

  count_once : (n m a b : ℕ) → n ≡ m → ErrorCount scene sys n a → ErrorCount scene sys m b → a ≡ b
  count_once _ _ _ _ e NoneBelow NoneBelow = refl
  count_once _ _ _ _ e NoneBelow (OneHolds n count rest no_over) = absurd (omega (arith, e))
  count_once _ _ _ _ e NoneBelow (OneExceeds n count rest over) = absurd (omega (arith, e))
  count_once _ _ _ _ e (OneHolds n count rest no_over) NoneBelow = absurd (omega (arith, e))
  count_once _ _ _ _ e (OneExceeds n count rest over) NoneBelow = absurd (omega (arith, e))
  count_once _ _ _ _ e (OneHolds n count rest no_over) (OneHolds m other more never) =
      count_once n m count other (omega (arith, e)) rest more
  count_once _ _ _ _ e (OneHolds n count rest no_over) (OneExceeds m other more over) =
      let same : n ≡ m = omega (arith, e) in absurd (no_over (subst (λ (x : ℕ). IsOver scene sys x) (sym same) over))
  count_once _ _ _ _ e (OneExceeds n count rest over) (OneHolds m other more never) =
      let same : n ≡ m = omega (arith, e) in absurd (never (subst (λ (x : ℕ). IsOver scene sys x) same over))
  count_once _ _ _ _ e (OneExceeds n count rest over) (OneExceeds m other more too) =
      ap (λ (x : ℕ). x + 1) (count_once n m count other (omega (arith, e)) rest more)

module _ (scene : Scene) (sys : System) (unit : Option ℕ) where
  judged_once : (one other : Bool) (a b : List ℕ) → IsJudgedWith scene sys unit one a
      → IsJudgedWith scene sys unit other b → one ≡ other
  judged_once _ _ a b (AcceptedWith _ report is spelled) (AcceptedWith _ words so written) = refl
  judged_once _ _ a b (AcceptedWith _ report is spelled) (RejectedWith _ so) = absurd (so.rejected is.accepted)
  judged_once _ _ a b (RejectedWith _ is) (AcceptedWith _ words so written) = absurd (is.rejected so.accepted)
  judged_once _ _ a b (RejectedWith _ is) (RejectedWith _ so) = refl

  text_once : AreLattices scene.lattices → (one other : Bool) (a b : List ℕ) → one ≡ true → other ≡ true
      → IsJudgedWith scene sys unit one a →
      IsJudgedWith scene sys unit other b → a ≡ b
  text_once are _ _ a b e f (AcceptedWith _ report is spelled) (AcceptedWith _ words so written) =
      let listings = accepted_once scene sys are report words is so in
      let texts : report ≡ words = is.spelled ∙ ap (accepted_text scene) listings ∙ sym so.spelled in
      spelled ∙ (λ i. texts i ++ annotation scene unit (listings i)) ∙ sym written
  text_once are _ _ a b e f (AcceptedWith _ report is spelled) (RejectedWith _ so) = absurd cc
  text_once are _ _ a b e f (RejectedWith _ is) (AcceptedWith _ words so written) = absurd cc
  text_once are _ _ a b e f (RejectedWith _ is) (RejectedWith _ so) = absurd cc

-- a program over lattices is accepted or rejected and not both, and what is accepted has one text
pub one_judgement : OneJudgement
one_judgement scene sys unit are accepted text h = record {
  only = λ other words k. judged_once scene sys unit accepted other text words h k;
  one_text = λ e words k. text_once scene sys unit are accepted true text words e refl h k;
}

pub one_error_count : OneErrorCount
one_error_count scene sys number count other h k = count_once scene sys number number count other refl h k
