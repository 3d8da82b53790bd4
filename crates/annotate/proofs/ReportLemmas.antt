-- Reports from their parts.
use Rattle.std.proofs.Common.{◌≡◌, Bool, true, ℕ, suc, ◌+◌, ◌<◌, arith, List, [], ◌∷◌, take, get_or, ◌++◌, length, slice_get, Option}
use Rattle.std.proofs.Common.{Some, None, IsSome, MatchOption, codes, refl, sym, ◌∙◌, ap, subst, append_assoc, append-nil}
use Rattle.std.proofs.lemmas.Option.{slice_get_within}
use Rattle.std.proofs.Math.Seq.{take-suc}
use Rattle.lattice_core.specs.Order.{Order, IsLattice, IsJoinOf}
use Rattle.flow_graph.specs.declared.constraint.Constraint.{Constraint}
use Rattle.flow_graph.specs.declared.constraint.Limit.{Limit}
use Rattle.flow_graph.specs.declared.constraint.Link.{Link}
use Rattle.flow_graph.specs.declared.constraint.Link.TheVariants.{Const, Bound}
use Rattle.flow_graph.specs.System.{System, IsNoBound}
use Rattle.flow_graph.specs.Unfolding.{IsAccepted, Printed}
use Rattle.flow_graph.specs.declared.proof.PathProof.{PathProof}
use Rattle.flow_graph.specs.PathProofs.{AreApart, Holds, steps_of}
use Rattle.flow_laws.specs.Refuting.{ExceededIsRefuted}
use Rattle.lattice_solver.specs.Solution.{Solution, reached_at, IsKept, Exceeds}
use Rattle.error_path.specs.Shown.{BeginsOver, EndsWith}
use Rattle.annotate.specs.declared.listing.Listing.{Listing}
use Rattle.annotate.specs.Texts.{Scene, line, accepted_text, error_line, proof_text}
use Rattle.annotate.specs.Annotated.{annotation}
use Rattle.annotate.specs.Solutions.{Adds, IsListedIn}
use Rattle.annotate.specs.Reports.{IsAtOnce, IsBottom, AtBottom, Above, VarListings, Listings, NextVar, IsError, IsOver, Errors}
use Rattle.annotate.specs.Reports.{IsAcceptedReport, IsRejectedReport, IsJudged, JudgedAccepted, JudgedRejected, IsJudgedWith}
use Rattle.annotate.specs.Reports.{AcceptedWith, RejectedWith}
use Rattle.lattice_core.specs.View.{LatticeView, orders_of}
use Rattle.flow_graph.proofs.Links.{some_constraint}

-- a constraint that is a bound is found as one in its lattice
pub bound_found : (link : Link) (lattice v e : ℕ) (B : Limit → Type 0) (found : Option Limit) → link ≡ Bound v lattice e
    → MatchOption found (IsNoBound link lattice) B → IsSome found
bound_found link lattice v e B None is none = absurd (none v e is)
bound_found link lattice v e B (Some limit) is given = refl

pub limit_given : (A : Type 0) (B : Limit → Type 0) (found : Option Limit) (limit : Limit) → found ≡ Some limit
    → MatchOption found A B → B limit
limit_given A B found limit is given = let Of : Option Limit → Type 0 = λ x. MatchOption x A B in subst Of is given

-- an accepted report of what is listed, with what stands behind it
pub accepted_with : (scene : Scene) (sys : System) (unit : Option ℕ) (listings : List Listing) (text : List ℕ) →
    IsAccepted sys (orders_of scene.lattices) →
    ((lattice : ℕ) (order : Order) → slice_get (orders_of scene.lattices) lattice ≡ Some order
    → IsAtOnce sys lattice order) →
    Listings scene.lattices sys scene.listed listings
    → text ≡ accepted_text scene listings ++ annotation scene unit listings →
    IsJudgedWith scene sys unit true text
accepted_with scene sys unit listings text accepted at_once listed is =
    AcceptedWith text (accepted_text scene listings)
    (record { accepted = accepted; at_once = at_once; listings = listings; listed = listed; spelled = refl }) is

-- where no annotated source is asked for, it is the report alone
pub judged_alone : (scene : Scene) (sys : System) (accepted : Bool) (text : List ℕ)
    → IsJudgedWith scene sys None accepted text →
    IsJudged scene sys accepted text
judged_alone scene sys accepted text (AcceptedWith _ report is spelled) =
    let Is : List ℕ → Type 0 = λ t. IsAcceptedReport scene sys t in
    JudgedAccepted text (subst Is (sym (spelled ∙ append-nil report)) is)
judged_alone scene sys accepted text (RejectedWith _ is) = JudgedRejected text is

-- where some bound is exceeded, the program is not accepted
pub over_is_refuted : (scene : Scene) (sys : System) (n : ℕ) → ExceededIsRefuted → IsOver scene sys n →
    IsAccepted sys (orders_of scene.lattices) → ⊥
over_is_refuted scene sys n law over accepted =
    law sys over.lattice over.order n over.exceeded (accepted over.lattice over.order over.there)

-- the line `rejected`, and the errors of all exceeded bounds behind it, are the report of a program with one
pub rejected_report : (scene : Scene) (sys : System) (text begun errors : List ℕ) → ExceededIsRefuted → (n : ℕ)
    → IsOver scene sys n →
    begun ≡ line (codes "rejected") → text ≡ begun ++ errors → Errors scene sys (length sys.constraints) errors
    → IsRejectedReport scene sys text
rejected_report scene sys text begun errors law n over begins is listed = record {
  rejected = over_is_refuted scene sys n law over;
  errors = errors;
  listed = listed;
  spelled = is ∙ ap (λ (t : List ℕ). t ++ errors) begins;
}

-- what is listed from the least element of the solution of a lattice
module _ (lattices : List LatticeView) (sys : System) (number : ℕ) (order : Order)
    (there : slice_get (orders_of lattices) number
    ≡ Some order) (solution : Solution) (var elem bottom : ℕ)
    (own : solution.lattice ≡ number) (kept : IsKept sys solution order) (lattice : IsLattice order)
    (is_bottom : IsBottom order bottom) (join : IsJoinOf order (reached_at solution var) elem) where
  printed : Printed sys number order var elem
  printed = let Is : ℕ → Type 0 = λ l. Printed sys l order var elem in subst Is own (kept.printed var elem join)

  pub not_listed : elem ≡ bottom → IsListedIn lattices sys number var []
  not_listed same = record {
    order = order;
    there = there;
    is = AtBottom elem
        (let Is : ℕ → Type 0 = λ a. IsBottom order a in subst Is (sym same) is_bottom) printed;
  }

  pub one_listed : (elem ≡ bottom → ⊥)
      → IsListedIn lattices sys number var (record { var = var; lattice = number; elem = elem } ∷ [])
  one_listed other = record {
    order = order;
    there = there;
    is = Above elem
        (λ low. other (lattice.ordered.apart elem bottom (low.1 bottom is_bottom.0) (is_bottom.1 elem low.0))) printed;
  }

-- nothing more is listed, or one list and then another
pub adds_none : (old : List Listing) (Is : List Listing → Type 0) → Is [] → Adds old old Is
adds_none old Is none = record { here = []; added = sym (append-nil old); is = none }

-- what is added twice, one behind the other, is added with what both give together
pub adds_both : {a b c : List Listing} {Is Has : List Listing → Type 0} (Both : List Listing → Type 0) → Adds a b Is
    → Adds b c Has →
    ((x y : List Listing) → Is x → Has y → Both (x ++ y)) → Adds a c Both
adds_both {a = a} Both one two both = record {
  here = one.here ++ two.here;
  added = two.added ∙ ap (λ (l : List Listing). l ++ two.here) one.added ∙ append_assoc a one.here two.here;
  is = both one.here two.here one.is two.is;
}

-- the items of a list up to one and with it
pub taken_more : {A : Type 0} (xs : List A) (n : ℕ) (x : A) → n < length xs → get_or xs n x ≡ x
    → take n xs ++ x ∷ [] ≡ take (n + 1) xs
taken_more {A} xs n x within is =
    let step : suc n ≡ n + 1 = omega arith in
    ap (λ (y : A). take n xs ++ y ∷ []) (sym is) ∙ sym (take-suc xs n x within) ∙ ap (λ k. take k xs) step

-- what is listed with one variable more
pub next_listed : (lattices : List LatticeView) (sys : System) (vars : List ℕ) (n var : ℕ)
    (before here : List Listing) →
    n < length vars → get_or vars n var ≡ var → Listings lattices sys (take n vars) before →
    VarListings lattices sys var (length lattices) here → Listings lattices sys (take (n + 1) vars) (before ++ here)
next_listed lattices sys vars n var before here within is first next =
    let Of : List ℕ → Type 0 = λ taken. Listings lattices sys taken (before ++ here) in
    subst Of (taken_more vars n var within is) (NextVar (take n vars) var before here first next)

bound_is : {v w l m a b : ℕ} → Bound v l a ≡ Bound w m b → (l ≡ m) × (a ≡ b)
bound_is e = (cc, cc)

-- the error of a bound that an element exceeds, with its path proof
module _ (sys : System) (solution : Solution) (order : Order) (number : ℕ) (constraint : Constraint)
    (there : slice_get sys.constraints number ≡ Some constraint)
    (elem : ℕ) (exceeds : Exceeds sys solution order number elem) where
  same : exceeds.bound.constraint ≡ constraint
  same = some_constraint (sym exceeds.bound.there ∙ there)

  pub link_is : constraint.link ≡ Bound exceeds.var solution.lattice exceeds.limit
  link_is = ap (λ (c : Constraint). c.link) (sym same) ∙ exceeds.bound.link_is

  pub limit_is : (v lattice limit : ℕ) → constraint.link ≡ Bound v lattice limit
      → (solution.lattice ≡ lattice) × (exceeds.limit ≡ limit)
  limit_is v lattice limit is = bound_is (sym link_is ∙ is)

module _ (scene : Scene) (sys : System) (solution : Solution) (order : Order) (number : ℕ) (proof : PathProof)
    (constraint : Constraint) (there : slice_get sys.constraints number ≡ Some constraint)
    (elem : ℕ) (exceeds : Exceeds sys solution order number elem) where
  pub error_of : Holds sys (orders_of scene.lattices) proof → EndsWith number proof
      → AreApart sys (steps_of proof.subs.items) → (begins : BeginsOver sys solution order number proof) →
      IsError scene sys number (error_line scene solution.lattice begins.element exceeds.limit constraint.span
      ++ proof_text scene sys (steps_of proof.subs.items) proof.main.items)
  error_of holds ends apart begins = record {
    subs = steps_of proof.subs.items;
    main = proof.main.items;
    end = proof.end;
    holds = holds;
    apart = apart;
    start = begins.number;
    start_line = 0;
    begins = begins.first;
    last_line = 0;
    finishes = ends;
    lattice = solution.lattice;
    elem = begins.element;
    from = begins.var;
    constant = begins.constant;
    limit = exceeds.limit;
    at = exceeds.var;
    bound = record {
      constraint = constraint;
      there = there;
      link_is = link_is sys solution order number constraint there elem exceeds;
      carried = refl;
    };
    spelled = refl;
  }

  -- the same, as the numbers are read
  pub error_as : Holds sys (orders_of scene.lattices) proof → EndsWith number proof
      → AreApart sys (steps_of proof.subs.items) → (begins : BeginsOver sys solution order number proof) →
      (lattice element limit : ℕ) → solution.lattice ≡ lattice → begins.element ≡ element → exceeds.limit ≡ limit →
      IsError scene sys number (error_line scene lattice element limit constraint.span
      ++ proof_text scene sys (steps_of proof.subs.items) proof.main.items)
  error_as holds ends apart begins lattice element limit lattice_is element_is same_limit =
      let text : ℕ → ℕ → ℕ → List ℕ = λ l e b.
      error_line scene l e b constraint.span ++ proof_text scene sys (steps_of proof.subs.items) proof.main.items in
      let In : ℕ → Type 0 = λ l. IsError scene sys number (text l element limit) in
      let Of : ℕ → Type 0 = λ e. IsError scene sys number (text solution.lattice e limit) in
      let By : ℕ → Type 0 = λ b. IsError scene sys number (text solution.lattice begins.element b) in
      subst In lattice_is (subst Of element_is (subst By same_limit (error_of holds ends apart begins)))

const_is : {v w l m a b : ℕ} → Const l a v ≡ Const m b w → a ≡ b
const_is e = cc

-- the constant that a path proof begins with, as it is read
module _ (sys : System) (solution : Solution) (order : Order) (bound : ℕ) (proof : PathProof)
    (begins : BeginsOver sys solution order bound proof) (edge : ℕ) (edge_is : edge ≡ begins.number) where
  pub edge_within : edge < length sys.constraints
  edge_within =
      let within = slice_get_within sys.constraints begins.number begins.constant.constraint begins.constant.there in
      omega (arith, within, edge_is)

  pub start_link : (start : Constraint) → slice_get sys.constraints edge ≡ Some start
      → start.link ≡ Const solution.lattice begins.element begins.var
  start_link start there =
      ap (λ (c : Constraint). c.link) (some_constraint
      (sym there ∙ ap (slice_get sys.constraints) edge_is ∙ begins.constant.there)) ∙ begins.constant.link_is

  pub element_is : (start : Constraint) → slice_get sys.constraints edge ≡ Some start → (lattice elem v : ℕ)
      → start.link ≡ Const lattice elem v → begins.element ≡ elem
  element_is start there lattice elem v is = const_is (sym (start_link start there) ∙ is)
