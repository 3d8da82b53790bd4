-- Lattices by their numbers, and a solution for each.
use Rattle.std.proofs.Common.{◌≡◌, ℕ, zero, suc, ◌≤◌, List, [], ◌∷◌, length, Some, slice_get, refl, sym, ◌∙◌, ap, subst, arith}
use Rattle.std.proofs.lemmas.Option.{slice_get_within}
use Rattle.lattice_core.specs.Order.{Order}
use Rattle.lattice_core.specs.View.{LatticeView, orders_of}
use Rattle.flow_graph.specs.declared.constraint.Constraint.{Constraint}
use Rattle.flow_graph.specs.declared.constraint.Link.TheVariants.{Bound}
use Rattle.flow_graph.specs.System.{System}
use Rattle.flow_graph.specs.Unfolding.{IsAccepted, IsAcceptedIn, IsExceeded}
use Rattle.flow_graph.proofs.Links.{some_constraint}
use Rattle.annotate.specs.Texts.{Scene}
use Rattle.annotate.specs.declared.solving.Solved.{Solved}
use Rattle.annotate.specs.Solutions.{AreSolutions, AreKept}
use Rattle.annotate.specs.Reports.{IsOver, IsAtOnce}
use Rattle.annotate.proofs.SceneLemmas.{item_at}

-- the lattice of an order with a number
pub record ViewOf (lattices : List LatticeView) (n : ℕ) (order : Order) : Type 0 where
  pub view : LatticeView
  pub there : slice_get lattices n ≡ Some view
  pub order_is : view.order ≡ order

some_order : {x y : Order} → Some x ≡ Some y → x ≡ y
some_order e = cc

-- the order of a lattice by its number is that of the view of this lattice
pub view_of : (lattices : List LatticeView) (n : ℕ) (order : Order) → slice_get (orders_of lattices) n ≡ Some order
    → ViewOf lattices n order
view_of [] n order is = absurd cc
view_of (x ∷ xs) zero order is = record { view = x; there = refl; order_is = some_order is }
view_of (x ∷ xs) (suc n) order is =
    let rest = view_of xs n order is in
    record { view = rest.view; there = rest.there; order_is = rest.order_is }

-- a program that keeps the bounds of each lattice is accepted
pub accepted_all : (sys : System) (lattices : List LatticeView) (solutions : List Solved)
    → AreSolutions sys lattices solutions → AreKept sys lattices solutions → IsAccepted sys (orders_of lattices)
accepted_all sys lattices solutions are kept n order is =
    let v = view_of lattices n order is in
    let within = slice_get_within lattices n v.view v.there in
    let count = are.count in
    let s = item_at solutions n (omega (arith, within, count)) in
    let own : IsAcceptedIn sys s.item.solver.lattice v.view.order = (kept n v.view s.item v.there s.there).accepted in
    let At : ℕ → Type 0 = λ l. IsAcceptedIn sys l v.view.order in
    subst (IsAcceptedIn sys n) v.order_is (subst At (are.each n s.item s.there).lattice_is own)

-- and one assignment serves all copies of all variables at once
pub at_once_all : (sys : System) (lattices : List LatticeView) (solutions : List Solved)
    → AreSolutions sys lattices solutions → AreKept sys lattices solutions →
    (lattice : ℕ) (order : Order) → slice_get (orders_of lattices) lattice ≡ Some order → IsAtOnce sys lattice order
at_once_all sys lattices solutions are kept n order is =
    let v = view_of lattices n order is in
    let within = slice_get_within lattices n v.view v.there in
    let count = are.count in
    let s = item_at solutions n (omega (arith, within, count)) in
    let own : IsAtOnce sys s.item.solver.lattice v.view.order =
    (let once = (kept n v.view s.item v.there s.there).at_once in
    record { copies = once.copies; meets = once.meets; below = λ v sites r is. once.below v r sites is }) in
    let At : ℕ → Type 0 = λ l. IsAtOnce sys l v.view.order in
    subst (IsAtOnce sys n) v.order_is (subst At (are.each n s.item s.there).lattice_is own)

lattice_is : {v w l m a b : ℕ} → Bound v l a ≡ Bound w m b → l ≡ m
lattice_is e = cc

-- a bound that is exceeded is exceeded in the lattice that it names
pub same_over : (scene : Scene) (sys : System) (n : ℕ) (c : Constraint) (v lattice limit : ℕ) (order : Order)
    → slice_get sys.constraints n ≡ Some c → c.link ≡ Bound v lattice limit →
    slice_get (orders_of scene.lattices) lattice ≡ Some order → IsOver scene sys n → IsExceeded sys lattice order n
same_over scene sys n c v lattice limit order there link order_is over =
    let bound = over.exceeded.bound in
    let same : bound.constraint ≡ c = some_constraint (sym bound.there ∙ there) in
    let named : over.lattice ≡ lattice = lattice_is (sym bound.link_is ∙ ap (λ (k : Constraint). k.link) same ∙ link) in
    let orders : over.order ≡ order =
    some_order (sym over.there ∙ ap (slice_get (orders_of scene.lattices)) named ∙ order_is) in
    let In : ℕ → Type 0 = λ l. IsExceeded sys l over.order n in
    let By : Order → Type 0 = λ o. IsExceeded sys lattice o n in
    subst By orders (subst In named over.exceeded)

-- a bound of a lattice that is not there is exceeded in no lattice
pub none_there : (scene : Scene) (sys : System) (n : ℕ) (c : Constraint) (v lattice limit : ℕ)
    → slice_get sys.constraints n ≡ Some c → c.link ≡ Bound v lattice limit → length scene.lattices ≤ lattice →
    IsOver scene sys n → ⊥
none_there scene sys n c v lattice limit there link past over =
    let bound = over.exceeded.bound in
    let same : bound.constraint ≡ c = some_constraint (sym bound.there ∙ there) in
    let named : over.lattice ≡ lattice = lattice_is (sym bound.link_is ∙ ap (λ (k : Constraint). k.link) same ∙ link) in
    let view = view_of scene.lattices over.lattice over.order over.there in
    let within = slice_get_within scene.lattices over.lattice view.view view.there in
    omega (arith, within, named, past)
