-- Which libraries may have signatures: one lattice, and constraints of which none is shared.
use Rattle.std.proofs.Common.{◌≡◌, ℕ, ◌+◌, ◌<◌, List, [], ◌∷◌, length, slice_get, Some, refl, sym, arith, IsTrue, ◌↔◌, Bool, subst, below_more}
use Rattle.lattice_core.specs.View.{LatticeView}
use Rattle.flow_graph.specs.System.{System, Has}
use Rattle.flow_graph.specs.declared.constraint.Link.{Link}
use Rattle.flow_graph.specs.declared.constraint.Constraint.{Constraint}
use Rattle.sig_writer.specs.Suits.{IsPlain, IsOnePlain, IsShared, AreOwnBelow, IsFirstShared}

-- a list of one item is that item alone
alone : (lattices : List LatticeView) (n : ℕ) (lattice : LatticeView) → length lattices ≡ 1 → n ≡ 0
    → slice_get lattices n ≡ Some lattice → lattices ≡ lattice ∷ []
alone [] n lattice one zero_is there = absurd cc
alone (x ∷ []) n lattice one zero_is there = cc
alone (x ∷ y ∷ more) n lattice one zero_is there = absurd (omega (arith, one))

only_one : (lattices : List LatticeView) (lattice : LatticeView) → lattices ≡ lattice ∷ [] → IsOnePlain lattices
    → IsPlain lattice
only_one lattices lattice is plain = let same : plain.0 ≡ lattice = cc in subst IsPlain same plain.2

-- a list of one lattice is one plain lattice exactly where its lattice at 0 is plain
pub one_plain : (lattices : List LatticeView) (n : ℕ) (lattice : LatticeView) (result : Bool) → length lattices ≡ 1
    → n ≡ 0 → slice_get lattices n ≡ Some lattice
    → (IsTrue result ↔ IsPlain lattice) → (IsTrue result ↔ IsOnePlain lattices)
one_plain lattices n lattice result one zero_is there is =
    let all = alone lattices n lattice one zero_is there in
    (λ yes. (lattice, all, is.0 yes), λ plain. is.1 (only_one lattices lattice all plain))

-- ---- constraints with a variable of nobody

-- one more constraint that is not shared
pub own_more : (sys : System) (n : ℕ) (it : Constraint) → slice_get sys.constraints n ≡ Some it
    → (IsShared sys it.link → ⊥) → AreOwnBelow sys n → AreOwnBelow sys (n + 1)
own_more sys n it there own below =
    let Own : ℕ → Type 0 = λ k. (link : Link) → Has sys k link → IsShared sys link → ⊥ in
    let here : Own n = λ link has shared. let same : it ≡ has.constraint = cc in
    let is : link ≡ it.link = cc in own (subst (IsShared sys) is shared) in
    let all : (k : ℕ) → k < n + 1 → Own k = below_more Own n (λ k lt link. below k link lt) here in
    λ m link lt. all m lt link

-- a shared constraint below which none is shared is the first shared one
pub first_is : (sys : System) (n k : ℕ) (it : Constraint) → n ≡ k → slice_get sys.constraints n ≡ Some it
    → IsShared sys it.link → AreOwnBelow sys k → IsFirstShared sys n
first_is sys n k it same there shared below = record {
  link = it.link;
  there = record { constraint = it; there = there; link_is = refl };
  shared = shared;
  first = subst (AreOwnBelow sys) (sym same) below;
}
