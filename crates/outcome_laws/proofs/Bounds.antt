-- Lattices that are read are few and small, and so what certificates are read over is bounded.
use Rattle.std.proofs.Common.{◌≡◌, ℕ, Bool, zero, suc, ◌≤◌, arith, List, [], ◌∷◌, length, slice_get, Some, refl, ap, subst}
use Rattle.std.proofs.lemmas.List.{length-map}
use Rattle.lattice_core.specs.Order.{Order, size}
use Rattle.lattice_core.specs.View.{LatticeView, orders_of}
use Rattle.lattice_file.specs.Blocks.{BlockView, AreAllBuilt}
use Rattle.flow_graph.specs.System.{System, most_constraints}
use Rattle.certificate_reader.specs.Laws.{IsBounded}
use Rattle.cqual_tool.specs.Outcome.{LatticesRead}

-- no more lattices, and no more elements, than a file may have
pub record AreFew (lattices : List LatticeView) : Type 0 where
  pub lattices_are : length (orders_of lattices) ≤ 16
  pub elements : (n : ℕ) (order : Order) → slice_get (orders_of lattices) n ≡ Some order → size order ≤ 64

-- blocks that are all built give as many lattices as there are blocks
as_many : (blocks : List BlockView) (lattices : List LatticeView) → AreAllBuilt blocks lattices
    → length lattices ≡ length blocks
as_many [] [] h = refl
as_many [] (l ∷ ls) h = absurd h
as_many (b ∷ bs) [] h = absurd h
as_many (b ∷ bs) (l ∷ ls) h = ap suc (as_many bs ls h.1)

-- each order of lattices that are built has at most 64 elements
small : (blocks : List BlockView) (lattices : List LatticeView) → AreAllBuilt blocks lattices → (n : ℕ) (order : Order)
    → slice_get (orders_of lattices) n ≡ Some order → size order ≤ 64
small [] [] h n order there = absurd cc
small [] (l ∷ ls) h n order there = absurd h
small (b ∷ bs) [] h n order there = absurd h
small (b ∷ bs) (l ∷ ls) h zero order there =
    let same : l.order ≡ order = cc in
    let few = h.0.built.fit.known.named.few in
    let elements = h.0.built.closure.elements in
    subst (λ (o : Order). size o ≤ 64) same (omega (arith, few, elements))
small (b ∷ bs) (l ∷ ls) h (suc n) order there = small bs ls h.1 n order there

-- a lattice file reads as at most 16 lattices, each of at most 64 elements
pub read_few : (wide : Bool) (bytes : List ℕ) (lattices : List LatticeView) → LatticesRead wide bytes lattices
    → AreFew lattices
read_few wide bytes lattices h = record {
  lattices_are =
      let same = length-map lattices (λ (lattice : LatticeView). lattice.order) in
      let many = as_many h.read.blocks lattices h.read.built in
      let few = h.read.few in omega (arith, same, many, few);
  elements = small h.read.blocks lattices h.read.built;
}

pub bounded : (sys : System) (lattices : List LatticeView) → AreFew lattices → length sys.constraints ≤ most_constraints
    → IsBounded sys (orders_of lattices)
bounded sys lattices few within = record { constraints = within; lattices = few.lattices_are; elements = few.elements }
