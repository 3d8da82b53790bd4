-- Bytes read as one list of lattices, and have no fault beside it.
use Rattle.std.proofs.Common.{◌≡◌, ◌≢◌, ℕ, ◌<◌, zero, suc, Bool, true, List, [], ◌∷◌, length, get_or, Some, None, slice_get, refl, sym, ◌∙◌, ap, subst, arith, inl, inr}
use Rattle.std.proofs.lemmas.Grind.{same_number_lists}
use Rattle.lattice_core.specs.declared.Entry.{Entry}
use Rattle.lattice_core.specs.declared.Pair.{Pair}
use Rattle.lattice_core.specs.declared.LatticeFault.{LatticeFault}
use Rattle.lattice_core.specs.declared.LatticeFault.TheVariants.{TooMany, Repeated, UnknownName, LevelMix, Cycle, NotALattice, NoMemory}
use Rattle.lattice_core.specs.Order.{Order, size, leq}
use Rattle.lattice_core.specs.View.{LatticeView}
use Rattle.lattice_core.specs.Building.{IsClosureOf, LacksBound, AreBuilt, Refuses}
use Rattle.lattice_core.proofs.UpperLower.{same_row, leq_bit, bit_leq}
use Rattle.lattice_file.specs.Blocks.{BlockView, IsBuilt, AreAllBuilt, IsFirstRefused}
use Rattle.lattice_file.specs.Sharing.{AreApart}
use Rattle.lattice_file.specs.Faults.{Reads, IsFileFault}
use Rattle.lattice_file.specs.declared.reading.LatticeFileFault.{LatticeFileFault}
use Rattle.lattice_file.specs.declared.reading.LatticeFileFault.TheVariants.{Block, Grammar, TooManyLattices, SharedName, NoMemory as OutOfMemory}
use Rattle.lattice_file.proofs.OneReading.{one_reading}
use Rattle.lattice_file.proofs.AnswerLemmas.{bad_no_text}
use Rattle.outcome_laws.specs.Readings.{OneReadingOfLattices}

-- an order on some entries is one closure of the order lines

module _ (entries : List Entry) (pairs : List Pair) where
  leq_moves : (one other : Order) → IsClosureOf entries pairs one → IsClosureOf entries pairs other → (a b : ℕ) →
      leq one a b ≡ true → leq other a b ≡ true
  leq_moves one other h k a b less = (k.below a b).1 ((h.below a b).0 less)

  order_one : (one other : Order) → IsClosureOf entries pairs one → IsClosureOf entries pairs other → one ≡ other
  order_one one other h k = λ i. record { above = rows i }
    where
      row : (a : ℕ) → get_or one.above a 0 ≡ get_or other.above a 0
      row a = same_row (get_or one.above a 0) (get_or other.above a 0)
          (λ b e. leq_bit other.above a b (leq_moves one other h k a b (bit_leq one.above a b e)))
          (λ b e. leq_bit one.above a b (leq_moves other one k h a b (bit_leq other.above a b e)))

      rows : one.above ≡ other.above
      rows = same_number_lists one.above other.above (h.elements ∙ sym k.elements) (λ a within. row a)

  -- and no refusal stands beside a lattice that is built of them
  built_not_refused : (lattice : LatticeView) (fault : LatticeFault) → AreBuilt entries pairs lattice
      → fault ≢ NoMemory →
      Refuses entries pairs fault → ⊥
  built_not_refused lattice TooMany h reason refused = let few = h.fit.known.named.few in omega (arith, few, refused)
  built_not_refused lattice (Repeated name) h reason refused =
      h.fit.known.named.distinct refused.first.earlier.0 refused.at refused.first.earlier.1 refused.first.within
      refused.first.earlier.2
  built_not_refused lattice (UnknownName name) h reason refused =
      let e : None ≡ Some name = sym h.fit.known.known ∙ refused.first in cc
  built_not_refused lattice (LevelMix one other) h reason refused =
      refused.first.other (h.fit.level refused.at refused.first.within)
  built_not_refused lattice (Cycle one other) h reason refused =
      let e : refused.a ≡ refused.b = h.bounded.ordered.apart refused.a refused.b
      (leq_moves refused.order lattice.order refused.closure h.closure refused.a refused.b refused.first.has.0)
      (leq_moves refused.order lattice.order refused.closure h.closure refused.b refused.a refused.first.has.1) in
      omega (arith, e, refused.first.apart)
  built_not_refused lattice (NotALattice one other) h reason refused =
      by (subst (λ (o : Order). LacksBound o refused.a refused.b)
      (order_one refused.order lattice.order refused.closure h.closure) refused.first.has)
    where
      below_a : refused.a < size lattice.order
      below_a = omega (arith, h.closure.elements, refused.first.apart, refused.first.within)

      below_b : refused.b < size lattice.order
      below_b = omega (arith, h.closure.elements, refused.first.within)

      by : LacksBound lattice.order refused.a refused.b → ⊥
      by (inl lacks) =
          lacks (h.bounded.joins refused.a refused.b below_a below_b).0
          (h.bounded.joins refused.a refused.b below_a below_b).1
      by (inr lacks) =
          lacks (h.bounded.meets refused.a refused.b below_a below_b).0
          (h.bounded.meets refused.a refused.b below_a below_b).1
  built_not_refused lattice NoMemory h reason refused = reason refl

-- a block builds one lattice
built_one : (block : BlockView) (a b : LatticeView) → IsBuilt block a → IsBuilt block b → a ≡ b
built_one block a b h k = λ i. record {
  entries = (h.built.same ∙ sym k.built.same) i;
  order = order_one block.entries block.pairs a.order b.order h.built.closure k.built.closure i;
  flows = (h.flows ∙ sym k.flows) i;
}

-- blocks build one list of lattices
all_built_one : (blocks : List BlockView) (a b : List LatticeView) → AreAllBuilt blocks a → AreAllBuilt blocks b → a ≡ b
all_built_one [] [] [] h k = refl
all_built_one [] [] (y ∷ b) h k = absurd k
all_built_one [] (x ∷ a) b h k = absurd h
all_built_one (block ∷ blocks) [] b h k = absurd h
all_built_one (block ∷ blocks) (x ∷ a) [] h k = absurd k
all_built_one (block ∷ blocks) (x ∷ a) (y ∷ b) h k =
    λ i. built_one block x y h.0 k.0 i ∷ all_built_one blocks a b h.1 k.1 i

-- each block of a file whose blocks are all built has a lattice of its own
built_at : (blocks : List BlockView) (lattices : List LatticeView) (at : ℕ) (block : BlockView)
    → AreAllBuilt blocks lattices →
    slice_get blocks at ≡ Some block → (lattice : LatticeView) × IsBuilt block lattice
built_at [] lattices at block h there = absurd cc
built_at (b ∷ blocks) [] at block h there = absurd h
built_at (b ∷ blocks) (l ∷ lattices) zero block h there =
    let e : b ≡ block = cc in (l, subst (λ (x : BlockView). IsBuilt x l) e h.0)
built_at (b ∷ blocks) (l ∷ lattices) (suc at) block h there = built_at blocks lattices at block h.1 there

-- an index at which there is a lattice is below their count
get_within : (lattices : List LatticeView) (at : ℕ) (l : LatticeView) → slice_get lattices at ≡ Some l
    → at < length lattices
get_within [] at l e = absurd cc
get_within (x ∷ xs) zero l e = omega arith
get_within (x ∷ xs) (suc at) l e = let under : at < length xs = get_within xs at l e in omega arith

-- the bytes of a lattice file read as one list of lattices
reads_once : (wide : Bool) (bytes : List ℕ) (a b : List LatticeView) → Reads wide bytes a → Reads wide bytes b → a ≡ b
reads_once wide bytes a b h k =
    all_built_one h.blocks a b h.built
    (subst (λ (blocks : List BlockView). AreAllBuilt blocks b)
    (one_reading wide k.blocks h.blocks bytes k.text h.text) k.built)

-- where all blocks are built, none is the first that is refused
no_refused_block : (blocks : List BlockView) (lattices : List LatticeView) (number : ℕ) (reason : LatticeFault)
    → AreAllBuilt blocks lattices →
    IsFirstRefused blocks number reason → ⊥
no_refused_block blocks lattices number reason h refused =
    let built = built_at blocks lattices refused.at refused.block h refused.there in
    built_not_refused refused.block.entries refused.block.pairs built.0 reason built.1.built refused.reason
    refused.refused

-- bytes that read as lattices have no fault but want of memory
no_fault : (wide : Bool) (bytes : List ℕ) (lattices : List LatticeView) → Reads wide bytes lattices
    → (fault : LatticeFileFault) → fault ≢ OutOfMemory →
    IsFileFault wide bytes fault → ⊥
no_fault wide bytes lattices h (Block number reason) other refused =
    no_refused_block h.blocks lattices number reason h.built
    (subst (λ (blocks : List BlockView). IsFirstRefused blocks number reason)
    (one_reading wide refused.blocks h.blocks bytes refused.text h.text) refused.first)
no_fault wide bytes lattices h (Grammar line column) other refused =
    bad_no_text wide bytes refused.place h.blocks refused.first h.text
no_fault wide bytes lattices h TooManyLattices other refused =
    let e : length refused.blocks ≡ length h.blocks =
    ap length (one_reading wide refused.blocks h.blocks bytes refused.text h.text) in
    omega (arith, e, h.few, refused.many)
no_fault wide bytes lattices h (SharedName name) other refused =
    let blocks : refused.blocks ≡ h.blocks = one_reading wide refused.blocks h.blocks bytes refused.text h.text in
    let e : refused.lattices ≡ lattices = all_built_one h.blocks refused.lattices lattices
    (subst (λ (bs : List BlockView). AreAllBuilt bs refused.lattices) blocks refused.built) h.built in
    let apart = subst (λ (ls : List LatticeView). AreApart ls (length ls)) (sym e) h.apart in
    apart refused.first.at refused.first.here.elem name
    (get_within refused.lattices refused.first.at refused.first.here.shared.lattice refused.first.here.shared.there)
    refused.first.here.shared
no_fault wide bytes lattices h OutOfMemory other refused = other refl

pub one_reading_of_lattices : OneReadingOfLattices
one_reading_of_lattices wide bytes lattices h =
    record { only = λ others k. reads_once wide bytes lattices others h k; sound = no_fault wide bytes lattices h }
