-- Blocks and their lattices, one by one.
use Rattle.std.proofs.Common.{◌≡◌, ℕ, ◌<◌, ◌≤◌, ◌+◌, suc, List, [], ◌∷◌, ◌++◌, length, take, Some, slice_get, refl, sym, ◌∙◌, ap, arith, append_assoc, length-append}
use Rattle.lattice_core.specs.View.{LatticeView}
use Rattle.lattice_file.specs.Blocks.{BlockView, IsBuilt, AreAllBuilt}
use Rattle.lattice_file.specs.Faults.{IsBlockFault, IsBuildFault}
use Rattle.lattice_file.specs.declared.reading.LatticeFileFault.{LatticeFileFault}
use Rattle.lattice_file.specs.declared.reading.LatticeFileFault.TheVariants.{Block, Grammar, TooManyLattices, SharedName, NoMemory}

-- blocks and lattices with one more of each, which the one makes of the other, are still all built
pub built_on : (blocks : List BlockView) (lattices : List LatticeView) (block : BlockView) (lattice : LatticeView)
    → AreAllBuilt blocks lattices → IsBuilt block lattice →
    AreAllBuilt (blocks ++ block ∷ []) (lattices ++ lattice ∷ [])
built_on [] [] block lattice before here = (here, tt)
built_on [] (l ∷ ls) block lattice before here = absurd before
built_on (b ∷ bs) [] block lattice before here = absurd before
built_on (b ∷ bs) (l ∷ ls) block lattice before here = (before.0, built_on bs ls block lattice before.1 here)

-- there is a lattice for each block that is built
pub built_count : (blocks : List BlockView) (lattices : List LatticeView) → AreAllBuilt blocks lattices
    → length blocks ≡ length lattices
built_count [] [] built = refl
built_count [] (l ∷ ls) built = absurd built
built_count (b ∷ bs) [] built = absurd built
built_count (b ∷ bs) (l ∷ ls) built = ap suc (built_count bs ls built.1)

found_behind : (front : List BlockView) (block : BlockView) (rest : List BlockView)
    → slice_get (front ++ block ∷ rest) (length front) ≡ Some block
found_behind [] block rest = refl
found_behind (b ∷ front) block rest = found_behind front block rest

front_taken : (front rest : List BlockView) → take (length front) (front ++ rest) ≡ front
front_taken [] rest = refl
front_taken (b ∷ front) rest = ap (λ (bs : List BlockView). b ∷ bs) (front_taken front rest)

-- a block that makes no lattice, behind such as do, is the first that is refused
pub refused_at : (blocks front : List BlockView) (block : BlockView) (rest : List BlockView)
    (lattices : List LatticeView) (before : ℕ) (fault : LatticeFileFault) →
    front ++ block ∷ rest ≡ blocks → before ≡ length lattices → AreAllBuilt front lattices
    → IsBlockFault block before fault → IsBuildFault blocks fault
refused_at blocks front block rest lattices before NoMemory e count built fault = tt
refused_at blocks front block rest lattices before (Block number reason) e count built fault =
    let there : slice_get blocks (length front) ≡ Some block = rw (← e) (found_behind front block rest) in
    let taken : front ≡ take (length front) blocks = rw (← e) (sym (front_taken front (block ∷ rest))) in
    let earlier : AreAllBuilt (take (length front) blocks) lattices = rw taken at built in
    record {
      at = length front;
      numbered = fault.0 ∙ ap (λ (n : ℕ). n + 1) (count ∙ sym (built_count front lattices built));
      block = block;
      there = there;
      refused = fault.1;
      reason = fault.2;
      earlier = (lattices, earlier);
    }
refused_at blocks front block rest lattices before (Grammar line column) e count built fault = absurd fault
refused_at blocks front block rest lattices before TooManyLattices e count built fault = absurd fault
refused_at blocks front block rest lattices before (SharedName name) e count built fault = absurd fault

pub items_on : (front : List BlockView) (block : BlockView) (left rest blocks : List BlockView) → left ≡ block ∷ rest
    → front ++ left ≡ blocks → (front ++ block ∷ []) ++ rest ≡ blocks
items_on front block left rest blocks e all =
    append_assoc front (block ∷ []) rest ∙ ap (λ (bs : List BlockView). front ++ bs) (sym e) ∙ all

-- of at most 16 blocks one that is not yet built has fewer than 16 lattices before it
pub count_below : (blocks front : List BlockView) (block : BlockView) (rest : List BlockView)
    (lattices : List LatticeView)
    → front ++ block ∷ rest ≡ blocks → AreAllBuilt front lattices →
    length blocks ≤ 16 → length lattices < 16
count_below blocks front block rest lattices e built few =
    let all : length front + suc (length rest) ≡ length blocks =
    sym (length-append front (block ∷ rest)) ∙ ap length e in
    omega (arith, built_count front lattices built, all, few)
