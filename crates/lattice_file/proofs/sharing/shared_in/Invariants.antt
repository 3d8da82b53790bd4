use Rattle.std.proofs.Common.{ℕ, ◌<◌, List}
use Rattle.lattice_file.specs.Sharing.{IsShared}
use Rattle.lattice_file.proofs.sharing.shared_in.Given as goal

abbrev pub invariant-loop-elem : goal.invariant-loop-elem
invariant-loop-elem l = (other : ℕ) (name : List ℕ) → other < l.elem → IsShared l.all l.at other name → ⊥
