use Rattle.lattice_file.specs.Sharing.{IsNamedBefore}
use Rattle.lattice_file.proofs.sharing.is_named_before.Given as goal

abbrev pub invariant-loop-at : goal.invariant-loop-at
invariant-loop-at l = IsNamedBefore l.all l.at l.word → ⊥
