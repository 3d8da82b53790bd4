use Rattle.std.proofs.Common.{length, inl, inr, arith}
use Rattle.std.proofs.lemmas.Bool.{cases_lt}
use Rattle.std.proofs.lemmas.List.{get_or_past}
use Rattle.lattice_solver.proofs.phases.empty.Goals as goal

-- each set is empty afterwards, and so is that of a variable past all
pub returns-clause-empty : goal.returns-clause-empty
returns-clause-empty c = λ v. elim (cases_lt v (length c.loop-set.sets)) [
  | inl within ↦ c.loop-set.invariant v (omega (arith, within))
  | inr past ↦ get_or_past c.loop-set.sets v 0 past
]
