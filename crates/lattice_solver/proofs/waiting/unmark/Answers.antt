use Rattle.std.proofs.Common.{length, false, inl, inr, arith}
use Rattle.std.proofs.lemmas.Bool.{cases_lt}
use Rattle.std.proofs.lemmas.List.{get_or_past}
use Rattle.lattice_solver.proofs.waiting.unmark.Goals as goal

-- no mark is set afterwards, nor is one past all
pub returns-clause-none : goal.returns-clause-none
returns-clause-none c = λ v. elim (cases_lt v (length c.loop-mark.marks)) [
  | inl within ↦ c.loop-mark.invariant v (omega (arith, within))
  | inr past ↦ get_or_past c.loop-mark.marks v false past
]
