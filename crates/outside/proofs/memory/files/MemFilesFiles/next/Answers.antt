use Rattle.std.proofs.Common.{sym, subst, arith}
use Rattle.std.proofs.lemmas.Grind.{common_steps}
use Rattle.outside.specs.declared.traits.Failed.{Failed}
use Rattle.outside.specs.Memory.{AreRead, files_of, rest_at}
use Rattle.outside.proofs.Rests.{all_agree, fails_read, moves_read, shown_on, shown_same}
use Rattle.outside.proofs.memory.files.MemFilesFiles.next.Goals as goal

-- a call for more that fails breaks the last reading, and leaves the rest as it is
pub invariant_of-self : goal.invariant_of-self
invariant_of-self c =
    let files = files_of c.self.inside.files.items in
    let rest = rest_at c.self.inside.files.items c.self.inside.at in (
      subst (AreRead files rest) (sym c.next.ensures.readings)
          (fails_read files Failed _ c.args.into.now rest rest c.self.inside.log.readings c.self.invariant.0),
      shown_on c.self.inside.faults _ c.self.inside.log.failed _ c.self.invariant.1
          c.saturating_add-self-inside-then-contains.ensures c.next.ensures.failed,
    )

pub returns-then-contains-clause-agrees : goal.returns-then-contains-clause-agrees
returns-then-contains-clause-agrees c = all_agree _ _ _ (invariant_of-self c).0

-- a call for more moves bytes from the rest to the last reading
pub invariant_of-self-2 : goal.invariant_of-self-2
invariant_of-self-2 c =
    let files = files_of c.self.inside.files.items in
    let rest = rest_at c.self.inside.files.items c.moved_on-self-inside.result in (
      subst (AreRead files rest) (sym c.next-2.ensures.readings)
          (moves_read files Failed _ _
          (rest_at c.self.inside.files.items c.self.inside.at) rest c.self.inside.log.readings
          (grind (arith, common_steps)) (grind (arith, common_steps)) (grind (arith, common_steps)) c.self.invariant.0),
      shown_same c.self.inside.faults c.self.inside.log.failed _ c.self.invariant.1 c.next-2.ensures.failed,
    )

pub returns-clause-agrees : goal.returns-clause-agrees
returns-clause-agrees c = all_agree _ _ _ (invariant_of-self-2 c).0
