use Rattle.std.proofs.Common.{◌≡◌, sym, subst, arith}
use Rattle.std.proofs.lemmas.Grind.{common_steps}
use Rattle.outside.specs.declared.traits.Failed.{Failed}
use Rattle.outside.specs.Memory.{AreRead, files_of, rest_at}
use Rattle.outside.proofs.Rests.{all_agree, moves_read}
use Rattle.outside.proofs.steady.SteadyFilesFiles.next.Goals as goal

-- a call for more moves bytes from the rest to the last reading, and none has failed
pub invariant_of-self : goal.invariant_of-self
invariant_of-self c =
    let files = files_of c.self.inside.files.items in
    let rest = rest_at c.self.inside.files.items c.moved_on-self-inside.result in
    let none : c.next.new.self.failed ≡ 0 = grind arith in (
      subst (AreRead files rest) (sym c.next.ensures.readings)
          (moves_read files Failed _ _
          (rest_at c.self.inside.files.items c.self.inside.at) rest c.self.inside.log.readings
          (grind (arith, common_steps)) (grind (arith, common_steps)) (grind (arith, common_steps)) c.self.invariant.0),
      none,
    )

pub returns-clause-agrees : goal.returns-clause-agrees
returns-clause-agrees c = all_agree _ _ _ (invariant_of-self c).0
