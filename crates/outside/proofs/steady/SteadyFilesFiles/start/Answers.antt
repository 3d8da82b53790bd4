use Rattle.std.proofs.Common.{rules, ◌≡◌, sym, subst, arith}
use Rattle.outside.specs.Readings.{content_of}
use Rattle.outside.specs.Memory.{AreRead, files_of, rest_at}
use Rattle.outside.proofs.Rests.{all_agree, starts_read}
use Rattle.outside.proofs.steady.SteadyFilesFiles.start.Goals as goal

-- a start is a reading without bytes, of which the whole file is left, and none has failed
pub invariant_of-self : goal.invariant_of-self
invariant_of-self c =
    let files = files_of c.self.inside.files.items in
    let rest = rest_at c.self.inside.files.items c.start_of-self-inside.result in
    let whole : rest ≡ content_of files c.args.name.now = search rules in
    let none : c.start.new.self.failed ≡ 0 = grind arith in (
      subst (AreRead files rest) (sym c.start.ensures.readings)
          (starts_read files _ rest c.args.name.now c.self.inside.log.readings whole c.self.invariant.0),
      none,
    )

pub returns-clause-agrees : goal.returns-clause-agrees
returns-clause-agrees c = all_agree _ _ _ (invariant_of-self c).0
