use Rattle.std.proofs.Common.{rules, ◌≡◌, sym, subst}
use Rattle.outside.specs.Readings.{content_of}
use Rattle.outside.specs.Memory.{AreRead, files_of, rest_at}
use Rattle.outside.proofs.Rests.{all_agree, no_start, shown_on, shown_same, starts_read}
use Rattle.outside.proofs.memory.files.MemFilesFiles.start.Goals as goal

-- a start that fails is a broken reading without bytes
pub invariant_of-self : goal.invariant_of-self
invariant_of-self c =
    let files = files_of c.self.inside.files.items in
    let rest = rest_at c.self.inside.files.items c.self.inside.at in (
      subst (AreRead files rest) (sym c.start.ensures.readings)
          (no_start files rest rest c.args.name.now c.self.inside.log.readings c.self.invariant.0),
      shown_on c.self.inside.faults _ c.self.inside.log.failed _ c.self.invariant.1
          c.saturating_add-self-inside-then-is_none.ensures c.start.ensures.failed,
    )

pub returns-then-is_none-clause-agrees : goal.returns-then-is_none-clause-agrees
returns-then-is_none-clause-agrees c = all_agree _ _ _ (invariant_of-self c).0

-- a start of a file is a reading without bytes, of which the whole file is left
pub invariant_of-self-2 : goal.invariant_of-self-2
invariant_of-self-2 c =
    let files = files_of c.self.inside.files.items in
    let rest = rest_at c.self.inside.files.items c.start_of-found.result in
    let whole : rest ≡ content_of files c.args.name.now = search rules in (
      subst (AreRead files rest) (sym c.start-2.ensures.readings)
          (starts_read files (rest_at c.self.inside.files.items c.self.inside.at) rest c.args.name.now
          c.self.inside.log.readings whole c.self.invariant.0),
      shown_same c.self.inside.faults c.self.inside.log.failed _ c.self.invariant.1 c.start-2.ensures.failed,
    )

pub returns-clause-agrees : goal.returns-clause-agrees
returns-clause-agrees c = all_agree _ _ _ (invariant_of-self-2 c).0
