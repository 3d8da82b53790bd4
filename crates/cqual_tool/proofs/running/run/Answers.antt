use Rattle.std.proofs.Common.{arith, List}
use Rattle.outside.specs.Readings.{Reading, since}
use Rattle.cqual_tool.proofs.Runs.{none_broken}
use Rattle.cqual_tool.proofs.running.run.Goals as goal

-- where no read and no write failed and there was memory, the status is an answer
pub returns-clause-complete : goal.returns-clause-complete
returns-clause-complete g c = λ same puts memory.
    let these : List Reading = since (g.F.Files.log c.args.files.now) (g.F.Files.log c.decide_and_write.new.files) in
    let counted = c.decide_and_write.ensures.read.failed in
    c.decide_and_write.ensures.complete
    (none_broken these (λ some. absurd (omega (arith, same, some, counted)))) puts memory
