use Rattle.std.proofs.Common.{arith}
use Rattle.error_path.proofs.Unset.{unset_less}
use Rattle.error_path.proofs.marks.set.Goals as goal

pub returns-clause-less : goal.returns-clause-less
returns-clause-less c =
    unset_less c.args.marks.now c.number-index.result
    (omega (arith, c.requires, c.number-index.ensures)) c.if-marks-index.false
