use Rattle.unit_system.proofs.SourceMarks.Marking.{without_mark, mark_read}
use Rattle.std.proofs.Common.{Some, None, ◌∙◌, ap}
use Rattle.unit_system.proofs.source_marks.reading.add_mark.Goals as goal

-- a token that names no qualifier leaves the marks as they were
pub returns-in-None : goal.returns-in-None
returns-in-None c =
    without_mark c.args.tokens.now c.args.token c.args.found.now
    (mark_read c.args.tokens.now c.args.token None (c.mark_of.ensures ∙ ap Some c.in-None.is))
