use Rattle.std.proofs.Common.{sym}
use Rattle.certificate_reader.proofs.WordLemmas.{no_set}
use Rattle.certificate_reader.proofs.lines.set_kind.Goals as goal

-- a fourth word behind `set` makes a line that is none of sets
pub returns-in-Some-split_at_first-2 : goal.returns-in-Some-split_at_first-2
returns-in-Some-split_at_first-2 c =
    rw (c.in-Some.ensures.parts, c.in-Some-split_at_first.ensures.parts, c.in-Some-split_at_first-2.ensures.parts)
    (sym (no_set c.in-Some.name.now c.in-Some-split_at_first.first.now c.in-Some-split_at_first-2.field-0-0.now
    c.in-Some-split_at_first-2.field-0-1.now))
