use Rattle.std.proofs.Common.{sym}
use Rattle.certificate_reader.proofs.WordLemmas.{no_pair}
use Rattle.certificate_reader.proofs.lines.pair_kind.Goals as goal

-- a third word behind `pair` makes a line that is none of a pair
pub returns-in-Some-split_at_first : goal.returns-in-Some-split_at_first
returns-in-Some-split_at_first c =
    rw (c.in-Some.ensures.parts, c.in-Some-split_at_first.ensures.parts)
    (sym (no_pair c.in-Some.from.now c.in-Some-split_at_first.field-0-0.now c.in-Some-split_at_first.field-0-1.now))
