use Rattle.std.proofs.Common.{◌++◌, ◌+◌, ◌<◌, ◌≤◌, length, sym, ◌∙◌, ap, arith, append-nil}
use Rattle.certificate_text.specs.Names.{ends_in, named_at}
use Rattle.certificate_text.specs.Text.{sets_of, sets_text}
use Rattle.certificate_text.proofs.EndLemmas.{ends_length}
use Rattle.certificate_text.proofs.Setting.{sets_from, sets_step, put_more, end_there, sets_none}
use Rattle.certificate_text.proofs.text.put_sets.Goals as goal

-- putting the sets at one end leaves those from the next end on to put
pub ends-preserved : goal.ends-preserved
ends-preserved c =
    let sys = c.args.graph.now in
    let part = c.args.part.now in
    let within : c.ends.end < length (ends_in sys) =
    omega (arith, c.ends-test.true, c.ends-end-end.ensures, ends_length sys.constraints) in
    let there = end_there (ends_in sys) c.ends.end within in
    put_more c.ends.out.items c.put_set_at.new.out.items (c.args.out.now.items ++ sets_from sys part 0)
    (sets_text (sets_of part (named_at sys c.ends.end there.0)))
    (sets_from sys part (c.ends.end + 1)) (sets_from sys part c.ends.end) c.ends.invariant
    (sets_step sys part c.ends.end there.0 there.1)
    (c.in_ok-put_set_at.ensures there.0 there.1)

-- when no end is left, the text has the set line of each named variable
pub returns : goal.returns
returns c =
    let sys = c.args.graph.now in
    let past : length (ends_in sys) ≤ c.ends.end =
    omega (arith, c.ends-test.false, c.ends-end-end.ensures, ends_length sys.constraints) in
    sym (append-nil c.ends.out.items)
    ∙ ap (λ t. c.ends.out.items ++ t) (sym (sets_none sys c.args.part.now c.ends.end past)) ∙ c.ends.invariant
