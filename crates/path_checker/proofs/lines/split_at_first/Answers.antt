use Rattle.std.proofs.Common.{arith, add-one, ◌==◌}
use Rattle.std.proofs.lemmas.List.{take_rest}
use Rattle.path_checker.proofs.Splits.{split_found, split_whole}
use Rattle.path_checker.proofs.lines.split_at_first.Goals as goal

-- a text is cut at a byte into what stands before it and the pieces of what stands behind it
pub returns-in-Some-clause-parts : goal.returns-in-Some-clause-parts
returns-in-Some-clause-parts c =
    rw (take_rest, add-one)
    (split_found (λ b. b == c.args.byte) c.args.text.now c.in-Some.at c.in-Some.ensures.0.high c.in-Some.ensures.1
    (λ j below. c.in-Some.ensures.0.before j (omega arith) below))

pub returns-in-None-clause-parts : goal.returns-in-None-clause-parts
returns-in-None-clause-parts c =
    split_whole (λ b. b == c.args.byte) c.args.text.now (λ j below. c.in-None.ensures j (omega arith) below)
