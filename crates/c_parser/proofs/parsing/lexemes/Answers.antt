use Rattle.std.proofs.Common.{◌∙◌, arith}
use Rattle.c_parser.proofs.Numbering.{all_lexemes}
use Rattle.c_parser.proofs.parsing.lexemes.Goals as goal

-- once the loop ends, the lexemes made are all numbered tokens of the unit
pub returns : goal.returns
returns c =
    c.loop-number.invariant
    ∙ all_lexemes c.args.tokens.now.tokens c.loop-number.number
    (omega (arith, c.loop-number-test.false, c.len-number-end.ensures))
