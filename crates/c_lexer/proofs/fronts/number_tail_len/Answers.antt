use Rattle.std.proofs.Common.{◌&&◌, get_or, sym, ◌∙◌, ap, refl, arith}
use Rattle.c_lexer.specs.Spelling.{is_number_tail}
use Rattle.c_lexer.proofs.WalkLemmas.{follows-more, follows-stop}
use Rattle.c_lexer.proofs.fronts.number_tail_len.Goals as goal

-- a number's tail ends before the first byte that does not go on with it
pub returns-then-not-goes_on_with : goal.returns-then-not-goes_on_with
returns-then-not-goes_on_with c =
    follows-stop is_number_tail c.args.before c.loop-at.last c.args.bytes.now c.loop-at.at
    (omega arith) c.loop-at.invariant refl
    (λ r _. ap (λ b. b && is_number_tail (get_or c.args.bytes.now c.loop-at.at 0) r)
    (sym c.goes_on_with.ensures ∙ c.if-not-goes_on_with.true))

-- a byte that goes on with a number is the last one then
pub loop-at-preserved : goal.loop-at-preserved
loop-at-preserved c =
    follows-more is_number_tail c.args.before c.loop-at.last
    (get_or c.args.bytes.now c.loop-at.at 0) c.args.bytes.now c.loop-at.at c.loop-at.invariant
    (λ r. ap (λ b. b && is_number_tail (get_or c.args.bytes.now c.loop-at.at 0) r)
    (sym c.goes_on_with.ensures ∙ c.if-not-goes_on_with.false))
