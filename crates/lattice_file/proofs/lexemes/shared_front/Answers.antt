use Rattle.std.proofs.Common.{arith}
use Rattle.lattice_file.proofs.FrontLemmas.{front_shared}
use Rattle.lattice_file.proofs.lexemes.shared_front.Goals as goal

-- where two texts differ in a byte, the front that they share ends there
pub returns-else-word-at : goal.returns-else-word-at
returns-else-word-at c =
    let so_far = c.loop-at.invariant in
    front_shared c.args.word.now c.args.other.now c.loop-at.at so_far.first so_far.second so_far.same
    (λ lw lo e. c.if-word-at.false e)

-- where the other text ends, the front that both share ends
pub returns-else-at-other : goal.returns-else-at-other
returns-else-at-other c =
    let so_far = c.loop-at.invariant in
    front_shared c.args.word.now c.args.other.now c.loop-at.at so_far.first so_far.second so_far.same
    (λ lw lo e. omega (arith, lo, c.if-at-other.false))

-- where the word ends, the front that both share ends
pub returns-after-loop-at : goal.returns-after-loop-at
returns-after-loop-at c =
    let so_far = c.loop-at.invariant in
    front_shared c.args.word.now c.args.other.now c.loop-at.at so_far.first so_far.second so_far.same
    (λ lw lo e. omega (arith, lw, c.loop-at-test.false))
