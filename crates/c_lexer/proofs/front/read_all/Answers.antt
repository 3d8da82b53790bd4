use Rattle.std.proofs.Common.{arith}
use Rattle.c_lexer.proofs.ReachLemmas.{reaches-kept, step-further, step-reaches}
use Rattle.c_lexer.proofs.front.read_all.Goals as goal

pub step-requires-clause-counted : goal.step-requires-clause-counted
step-requires-clause-counted c =
    (reaches-kept c.args.unit c.args.wide c.args.words.now c.args.bytes.now c.steps.front c.steps.invariant).counted

pub steps-preserved : goal.steps-preserved
steps-preserved c =
    step-reaches c.args.unit c.args.wide c.args.words.now c.args.bytes.now c.steps.front c.step.new.self
    c.steps.invariant c.in_ok-step.ensures.steps

-- a step leaves fewer bytes to read
pub steps-smaller : goal.steps-smaller
steps-smaller c =
    let further = step-further c.args.unit c.args.wide c.args.words.now c.args.bytes.now c.steps.front c.step.new.self
    c.in_ok-step.ensures.steps in
    let before = c.steps-test.true in
    let at = c.at.ensures in
    omega arith

-- reading that does not stop comes to the end of the bytes
pub returns-clause-whole : goal.returns-clause-whole
returns-clause-whole c =
    let inside =
    (reaches-kept c.args.unit c.args.wide c.args.words.now c.args.bytes.now c.steps.front c.steps.invariant).inside in
    let past = c.steps-test.false in
    let at = c.at.ensures in
    omega arith
