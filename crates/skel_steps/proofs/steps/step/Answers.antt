use Rattle.std.proofs.lemmas.Result.{on_ok_weaker}
use Rattle.skel_steps.specs.Stepping.{tables_of, state_of}
use Rattle.skel_steps.proofs.Apart.{stepped}
use Rattle.skel_steps.proofs.steps.step.Goals as goal

-- a step of the stacks and of the rounds is the step of the state
pub returns : goal.returns
returns c =
    let k = c.args.known.now in
    let st = state_of k c.args.stacks.now in
    on_ok_weaker c.step_stacks.result (λ done w shows. stepped w st (state_of k c.pass_around.new.self)
    (state_of k c.step_stacks.new.stacks) c.args.op.now (c.in_ok-pass_around.ensures (tables_of k))
    (done w shows)) c.step_stacks.ensures
