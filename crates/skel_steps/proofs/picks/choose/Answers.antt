use Rattle.std.proofs.Common.{ap, ◌∙◌}
use Rattle.std.proofs.lemmas.Result.{on_ok_weaker}
use Rattle.row_rules.specs.Vals as vals
use Rattle.row_rules.specs.RowSteps.State as states
use Rattle.row_rules.specs.RowSteps.Steps as steps
use Rattle.skel_steps.specs.Stepping.{tables_of, state_of}
use Rattle.skel_steps.proofs.picks.choose.Goals as goal

-- the end of a choice puts what is picked in place of its two expressions
pub returns : goal.returns
returns c =
    let k = c.args.known.now in
    let st = state_of k c.args.stacks.now in
    on_ok_weaker c.put.result (λ put w shows. put (tables_of k) ∙
    ap (λ (v : vals.Val). states.put 2 v st)
    (c.val-val.ensures w shows (steps.chosen st) c.chosen.ensures)) c.put.ensures
