use Rattle.std.proofs.Common.{ap, ◌∙◌, ◌≡◌, ◌+◌, ℕ, suc, arith}
use Rattle.std.proofs.lemmas.Result.{on_ok_weaker}
use Rattle.name_rules.specs.ShapeSteps.Steps.{twice}
use Rattle.row_rules.specs.Vals as vals
use Rattle.row_rules.specs.RowSteps.State as states
use Rattle.row_rules.specs.RowSteps.Steps as steps
use Rattle.row_world.specs.Shown.{val}
use Rattle.skel_steps.specs.Stepping.{tables_of, state_of}
use Rattle.skel_steps.proofs.picks.select.Goals as goal

-- the end of a selection puts what is picked in place of its control and all associations
pub returns : goal.returns
returns c =
    let k = c.args.known.now in
    let st = state_of k c.args.stacks.now in
    let d = c.twice.ensures in
    let e : c.twice.result + 1 ≡ suc (twice c.args.count) = omega arith in
    on_ok_weaker c.put.result (λ put w shows. put (tables_of k) ∙
    (ap (λ (n : ℕ). states.put n (val k c.val-val.result) st) e ∙
    ap (λ (v : vals.Val). states.put (suc (twice c.args.count)) v st)
    (c.val-val.ensures w shows (steps.selected w c.args.token 0 c.args.count st) (c.selected.ensures w shows))))
    c.put.ensures
