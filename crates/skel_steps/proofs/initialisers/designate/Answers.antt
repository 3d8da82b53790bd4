use Rattle.std.proofs.Common.{◌∙◌, ap}
use Rattle.std.proofs.lemmas.Result.{on_ok_weaker}
use Rattle.row_rules.specs.RowSteps.Steps as steps
use Rattle.skel_steps.specs.Stepping.{tables_of, state_of}
use Rattle.skel_steps.proofs.initialisers.designate.Goals as goal

-- a designator of a member names its target in the innermost list
pub returns : goal.returns
returns c =
    let k = c.args.known.now in
    let st = state_of k c.args.stacks.now in
    on_ok_weaker c.replace_braces.result (λ done token w shows. done (tables_of k) (steps.with_member w c.args.name)
    (c.in_ok-next.ensures w shows
    ∙ ap (steps.with_member w c.args.name) (c.braces-it.ensures (tables_of k)))) c.replace_braces.ensures
