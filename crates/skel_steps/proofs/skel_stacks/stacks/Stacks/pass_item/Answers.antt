use Rattle.std.proofs.Common.{◌∙◌, ap}
use Rattle.std.proofs.lemmas.Result.{on_ok_weaker}
use Rattle.row_rules.specs.RowSteps.Steps as steps
use Rattle.skel_steps.proofs.skel_stacks.stacks.Stacks.pass_item.Goals as goal

-- an item of the innermost list is passed, as in the state
pub returns : goal.returns
returns c =
    on_ok_weaker c.replace_braces.result (λ replaced t. replaced t steps.with_item
    (c.passed-next.ensures t ∙ ap steps.with_item (c.braces-it.ensures t))) c.replace_braces.ensures
