use Rattle.std.proofs.Common.{◌∙◌, ap}
use Rattle.std.proofs.lemmas.Result.{on_ok_weaker}
use Rattle.row_rules.specs.RowSteps.Steps as steps
use Rattle.skel_steps.specs.SkelStacks.Views.{tables}
use Rattle.skel_steps.proofs.skel_stacks.stacks.Stacks.index.Goals as goal

-- an index designator is noted in the innermost list, as in the state
pub returns : goal.returns
returns c =
    on_ok_weaker c.replace_braces.result (λ replaced types. replaced (tables c.args.vars.now types) steps.with_index
    (c.indexed-next.ensures types ∙ ap steps.with_index (c.braces-it.ensures (tables c.args.vars.now types))))
    c.replace_braces.ensures
