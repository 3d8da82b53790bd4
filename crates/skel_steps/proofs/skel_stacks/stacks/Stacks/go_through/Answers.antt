use Rattle.std.proofs.Common.{sym, ◌∙◌, ap, option_map}
use Rattle.std.proofs.lemmas.Result.{on_ok_weaker}
use Rattle.row_rules.specs.RowSteps.State as states
use Rattle.row_rules.specs.RowSteps.Steps as steps
use Rattle.skel_steps.specs.SkelStacks.Stacked.{Stacked}
use Rattle.skel_steps.specs.SkelStacks.Views.{state_in, skel_in}
use Rattle.skel_steps.proofs.SkelStacks.Lists.{gone_viewed}
use Rattle.skel_steps.proofs.skel_stacks.stacks.Stacks.go_through.Goals as goal

-- going through an initialiser takes its operands as leaves, at this target, as in the state
pub returns : goal.returns
returns c =
    on_ok_weaker c.push.result (λ pushed t. gone_viewed t
    (record {
      operands = c.self.inside.operands;
      bases = c.self.inside.bases;
      braces = c.self.inside.braces;
      leaves = c.self.inside.leaves;
      literal = c.self.inside.literal;
      carried = c.self.inside.carried;
      declarations = c.self.inside.declarations;
      rounds = c.self.inside.rounds;
      passed = c.self.inside.passed;
    }) c.depth_below-count.result c.take_leaves.new.leaves c.push.new.self c.args.target.now c.in_ok-take_leaves.ensures
    (c.depth_below-count.ensures.value t
    ∙ ap (λ (st : Stacked). states.depth_below (state_in t st)) (sym c.self.view_is)) pushed ∙ ap (λ (st : Stacked).
    steps.gone_through (option_map (skel_in t) c.args.target.now) (state_in t st)) c.self.view_is) c.push.ensures.pushed
