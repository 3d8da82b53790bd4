use Rattle.std.proofs.Common.{◌∙◌, ap}
use Rattle.row_rules.specs.RowSteps.State as states
use Rattle.skel_steps.specs.SkelStacks.Stacked.{Stacked}
use Rattle.skel_steps.specs.SkelStacks.Views.{state_in}
use Rattle.skel_steps.proofs.SkelStacks.Lists.{dropped_viewed}
use Rattle.skel_steps.proofs.skel_stacks.stacks.Stacks.drop_operands.Goals as goal

-- so many operands that are dropped from the stack are dropped from the state
pub returns : goal.returns
returns c =
    λ t. dropped_viewed t c.args.count
    (record {
      operands = c.self.inside.operands;
      bases = c.self.inside.bases;
      braces = c.self.inside.braces;
      leaves = c.self.inside.leaves;
      literal = c.self.inside.literal;
      carried = c.self.inside.carried;
      declarations = c.self.inside.declarations;
      rounds = c.self.inside.rounds;
      passed = c.self.inside.passed;
    }) c.take_off.new.self c.take_off.ensures
    ∙ ap (λ (st : Stacked). states.dropped c.args.count (state_in t st)) c.self.view_is
