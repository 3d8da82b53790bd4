use Rattle.std.proofs.Common.{◌∷◌, List, ◌∙◌, ap}
use Rattle.std.proofs.lemmas.Result.{on_ok_weaker}
use Rattle.row_rules.specs.RowSteps.State as states
use Rattle.skel_steps.specs.declared.skel_stacks.stacks.Operand.{Operand}
use Rattle.skel_steps.specs.SkelStacks.Stacked.{Stacked}
use Rattle.skel_steps.specs.SkelStacks.Views.{state_in, operand_in}
use Rattle.skel_steps.proofs.SkelStacks.Lists.{put_viewed}
use Rattle.skel_steps.proofs.skel_stacks.stacks.Stacks.put_operand.Goals as goal

-- an operand that takes the place of so many others does so in the state
pub returns : goal.returns
returns c =
    on_ok_weaker c.push.result (λ pushed t. put_viewed t c.args.count
    (record {
      operands = c.self.inside.operands;
      bases = c.self.inside.bases;
      braces = c.self.inside.braces;
      leaves = c.self.inside.leaves;
      literal = c.self.inside.literal;
      carried = c.self.inside.carried;
      declarations = c.self.inside.declarations;
      rounds = c.self.inside.rounds;
      passed = c.self.inside.passed;
    }) c.args.it.now c.push.new.self
    (pushed ∙ ap (λ (os : List Operand). c.args.it.now ∷ os) c.take_off.ensures)
    ∙ ap (λ (st : Stacked). states.operand_put c.args.count (operand_in t c.args.it.now) (state_in t st))
    c.self.view_is) c.push.ensures.pushed
