use Rattle.std.proofs.Common.{◌-◌, ℕ, drop, length, ◌∙◌, ap}
use Rattle.row_rules.specs.RowSteps.State as states
use Rattle.row_rules.specs.RowSteps.Steps as steps
use Rattle.skel_steps.specs.SkelStacks.Stacked.{Stacked}
use Rattle.skel_steps.specs.SkelStacks.Views.{state_in}
use Rattle.skel_steps.proofs.SkelStacks.Lists.{left_viewed, none_kept}
use Rattle.skel_steps.proofs.skel_stacks.stacks.Stacks.leave.Goals as goal

-- leaving an initialiser drops its operands and its list, as in the state
pub returns : goal.returns
returns c =
    λ t. left_viewed t
    (record {
      operands = c.self.inside.operands;
      bases = c.self.inside.bases;
      braces = c.self.inside.braces;
      leaves = c.self.inside.leaves;
      literal = c.self.inside.literal;
      carried = c.self.inside.carried;
      declarations = c.self.inside.declarations;
      rounds = c.self.inside.rounds;
      passed = c.self.inside.passed;
    }) c.keep.new.self c.take_off.new.self c.take_off-2.new.self c.keep-2.new.self
    (c.keep.ensures ∙ ap (λ (n : ℕ). drop (length c.self.inside.operands - n) c.self.inside.operands) c.at-base.ensures)
    c.take_off.ensures c.take_off-2.ensures (c.keep-2.ensures ∙ none_kept c.self.inside.leaves)
    ∙ ap (λ (st : Stacked). steps.braces_left (states.operands_below (state_in t st)) (state_in t st))
    c.self.view_is
