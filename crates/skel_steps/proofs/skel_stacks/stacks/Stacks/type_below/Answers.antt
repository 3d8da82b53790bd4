use Rattle.std.proofs.Common.{ℕ, ◌∙◌, ap}
use Rattle.row_rules.specs.RowSteps.State as states
use Rattle.skel_steps.specs.SkelStacks.Views.{state_in}
use Rattle.skel_steps.proofs.skel_stacks.stacks.Stacks.type_below.Goals as goal

-- the type below the operands of an initialiser is that of the state there
pub returns : goal.returns
returns c =
    λ t. c.type_at.ensures t ∙
    ap (λ (n : ℕ). states.type_at n (state_in t c.args.self.now)) (c.depth_below.ensures.value t)
