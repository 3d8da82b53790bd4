use Rattle.declr_forms.specs.Views.{list_of}
use Rattle.declr_forms.proofs.parameters.more_params.Goals as goal

-- each turn that reads one more parameter takes a token
pub loop-all-smaller : goal.loop-all-smaller
loop-all-smaller g c =
    c.params_step.ensures.takes (list_of c.loop-all.all) (list_of c.param_turn.new.known) c.loop-all.cursor.scopes
    c.param_turn.new.cursor.scopes c.loop-all.cursor.rest.now c.param_turn.new.cursor.rest.now
    (rw c.if-branch.true at c.in_ok-param_turn.ensures)
