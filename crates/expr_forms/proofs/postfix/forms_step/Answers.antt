use Rattle.expr_forms.specs.Parts.{form_turn}
use Rattle.reader_base.proofs.Looping.{is_loop}
use Rattle.expr_forms.proofs.postfix.forms_step.Goals as goal

pub returns : goal.returns
returns c = is_loop (form_turn c.args.depth c.args.room) (c.turns_take_tokens.ensures.postfixes c.args.room)
