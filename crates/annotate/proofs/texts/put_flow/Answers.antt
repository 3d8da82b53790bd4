use Rattle.std.proofs.Common.{codes}
use Rattle.annotate.proofs.Writing.{on_ok, fixed, then_both}
use Rattle.annotate.proofs.texts.put_flow.Goals as goal

-- the text of a flow is its word and the two variables
pub returns : goal.returns
returns c =
    let lent = c.args.scene.now in
    on_ok c.put_var-2.result c.put_var-2.ensures (λ put.
    then_both (then_both (then_both
    (fixed lent c.args.out.now.items c.put.new.out.items c.args.word.now c.in_ok-put.ensures) c.in_ok-put_var.ensures)
    (fixed lent c.put_var.new.out.items c.put-2.new.out.items (codes " to ") c.in_ok-put-2.ensures)) put)
