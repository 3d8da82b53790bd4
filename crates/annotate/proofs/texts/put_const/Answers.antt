use Rattle.std.proofs.Common.{codes}
use Rattle.annotate.proofs.Writing.{on_ok, fixed, then_both}
use Rattle.annotate.proofs.texts.put_const.Goals as goal

-- the text of a constant is the word, the name of the element and the variable
pub returns : goal.returns
returns c =
    let lent = c.args.scene.now in
    on_ok c.put_var.result c.put_var.ensures (λ put.
    then_both (then_both (then_both
    (fixed lent c.args.out.now.items c.put.new.out.items (codes "const ") c.in_ok-put.ensures) c.in_ok-put_elem.ensures)
    (fixed lent c.put_elem.new.out.items c.put-2.new.out.items (codes " in ") c.in_ok-put-2.ensures)) put)
