use Rattle.std.proofs.Common.{codes}
use Rattle.annotate.proofs.Writing.{fixed, then_both}
use Rattle.annotate.proofs.texts.put_bound.Goals as goal

-- the text of a bound is the variable, the word and the name of the element
pub returns : goal.returns
returns c =
    let lent = c.args.scene.now in
    then_both (then_both (then_both
    (fixed lent c.args.out.now.items c.put.new.out.items (codes "bound ") c.in_ok-put.ensures) c.in_ok-put_var.ensures)
    (fixed lent c.put_var.new.out.items c.put-2.new.out.items (codes " by ") c.in_ok-put-2.ensures))
    c.in_ok-put_elem.ensures
