use Rattle.std.proofs.Common.{[], ◌∷◌, codes}
use Rattle.annotate.proofs.Writing.{fixed, then_both}
use Rattle.annotate.proofs.texts.put_value.Goals as goal

-- the line of a value is the variable and the name of its element
pub returns : goal.returns
returns c =
    let lent = c.args.scene.now in
    then_both (then_both (then_both c.in_ok-put_var.ensures
    (fixed lent c.put_var.new.out.items c.put.new.out.items (codes " ") c.in_ok-put.ensures)) c.in_ok-put_elem.ensures)
    (fixed lent c.put_elem.new.out.items c.put-2.new.out.items (10 ∷ []) c.in_ok-put-2.ensures)
