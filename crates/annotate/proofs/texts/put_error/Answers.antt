use Rattle.std.proofs.Common.{[], ◌∷◌, codes}
use Rattle.annotate.proofs.Writing.{fixed, then_both}
use Rattle.annotate.proofs.texts.put_error.Goals as goal

-- the line of an error is the element that exceeds, the limit and the place of the bound
pub returns : goal.returns
returns c =
    let lent = c.args.scene.now in
    then_both (then_both (then_both (then_both (then_both (then_both
    (fixed lent c.args.out.now.items c.put.new.out.items (codes "error ") c.in_ok-put.ensures) c.in_ok-put_elem.ensures)
    (fixed lent c.put_elem.new.out.items c.put-2.new.out.items (codes " exceeds ") c.in_ok-put-2.ensures))
    c.in_ok-put_elem-2.ensures)
    (fixed lent c.put_elem-2.new.out.items c.put-3.new.out.items (codes " at ") c.in_ok-put-3.ensures))
    c.in_ok-put_place.ensures)
    (fixed lent c.put_place.new.out.items c.put-4.new.out.items (10 ∷ []) c.in_ok-put-4.ensures)
