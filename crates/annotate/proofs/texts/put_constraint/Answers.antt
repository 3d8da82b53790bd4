use Rattle.std.proofs.Common.{[], ◌∷◌}
use Rattle.annotate.proofs.Writing.{fixed, then_both}
use Rattle.annotate.proofs.texts.put_constraint.Goals as goal

-- the line of a constraint is its number, its place and what it says
pub returns : goal.returns
returns c =
    then_both (then_both c.in_ok-put_number.ensures c.in_ok-put_link.ensures)
    (fixed c.args.scene.now c.put_link.new.out.items c.put.new.out.items (10 ∷ []) c.in_ok-put.ensures)
