use Rattle.std.proofs.Common.{codes}
use Rattle.annotate.proofs.Writing.{on_ok, fixed, then_both}
use Rattle.annotate.proofs.texts.put_name.Goals as goal

-- the text of a name is its bytes and its place
pub returns : goal.returns
returns c =
    on_ok c.put_place.result c.put_place.ensures (λ put.
    then_both (then_both c.in_ok-put_bytes.ensures
    (fixed c.args.scene.now c.put_bytes.new.out.items c.put.new.out.items (codes "@") c.in_ok-put.ensures)) put)
