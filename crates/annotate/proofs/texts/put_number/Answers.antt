use Rattle.std.proofs.Common.{◌≡◌, ◌++◌, codes, rules}
use Rattle.std.specs.Fmt.{decimal}
use Rattle.annotate.proofs.Writing.{fixed, then_both}
use Rattle.annotate.proofs.texts.put_number.Goals as goal

-- the number of a constraint is written in decimals, with its place behind it
pub returns : goal.returns
returns c =
    let lent = c.args.scene.now in
    let digits : c.put_decimal.new.out.items ≡ c.put.new.out.items ++ decimal c.args.number = search rules in
    then_both (then_both
    (then_both (then_both (fixed lent c.args.out.now.items c.put.new.out.items (codes "  ") c.in_ok-put.ensures)
    (fixed lent c.put.new.out.items c.put_decimal.new.out.items (decimal c.args.number) digits))
    (fixed lent c.put_decimal.new.out.items c.put-2.new.out.items (codes " ") c.in_ok-put-2.ensures))
    c.in_ok-put_place.ensures)
    (fixed lent c.put_place.new.out.items c.put-3.new.out.items (codes " ") c.in_ok-put-3.ensures)
