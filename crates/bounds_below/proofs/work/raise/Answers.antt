use Rattle.std.proofs.Common.{◌≡◌, ◌<◌, get_or, length, arith}
use Rattle.std.proofs.lemmas.List.{get_or_read}
use Rattle.bounds_below.proofs.Rooms.{room-set}
use Rattle.bounds_below.proofs.work.raise.Goals as goal

-- a union that is another than the set leaves less room
pub returns-clause-grown : goal.returns-clause-grown
returns-clause-grown c =
    let items = c.args.sets.now.items in
    let low : c.number-index.result < length items = omega (arith, c.requires, c.number-index.ensures) in
    let here : c.index-set.result.now ≡ get_or items c.number-index.result 0 =
    get_or_read items c.number-index.result c.index-set.result.now low c.index-set.ensures 0 in
    let more : get_or items c.number-index.result 0 < c.union-raised.result =
    omega (arith, here, c.union-raised.ensures.more, c.if-raised-set.false) in
    room-set items c.number-index.result c.union-raised.result low more c.union-raised.type_inv
