use Rattle.std.proofs.Common.{arith}
use Rattle.unit_starts.proofs.UnitSkeletons.Counting.{numbered_next}
use Rattle.unit_starts.proofs.unit_skeletons.place_numbers.PlaceNumbers.push.Goals as goal

-- a place pushed at the end, below the limit of numbers, keeps the index that of the places
pub invariant_of-self-in-Ok-add : goal.invariant_of-self-in-Ok-add
invariant_of-self-in-Ok-add c =
    let count = c.len-count.ensures in let few = c.if-count-ge4294967295.false in
    numbered_next c.self.inside.all.items c.push.new.self.items c.self.inside.numbers c.add.new.self c.args.at.now
    c.len-count.result c.self.invariant c.in-Ok.ensures.items (omega arith) (omega arith) c.in-Ok-add.ensures.added
