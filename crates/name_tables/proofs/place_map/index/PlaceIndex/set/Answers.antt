use Rattle.std.proofs.Common.{◌+◌, refl}
use Rattle.name_tables.proofs.PlaceMap.Placing.{numbered, same_row}
use Rattle.name_tables.proofs.place_map.index.PlaceIndex.set.Goals as goal

-- the number set is that of its place, and all other places keep theirs
pub returns-in-Ok-clause-set : goal.returns-in-Ok-clause-set
returns-in-Ok-clause-set c = λ p.
    numbered c.args.self.now.units.items c.grow.new.self.units.items c.args.at.now c.number.result
    c.index_mut.result.now c.set.new.self c.args.number (c.args.number + 1) c.in_ok-grow.ensures.same
    c.in_ok-grow.ensures.room c.number.ensures c.index_mut.ensures.value c.in-Ok.ensures.set refl p

-- where the number is not set, all places keep theirs
pub returns-in-Err-clause-err : goal.returns-in-Err-clause-err
returns-in-Err-clause-err c = λ p.
    same_row c.args.self.now.units.items c.grow.new.self.units.items c.args.at.now.0 c.number.result
    c.index_mut.result.now c.set.new.self c.in_ok-grow.ensures.same c.in_ok-grow.ensures.room c.number.ensures
    c.index_mut.ensures.value c.in-Err.ensures.err p
