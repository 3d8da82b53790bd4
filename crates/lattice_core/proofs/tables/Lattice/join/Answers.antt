use Rattle.std.proofs.Common.{◌≡◌, ◌<◌, length, get_or, arith, bit_and}
use Rattle.std.proofs.lemmas.Grind.{common_steps}
use Rattle.lattice_core.proofs.Made.{join_there}
use Rattle.lattice_core.proofs.UpperLower.{upper_from_row}
use Rattle.lattice_core.proofs.tables.Lattice.join.Goals as goal

-- some element has the common part of two rows as its row
pub row_of-requires-clause-there : goal.row_of-requires-clause-there
row_of-requires-clause-there c =
    let above = c.self.inside.above.items in
    let first : c.args.a < length above = rw (← c.self.view_is) at c.requires.first in
    let second : c.args.b < length above = rw (← c.self.view_is) at c.requires.second in
    let one : c.index.result.now ≡ get_or above c.args.a 0 = grind (arith, common_steps) in
    let other : c.index-2.result.now ≡ get_or above c.args.b 0 = grind (arith, common_steps) in
    rw (c.deref.ensures.value, one, other) (join_there above c.self.invariant.lattice c.args.a c.args.b first second)

-- the element whose row is the common part of two rows is their least upper bound
pub returns : goal.returns
returns c =
    let above = c.self.inside.above.items in
    let first : c.args.a < length above = rw (← c.self.view_is) at c.requires.first in
    let second : c.args.b < length above = rw (← c.self.view_is) at c.requires.second in
    let one : c.index.result.now ≡ get_or above c.args.a 0 = grind (arith, common_steps) in
    let other : c.index-2.result.now ≡ get_or above c.args.b 0 = grind (arith, common_steps) in
    let within : c.row_of.result < length above = rw c.deref.ensures.value at c.row_of.ensures.within in
    let is : get_or above c.row_of.result 0 ≡ bit_and (get_or above c.args.a 0) (get_or above c.args.b 0) =
    rw (c.deref.ensures.value, one, other) at c.row_of.ensures.is in
    rw (c.new.ensures, ← c.self.view_is)
    (upper_from_row above c.self.invariant.lattice.ordered c.args.a c.args.b c.row_of.result within is)
