use Rattle.std.proofs.Common.{◌≡◌, ◌<◌, ◌-◌, ◌^◌, length, get_or, arith}
use Rattle.std.proofs.lemmas.Grind.{common_steps}
use Rattle.lattice_core.proofs.Joins.{IsShared, shared_there, shared_joins}
use Rattle.lattice_core.proofs.tables.Lattice.join_of.Goals as goal

-- some element has what the rows of a set share as its row
pub row_of-requires-clause-there : goal.row_of-requires-clause-there
row_of-requires-clause-there c =
    let above = c.self.inside.above.items in
    let all : c.all_below.result ≡ 2 ^ length above - 1 = grind (arith, common_steps) in
    let shared : IsShared above c.args.set c.common-row.result =
    rw (c.deref.ensures.value, c.number.ensures, all) at c.common-row.ensures in
    rw c.deref-2.ensures.value (shared_there above c.self.invariant.lattice c.args.set c.common-row.result shared)

-- the element whose row is what the rows of a set share is the join of the set
pub returns : goal.returns
returns c =
    let above = c.self.inside.above.items in
    let all : c.all_below.result ≡ 2 ^ length above - 1 = grind (arith, common_steps) in
    let shared : IsShared above c.args.set c.common-row.result =
    rw (c.deref.ensures.value, c.number.ensures, all) at c.common-row.ensures in
    let within : c.row_of.result < length above = rw c.deref-2.ensures.value at c.row_of.ensures.within in
    let is : get_or above c.row_of.result 0 ≡ c.common-row.result = rw c.deref-2.ensures.value at c.row_of.ensures.is in
    rw (c.new.ensures, ← c.self.view_is)
    (shared_joins above c.self.invariant.lattice c.args.set c.common-row.result c.row_of.result shared within is)
