use Rattle.std.proofs.Common.{◌≡◌, arith, Some, refl}
use Rattle.std.proofs.lemmas.Grind.{common_steps}
use Rattle.lattice_core.specs.Rows.{order_of}
use Rattle.lattice_core.specs.Building.{IsClosureOf, AreFit}
use Rattle.lattice_core.specs.Entries.{name_at}
use Rattle.lattice_core.proofs.Made.{closure_made, order_made, converse_made, lattice_made, fit_made, cycle_made, lack_made}
use Rattle.lattice_core.proofs.tables.Lattice.build.Goals as goal

-- a closure without a cycle is an order
pub first_lack-requires-clause-ordered : goal.first_lack-requires-clause-ordered
first_lack-requires-clause-ordered c =
    let entries = c.args.entries.items in
    let pairs = c.args.pairs.now in
    let above = c.in_ok-above.above.items in
    let closed : IsClosureOf entries pairs (order_of above) =
    closure_made entries c.deref-2.result.now pairs c.in_ok-links.links.items c.deref-4.result.now above
    c.deref-2.ensures.value c.deref-4.ensures.value
    (grind (arith, common_steps)) c.in_ok-links.ensures.rows (grind (arith, common_steps)) c.in_ok-above.ensures.rows in
    rw c.deref-7.ensures.value (order_made entries pairs above c.deref-5.result.now closed c.deref-5.ensures.value
    c.in_default-first_cycle.ensures)

-- the rows that were turned round are the converse of the order
pub first_lack-requires-clause-converse : goal.first_lack-requires-clause-converse
first_lack-requires-clause-converse c =
    let entries = c.args.entries.items in
    let pairs = c.args.pairs.now in
    let above = c.in_ok-above.above.items in
    let closed : IsClosureOf entries pairs (order_of above) =
    closure_made entries c.deref-2.result.now pairs c.in_ok-links.links.items c.deref-4.result.now above
    c.deref-2.ensures.value c.deref-4.ensures.value
    (grind (arith, common_steps)) c.in_ok-links.ensures.rows (grind (arith, common_steps)) c.in_ok-above.ensures.rows in
    let order = order_made entries pairs above c.deref-5.result.now closed c.deref-5.ensures.value
    c.in_default-first_cycle.ensures in
    rw (c.deref-7.ensures.value, c.deref-8.ensures.value) (
    converse_made above c.deref-6.result.now c.in_ok-below.below.items order c.deref-6.ensures.value
    (grind (arith, common_steps)) c.in_ok-below.ensures.columns)

-- fit entries whose closure has a cycle are refused for its first pair
pub returns-in-Some-first_cycle-clause-refused : goal.returns-in-Some-first_cycle-clause-refused
returns-in-Some-first_cycle-clause-refused c =
    let entries = c.args.entries.items in
    let pairs = c.args.pairs.now in
    let above = c.in_ok-above.above.items in
    let closed : IsClosureOf entries pairs (order_of above) =
    closure_made entries c.deref-2.result.now pairs c.in_ok-links.links.items c.deref-4.result.now above
    c.deref-2.ensures.value c.deref-4.ensures.value
    (grind (arith, common_steps)) c.in_ok-links.ensures.rows (grind (arith, common_steps)) c.in_ok-above.ensures.rows in
    let fit : AreFit entries pairs = fit_made entries pairs c.deref.result.now c.deref-2.result.now c.deref-3.result.now
    (grind (arith, common_steps)) c.deref.ensures.value c.in_default.ensures c.deref-2.ensures.value
    c.in_ok-links.ensures.known c.deref-3.ensures.value c.in_default-first_mixed.ensures in
    let one : name_at entries c.in-Some-first_cycle.a ≡ Some c.in_ok-one-2.one =
    rw c.deref-in-Some-first_cycle.ensures.value at c.in_ok-one-2.ensures in
    let other : name_at entries c.in-Some-first_cycle.b ≡ Some c.in_ok-name_of-3.field-0 =
    rw c.deref-in-Some-first_cycle-2.ensures.value at c.in_ok-name_of-3.ensures in
    cycle_made entries pairs above c.deref-5.result.now c.in-Some-first_cycle.a c.in-Some-first_cycle.b
    c.in_ok-one-2.one c.in_ok-name_of-3.field-0 fit closed c.deref-5.ensures.value
    c.in-Some-first_cycle.ensures one other

-- fit entries whose order lacks a bound are refused for its first pair
pub returns-in-Some-first_lack-clause-refused : goal.returns-in-Some-first_lack-clause-refused
returns-in-Some-first_lack-clause-refused c =
    let entries = c.args.entries.items in
    let pairs = c.args.pairs.now in
    let above = c.in_ok-above.above.items in
    let closed : IsClosureOf entries pairs (order_of above) =
    closure_made entries c.deref-2.result.now pairs c.in_ok-links.links.items c.deref-4.result.now above
    c.deref-2.ensures.value c.deref-4.ensures.value
    (grind (arith, common_steps)) c.in_ok-links.ensures.rows (grind (arith, common_steps)) c.in_ok-above.ensures.rows in
    let fit : AreFit entries pairs = fit_made entries pairs c.deref.result.now c.deref-2.result.now c.deref-3.result.now
    (grind (arith, common_steps)) c.deref.ensures.value c.in_default.ensures c.deref-2.ensures.value
    c.in_ok-links.ensures.known c.deref-3.ensures.value c.in_default-first_mixed.ensures in
    let order = order_made entries pairs above c.deref-5.result.now closed c.deref-5.ensures.value
    c.in_default-first_cycle.ensures in
    let one : name_at entries c.in-Some-first_lack.a ≡ Some c.in_ok-one-3.one =
    rw c.deref-in-Some-first_lack.ensures.value at c.in_ok-one-3.ensures in
    let other : name_at entries c.in-Some-first_lack.b ≡ Some c.in_ok-name_of-4.field-0 =
    rw c.deref-in-Some-first_lack-2.ensures.value at c.in_ok-name_of-4.ensures in
    lack_made entries pairs above c.deref-7.result.now c.in-Some-first_lack.a c.in-Some-first_lack.b c.in_ok-one-3.one
    c.in_ok-name_of-4.field-0 fit closed order c.deref-7.ensures.value c.in-Some-first_lack.ensures one other

-- the tables that are made are of a lattice of distinct entries
pub invariant_of-result : goal.invariant_of-result
invariant_of-result c =
    let entries = c.args.entries.items in
    let pairs = c.args.pairs.now in
    let above = c.in_ok-above.above.items in
    let closed : IsClosureOf entries pairs (order_of above) =
    closure_made entries c.deref-2.result.now pairs c.in_ok-links.links.items c.deref-4.result.now above
    c.deref-2.ensures.value c.deref-4.ensures.value
    (grind (arith, common_steps)) c.in_ok-links.ensures.rows (grind (arith, common_steps)) c.in_ok-above.ensures.rows in
    let fit : AreFit entries pairs = fit_made entries pairs c.deref.result.now c.deref-2.result.now c.deref-3.result.now
    (grind (arith, common_steps)) c.deref.ensures.value c.in_default.ensures c.deref-2.ensures.value
    c.in_ok-links.ensures.known c.deref-3.ensures.value c.in_default-first_mixed.ensures in
    let order = order_made entries pairs above c.deref-5.result.now closed c.deref-5.ensures.value
    c.in_default-first_cycle.ensures in
    let converse = converse_made above c.deref-6.result.now c.in_ok-below.below.items order c.deref-6.ensures.value
    (grind (arith, common_steps)) c.in_ok-below.ensures.columns in
    let lattice = lattice_made above c.deref-7.result.now order c.deref-7.ensures.value
    (grind (arith, common_steps)) c.in_default-first_lack.ensures in
    record {
      few = fit.known.named.few;
      distinct = fit.known.named.distinct;
      elements = closed.elements;
      lattice = lattice;
      converse = converse;
    }

-- fit entries whose closure is a lattice are built as that lattice
pub returns-clause-built : goal.returns-clause-built
returns-clause-built c =
    let entries = c.args.entries.items in
    let pairs = c.args.pairs.now in
    let above = c.in_ok-above.above.items in
    let closed : IsClosureOf entries pairs (order_of above) =
    closure_made entries c.deref-2.result.now pairs c.in_ok-links.links.items c.deref-4.result.now above
    c.deref-2.ensures.value c.deref-4.ensures.value
    (grind (arith, common_steps)) c.in_ok-links.ensures.rows (grind (arith, common_steps)) c.in_ok-above.ensures.rows in
    let fit : AreFit entries pairs = fit_made entries pairs c.deref.result.now c.deref-2.result.now c.deref-3.result.now
    (grind (arith, common_steps)) c.deref.ensures.value c.in_default.ensures c.deref-2.ensures.value
    c.in_ok-links.ensures.known c.deref-3.ensures.value c.in_default-first_mixed.ensures in
    let order = order_made entries pairs above c.deref-5.result.now closed c.deref-5.ensures.value
    c.in_default-first_cycle.ensures in
    let lattice = lattice_made above c.deref-7.result.now order c.deref-7.ensures.value
    (grind (arith, common_steps)) c.in_default-first_lack.ensures in
    record { fit = fit; same = refl; closure = closed; bounded = lattice }
