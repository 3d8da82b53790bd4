use Rattle.std.proofs.Common.{◌<◌, length, arith}
use Rattle.std.proofs.lemmas.Result.{err_from_is_err_and}
use Rattle.unit_system.proofs.Units.{at_stop}
use Rattle.unit_system.proofs.adding.add_units.Goals as goal

-- where the constraints of a unit halt, those of all units halt there
pub returns-in_err-add_unit-clause-err : goal.returns-in_err-add_unit-clause-err
returns-in_err-add_unit-clause-err c =
    let units = c.units-units.result.now in
    let test = c.loop-unit-test.true in
    let within : c.loop-unit.unit-index < length units = omega arith in
    let failed = err_from_is_err_and c.from_residual.result c.from_residual.ensures.1 in
    rw (failed.1, failed.2)
    (at_stop c.args.shared.now c.args.graph.now c.loop-unit.graph c.add_unit.new.graph c.in_err-add_unit.field-0.0
    units c.loop-unit.unit-index c.unit-item.result c.loop-unit.invariant within c.unit-item.is
    c.in_err-add_unit.ensures.err)
