use Rattle.std.proofs.Common.{◌+◌, List, drop, ◌∙◌, ap}
use Rattle.tape_ops.specs.declared.op.Op.{Op}
use Rattle.name_rules.specs.ShapeSteps.State.{nothing}
use Rattle.name_tables.specs.PlaceMap.Values.{or_else}
use Rattle.unit_shapes.specs.Views.{names_in}
use Rattle.unit_types.specs.Resolved.{tape_of, tapes_of}
use Rattle.expr_types.specs.Along.{Keyed, shapes_along, shapes_among, first_at}
use Rattle.expr_types.specs.Views.{found_at}
use Rattle.expr_types.proofs.Adding.{goes_on, next_unit}
use Rattle.expr_types.proofs.types.find_all.Goals as goal

-- one unit more: what stands first at each place along its tape is added, unless some was found before
pub loop-unit-preserved : goal.loop-unit-preserved
loop-unit-preserved c = λ at.
    let rows = c.args.types.now in
    let s = names_in rows c.args.names.now in
    let unit = tape_of c.unit-item.result in
    let i = c.loop-unit.unit-index in
    let known = found_at rows c.loop-unit.found at in
    let added = found_at rows c.find_unit.new.found at in
    let behind = shapes_among s (drop (i + 1) (tapes_of c.args.units.now)) in
    goes_on known added (shapes_along unit.spelling s nothing unit.ops) behind at
    (c.in_ok-find_unit.ensures at
    ∙ ap
    (λ (ops : List Op). or_else known (first_at (shapes_along unit.spelling s nothing ops) at)) c.deref.ensures.value)
    ∙ ap (λ (it : List Keyed). or_else known (first_at it at))
    (next_unit s c.args.units.now i c.unit-item.result c.unit-item.is c.loop-unit-test.true)
    ∙ c.loop-unit.invariant at
