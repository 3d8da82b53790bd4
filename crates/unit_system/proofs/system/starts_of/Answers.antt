use Rattle.std.proofs.Common.{◌≡◌, ◌++◌, List, map, ap, subst}
use Rattle.row_rules.specs.RowSteps.Starting.{unit_starts, selections_found}
use Rattle.name_rules.specs.ShapeSteps.State.{nothing}
use Rattle.unit_shapes.specs.Views.{names_in}
use Rattle.name_tables.specs.UnitSpelling.Spelled.{spelling_of}
use Rattle.unit_starts.specs.Selecting.{AddsSelections}
use Rattle.unit_starts.specs.declared.start.Start.{Start}
use Rattle.unit_starts.specs.Views.{start_in}
use Rattle.unit_system.proofs.Units.{begun_first, begun_next, begun_starts, begun_selections}
use Rattle.unit_system.proofs.system.starts_of.Goals as goal

-- before the first unit no skeleton is found
pub loop-unit-init : goal.loop-unit-init
loop-unit-init c =
    begun_first c.args.access c.args.program.now c.units-units.result.now _ c.args.candidates.now c.units-units.ensures
    (ap (λ (xs : List Start). map (start_in c.args.program.now.rows) xs) c.new-found.ensures)

-- behind one unit more, whose names and types are those of the program
pub loop-unit-preserved : goal.loop-unit-preserved
loop-unit-preserved c =
    let program = c.args.program.now in
    let u = spelling_of c.unit-item.result.spelling in
    let old = c.loop-unit.found in
    let new = c.add_starts.new.found in
    let types = c.types.result.now in
    let names = c.found_names.result.now in
    let ops = c.unit-item.result.ops.items in
    begun_next c.args.access program c.units-units.result.now c.loop-unit.unit-index c.unit-item.result
    (map (start_in program.rows) old) (map (start_in program.rows) new)
    c.args.candidates.now c.loop-unit.candidates c.add_starts.new.candidates c.loop-unit-test.true c.unit-item.is
    c.loop-unit.invariant
    (subst (λ rows. map (start_in rows) new
    ≡ map (start_in rows) old ++ unit_starts c.args.access u (names_in rows program.names) ops) c.types.ensures
    (subst (λ it. map (start_in types) new
    ≡ map (start_in types) old ++ unit_starts c.args.access u (names_in types it) ops) c.found_names.ensures
    (subst (λ it. map (start_in types) new
    ≡ map (start_in types) old ++ unit_starts c.args.access u (names_in types names) it) c.deref.ensures.value
    c.in_ok-add_starts.ensures.starts)))
    (subst (λ rows. AddsSelections c.loop-unit.candidates c.add_starts.new.candidates
    (selections_found u (names_in rows program.names) nothing ops)) c.types.ensures
    (subst (λ it. AddsSelections c.loop-unit.candidates c.add_starts.new.candidates
    (selections_found u (names_in types it) nothing ops)) c.found_names.ensures
    (subst (λ it. AddsSelections c.loop-unit.candidates c.add_starts.new.candidates
    (selections_found u (names_in types names) nothing it)) c.deref.ensures.value
    c.in_ok-add_starts.ensures.selections)))

-- behind the last unit the skeletons and the selections of all units are found
pub returns : goal.returns
returns c = record {
  starts = begun_starts c.args.access c.args.program.now c.units-units.result.now c.loop-unit.unit-index _
      c.args.candidates.now c.loop-unit.candidates c.loop-unit-test.false c.loop-unit.invariant;
  selections = begun_selections c.args.access c.args.program.now c.units-units.result.now c.loop-unit.unit-index _
      c.args.candidates.now c.loop-unit.candidates c.loop-unit-test.false c.loop-unit.invariant;
}
