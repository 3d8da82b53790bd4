use Rattle.std.proofs.Common.{arith, ◌<◌, ◌≤◌, List, length, sym, ◌∙◌, ap}
use Rattle.std.proofs.lemmas.List.{drop_all}
use Rattle.tape_ops.specs.declared.op.Op.{Op}
use Rattle.name_rules.specs.Units.{no_names, unit_begun}
use Rattle.name_rules.specs.NameSteps.State.{with_names}
use Rattle.name_rules.specs.NameSteps.Steps.{run}
use Rattle.name_rules.specs.NameSteps.Units.{tapes_named}
use Rattle.name_tables.specs.UnitSpelling.Spelled.{spelling_of}
use Rattle.name_state.specs.UnitNames.Shown.{names_of}
use Rattle.unit_shapes.proofs.Implicit.{implicit_grows}
use Rattle.unit_types.specs.declared.program.UnitTape.{UnitTape}
use Rattle.unit_types.specs.Resolved.{tapes_of}
use Rattle.unit_types.proofs.Folding.{knows_before, names_on_from}
use Rattle.unit_types.proofs.resolve.name_units.Goals as goal

-- at first no names are known, and the tapes of all units are still to come
pub loop-unit-init : goal.loop-unit-init
loop-unit-init c =
    record {
      shown = record { shown = no_names; alike = λ t knows. c.in_ok-names.ensures t };
      implicit = c.requires;
      named = λ t knows. ap (tapes_named (tapes_of c.args.units.now)) (c.in_ok-names.ensures t);
    }

-- one unit more: the names become those behind its tape, by the types of the table that has grown
pub loop-unit-preserved : goal.loop-unit-preserved
loop-unit-preserved c =
    let units = c.args.units.now in
    let was = c.loop-unit.invariant in
    let named = c.in_ok-names-2.ensures in
    let test = c.loop-unit-test.true in
    let within : c.loop-unit.unit-index < length units = omega arith in
    record {
      shown = named.shown;
      implicit = implicit_grows c.loop-unit.types c.name_unit.new.types c.args.implicit.now named.grown was.implicit;
      named = λ t knows.
          let before = knows_before c.loop-unit.types c.name_unit.new.types t named.grown knows in
          let u = spelling_of c.unit-item.result.spelling in
          let begun = with_names (unit_begun u.unit (names_of t c.loop-unit.names)) in
          names_on_from units c.loop-unit.unit-index c.unit-item.result (names_of t c.loop-unit.names)
          (names_of t c.in_ok-names-2.names) c.unit-item.is within
          (named.named t knows ∙ ap (λ (ops : List Op). (run u ops begun).names) c.deref.ensures.value)
          ∙ was.named t before;
    }

-- once no unit is left, the names are those on the tapes of all units, by any types that the table knows
pub returns : goal.returns
returns c =
    let units = c.args.units.now in
    let test = c.loop-unit-test.false in
    let behind : length units ≤ c.loop-unit.unit-index = omega arith in
    record {
      named = λ t knows.
          ap (λ (us : List UnitTape). tapes_named (tapes_of us) (names_of t c.loop-unit.names))
          (sym (drop_all c.loop-unit.unit-index units behind))
          ∙ c.loop-unit.invariant.named t knows;
      implicit = c.loop-unit.invariant.implicit;
    }
