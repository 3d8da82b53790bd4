use Rattle.std.proofs.Common.{arith, ◌<◌, ◌≤◌, ◌++◌, List, length, sym, ◌∙◌, ap, subst, append_assoc, append-nil}
use Rattle.std.proofs.lemmas.List.{drop_all}
use Rattle.type_table.specs.Rows.{type_of}
use Rattle.tape_ops.specs.declared.op.Op.{Op}
use Rattle.name_rules.specs.Faults.{Fault}
use Rattle.name_rules.specs.Linking.{body_faults}
use Rattle.name_rules.specs.ShapeSteps.State.{nothing}
use Rattle.name_rules.specs.ShapeSteps.Found.{faults_found}
use Rattle.name_tables.specs.UnitSpelling.Spelled.{spelling_of}
use Rattle.unit_shapes.specs.Faults.{some_fault_of, IsFirstOf}
use Rattle.unit_shapes.specs.Views.{names_in}
use Rattle.unit_types.specs.declared.program.UnitTape.{UnitTape}
use Rattle.unit_types.specs.Resolved.{tapes_of, faults_among}
use Rattle.unit_types.proofs.Folding.{found_in, faults_from}
use Rattle.unit_types.proofs.resolve.first_fault.Goals as goal

-- at first the faults so far are those of names and of bodies, and all units' tapes are still to come
pub loop-unit-init : goal.loop-unit-init
loop-unit-init c =
    let s = names_in c.args.types.now c.args.names.now in
    record {
      so_far = s.faults ++ body_faults s;
      first = c.in_ok-best.ensures (type_of c.args.types.now);
      rest = append_assoc s.faults (body_faults s) (faults_among s (tapes_of c.args.units.now));
    }

-- one unit more: what its tape has of faults joins those so far
pub loop-unit-preserved : goal.loop-unit-preserved
loop-unit-preserved c =
    let s = names_in c.args.types.now c.args.names.now in
    let units = c.args.units.now in
    let it = c.unit-item.result in
    let was = c.loop-unit.invariant in
    let test = c.loop-unit-test.true in
    let within : c.loop-unit.unit-index < length units = omega arith in
    record {
      so_far = was.so_far ++ found_in s it;
      first =
          subst (λ (ops : List Op). IsFirstOf (some_fault_of c.judge_tape.new.best)
          (was.so_far ++ faults_found (spelling_of it.spelling) s nothing ops)) c.deref.ensures.value
          (subst (λ ns. IsFirstOf (some_fault_of c.judge_tape.new.best) (was.so_far ++ faults_found
          (spelling_of it.spelling) (names_in c.args.types.now ns) nothing c.deref.result.now)) c.names.ensures
          (c.in_ok-judge_tape.ensures was.so_far was.first));
      rest = faults_from s units c.loop-unit.unit-index it was.so_far c.unit-item.is within ∙ was.rest;
    }

-- once no unit is left, the best fault is the first of those of names, bodies and all tapes
pub returns : goal.returns
returns c =
    let s = names_in c.args.types.now c.args.names.now in
    let units = c.args.units.now in
    let was = c.loop-unit.invariant in
    let test = c.loop-unit-test.false in
    let behind : length units ≤ c.loop-unit.unit-index = omega arith in
    let all = sym (append-nil was.so_far)
    ∙ ap (λ (us : List UnitTape). was.so_far ++ faults_among s (tapes_of us))
    (sym (drop_all c.loop-unit.unit-index units behind))
    ∙ was.rest in
    subst (λ (fs : List Fault). IsFirstOf (some_fault_of c.loop-unit.best) fs) all was.first
