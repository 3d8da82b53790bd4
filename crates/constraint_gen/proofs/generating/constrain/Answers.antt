use Rattle.std.proofs.Common.{◌<◌, ◌≤◌, List, length, subst, ◌∙◌}
use Rattle.std.proofs.lemmas.Result.{IfOk-weaker, on_ok_weaker}
use Rattle.flow_graph.specs.System.{System, most_constraints}
use Rattle.c_types.specs.Sources.{UnitRead}
use Rattle.unit_system.specs.declared.system.UnitSystem.{UnitSystem}
use Rattle.constraint_gen.specs.Generating.{IsProgramOf}
use Rattle.constraint_gen.proofs.Sources.{system_found}
use Rattle.constraint_gen.proofs.generating.constrain.Goals as goal

-- the graph that is made of numbered units is the system of the program
pub returns-clause-system : goal.returns-clause-system
returns-clause-system c =
    let found = λ (all : List UnitRead) (is : IsProgramOf all c.args.units.now c.args.program.now).
    system_found c.args.program.now all c.args.units.now is c.args.lattices.now c.in-Ok.marks c.args.prelude.now
    c.in-Ok.ensures
    (record {
      starts = c.starts_of_program_are_found.ensures;
      selections = c.selections_of_program_are_found.ensures;
      rows = c.constraints_are_found.ensures;
    }) in
    IfOk-weaker c.constrain_units.result _ _
    (λ (it : UnitSystem) same all is. same ∙ found all is) c.constrain_units.ensures.system

-- where constraints are made, the system of the program has no more than the most of them
pub returns-clause-few : goal.returns-clause-few
returns-clause-few c =
    let found = λ (all : List UnitRead) (is : IsProgramOf all c.args.units.now c.args.program.now).
    system_found c.args.program.now all c.args.units.now is c.args.lattices.now c.in-Ok.marks c.args.prelude.now
    c.in-Ok.ensures
    (record {
      starts = c.starts_of_program_are_found.ensures;
      selections = c.selections_of_program_are_found.ensures;
      rows = c.constraints_are_found.ensures;
    }) in
    on_ok_weaker c.constrain_units.result
    (λ few all is. subst (λ (s : System). length s.constraints ≤ most_constraints) (found all is) few)
    c.constrain_units.ensures.few

-- where they are refused as too many, the system of the program has more than the most constraints
pub returns-clause-too_many : goal.returns-clause-too_many
returns-clause-too_many c =
    let found = λ (all : List UnitRead) (is : IsProgramOf all c.args.units.now c.args.program.now).
    system_found c.args.program.now all c.args.units.now is c.args.lattices.now c.in-Ok.marks c.args.prelude.now
    c.in-Ok.ensures
    (record {
      starts = c.starts_of_program_are_found.ensures;
      selections = c.selections_of_program_are_found.ensures;
      rows = c.constraints_are_found.ensures;
    }) in
    λ many all is.
    subst (λ (s : System). most_constraints < length s.constraints) (found all is)
    (c.constrain_units.ensures.too_many many)
