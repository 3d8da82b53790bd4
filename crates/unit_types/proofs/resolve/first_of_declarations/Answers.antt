use Rattle.std.proofs.Common.{◌++◌, List, map, ◌∙◌, ap, subst}
use Rattle.name_rules.specs.Faults.{Fault}
use Rattle.name_tables.specs.declared.name_records.records.Fault as records
use Rattle.name_state.specs.UnitNames.Shown.{names_of, fault_of}
use Rattle.unit_shapes.specs.Faults.{some_fault_of, IsFirstOf}
use Rattle.unit_types.proofs.resolve.first_of_declarations.Goals as goal

-- the best of the first faults of names and of bodies is the first of both lists together
pub returns : goal.returns
returns c =
    λ t.
    let faults = (names_of t c.args.names.now).faults in
    let of_bodies =
    ap (λ (all : List records.Fault). map fault_of all) c.deref.ensures.value ∙ c.in_ok-bodies.ensures t in
    subst (λ (fs : List Fault). IsFirstOf (some_fault_of c.keep_of_names.new.best) (faults ++ fs)) of_bodies
    (c.keep_of_names.ensures faults
    (subst (λ ns. IsFirstOf (some_fault_of c.first_of_names-best.result) (names_of t ns).faults) c.names.ensures
    (c.first_of_names-best.ensures t)))
