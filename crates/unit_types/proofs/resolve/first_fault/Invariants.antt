use Rattle.std.proofs.Common.{◌≡◌, ◌++◌, List, drop}
use Rattle.name_rules.specs.Faults.{Fault}
use Rattle.name_rules.specs.Linking.{body_faults}
use Rattle.unit_shapes.specs.Faults.{some_fault_of, IsFirstOf}
use Rattle.unit_shapes.specs.Views.{names_in}
use Rattle.unit_types.specs.Resolved.{tapes_of, faults_among}
use Rattle.unit_types.proofs.resolve.first_fault.Given as goal

-- the best fault is the first of those so far; with those of the units left they are all faults of the units
abbrev pub invariant-loop-unit : goal.invariant-loop-unit
invariant-loop-unit l =
    let s = names_in l.types l.names in
    record {
      so_far : List Fault;
      first : IsFirstOf (some_fault_of l.best) so_far;
      rest : so_far ++ faults_among s (tapes_of (drop l.unit-index l.units))
          ≡ s.faults ++ (body_faults s ++ faults_among s (tapes_of l.units));
    }
