use Rattle.std.proofs.Common.{◌≡◌, drop}
use Rattle.name_rules.specs.ShapeSteps.Found.{faults_found}
use Rattle.expr_shapes.specs.ShapeStacks.Views.{state_in}
use Rattle.name_tables.specs.UnitSpelling.Spelled.{spelling_of}
use Rattle.unit_shapes.specs.Faults.{some_fault_of, keep}
use Rattle.unit_shapes.specs.Views.{names_in}
use Rattle.unit_shapes.proofs.judge.judge.Given as goal

-- the best fault so far, with those along the ops left, is the best of the first and those along the tape
abbrev pub invariant-loop-op : goal.invariant-loop-op
invariant-loop-op l =
    keep (some_fault_of l.best)
    (faults_found (spelling_of l.spelling) (names_in l.types l.names) (state_in l.types l.stacks)
    (drop l.op-index l.tape))
    ≡ keep (some_fault_of l.initial.best)
    (faults_found (spelling_of l.spelling) (names_in l.types l.names) (state_in l.types l.initial.stacks) l.tape)
