use Rattle.std.proofs.Common.{◌≡◌, ◌++◌, drop, map}
use Rattle.row_rules.specs.RowSteps.Starting.{starts_found}
use Rattle.expr_shapes.specs.ShapeStacks.Views.{state_in}
use Rattle.name_tables.specs.UnitSpelling.Spelled.{spelling_of}
use Rattle.unit_shapes.specs.Views.{names_in}
use Rattle.unit_starts.specs.Views.{start_in}
use Rattle.unit_starts.proofs.Selecting.{Selected}
use Rattle.unit_starts.proofs.starts.find.Given as goal

-- invariant of the loop: the skeletons found and still to come are those of the tape, and the selections so far added
abbrev pub invariant-loop-op : goal.invariant-loop-op
invariant-loop-op l =
    (map (start_in l.types) l.found
    ++ starts_found (spelling_of l.spelling) (names_in l.types l.names) (state_in l.types l.stacks) l.rounds
    (drop l.op-index l.tape)
    ≡ map (start_in l.types) l.initial.found
    ++ starts_found (spelling_of l.spelling) (names_in l.types l.names)
    (state_in l.types l.initial.stacks) l.initial.rounds l.tape)
    × Selected (spelling_of l.spelling) (names_in l.types l.names) (state_in l.types l.initial.stacks)
    (state_in l.types l.stacks) l.tape l.op-index l.initial.candidates l.candidates
