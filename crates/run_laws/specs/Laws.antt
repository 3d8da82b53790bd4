-- What accepted says of runs.
use Rattle.std.specs.Prelude.{ℕ}
use Rattle.lattice_core.specs.Order.{Order, IsOrder}
use Rattle.flow_graph.specs.System.{System}
use Rattle.flow_graph.specs.Unfolding.{IsAcceptedIn}
use Rattle.run_laws.specs.Programs.{Program, IsSystemOf}
use Rattle.run_laws.specs.Example as example
use Rattle.run_laws.specs.Runs.{World, State, Run, IsOneOf, IsWorld, IsViolated}

-- Where the constraints of a program are accepted in a lattice, no state of any run of it has a violation there.
abbrev pub RunsAreSafe : Type 0
RunsAreSafe = (sys : System) (lattice : ℕ) (order : Order) (p : Program) (w : World) (st : State) →
    IsOrder order → IsAcceptedIn sys lattice order → IsSystemOf sys lattice p → IsWorld sys w →
    Run sys lattice p w st → IsViolated sys lattice order p w st → ⊥

-- There are violations to be had: the constraints of a program are in its system, and a run of it has one.
abbrev pub SomeRunIsViolated : Type 0
SomeRunIsViolated =
    IsOrder example.order × IsSystemOf (example.sys 0) 0 example.program × IsWorld (example.sys 0) example.world ×
    ((st : State) × Run (example.sys 0) 0 example.program example.world st ×
    IsViolated (example.sys 0) 0 example.order example.program example.world st)

-- And there are runs of accepted programs: where `b` may be tainted, the same program is accepted, and a run of it
-- brings what is tainted to the cell of `b`.
abbrev pub SomeRunIsAccepted : Type 0
SomeRunIsAccepted = IsAcceptedIn (example.sys 1) 0 example.order × IsSystemOf (example.sys 1) 0 example.program ×
    IsWorld (example.sys 1) example.world ×
    ((st : State) × Run (example.sys 1) 0 example.program example.world st × IsOneOf 1 (st.cells 1 0).labels)
