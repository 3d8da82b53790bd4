-- Laws of what leads where.
use Rattle.std.specs.Prelude.{◌≡◌, ℕ, List, None, ◌↔◌}
use Rattle.flow_graph.specs.declared.proof.PathStep.{PathStep}
use Rattle.flow_graph.specs.System.{System, IsWellOwned}
use Rattle.flow_graph.specs.Parts.{AreSubs}
use Rattle.flow_graph.specs.Leading.{Leads, GoesTo}
use Rattle.flow_graph.specs.Walks.{IsWalk, walk_fault}

-- In a well owned system a path in two phases leads exactly where the unfolding does at some depth.
abbrev pub LeadsAreWalks : Type 0
LeadsAreWalks = (sys : System) (lattice u v : ℕ) → IsWellOwned sys → Leads sys lattice u v ↔ GoesTo sys lattice u v

-- No step of a walk with its sub-paths fails a rule, and it ends where it is to.
abbrev pub WalkShown : Type 0
WalkShown =
    (sys : System) (lattice from to end : ℕ) (subs : List (List PathStep)) (steps : List PathStep)
    → AreSubs sys lattice subs →
    IsWalk sys lattice subs from to steps → walk_fault sys lattice from to subs steps end ≡ None
