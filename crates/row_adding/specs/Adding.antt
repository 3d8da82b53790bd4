-- Lists of constraints that are added to a system in each world that is shown.
use Rattle.std.specs.Prelude.{◌≡◌, ℕ, ◌<◌, ◌≤◌, List, length, take}
use Rattle.flow_graph.specs.declared.constraint.Constraint.{Constraint}
use Rattle.flow_graph.specs.declared.graph.GraphFault.{GraphFault}
use Rattle.flow_graph.specs.declared.graph.GraphFault.TheVariants.{TooMany}
use Rattle.flow_graph.specs.System.{System, most_constraints}
use Rattle.flow_rules.specs.Adding.{with}
use Rattle.row_rules.specs.Worlds.{World}
use Rattle.row_world.specs.declared.known.Known.{Known}
use Rattle.row_world.specs.Shown.{Shows}

-- An adding that stopped early: some constraints of the list were added, from the first on. TooMany says that more were
-- to come and that there was no place for the next one.
pub record StopsEarly (old new : System) (fault : GraphFault) (list : List Constraint) : Type 0 where
  pub added : ℕ
  pub within : added ≤ length list
  pub part : new ≡ with old (take added list)
  pub full : fault ≡ TooMany → (added < length list) × (length new.constraints ≡ most_constraints)

-- the rows of each world that is shown stand behind what the system had
abbrev pub Adds : Known → System → System → (World → List Constraint) → Type 0
Adds known old new rows = (w : World) → Shows known w → new ≡ with old (rows w)

-- the adding of these rows stopped early
abbrev pub Halts : Known → System → System → GraphFault → (World → List Constraint) → Type 0
Halts known old new fault rows = (w : World) → Shows known w → StopsEarly old new fault (rows w)
