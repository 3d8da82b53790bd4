-- What is true of the fields of every graph.
use Rattle.std.specs.Prelude.{◌≡◌, ◌≤◌, ◌<◌, ◌^◌, length}
use Rattle.flow_graph.specs.declared.graph.FlowGraph.TheInside.{Inside}
use Rattle.flow_graph.specs.System.{System, AllWithin, highest, most_constraints}

-- the system that a graph has
abbrev pub system_of : Inside → System
system_of g = record { constraints = g.constraints.items; sites = g.sites.items; owners = g.owners }

-- what holds of each graph
pub record IsHeld (g : Inside) : Type 0 where
  pub most : length g.constraints.items ≤ most_constraints
  pub few_sites : length g.sites.items < 2 ^ 32
  pub few_owners : length g.owners ≤ 2 ^ 24
  pub highest_is : g.highest ≡ highest g.constraints.items
  pub low : g.highest ≤ 2 ^ 24
  pub within : AllWithin (system_of g)
