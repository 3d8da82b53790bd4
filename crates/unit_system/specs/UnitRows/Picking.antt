-- The candidates of a pick flow into its value, at the token of the pick.
use Rattle.std.specs.Prelude.{ℕ, List}
use Rattle.flow_graph.specs.declared.constraint.Constraint.{Constraint}
use Rattle.row_rules.specs.Worlds.{World, span}
use Rattle.row_rules.specs.Vals.{Candidate, own}
use Rattle.row_rules.specs.Rows.{picking}

-- what flows into the value of the pick at a token
abbrev pub picking_row : World → ℕ → List Candidate → List Constraint
picking_row w token all = picking w all (own w token) (span w token token)
