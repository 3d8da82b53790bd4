-- Positions as clauses see them.
use Rattle.std.specs.Prelude.{ℕ, List}
use Rattle.qual_types.specs.declared.position.Step.{Step}
use Rattle.qual_types.specs.declared.position.Position.{Position}

-- where a variable stands: the unit and the token of its skeleton, and the path from there to it
pub record PositionView : Type 0 where
  pub unit : ℕ
  pub token : ℕ
  pub path : List Step

-- the position, with its path as a list
abbrev pub view_of : Position → PositionView
view_of position = record { unit = position.unit; token = position.token; path = position.path.items }
