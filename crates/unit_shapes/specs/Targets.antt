-- Targets of items, with types in place of their numbers.
use Rattle.std.specs.Prelude.{ℕ, Bool, true, false, List, Some, None, option_map}
use Rattle.type_table.specs.Types.{CType}
use Rattle.name_rules.specs.Scopes.{Aggregate}
use Rattle.name_rules.specs.Values as rules
use Rattle.name_rules.specs.ShapeSteps.State.{Braces, whole, untargeted, listed}
use Rattle.unit_shapes.specs.declared.targets.Target.{Target}
use Rattle.unit_shapes.specs.declared.targets.Target.TheVariants as targets

-- what an item of an initialiser initialises, with the type in place of its number
abbrev pub target_of : (ℕ → CType) → Target → rules.Target
target_of t targets.Nothing = rules.no_target
target_of t (targets.To ty) = rules.to (option_map t ty)

-- a list that initialises something
abbrev pub is_listed : Braces → Bool
is_listed (whole t) = false
is_listed untargeted = false
is_listed (listed t is_first next named) = true

-- the number of the member behind a designated one, in a list
abbrev pub number_behind : List Aggregate → ℕ → Braces → ℕ
number_behind all name (whole t) = 0
number_behind all name untargeted = 0
number_behind all name (listed t is_first next None) = rules.behind_member all t name next
number_behind all name (listed t is_first next (Some named)) = next
