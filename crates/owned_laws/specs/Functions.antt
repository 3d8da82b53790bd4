-- Each object or function that was first declared at a place as a function has a number among functions, and a skeleton
-- there, of which all variables are its own.
use Rattle.std.specs.Prelude.{◌≡◌, ℕ, true, All, Some}
use Rattle.std.specs.List.{Contains}
use Rattle.flow_graph.specs.System.{owner_of}
use Rattle.flow_rules.specs.Owners.{AllOwned}
use Rattle.qual_types.specs.Skel.{nodes}
use Rattle.name_rules.specs.Spellings.{Place}
use Rattle.name_rules.specs.Scopes.{function_role, Declared, declared_at}
use Rattle.name_rules.specs.Linking.{link_of}
use Rattle.type_rules.specs.Program.{names_of}
use Rattle.row_rules.specs.Annotations.{has_access}
use Rattle.row_rules.specs.Sites.{functions_of, has_place, owner_by}
use Rattle.row_rules.specs.Worlds.{numbered_from, skeleton_among}
use Rattle.constraint_rules.specs.Systems.{Program, starts_of, system_of}
use Rattle.row_laws.specs.KeyLaws.Differing.{IsRead, UnitsDiffer}

-- what was first declared at the place is a function, by its link, and the variables of the skeleton there belong to it
pub record OwnsIts (p : Program) (q : Place) : Type 0 where
  pub numbered : has_place (functions_of (names_of p.sources)) (link_of (names_of p.sources) q) ≡ true
  pub owned : AllOwned (owner_of (system_of p))
      (owner_by (functions_of (names_of p.sources)) (Some (link_of (names_of p.sources) q)))
      (nodes (skeleton_among (numbered_from 0 (starts_of (has_access p.lattices) p.sources)) q))

-- the law: functions own the variables of their skeletons, where units were read and no two have one number
abbrev pub FunctionsOwnTheirs : Type 0
FunctionsOwnTheirs =
    (p : Program) → All IsRead p.sources → UnitsDiffer p.sources → (name : ℕ) (q : Place) (d : Declared)
    → Contains (names_of p.sources).things (name, q) → declared_at (names_of p.sources).declared q ≡ Some d
    → d.role ≡ function_role → OwnsIts p q
