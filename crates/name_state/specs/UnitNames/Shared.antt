-- What sources see of the prelude, types by their numbers.
use Rattle.std.specs.Prelude.{ℕ, Bool, true, false, List, [], ◌∷◌, ◌++◌, Option, None, Some, if◌then◌else◌}
use Rattle.name_rules.specs.Spellings.{Place}
use Rattle.name_tables.specs.declared.name_scopes.meant.Meant.{Meant}
use Rattle.name_tables.specs.declared.name_scopes.meant.Meant.TheVariants as meants
use Rattle.name_tables.specs.declared.name_records.declarations.Declared.{Declared}
use Rattle.name_tables.specs.declared.name_records.declarations.Role.{Role}
use Rattle.name_tables.specs.declared.name_records.declarations.Role.TheVariants as roles
use Rattle.name_tables.specs.NameRecords.Records.{first_declared}

-- whether something is declared as an object or a function
abbrev pub is_shared_role : Role → Bool
is_shared_role roles.Typedef = false
is_shared_role roles.Object = true
is_shared_role roles.Function = true
is_shared_role (roles.Parameter i) = false
is_shared_role (roles.Field n i) = false
is_shared_role roles.Enumerator = false

-- whether a declaration of the prelude is one that sources see: of an object or a function
abbrev pub is_shared : Option Declared → Bool
is_shared None = false
is_shared (Some d) = is_shared_role d.role

-- a name of the prelude's file scope, where it is one that sources see
abbrev pub shared_name : List Declared → ℕ → Meant → List (ℕ × Place)
shared_name all name (meants.Type ty) = []
shared_name all name (meants.Thing at) = if is_shared (first_declared all at) then (name, at) ∷ [] else []

-- of the names of the prelude's file scope those that sources see
abbrev pub shared : List Declared → List (ℕ × Meant) → List (ℕ × Place)
shared all [] = []
shared all (it ∷ names) = shared_name all it.0 it.1 ++ shared all names
