-- Names of units one after another: what a source sees of the prelude. Of another source it sees nothing.
use Rattle.std.specs.Prelude.{ℕ, nat_eq, Bool, true, false, List, [], ◌∷◌, ◌++◌, Option, None, Some, if◌then◌else◌}
use Rattle.name_rules.specs.Spellings.{Place}
use Rattle.name_rules.specs.Scopes.{Meaning, means_type, means_thing, no_scope, innermost, Role, typedef_role, object_role, function_role, parameter_role, field_role, enumerator_role, Declared, declared_at, Names}

-- what is known before the first unit: nothing, with an empty file scope
abbrev pub no_names : Names
no_names =
    record {
      declared = [];
      scopes = no_scope ∷ [];
      aggregates = [];
      things = [];
      statics = [];
      round = [];
      uses = [];
      type_names = [];
      faults = [];
      bodies = [];
      enclosing = None;
      kept = None;
    }

-- whether a declaration of the prelude is one that sources see: of an object or a function
abbrev pub is_shared : Option Declared → Bool
is_shared None = false
is_shared (Some d) = is_shared_role d.role where
  is_shared_role : Role → Bool
  is_shared_role typedef_role = false
  is_shared_role object_role = true
  is_shared_role function_role = true
  is_shared_role (parameter_role i) = false
  is_shared_role (field_role n i) = false
  is_shared_role enumerator_role = false

-- a name of the prelude's file scope, where it is one that sources see
abbrev pub shared_name : Names → ℕ → Meaning → List (ℕ × Place)
shared_name s name (means_type t) = []
shared_name s name (means_thing at) = if is_shared (declared_at s.declared at) then (name, at) ∷ [] else []

-- what sources see of the prelude: the objects and functions of its file scope, no types, no tags and no enumerators
abbrev pub shared : Names → List (ℕ × Meaning) → List (ℕ × Place)
shared s [] = []
shared s (it ∷ names) = shared_name s it.0 it.1 ++ shared s names

-- A unit begins with a file scope of its own. What the prelude's file scope has, which is the innermost behind the
-- prelude, is round the file scope of the first source and of all others.
abbrev pub unit_begun : ℕ → Names → Names
unit_begun unit s =
    record s {
      scopes = no_scope ∷ [];
      round = if nat_eq unit 1 then shared s (innermost s.scopes).names else s.round;
    }
