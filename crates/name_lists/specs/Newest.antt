-- The newest entry of a name.
use Rattle.std.specs.Prelude.{ℕ, nat_eq, List, [], ◌∷◌, Option, Some, None, if◌then◌else◌}

-- what a name stands for by the first entry of it
abbrev pub newest : {V : Type 0} → List (ℕ × V) → ℕ → Option V
newest [] name = None
newest (it ∷ entries) name = if nat_eq it.0 name then Some it.1 else newest entries name

-- the first that there is
abbrev pub or_outer : {V : Type 0} → Option V → Option V → Option V
or_outer None outer = outer
or_outer (Some here) outer = Some here

-- what a name stands for in the first of some lists that has it
abbrev pub newest_through : {V : Type 0} → List (List (ℕ × V)) → ℕ → Option V
newest_through [] name = None
newest_through (scope ∷ outer) name = or_outer (newest scope name) (newest_through outer name)

-- the innermost scope; without names where none is open
abbrev pub innermost : {V : Type 0} → List (List (ℕ × V)) → List (ℕ × V)
innermost [] = []
innermost (scope ∷ outer) = scope

-- what is open round the innermost scope
abbrev pub outer_scopes : {V : Type 0} → List (List (ℕ × V)) → List (List (ℕ × V))
outer_scopes [] = []
outer_scopes (scope ∷ outer) = outer
