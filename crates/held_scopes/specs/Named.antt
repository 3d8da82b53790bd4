-- The names of scopes.
use Rattle.std.specs.Prelude.{ℕ, List, [], ◌∷◌}
use Rattle.typedef_scope.specs.declared.kind.Kind.{Kind}
use Rattle.c_units.specs.HeldScopes.{HeldScopes}

-- the names of each scope with their kinds, without the names that are held
abbrev pub names_of : HeldScopes → List (List (ℕ × Kind))
names_of [] = []
names_of (scope ∷ outer) = scope.names ∷ names_of outer
