-- Scopes after one change.
use Rattle.std.specs.Prelude.{ℕ, List, [], ◌∷◌, Some, None}
use Rattle.typedef_scope.specs.declared.kind.Kind.{Kind}
use Rattle.c_units.specs.HeldScopes.{HeldScope, HeldScopes}

-- a scope that gives one more name a kind
abbrev pub bound : ℕ → Kind → HeldScope → HeldScope
bound name kind scope = record scope { names = (name, kind) ∷ scope.names }

-- a scope that holds a name
abbrev pub holding : ℕ → HeldScope → HeldScope
holding name scope = record scope { held = Some name }

-- the scopes, of which the innermost holds no name
abbrev pub without_held : HeldScopes → HeldScopes
without_held [] = []
without_held (scope ∷ outer) = record scope { held = None } ∷ outer
