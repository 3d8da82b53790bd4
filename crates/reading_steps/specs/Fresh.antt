-- A name that no open scope has: one more than the greatest of all names, declared or held.
use Rattle.std.specs.Prelude.{◌≡◌, ℕ, suc, max, false, List, [], ◌∷◌, Option, None, Some}
use Rattle.typedef_scope.specs.declared.kind.Kind.{Kind}
use Rattle.typedef_scope.specs.Scopes.{kind_in}
use Rattle.c_units.specs.HeldScopes.{HeldScopes, innermost, kind_of, is_name}

-- a number greater than all names that a scope declares
abbrev pub above_names : List (ℕ × Kind) → ℕ
above_names [] = 0
above_names (known ∷ names) = max (suc known.0) (above_names names)

-- a number greater than the name that a scope holds, if any
abbrev pub above_held : Option ℕ → ℕ
above_held None = 0
above_held (Some name) = suc name

-- a name that no open scope declares or holds
abbrev pub fresh : HeldScopes → ℕ
fresh [] = 0
fresh (scope ∷ outer) = max (max (above_names scope.names) (above_held scope.held)) (fresh outer)

-- a name has no kind, and is not held
pub record IsFree (s : HeldScopes) (name : ℕ) : Type 0 where
  pub no_kind : kind_of s name ≡ None
  pub none_here : kind_in (innermost s).names name ≡ None
  pub not_held : is_name (innermost s).held name ≡ false
