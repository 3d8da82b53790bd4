-- Kinds of names, and what a scope gives a name (C99, 6.2.1).
use Rattle.std.specs.Prelude.{ℕ, nat_eq, Bool, true, false, List, [], ◌∷◌, Option, None, Some, if◌then◌else◌}
use Rattle.typedef_scope.specs.declared.kind.Kind.{Kind}
use Rattle.typedef_scope.specs.declared.kind.Kind.TheVariants.{Typedef, Value, Constant}

-- the names of a scope, each with its kind, the newest first
abbrev pub Scope : Type 0
Scope = List (ℕ × Kind)

-- whether two kinds are one
abbrev pub is_same : Kind → Kind → Bool
is_same Typedef Typedef = true
is_same Value Value = true
is_same Constant Constant = true
is_same _ _ = false

-- the kind that a scope gives a name
abbrev pub kind_in : Scope → ℕ → Option Kind
kind_in [] name = None
kind_in (known ∷ scope) name = if nat_eq known.0 name then Some known.1 else kind_in scope name

-- the kind that an inner scope gives a name, or else that of an outer one
abbrev pub else_in : Option Kind → Option Kind → Option Kind
else_in (Some kind) outer = Some kind
else_in None outer = outer
