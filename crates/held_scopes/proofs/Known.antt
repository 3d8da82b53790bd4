-- The kind of a name, by the names of the scopes.
use Rattle.std.proofs.Common.{◌≡◌, ℕ, eqb, Bool, true, false, [], ◌∷◌, Option, None, Some, refl, ◌∙◌, ap}
use Rattle.std.proofs.Common.{if◌then◌else◌}
use Rattle.typedef_scope.specs.declared.kind.Kind.{Kind}
use Rattle.typedef_scope.specs.Scopes.{Scope, kind_in, else_in}
use Rattle.c_units.specs.HeldScopes as held
use Rattle.name_lists.specs.Newest as lists
use Rattle.held_scopes.specs.Named.{names_of}

-- the newest entry of a name in a scope is the kind that the scope gives it
newest_kind : (es : Scope) (n : ℕ) → lists.newest es n ≡ kind_in es n
newest_kind [] n = refl
newest_kind (e ∷ es) n = by_test (eqb e.0 n) (newest_kind es n)
  where
    by_test : (b : Bool) → lists.newest es n ≡ kind_in es n
        → (if b then Some e.1 else lists.newest es n) ≡ (if b then Some e.1 else kind_in es n)
    by_test true is = refl
    by_test false is = is

-- in the innermost scope
pub kind_here : (scopes : held.HeldScopes) (n : ℕ)
    → lists.newest (lists.innermost (names_of scopes)) n ≡ kind_in (held.innermost scopes).names n
kind_here [] n = refl
kind_here (scope ∷ outer) n = newest_kind scope.names n

-- in all scopes
pub kind_through : (scopes : held.HeldScopes) (n : ℕ)
    → lists.newest_through (names_of scopes) n ≡ held.kind_of scopes n
kind_through [] n = refl
kind_through (scope ∷ outer) n =
    by_kind (lists.newest scope.names n) (newest_kind scope.names n) (kind_through outer n)
  where
    by_kind : (o : Option Kind) → o ≡ kind_in scope.names n
        → lists.newest_through (names_of outer) n ≡ held.kind_of outer n
        → lists.or_outer o (lists.newest_through (names_of outer) n)
        ≡ else_in (kind_in scope.names n) (held.kind_of outer n)
    by_kind None is rest = rest ∙ ap (λ o. else_in o (held.kind_of outer n)) is
    by_kind (Some kind) is rest = ap (λ o. else_in o (held.kind_of outer n)) is
