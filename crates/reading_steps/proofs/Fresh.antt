-- A fresh name is free.
use Rattle.std.proofs.Common.{◌≡◌, ℕ, ◌<◌, ◌≤◌, true, false, List, [], ◌∷◌, Option, Some, None, refl, arith}
use Rattle.std.proofs.lemmas.Bool.{ne_eqb}
use Rattle.typedef_scope.specs.declared.kind.Kind.{Kind}
use Rattle.typedef_scope.specs.Scopes.{kind_in}
use Rattle.c_units.specs.HeldScopes.{HeldScopes, innermost, leave, kind_of, names_type, may_declare, is_name, hold}
use Rattle.reading_steps.specs.Fresh.{above_names, above_held, fresh, IsFree}
use Rattle.reading_steps.specs.Laws.{FreshIsFree}

-- a name above all those of a scope has no kind in it
none_above : (names : List (ℕ × Kind)) (name : ℕ) → above_names names ≤ name → kind_in names name ≡ None
none_above [] name h = refl
none_above (known ∷ names) name h =
    let less : known.0 < name = omega (arith, h) in
    let rest : above_names names ≤ name = omega (arith, h) in
    rw (ne_eqb known.0 name (λ same. absurd (omega (arith, less, same)))) (none_above names name rest)

held_above : (o : Option ℕ) (name : ℕ) → above_held o ≤ name → is_name o name ≡ false
held_above None name h = refl
held_above (Some held) name h = ne_eqb held name (λ same. absurd (omega (arith, h, same)))

-- a name that is fresh or above has no kind in any scope
no_kind_above : (s : HeldScopes) (name : ℕ) → fresh s ≤ name → kind_of s name ≡ None
no_kind_above [] name h = refl
no_kind_above (scope ∷ outer) name h =
    let here : above_names scope.names ≤ name = omega (arith, h) in
    let there : fresh outer ≤ name = omega (arith, h) in
    rw (none_above scope.names name here) (no_kind_above outer name there)

-- a name that is fresh or above is free: it has no kind, and the innermost scope neither has nor holds it
pub fresh_is_free : FreshIsFree
fresh_is_free [] name h = record { no_kind = refl; none_here = refl; not_held = refl }
fresh_is_free (scope ∷ outer) name h =
    let here : above_names scope.names ≤ name = omega (arith, h) in
    let held : above_held scope.held ≤ name = omega (arith, h) in
    record {
      no_kind = no_kind_above (scope ∷ outer) name h;
      none_here = none_above scope.names name here;
      not_held = held_above scope.held name held;
    }

-- the fresh name itself: no typedef name, it may be declared with each kind, and held
pub fresh_free : (s : HeldScopes) → IsFree s (fresh s)
fresh_free s = fresh_is_free s (fresh s) (omega arith)

pub free_names_no_type : (s : HeldScopes) (name : ℕ) → IsFree s name → names_type s name ≡ false
free_names_no_type s name h = rw h.no_kind refl

pub free_may : (s : HeldScopes) (name : ℕ) (kind : Kind) → IsFree s name → may_declare (innermost s) name kind ≡ true
free_may s name kind h = rw h.none_here refl

pub free_held : (s : HeldScopes) (name : ℕ) (kind : Kind) → IsFree s name
    → hold name kind s ≡ Some (record (innermost s) { held = Some name } ∷ leave s)
free_held s name kind h = rw (free_may s name kind h) refl
