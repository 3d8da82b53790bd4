-- What is kept of the scopes goes through one step after another.
use Rattle.std.proofs.Common.{◌≡◌, ℕ, Bool, true, false, if◌then◌else◌, ◌∷◌, Option, Some, None, refl, sym, ◌∙◌, ap}
use Rattle.std.specs.Prelude.{nat_eq}
use Rattle.typedef_scope.specs.declared.kind.Kind.{Kind}
use Rattle.typedef_scope.specs.declared.kind.Kind.TheVariants.{Constant}
use Rattle.typedef_scope.specs.Scopes.{kind_in}
use Rattle.c_units.specs.HeldScopes.{HeldScopes, HeldScope, innermost, leave, admits, may_declare, is_name, with_kind, with_name, declare, release, release_as, hold}
use Rattle.reading_steps.specs.Keeping.{Kept}

pub kept_refl : (b : Bool) (s : HeldScopes) → Kept b s s
kept_refl true s = record { outer = refl; held = refl; constants = λ name h. h }
kept_refl false s = refl

pub kept_trans : (b : Bool) (s t u : HeldScopes) → Kept b s t → Kept b t u → Kept b s u
kept_trans true s t u h g = record {
  outer = g.outer ∙ h.outer;
  held = g.held ∙ h.held;
  constants = λ name may. g.constants name (h.constants name may);
}
kept_trans false s t u h g = g ∙ h

-- what an expression leaves, a declaration leaves
pub kept_weaker : (b : Bool) (s t : HeldScopes) → Kept true s t → Kept b s t
kept_weaker true s t h = h
kept_weaker false s t h = h.outer

-- a scope of its own is left as it was entered
pub own_kept : (scope : HeldScope) (s t : HeldScopes) → Kept false (scope ∷ s) t → Kept true s (leave t)
own_kept scope s t h = rw h (kept_refl true s)

-- a declarator's name is let go, and held
pub release_kept : (kind : Kind) (s : HeldScopes) → Kept false s (release kind s)
release_kept kind s = by_name (innermost s).held
  where
    by_name : (o : Option ℕ) → leave (release_as o kind s) ≡ leave s
    by_name None = refl
    by_name (Some name) = refl

-- a scope that holds a name for a declarator keeps the scopes outside
pub hold_kept : (name : ℕ) (kind : Kind) (s t : HeldScopes) → hold name kind s ≡ Some t → Kept false s t
hold_kept name kind s t e = by_test (may_declare (innermost s) name kind) e
  where
    by_test : (b : Bool) → (if b then Some (record (innermost s) { held = Some name } ∷ leave s) else None) ≡ Some t
        → leave t ≡ leave s
    by_test true e = let is : record (innermost s) { held = Some name } ∷ leave s ≡ t = cc in ap leave (sym is)
    by_test false e = absurd cc

-- An enumerator.

with_held : (o : Option Kind) (scope : HeldScope) (name : ℕ) (kind : Kind)
    → (with_kind o scope name kind).held ≡ scope.held
with_held None scope name kind = refl
with_held (Some known) scope name kind = refl

-- an enumerator that a scope may have may still be declared there behind another one
with_constant : (o : Option Kind) (scope : HeldScope) (name other : ℕ) → may_declare scope other Constant ≡ true
    → may_declare (with_kind o scope name Constant) other Constant ≡ true
with_constant (Some known) scope name other h = h
with_constant None scope name other h = by_test (nat_eq name other)
  where
    by_test : (b : Bool) → admits (if b then Some Constant else kind_in scope.names other) Constant ≡ true
    by_test true = refl
    by_test false = h

-- an enumerator that is declared keeps the outer scopes, the name held, and what enumerators may be declared
pub declare_kept : (name : ℕ) (s t : HeldScopes) → declare name Constant s ≡ Some t → Kept true s t
declare_kept name s t e = by_held (is_name (innermost s).held name) e
  where
    kept : with_name (innermost s) name Constant ∷ leave s ≡ t → Kept true s t
    kept is = rw (sym is) (record {
      outer = refl;
      held = with_held (kind_in (innermost s).names name) (innermost s) name Constant;
      constants = λ other may. with_constant (kind_in (innermost s).names name) (innermost s) name other may;
    })

    by_may : (b : Bool) → (if b then Some (with_name (innermost s) name Constant ∷ leave s) else None) ≡ Some t
        → Kept true s t
    by_may true e = kept cc
    by_may false e = absurd cc

    by_held : (b : Bool)
        → (if b then None else if may_declare (innermost s) name Constant
        then Some (with_name (innermost s) name Constant ∷ leave s) else None) ≡ Some t
        → Kept true s t
    by_held true e = absurd cc
    by_held false e = by_may (may_declare (innermost s) name Constant) e

-- behind its value an enumerator can be declared, where it could before
pub declare_is : (name : ℕ) (s t : HeldScopes) → is_name (innermost s).held name ≡ false
    → may_declare (innermost s) name Constant ≡ true → Kept true s t →
    declare name Constant t ≡ Some (with_name (innermost t) name Constant ∷ leave t)
declare_is name s t held may h = rw (h.held, held, h.constants name may) refl
