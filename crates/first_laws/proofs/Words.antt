-- Kinds of names in a scope, and the names among tokens.
use Rattle.std.proofs.Common.{◌≡◌, ℕ, nat_eq, Bool, true, false, List, [], ◌∷◌, Option, None, Some, refl, ◌∙◌, ap}
use Rattle.std.specs.Prelude.{if◌then◌else◌}
use Rattle.std.proofs.lemmas.Bool.{eq-eqb}
use Rattle.c_words.specs.declared.kinds.TokenKind.{TokenKind}
use Rattle.c_words.specs.declared.kinds.TokenKind.TheVariants as kinds
use Rattle.c_tree.specs.declared.lexeme.Lexeme.{Lexeme}
use Rattle.typedef_scope.specs.declared.kind.Kind.{Kind}
use Rattle.typedef_scope.specs.declared.kind.Kind.TheVariants.{Typedef, Value, Constant}
use Rattle.typedef_scope.specs.Scopes.{is_same, kind_in}
use Rattle.c_units.specs.HeldScopes.{HeldScope, admits, may_declare, with_kind, with_name}
use Rattle.first_laws.specs.Firsts.{is_named, has_name}

-- kinds

-- what a scope that may declare a name with a kind gives it then
pub kind_own : (scope : HeldScope) (m : ℕ) (kind : Kind) → may_declare scope m kind ≡ true →
    kind_in (with_name scope m kind).names m ≡ Some kind
kind_own scope m kind may = by (kind_in scope.names m) refl may
  where
    one_kind : (known kind : Kind) → is_same known kind ≡ true → known ≡ kind
    one_kind Typedef Typedef e = refl
    one_kind Value Value e = refl
    one_kind Constant Constant e = refl
    one_kind Typedef Value e = absurd cc
    one_kind Typedef Constant e = absurd cc
    one_kind Value Typedef e = absurd cc
    one_kind Value Constant e = absurd cc
    one_kind Constant Typedef e = absurd cc
    one_kind Constant Value e = absurd cc

    by : (o : Option Kind) → kind_in scope.names m ≡ o → admits o kind ≡ true →
        kind_in (with_kind o scope m kind).names m ≡ Some kind
    by None is h = rw (eq-eqb m m refl) refl
    by (Some known) is h = is ∙ ap (λ (k : Kind). Some k) (one_kind known kind h)

-- other names keep their kinds
pub kind_other : (scope : HeldScope) (m : ℕ) (kind : Kind) (n : ℕ) → nat_eq m n ≡ false →
    kind_in (with_name scope m kind).names n ≡ kind_in scope.names n
kind_other scope m kind n other = by (kind_in scope.names m)
  where
    by : (o : Option Kind) → kind_in (with_kind o scope m kind).names n ≡ kind_in scope.names n
    by None = rw other refl
    by (Some known) = refl

-- a scope that may declare a name as an object or a type's name does not declare it as an enumerator
pub no_constant : (o : Option Kind) (kind : Kind) → is_same Constant kind ≡ false → admits o kind ≡ true →
    o ≡ Some Constant → ⊥
no_constant None kind other h e = absurd cc
no_constant (Some Constant) kind other h e = absurd cc
no_constant (Some Typedef) kind other h e = absurd cc
no_constant (Some Value) kind other h e = absurd cc

-- names among tokens

module _ (N : ℕ → Type 0) where
  abbrev pub IsOf : TokenKind → Type 0
  IsOf (kinds.Name n) = N n
  IsOf (kinds.Keyword word) = Unit {0}
  IsOf kinds.Number = Unit {0}
  IsOf kinds.Char = Unit {0}
  IsOf kinds.Text = Unit {0}
  IsOf (kinds.Punct sign) = Unit {0}
  IsOf (kinds.Qual lattice element) = Unit {0}
  IsOf kinds.Index = Unit {0}
  IsOf kinds.End = Unit {0}

  -- each name among tokens is such a name
  abbrev pub AreOf : List Lexeme → Type 0
  AreOf [] = Unit {0}
  AreOf (it ∷ ts) = IsOf it.kind × AreOf ts

  pub of_each : (ts : List Lexeme) → ((m : ℕ) → has_name ts m ≡ true → N m) → AreOf ts
  of_each [] h = tt
  of_each (it ∷ ts) h = (
    by it.kind (λ m e. h m (ap (λ (b : Bool). if b then true else has_name ts m) e)),
    of_each ts (λ m e. h m (behind (is_named it.kind m) (has_name ts m) e)),
  )
    where
      by : (kind : TokenKind) → ((m : ℕ) → is_named kind m ≡ true → N m) → IsOf kind
      by (kinds.Name n) g = g n (eq-eqb n n refl)
      by (kinds.Keyword word) g = tt
      by kinds.Number g = tt
      by kinds.Char g = tt
      by kinds.Text g = tt
      by (kinds.Punct sign) g = tt
      by (kinds.Qual lattice element) g = tt
      by kinds.Index g = tt
      by kinds.End g = tt

      behind : (b c : Bool) → c ≡ true → (if b then true else c) ≡ true
      behind true c e = refl
      behind false c e = e
