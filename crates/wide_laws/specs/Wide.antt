-- What a reader with more room does at a token that a reader with less refuses for the height: it goes on behind that
-- token.
use Rattle.std.specs.Prelude.{◌≡◌, ℕ, ◌<◌, ◌≤◌, ◌+◌, ◌-◌, ◌⊎◌, Bool, true, List, ◌++◌, Option, Ok, Err}
use Rattle.c_tree.specs.declared.lexeme.Lexeme.{Lexeme}
use Rattle.c_tree.specs.Tree.{SpecWords, no_words}
use Rattle.typedef_scope.specs.declared.kind.Kind.{Kind}
use Rattle.c_units.specs.HeldScopes.{HeldScopes}
use Rattle.c_reading.specs.declared.kinds.FaultKind.TheVariants.{TooDeep}
use Rattle.c_reading.specs.declared.kinds.Reach.{Reach}
use Rattle.c_reading.specs.declared.kinds.Reach.TheVariants.{Whole, Assigned, Unary}
use Rattle.c_reading.specs.declared.kinds.Role.{Role}
use Rattle.c_reading.specs.declared.kinds.Role.TheVariants.{Naming}
use Rattle.c_reading.specs.declared.kinds.Mode.{Mode}
use Rattle.c_reading.specs.Reading.{Refusal, Read, number_at, kind_at, behind_first}
use Rattle.c_reading.specs.Tokens.{is_open_paren, is_open_brace}
use Rattle.c_reading.specs.Specifying.{begins_role}
use Rattle.c_reading.specs.Expressing.{begins_expr}
use Rattle.c_reading.specs.Parts.{Inner, Begun, nothing}
use Rattle.room_laws.specs.Rooms.{number_of, unit_of}

-- some of these tokens, and these behind them
abbrev pub Leaves : List Lexeme → List Lexeme → Type 0
Leaves ts us = (taken : List Lexeme) × (ts ≡ taken ++ us)

-- the token of this number is where something is refused among these
abbrev pub IsAmong : List Lexeme → ℕ → Type 0
IsAmong ts at = (us : List Lexeme) × (Leaves ts us × (at ≡ number_at us))

-- what is left is among these, and so is what is refused, unless that is for the height
abbrev pub Late : {A : Type 0} → List Lexeme → Read A → Type 0
Late ts (Ok y) = Leaves ts y.rest
Late ts (Err d) = (d.0 ≡ TooDeep) ⊎ IsAmong ts d.1

-- refused for the height, where the other goes on
pub record DeeperAt (A : Type 0) (ts : List Lexeme) (e : Refusal) (q : Read A) : Type 0 where
  pub at : List Lexeme
  pub left : Leaves ts at
  pub is : e ≡ (TooDeep, number_at at)
  pub late : Late (behind_first at) q

-- what is answered with more room beside what is answered with less: the same, or it goes on behind a token refused
-- for the height
abbrev pub Passes : {A : Type 0} → List Lexeme → Read A → Read A → Type 0
Passes ts (Ok x) q = q ≡ Ok x
Passes {A} ts (Err e) q = (q ≡ Err e) ⊎ DeeperAt A ts e q

-- two readers of the same tokens, under a condition for all of them and under one that holds here
pub record BothOf (A S D : Type 0) (ts : List Lexeme) (r q : Read A) : Type 0 where
  pub late : Late ts q
  pub pass : S → D → Passes ts r q

-- the same of two readers of whatever trees
abbrev pub Both : {A : Type 0} → Type 0 → Type 0 → List Lexeme → Read A → Read A → Type 0
Both {A} S D ts r q = BothOf A S D ts r q

-- and the second goes on behind the first token
pub record AheadOf (A S D : Type 0) (ts : List Lexeme) (r q : Read A) : Type 0 where
  pub past : Late (behind_first ts) q
  pub both : BothOf A S D ts r q

-- the same of two readers of whatever trees, the second of which goes on behind the first token
abbrev pub Ahead : {A : Type 0} → Type 0 → Type 0 → List Lexeme → Read A → Read A → Type 0
Ahead {A} S D ts r q = AheadOf A S D ts r q

-- two rooms: the second is the first or more, by this at most
abbrev pub Near : ℕ → ℕ → ℕ → Type 0
Near gap room wide = (room ≤ wide) × (wide ≤ room + gap)

-- of the readers of two numbers, the second this much above the first, with rooms below them that are as far apart at
-- most
pub record InnerBoth (S : Type 0) (n gap : ℕ) (inner other : Inner) : Type 0 where
  pub exprs : (reach : Reach) (begun : Begun) (room wide : ℕ) → Near gap room wide → (s : HeldScopes) (ts : List Lexeme)
      → Both S (room < n) ts (inner.expr reach begun room s ts) (other.expr reach begun wide s ts)
  pub types : (room wide : ℕ) → Near gap room wide → (s : HeldScopes) (ts : List Lexeme)
      → Both S ((room < n) × (1 ≤ room)) ts (inner.type_name room s ts) (other.type_name wide s ts)
  pub words : (role : Role) (words : SpecWords) (room wide : ℕ) → Near gap room wide
      → (s : HeldScopes) (ts : List Lexeme)
      → Both S (room < n) ts (inner.specs role words room s ts) (other.specs role words wide s ts)
  pub declrs : (mode : Mode) (wanted : Option Kind) (flag : Bool) (room wide : ℕ) → Near gap room wide
      → (s : HeldScopes) (ts : List Lexeme) →
      Both S (number_of flag room < n) ts (inner.declr mode wanted flag room s ts)
      (other.declr mode wanted flag wide s ts)
  pub lists : (room wide : ℕ) → Near gap room wide → (s : HeldScopes) (ts : List Lexeme)
      → Both S (room < n) ts (inner.init_list room s ts) (other.init_list wide s ts)
  pub blocks : (room wide : ℕ) → Near gap room wide → (s : HeldScopes) (ts : List Lexeme)
      → Both S (room < n) ts (inner.block room s ts) (other.block wide s ts)
  pub stmts : (room wide : ℕ) → Near gap room wide → (s : HeldScopes) (ts : List Lexeme)
      → Both S (room < n) ts (inner.stmt room s ts) (other.stmt wide s ts)
  -- where one begins, the second goes on; a type's name does where there are two readers below it
  pub whole_first : S → (wide : ℕ) → wide ≤ n + gap - 1 → (s : HeldScopes) (ts : List Lexeme)
      → begins_expr s (kind_at ts) ≡ true → Late (behind_first ts) (other.expr Whole nothing wide s ts)
  pub assigned_first : S → (wide : ℕ) → wide ≤ n + gap - 1 → (s : HeldScopes) (ts : List Lexeme)
      → begins_expr s (kind_at ts) ≡ true → Late (behind_first ts) (other.expr Assigned nothing wide s ts)
  pub unary_first : S → (wide : ℕ) → wide ≤ n + gap - 1 → (s : HeldScopes) (ts : List Lexeme)
      → is_open_paren (kind_at ts) ≡ true → Late (behind_first ts) (other.expr Unary nothing wide s ts)
  pub words_first : S → (role : Role) (wide : ℕ) → wide ≤ n + gap - 1 → (s : HeldScopes) (ts : List Lexeme)
      → begins_role role s (kind_at ts) ≡ true → Late (behind_first ts) (other.specs role no_words wide s ts)
  pub types_first : S → (wide : ℕ) → 3 ≤ n + gap → wide ≤ n + gap - 1 → (s : HeldScopes) (ts : List Lexeme)
      → begins_role Naming s (kind_at ts) ≡ true → Late (behind_first ts) (other.type_name wide s ts)
  pub list_first : S → (wide : ℕ) → wide ≤ n + gap - 1 → (s : HeldScopes) (ts : List Lexeme)
      → is_open_brace (kind_at ts) ≡ true → Late (behind_first ts) (other.init_list wide s ts)

-- what is answered with some room is answered with more; and what is refused is refused alike, or, where that is for
-- the height, something behind it is read or refused, or it is for the height again
abbrev pub WithMoreRoomItPasses : Type 0
WithMoreRoomItPasses =
    (room wide : ℕ) → 1 ≤ room → room < wide → (dialect : Bool) (all : List Lexeme)
    → Passes all (unit_of room dialect all) (unit_of wide dialect all)
