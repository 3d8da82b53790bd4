-- What a reader does with more room: it answers the same, and refuses the same token with the same fault unless that is
-- the height.
use Rattle.std.specs.Prelude.{◌≡◌, ℕ, ◌<◌, ◌≤◌, ◌-◌, ◌⊎◌, Bool, true, false, suc, List, [], Option, Result, Ok, Err}
use Rattle.c_tree.specs.declared.lexeme.Lexeme.{Lexeme}
use Rattle.c_tree.specs.Tree.{SpecWords}
use Rattle.c_tree.specs.Unit.{Item, unit_height}
use Rattle.typedef_scope.specs.declared.kind.Kind.{Kind}
use Rattle.c_units.specs.HeldScopes.{HeldScopes, file_scope}
use Rattle.c_reading.specs.declared.kinds.FaultKind.TheVariants.{TooDeep}
use Rattle.c_reading.specs.declared.kinds.Reach.{Reach}
use Rattle.c_reading.specs.declared.kinds.Role.{Role}
use Rattle.c_reading.specs.declared.kinds.Mode.{Mode}
use Rattle.c_reading.specs.Reading.{Refusal, Found, Read, ◌>>=◌, token_at, IsNumbered}
use Rattle.c_reading.specs.Tokens.{is_end}
use Rattle.c_reading.specs.Parts.{Inner, Begun}
use Rattle.c_reading.specs.Items.{items_with}
use Rattle.c_reading.specs.Knot.{knot, alone}
use Rattle.refusal_rules.specs.Allowed.{IsWellFormedAtAnyHeight}

-- what is answered with more room beside what is answered with less: the same, unless that was refused for the height
abbrev pub More : {A : Type 0} → Result A Refusal → Result A Refusal → Type 0
More (Ok x) other = other ≡ Ok x
More (Err e) other = (e.0 ≡ TooDeep) ⊎ (other ≡ Err e)

-- the room of a declarator that may be a function's counts as one more
abbrev pub number_of : Bool → ℕ → ℕ
number_of true room = suc room
number_of false room = room

-- of the readers of two numbers, with rooms below the first
pub record InnerMore (n : ℕ) (inner other : Inner) : Type 0 where
  pub exprs : (reach : Reach) (begun : Begun) (room wide : ℕ) → room < n → room ≤ wide
      → (s : HeldScopes) (ts : List Lexeme) → More (inner.expr reach begun room s ts) (other.expr reach begun wide s ts)
  pub types : (room wide : ℕ) → room < n → 1 ≤ room → room ≤ wide → (s : HeldScopes) (ts : List Lexeme)
      → More (inner.type_name room s ts) (other.type_name wide s ts)
  pub words : (role : Role) (words : SpecWords) (room wide : ℕ) → room < n → room ≤ wide
      → (s : HeldScopes) (ts : List Lexeme) → More (inner.specs role words room s ts) (other.specs role words wide s ts)
  pub declrs : (mode : Mode) (wanted : Option Kind) (flag : Bool) (room wide : ℕ) → number_of flag room < n
      → room ≤ wide → (s : HeldScopes) (ts : List Lexeme) →
      More (inner.declr mode wanted flag room s ts) (other.declr mode wanted flag wide s ts)
  pub lists : (room wide : ℕ) → room < n → room ≤ wide → (s : HeldScopes) (ts : List Lexeme)
      → More (inner.init_list room s ts) (other.init_list wide s ts)
  pub blocks : (room wide : ℕ) → room < n → room ≤ wide → (s : HeldScopes) (ts : List Lexeme)
      → More (inner.block room s ts) (other.block wide s ts)
  pub stmts : (room wide : ℕ) → room < n → room ≤ wide → (s : HeldScopes) (ts : List Lexeme)
      → More (inner.stmt room s ts) (other.stmt wide s ts)

-- a unit of at most this height; that of 500 is the reader of units
abbrev pub unit_of : ℕ → Bool → List Lexeme → Read (List Item)
unit_of room dialect all =
    items_with (knot room) (room - 1) (file_scope dialect) all >>= λ items. token_at is_end items.scopes items.rest
    >>= λ last. alone dialect items.tree last.rest

-- with more room a unit is read alike
abbrev pub MoreRoomIsMore : Type 0
MoreRoomIsMore =
    (room wide : ℕ) → 1 ≤ room → room ≤ wide → (dialect : Bool) (all : List Lexeme)
    → More (unit_of room dialect all) (unit_of wide dialect all)

-- a unit that is well formed but for its height is read with room for it
abbrev pub AnyHeightIsRead : Type 0
AnyHeightIsRead =
    (dialect : Bool) (all : List Lexeme) → IsNumbered all → (room : ℕ) (items : List Item) → 1 ≤ room
    → IsWellFormedAtAnyHeight dialect all items
    → unit_height items ≤ room
    → unit_of room dialect all ≡ Ok (record { tree = items; scopes = file_scope dialect; rest = [] })

-- what is read with any room is well formed but for its height
abbrev pub AnyUnitIsWellFormed : Type 0
AnyUnitIsWellFormed =
    (dialect : Bool) (all : List Lexeme) → IsNumbered all → (room : ℕ) (x : Found (List Item)) → 1 ≤ room
    → unit_of room dialect all ≡ Ok x → IsWellFormedAtAnyHeight dialect all x.tree
