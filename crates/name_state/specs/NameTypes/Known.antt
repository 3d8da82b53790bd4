-- What is known of numbers of types while their table grows.
use Rattle.std.specs.Prelude.{◌≡◌, ℕ, ◌<◌, ◌≤◌, List, [], length, slice_get, unwrap_or}
use Rattle.type_table.specs.declared.row.Shape.{Shape}
use Rattle.type_table.specs.declared.row.TypeRow.{TypeRow}
use Rattle.type_table.specs.Types.{Words, CType, base, void, struct}
use Rattle.type_table.specs.Rows.{shown, type_of, AreParts, Keeps}
use Rattle.name_rules.specs.Pieces.{bare}
use Rattle.name_state.specs.declared.name_types.types.SoFar.{SoFar}
use Rattle.name_state.specs.declared.name_types.types.SoFar.TheVariants as so_fars

-- the types of all numbers, those of a table and of any that it grows to
abbrev pub Knows : (ℕ → CType) → List TypeRow → Type 0
Knows t rows = (n : ℕ) → n < length rows → t n ≡ type_of rows n

-- a number has this type, in a table and in any that it grows to
abbrev pub Is : List TypeRow → ℕ → ((ℕ → CType) → CType) → Type 0
Is rows ty made = (t : ℕ → CType) → Knows t rows → t ty ≡ made t

-- what was there stays
pub record Grows (old new : List TypeRow) : Type 0 where
  pub keeps : Keeps old new
  pub longer : length old ≤ length new

-- the type that the specifiers have so far
abbrev pub so_far_type : (ℕ → CType) → SoFar → CType
so_far_type t so_fars.Base = base []
so_far_type t so_fars.Void = void []
so_far_type t (so_fars.Struct n) = struct [] n
so_far_type t (so_fars.Type ty) = t ty

-- the number of the type so far, where it has one, is below this
abbrev pub IsLow : ℕ → SoFar → Type 0
IsLow n so_fars.Base = Unit {0}
IsLow n so_fars.Void = Unit {0}
IsLow n (so_fars.Struct s) = Unit {0}
IsLow n (so_fars.Type ty) = ty < n

-- a copy of a shape stands for the same types
pub record IsCopy (shape copy : Shape) : Type 0 where
  pub same : (types : List CType) (ws es : Words) → shown types copy ws es ≡ shown types shape ws es
  pub parts : (n : ℕ) → AreParts n shape → AreParts n copy

-- of a list of the types without annotation words of the first types, that of a number; behind them the number itself
abbrev pub bare_at : List ℕ → ℕ → ℕ
bare_at bares n = unwrap_or (slice_get bares n) n

-- the types without annotation words are known, of the first types of a table
pub record AreBare (rows : List TypeRow) (bares : List ℕ) : Type 0 where
  pub few : length bares ≤ length rows
  pub low : (n : ℕ) → n < length bares → bare_at bares n < length rows
  pub same : (n : ℕ) → n < length bares → type_of rows (bare_at bares n) ≡ bare (type_of rows n)
