-- The types of a table of rows, each of which names lower rows alone.
use Rattle.std.specs.Prelude.{◌≡◌, ℕ, ◌<◌, min, Bool, true, false, List, [], ◌∷◌, ◌++◌, length, slice_get, unwrap_or, Option, Some, None}
use Rattle.type_table.specs.declared.row.Shape.{Shape}
use Rattle.type_table.specs.declared.row.Shape.TheVariants as shapes
use Rattle.type_table.specs.declared.row.TypeRow.{TypeRow}
use Rattle.type_table.specs.Types.{Words, CType, base, void, struct, pointer, function, CTypes, no_types, more_types, size}

-- the type of a number; a number past the table is a base type
abbrev pub type_at : List CType → ℕ → CType
type_at types n = unwrap_or (slice_get types n) (base [])

-- the types of some numbers, as those of parameters
abbrev pub types_at : List CType → List ℕ → CTypes
types_at types [] = no_types
types_at types (n ∷ ns) = more_types (type_at types n) (types_at types ns)

-- the words before an ellipsis, where there is one
abbrev pub some_where : Bool → Words → Option Words
some_where true ws = Some ws
some_where false ws = None

-- the type of a shape with its words, where these are the types before it
abbrev pub shown : List CType → Shape → Words → Words → CType
shown types shapes.Base ws es = base ws
shown types shapes.Void ws es = void ws
shown types (shapes.Ref t) ws es = pointer ws (type_at types t)
shown types (shapes.Fun ps r e) ws es = function ws (types_at types ps.items) (type_at types r) (some_where e es)
shown types (shapes.Struct s) ws es = struct ws s

-- the type of a row, where these are the types before it
abbrev pub row_type : List CType → TypeRow → CType
row_type types row = shown types row.shape row.words.items row.ellipsis_words.items

-- the types of some rows, behind those that were there
abbrev pub grown : List CType → List TypeRow → List CType
grown types [] = types
grown types (row ∷ rows) = grown (types ++ row_type types row ∷ []) rows

-- the types of a table
abbrev pub types_of : List TypeRow → List CType
types_of rows = grown [] rows

-- the type of a number in a table
abbrev pub type_of : List TypeRow → ℕ → CType
type_of rows n = type_at (types_of rows) n

-- all of these numbers are below one
abbrev pub AreBelow : ℕ → List ℕ → Type 0
AreBelow n [] = Unit {0}
AreBelow n (m ∷ ms) = (m < n) × AreBelow n ms

-- the parts of a shape are below a number
abbrev pub AreParts : ℕ → Shape → Type 0
AreParts n shapes.Base = Unit {0}
AreParts n shapes.Void = Unit {0}
AreParts n (shapes.Ref t) = t < n
AreParts n (shapes.Fun ps r e) = AreBelow n ps.items × (r < n)
AreParts n (shapes.Struct s) = Unit {0}

-- a size, at most 2^32 - 1
abbrev pub capped : ℕ → ℕ
capped n = min n 4294967295

-- a row behind these types names them alone, and has its size
abbrev pub IsMade : List CType → TypeRow → Type 0
IsMade types row = AreParts (length types) row.shape × (row.size ≡ capped (size (row_type types row)))

-- each of these rows names rows before it alone, and has its size
abbrev pub AreMade : List CType → List TypeRow → Type 0
AreMade types [] = Unit {0}
AreMade types (row ∷ rows) = IsMade types row × AreMade (types ++ row_type types row ∷ []) rows

-- what is known of a row at its place
pub record Stands (types : List CType) (n : ℕ) (row : TypeRow) : Type 0 where
  pub is : type_at types n ≡ row_type types row
  pub low : AreParts n row.shape
  pub sized : row.size ≡ capped (size (type_at types n))

-- what was there stays
abbrev pub Keeps : List TypeRow → List TypeRow → Type 0
Keeps old new = (n : ℕ) → n < length old → type_of new n ≡ type_of old n
