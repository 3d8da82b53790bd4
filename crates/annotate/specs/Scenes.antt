-- What the lines name, as the code holds it, and what is written of it.
use Rattle.std.specs.Prelude.{◌≡◌, ℕ, ◌<◌, nat_eq, Bool, true, false, List, [], ◌∷◌, ◌++◌, length, map, slice_get, Some, if◌then◌else◌}
use Rattle.qual_types.specs.Positions.{PositionView}
use Rattle.qual_types.specs.Table.{Stands}
use Rattle.annotate.specs.declared.scene.Scene.{Scene as Lent}
use Rattle.annotate.specs.declared.scene.UnitText.{UnitText as LentUnit}
use Rattle.annotate.specs.Texts.{UnitText, Scene}

-- a unit as the texts see it
abbrev pub unit_of : LentUnit → UnitText
unit_of unit = record { file = unit.file.now; lexed = unit.tokens.now }

-- units as the texts see them
abbrev pub units_of : List LentUnit → List UnitText
units_of units = map unit_of units

-- one of some units has this number
abbrev pub has_unit : List UnitText → ℕ → Bool
has_unit [] number = false
has_unit (unit ∷ units) number = if nat_eq unit.lexed.unit number then true else has_unit units number

-- no two units have one number
abbrev pub AreApart : List UnitText → Type 0
AreApart [] = Unit {0}
AreApart (unit ∷ units) = (has_unit units unit.lexed.unit ≡ false) × AreApart units

-- The texts' scene is what the code holds: no two of its units have one number, and its position of a variable is the
-- one where the variable stands in the table.
pub record Shows (lent : Lent) (scene : Scene) : Type 0 where
  pub units : scene.units ≡ units_of lent.units.now
  pub apart : AreApart (units_of lent.units.now)
  pub lattices : scene.lattices ≡ lent.lattices.now
  pub listed : scene.listed ≡ lent.listed.now
  pub count : length scene.positions ≡ length lent.vars.now
  pub stand : (v : ℕ) (p : PositionView) → v < length lent.vars.now → Stands lent.vars.now p v
      → slice_get scene.positions v ≡ Some p

-- behind what was written stands the text of the scene
pub record Writes (lent : Lent) (old new : List ℕ) (text : Scene → List ℕ) : Type 0 where
  pub is : (scene : Scene) → Shows lent scene → new ≡ old ++ text scene

-- behind what was written stands a text of this kind
pub record Part (old new : List ℕ) (Is : List ℕ → Type 0) : Type 0 where
  pub text : List ℕ
  pub added : new ≡ old ++ text
  pub is : Is text

-- behind what was written stands a text of this kind, for each scene that the code holds
pub record WritesSome (lent : Lent) (old new : List ℕ) (Is : Scene → List ℕ → Type 0) : Type 0 where
  pub part : (scene : Scene) → Shows lent scene → Part old new (Is scene)
