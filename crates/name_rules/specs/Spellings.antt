-- What the tokens of a source say that neither its tree nor its tape does.
use Rattle.std.specs.Prelude.{ℕ, Bool, [], ◌∷◌, if◌then◌else◌}
use Rattle.type_table.specs.Types.{Words}

-- a token of a unit
abbrev pub Place : Type 0
Place = ℕ × ℕ

-- What is read from the tokens of a unit: whether it is one of wider C; whether the word at a token is an annotation,
-- as a `$` word is, an index word, or a keyword that a lattice names; whether the number at a token is spelled `0`; and
-- the number of a name's spelling, which is the same in all units.
pub record Spelling : Type 0 where
  pub unit : ℕ
  pub wide : Bool
  pub annotates : ℕ → Bool
  pub is_naught : ℕ → Bool
  pub key : ℕ → ℕ

-- the place of a token of this unit
abbrev pub place : Spelling → ℕ → Place
place u token = (u.unit, token)

-- the annotation that the word at a token is, where it is one
abbrev pub annotation_at : Spelling → ℕ → Words
annotation_at u token = if u.annotates token then place u token ∷ [] else []

-- a name with its token
pub record Named : Type 0 where
  pub token : ℕ
  pub name : ℕ
