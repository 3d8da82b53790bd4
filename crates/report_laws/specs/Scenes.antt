-- Scenes whose names and tokens have no line feed in them.
use Rattle.std.specs.Prelude.{◌≡◌, ◌≢◌, ℕ, List, Some, All, slice_get}
use Rattle.lattice_core.specs.Entries.{name_at}
use Rattle.lattice_core.specs.View.{LatticeView}
use Rattle.c_lexer.specs.Reading.{Meanings}
use Rattle.c_lexer.specs.Tokens.{Lexed, IsSpelled, text_of, token_spot}
use Rattle.annotate.specs.Texts.{UnitText, Scene, file_text}

-- no byte is a line feed
abbrev pub HasNoFeed : List ℕ → Type 0
HasNoFeed text = All (λ b. b ≢ 10) text

-- No line feed is in the name of a file, which is the unit's own or that of a linemarker, in a token, or in the name of
-- an element.
pub record HasNoFeeds (scene : Scene) : Type 0 where
  pub files : (k : ℕ) (unit : UnitText) (token : ℕ) → slice_get scene.units k ≡ Some unit
      → HasNoFeed (file_text unit.file unit.lexed.bytes (token_spot unit.lexed token))
  pub tokens : (k : ℕ) (unit : UnitText) (token : ℕ) → slice_get scene.units k ≡ Some unit
      → HasNoFeed (text_of unit.lexed token)
  pub names : (k : ℕ) (view : LatticeView) (elem : ℕ) (name : List ℕ) → slice_get scene.lattices k ≡ Some view
      → name_at view.entries elem ≡ Some name → HasNoFeed name

-- No token of a unit that its bytes spell has a line feed in it.
abbrev pub TokensHaveNoFeed : Type 0
TokensHaveNoFeed =
    (words : Meanings) (lexed : Lexed) → IsSpelled words lexed → (token : ℕ) → HasNoFeed (text_of lexed token)
