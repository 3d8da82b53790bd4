-- The tokens of a unit, as clauses see them, and what is answered of each.
use Rattle.std.specs.Prelude.{◌≡◌, ℕ, Bool, ◌<◌, ◌≤◌, ◌^◌, List, [], ◌∷◌, ◌++◌, length, map, Option, Some, None, codes, slice_get, slice_range, unwrap_or}
use Rattle.std.specs.List.Sorted.{IsNonDecreasingBy}
use Rattle.qual_base.specs.Words.{meaning_of, MeansTheSame}
use Rattle.qual_base.specs.declared.places.Spot.{Spot}
use Rattle.c_words.specs.declared.kinds.TokenKind.{TokenKind}
use Rattle.c_words.specs.declared.kinds.TokenKind.TheVariants.{End, Keyword as IsKeyword, Qual}
use Rattle.c_words.specs.declared.kinds.Keyword.{Keyword}
use Rattle.c_words.specs.declared.kinds.Keyword.TheVariants.{Const, Volatile, Restrict}
use Rattle.c_lexer.specs.declared.token.Token.{Token}
use Rattle.c_lexer.specs.declared.places.Mark.{Mark}
use Rattle.c_lexer.specs.Places.{spot_at}
use Rattle.c_lexer.specs.Reading.{Meanings, Spells}

-- A unit with its tokens and linemarkers, whether it is read as wider C, and what `const`, `volatile` and `restrict`
-- mean in the lattices.
pub record Lexed : Type 0 where
  pub unit : ℕ
  pub wide : Bool
  pub bytes : List ℕ
  pub tokens : List Token
  pub marks : List Mark
  pub constant : Option (ℕ × ℕ)
  pub volatile : Option (ℕ × ℕ)
  pub restrict : Option (ℕ × ℕ)

-- what a keyword means in a lattice, where that is said of `const`, `volatile` and `restrict`
abbrev pub keyword_meaning : Option (ℕ × ℕ) → Option (ℕ × ℕ) → Option (ℕ × ℕ) → Keyword → Option (ℕ × ℕ)
keyword_meaning constant volatile restrict Const = constant
keyword_meaning constant volatile restrict Volatile = volatile
keyword_meaning constant volatile restrict Restrict = restrict
keyword_meaning constant volatile restrict keyword = None

-- what a token means in a lattice: a `$` word, or a keyword that a lattice names
abbrev pub mark_of_kind : Lexed → TokenKind → Option (ℕ × ℕ)
mark_of_kind lexed (Qual lattice elem) = Some (lattice, elem)
mark_of_kind lexed (IsKeyword keyword) = keyword_meaning lexed.constant lexed.volatile lexed.restrict keyword
mark_of_kind lexed kind = None

-- what the three keywords mean is what these words say of them
pub record NamesKeywords (words : Meanings) (lexed : Lexed) : Type 0 where
  pub constant : lexed.constant ≡ meaning_of words (codes "const")
  pub volatile : lexed.volatile ≡ meaning_of words (codes "volatile")
  pub restrict : lexed.restrict ≡ meaning_of words (codes "restrict")

-- the bytes of the unit spell its tokens and linemarkers, with some list of different names
abbrev pub IsSpelled : Meanings → Lexed → Type 0
IsSpelled words lexed =
    (names : List (List ℕ)) × Spells lexed.unit lexed.wide words lexed.bytes lexed.tokens names lexed.marks

-- The bytes spell the tokens, where the `$` words and the three keywords mean what these words say.
pub record IsMarkedBy (meanings : Meanings) (lexed : Lexed) : Type 0 where
  pub words : Meanings
  pub mean : MeansTheSame words meanings
  pub spelled : IsSpelled words lexed
  pub keywords : NamesKeywords words lexed

-- where a token begins; 0 where there is no such token
abbrev pub start_of : List Token → ℕ → ℕ
start_of tokens n = unwrap_or (slice_get (map (λ (token : Token). token.start) tokens) n) 0

-- where a token ends; 0 where there is no such token
abbrev pub end_of : List Token → ℕ → ℕ
end_of tokens n = unwrap_or (slice_get (map (λ (token : Token). token.end) tokens) n) 0

-- the bytes that spell a token
abbrev pub text_of : Lexed → ℕ → List ℕ
text_of lexed n = slice_range lexed.bytes (start_of lexed.tokens n) (end_of lexed.tokens n)

-- how a report names the place of a token
abbrev pub token_spot : Lexed → ℕ → Spot
token_spot lexed n = spot_at lexed.unit lexed.bytes lexed.marks (start_of lexed.tokens n)

-- the last token is the end of the unit
abbrev pub IsEnded : List Token → Type 0
IsEnded tokens = (front : List Token) × (last : Token) × (tokens ≡ front ++ last ∷ []) × (last.kind ≡ End)

-- each token stands within the bytes, which are few enough to number, the last one is the end of the unit, and the
-- lines of the marks come in order
pub record IsSound (bytes : List ℕ) (tokens : List Token) (marks : List Mark) : Type 0 where
  pub few : length tokens < 2 ^ 32
  pub inside : (k : ℕ) (t : Token) → slice_get tokens k ≡ Some t → (t.start ≤ t.end) × (t.end ≤ length bytes)
  pub ended : IsEnded tokens
  pub rising : IsNonDecreasingBy (λ (m : Mark). m.from) marks
