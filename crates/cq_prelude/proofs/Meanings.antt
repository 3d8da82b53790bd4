-- Tokens that bytes spell, where words mean the same by other lists.
use Rattle.std.proofs.Common.{ℕ, Bool, List, drop, take, sym, ◌∙◌}
use Rattle.qual_base.specs.Words.{MeansTheSame}
use Rattle.c_words.specs.declared.kinds.TokenKind.{TokenKind}
use Rattle.c_words.specs.declared.kinds.TokenKind.TheVariants.{Name, Keyword, Number, Char, Text, Punct, Qual, Index, End}
use Rattle.c_lexer.specs.declared.token.Token.{Token}
use Rattle.c_lexer.specs.declared.places.Mark.{Mark}
use Rattle.c_lexer.specs.Reading.{Front, IsKind, Meanings, Reaches, Spells, begins, skips, takes}

-- what kind of token bytes are by some words they are by other words that mean the same
kind_by : (unit : ℕ) (wide : Bool) (words others : Meanings) → MeansTheSame words others
    → (names : List (List ℕ)) (bytes : List ℕ) (kind : TokenKind) →
    IsKind unit wide words names bytes kind → IsKind unit wide others names bytes kind
kind_by unit wide words others same names bytes (Name id) h = h
kind_by unit wide words others same names bytes (Keyword word) h = h
kind_by unit wide words others same names bytes Number h = h
kind_by unit wide words others same names bytes Char h = h
kind_by unit wide words others same names bytes Text h = h
kind_by unit wide words others same names bytes (Punct sign) h = h
kind_by unit wide words others same names bytes (Qual lattice elem) h = (h.0, h.1, sym (same bytes) ∙ h.2)
kind_by unit wide words others same names bytes Index h = h
kind_by unit wide words others same names bytes End h = h

-- what bytes reach by some words they reach by other words that mean the same
reached_by : (unit : ℕ) (wide : Bool) (words others : Meanings) → MeansTheSame words others
    → (bytes : List ℕ) (front : Front) →
    Reaches unit wide words bytes front → Reaches unit wide others bytes front
reached_by unit wide words others same bytes _ begins = begins
reached_by unit wide words others same bytes _ (skips old new before step) =
    skips old new (reached_by unit wide words others same bytes old before) step
reached_by unit wide words others same bytes _ (takes old new before step) =
    takes old new (reached_by unit wide words others same bytes old before) (record {
      n = step.n;
      kind = step.kind;
      no_comment = step.no_comment;
      longest = step.longest;
      is_kind = kind_by unit wide words others same old.names (take step.n (drop old.at bytes)) step.kind step.is_kind;
      at = step.at;
      fresh = step.fresh;
      tokens = step.tokens;
      names = step.names;
      marks = step.marks;
    })

-- bytes that spell tokens by some words spell them by other words that mean the same
pub spelled_by : (unit : ℕ) (wide : Bool) (words others : Meanings) → MeansTheSame words others →
    (bytes : List ℕ) (tokens : List Token) (names : List (List ℕ)) (marks : List Mark) →
    Spells unit wide words bytes tokens names marks → Spells unit wide others bytes tokens names marks
spelled_by unit wide words others same bytes tokens names marks h = record {
  front = h.front;
  reached = reached_by unit wide words others same bytes h.front h.reached;
  whole = h.whole;
  tokens_are = h.tokens_are;
  names_are = h.names_are;
  marks_are = h.marks_are;
}
