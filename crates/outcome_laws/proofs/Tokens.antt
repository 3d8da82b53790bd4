-- The bytes of a unit spell one list of tokens, and stop nowhere beside it.
use Rattle.std.proofs.Common.{◌≡◌, ◌≢◌, ℕ, Bool, List, drop, take, sym, ◌∙◌}
use Rattle.std.specs.Prelude.{codes}
use Rattle.qual_base.specs.Words.{MeansTheSame}
use Rattle.c_words.specs.declared.kinds.TokenKind.{TokenKind}
use Rattle.c_words.specs.declared.kinds.TokenKind.TheVariants.{Name, Keyword, Number, Char, Text, Punct, Qual, Index, End}
use Rattle.c_lexer.specs.declared.token.Token.{Token}
use Rattle.c_lexer.specs.declared.places.Mark.{Mark}
use Rattle.c_lexer.specs.Reading.{Front, IsKind, Meanings, Reaches, Spells, begins, skips, takes}
use Rattle.c_lexer.specs.Tokens.{Lexed}
use Rattle.c_lexer.specs.Refusals.{IsRefusal}
use Rattle.c_lexer.specs.declared.lexing.LexFault.{LexFault}
use Rattle.c_lexer.specs.declared.lexing.LexFault.TheVariants.{NoMemory as NoRoom}
use Rattle.c_lexer.proofs.OnceLemmas.{spells-once, refused-once}
use Rattle.outcome_laws.specs.Readings.{Lexes, OneListOfTokens}

-- tokens that bytes spell, where words mean the same by other lists
module _ (unit : ℕ) (wide : Bool) (words others : Meanings) (same : MeansTheSame words others) where
  kind_by : (names : List (List ℕ)) (bytes : List ℕ) (kind : TokenKind) → IsKind unit wide words names bytes kind
      → IsKind unit wide others names bytes kind
  kind_by names bytes (Name id) h = h
  kind_by names bytes (Keyword word) h = h
  kind_by names bytes Number h = h
  kind_by names bytes Char h = h
  kind_by names bytes Text h = h
  kind_by names bytes (Punct sign) h = h
  kind_by names bytes (Qual lattice elem) h = (h.0, h.1, sym (same bytes) ∙ h.2)
  kind_by names bytes Index h = h
  kind_by names bytes End h = h

  reached_by : (bytes : List ℕ) (front : Front) → Reaches unit wide words bytes front
      → Reaches unit wide others bytes front
  reached_by bytes _ begins = begins
  reached_by bytes _ (skips old new before step) = skips old new (reached_by bytes old before) step
  reached_by bytes _ (takes old new before step) =
      takes old new (reached_by bytes old before) (record {
        n = step.n;
        kind = step.kind;
        no_comment = step.no_comment;
        longest = step.longest;
        is_kind = kind_by old.names (take step.n (drop old.at bytes)) step.kind step.is_kind;
        at = step.at;
        fresh = step.fresh;
        tokens = step.tokens;
        names = step.names;
        marks = step.marks;
      })

  spelled_by : (bytes : List ℕ) (tokens : List Token) (names : List (List ℕ)) (marks : List Mark) →
      Spells unit wide words bytes tokens names marks → Spells unit wide others bytes tokens names marks
  spelled_by bytes tokens names marks h = record {
    front = h.front;
    reached = reached_by bytes h.front h.reached;
    whole = h.whole;
    tokens_are = h.tokens_are;
    names_are = h.names_are;
    marks_are = h.marks_are;
  }

module _ (unit : ℕ) (wide : Bool) (meanings : Meanings) (bytes : List ℕ) where
  -- the tokens, with the words that are asked
  spells : (lexed : Lexed) → Lexes unit wide meanings bytes lexed
      → (names : List (List ℕ)) × Spells unit wide meanings bytes lexed.tokens names lexed.marks
  spells lexed h =
      let spelled = rw (h.unit_is, h.dialect, h.bytes_are) at h.marks.spelled in (
        spelled.0,
        spelled_by unit wide h.marks.words meanings h.marks.mean bytes lexed.tokens spelled.0 lexed.marks spelled.1,
      )

  lexes_once : (a b : Lexed) → Lexes unit wide meanings bytes a → Lexes unit wide meanings bytes b → a ≡ b
  lexes_once a b h k =
      let one = spells a h in
      let other = spells b k in
      let same = spells-once unit wide meanings bytes a.tokens b.tokens one.0 other.0 a.marks b.marks one.1 other.1 in
      let constant : a.constant ≡ b.constant =
      h.marks.keywords.constant ∙ h.marks.mean (codes "const") ∙ sym (k.marks.mean (codes "const"))
      ∙ sym k.marks.keywords.constant in
      let volatile : a.volatile ≡ b.volatile =
      h.marks.keywords.volatile ∙ h.marks.mean (codes "volatile") ∙ sym (k.marks.mean (codes "volatile"))
      ∙ sym k.marks.keywords.volatile in
      let restrict : a.restrict ≡ b.restrict =
      h.marks.keywords.restrict ∙ h.marks.mean (codes "restrict") ∙ sym (k.marks.mean (codes "restrict"))
      ∙ sym k.marks.keywords.restrict in
      λ i. record {
        unit = (h.unit_is ∙ sym k.unit_is) i;
        wide = (h.dialect ∙ sym k.dialect) i;
        bytes = (h.bytes_are ∙ sym k.bytes_are) i;
        tokens = same.0 i;
        marks = same.1 i;
        constant = constant i;
        volatile = volatile i;
        restrict = restrict i;
      }

  never_refused : (lexed : Lexed) → Lexes unit wide meanings bytes lexed → (words : Meanings) (fault : LexFault)
      → MeansTheSame words meanings →
      fault ≢ NoRoom → IsRefusal unit wide words bytes fault → ⊥
  never_refused lexed h words fault mean reason refused =
      let one = spells lexed h in
      reason (refused-once unit wide words bytes fault refused lexed.tokens one.0 lexed.marks
      (spelled_by unit wide meanings words (λ word. sym (mean word)) bytes lexed.tokens one.0 lexed.marks one.1))

-- the bytes of a unit that spell tokens spell one list of them, and are refused nowhere
pub one_list_of_tokens : OneListOfTokens
one_list_of_tokens unit wide meanings bytes lexed h = record {
  only = λ other k. lexes_once unit wide meanings bytes lexed other h k;
  sound = never_refused unit wide meanings bytes lexed h;
}
