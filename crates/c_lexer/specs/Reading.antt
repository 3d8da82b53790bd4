-- What the bytes of a unit spell: gaps and tokens in turn, where no longer front of the rest is a token (C99, 6.4
-- paragraph 4).
use Rattle.std.specs.Prelude.{◌≡◌, ℕ, ◌+◌, ◌<◌, ◌≤◌, Bool, true, false, ◌||◌, ◌&&◌, ◌==◌, ◌⊎◌, List, [], ◌∷◌, ◌++◌, length, take, drop, Some, None, nat_eq, codes, slice_range}
use Rattle.std.specs.List.{starts_with}
use Rattle.qual_base.specs.Words.{meaning_of}
use Rattle.c_lexer.specs.declared.gaps.Gap.{Gap}
use Rattle.c_lexer.specs.declared.gaps.Gap.TheVariants.{SkippedLine}
use Rattle.c_words.specs.declared.kinds.TokenKind.{TokenKind}
use Rattle.c_words.specs.declared.kinds.TokenKind.TheVariants.{Name, Keyword, Number, Char, Text, Punct, Qual, Index, End}
use Rattle.c_lexer.specs.declared.kinds.Word.TheVariants.{Keyword as AsKeyword, Text as AsText}
use Rattle.c_lexer.specs.declared.token.Token.{Token}
use Rattle.c_lexer.specs.declared.marks.Marker.{Marker}
use Rattle.c_lexer.specs.declared.places.Mark.{Mark}
use Rattle.c_lexer.specs.declared.front.Stop.{Stop}
use Rattle.c_lexer.specs.declared.front.Stop.TheVariants.{BadByte, Unended, UnknownQualifier, NoMemory}
use Rattle.c_lexer.specs.Words.{word_kind, sign_kind}
use Rattle.c_lexer.specs.Names.{name_number, with_name}
use Rattle.c_lexer.specs.Spelling.{is_word, is_number, is_char, is_text, is_dollar, is_token, begins_comment, IsLongestOf, HasNone}
use Rattle.c_lexer.specs.Gaps.{IsGap, HasNoGap, fresh_behind}
use Rattle.c_lexer.specs.Marks.{IsMarker}

-- the qualifier words, each with its lattice and element
abbrev pub Meanings : Type 0
Meanings = List (List ℕ × (ℕ × ℕ))

-- a `$` word of a prelude that begins `$_`, which stands for indices
abbrev pub is_index : ℕ → List ℕ → Bool
is_index unit bytes = unit == 0 && starts_with nat_eq bytes (codes "$_")

-- the kind of a token that is spelled so, behind tokens with these different names
abbrev pub IsKind : ℕ → Bool → Meanings → List (List ℕ) → List ℕ → TokenKind → Type 0
IsKind unit wide words names bytes (Name id) =
    (is_word bytes ≡ true) × (word_kind wide bytes ≡ None) × (id ≡ name_number names bytes)
IsKind unit wide words names bytes (Keyword word) =
    (is_word bytes ≡ true) × (word_kind wide bytes ≡ Some (AsKeyword word))
IsKind unit wide words names bytes Number = is_number bytes ≡ true
IsKind unit wide words names bytes Char = is_char bytes ≡ true
IsKind unit wide words names bytes Text =
    (is_text bytes ≡ true) ⊎ ((is_word bytes ≡ true) × (word_kind wide bytes ≡ Some AsText))
IsKind unit wide words names bytes (Punct sign) = sign_kind bytes ≡ Some sign
IsKind unit wide words names bytes (Qual lattice elem) =
    (is_dollar bytes ≡ true) × (is_index unit bytes ≡ false) × (meaning_of words bytes ≡ Some (lattice, elem))
IsKind unit wide words names bytes Index = (is_dollar bytes ≡ true) × (is_index unit bytes ≡ true)
IsKind unit wide words names bytes End = ⊥

-- the different names behind a token that is spelled so
abbrev pub names_behind : List (List ℕ) → List ℕ → TokenKind → List (List ℕ)
names_behind names bytes (Name id) = with_name names bytes
names_behind names bytes kind = names

-- how far bytes were read: up to place `at`, before which only blanks stand on its line where `fresh` says so, with the
-- tokens, the different names and the linemarkers before it
pub record Front : Type 0 where
  pub at : ℕ
  pub fresh : Bool
  pub tokens : List Token
  pub names : List (List ℕ)
  pub marks : List Mark

-- nothing is read yet: the place is 0, a line is fresh there, and nothing stands before it
abbrev pub begin : Front
begin = record { at = 0; fresh = true; tokens = []; names = []; marks = [] }

-- what a linemarker of n bytes at a place says of the lines behind it
abbrev pub mark_of : ℕ → ℕ → Marker → Mark
mark_of at n marker = record {
  from = at + n + 1;
  number = marker.number;
  name_from = at + marker.name_from;
  name_to = at + marker.name_to;
}

-- the linemarkers behind a gap of n bytes at a place
abbrev pub MarksBehind : List ℕ → Gap → ℕ → ℕ → List Mark → List Mark → Type 0
MarksBehind bytes SkippedLine at n marks behind =
    ((marker : Marker) × IsMarker (slice_range bytes at (at + n)) marker × (behind ≡ marks ++ mark_of at n marker ∷ []))
    ⊎ (((marker : Marker) → ¬ IsMarker (slice_range bytes at (at + n)) marker) × (behind ≡ marks))
MarksBehind bytes gap at n marks behind = behind ≡ marks

-- a gap of n bytes stands between two places
pub record Skips (bytes : List ℕ) (old new : Front) : Type 0 where
  pub gap : Gap
  pub n : ℕ
  pub stands : IsGap gap old.fresh (drop old.at bytes) n
  pub at : new.at ≡ old.at + n
  pub fresh : new.fresh ≡ fresh_behind gap old.fresh
  pub tokens : new.tokens ≡ old.tokens
  pub names : new.names ≡ old.names
  pub marks : MarksBehind bytes gap old.at n old.marks new.marks

-- a token of n bytes stands between two places, and no longer front of the rest is one
pub record Takes (unit : ℕ) (wide : Bool) (words : Meanings) (bytes : List ℕ) (old new : Front) : Type 0 where
  pub n : ℕ
  pub kind : TokenKind
  pub no_comment : begins_comment (drop old.at bytes) ≡ false
  pub longest : IsLongestOf is_token (drop old.at bytes) n
  pub is_kind : IsKind unit wide words old.names (take n (drop old.at bytes)) kind
  pub at : new.at ≡ old.at + n
  pub fresh : new.fresh ≡ false
  pub tokens : new.tokens ≡ old.tokens ++ record { kind = kind; start = old.at; end = old.at + n } ∷ []
  pub names : new.names ≡ names_behind old.names (take n (drop old.at bytes)) kind
  pub marks : new.marks ≡ old.marks

-- gaps and tokens in turn lead to a place
pub data Reaches (unit : ℕ) (wide : Bool) (words : Meanings) (bytes : List ℕ) : Front → Type 0 where
  begins : Reaches unit wide words bytes begin
  skips : (old new : Front) → Reaches unit wide words bytes old → Skips bytes old new
      → Reaches unit wide words bytes new
  takes : (old new : Front) → Reaches unit wide words bytes old → Takes unit wide words bytes old new
      → Reaches unit wide words bytes new

-- the bytes spell these tokens, with these different names and linemarkers
pub record Spells (unit : ℕ) (wide : Bool) (words : Meanings) (bytes : List ℕ) (tokens : List Token)
    (names : List (List ℕ)) (marks : List Mark) : Type 0 where
  pub front : Front
  pub reached : Reaches unit wide words bytes front
  pub whole : front.at ≡ length bytes
  pub tokens_are : tokens ≡ front.tokens ++ record { kind = End; start = length bytes; end = length bytes } ∷ []
  pub names_are : names ≡ front.names
  pub marks_are : marks ≡ front.marks

-- no gap and no token begins at a place of the bytes
pub record IsStuck (bytes : List ℕ) (front : Front) : Type 0 where
  pub inside : front.at < length bytes
  pub no_gap : HasNoGap front.fresh (drop front.at bytes)
  pub no_token : begins_comment (drop front.at bytes) ≡ false → HasNone is_token (drop front.at bytes)

-- a string, a character constant or a comment begins, whether it ends or not
abbrev pub opens : List ℕ → Bool
opens bytes =
    starts_with nat_eq bytes (codes "'") || starts_with nat_eq bytes (codes "\"")
    || starts_with nat_eq bytes (codes "/*")

-- at a place stands a `$` word that is no index word and in no lattice
pub record IsUnknown (unit : ℕ) (words : Meanings) (bytes : List ℕ) (front : Front) : Type 0 where
  pub n : ℕ
  pub no_gap : HasNoGap front.fresh (drop front.at bytes)
  pub longest : IsLongestOf is_token (drop front.at bytes) n
  pub dollar : is_dollar (take n (drop front.at bytes)) ≡ true
  pub no_index : is_index unit (take n (drop front.at bytes)) ≡ false
  pub unknown : meaning_of words (take n (drop front.at bytes)) ≡ None

-- why reading stops at a place, which it leaves as it was; want of memory may come anywhere
abbrev pub StopsAt : ℕ → Bool → Meanings → List ℕ → Front → Front → Stop → Type 0
StopsAt unit wide words bytes old new BadByte = (new ≡ old) × IsStuck bytes old × (opens (drop old.at bytes) ≡ false)
StopsAt unit wide words bytes old new Unended = (new ≡ old) × IsStuck bytes old × (opens (drop old.at bytes) ≡ true)
StopsAt unit wide words bytes old new UnknownQualifier = (new ≡ old) × IsUnknown unit words bytes old
StopsAt unit wide words bytes old new NoMemory = Unit {0}

-- a gap or a token leads from a place to another
abbrev pub IsStep : ℕ → Bool → Meanings → List ℕ → Front → Front → Type 0
IsStep unit wide words bytes old new = Skips bytes old new ⊎ Takes unit wide words bytes old new

-- no more tokens and names than bytes were read
pub record IsCounted (front : Front) : Type 0 where
  pub tokens : length front.tokens ≤ front.at
  pub names : length front.names ≤ front.at

-- why a token has no kind: its `$` word is unknown, which leaves the names as they were, or memory is wanting
abbrev pub HasNoKind : ℕ → Meanings → List ℕ → List (List ℕ) → List (List ℕ) → Stop → Type 0
HasNoKind unit words bytes old new BadByte = ⊥
HasNoKind unit words bytes old new Unended = ⊥
HasNoKind unit words bytes old new UnknownQualifier =
    (new ≡ old) × (is_dollar bytes ≡ true) × (is_index unit bytes ≡ false) × (meaning_of words bytes ≡ None)
HasNoKind unit words bytes old new NoMemory = Unit {0}

-- why reading stops behind gaps and tokens in turn
abbrev pub StopsBehind : ℕ → Bool → Meanings → List ℕ → Front → Stop → Type 0
StopsBehind unit wide words bytes new stop =
    (old : Front) × Reaches unit wide words bytes old × StopsAt unit wide words bytes old new stop
