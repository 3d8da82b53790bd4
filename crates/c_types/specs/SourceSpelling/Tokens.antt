-- What is read from the tokens of a unit.
use Rattle.std.specs.Prelude.{ℕ, ◌+◌, nat_eq, Bool, true, false, ◌||◌, List, [], ◌∷◌, length, slice_get, slice_range, Option, Some, None, is_some, if◌then◌else◌}
use Rattle.std.specs.Str.{bytes_eq}
use Rattle.c_words.specs.declared.kinds.TokenKind.{TokenKind}
use Rattle.c_words.specs.declared.kinds.TokenKind.TheVariants as kinds
use Rattle.c_lexer.specs.declared.token.Token.{Token}
use Rattle.c_lexer.specs.Tokens.{Lexed, mark_of_kind}
use Rattle.name_rules.specs.Spellings.{Spelling}

-- whether a token is an index word of a prelude
abbrev pub is_index : TokenKind → Bool
is_index kinds.Index = true
is_index kind = false

-- a `$` word, an index word, or a keyword that a lattice names
abbrev pub is_annotation : Lexed → Token → Bool
is_annotation lexed token = is_index token.kind || is_some (mark_of_kind lexed token.kind)

-- whether a text is `0`
abbrev pub is_zero_text : List ℕ → Bool
is_zero_text [] = false
is_zero_text (c ∷ []) = nat_eq c 48
is_zero_text (c ∷ d ∷ cs) = false

-- whether a token is spelled `0`
abbrev pub is_zero : Lexed → Token → Bool
is_zero lexed token = is_zero_text (slice_range lexed.bytes token.start token.end)

-- whether there is an item, and the test holds of it
abbrev pub holds_of_some : {A : Type 0} → (A → Bool) → Option A → Bool
holds_of_some test None = false
holds_of_some test (Some x) = test x

-- a test holds of the item of a number; past the end it holds of none
abbrev pub holds_at : {A : Type 0} → (A → Bool) → List A → ℕ → Bool
holds_at test xs n = holds_of_some test (slice_get xs n)

-- the name that a token is, where it is one
abbrev pub name_of_kind : TokenKind → Option ℕ
name_of_kind (kinds.Name n) = Some n
name_of_kind kind = None

-- how a token is spelled
abbrev pub bytes_of : Lexed → Token → List ℕ
bytes_of lexed token = slice_range lexed.bytes token.start token.end

-- whether there is a name, and it is this one
abbrev pub is_name : Option ℕ → ℕ → Bool
is_name None name = false
is_name (Some n) name = nat_eq n name

-- how a name is spelled: as the first token that is that name
abbrev pub spelled_among : Lexed → List Token → ℕ → Option (List ℕ)
spelled_among lexed [] name = None
spelled_among lexed (token ∷ tokens) name =
    if is_name (name_of_kind token.kind) name then Some (bytes_of lexed token) else spelled_among lexed tokens name

-- how a name of a unit is spelled
abbrev pub spelled : Lexed → ℕ → Option (List ℕ)
spelled lexed name = spelled_among lexed lexed.tokens name

-- the first of two names that is there
abbrev pub or_behind : Option ℕ → Option ℕ → Option ℕ
or_behind None other = other
or_behind (Some n) other = Some n

-- the name that is spelled so, by the first token that is
abbrev pub name_among : Lexed → List Token → List ℕ → Option ℕ
name_among lexed [] text = None
name_among lexed (token ∷ tokens) text =
    if bytes_eq (bytes_of lexed token) text then or_behind (name_of_kind token.kind) (name_among lexed tokens text)
    else name_among lexed tokens text

-- the number of a spelling, or else this one
abbrev pub key_or : ℕ → Option ℕ → ℕ
key_or other None = other
key_or other (Some n) = n

-- The number of a spelling, of a name that has this number in its own unit: that of the name of the first unit which is
-- spelled so, and else one past the tokens of that unit, found in the same way among the units behind it.
abbrev pub key_among : List Lexed → List ℕ → ℕ → ℕ
key_among [] text name = name
key_among (first ∷ others) text name =
    key_or (length first.tokens + key_among others text name) (name_among first first.tokens text)

-- a number that no token has as its name stands for itself
abbrev pub key_of_some : List Lexed → Option (List ℕ) → ℕ → ℕ
key_of_some earlier None name = name
key_of_some earlier (Some text) name = key_among earlier text name

-- the number of a name's spelling; of a unit that is the first it is the number of the name
abbrev pub key_behind : List Lexed → Lexed → ℕ → ℕ
key_behind [] lexed name = name
key_behind (first ∷ others) lexed name = key_of_some (first ∷ others) (spelled lexed name) name

-- what is read from the tokens of a unit behind others
abbrev pub spelling_behind : List Lexed → Lexed → Spelling
spelling_behind earlier lexed =
    record {
      unit = lexed.unit;
      wide = lexed.wide;
      annotates = λ token. holds_at (is_annotation lexed) lexed.tokens token;
      is_naught = λ token. holds_at (is_zero lexed) lexed.tokens token;
      key = key_behind earlier lexed;
    }
