-- The numbers of spellings, as a program holds them.
use Rattle.std.specs.Prelude.{◌≡◌, ℕ, ◌+◌, List, [], ◌∷◌, length, slice_get, Option, Some, None, option_map, unwrap_or, if◌then◌else◌}
use Rattle.std.specs.Str.{bytes_eq}
use Rattle.std.specs.HashMap.{get_by}
use Rattle.c_lexer.specs.declared.token.Token.{Token}
use Rattle.c_lexer.specs.Tokens.{Lexed}
use Rattle.c_types.specs.SourceSpelling.Tokens.{name_of_kind, bytes_of, is_name, or_behind, name_among, key_or}
use Rattle.c_types.specs.declared.source_spelling.earlier.EarlierNames.{EarlierNames}

-- the number that is held of a spelling
abbrev pub key_at : EarlierNames → List ℕ → Option ℕ
key_at it text = get_by (λ key. bytes_eq text key.items) it.keys

-- a number past so many tokens, where there is one
abbrev pub past : ℕ → Option ℕ → Option ℕ
past count o = option_map (λ n. count + n) o

-- the name that the token of a number is, where it is spelled so
abbrev pub name_of_token : Lexed → Option Token → List ℕ → Option ℕ
name_of_token lexed None text = None
name_of_token lexed (Some token) text = if bytes_eq (bytes_of lexed token) text then name_of_kind token.kind else None

-- the name that the token of this number is, where there is one and it is spelled so
abbrev pub name_at : Lexed → ℕ → List ℕ → Option ℕ
name_at lexed at text = name_of_token lexed (slice_get lexed.tokens at) text

-- how the token of a number is spelled, where it is this name
abbrev pub text_of_token : Lexed → Option Token → ℕ → Option (List ℕ)
text_of_token lexed None name = None
text_of_token lexed (Some token) name =
    if is_name (name_of_kind token.kind) name then Some (bytes_of lexed token) else None

-- how the token of this number is spelled, where there is one and it is this name
abbrev pub text_at : Lexed → ℕ → ℕ → Option (List ℕ)
text_at lexed at name = text_of_token lexed (slice_get lexed.tokens at) name

-- the number of a spelling among the names of units
abbrev pub key_spelled : List Lexed → List ℕ → Option ℕ
key_spelled [] text = None
key_spelled (first ∷ others) text =
    or_behind (name_among first first.tokens text) (past (length first.tokens) (key_spelled others text))

-- how many tokens units have together
abbrev pub count_of : List Lexed → ℕ
count_of [] = 0
count_of (first ∷ others) = length first.tokens + count_of others

-- a program holds the names of these units
pub record AreNamesOf (earlier : List Lexed) (it : EarlierNames) : Type 0 where
  pub keys : (text : List ℕ) → key_at it text ≡ key_spelled earlier text
  pub count : it.count ≡ count_of earlier

-- the number of a name's spelling, where the name is spelled at all, and else this other number
abbrev pub key_by : EarlierNames → ℕ → ℕ → Option (List ℕ) → ℕ
key_by it other name None = other
key_by it other name (Some text) = key_or (it.count + name) (key_at it text)

-- past the end a name has its own number
abbrev pub own_or : List ℕ → ℕ → ℕ
own_or keys name = unwrap_or (slice_get keys name) name
