-- Readers of token lists: what they answer, one after another, again and again, and in lists with commas.
use Rattle.std.specs.Prelude.{◌≡◌, Bool, true, false, ℕ, zero, suc, nat_le, List, [], ◌∷◌, ◌++◌, length, drop, slice_get, Option, Some, None, Result, Ok, Err, if◌then◌else◌}
use Rattle.c_words.specs.declared.kinds.TokenKind.{TokenKind}
use Rattle.c_words.specs.declared.kinds.TokenKind.TheVariants as kinds
use Rattle.c_words.specs.declared.kinds.Punct.TheVariants.{Comma}
use Rattle.c_tree.specs.declared.lexeme.Lexeme.{Lexeme}
use Rattle.c_units.specs.HeldScopes.{HeldScopes}
use Rattle.c_reading.specs.declared.kinds.FaultKind.{FaultKind}
use Rattle.c_reading.specs.declared.kinds.FaultKind.TheVariants.{Unexpected, TooDeep}

-- what is wrong, and the number of the token that is refused
abbrev pub Refusal : Type 0
Refusal = FaultKind × ℕ

-- what was read, with the scopes and the tokens behind it
pub record Found (A : Type 0) : Type 0 where
  pub tree : A
  pub scopes : HeldScopes
  pub rest : List Lexeme

-- what a reader answers: what it found, or why it refuses a token
abbrev pub Read : Type 0 → Type 0
Read A = Result (Found A) Refusal

-- a reader: by the scopes and the tokens before it, what it answers
abbrev pub Reader : Type 0 → Type 0
Reader A = HeldScopes → List Lexeme → Read A

-- one reader behind another
unfoldable pub and_then : {A B : Type 0} → Result A Refusal → (A → Result B Refusal) → Result B Refusal
and_then (Ok x) f = f x
and_then (Err e) f = Err e

infixl 10 ◌>>=◌
-- one reader behind another, as an operator
abbrev pub ◌>>=◌ : {A B : Type 0} → Result A Refusal → (A → Result B Refusal) → Result B Refusal
r >>= f = and_then r f

-- nothing more is taken
abbrev pub ends : {A : Type 0} → A → Reader A
ends a s ts = Ok (record { tree = a; scopes = s; rest = ts })

-- the number of the first token; a unit's tokens have an end behind them, so that one stands there
abbrev pub number_at : List Lexeme → ℕ
number_at [] = 0
number_at (t ∷ ts) = t.at

-- the first token is refused
abbrev pub refuses : {A : Type 0} → FaultKind → List Lexeme → Read A
refuses fault ts = Err (fault, number_at ts)

-- the least height of what begins so is within the room that is left
unfoldable pub fits : {A : Type 0} → ℕ → ℕ → List Lexeme → Read A → Read A
fits least room ts read = if nat_le least room then read else refuses TooDeep ts

-- the kind of the first token
abbrev pub kind_at : List Lexeme → TokenKind
kind_at [] = kinds.End
kind_at (t ∷ ts) = t.kind

-- the tokens behind the first
abbrev pub behind_first : List Lexeme → List Lexeme
behind_first [] = []
behind_first (t ∷ ts) = ts

-- the number of the first token, whatever it is
abbrev pub take_one : Reader ℕ
take_one s [] = refuses Unexpected []
take_one s (t ∷ ts) = ends t.at s ts

-- the number of the first token, where its kind passes a test
abbrev pub token_at : (TokenKind → Bool) → Reader ℕ
token_at test s [] = refuses Unexpected []
token_at test s (t ∷ ts) = if test t.kind then ends t.at s ts else refuses Unexpected (t ∷ ts)

-- a turn of a loop: what it makes of a state at some tokens, or none where the loop ends
abbrev pub Turn : Type 0 → Type 0
Turn S = S → HeldScopes → List Lexeme → Option (Read S)

-- at most so many turns
unfoldable pub turns : {S : Type 0} → Turn S → ℕ → S → Reader S
turns turn zero a s ts = ends a s ts
turns turn (suc n) a s ts =
    elim (turn a s ts) [ None ↦ ends a s ts | Some read ↦ read >>= λ x. turns turn n x.tree x.scopes x.rest ]

-- turns until the loop ends; each takes a token at least
unfoldable pub run : {S : Type 0} → Turn S → S → Reader S
run turn a s ts = turns turn (suc (length ts)) a s ts

-- one more item, where a token that passes a test begins one
abbrev pub repeated_turn : {T : Type 0} → (TokenKind → Bool) → Reader T → Turn (List T)
repeated_turn begins read xs s ts =
    if begins (kind_at ts) then Some (read s ts >>= λ x. ends (xs ++ x.tree ∷ []) x.scopes x.rest) else None

-- items one behind another, as long as a token that passes a test begins one; their list
unfoldable pub repeated : {T : Type 0} → (TokenKind → Bool) → Reader T → Reader (List T)
repeated begins read s ts = run (repeated_turn begins read) [] s ts

-- what stands behind a comma: one more item, or what ends the list there
pub data Next (T E : Type 0) : Type 0 where
  one_more : T → Next T E
  list_end : E → Next T E

-- items, and what ended them behind a comma
pub record CommaList (T E : Type 0) : Type 0 where
  pub items : List T
  pub ending : Option E

-- whether a token is a comma
abbrev pub is_comma : TokenKind → Bool
is_comma (kinds.Punct Comma) = true
is_comma kind = false

-- items and what stands behind the next comma
abbrev pub with_next : {T E : Type 0} → List T → Next T E → CommaList T E
with_next xs (one_more x) = record { items = xs ++ x ∷ []; ending = None }
with_next xs (list_end e) = record { items = xs; ending = Some e }

-- behind a comma with this number
abbrev pub comma_turn_by : {T E : Type 0} → (ℕ → Reader (Next T E)) → Option E → List T → HeldScopes → List Lexeme
    → Option (Read (CommaList T E))
comma_turn_by behind (Some e) xs s ts = None
comma_turn_by behind None xs s [] = None
comma_turn_by behind None xs s (t ∷ ts) =
    if is_comma t.kind then Some (behind t.at s ts >>= λ x. ends (with_next xs x.tree) x.scopes x.rest) else None

-- one more item of a list, where a comma stands and nothing ended the list
abbrev pub comma_turn : {T E : Type 0} → (ℕ → Reader (Next T E)) → Turn (CommaList T E)
comma_turn behind state s ts = comma_turn_by behind state.ending state.items s ts

-- one item, and behind each comma one more or the end of the list
unfoldable pub listed : {T E : Type 0} → Reader T → (ℕ → Reader (Next T E)) → Reader (CommaList T E)
listed first behind s ts =
    first s ts >>= λ x. run (comma_turn behind) (record { items = x.tree ∷ []; ending = None }) x.scopes x.rest

-- each token has the number of its place
abbrev pub IsNumbered : List Lexeme → Type 0
IsNumbered all = (n : ℕ) (t : Lexeme) → slice_get all n ≡ Some t → t.at ≡ n

-- what is left of all tokens behind some of them
abbrev pub IsTail : List Lexeme → List Lexeme → Type 0
IsTail all ts = (n : ℕ) × (ts ≡ drop n all)
