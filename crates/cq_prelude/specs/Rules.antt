-- The rules of a prelude, and what it says by its index words.
use Rattle.std.specs.Prelude.{◌≡◌, ℕ, ◌≤◌, ◌↔◌, Contains, List, Some, option_map, slice_get}
use Rattle.c_words.specs.declared.kinds.TokenKind.TheVariants as kinds
use Rattle.c_lexer.specs.Tokens.{Lexed, text_of}
use Rattle.c_tree.specs.Unit.{Item}
use Rattle.index_words.specs.Marks.{AreAscending, IndexMark, numbers_at}
use Rattle.index_words.specs.Words.{IsIndexWord}
use Rattle.cq_prelude.specs.Placing.{bodies, index_places}

-- an index word stands at a token
abbrev pub IsIndex : Lexed → ℕ → Type 0
IsIndex lexed token = option_map (λ it. it.kind) (slice_get lexed.tokens token) ≡ Some kinds.Index

-- the bytes of an index word say these numbers
pub record IsSetOf (bytes set : List ℕ) : Type 0 where
  pub written : List ℕ
  pub spelled : IsIndexWord bytes written
  pub same : (n : ℕ) → Contains set n ↔ Contains written n
  pub ascending : AreAscending set

-- so do those at a token
abbrev pub Says : Lexed → ℕ → List ℕ → Type 0
Says lexed token set = IsSetOf (text_of lexed token) set

-- it stands where it may, and its bytes say numbers
pub record IsRight (lexed : Lexed) (items : List Item) (token : ℕ) : Type 0 where
  pub set : List ℕ
  pub placed : Contains (index_places items) token
  pub says : Says lexed token set

-- a function has a body, or an index word is not right
pub data Rule : Type 0 where
  has_body : Rule
  bad_index : Rule

-- the rule fails at a token: at the `{` of a body, or at an index word that is not right
abbrev pub Fails : Lexed → List Item → Rule → ℕ → Type 0
Fails lexed items has_body token = Contains (bodies items) token
Fails lexed items bad_index token = IsIndex lexed token × (IsRight lexed items token → ⊥)

-- a rule that fails, at the first token at which one does
pub record IsFirst (lexed : Lexed) (items : List Item) (rule : Rule) (token : ℕ) : Type 0 where
  pub fails : Fails lexed items rule token
  pub none_before : (other : Rule) (earlier : ℕ) → Fails lexed items other earlier → token ≤ earlier

-- no rule of a prelude fails
abbrev pub NoneFails : Lexed → List Item → Type 0
NoneFails lexed items = (rule : Rule) (token : ℕ) → Fails lexed items rule token → ⊥

-- the marks are those of the index words: each with its numbers, and nothing elsewhere
pub record AreMarks (lexed : Lexed) (marks : List IndexMark) : Type 0 where
  pub said : (token : ℕ) → IsIndex lexed token → Says lexed token (numbers_at marks token)
  pub only : (token n : ℕ) → Contains (numbers_at marks token) n → IsIndex lexed token
