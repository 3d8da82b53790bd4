-- What a reader does when other tokens stand behind those that it took, and how what it read before a refusal is
-- completed.
--
-- A completion is a list of tokens, and it is the reader itself that reads it: no tree is spoken of. Nothing is owed
-- where nothing was taken, so a reader need not be one that could have begun. The bind that stands outside completes
-- its own rest.
use Rattle.std.specs.Prelude.{◌≡◌, ℕ, Bool, true, false, if◌then◌else◌, List, [], ◌∷◌, ◌++◌, length, ◌<◌, Option, Some, None, Ok, Err}
use Rattle.c_words.specs.declared.kinds.TokenKind.{TokenKind}
use Rattle.c_tree.specs.declared.lexeme.Lexeme.{Lexeme}
use Rattle.c_units.specs.HeldScopes.{HeldScopes}
use Rattle.c_units.specs.Units.{numbered_from}
use Rattle.c_reading.specs.Reading.{Refusal, Found, Read, Reader, ends, number_at, kind_at}
use Rattle.c_reading.specs.Tokens.{is_end}
use Rattle.reading_steps.specs.Keeping.{Kept}

-- the kind of the first token, where there is one
abbrev pub first_kind : List Lexeme → Option TokenKind
first_kind [] = None
first_kind (t ∷ ts) = Some t.kind

-- an end stands among the tokens
abbrev pub has_end : List Lexeme → Bool
has_end [] = false
has_end (t ∷ ts) = if is_end t.kind then true else has_end ts

-- each kind of token passes
abbrev pub any : TokenKind → Bool
any kind = true

-- Tokens were taken, and the answer is the same before a token of the same kind, and before each with which it stops.
pub record Answered {A : Type 0} (b : Bool) (read : Reader A) (stops : TokenKind → Bool) (s : HeldScopes)
    (ts : List Lexeme) (x : Found A) : Type 0 where
  pub before : List Lexeme
  pub parts : ts ≡ before ++ x.rest
  pub ending : has_end ts ≡ true → has_end x.rest ≡ true
  pub keeps : Kept b s x.scopes
  pub same : (k : List Lexeme) → first_kind k ≡ first_kind x.rest → read s (before ++ k) ≡ ends x.tree x.scopes k
  pub ended : (k : List Lexeme) → stops (kind_at k) ≡ true → read s (before ++ k) ≡ ends x.tree x.scopes k

-- These tokens are read whole where these kinds, numbered from here on, stand behind them.
pub record Completes {A : Type 0} (b : Bool) (read : Reader A) (stops : TokenKind → Bool) (s : HeldScopes)
    (before : List Lexeme) (at : ℕ) : Type 0 where
  pub more : List TokenKind
  pub tree : A
  pub scopes : HeldScopes
  pub keeps : Kept b s scopes
  pub reads : (k : List Lexeme) → stops (kind_at k) ≡ true
      → read s (before ++ (numbered_from at more ++ k)) ≡ ends tree scopes k

-- Nothing is to be completed where nothing was taken: there what stands before may end, or go on otherwise.
abbrev pub Opened : {A : Type 0} → Bool → Reader A → (TokenKind → Bool) → HeldScopes → List Lexeme → Type 0
Opened b read stops s [] = Unit {0}
Opened b read stops s (t ∷ before) = (at : ℕ) → Completes b read stops s (t ∷ before) at

-- Tokens were taken, and the next one is refused, with the same fault before whatever stands behind it.
pub record Refused {A : Type 0} (b : Bool) (read : Reader A) (stops : TokenKind → Bool) (s : HeldScopes)
    (ts : List Lexeme) (e : Refusal) : Type 0 where
  pub before : List Lexeme
  pub rest : List Lexeme
  pub parts : ts ≡ before ++ rest
  pub place : e.1 ≡ number_at rest
  pub ending : has_end ts ≡ true → has_end rest ≡ true
  pub same : (k : List Lexeme) → first_kind k ≡ first_kind rest → read s (before ++ k) ≡ Err (e.0, number_at k)
  pub opened : Opened b read stops s before

-- what a reader owes by its answer: as above for what it read, or for a refusal
abbrev pub Outcome : {A : Type 0} → Bool → Reader A → (TokenKind → Bool) → HeldScopes → List Lexeme → Read A → Type 0
Outcome b read stops s ts (Ok x) = Answered b read stops s ts x
Outcome b read stops s ts (Err e) = Refused b read stops s ts e

-- A reader answers or refuses as it should.
abbrev pub Good : {A : Type 0} → Bool → Reader A → (TokenKind → Bool) → HeldScopes → List Lexeme → Type 0
Good b read stops s ts = Outcome b read stops s ts (read s ts)

-- It can be read from nothing, beginning with a token of a test.
pub record Ready {A : Type 0} (b : Bool) (read : Reader A) (front stops : TokenKind → Bool) (s : HeldScopes)
    (at : ℕ) : Type 0 where
  pub more : List TokenKind
  pub tree : A
  pub scopes : HeldScopes
  pub keeps : Kept b s scopes
  pub begins : (k : List Lexeme) → stops (kind_at k) ≡ true → front (kind_at (numbered_from at more ++ k)) ≡ true
  pub reads : (k : List Lexeme) → stops (kind_at k) ≡ true → read s (numbered_from at more ++ k) ≡ ends tree scopes k

-- A reader in both ways: whatever it is given, and from nothing.
pub record Law {A : Type 0} (b : Bool) (read : Reader A) (front stops : TokenKind → Bool) : Type 0 where
  pub good : (s : HeldScopes) (ts : List Lexeme) → Good b read stops s ts
  pub ready : (s : HeldScopes) (at : ℕ) → Ready b read front stops s at

-- What it answers before each token of a test, of tokens of which it takes one at least.
pub record Gives {A : Type 0} (b : Bool) (a : Reader A) (middle : TokenKind → Bool) (s : HeldScopes) (tree : A)
    (scopes : HeldScopes) : Type 0 where
  pub keeps : Kept b s scopes
  pub reads : (k : List Lexeme) → middle (kind_at k) ≡ true
      → (ts : List Lexeme) × (a s ts ≡ ends tree scopes k) × (length k < length ts)

-- The same, whether it takes one or not.
pub record Ends {A : Type 0} (b : Bool) (a : Reader A) (middle : TokenKind → Bool) (s : HeldScopes) (tree : A)
    (scopes : HeldScopes) : Type 0 where
  pub keeps : Kept b s scopes
  pub reads : (k : List Lexeme) → middle (kind_at k) ≡ true → (ts : List Lexeme) × (a s ts ≡ ends tree scopes k)
