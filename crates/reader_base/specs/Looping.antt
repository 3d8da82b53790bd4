-- Loops of readers: what one turn answers, and what that says of the whole loop.
use Rattle.std.specs.Prelude.{◌≡◌, ◌<◌, Bool, true, false, List, length, Option, Some, None, Result, Ok, Err}
use Rattle.c_tree.specs.declared.lexeme.Lexeme.{Lexeme}
use Rattle.c_units.specs.HeldScopes.{HeldScopes}
use Rattle.c_reading.specs.Reading.{Found, Read, Turn, run}
use Rattle.reader_base.specs.declared.fault.ReadError.{ReadError}
use Rattle.reader_base.specs.declared.fault.ReadError.TheVariants as errors
use Rattle.reader_base.specs.declared.cursor.Cursor.{Cursor}
use Rattle.reader_base.specs.Gives.{Fails, behind}

-- a turn went on, with this state and cursor behind it; or the loop ends, and they are as they were
abbrev pub WentOn : {S : Type 0} → S → S → Cursor → Cursor → Bool → Option (Read S) → Type 0
WentOn state next before after true turn = turn ≡ Some (Ok (behind next after))
WentOn state next before after false turn = (turn ≡ None) × (behind next after ≡ behind state before)

-- a failure of a turn is the refusal that the turn of lists gives; want of memory may come anywhere
abbrev pub FailsTurn : {S : Type 0} → ReadError → Option (Read S) → Type 0
FailsTurn (errors.Fault fault token) turn = turn ≡ Some (Err (fault, token))
FailsTurn errors.NoMemory turn = Unit {0}

-- what a turn of the program answers, beside the turn of lists that it is: whether the loop goes on
abbrev pub TurnBy : {S : Type 0} → S → S → Cursor → Cursor → Result Bool ReadError → Option (Read S) → Type 0
TurnBy state next before after (Ok more) turn = WentOn state next before after more turn
TurnBy state next before after (Err e) turn = FailsTurn e turn

-- the same of a turn from a state and a cursor
abbrev pub Turns : {S : Type 0} → S → S → Cursor → Cursor → Result Bool ReadError → Turn S → Type 0
Turns state next before after result turn =
    TurnBy state next before after result (turn state before.scopes before.rest.now)

-- A turn that goes on takes a token, and leaves what the loop answers from its start to the loop from there; one that
-- fails is the failure of the loop; and where no turn is left the loop answers its state.
pub record IsLoop {S : Type 0} (turn : Turn S) : Type 0 where
  pub takes : (a next : S) (s t : HeldScopes) (ts rest : List Lexeme) →
      turn a s ts ≡ Some (Ok (record { tree = next; scopes = t; rest = rest })) → length rest < length ts
  pub goes_on : (start a next : S) (first s t : HeldScopes) (all ts rest : List Lexeme)
      → run turn a s ts ≡ run turn start first all →
      turn a s ts ≡ Some (Ok (record { tree = next; scopes = t; rest = rest }))
      → run turn next t rest ≡ run turn start first all
  pub fails : (start a : S) (first s : HeldScopes) (all ts : List Lexeme) (e : ReadError)
      → run turn a s ts ≡ run turn start first all →
      FailsTurn e (turn a s ts) → Fails e (run turn start first all)
  pub ends : (start a : S) (first s : HeldScopes) (all ts : List Lexeme) → run turn a s ts ≡ run turn start first all →
      turn a s ts ≡ None → run turn start first all ≡ Ok (record { tree = a; scopes = s; rest = ts })
