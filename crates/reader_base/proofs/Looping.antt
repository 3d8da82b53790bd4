-- A turn that takes a token is that of a loop.
use Rattle.std.proofs.Common.{◌≡◌, List, length, Some, None, Ok, Err, refl, sym, ◌∙◌}
use Rattle.c_tree.specs.declared.lexeme.Lexeme.{Lexeme}
use Rattle.c_units.specs.HeldScopes.{HeldScopes}
use Rattle.c_reading.specs.Reading.{Found, Read, Turn, run, and_then}
use Rattle.c_reading.proofs.Loops.{TurnShrinks, run_is, run_on, run_ends}
use Rattle.reader_base.specs.declared.fault.ReadError.{ReadError}
use Rattle.reader_base.specs.declared.fault.ReadError.TheVariants as errors
use Rattle.reader_base.specs.Gives.{Fails}
use Rattle.reader_base.specs.Looping.{FailsTurn, IsLoop}

run_fails : {S : Type 0} (turn : Turn S) → TurnShrinks turn
    → (a : S) (s : HeldScopes) (ts : List Lexeme) (whole : Read S) → run turn a s ts ≡ whole → (e : ReadError)
    → FailsTurn e (turn a s ts) → Fails e whole
unfolding and_then
run_fails turn shrinks a s ts whole same (errors.Fault fault token) is =
    sym same ∙ run_is turn shrinks a s ts ∙ rw is refl
run_fails turn shrinks a s ts whole same errors.NoMemory is = tt

-- a turn that always takes a token is the turn of a loop
pub is_loop : {S : Type 0} (turn : Turn S) → TurnShrinks turn → IsLoop turn
is_loop turn shrinks = record {
  takes = λ a next s t ts rest is. shrinks a s ts (record { tree = next; scopes = t; rest = rest }) is;
  goes_on = λ start a next first s t all ts rest same is.
      sym (run_on turn shrinks a s ts (record { tree = next; scopes = t; rest = rest }) is) ∙ same;
  fails = λ start a first s all ts e same is. run_fails turn shrinks a s ts (run turn start first all) same e is;
  ends = λ start a first s all ts same is. sym same ∙ run_ends turn shrinks a s ts is;
}
