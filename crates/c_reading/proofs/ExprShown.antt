-- The laws of the reader of expressions.
use Rattle.std.proofs.Common.{ℕ, suc, ◌<◌, ◌≤◌, List, arith}
use Rattle.c_tree.specs.declared.lexeme.Lexeme.{Lexeme}
use Rattle.c_reading.specs.Reading.{IsNumbered}
use Rattle.c_reading.specs.Parts.{Inner}
use Rattle.c_reading.specs.Expressing.{expr_with}
use Rattle.c_reading.proofs.Aims.{TokenLaws, FirstLaws, Laws, ExprLaws}
use Rattle.c_reading.proofs.ExprFalls.{expr_shrinks}
use Rattle.c_reading.proofs.ExprSoundRows.{expr_sound, expr_begun_sound}
use Rattle.c_reading.proofs.ExprCompleteRows.{expr_read, expr_begun_read}

within : (room n : ℕ) → room < suc n → room ≤ n
within room n h = omega (arith, h)

-- the reader of expressions over lawful readers is lawful at the next number
pub expr_laws : (all : List Lexeme) → IsNumbered all → TokenLaws all → FirstLaws all → (n : ℕ) (inner : Inner)
    → Laws all n inner → ExprLaws all (suc n) (expr_with inner)
expr_laws all numbered tokens firsts n inner laws = record {
  shrinks = expr_shrinks all tokens n inner laws;
  sound = expr_sound all numbered tokens n inner laws;
  complete = λ reach room less. expr_read all numbered tokens firsts n inner laws reach room (within room n less);
  begun_sound = expr_begun_sound all numbered tokens n inner laws;
  begun_complete = λ reach begun room rows less.
      expr_begun_read all numbered tokens firsts n inner laws reach begun room rows (within room n less);
}
