-- The laws of the readers of blocks and statements.
use Rattle.std.proofs.Common.{ℕ, suc, ◌<◌, ◌≤◌, List, arith}
use Rattle.c_tree.specs.declared.lexeme.Lexeme.{Lexeme}
use Rattle.c_specs.specs.Laws.{MixesGoOn, WholeAreMixes}
use Rattle.c_reading.specs.Reading.{IsNumbered}
use Rattle.c_reading.specs.Parts.{Inner}
use Rattle.c_reading.specs.Stating.{block_with, stmt_with}
use Rattle.c_reading.proofs.Aims.{TokenLaws, FirstLaws, Laws, BlockLaws, StmtLaws}
use Rattle.c_reading.proofs.StmtFalls.{block_shrinks, stmt_shrinks}
use Rattle.c_reading.proofs.StmtSound.{block_sound}
use Rattle.c_reading.proofs.StmtSoundForms.{stmt_sound}
use Rattle.c_reading.proofs.StmtEnded.{stmt_ended}
use Rattle.c_reading.proofs.StmtComplete.{block_read, stmt_read}

within : (room n : ℕ) → room < suc n → room ≤ n
within room n h = omega (arith, h)

module _ (all : List Lexeme) (numbered : IsNumbered all) (tokens : TokenLaws all) (firsts : FirstLaws all) (n : ℕ)
    (inner : Inner) (laws : Laws all n inner) where
  pub block_laws : (whole_are : WholeAreMixes) (goes : MixesGoOn) → BlockLaws all (suc n) (block_with inner)
  block_laws whole_are goes = record {
    shrinks = block_shrinks all tokens n inner laws;
    sound = block_sound all numbered tokens n inner laws goes;
    complete = λ room less. block_read all numbered tokens goes firsts n inner laws whole_are room (within room n less);
  }

  -- no `else` stands behind a statement that takes one
  pub stmt_laws : (whole_are : WholeAreMixes) (goes : MixesGoOn) → StmtLaws all (suc n) (stmt_with inner)
  stmt_laws whole_are goes = record {
    shrinks = stmt_shrinks all tokens n inner laws;
    sound = stmt_sound all numbered tokens n inner laws goes;
    ended = stmt_ended all numbered tokens n inner laws goes;
    complete = λ room less. stmt_read all numbered tokens goes firsts n inner laws whole_are room (within room n less);
  }
