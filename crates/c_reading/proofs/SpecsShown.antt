-- The laws of the reader of specifiers.
use Rattle.std.proofs.Common.{ℕ, suc, ◌<◌, ◌≤◌, List, arith}
use Rattle.c_tree.specs.declared.lexeme.Lexeme.{Lexeme}
use Rattle.c_specs.specs.Laws.{WholeAreMixes, MixesGoOn}
use Rattle.c_reading.specs.Reading.{IsNumbered}
use Rattle.c_reading.specs.Parts.{Inner}
use Rattle.c_reading.specs.Specifying.{specs_with}
use Rattle.c_reading.proofs.SpecsFalls.{specs_falls, specs_shrinks}
use Rattle.c_reading.proofs.SpecsSound.{specs_sound}
use Rattle.c_reading.proofs.SpecsComplete.{specs_complete}
use Rattle.c_reading.proofs.Aims.{TokenLaws, FirstLaws, SpecsLaws, Laws}

less_suc : (room n : ℕ) → room < suc n → room ≤ n
less_suc room n h = omega (arith, h)

module _ (all : List Lexeme) (numbered : IsNumbered all) (tokens : TokenLaws all) (firsts : FirstLaws all) (n : ℕ)
    (inner : Inner) (laws : Laws all n inner) where
  pub specs_laws : (whole_are : WholeAreMixes) (goes : MixesGoOn) → SpecsLaws all (suc n) (specs_with inner)
  specs_laws whole_are goes = record {
    falls = specs_falls all tokens n inner laws;
    shrinks = specs_shrinks all tokens n inner laws;
    sound = specs_sound all numbered tokens n inner laws whole_are;
    complete = λ role words rest room less.
        specs_complete all numbered tokens firsts n inner laws goes whole_are role words rest room
        (less_suc room n less);
  }
