-- What bytes read as is one, and no fault of theirs stands beside it.
use Rattle.std.specs.Prelude.{◌≡◌, ◌≢◌, ℕ, Bool, List}
use Rattle.qual_base.specs.Words.{MeansTheSame}
use Rattle.lattice_core.specs.View.{LatticeView}
use Rattle.lattice_file.specs.Faults.{Reads, IsFileFault}
use Rattle.lattice_file.specs.declared.reading.LatticeFileFault.{LatticeFileFault}
use Rattle.lattice_file.specs.declared.reading.LatticeFileFault.TheVariants.{NoMemory as OutOfMemory}
use Rattle.c_lexer.specs.Reading.{Meanings}
use Rattle.c_lexer.specs.Tokens.{Lexed, IsMarkedBy}
use Rattle.c_lexer.specs.Refusals.{IsRefusal}
use Rattle.c_lexer.specs.declared.lexing.LexFault.{LexFault}
use Rattle.c_lexer.specs.declared.lexing.LexFault.TheVariants.{NoMemory as NoRoom}

-- The lattices that bytes read as are one list, and bytes that read as lattices have no fault.
pub record LatticesAreOne (wide : Bool) (bytes : List ℕ) (lattices : List LatticeView) : Type 0 where
  pub only : (others : List LatticeView) → Reads wide bytes others → lattices ≡ others
  pub sound : (fault : LatticeFileFault) → fault ≢ OutOfMemory → IsFileFault wide bytes fault → ⊥

-- the lattices that bytes read as are one list
abbrev pub OneReadingOfLattices : Type 0
OneReadingOfLattices =
    (wide : Bool) (bytes : List ℕ) (lattices : List LatticeView) → Reads wide bytes lattices
    → LatticesAreOne wide bytes lattices

-- the bytes of a unit, read as wider C or not, spell these tokens, where words mean what these meanings say
pub record Lexes (unit : ℕ) (wide : Bool) (meanings : Meanings) (bytes : List ℕ) (lexed : Lexed) : Type 0 where
  pub unit_is : lexed.unit ≡ unit
  pub dialect : lexed.wide ≡ wide
  pub bytes_are : lexed.bytes ≡ bytes
  pub marks : IsMarkedBy meanings lexed

-- The tokens that the bytes of a unit spell are one list, with one meaning of each word, and bytes that spell tokens
-- stop nowhere.
pub record TokensAreOne (unit : ℕ) (wide : Bool) (meanings : Meanings) (bytes : List ℕ) (lexed : Lexed) : Type 0 where
  pub only : (other : Lexed) → Lexes unit wide meanings bytes other → lexed ≡ other
  pub sound : (words : Meanings) (fault : LexFault) → MeansTheSame words meanings → fault ≢ NoRoom
      → IsRefusal unit wide words bytes fault → ⊥

-- the tokens that bytes spell are one list
abbrev pub OneListOfTokens : Type 0
OneListOfTokens =
    (unit : ℕ) (wide : Bool) (meanings : Meanings) (bytes : List ℕ) (lexed : Lexed)
    → Lexes unit wide meanings bytes lexed →
    TokensAreOne unit wide meanings bytes lexed
