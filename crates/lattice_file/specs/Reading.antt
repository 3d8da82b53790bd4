-- Where a reader stands, and when a text fails.
use Rattle.std.specs.Prelude.{◌≡◌, ℕ, Bool, List}
use Rattle.lattice_file.specs.declared.blocks.Reader.{Reader}
use Rattle.lattice_file.specs.declared.reading.TextFault.{TextFault}
use Rattle.lattice_file.specs.declared.reading.TextFault.TheVariants.{At, NoMemory}
use Rattle.lattice_file.specs.Going.{Draft}
use Rattle.lattice_file.specs.Steps.{Standing, Lexeme, next, only_if}
use Rattle.lattice_file.specs.Extents.{LexemeFails}
use Rattle.lattice_file.specs.Begins.{IsFirstBad}

-- what a reader has read
abbrev pub draft_of : Reader → Draft
draft_of reader = record {
  name = reader.name;
  entries = reader.entries.items;
  pairs = reader.pairs.items;
  flows = reader.flows;
  blocks = reader.blocks.items;
}

-- where a reader stands
abbrev pub standing_of : Reader → Standing
standing_of reader = record { stage = reader.stage; given = reader.given; draft = draft_of reader }

-- a reader says whether a lexeme may come next, and goes on by it where it may
abbrev pub GoesOnBy : Reader → Reader → Lexeme → Bool → Type 0
GoesOnBy old new lexeme is_taken = next (standing_of old) lexeme ≡ only_if is_taken (standing_of new)

-- the place at which a lexeme fails, or memory ran out
abbrev pub IsLexemeFault : Reader → List ℕ → ℕ → TextFault → Type 0
IsLexemeFault reader bytes at (At place) = LexemeFails (standing_of reader) bytes at place
IsLexemeFault reader bytes at NoMemory = Unit {0}

-- the first place up to which no text begins so, or memory ran out
abbrev pub IsTextFault : Bool → List ℕ → TextFault → Type 0
IsTextFault wide bytes (At place) = IsFirstBad wide bytes place
IsTextFault wide bytes NoMemory = Unit {0}
