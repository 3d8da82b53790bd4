-- What is judged of well-formed units: their system of constraints, and what the reports name.
use Rattle.std.specs.Prelude.{ℕ, ◌-◌, nat_eq, List, [], ◌∷◌, map, slice_get, Option, None, Some, if◌then◌else◌}
use Rattle.lattice_core.specs.View.{LatticeView}
use Rattle.flow_graph.specs.System.{System}
use Rattle.annotate.specs.Texts.{Scene, UnitText}
use Rattle.index_words.specs.Marks.{IndexMark}
use Rattle.c_lexer.specs.Tokens.{Lexed}
use Rattle.c_types.specs.Sources.{UnitRead, lexed_of}
use Rattle.constraint_rules.specs.Systems.{system_of}
use Rattle.constraint_gen.specs.Programs.{program_in, positions_in, listed_in}
use Rattle.sig_writer.specs.Signatures.{External}
use Rattle.sig_writer.specs.Functions.{externals_in}
use Rattle.cqual_tool.specs.Words.{FileNames}

-- a name, or an empty one where there is none
abbrev pub or_no_name : Option (List ℕ) → List ℕ
or_no_name None = []
or_no_name (Some name) = name

-- the file of a unit: unit 0 is the prelude, and the sources are units from 1 on; one name twice is two sources
abbrev pub file_of : FileNames → ℕ → List ℕ
file_of named unit = if nat_eq unit 0 then or_no_name named.prelude else or_no_name (slice_get named.sources (unit - 1))

-- the last of the sources
abbrev pub last_of : List (List ℕ) → List ℕ
last_of [] = []
last_of (file ∷ []) = file
last_of (file ∷ next ∷ more) = last_of (next ∷ more)

-- a unit with the name of its file
abbrev pub text_of : FileNames → Lexed → UnitText
text_of named lexed = record { file = file_of named lexed.unit; lexed = lexed }

-- units with the names of their files
abbrev pub texts_of : FileNames → List Lexed → List UnitText
texts_of named units = map (text_of named) units

-- what the reports name, the constraints, and the external functions
pub record Judging : Type 0 where
  pub scene : Scene
  pub system : System
  pub externals : List External

-- of units in their order, with what the index words of the prelude say, over the lattices
abbrev pub judging_of : FileNames → List LatticeView → List IndexMark → List UnitRead → Judging
judging_of named lattices marks units =
    let p = program_in lattices marks units in record {
      scene = record {
        units = texts_of named (lexed_of units);
        lattices = lattices;
        positions = positions_in p;
        listed = listed_in units p;
      };
      system = system_of p;
      externals = externals_in (texts_of named (lexed_of units)) p;
    }
