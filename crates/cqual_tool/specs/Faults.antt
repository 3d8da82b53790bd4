-- The lines of faults of lattice files and of the tokens of units.
use Rattle.std.specs.Prelude.{ℕ, List, [], ◌++◌, codes}
use Rattle.std.specs.Fmt.{decimal}
use Rattle.lattice_core.specs.declared.LatticeFault.{LatticeFault}
use Rattle.lattice_core.specs.declared.LatticeFault.TheVariants.{TooMany, Repeated, UnknownName, LevelMix, Cycle, NotALattice, NoMemory}
use Rattle.lattice_file.specs.declared.reading.LatticeFileFault.{LatticeFileFault}
use Rattle.lattice_file.specs.declared.reading.LatticeFileFault.TheVariants.{Block, Grammar, TooManyLattices, SharedName, NoMemory as OutOfMemory}
use Rattle.c_lexer.specs.declared.lexing.LexFault.{LexFault}
use Rattle.c_lexer.specs.declared.lexing.LexFault.TheVariants.{BadByte, Unended, UnknownQualifier, NoMemory as NoRoom}
use Rattle.annotate.specs.Texts.{line, at_text, spot_text}
use Rattle.cqual_tool.specs.Texts.{malformed_line}

-- a fault at a place that is written already
abbrev pub placed_line : List ℕ → List ℕ → List ℕ
placed_line place code = line (codes "malformed " ++ place ++ codes ": " ++ code)

-- the code of a block, the block's number, and the names that are at fault
abbrev pub block_code : List ℕ → ℕ → List ℕ
block_code code number = code ++ codes " " ++ decimal number

-- the code of a block, the block's number, and one name that is at fault
abbrev pub named_code : List ℕ → ℕ → List ℕ → List ℕ
named_code code number name = block_code code number ++ codes " " ++ name

-- why a block makes no lattice, behind the file's name; want of memory has no line
abbrev pub block_text : ℕ → LatticeFault → List ℕ
block_text number TooMany = block_code (codes "L6") number
block_text number (Repeated name) = named_code (codes "L1") number name
block_text number (UnknownName name) = named_code (codes "L2") number name
block_text number (LevelMix one other) = named_code (codes "L5") number one ++ codes " " ++ other
block_text number (Cycle one other) = named_code (codes "L3") number one ++ codes " " ++ other
block_text number (NotALattice one other) = named_code (codes "L4") number one ++ codes " " ++ other
block_text number NoMemory = []

-- the line of a lattice file that does not read
abbrev pub lattice_line : List ℕ → LatticeFileFault → List ℕ
lattice_line file (Block number fault) = malformed_line file (block_text number fault)
lattice_line file (Grammar row column) = placed_line (at_text file row column) (codes "L7")
lattice_line file TooManyLattices = malformed_line file (codes "L8")
lattice_line file (SharedName name) = malformed_line file (codes "L9 " ++ name)
lattice_line file OutOfMemory = []

-- the line of a file whose bytes spell no tokens
abbrev pub lex_line : List ℕ → List ℕ → LexFault → List ℕ
lex_line file bytes (BadByte spot) = placed_line (spot_text file bytes spot) (codes "X1")
lex_line file bytes (Unended spot) = placed_line (spot_text file bytes spot) (codes "X2")
lex_line file bytes (UnknownQualifier spot) = placed_line (spot_text file bytes spot) (codes "X3")
lex_line file bytes NoRoom = []
