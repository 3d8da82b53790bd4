-- What is made of sources: a line that refuses them, or a program with its constraints.
use Rattle.std.specs.Prelude.{◌≡◌, ◌<◌, ◌≤◌, ◌+◌, ℕ, suc, false, All, List, [], ◌∷◌, ◌++◌, length, take, Some, Bool}
use Rattle.lattice_core.specs.View.{LatticeView, orders_of}
use Rattle.c_lexer.specs.Tokens.{Lexed}
use Rattle.unit_types.specs.declared.program.UnitTape.{UnitTape}
use Rattle.c_units.specs.Units.{IsWellFormed}
use Rattle.c_parser.specs.Parsing.{lexemes_of}
use Rattle.c_types.specs.Sources.{UnitRead, lexed_of, sources_in}
use Rattle.c_types.specs.Units.{AreParts, AreReduced}
use Rattle.row_laws.specs.KeyLaws.Differing.{IsRead, UnitsDiffer, has_unit}
use Rattle.flow_graph.specs.System.{IsWellOwned}
use Rattle.flow_graph.specs.Unfolding.{NamesElements}
use Rattle.annotate.specs.Solutions.{AllNamed}
use Rattle.index_words.specs.Marks.{IndexMark}
use Rattle.constraint_gen.specs.Programs.{program_in}
use Rattle.constraint_gen.specs.Generating.{IsGenerated}
use Rattle.annotate.specs.Texts.{UnitText}
use Rattle.sig_writer.specs.Functions.{externals_in}
use Rattle.cqual_tool.specs.declared.status.Status.TheVariants.{Malformed}
use Rattle.cqual_tool.specs.declared.preparing.Earlier.{Earlier}
use Rattle.cqual_tool.specs.declared.preparing.Joined.{Joined}
use Rattle.cqual_tool.specs.declared.preparing.Joined.TheVariants as joined
use Rattle.cqual_tool.specs.declared.preparing.Ready.{Ready}
use Rattle.cqual_tool.specs.declared.preparing.Prepared.{Prepared}
use Rattle.cqual_tool.specs.declared.preparing.Prepared.TheVariants.{Refused, Program}
use Rattle.cqual_tool.specs.Words.{FileNames, saved_in}
use Rattle.cqual_tool.specs.Inputs.{Inputs, files_with}
use Rattle.cqual_tool.specs.Signing.{MaySign, externals_held}
use Rattle.cqual_tool.specs.Outcome.{AreBefore, AreCounted, SourceParses, SourceRefused, SourcesParse, UnitsRefused, named_one, sources_of, total_limit}

-- its items are well formed of its own tokens
abbrev pub IsFormed : UnitRead → Type 0
IsFormed it = IsWellFormed it.lexed.wide (lexemes_of it.lexed) it.items

-- units that may stand before a source of this number: each is well formed, no two have one number, and each has a
-- lower one
pub record AreEarlier (number : ℕ) (units : List UnitRead) : Type 0 where
  pub formed : All IsFormed units
  pub differ : UnitsDiffer (sources_in units)
  pub lower : (n : ℕ) → number ≤ n → has_unit n (sources_in units) ≡ false

-- units that may stand before a source of this number, of which this is left
pub record IsEarlier (number : ℕ) (before : List UnitRead) (it : Earlier) : Type 0 where
  pub are : AreReduced before it.units
  pub may : AreEarlier number before

-- the tokens and the tapes of units that are read together: each is well formed of its tokens, and no two have one
-- number
pub record AreJoined (units : List UnitRead) (tokens : List Lexed) (tapes : List UnitTape) : Type 0 where
  pub parts : AreParts units tokens tapes
  pub read : All IsRead (sources_in units)
  pub differ : UnitsDiffer (sources_in units)

-- what is made of the bytes of a source of this number behind other units: a line that refuses it, or these units with
-- it behind them
abbrev pub IsOneMore : Bool → List LatticeView → ℕ → List ℕ → List ℕ → List UnitRead → List IndexMark → Joined → Type 0
IsOneMore wide lattices number file bytes before marks (joined.Refused answer) =
    (answer.status ≡ Malformed) × SourceRefused wide lattices number file bytes answer.text.items
IsOneMore wide lattices number file bytes before marks (joined.Units it) =
    (unit : UnitRead) × SourceParses wide lattices number bytes unit × IsEarlier (number + 1) (before ++ unit ∷ []) it
    × (it.prelude ≡ marks)

-- A program of units, within the limits, with its constraints and its external functions: no flow leaves a function but
-- by a call, and each constant and bound names a lattice and an element of it.
pub record IsReady (named : FileNames) (lattices : List LatticeView) (marks : List IndexMark) (units : List UnitRead)
    (it : Ready) : Type 0 where
  pub counted : AreCounted named lattices marks units
  pub differ : UnitsDiffer (sources_in units)
  pub units_are : it.tokens.items ≡ lexed_of units
  pub made : IsGenerated units (program_in lattices marks units) it.made
  pub externals : (texts : List UnitText)
      → externals_in texts (program_in lattices marks units) ≡ externals_held texts it
  pub signs : MaySign it
  pub owned : IsWellOwned it.made.graph
  pub within : AllNamed lattices it.made.graph
  pub elements : NamesElements it.made.graph (orders_of lattices)

-- what is made of well-formed units
abbrev pub IsPrepared : FileNames → List LatticeView → List IndexMark → List UnitRead → Prepared → Type 0
IsPrepared named lattices marks units (Refused answer) =
    (answer.status ≡ Malformed) × UnitsRefused named lattices marks units answer.text.items
IsPrepared named lattices marks units (Program it) = IsReady named lattices marks units it

-- the files that are started behind the sources: the saved one, where one is to be checked
pub data EndStarts (named : FileNames) : List (List ℕ) → Type 0 where
  NoneSaved : EndStarts named []
  OneSaved : (file : List ℕ) → saved_in named ≡ Some file → EndStarts named (file ∷ [])

-- some sources read as well-formed units
abbrev pub AreParsed : Bool → List LatticeView → ℕ → ℕ → List (List ℕ × List ℕ) → Type 0
AreParsed wide lattices number left sources =
    (units : List UnitRead) × SourcesParse wide lattices number left sources units

-- all sources read as well-formed units, which with those before them have no fault of names and types and are few
-- enough
abbrev pub AreRead : FileNames → List LatticeView → List UnitRead → List IndexMark → ℕ → ℕ → List (List ℕ × List ℕ)
    → Type 0
AreRead named lattices before marks number left sources =
    (units : List UnitRead) × SourcesParse named.wide lattices number left sources units
    × AreCounted named lattices marks (before ++ units)

-- From some sources on, the first of which has this number: the files that are started, by their names.
pub data SourcesStart (named : FileNames) (lattices : List LatticeView) (before : List UnitRead)
    (marks : List IndexMark) (number left : ℕ)
    (names : List (List ℕ)) (Given : Inputs → Type 0) : List (List ℕ) → Type 0 where
  NoneLeft : names ≡ [] → SourcesStart named lattices before marks number left names Given []
  SomeStart : (count : ℕ) → count < length names →
      ((inputs : Inputs) → Given inputs
      → AreParsed named.wide lattices number left (take count (files_with names inputs.sources))) →
      SourcesStart named lattices before marks number left names Given (take (suc count) names)
  SavedBehind : (file : List ℕ) → saved_in named ≡ Some file →
      ((inputs : Inputs) → Given inputs
      → AreRead named lattices before marks number left (files_with names inputs.sources)) →
      SourcesStart named lattices before marks number left names Given (names ++ file ∷ [])

-- the units before the sources and so many sources read, as they must before the next source is started
pub record FirstAreRead (named : FileNames) (lattices : List LatticeView) (inputs : Inputs) (count : ℕ) : Type 0 where
  pub before : List UnitRead
  pub marks : List IndexMark
  pub are : AreBefore named inputs lattices before marks
  pub parsed : AreParsed named.wide lattices 1 total_limit (take count (sources_of named inputs))

-- all units read, as they must before the saved file is started
pub record AllAreRead (named : FileNames) (lattices : List LatticeView) (inputs : Inputs) : Type 0 where
  pub before : List UnitRead
  pub marks : List IndexMark
  pub are : AreBefore named inputs lattices before marks
  pub read : AreRead named lattices before marks 1 total_limit (sources_of named inputs)

-- behind the lattice file; none where memory is wanting before
pub data UnitsStart (named : FileNames) (lattices : List LatticeView) (Given : Inputs → Type 0) : List (List ℕ)
    → Type 0 where
  NoUnit : UnitsStart named lattices Given []
  PreludeAlone : (file : List ℕ) → named.prelude ≡ Some file → UnitsStart named lattices Given (file ∷ [])
  SourceToo : (count : ℕ) → count < length named.sources →
      ((inputs : Inputs) → Given inputs → FirstAreRead named lattices inputs count) →
      UnitsStart named lattices Given (named_one named.prelude ++ take (suc count) named.sources)
  SavedToo : (file : List ℕ) → saved_in named ≡ Some file
      → ((inputs : Inputs) → Given inputs → AllAreRead named lattices inputs) →
      UnitsStart named lattices Given (named_one named.prelude ++ named.sources ++ file ∷ [])
