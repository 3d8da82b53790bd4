-- What the tool answers and writes, for the words and the bytes of the files.
use Rattle.std.specs.Prelude.{◌≡◌, ◌≢◌, ℕ, zero, suc, ◌+◌, ◌-◌, nat_le, Bool, true, false, ◌<◌, ◌≤◌, List, [], ◌∷◌, ◌++◌, length, slice_get, take, Some, None, codes, Option, if◌then◌else◌}
use Rattle.std.specs.List.{flat_map}
use Rattle.outside.specs.Readings.{Reading, ReadsAs, names_read}
use Rattle.qual_base.specs.Words.{MeansTheSame}
use Rattle.lattice_core.specs.Names.{words_of}
use Rattle.lattice_core.specs.View.{LatticeView, orders_of}
use Rattle.lattice_file.specs.Faults.{Reads, IsFileFault}
use Rattle.lattice_file.specs.declared.reading.LatticeFileFault.{LatticeFileFault}
use Rattle.lattice_file.specs.declared.reading.LatticeFileFault.TheVariants.{NoMemory as OutOfMemory}
use Rattle.c_lexer.specs.Reading.{Meanings}
use Rattle.c_lexer.specs.Tokens.{Lexed, IsMarkedBy}
use Rattle.c_lexer.specs.Refusals.{IsRefusal}
use Rattle.c_lexer.specs.declared.lexing.LexFault.{LexFault}
use Rattle.c_lexer.specs.declared.lexing.LexFault.TheVariants.{NoMemory as NoRoom}
use Rattle.c_units.specs.Units.{IsWellFormed}
use Rattle.c_parser.specs.Parsing.{lexemes_of}
use Rattle.c_parser.specs.Refusing.{IsUnitRefusal}
use Rattle.reader_base.specs.declared.fault.ReadError.{ReadError}
use Rattle.reader_base.specs.declared.fault.ReadError.TheVariants.{NoMemory as OutOfRoom}
use Rattle.type_rules.specs.Program.{faults_of, HasNoFault}
use Rattle.unit_types.specs.declared.fault.ShapeFault.{ShapeFault}
use Rattle.unit_types.specs.declared.fault.ShapeFault.TheVariants.{NoMemory as OutOfNames}
use Rattle.unit_types.specs.Faults.{IsFirstUnlessMemory}
use Rattle.c_types.specs.Sources.{UnitRead, lexed_of, sources_in}
use Rattle.index_words.specs.Marks.{IndexMark}
use Rattle.cq_prelude.specs.Preludes.{IsPrelude, IsFaultOf}
use Rattle.cq_prelude.specs.declared.fault.PreludeFault.{PreludeFault}
use Rattle.cq_prelude.specs.declared.fault.PreludeFault.TheVariants.{NoMemory as OutOfSpace}
use Rattle.flow_graph.specs.System.{most_constraints, most_variables}
use Rattle.flow_graph.specs.Unfolding.{IsAccepted}
use Rattle.flow_graph.specs.declared.constraint.Constraint.{Constraint}
use Rattle.annotate.specs.Reports.{IsJudgedWith, ErrorCount}
use Rattle.annotate.specs.Texts.{Scene, place_text}
use Rattle.path_checker.specs.declared.report_checks.judging.Checked.TheVariants.{Hold, Bad}
use Rattle.path_checker.specs.declared.report_checks.judging.Code.{Code}
use Rattle.path_checker.specs.ReportChecks.Checks.{ComesTo}
use Rattle.path_checker.specs.ReportChecks.Texts.{checked_text}
use Rattle.certificate_laws.specs.declared.rule.CertRule.{CertRule}
use Rattle.certificate_maker.specs.Certified.{IsCertificate}
use Rattle.certificate_checks.specs.declared.judging.CertCode.{CertCode}
use Rattle.certificate_checks.specs.declared.judging.Verdict.TheVariants.{Holds, Fails, Unread}
use Rattle.certificate_checks.specs.Checks.{ComesTo as CertificateComesTo}
use Rattle.certificate_checks.specs.Texts.{verdict_text}
use Rattle.flow_query.specs.Answers.{IsWho}
use Rattle.sig_writer.specs.Signatures.{Found, Refusal, NoPlace, NoWord, first_refusal, lines_of, nodes_of}
use Rattle.sig_writer.specs.Found.{IsFoundAt}
use Rattle.sig_writer.specs.Suits.{IsFirstShared, IsOnePlain, Suits}
use Rattle.cqual_tool.specs.declared.status.Status.{Status}
use Rattle.cqual_tool.specs.declared.status.Status.TheVariants.{Accepted, Rejected, PathsHold, PathBad, CertificateHolds, CertificateBad, Answered, NoName, NoSignature, Malformed, BadWords, ReadFault, WriteFault, NoMemory}
use Rattle.cqual_words.specs.Words.{Question, Infer, Annotate, Check, Certify, Verify, Who, Sign, Task, Generate, meaning_of}
use Rattle.generated_source.specs.Source.{generated_text, lattice_text}
use Rattle.generated_source.specs.Summary.{summary_text}
use Rattle.cqual_tool.specs.Words.{FileNames, names_of, saved_in}
use Rattle.cqual_tool.specs.Inputs.{Inputs, asked, files_with}
use Rattle.cqual_tool.specs.Texts.{usage_line, malformed_line, no_name_line, no_signature_at, no_signature_line}
use Rattle.cqual_tool.specs.Faults.{lattice_line, lex_line}
use Rattle.cqual_tool.specs.Syntax.{syntax_line}
use Rattle.cqual_tool.specs.Shapes.{shape_line}
use Rattle.cqual_tool.specs.Preludes.{prelude_line}
use Rattle.cqual_tool.specs.Programs.{Judging, judging_of, last_of, texts_of}

-- the most bytes that a lattice file may have
abbrev pub lattice_limit : ℕ
lattice_limit = 1048576

-- the most bytes that a prelude or a source may have
abbrev pub source_limit : ℕ
source_limit = 16777216

-- the most bytes that all sources together may have
abbrev pub total_limit : ℕ
total_limit = 67108864

-- the most bytes that a saved report or certificate may have
abbrev pub saved_limit : ℕ
saved_limit = 268435456

-- the bytes are within the limit and read as these lattices
pub record LatticesRead (wide : Bool) (bytes : List ℕ) (lattices : List LatticeView) : Type 0 where
  pub within : length bytes ≤ lattice_limit
  pub read : Reads wide bytes lattices

-- the bytes are within the limit and have this fault
pub record LatticesFail (wide : Bool) (bytes : List ℕ) (fault : LatticeFileFault) : Type 0 where
  pub within : length bytes ≤ lattice_limit
  pub refused : IsFileFault wide bytes fault
  pub reason : fault ≢ OutOfMemory

-- the bytes are within the limit, and are this prelude where words mean what the names of the lattices do
pub record PreludeReads (wide : Bool) (lattices : List LatticeView) (bytes : List ℕ) (unit : UnitRead)
    (marks : List IndexMark) : Type 0 where
  pub within : length bytes ≤ source_limit
  pub words : Meanings
  pub mean : MeansTheSame words (words_of lattices)
  pub is : IsPrelude wide words bytes unit marks

-- the bytes are within the limit, and are no prelude for this reason
pub record PreludeFails (wide : Bool) (lattices : List LatticeView) (bytes : List ℕ)
    (fault : PreludeFault) : Type 0 where
  pub within : length bytes ≤ source_limit
  pub words : Meanings
  pub mean : MeansTheSame words (words_of lattices)
  pub refused : IsFaultOf wide words bytes fault
  pub reason : fault ≢ OutOfSpace

-- the units before the sources, and what their index words say: those of the prelude that is named, if one is
pub data AreBefore (named : FileNames) (inputs : Inputs) (lattices : List LatticeView) : List UnitRead → List IndexMark
    → Type 0 where
  NoPrelude : named.prelude ≡ None → AreBefore named inputs lattices [] []
  OnePrelude : (file : List ℕ) (unit : UnitRead) (marks : List IndexMark) → named.prelude ≡ Some file →
      PreludeReads named.wide lattices inputs.prelude unit marks → AreBefore named inputs lattices (unit ∷ []) marks

-- the bytes of the unit of this number spell these tokens where words mean what the names of the lattices do
pub record SourceLexes (wide : Bool) (lattices : List LatticeView) (number : ℕ) (bytes : List ℕ)
    (lexed : Lexed) : Type 0 where
  pub unit : lexed.unit ≡ number
  pub dialect : lexed.wide ≡ wide
  pub bytes_are : lexed.bytes ≡ bytes
  pub marks : IsMarkedBy (words_of lattices) lexed

-- the bytes stop to spell tokens at the place of this fault
pub record SourceFails (wide : Bool) (lattices : List LatticeView) (number : ℕ) (bytes : List ℕ)
    (fault : LexFault) : Type 0 where
  pub words : Meanings
  pub mean : MeansTheSame words (words_of lattices)
  pub refused : IsRefusal number wide words bytes fault
  pub reason : fault ≢ NoRoom

-- the tokens are those of this well-formed unit
pub record SourceParses (wide : Bool) (lattices : List LatticeView) (number : ℕ) (bytes : List ℕ)
    (it : UnitRead) : Type 0 where
  pub lexes : SourceLexes wide lattices number bytes it.lexed
  pub formed : IsWellFormed it.lexed.wide (lexemes_of it.lexed) it.items

-- the whole line for the bytes of a file that are no tokens, or whose tokens are those of no well-formed unit
pub data SourceRefused (wide : Bool) (lattices : List LatticeView) (number : ℕ) (file bytes : List ℕ) : List ℕ
    → Type 0 where
  Unspelled : (fault : LexFault) → SourceFails wide lattices number bytes fault
      → SourceRefused wide lattices number file bytes (lex_line file bytes fault)
  Unparsed : (lexed : Lexed) (fault : ReadError) → SourceLexes wide lattices number bytes lexed → fault ≢ OutOfRoom
      → IsUnitRefusal lexed fault →
      SourceRefused wide lattices number file bytes (syntax_line file lexed fault)

-- the most bytes of a source, where so many are left for it and those behind it
abbrev pub limit_in : ℕ → ℕ
limit_in left = if nat_le left source_limit then left else source_limit

-- Sources, each its name and its bytes, are these units: the first has this number, and each other the next one. So
-- many bytes are left for all of them together.
pub data SourcesParse (wide : Bool) (lattices : List LatticeView) : ℕ → ℕ → List (List ℕ × List ℕ) → List UnitRead
    → Type 0 where
  NoSource : (number left : ℕ) → SourcesParse wide lattices number left [] []
  OneSource : (number left : ℕ) (source : List ℕ × List ℕ) (more : List (List ℕ × List ℕ)) (unit : UnitRead)
      (units : List UnitRead) →
      length source.1 ≤ limit_in left → SourceParses wide lattices number source.1 unit →
      SourcesParse wide lattices (number + 1) (left - length source.1) more units →
      SourcesParse wide lattices number left (source ∷ more) (unit ∷ units)

-- The whole line for sources of which one has too many bytes or is no well-formed unit: for the first of these.
pub data SourcesFail (wide : Bool) (lattices : List LatticeView) : ℕ → ℕ → List (List ℕ × List ℕ) → List ℕ
    → Type 0 where
  TooLarge : (number left : ℕ) (source : List ℕ × List ℕ) (more : List (List ℕ × List ℕ))
      → limit_in left < length source.1 →
      SourcesFail wide lattices number left (source ∷ more) (malformed_line source.0 (codes "F2"))
  Refused : (number left : ℕ) (source : List ℕ × List ℕ) (more : List (List ℕ × List ℕ)) (text : List ℕ)
      → length source.1 ≤ limit_in left →
      SourceRefused wide lattices number source.0 source.1 text
      → SourcesFail wide lattices number left (source ∷ more) text
  Later : (number left : ℕ) (source : List ℕ × List ℕ) (more : List (List ℕ × List ℕ)) (unit : UnitRead)
      (text : List ℕ) →
      length source.1 ≤ limit_in left → SourceParses wide lattices number source.1 unit →
      SourcesFail wide lattices (number + 1) (left - length source.1) more text
      → SourcesFail wide lattices number left (source ∷ more) text

-- The whole line for well-formed units, the prelude's too, whose names and types have a fault, or whose variables,
-- counted first, or constraints are too many.
pub data UnitsRefused (named : FileNames) (lattices : List LatticeView) (marks : List IndexMark)
    (units : List UnitRead) : List ℕ → Type 0 where
  Faulty : (fault : ShapeFault) → fault ≢ OutOfNames → IsFirstUnlessMemory fault (faults_of (sources_in units)) →
      UnitsRefused named lattices marks units
      (shape_line (last_of named.sources) (texts_of named (lexed_of units)) fault)
  ManyVariables : HasNoFault (sources_in units)
      → most_variables < length (judging_of named lattices marks units).scene.positions →
      UnitsRefused named lattices marks units (malformed_line (last_of named.sources) (codes "Q1"))
  ManyConstraints : HasNoFault (sources_in units)
      → length (judging_of named lattices marks units).scene.positions ≤ most_variables →
      most_constraints < length (judging_of named lattices marks units).system.constraints →
      UnitsRefused named lattices marks units (malformed_line (last_of named.sources) (codes "G1"))

-- the names and types of units have no fault, and the counts are within their limits
pub record AreCounted (named : FileNames) (lattices : List LatticeView) (marks : List IndexMark)
    (units : List UnitRead) : Type 0 where
  pub shaped : HasNoFault (sources_in units)
  pub few_variables : length (judging_of named lattices marks units).scene.positions ≤ most_variables
  pub few_constraints : length (judging_of named lattices marks units).system.constraints ≤ most_constraints

-- The status and the whole text for the constraints of a program, with the annotated source of a unit, if one is asked
-- for.
pub data IsReport (annotated : Option ℕ) (it : Judging) : Status → List ℕ → Type 0 where
  IsRight : (text : List ℕ) → IsJudgedWith it.scene it.system annotated true text → IsReport annotated it Accepted text
  IsWrong : (text : List ℕ) → IsJudgedWith it.scene it.system annotated false text → IsReport annotated it Rejected text

-- The status and the whole text where a certificate is asked for: that of an accepted program, or the report of one
-- that is not.
pub data IsCertified (it : Judging) : Status → List ℕ → Type 0 where
  Certified : (text : List ℕ) → IsAccepted it.system (orders_of it.scene.lattices) →
      IsCertificate it.system (orders_of it.scene.lattices) text → IsCertified it Accepted text
  Uncertified : (text : List ℕ) → IsJudgedWith it.scene it.system None false text → IsCertified it Rejected text

-- The status and the whole text for a report that is checked over the constraints of a program. Where its paths hold,
-- the program is not accepted.
pub data IsChecked (it : Judging) (bytes : List ℕ) : Status → List ℕ → Type 0 where
  Holding : ComesTo it.system (orders_of it.scene.lattices) bytes Hold
      → (IsAccepted it.system (orders_of it.scene.lattices) → ⊥) →
      IsChecked it bytes PathsHold (checked_text Hold)
  Failing : (line : ℕ) (code : Code) → ComesTo it.system (orders_of it.scene.lattices) bytes (Bad line code) →
      IsChecked it bytes PathBad (checked_text (Bad line code))

-- The status and the whole text for a certificate that is checked over the constraints of a program. Where it holds,
-- the program is accepted: who trusts that need know neither the rules nor the text of certificates.
pub data IsVerified (it : Judging) (bytes : List ℕ) : Status → List ℕ → Type 0 where
  Proving : CertificateComesTo it.system (orders_of it.scene.lattices) bytes Holds
      → IsAccepted it.system (orders_of it.scene.lattices) →
      IsVerified it bytes CertificateHolds (verdict_text Holds)
  Breaking : (lattice : ℕ) (rule : CertRule)
      → CertificateComesTo it.system (orders_of it.scene.lattices) bytes (Fails lattice rule) →
      IsVerified it bytes CertificateBad (verdict_text (Fails lattice rule))
  NoProof : (line : ℕ) (code : CertCode)
      → CertificateComesTo it.system (orders_of it.scene.lattices) bytes (Unread line code) →
      IsVerified it bytes CertificateBad (verdict_text (Unread line code))

-- The status and the whole text where it is asked who reaches a name, whether or not the program is accepted.
pub data IsAnswered (it : Judging) (name : List ℕ) : Status → List ℕ → Type 0 where
  Answering : (text : List ℕ) → IsWho it.scene it.system name (Some text) → IsAnswered it name Answered text
  Unnamed : IsWho it.scene it.system name None → IsAnswered it name NoName (no_name_line name)

-- what is found of the nodes of the external functions of a program, over its one lattice
abbrev pub IsFoundOf : Judging → LatticeView → Found → Type 0
IsFoundOf it lattice found = IsFoundAt it.system 0 lattice.order (flat_map nodes_of it.externals) found

-- the line of a library of which a function has no signature
abbrev pub refusal_line : Scene → Refusal → List ℕ
refusal_line scene (NoPlace p) = no_signature_at (place_text scene p.0 p.1) (codes "U3")
refusal_line scene (NoWord p) = no_signature_at (place_text scene p.0 p.1) (codes "U4")

-- The status and the whole text where the signatures of a program as a library are asked for: why it may have none; the
-- report of one that may and is not accepted; why a function has none; or the lines.
pub data IsSigned (it : Judging) : Status → List ℕ → Type 0 where
  NoLattice : (IsOnePlain it.scene.lattices → ⊥) → IsSigned it NoSignature (no_signature_line (codes "U1"))
  Shared : (n : ℕ) (constraint : Constraint) → IsOnePlain it.scene.lattices → IsFirstShared it.system n →
      slice_get it.system.constraints n ≡ Some constraint →
      IsSigned it NoSignature
      (no_signature_at (place_text it.scene constraint.span.unit constraint.span.from) (codes "U2"))
  Unsigned : (text : List ℕ) → Suits it.system it.scene.lattices → IsJudgedWith it.scene it.system None false text →
      IsSigned it Rejected text
  Unwritable : (lattice : LatticeView) (found : Found) (refusal : Refusal) → Suits it.system it.scene.lattices →
      it.scene.lattices ≡ lattice ∷ [] → IsAccepted it.system (orders_of it.scene.lattices)
      → IsFoundOf it lattice found →
      first_refusal found lattice it.externals ≡ Some refusal → IsSigned it NoSignature (refusal_line it.scene refusal)
  Signed : (lattice : LatticeView) (found : Found) → Suits it.system it.scene.lattices
      → it.scene.lattices ≡ lattice ∷ [] →
      IsAccepted it.system (orders_of it.scene.lattices) → IsFoundOf it lattice found
      → first_refusal found lattice it.externals ≡ None →
      IsSigned it Accepted (lines_of found lattice it.externals)

-- The status and the whole text for a program, where no saved file is asked of; the one source is unit 1.
abbrev pub IsAlone : Question → Judging → Status → List ℕ → Type 0
IsAlone Infer it status text = IsReport None it status text
IsAlone Annotate it status text = IsReport (Some 1) it status text
IsAlone (Check file) it status text = ⊥
IsAlone Certify it status text = IsCertified it status text
IsAlone (Verify file) it status text = ⊥
IsAlone (Who name) it status text = IsAnswered it name status text
IsAlone Sign it status text = IsSigned it status text

-- The status and the whole text for a program and the bytes of the saved report or certificate.
abbrev pub IsOfSaved : Question → Judging → List ℕ → Status → List ℕ → Type 0
IsOfSaved Infer it saved status text = ⊥
IsOfSaved Annotate it saved status text = ⊥
IsOfSaved (Check file) it saved status text = IsChecked it saved status text
IsOfSaved Certify it saved status text = ⊥
IsOfSaved (Verify file) it saved status text = IsVerified it saved status text
IsOfSaved (Who name) it saved status text = ⊥
IsOfSaved Sign it saved status text = ⊥

-- The status and the whole text for a program within the limits, by what is asked of it, and by the bytes of the saved
-- file.
pub data IsEnd (named : FileNames) (saved : List ℕ) (it : Judging) : Status → List ℕ → Type 0 where
  AnsweredAlone : (status : Status) (text : List ℕ) → saved_in named ≡ None → IsAlone named.asked it status text →
      IsEnd named saved it status text
  SavedTooLarge : (file : List ℕ) → saved_in named ≡ Some file → saved_limit < length saved →
      IsEnd named saved it Malformed (malformed_line file (codes "F2"))
  SavedJudged : (file : List ℕ) (status : Status) (text : List ℕ) → saved_in named ≡ Some file
      → length saved ≤ saved_limit →
      IsOfSaved named.asked it saved status text → IsEnd named saved it status text

-- The status and the whole text for sources, each its name and its bytes, behind lattices and units that were read: the
-- first has this number, and so many bytes are left for all of them. `Ends` is what comes of their program.
pub data OfSources (named : FileNames) (lattices : List LatticeView) (before : List UnitRead) (marks : List IndexMark)
    (Ends : Judging → Status → List ℕ → Type 0) (number left : ℕ) (sources : List (List ℕ × List ℕ)) : Status → List ℕ
    → Type 0 where
  NotParsed : (text : List ℕ) → SourcesFail named.wide lattices number left sources text →
      OfSources named lattices before marks Ends number left sources Malformed text
  NotCounted : (units : List UnitRead) (text : List ℕ) → SourcesParse named.wide lattices number left sources units →
      UnitsRefused named lattices marks (before ++ units) text
      → OfSources named lattices before marks Ends number left sources Malformed text
  SourcesRead : (units : List UnitRead) (status : Status) (text : List ℕ)
      → SourcesParse named.wide lattices number left sources units →
      AreCounted named lattices marks (before ++ units)
      → Ends (judging_of named lattices marks (before ++ units)) status text →
      OfSources named lattices before marks Ends number left sources status text

-- the sources that are named, with their bytes
abbrev pub sources_of : FileNames → Inputs → List (List ℕ × List ℕ)
sources_of named inputs = files_with named.sources inputs.sources

-- The status and the whole text behind lattices that were read: first for the prelude, where one is named.
pub data OfUnits (named : FileNames) (inputs : Inputs) (lattices : List LatticeView) : Status → List ℕ → Type 0 where
  PreludeTooLarge : (file : List ℕ) → named.prelude ≡ Some file → source_limit < length inputs.prelude →
      OfUnits named inputs lattices Malformed (malformed_line file (codes "F2"))
  PreludeRefused : (file : List ℕ) (fault : PreludeFault) → named.prelude ≡ Some file
      → PreludeFails named.wide lattices inputs.prelude fault →
      OfUnits named inputs lattices Malformed (prelude_line file inputs.prelude fault)
  PreludeRead : (before : List UnitRead) (marks : List IndexMark) (status : Status) (text : List ℕ)
      → AreBefore named inputs lattices before marks →
      OfSources named lattices before marks (IsEnd named inputs.saved) 1 total_limit
      (sources_of named inputs) status text →
      OfUnits named inputs lattices status text

-- The status and the whole text for files that are named, by the bytes of each.
pub data OfFiles (named : FileNames) (inputs : Inputs) : Status → List ℕ → Type 0 where
  LatticeTooLarge : lattice_limit < length inputs.lattice
      → OfFiles named inputs Malformed (malformed_line named.lattice (codes "F2"))
  LatticeRefused : (fault : LatticeFileFault) → LatticesFail named.wide inputs.lattice fault
      → OfFiles named inputs Malformed (lattice_line named.lattice fault)
  LatticeRead : (lattices : List LatticeView) (status : Status) (text : List ℕ)
      → LatticesRead named.wide inputs.lattice lattices →
      OfUnits named inputs lattices status text → OfFiles named inputs status text

-- the names of the files that the tool makes itself
abbrev pub made_names : FileNames
made_names = record {
  lattice = codes "generated.q";
  prelude = None;
  asked = Infer;
  sources = codes "generated.c" ∷ [];
  wide = false;
}

-- the status of a made source, by how many bounds are exceeded
abbrev pub sum_status : ℕ → Status
sum_status zero = Accepted
sum_status (suc errors) = Rejected

-- The status and the whole text for the program of a source that the tool makes itself: the counts of its variables,
-- its constraints, its call sites and its exceeded bounds. It is accepted exactly where there are none of these.
pub data IsSummed (number : ℕ) (it : Judging) : Status → List ℕ → Type 0 where
  SummedUp : (errors : ℕ) → ErrorCount it.scene it.system (length it.system.constraints) errors →
      (errors ≡ 0 → IsAccepted it.system (orders_of it.scene.lattices)) →
      (0 < errors → IsAccepted it.system (orders_of it.scene.lattices) → ⊥) →
      IsSummed number it (sum_status errors) (summary_text number (record {
        variables = length it.scene.positions;
        constraints = length it.system.constraints;
        sites = length it.system.sites;
        errors = errors;
      }))

-- The status and the whole text for the source of a number that the tool makes itself, over a lattice file of its own.
pub data OfMade (number : ℕ) : Status → List ℕ → Type 0 where
  MadeLatticesRefused : (fault : LatticeFileFault) → LatticesFail false lattice_text fault →
      OfMade number Malformed (lattice_line made_names.lattice fault)
  MadeRead : (lattices : List LatticeView) (status : Status) (text : List ℕ)
      → LatticesRead false lattice_text lattices →
      OfSources made_names lattices [] [] (IsSummed number) 1 total_limit
      (files_with made_names.sources (generated_text number ∷ [])) status text →
      OfMade number status text

-- The status and the whole text for what is asked, by the bytes of each part.
pub data OfTask (inputs : Inputs) (task : Task) : Status → List ℕ → Type 0 where
  OfProgram : (named : FileNames) (status : Status) (text : List ℕ) → names_of task ≡ Some named
      → OfFiles named inputs status text →
      OfTask inputs task status text
  OfGenerated : (number : ℕ) (status : Status) (text : List ℕ) → task ≡ Generate number → OfMade number status text →
      OfTask inputs task status text

-- The status and the whole text for the words and the files, of which each part has these bytes.
pub data Outcome (words : List (List ℕ)) (inputs : Inputs) : Status → List ℕ → Type 0 where
  WithoutMeaning : meaning_of words ≡ None → Outcome words inputs BadWords usage_line
  WithMeaning : (task : Task) (status : Status) (text : List ℕ) → meaning_of words ≡ Some task →
      OfTask inputs task status text → Outcome words inputs status text

-- It is the status and the whole text whatever the files hold beside what was read of them: for all files that give
-- these readings.
abbrev pub Answers : List (List ℕ) → List Reading → Status → List ℕ → Type 0
Answers words these status text =
    (inputs : Inputs) → ReadsAs (asked words inputs) these → Outcome words inputs status text

-- the answer is that of the words and the files: no read failed, no write did, and memory was found
abbrev pub IsAnswer : Status → Type 0
IsAnswer Accepted = Unit {0}
IsAnswer Rejected = Unit {0}
IsAnswer PathsHold = Unit {0}
IsAnswer PathBad = Unit {0}
IsAnswer CertificateHolds = Unit {0}
IsAnswer CertificateBad = Unit {0}
IsAnswer Answered = Unit {0}
IsAnswer NoName = Unit {0}
IsAnswer NoSignature = Unit {0}
IsAnswer Malformed = Unit {0}
IsAnswer BadWords = Unit {0}
IsAnswer ReadFault = ⊥
IsAnswer WriteFault = ⊥
IsAnswer NoMemory = ⊥

-- the status says what was decided of the files that were read
abbrev pub IsDecided : Status → Type 0
IsDecided Accepted = Unit {0}
IsDecided Rejected = Unit {0}
IsDecided PathsHold = Unit {0}
IsDecided PathBad = Unit {0}
IsDecided CertificateHolds = Unit {0}
IsDecided CertificateBad = Unit {0}
IsDecided Answered = Unit {0}
IsDecided NoName = Unit {0}
IsDecided NoSignature = Unit {0}
IsDecided Malformed = Unit {0}
IsDecided BadWords = ⊥
IsDecided ReadFault = ⊥
IsDecided WriteFault = ⊥
IsDecided NoMemory = ⊥

-- a name in a list of its own, if there is one
abbrev pub named_one : Option (List ℕ) → List (List ℕ)
named_one None = []
named_one (Some name) = name ∷ []

-- what was read before the prelude, before a source behind so many others, and before the saved file

-- the lattice file reads, as it must before the prelude is started
pub record LatticesAreRead (named : FileNames) (inputs : Inputs) : Type 0 where
  pub lattices : List LatticeView
  pub read : LatticesRead named.wide inputs.lattice lattices

-- the lattice file, the prelude and so many sources read, as they must before the next source is started
pub record SourcesAreRead (named : FileNames) (inputs : Inputs) (count : ℕ) : Type 0 where
  pub lattices : List LatticeView
  pub read : LatticesRead named.wide inputs.lattice lattices
  pub before : List UnitRead
  pub marks : List IndexMark
  pub are : AreBefore named inputs lattices before marks
  pub units : List UnitRead
  pub parse : SourcesParse named.wide lattices 1 total_limit (take count (sources_of named inputs)) units

-- all files but the saved one read and their units have no fault, as they must before that is started
pub record ProgramIsRead (named : FileNames) (inputs : Inputs) : Type 0 where
  pub lattices : List LatticeView
  pub read : LatticesRead named.wide inputs.lattice lattices
  pub before : List UnitRead
  pub marks : List IndexMark
  pub are : AreBefore named inputs lattices before marks
  pub units : List UnitRead
  pub parse : SourcesParse named.wide lattices 1 total_limit (sources_of named inputs) units
  pub counted : AreCounted named lattices marks (before ++ units)

-- The files that are started, in order, by their names: the lattice file, the prelude, the sources and the saved file,
-- each only where those before it have read. Given are the bytes of the parts: all that give the readings.
pub data Starts (named : FileNames) (Given : Inputs → Type 0) : List (List ℕ) → Type 0 where
  LatticeAlone : Starts named Given (named.lattice ∷ [])
  ThenPrelude : (file : List ℕ) → named.prelude ≡ Some file
      → ((inputs : Inputs) → Given inputs → LatticesAreRead named inputs) →
      Starts named Given (named.lattice ∷ file ∷ [])
  ThenSource : (count : ℕ) → count < length named.sources
      → ((inputs : Inputs) → Given inputs → SourcesAreRead named inputs count) →
      Starts named Given (named.lattice ∷ named_one named.prelude ++ take (suc count) named.sources)
  ThenSaved : (file : List ℕ) → saved_in named ≡ Some file
      → ((inputs : Inputs) → Given inputs → ProgramIsRead named inputs) →
      Starts named Given (named.lattice ∷ named_one named.prelude ++ named.sources ++ file ∷ [])

-- the files that a task starts: a source that the tool makes itself starts none
pub data TaskStarts (task : Task) (Given : Inputs → Type 0) : List (List ℕ) → Type 0 where
  InOrder : (named : FileNames) (names : List (List ℕ)) → names_of task ≡ Some named → Starts named Given names
      → TaskStarts task Given names
  MadeAlone : (number : ℕ) → task ≡ Generate number → TaskStarts task Given []

-- The files that are started: none for words without a meaning, nor where memory is wanting before their meaning is
-- found.
pub data WordsStart (words : List (List ℕ)) (Given : Inputs → Type 0) (status : Status) : List (List ℕ) → Type 0 where
  NoFile : meaning_of words ≡ None → WordsStart words Given status []
  NoMeaningYet : status ≡ NoMemory → WordsStart words Given status []
  ForTask : (task : Task) (names : List (List ℕ)) → meaning_of words ≡ Some task → TaskStarts task Given names →
      WordsStart words Given status names

-- these readings are of files that are started so
abbrev pub StartsFor : List (List ℕ) → Status → List Reading → Type 0
StartsFor words status these = WordsStart words (λ inputs. ReadsAs (asked words inputs) these) status (names_read these)
