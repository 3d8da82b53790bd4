-- What follows from the definition of the tool's answers.
use Rattle.std.specs.Prelude.{◌≡◌, ℕ, ◌≤◌, length, slice_get, List, ◌∷◌, [], ◌++◌, true, false, Some, None, codes}
use Rattle.lattice_core.specs.View.{orders_of}
use Rattle.flow_graph.specs.System.{IsWellOwned}
use Rattle.flow_graph.specs.Unfolding.{NamesElements}
use Rattle.c_lexer.specs.Tokens.{token_spot}
use Rattle.c_types.specs.Sources.{UnitRead}
use Rattle.annotate.specs.Texts.{Scene, UnitText, line, file_text}
use Rattle.annotate.specs.Annotated.{pieces_of, with_comments, without_comments}
use Rattle.annotate.specs.Reports.{IsAcceptedReport}
use Rattle.report_laws.specs.Scenes.{HasNoFeed}
use Rattle.path_checker.specs.declared.report_checks.judging.Checked.TheVariants.{Hold}
use Rattle.path_checker.specs.ReportChecks.Texts.{checked_text}
use Rattle.cqual_words.specs.Words.{FileNames as Names, Question, Ask, Annotate, Check, Certify, Verify, meaning_of}
use Rattle.certificate_checks.specs.declared.judging.Verdict.TheVariants.{Holds}
use Rattle.certificate_checks.specs.Texts.{verdict_text}
use Rattle.cqual_tool.specs.declared.status.Status.TheVariants.{Accepted, Rejected, PathsHold, CertificateHolds}
use Rattle.cqual_tool.specs.Inputs.{Inputs, first_of}
use Rattle.cqual_tool.specs.Words.{FileNames, of_files}
use Rattle.cqual_tool.specs.Programs.{Judging, judging_of}
use Rattle.cqual_tool.specs.Outcome.{Outcome, ProgramIsRead, saved_limit}

-- what is judged of files that are read
abbrev pub judged : (named : FileNames) (inputs : Inputs) → ProgramIsRead named inputs → Judging
judged named inputs it = judging_of named it.lattices it.marks (it.before ++ it.units)

-- The system of files that are read is well owned, and names elements of its lattices.
abbrev pub ProgramsAreOwned : Type 0
ProgramsAreOwned = (named : FileNames) (inputs : Inputs) (it : ProgramIsRead named inputs) →
    IsWellOwned (judged named inputs it).system × NamesElements (judged named inputs it).system (orders_of it.lattices)

-- A text is an accepted report of files that are read, of which one is a source, and behind it the bytes of that source
-- with comments:
-- without the comments they are the source.
pub record IsAnnotated (named : FileNames) (inputs : Inputs) (text : List ℕ) : Type 0 where
  pub read : ProgramIsRead named inputs
  pub unit : UnitRead
  pub one : read.units ≡ unit ∷ []
  pub report : List ℕ
  pub is : IsAcceptedReport (judged named inputs read).scene (judged named inputs read).system report
  pub spelled : text ≡ report ++ (line (codes "annotated")
      ++ with_comments (pieces_of (judged named inputs read).scene unit.lexed is.listings))
  pub source : without_comments (pieces_of (judged named inputs read).scene unit.lexed is.listings) ≡ first_of inputs.sources

-- An accepted text with the annotated source is that.
abbrev pub AnnotatedGivesTheSource : Type 0
AnnotatedGivesTheSource = (words : List (List ℕ)) (names : Names) (inputs : Inputs) (text : List ℕ) →
    meaning_of words ≡ Some (Ask Annotate names) → Outcome words inputs Accepted text
    → IsAnnotated (of_files names Annotate) inputs text

-- No line feed is in the names of files that lines of a report give: those of the units, and those of linemarkers.
abbrev pub FilesAreFree : Scene → Type 0
FilesAreFree scene = (k : ℕ) (unit : UnitText) (token : ℕ) → slice_get scene.units k ≡ Some unit →
    HasNoFeed (file_text unit.file unit.lexed.bytes (token_spot unit.lexed token))

-- A rejected text, whatever was asked, as the report that is checked over the same lattices, prelude and sources,
-- holds: where the names of files have no line feed in them, and the text is not past the limit of saved files.
abbrev pub RejectedIsChecked : Type 0
RejectedIsChecked =
    (words others : List (List ℕ)) (question : Question) (names : Names) (report : List ℕ) (inputs : Inputs)
    (text : List ℕ) →
    meaning_of words ≡ Some (Ask question names) → meaning_of others ≡ Some (Ask (Check report) names) →
    ((it : ProgramIsRead (of_files names question) inputs)
    → FilesAreFree (judged (of_files names question) inputs it).scene) →
    length text ≤ saved_limit → Outcome words inputs Rejected text →
    Outcome others (record inputs { saved = text }) PathsHold (checked_text Hold)

-- The certificate that is written of an accepted program, as the one that is checked over the same lattices, prelude
-- and sources, holds, where it is not past the limit of saved files.
abbrev pub CertifiedIsVerified : Type 0
CertifiedIsVerified =
    (words others : List (List ℕ)) (names : Names) (certificate : List ℕ) (inputs : Inputs) (text : List ℕ) →
    meaning_of words ≡ Some (Ask Certify names) → meaning_of others ≡ Some (Ask (Verify certificate) names) →
    length text ≤ saved_limit → Outcome words inputs Accepted text →
    Outcome others (record inputs { saved = text }) CertificateHolds (verdict_text Holds)
