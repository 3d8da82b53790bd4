-- A rejected report, checked over the same files.
use Rattle.std.proofs.Common.{◌≡◌, ℕ, zero, suc, ◌+◌, ◌-◌, ◌≤◌, arith, Bool, false, List, [], ◌∷◌, ◌++◌, length, slice_get, Some, None, refl, sym, subst, ap, ◌∙◌}
use Rattle.std.specs.Prelude.{All}
use Rattle.std.proofs.lemmas.List.Elements.{All-nil, All-cons, All-head, All-tail}
use Rattle.lattice_core.specs.View.{LatticeView}
use Rattle.c_lexer.specs.Tokens.{text_of}
use Rattle.owned_laws.specs.ElementLaws.Naming.{ElementsAreNamed}
use Rattle.c_types.specs.Sources.{UnitRead, lexed_of}
use Rattle.index_words.specs.Marks.{IndexMark}
use Rattle.constraint_gen.specs.Programs.{program_in}
use Rattle.annotate.specs.Texts.{UnitText}
use Rattle.annotate.specs.Reports.{RejectedWith, IsRejectedReport}
use Rattle.report_laws.specs.Scenes.{HasNoFeed, HasNoFeeds, TokensHaveNoFeed}
use Rattle.report_laws.specs.Laws.{RejectedReadsBack}
use Rattle.path_checker.specs.declared.report_checks.judging.Checked.TheVariants.{Hold}
use Rattle.path_checker.specs.ReportChecks.Texts.{checked_text}
use Rattle.cqual_words.specs.Words.{FileNames as Names, Question, Infer, Annotate, Check, Certify, Verify, Who, Sign, Task, Ask, Generate}
use Rattle.lattice_file.proofs.Built.{built_lattices}
use Rattle.cqual_tool.specs.declared.status.Status.TheVariants.{Rejected, PathsHold}
use Rattle.cqual_tool.specs.Inputs.{Inputs}
use Rattle.cqual_tool.specs.Words.{FileNames, of_files, names_of}
use Rattle.cqual_tool.specs.Programs.{texts_of}
use Rattle.cqual_tool.specs.Outcome.{AreBefore, NoPrelude, OnePrelude, NoSource, OneSource, SourcesParse, sources_of, total_limit, ProgramIsRead, AnsweredAlone, SavedJudged, IsAlone, IsOfSaved, IsAnswered, IsChecked, IsVerified, IsSigned, Unsigned, IsWrong, Uncertified, Holding, saved_limit}
use Rattle.cqual_tool.specs.Outcome.{SourcesRead, PreludeRead, OfFiles, LatticeRead, OfTask, OfProgram, OfGenerated, Outcome, WithMeaning}
use Rattle.answer_laws.specs.Laws.{ProgramsAreOwned, RejectedIsChecked, FilesAreFree, judged}
use Rattle.answer_laws.proofs.Owned.{built_sized, units_sound}
use Rattle.answer_laws.proofs.Names.{names_free}

some_unit : {x y : UnitText} → Some x ≡ Some y → x ≡ y
some_unit e = cc

-- the texts of a unit's tokens have no line feed in them
abbrev IsFree : UnitRead → Type 0
IsFree it = (token : ℕ) → HasNoFeed (text_of it.lexed token)

-- units of sources that parse have no line feed in the texts of their tokens
sources_free : TokensHaveNoFeed
    → (wide : Bool) (lattices : List LatticeView) (number left : ℕ) (sources : List (List ℕ × List ℕ))
    (units : List UnitRead)
    → SourcesParse wide lattices number left sources units → All IsFree units
sources_free law wide lattices _ _ _ _ (NoSource number left) = All-nil IsFree
sources_free law wide lattices _ _ _ _ (OneSource number left source more unit units within parses rest) =
    let marked = parses.lexes.marks in
    All-cons IsFree unit units (law marked.words unit.lexed marked.spelled)
    (sources_free law wide lattices (number + 1) (left - length source.1) more units rest)

-- where the units of the sources have none, the unit of the prelude and these together have none
all_free : TokensHaveNoFeed
    → (named : FileNames) (inputs : Inputs) (lattices : List LatticeView) (before units : List UnitRead)
    (marks : List IndexMark)
    → AreBefore named inputs lattices before marks → All IsFree units → All IsFree (before ++ units)
all_free law named inputs lattices _ units _ (NoPrelude none) free = free
all_free law named inputs lattices _ units _ (OnePrelude file first marks is reads) free =
    let marked = reads.is.parses.lexes.marks in
    All-cons IsFree first units (law marked.words first.lexed marked.spelled) free

-- a unit among the texts of free units has no line feed in the text of a token
free_at : (named : FileNames) (units : List UnitRead) → All IsFree units → (k : ℕ) (unit : UnitText) (token : ℕ)
    → slice_get (texts_of named (lexed_of units)) k ≡ Some unit → HasNoFeed (text_of unit.lexed token)
free_at named [] free k unit token there = absurd cc
free_at named (u ∷ units) free zero unit token there =
    subst (λ (t : UnitText). HasNoFeed (text_of t.lexed token)) (some_unit there) (All-head IsFree u units free token)
free_at named (u ∷ units) free (suc k) unit token there =
    free_at named units (All-tail IsFree u units free) k unit token there

-- no token of a program that is read has a line feed in its text
tokens_free : TokensHaveNoFeed
    → (named : FileNames) (inputs : Inputs) (it : ProgramIsRead named inputs) (k : ℕ) (unit : UnitText) (token : ℕ)
    → slice_get (judged named inputs it).scene.units k ≡ Some unit → HasNoFeed (text_of unit.lexed token)
tokens_free law named inputs it =
    free_at named (it.before ++ it.units)
    (all_free law named inputs it.lattices it.before it.units it.marks it.are
    (sources_free law named.wide it.lattices 1 total_limit (sources_of named inputs) it.units it.parse))

-- the same names with a report that is to be checked
abbrev with_saved : Names → List ℕ → FileNames
with_saved names report = of_files names (Check report)

-- what is read before the sources is the same where the report is checked
before_on : (names : Names) (question : Question) (report : List ℕ) (inputs : Inputs) (text : List ℕ)
    (lattices : List LatticeView) (before : List UnitRead)
    (marks : List IndexMark) → AreBefore (of_files names question) inputs lattices before marks
    → AreBefore (with_saved names report) (record inputs { saved = text }) lattices before marks
before_on names question report inputs text lattices _ _ (NoPrelude none) = NoPrelude none
before_on names question report inputs text lattices _ _ (OnePrelude file unit marks is reads) =
    OnePrelude file unit marks is reads

module _ (owned : ProgramsAreOwned) (elements : ElementsAreNamed) (back : RejectedReadsBack) (free : TokensHaveNoFeed)
    (question : Question) (names : Names) (report : List ℕ) (inputs : Inputs) (text : List ℕ)
    (few : length text ≤ saved_limit)
    (files : (it : ProgramIsRead (of_files names question) inputs)
    → FilesAreFree (judged (of_files names question) inputs it).scene) where
  of_report : (it : ProgramIsRead (of_files names question) inputs)
      → IsRejectedReport (judged (of_files names question) inputs it).scene
      (judged (of_files names question) inputs it).system text
      → OfFiles (with_saved names report) (record inputs { saved = text }) PathsHold (checked_text Hold)
  of_report it is =
      let p = program_in it.lattices it.marks (it.before ++ it.units) in
      let built = it.read.read.built in
      let scene = (judged (of_files names question) inputs it).scene in
      let feeds : HasNoFeeds scene = record {
        files = files it;
        tokens = tokens_free free (of_files names question) inputs it;
        names = names_free names.wide it.read.read.blocks inputs.lattice it.lattices it.read.read.text built;
      } in
      let comes = (back scene (judged (of_files names question) inputs it).system text feeds
      (built_lattices it.read.read.blocks it.lattices built)
      (elements p (units_sound (of_files names question) inputs it) (built_sized it.read.read.blocks it.lattices built))
      (owned (of_files names question) inputs it).0 it.counted.few_constraints
      (omega arith) is).comes in
      LatticeRead it.lattices PathsHold (checked_text Hold) it.read
      (PreludeRead it.before it.marks PathsHold (checked_text Hold)
      (before_on names question report inputs text it.lattices it.before it.marks it.are)
      (SourcesRead it.units PathsHold (checked_text Hold) it.parse
      (record {
        shaped = it.counted.shaped;
        few_variables = it.counted.few_variables;
        few_constraints = it.counted.few_constraints;
      })
      (SavedJudged report PathsHold (checked_text Hold) refl few (Holding comes is.rejected))))

  -- what is asked of files that are read and rejected is a report, with the annotated source or for a certificate too
  of_end : (it : ProgramIsRead (of_files names question) inputs) (asked : Question)
      → IsAlone asked (judged (of_files names question) inputs it) Rejected text
      → IsRejectedReport (judged (of_files names question) inputs it).scene
      (judged (of_files names question) inputs it).system text
  of_end it Infer (IsWrong _ (RejectedWith _ is)) = is
  of_end it Annotate (IsWrong _ (RejectedWith _ is)) = is
  of_end it Certify (Uncertified _ (RejectedWith _ is)) = is
  of_end it (Check file) none = absurd none
  of_end it (Verify file) none = absurd none
  of_end it (Who name) is = absurd (rejects is)
    where
      rejects : IsAnswered (judged (of_files names question) inputs it) name Rejected text → ⊥
      rejects it_is = elim it_is [ ]
  of_end it Sign (Unsigned _ suits (RejectedWith _ is)) = is

  saved_not : (it : ProgramIsRead (of_files names question) inputs) (asked : Question)
      → IsOfSaved asked (judged (of_files names question) inputs it) inputs.saved Rejected text → ⊥
  saved_not it Infer is = is
  saved_not it Annotate is = is
  saved_not it Certify is = is
  saved_not it (Check file) is = rejects is
    where
      rejects : IsChecked (judged (of_files names question) inputs it) inputs.saved Rejected text → ⊥
      rejects it_is = elim it_is [ ]
  saved_not it (Verify file) is = rejects is
    where
      rejects : IsVerified (judged (of_files names question) inputs it) inputs.saved Rejected text → ⊥
      rejects it_is = elim it_is [ ]
  saved_not it (Who name) is = is
  saved_not it Sign is = is

  of_files_wrong : OfFiles (of_files names question) inputs Rejected text
      → OfFiles (with_saved names report) (record inputs { saved = text }) PathsHold (checked_text Hold)
  of_files_wrong (LatticeRead lattices _ _ read
      (PreludeRead before marks _ _ are (SourcesRead units _ _ parse counted (AnsweredAlone _ _ none is)))) =
      let it : ProgramIsRead (of_files names question) inputs = record {
        lattices = lattices;
        read = read;
        before = before;
        marks = marks;
        are = are;
        units = units;
        parse = parse;
        counted = counted;
      } in of_report it (of_end it question is)
  of_files_wrong (LatticeRead lattices _ _ read
      (PreludeRead before marks _ _ are (SourcesRead units _ _ parse counted (SavedJudged file _ _ there short is)))) =
      absurd (saved_not (record {
        lattices = lattices;
        read = read;
        before = before;
        marks = marks;
        are = are;
        units = units;
        parse = parse;
        counted = counted;
      }) question is)

some_task : {x y : Task} → Some x ≡ Some y → x ≡ y
some_task e = cc

some_names : {x y : FileNames} → Some x ≡ Some y → x ≡ y
some_names e = cc

-- the rejected report of a program holds, where it is checked over the same files
pub rejected_is_checked : ProgramsAreOwned → ElementsAreNamed → RejectedReadsBack → TokensHaveNoFeed → RejectedIsChecked
rejected_is_checked owned elements back free words others question names report inputs text means other files few
    (WithMeaning task _ _ is outcome) =
    by (some_task (sym is ∙ means)) outcome
  where
    by : task ≡ Ask question names → OfTask inputs task Rejected text
        → Outcome others (record inputs { saved = text }) PathsHold (checked_text Hold)
    by same (OfGenerated number _ _ made _) =
        absurd (let not_so : Generate number ≡ Ask question names = sym made ∙ same in cc)
    by same (OfProgram named _ _ is_named read) =
        let e : named ≡ of_files names question = some_names (sym is_named ∙ ap names_of same) in
        WithMeaning (Ask (Check report) names) PathsHold (checked_text Hold) other
        (OfProgram (with_saved names report) PathsHold (checked_text Hold) refl
        (of_files_wrong owned elements back free question names report inputs text few files
        (subst (λ (n : FileNames). OfFiles n inputs Rejected text) e read)))
