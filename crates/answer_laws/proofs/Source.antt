-- The annotated source.
use Rattle.std.proofs.Common.{◌≡◌, ℕ, nat_eq, Bool, true, List, [], ◌∷◌, ◌++◌, length, codes, Option, Some, None, refl, sym, subst, ap, ◌∙◌, if◌then◌else◌}
use Rattle.lattice_core.specs.View.{LatticeView}
use Rattle.c_types.specs.Sources.{UnitRead, lexed_of}
use Rattle.index_words.specs.Marks.{IndexMark}
use Rattle.annotate.specs.Texts.{UnitText, line, unit_in}
use Rattle.annotate.specs.Annotated.{CommentsComeOut, annotated_in}
use Rattle.annotate.specs.Reports.{AcceptedWith, IsJudgedWith}
use Rattle.cqual_words.specs.Words.{Question, Annotate, Task, Ask, Generate}
use Rattle.cqual_tool.specs.declared.status.Status.TheVariants.{Accepted}
use Rattle.cqual_tool.specs.Inputs.{Inputs, files_with, first_of}
use Rattle.cqual_tool.specs.Words.{FileNames, of_files, names_of}
use Rattle.cqual_tool.specs.Programs.{text_of, texts_of}
use Rattle.cqual_tool.specs.Outcome.{AreBefore, NoPrelude, OnePrelude, NoSource, OneSource, SourceParses, SourcesParse, total_limit, ProgramIsRead, IsAlone, IsOfSaved, IsEnd, AnsweredAlone, SavedJudged, IsRight}
use Rattle.cqual_tool.specs.Outcome.{SourcesRead, OfUnits, PreludeRead, OfFiles, LatticeRead, LatticesRead, OfTask, OfProgram, OfGenerated, WithMeaning}
use Rattle.answer_laws.specs.Laws.{AnnotatedGivesTheSource, IsAnnotated, judged}
use Rattle.answer_laws.proofs.Asking.{annotated_names_one}

-- the source is found among the texts by its number
unit_is : (named : FileNames) (inputs : Inputs) (lattices : List LatticeView) (before : List UnitRead)
    (marks : List IndexMark) (it : UnitRead)
    → AreBefore named inputs lattices before marks → it.lexed.unit ≡ 1
    → unit_in (texts_of named (lexed_of (before ++ it ∷ []))) 1 ≡ Some (text_of named it.lexed)
unit_is named inputs lattices before marks it (NoPrelude none) one =
    ap (λ (n : ℕ). if nat_eq n 1 then Some (text_of named it.lexed) else None) one
unit_is named inputs lattices before marks it (OnePrelude file unit _ there reads) one =
    ap (λ (n : ℕ). if nat_eq n 1 then Some (text_of named unit.lexed) else unit_in (text_of named it.lexed ∷ []) 1)
    reads.is.parses.lexes.unit
    ∙ ap (λ (n : ℕ). if nat_eq n 1 then Some (text_of named it.lexed) else None) one

-- one source is one unit
one_file : (names contents : List (List ℕ)) → length names ≡ 1
    → (file : List ℕ) × (files_with names contents ≡ (file, first_of contents) ∷ [])
one_file [] contents one = absurd cc
one_file (file ∷ []) contents one = (file, refl)
one_file (file ∷ other ∷ more) contents one = absurd cc

one_unit : (wide : Bool) (lattices : List LatticeView) (number left : ℕ) (source : List ℕ × List ℕ)
    (units : List UnitRead)
    → SourcesParse wide lattices number left (source ∷ []) units
    → (unit : UnitRead) × (units ≡ unit ∷ []) × SourceParses wide lattices number source.1 unit
one_unit wide lattices _ _ _ _ (OneSource number left source _ unit _ within parses (NoSource _ _)) =
    (unit, refl, parses)

-- where one source is named, what is read of the sources is one unit, of the bytes of that source
the_unit : (named : FileNames) (inputs : Inputs) (it : ProgramIsRead named inputs) → length named.sources ≡ 1
    → (unit : UnitRead) × (it.units ≡ unit ∷ []) × SourceParses named.wide it.lattices 1 (first_of inputs.sources) unit
the_unit named inputs it one =
    let file = one_file named.sources inputs.sources one in
    one_unit named.wide it.lattices 1 total_limit (file.0, first_of inputs.sources) it.units
    (subst (λ (files : List (List ℕ × List ℕ)). SourcesParse named.wide it.lattices 1 total_limit files it.units)
    file.1 it.parse)

-- the text of an accepted program that was judged with unit 1 is its report with the annotated source
of_text : CommentsComeOut → (named : FileNames) (inputs : Inputs) (it : ProgramIsRead named inputs) (text : List ℕ)
    → length named.sources ≡ 1
    → IsJudgedWith (judged named inputs it).scene (judged named inputs it).system (Some 1) true text
    → IsAnnotated named inputs text
of_text law named inputs it text one is = by is
  where
    source : (unit : UnitRead) × (it.units ≡ unit ∷ [])
        × SourceParses named.wide it.lattices 1 (first_of inputs.sources) unit
    source = the_unit named inputs it one

    found : unit_in (judged named inputs it).scene.units 1 ≡ Some (text_of named source.0.lexed)
    found =
        ap (λ (units : List UnitRead). unit_in (texts_of named (lexed_of (it.before ++ units))) 1) source.1
        ∙ unit_is named inputs it.lattices it.before it.marks source.0 it.are source.2.lexes.unit

    by : IsJudgedWith (judged named inputs it).scene (judged named inputs it).system (Some 1) true text
        → IsAnnotated named inputs text
    by (AcceptedWith _ report is spelled) = record {
      read = it;
      unit = source.0;
      one = source.1;
      report = report;
      is = is;
      spelled = subst (λ (o : Option UnitText). text ≡ report
          ++ (line (codes "annotated") ++ annotated_in (judged named inputs it).scene o is.listings)) found spelled;
      source = law (judged named inputs it).scene source.0.lexed is.listings ∙ source.2.lexes.bytes_are;
    }

-- the answer where the annotated source is asked for is the report with that source
of_alone : CommentsComeOut
    → (named : FileNames) (inputs : Inputs) (it : ProgramIsRead named inputs) (text : List ℕ) (asked : Question)
    → asked ≡ Annotate → length named.sources ≡ 1 → IsAlone asked (judged named inputs it) Accepted text
    → IsAnnotated named inputs text
of_alone law named inputs it text asked annotated one is =
    by (subst (λ (q : Question). IsAlone q (judged named inputs it) Accepted text) annotated is)
  where
    by : IsAlone Annotate (judged named inputs it) Accepted text → IsAnnotated named inputs text
    by (IsRight _ with_source) = of_text law named inputs it text one with_source

-- an accepted end where the annotated source is asked for is the report with that source
of_end : CommentsComeOut → (named : FileNames) (inputs : Inputs) (it : ProgramIsRead named inputs) (text : List ℕ)
    → named.asked ≡ Annotate → length named.sources ≡ 1
    → IsEnd named inputs.saved (judged named inputs it) Accepted text
    → IsAnnotated named inputs text
of_end law named inputs it text annotated one (SavedJudged file _ _ there few is) =
    absurd (subst (λ (q : Question). IsOfSaved q (judged named inputs it) inputs.saved Accepted text) annotated is)
of_end law named inputs it text annotated one (AnsweredAlone _ _ none is) =
    of_alone law named inputs it text named.asked annotated one is

-- what is accepted behind lattices that were read is the report with the annotated source
of_units : CommentsComeOut → (named : FileNames) (inputs : Inputs) (lattices : List LatticeView)
    → LatticesRead named.wide inputs.lattice lattices
    → (text : List ℕ) → named.asked ≡ Annotate → length named.sources ≡ 1 → OfUnits named inputs lattices Accepted text
    → IsAnnotated named inputs text
of_units law named inputs lattices read text annotated one
    (PreludeRead before marks _ _ are (SourcesRead units _ _ parse counted end)) =
    of_end law named inputs (record {
      lattices = lattices;
      read = read;
      before = before;
      marks = marks;
      are = are;
      units = units;
      parse = parse;
      counted = counted;
    }) text annotated one end

of_files_read : CommentsComeOut → (named : FileNames) (inputs : Inputs) (text : List ℕ) → named.asked ≡ Annotate
    → length named.sources ≡ 1 → OfFiles named inputs Accepted text → IsAnnotated named inputs text
of_files_read law named inputs text annotated one (LatticeRead lattices _ _ read units) =
    of_units law named inputs lattices read text annotated one units

some_task : {x y : Task} → Some x ≡ Some y → x ≡ y
some_task e = cc

some_names : {x y : FileNames} → Some x ≡ Some y → x ≡ y
some_names e = cc

-- an accepted text with the annotated source is the report and the source with comments
pub annotated_gives_the_source : CommentsComeOut → AnnotatedGivesTheSource
annotated_gives_the_source law words names inputs text means (WithMeaning task _ _ is outcome) =
    by (some_task (sym is ∙ means)) outcome
  where
    one : length names.sources ≡ 1
    one = annotated_names_one words names means

    by : task ≡ Ask Annotate names → OfTask inputs task Accepted text
        → IsAnnotated (of_files names Annotate) inputs text
    by same (OfGenerated number _ _ made _) =
        absurd (let no : Generate number ≡ Ask Annotate names = sym made ∙ same in cc)
    by same (OfProgram named _ _ is_named files) =
        let e : named ≡ of_files names Annotate = some_names (sym is_named ∙ ap names_of same) in
        subst (λ (n : FileNames). IsAnnotated n inputs text) e
        (of_files_read law named inputs text (ap (λ (n : FileNames). n.asked) e)
        (ap (λ (n : FileNames). length n.sources) e ∙ one) files)
