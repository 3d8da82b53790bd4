-- A certificate that is written, checked over the same files.
use Rattle.std.proofs.Common.{◌≡◌, ℕ, zero, suc, ◌≤◌, List, [], ◌∷◌, length, Some, refl, sym, subst, ap, ◌∙◌}
use Rattle.lattice_core.specs.Order.{IsOrder}
use Rattle.lattice_core.specs.View.{LatticeView, AreLattices, orders_of}
use Rattle.c_types.specs.Sources.{UnitRead}
use Rattle.index_words.specs.Marks.{IndexMark}
use Rattle.certificate_answers.specs.Laws.{AreOrders, WrittenReads}
use Rattle.certificate_checks.specs.declared.judging.Verdict.TheVariants.{Holds}
use Rattle.certificate_checks.specs.Texts.{verdict_text}
use Rattle.cqual_words.specs.Words.{FileNames as Names, Certify, Verify, Task, Ask, Generate}
use Rattle.lattice_file.proofs.Built.{built_lattices}
use Rattle.cqual_tool.specs.declared.status.Status.TheVariants.{Accepted, CertificateHolds}
use Rattle.cqual_tool.specs.Inputs.{Inputs}
use Rattle.cqual_tool.specs.Words.{FileNames, of_files, names_of}
use Rattle.cqual_tool.specs.Outcome.{AreBefore, NoPrelude, OnePrelude, ProgramIsRead, AnsweredAlone, SavedJudged, Certified, Proving, saved_limit}
use Rattle.cqual_tool.specs.Outcome.{SourcesRead, PreludeRead, OfFiles, LatticeRead, OfTask, OfProgram, OfGenerated, Outcome, WithMeaning}
use Rattle.answer_laws.specs.Laws.{ProgramsAreOwned, CertifiedIsVerified, judged}

-- the orders of lattices are orders
are_orders : (lattices : List LatticeView) → AreLattices lattices → AreOrders (orders_of lattices)
are_orders [] are n order there = absurd cc
are_orders (view ∷ lattices) are zero order there =
    let same : view.order ≡ order = cc in subst IsOrder same (are 0 view refl).ordered
are_orders (view ∷ lattices) are (suc n) order there = are_orders lattices (λ m. are (suc m)) n order there

-- what is read before the sources is the same where the certificate is checked
before_on : (names : Names) (file : List ℕ) (inputs : Inputs) (text : List ℕ) (lattices : List LatticeView)
    (before : List UnitRead)
    (marks : List IndexMark) → AreBefore (of_files names Certify) inputs lattices before marks
    → AreBefore (of_files names (Verify file)) (record inputs { saved = text }) lattices before marks
before_on names file inputs text lattices _ _ (NoPrelude none) = NoPrelude none
before_on names file inputs text lattices _ _ (OnePrelude name unit marks is reads) =
    OnePrelude name unit marks is reads

module _ (owned : ProgramsAreOwned) (law : WrittenReads) (names : Names) (file : List ℕ) (inputs : Inputs)
    (text : List ℕ)
    (few : length text ≤ saved_limit) where
  of_files_certified : OfFiles (of_files names Certify) inputs Accepted text
      → OfFiles (of_files names (Verify file)) (record inputs { saved = text }) CertificateHolds (verdict_text Holds)
  of_files_certified (LatticeRead lattices _ _ read (PreludeRead before marks _ _ are
      (SourcesRead units _ _ parse counted (AnsweredAlone _ _ none (Certified _ accepted is))))) =
      let it : ProgramIsRead (of_files names Certify) inputs = record {
        lattices = lattices;
        read = read;
        before = before;
        marks = marks;
        are = are;
        units = units;
        parse = parse;
        counted = counted;
      } in
      let of = owned (of_files names Certify) inputs it in
      let sys = (judged (of_files names Certify) inputs it).system in
      LatticeRead lattices CertificateHolds (verdict_text Holds) read (PreludeRead before marks CertificateHolds
      (verdict_text Holds) (before_on names file inputs text lattices before marks are)
      (SourcesRead units CertificateHolds (verdict_text Holds) parse (record {
        shaped = counted.shaped;
        few_variables = counted.few_variables;
        few_constraints = counted.few_constraints;
      }) (SavedJudged file CertificateHolds (verdict_text Holds) refl few (Proving (law sys (orders_of lattices) text
      of.0 (are_orders lattices (built_lattices read.read.blocks lattices read.read.built)) accepted is) accepted))))
  of_files_certified (LatticeRead lattices _ _ read
      (PreludeRead before marks _ _ are (SourcesRead units _ _ parse counted (SavedJudged name _ _ there short is)))) =
      absurd is

some_task : {x y : Task} → Some x ≡ Some y → x ≡ y
some_task e = cc

some_names : {x y : FileNames} → Some x ≡ Some y → x ≡ y
some_names e = cc

-- the certificate that is written of an accepted program holds, where it is checked over the same files
pub certified_is_verified : ProgramsAreOwned → WrittenReads → CertifiedIsVerified
certified_is_verified owned law words others names certificate inputs text means other few
    (WithMeaning task _ _ is outcome) =
    by (some_task (sym is ∙ means)) outcome
  where
    by : task ≡ Ask Certify names → OfTask inputs task Accepted text
        → Outcome others (record inputs { saved = text }) CertificateHolds (verdict_text Holds)
    by same (OfGenerated number _ _ made _) =
        absurd (let not_so : Generate number ≡ Ask Certify names = sym made ∙ same in cc)
    by same (OfProgram named _ _ is_named read) =
        let e : named ≡ of_files names Certify = some_names (sym is_named ∙ ap names_of same) in
        WithMeaning (Ask (Verify certificate) names) CertificateHolds (verdict_text Holds) other
        (OfProgram (of_files names (Verify certificate)) CertificateHolds (verdict_text Holds) refl
        (of_files_certified owned law names certificate inputs text few
        (subst (λ (n : FileNames). OfFiles n inputs Accepted text) e read)))
