-- The outcome is one.
use Rattle.std.proofs.Common.{◌≡◌, ℕ, ◌<◌, inl, inr, slice_get, Bool, true, false, List, [], ◌∷◌, ◌++◌, length, Option, Some, None, refl, sym, ◌∙◌, ap, subst, arith}
use Rattle.std.specs.Prelude.{codes}
use Rattle.qual_base.proofs.Tests.{in_order}
use Rattle.lattice_core.specs.Order.{IsLattice}
use Rattle.lattice_core.specs.View.{LatticeView, AreLattices, orders_of}
use Rattle.lattice_core.specs.Names.{words_of}
use Rattle.c_reading.specs.UnitLaws.{OneUnitAtMost}
use Rattle.c_types.specs.Sources.{UnitRead}
use Rattle.index_words.specs.Marks.{IndexMark}
use Rattle.path_checker.specs.declared.report_checks.judging.Checked.TheVariants.{Hold, Bad}
use Rattle.path_checker.specs.ReportChecks.Texts.{checked_text}
use Rattle.annotate.specs.Reports.{IsJudgedWith, RejectedWith}
use Rattle.flow_graph.specs.Unfolding.{IsAccepted}
use Rattle.certificate_answers.specs.Laws.{OneCertificate, OneVerdict}
use Rattle.certificate_reader.specs.Laws.{IsBounded}
use Rattle.certificate_checks.specs.declared.judging.Verdict.{Verdict}
use Rattle.certificate_checks.specs.declared.judging.Verdict.TheVariants.{Holds, Fails, Unread}
use Rattle.certificate_checks.specs.Checks.{ComesTo as CertificateComesTo}
use Rattle.certificate_checks.specs.Texts.{verdict_text}
use Rattle.flow_query.specs.Answers.{IsWho, Named, NotNamed}
use Rattle.flow_graph.specs.declared.constraint.Constraint.{Constraint}
use Rattle.flow_graph.specs.System.{System}
use Rattle.sig_writer.specs.Laws.{OneText}
use Rattle.sig_writer.specs.Signatures.{Refusal, first_refusal, lines_of}
use Rattle.sig_writer.specs.Suits.{IsFirstShared}
use Rattle.generated_source.specs.Source.{generated_text, lattice_text}
use Rattle.generated_source.specs.Summary.{summary_text}
use Rattle.cqual_words.specs.Words.{Question, Infer, Annotate, Check, Certify, Verify, Who, Sign, Task, Generate}
use Rattle.lattice_file.proofs.Built.{built_lattices}
use Rattle.cq_prelude.specs.declared.fault.PreludeFault.{PreludeFault}
use Rattle.cqual_tool.specs.declared.status.Status.{Status}
use Rattle.cqual_tool.specs.declared.status.Status.TheVariants.{Malformed}
use Rattle.cqual_tool.specs.Statuses.{verdict_status}
use Rattle.cqual_tool.specs.Words.{FileNames, names_of}
use Rattle.cqual_tool.specs.Texts.{no_signature_at}
use Rattle.annotate.specs.Texts.{place_text}
use Rattle.cqual_tool.specs.Inputs.{Inputs, files_with}
use Rattle.cqual_tool.specs.Programs.{Judging, judging_of}
use Rattle.cqual_tool.specs.Outcome.{source_limit, total_limit, made_names, sources_of, sum_status, LatticesRead, PreludeFails, AreBefore, AreCounted, NoPrelude, OnePrelude, SourcesParse, IsReport, IsRight, IsWrong, IsCertified, Certified, Uncertified, IsChecked, Holding, Failing, IsVerified, Proving, Breaking, NoProof, IsAnswered, Answering, Unnamed, IsSigned, NoLattice, Shared, Unsigned, Unwritable, Signed, IsFoundOf, refusal_line, IsAlone, IsOfSaved, IsEnd, AnsweredAlone, SavedTooLarge, SavedJudged, OfSources, NotParsed, NotCounted, SourcesRead, OfUnits, PreludeTooLarge, PreludeRefused, PreludeRead, OfFiles, LatticeTooLarge, LatticeRefused, LatticeRead, IsSummed, SummedUp, OfMade, MadeLatticesRefused, MadeRead, OfTask, OfProgram, OfGenerated, WithoutMeaning, WithMeaning}
use Rattle.outcome_laws.specs.Outcomes.{HasOneText, OneOutcome}
use Rattle.outcome_laws.proofs.Bounds.{AreFew, bounded, read_few}
use Rattle.outcome_laws.proofs.Lattices.{one_reading_of_lattices}
use Rattle.outcome_laws.proofs.Judging.{one_judgement, one_error_count}
use Rattle.outcome_laws.proofs.Checking.{one_check}
use Rattle.outcome_laws.proofs.Preludes.{one_prelude}
use Rattle.outcome_laws.proofs.Programs.{SameIndices, judged_same}
use Rattle.outcome_laws.proofs.Sources.{sources_once, never_fail, never_uncounted}

abbrev Same : Status → Status → List ℕ → List ℕ → Type 0
Same s t x y = (s ≡ t) × (HasOneText s → x ≡ y)

-- where a text is free
malformed : (x y : List ℕ) → Same Malformed Malformed x y
malformed x y = (refl, λ text. absurd text)

-- the report of what is inferred

module _ (unit : Option ℕ) (it : Judging) (are : AreLattices it.scene.lattices) where
  report_once : (s t : Status) (x y : List ℕ) → IsReport unit it s x → IsReport unit it t y → Same s t x y
  report_once _ _ _ _ (IsRight x h) (IsRight y k) =
      (refl, λ text. (one_judgement it.scene it.system unit are true x h).one_text refl y k)
  report_once _ _ _ _ (IsRight x h) (IsWrong y k) =
      let e = (one_judgement it.scene it.system unit are true x h).only false y k in absurd cc
  report_once _ _ _ _ (IsWrong x h) (IsRight y k) =
      let e = (one_judgement it.scene it.system unit are false x h).only true y k in absurd cc
  report_once _ _ _ _ (IsWrong x h) (IsWrong y k) = (refl, λ text. absurd text)

-- a program that is accepted has no report of one that is not
never_both : (it : Judging) (text : List ℕ) → IsAccepted it.system (orders_of it.scene.lattices)
    → IsJudgedWith it.scene it.system None false text → ⊥
never_both it _ accepted (RejectedWith text is) = is.rejected accepted

-- the certificate, or the report where there is none
certified_once : OneCertificate → (it : Judging) (s t : Status) (x y : List ℕ) → IsCertified it s x → IsCertified it t y
    → Same s t x y
certified_once law it _ _ _ _ (Certified x accepted h) (Certified y too k) =
    (refl, λ text. law it.system (orders_of it.scene.lattices) x y h k)
certified_once law it _ _ _ _ (Certified x accepted h) (Uncertified y k) = absurd (never_both it y accepted k)
certified_once law it _ _ _ _ (Uncertified x h) (Certified y accepted k) = absurd (never_both it x accepted h)
certified_once law it _ _ _ _ (Uncertified x h) (Uncertified y k) = (refl, λ text. absurd text)

-- a name is declared or not, and not both
never_named : (it : Judging) (name text : List ℕ) → IsWho it.scene it.system name (Some text)
    → IsWho it.scene it.system name None → ⊥
never_named it name _ (Named var vars text is texts) (NotNamed none) =
    absurd (let e : var ∷ vars ≡ [] = sym is ∙ none in cc)

-- who reaches a name
answered_once : (it : Judging) (name : List ℕ) (s t : Status) (x y : List ℕ) → IsAnswered it name s x
    → IsAnswered it name t y → Same s t x y
answered_once it name _ _ _ _ (Answering x h) (Answering y k) = (refl, λ text. absurd text)
answered_once it name _ _ _ _ (Answering x h) (Unnamed k) = absurd (never_named it name x h k)
answered_once it name _ _ _ _ (Unnamed h) (Answering y k) = absurd (never_named it name y k h)
answered_once it name _ _ _ _ (Unnamed h) (Unnamed k) = (refl, λ text. refl)

-- the signatures, or why there are none

-- the first constraint with a variable of nobody is one
first_shared_once : (sys : System) (n m : ℕ) → IsFirstShared sys n → IsFirstShared sys m → n ≡ m
first_shared_once sys n m one other = elim (in_order n m) [
  | inl lt ↦ absurd (other.first n one.link lt one.there one.shared)
  | inr more ↦ elim more [
    | inl e ↦ e
    | inr lt ↦ absurd (one.first m other.link lt other.there other.shared)
  ]
]

module _ (one_text : OneText) (it : Judging) (are : AreLattices it.scene.lattices) where
  lattice_is : (lattice : LatticeView) → it.scene.lattices ≡ lattice ∷ [] → IsLattice lattice.order
  lattice_is lattice is = are 0 lattice (ap (λ (ls : List LatticeView). slice_get ls 0) is)

  signed_once : (s t : Status) (x y : List ℕ) → IsSigned it s x → IsSigned it t y → Same s t x y
  signed_once _ _ _ _ (NoLattice none) (NoLattice none_too) = (refl, λ text. refl)
  signed_once _ _ _ _ (NoLattice none) (Shared m d one first there) = absurd (none one)
  signed_once _ _ _ _ (NoLattice none) (Unsigned y suits is) = absurd (none suits.one)
  signed_once _ _ _ _ (NoLattice none) (Unwritable l found refusal suits is accepted of some) = absurd (none suits.one)
  signed_once _ _ _ _ (NoLattice none) (Signed l found suits is accepted of whole) = absurd (none suits.one)
  signed_once _ _ _ _ (Shared n c one first there) (NoLattice none) = absurd (none one)
  signed_once _ _ _ _ (Shared n c one first there) (Shared m d one_too first_too there_too) =
      let same = first_shared_once it.system n m first first_too in
      let both : Some c ≡ Some d = sym there ∙ ap (λ (k : ℕ). slice_get it.system.constraints k) same ∙ there_too in
      let equal : c ≡ d = cc in (
        refl,
        λ text. ap
            (λ (k : Constraint). no_signature_at (place_text it.scene k.span.unit k.span.from) (codes "U2")) equal,
      )
  signed_once _ _ _ _ (Shared n c one first there) (Unsigned y suits is) =
      absurd (suits.own n first.link first.there first.shared)
  signed_once _ _ _ _ (Shared n c one first there) (Unwritable l found refusal suits is accepted of some) =
      absurd (suits.own n first.link first.there first.shared)
  signed_once _ _ _ _ (Shared n c one first there) (Signed l found suits is accepted of whole) =
      absurd (suits.own n first.link first.there first.shared)
  signed_once _ _ _ _ (Unsigned x suits is) (NoLattice none) = absurd (none suits.one)
  signed_once _ _ _ _ (Unsigned x suits is) (Shared m d one first there) =
      absurd (suits.own m first.link first.there first.shared)
  signed_once _ _ _ _ (Unsigned x suits is) (Unsigned y suits_too is_too) = (refl, λ text. absurd text)
  signed_once _ _ _ _ (Unsigned x suits is) (Unwritable l found refusal suits_too names accepted of some) =
      absurd (never_both it x accepted is)
  signed_once _ _ _ _ (Unsigned x suits is) (Signed l found suits_too names accepted of whole) =
      absurd (never_both it x accepted is)
  signed_once _ _ _ _ (Unwritable l found refusal suits is accepted of some) (NoLattice none) = absurd (none suits.one)
  signed_once _ _ _ _ (Unwritable l found refusal suits is accepted of some) (Shared m d one first there) =
      absurd (suits.own m first.link first.there first.shared)
  signed_once _ _ _ _ (Unwritable l found refusal suits is accepted of some) (Unsigned y suits_too rejected) =
      absurd (never_both it y accepted rejected)
  signed_once _ _ _ _ (Unwritable l found refusal suits is accepted of some)
      (Unwritable k other reason suits_too is_too accepted_too of_too some_too) =
      let lists : l ∷ [] ≡ k ∷ [] = sym is ∙ is_too in
      let same : l ≡ k = cc in
      let both = one_text it.system k it.externals found other (lattice_is k is_too)
      (subst (λ (v : LatticeView). IsFoundOf it v found) same of) of_too in
      let reasons : Some refusal ≡ Some reason =
      sym (subst (λ (v : LatticeView). first_refusal found v it.externals ≡ Some refusal) same some) ∙ both.0
      ∙ some_too in
      let equal : refusal ≡ reason = cc in
      (refl, λ text. ap (refusal_line it.scene) equal)
  signed_once _ _ _ _ (Unwritable l found refusal suits is accepted of some)
      (Signed k other suits_too is_too accepted_too of_too whole) =
      let lists : l ∷ [] ≡ k ∷ [] = sym is ∙ is_too in
      let same : l ≡ k = cc in
      let both = one_text it.system k it.externals found other (lattice_is k is_too)
      (subst (λ (v : LatticeView). IsFoundOf it v found) same of) of_too in
      let never : Some refusal ≡ None =
      sym (subst (λ (v : LatticeView). first_refusal found v it.externals ≡ Some refusal) same some) ∙ both.0 ∙ whole in
      absurd cc
  signed_once _ _ _ _ (Signed l found suits is accepted of whole) (NoLattice none) = absurd (none suits.one)
  signed_once _ _ _ _ (Signed l found suits is accepted of whole) (Shared m d one first there) =
      absurd (suits.own m first.link first.there first.shared)
  signed_once _ _ _ _ (Signed l found suits is accepted of whole) (Unsigned y suits_too rejected) =
      absurd (never_both it y accepted rejected)
  signed_once _ _ _ _ (Signed l found suits is accepted of whole)
      (Unwritable k other reason suits_too is_too accepted_too of_too some) =
      let lists : k ∷ [] ≡ l ∷ [] = sym is_too ∙ is in
      let same : k ≡ l = cc in
      let both = one_text it.system l it.externals other found (lattice_is l is)
      (subst (λ (v : LatticeView). IsFoundOf it v other) same of_too) of in
      let never : Some reason ≡ None =
      sym (subst (λ (v : LatticeView). first_refusal other v it.externals ≡ Some reason) same some) ∙ both.0 ∙ whole in
      absurd cc
  signed_once _ _ _ _ (Signed l found suits is accepted of whole)
      (Signed k other suits_too is_too accepted_too of_too whole_too) =
      let lists : l ∷ [] ≡ k ∷ [] = sym is ∙ is_too in
      let same : l ≡ k = cc in
      let both = one_text it.system k it.externals found other (lattice_is k is_too)
      (subst (λ (v : LatticeView). IsFoundOf it v found) same of) of_too in
      (refl, λ text. ap (λ (v : LatticeView). lines_of found v it.externals) same ∙ both.1)

-- a saved report, and a saved certificate

-- a report that is checked comes to one status and one text
check_once : (it : Judging) (bytes : List ℕ) (s t : Status) (x y : List ℕ) → IsChecked it bytes s x
    → IsChecked it bytes t y → Same s t x y
check_once it bytes _ _ _ _ (Holding h never) (Holding k no_more) = (refl, λ text. refl)
check_once it bytes _ _ _ _ (Holding h never) (Failing line code k) =
    let e : Hold ≡ Bad line code = one_check it.system (orders_of it.scene.lattices) bytes Hold (Bad line code) h k in
    absurd cc
check_once it bytes _ _ _ _ (Failing line code h) (Holding k never) =
    let e : Bad line code ≡ Hold = one_check it.system (orders_of it.scene.lattices) bytes (Bad line code) Hold h k in
    absurd cc
check_once it bytes _ _ _ _ (Failing line code h) (Failing other tag k) = (
  refl,
  λ text. ap checked_text
      (one_check it.system (orders_of it.scene.lattices) bytes (Bad line code) (Bad other tag) h k),
)

-- what a verdict says
abbrev verdict_said : Verdict → Status → List ℕ → Type 0
verdict_said found s x = (s ≡ verdict_status found) × (x ≡ verdict_text found)

-- what is verified is the status and the text of a verdict that the certificate comes to
verdict_of : (it : Judging) (bytes : List ℕ) (s : Status) (x : List ℕ) → IsVerified it bytes s x
    → (found : Verdict) × CertificateComesTo it.system (orders_of it.scene.lattices) bytes found
    × verdict_said found s x
verdict_of it bytes _ _ (Proving h accepted) = (Holds, h, (refl, refl))
verdict_of it bytes _ _ (Breaking lattice rule h) = (Fails lattice rule, h, (refl, refl))
verdict_of it bytes _ _ (NoProof line code h) = (Unread line code, h, (refl, refl))

-- a certificate over bounded constraints and lattices comes to one status and one text, where its verdict is one
verified_once : OneVerdict → (it : Judging) → IsBounded it.system (orders_of it.scene.lattices)
    → (bytes : List ℕ) (s t : Status) (x y : List ℕ)
    → IsVerified it bytes s x → IsVerified it bytes t y → Same s t x y
verified_once law it bounds bytes s t x y h k =
    let one = verdict_of it bytes s x h in
    let other = verdict_of it bytes t y k in
    let same = law it.system (orders_of it.scene.lattices) bytes one.0 other.0 bounds one.1 other.1 in (
      one.2.0 ∙ ap verdict_status same ∙ sym other.2.0,
      λ text. one.2.1 ∙ ap verdict_text same ∙ sym other.2.1,
    )

module _ (one_certificate : OneCertificate) (one_verdict : OneVerdict) (one_text : OneText) (it : Judging)
    (are : AreLattices it.scene.lattices)
    (bounds : IsBounded it.system (orders_of it.scene.lattices)) where
  alone_once : (asked : Question) (s t : Status) (x y : List ℕ) → IsAlone asked it s x → IsAlone asked it t y
      → Same s t x y
  alone_once Infer s t x y h k = report_once None it are s t x y h k
  alone_once Annotate s t x y h k = report_once (Some 1) it are s t x y h k
  alone_once (Check file) s t x y h k = absurd h
  alone_once Certify s t x y h k = certified_once one_certificate it s t x y h k
  alone_once (Verify file) s t x y h k = absurd h
  alone_once (Who name) s t x y h k = answered_once it name s t x y h k
  alone_once Sign s t x y h k = signed_once one_text it are s t x y h k

  saved_once : (asked : Question) (saved : List ℕ) (s t : Status) (x y : List ℕ) → IsOfSaved asked it saved s x
      → IsOfSaved asked it saved t y
      → Same s t x y
  saved_once Infer saved s t x y h k = absurd h
  saved_once Annotate saved s t x y h k = absurd h
  saved_once (Check file) saved s t x y h k = check_once it saved s t x y h k
  saved_once Certify saved s t x y h k = absurd h
  saved_once (Verify file) saved s t x y h k = verified_once one_verdict it bounds saved s t x y h k
  saved_once (Who name) saved s t x y h k = absurd h
  saved_once Sign saved s t x y h k = absurd h

module _ (one_certificate : OneCertificate) (one_verdict : OneVerdict) (one_text : OneText) (named : FileNames)
    (saved : List ℕ) (it : Judging)
    (are : AreLattices it.scene.lattices) (bounds : IsBounded it.system (orders_of it.scene.lattices)) where
  end_once : (s t : Status) (x y : List ℕ) → IsEnd named saved it s x → IsEnd named saved it t y → Same s t x y
  end_once _ _ _ _ (AnsweredAlone s x none h) (AnsweredAlone t y none_too k) =
      alone_once one_certificate one_verdict one_text it are bounds named.asked s t x y h k
  end_once _ _ _ _ (AnsweredAlone s x none h) (SavedTooLarge file some over) = absurd cc
  end_once _ _ _ _ (AnsweredAlone s x none h) (SavedJudged file t y some within k) = absurd cc
  end_once _ _ _ _ (SavedTooLarge file some over) (AnsweredAlone t y none k) = absurd cc
  end_once _ _ _ _ (SavedTooLarge file some over) (SavedTooLarge other too above) = malformed _ _
  end_once _ _ _ _ (SavedTooLarge file some over) (SavedJudged other t y too within k) =
      absurd (omega (arith, over, within))
  end_once _ _ _ _ (SavedJudged file s x some within h) (AnsweredAlone t y none k) = absurd cc
  end_once _ _ _ _ (SavedJudged file s x some within h) (SavedTooLarge other too over) =
      absurd (omega (arith, over, within))
  end_once _ _ _ _ (SavedJudged file s x some within h) (SavedJudged other t y too fits k) =
      saved_once one_certificate one_verdict one_text it are bounds named.asked saved s t x y h k

-- the sources

-- what comes of a program is one
abbrev EndsOnce : (Judging → Status → List ℕ → Type 0) → Judging → Type 0
EndsOnce Ends it = (s t : Status) (x y : List ℕ) → Ends it s x → Ends it t y → Same s t x y

module _ (one_unit : OneUnitAtMost) (named : FileNames) (lattices : List LatticeView) (before : List UnitRead)
    (Ends : Judging → Status → List ℕ → Type 0)
    (number left : ℕ) (sources : List (List ℕ × List ℕ)) (marks said : List IndexMark) (same : SameIndices marks said)
    (once : (units : List UnitRead) → AreCounted named lattices marks units
    → EndsOnce Ends (judging_of named lattices marks units)) where
  behind : (units others : List UnitRead) → SourcesParse named.wide lattices number left sources units
      → SourcesParse named.wide lattices number left sources others
      → before ++ units ≡ before ++ others
  behind units others h k =
      ap (λ (us : List UnitRead). before ++ us)
      (sources_once one_unit named.wide lattices number left sources units others h k)

  sources_one : (s t : Status) (x y : List ℕ) → OfSources named lattices before marks Ends number left sources s x
      → OfSources named lattices before said Ends number left sources t y → Same s t x y
  sources_one _ _ _ _ (NotParsed x fails) (NotParsed y also) = malformed _ _
  sources_one _ _ _ _ (NotParsed x fails) (NotCounted units y parse refused) = malformed _ _
  sources_one _ _ _ _ (NotParsed x fails) (SourcesRead units t y parse counted k) =
      absurd (never_fail one_unit named.wide lattices number left sources units x parse fails)
  sources_one _ _ _ _ (NotCounted units x parse refused) (NotParsed y fails) = malformed _ _
  sources_one _ _ _ _ (NotCounted units x parse refused) (NotCounted others y also too) = malformed _ _
  sources_one _ _ _ _ (NotCounted units x parse refused) (SourcesRead others t y also counted k) =
      absurd (never_uncounted named lattices said marks (λ p. sym (same p)) (before ++ others) (before ++ units)
      (behind others units also parse) counted x refused)
  sources_one _ _ _ _ (SourcesRead units s x parse counted h) (NotParsed y fails) =
      absurd (never_fail one_unit named.wide lattices number left sources units y parse fails)
  sources_one _ _ _ _ (SourcesRead units s x parse counted h) (NotCounted others y also refused) =
      absurd (never_uncounted named lattices marks said same (before ++ units) (before ++ others)
      (behind units others parse also) counted y refused)
  sources_one _ _ _ _ (SourcesRead units s x parse counted h) (SourcesRead others t y also too k) =
      once (before ++ units) counted s t x y h
      (subst (λ (j : Judging). Ends j t y)
      (sym (judged_same named lattices marks said (before ++ units) (before ++ others) same
      (behind units others parse also))) k)

module _ (one_unit : OneUnitAtMost) (one_certificate : OneCertificate) (one_verdict : OneVerdict) (one_text : OneText)
    (named : FileNames)
    (inputs : Inputs)
    (lattices : List LatticeView) (are : AreLattices lattices) (few : AreFew lattices) where
  -- the prelude

  before_once : (one other : List UnitRead) (marks said : List IndexMark) → AreBefore named inputs lattices one marks →
      AreBefore named inputs lattices other said → (one ≡ other) × SameIndices marks said
  before_once _ _ _ _ (NoPrelude none) (NoPrelude none_too) = (refl, λ p. refl)
  before_once _ _ _ _ (NoPrelude none) (OnePrelude file unit said some k) = absurd cc
  before_once _ _ _ _ (OnePrelude file unit marks some h) (NoPrelude none) = absurd cc
  before_once _ _ _ _ (OnePrelude file unit marks some h) (OnePrelude name other said too k) =
      let is = one_prelude one_unit named.wide h.words (words_of lattices) inputs.prelude unit marks h.mean h.is in (
        ap (λ (u : UnitRead). u ∷ []) (is.only k.words other said k.mean k.is),
        is.numbers k.words other said k.mean k.is,
      )

  before_fits : (before : List UnitRead) (marks : List IndexMark) (file : List ℕ) → named.prelude ≡ Some file
      → source_limit < length inputs.prelude →
      AreBefore named inputs lattices before marks → ⊥
  before_fits _ _ file some over (NoPrelude none) = absurd cc
  before_fits _ _ file some over (OnePrelude name unit marks too h) =
      let within = h.within in
      omega (arith, over, within)

  before_reads : (before : List UnitRead) (marks : List IndexMark) (file : List ℕ) (fault : PreludeFault)
      → named.prelude ≡ Some file →
      PreludeFails named.wide lattices inputs.prelude fault → AreBefore named inputs lattices before marks → ⊥
  before_reads _ _ file fault some fails (NoPrelude none) = absurd cc
  before_reads _ _ file fault some fails (OnePrelude name unit marks too h) =
      (one_prelude one_unit named.wide h.words (words_of lattices) inputs.prelude unit marks h.mean h.is).sound
      fails.words fault fails.mean fails.reason fails.refused

  units_one : (s t : Status) (x y : List ℕ) → OfUnits named inputs lattices s x → OfUnits named inputs lattices t y
      → Same s t x y
  units_one _ _ _ _ (PreludeTooLarge file some over) (PreludeTooLarge name too above) = malformed _ _
  units_one _ _ _ _ (PreludeTooLarge file some over) (PreludeRefused name fault too fails) = malformed _ _
  units_one _ _ _ _ (PreludeTooLarge file some over) (PreludeRead before marks t y reads k) =
      absurd (before_fits before marks file some over reads)
  units_one _ _ _ _ (PreludeRefused file fault some fails) (PreludeTooLarge name too over) = malformed _ _
  units_one _ _ _ _ (PreludeRefused file fault some fails) (PreludeRefused name other too also) = malformed _ _
  units_one _ _ _ _ (PreludeRefused file fault some fails) (PreludeRead before marks t y reads k) =
      absurd (before_reads before marks file fault some fails reads)
  units_one _ _ _ _ (PreludeRead before marks s x reads h) (PreludeTooLarge name too over) =
      absurd (before_fits before marks name too over reads)
  units_one _ _ _ _ (PreludeRead before marks s x reads h) (PreludeRefused name fault too fails) =
      absurd (before_reads before marks name fault too fails reads)
  units_one _ _ _ _ (PreludeRead before marks s x reads h) (PreludeRead ahead said t y also k) =
      let same = before_once before ahead marks said reads also in
      sources_one one_unit named lattices before (IsEnd named inputs.saved) 1 total_limit
      (sources_of named inputs) marks said same.1
      (λ units counted.
      end_once one_certificate one_verdict one_text named inputs.saved (judging_of named lattices marks units) are
      (bounded (judging_of named lattices marks units).system lattices few counted.few_constraints)) s t x y h
      (subst (λ (units : List UnitRead).
      OfSources named lattices units said (IsEnd named inputs.saved) 1 total_limit (sources_of named inputs) t y)
      (sym same.0) k)

-- the lattices

read_lattices : (wide : Bool) (bytes : List ℕ) (lattices : List LatticeView) → LatticesRead wide bytes lattices
    → AreLattices lattices
read_lattices wide bytes lattices h = built_lattices h.read.blocks lattices h.read.built

module _ (one_unit : OneUnitAtMost) (one_certificate : OneCertificate) (one_verdict : OneVerdict)
    (one_text : OneText) where
  files_one : (named : FileNames) (inputs : Inputs) (s t : Status) (x y : List ℕ) → OfFiles named inputs s x
      → OfFiles named inputs t y → Same s t x y
  files_one named inputs _ _ _ _ (LatticeTooLarge over) (LatticeTooLarge above) = malformed _ _
  files_one named inputs _ _ _ _ (LatticeTooLarge over) (LatticeRefused fault fails) = malformed _ _
  files_one named inputs _ _ _ _ (LatticeTooLarge over) (LatticeRead lattices t y read k) =
      let within = read.within in
      absurd (omega (arith, over, within))
  files_one named inputs _ _ _ _ (LatticeRefused fault fails) (LatticeTooLarge over) = malformed _ _
  files_one named inputs _ _ _ _ (LatticeRefused fault fails) (LatticeRefused other also) = malformed _ _
  files_one named inputs _ _ _ _ (LatticeRefused fault fails) (LatticeRead lattices t y read k) =
      absurd
      ((one_reading_of_lattices named.wide inputs.lattice lattices read.read).sound fault fails.reason fails.refused)
  files_one named inputs _ _ _ _ (LatticeRead lattices s x read h) (LatticeTooLarge over) =
      let within = read.within in
      absurd (omega (arith, over, within))
  files_one named inputs _ _ _ _ (LatticeRead lattices s x read h) (LatticeRefused fault fails) =
      absurd
      ((one_reading_of_lattices named.wide inputs.lattice lattices read.read).sound fault fails.reason fails.refused)
  files_one named inputs _ _ _ _ (LatticeRead lattices s x read h) (LatticeRead others t y also k) =
      let same : lattices ≡ others =
      (one_reading_of_lattices named.wide inputs.lattice lattices read.read).only others also.read in
      units_one one_unit one_certificate one_verdict one_text named inputs lattices
      (read_lattices named.wide inputs.lattice lattices read)
      (read_few named.wide inputs.lattice lattices read) s t x y h
      (subst (λ (ls : List LatticeView). OfUnits named inputs ls t y) (sym same) k)

  -- a source that the tool makes itself

  sum_once : (number : ℕ) (it : Judging) (s t : Status) (x y : List ℕ) → IsSummed number it s x → IsSummed number it t y
      → Same s t x y
  sum_once number it _ _ _ _ (SummedUp errors h right wrong) (SummedUp others k good bad) =
      let same : errors ≡ others =
      one_error_count it.scene it.system (length it.system.constraints) errors others h k in (
        ap sum_status same,
        λ text. ap (λ (n : ℕ). summary_text number (record {
          variables = length it.scene.positions;
          constraints = length it.system.constraints;
          sites = length it.system.sites;
          errors = n;
        })) same,
      )

  module _ (number : ℕ) where
    made_one : (s t : Status) (x y : List ℕ) → OfMade number s x → OfMade number t y → Same s t x y
    made_one _ _ _ _ (MadeLatticesRefused fault fails) (MadeLatticesRefused other also) = malformed _ _
    made_one _ _ _ _ (MadeLatticesRefused fault fails) (MadeRead lattices t y read k) =
        absurd ((one_reading_of_lattices false lattice_text lattices read.read).sound fault fails.reason fails.refused)
    made_one _ _ _ _ (MadeRead lattices s x read h) (MadeLatticesRefused fault fails) =
        absurd ((one_reading_of_lattices false lattice_text lattices read.read).sound fault fails.reason fails.refused)
    made_one _ _ _ _ (MadeRead lattices s x read h) (MadeRead others t y also k) =
        let same : lattices ≡ others =
        (one_reading_of_lattices false lattice_text lattices read.read).only others also.read in
        let files = files_with made_names.sources (generated_text number ∷ []) in
        sources_one one_unit made_names lattices [] (IsSummed number) 1 total_limit files [] [] (λ p. refl)
        (λ units counted. sum_once number (judging_of made_names lattices [] units)) s t x y h
        (subst (λ (ls : List LatticeView). OfSources made_names ls [] []
        (IsSummed number) 1 total_limit files t y) (sym same) k)

  -- what is asked

  task_one : (inputs : Inputs) (task : Task) (s t : Status) (x y : List ℕ) → OfTask inputs task s x
      → OfTask inputs task t y → Same s t x y
  task_one inputs task _ _ _ _ (OfProgram named s x names h) (OfProgram other t y also k) =
      let both : Some named ≡ Some other = sym names ∙ also in
      let same : named ≡ other = cc in
      files_one named inputs s t x y h (subst (λ (n : FileNames). OfFiles n inputs t y) (sym same) k)
  task_one inputs task _ _ _ _ (OfProgram named s x names h) (OfGenerated number t y is k) =
      let none : None ≡ Some named = sym (ap names_of is) ∙ names in absurd cc
  task_one inputs task _ _ _ _ (OfGenerated number s x is h) (OfProgram named t y names k) =
      let none : None ≡ Some named = sym (ap names_of is) ∙ names in absurd cc
  task_one inputs task _ _ _ _ (OfGenerated number s x is h) (OfGenerated other t y also k) =
      let both : Generate number ≡ Generate other = sym is ∙ also in
      let same : number ≡ other = cc in
      made_one number s t x y h (subst (λ (n : ℕ). OfMade n t y) (sym same) k)

-- words and the bytes of the files have one status, and one text where that status has one
pub one_outcome : OneUnitAtMost → OneCertificate → OneVerdict → OneText → OneOutcome
one_outcome one_unit one_certificate one_verdict one_text words inputs _ _ _ _ (WithoutMeaning none)
    (WithoutMeaning none_too) =
    (refl, λ text. refl)
one_outcome one_unit one_certificate one_verdict one_text words inputs _ _ _ _ (WithoutMeaning none)
    (WithMeaning task t y means k) =
    absurd cc
one_outcome one_unit one_certificate one_verdict one_text words inputs _ _ _ _ (WithMeaning task s x means h)
    (WithoutMeaning none) =
    absurd cc
one_outcome one_unit one_certificate one_verdict one_text words inputs _ _ _ _ (WithMeaning task s x means h)
    (WithMeaning other t y also k) =
    let both : Some task ≡ Some other = sym means ∙ also in
    let same : task ≡ other = cc in
    task_one one_unit one_certificate one_verdict one_text inputs task s t x y h
    (subst (λ (it : Task). OfTask inputs it t y) (sym same) k)
