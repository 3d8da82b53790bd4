-- Programs that are judged, and reports that are checked.
use Rattle.std.proofs.Common.{◌≡◌, ℕ, Bool, true, false, List, Some, None, refl, sym, subst}
use Rattle.std.specs.Prelude.{IfOk, IfSome, option_map}
use Rattle.std.specs.declared.alloc.Global.{Global}
use Rattle.std.specs.declared.option.Option.{Option}
use Rattle.std.specs.declared.result.Result.{Result}
use Rattle.std.specs.declared.vec.Vec.{Vec}
use Rattle.std.proofs.lemmas.Result.{IfOk-weaker}
use Rattle.lattice_core.specs.View.{LatticeView, orders_of}
use Rattle.flow_graph.specs.System.{System}
use Rattle.flow_graph.specs.Unfolding.{IsAccepted}
use Rattle.annotate.specs.Reports.{IsJudgedWith, AcceptedWith}
use Rattle.certificate_maker.specs.Certified.{IsCertificate}
use Rattle.certificate_checks.specs.declared.judging.Verdict.{Verdict}
use Rattle.certificate_checks.specs.declared.judging.Verdict.TheVariants.{Holds, Fails, Unread}
use Rattle.certificate_checks.specs.Checks.{ComesTo as CertificateComesTo}
use Rattle.certificate_checks.specs.Texts.{verdict_text}
use Rattle.flow_query.specs.Answers.{IsWho}
use Rattle.path_checker.specs.declared.report_checks.judging.Checked.{Checked}
use Rattle.path_checker.specs.declared.report_checks.judging.Checked.TheVariants.{Hold, Bad}
use Rattle.path_checker.specs.ReportChecks.Checks.{ComesTo}
use Rattle.path_checker.specs.ReportChecks.Texts.{checked_text}
use Rattle.cqual_tool.specs.declared.status.Status.{Status}
use Rattle.cqual_tool.specs.declared.status.Status.TheVariants.{Accepted, Rejected, PathsHold, PathBad, CertificateHolds, CertificateBad, Answered, NoName, NoSignature, Malformed, BadWords, ReadFault, WriteFault, NoMemory}
use Rattle.cqual_tool.specs.declared.answer.Answer.{Answer}
use Rattle.cqual_tool.specs.Statuses.{status_of, checked_status, verdict_status}
use Rattle.cqual_tool.specs.Programs.{Judging}
use Rattle.cqual_tool.specs.Texts.{no_name_line}
use Rattle.cqual_tool.specs.Outcome.{IsReport, IsRight, IsWrong, IsCertified, Certified, Uncertified, IsChecked, Holding, Failing}
use Rattle.cqual_tool.specs.Outcome.{IsVerified, Proving, Breaking, NoProof, IsAnswered, Answering, Unnamed, IsDecided}
use Rattle.cqual_tool.proofs.Outcomes.{at_equal}

judged : (unit : Option ℕ) (it : Judging) (accepted : Bool) (text : List ℕ)
    → IsJudgedWith it.scene it.system unit accepted text → IsReport unit it (status_of accepted) text
judged unit it true text is = IsRight text is
judged unit it false text is = IsWrong text is

-- what was judged with a scene is the report of that scene, with the status of being accepted or not
pub judged_as : (unit : Option ℕ) (it : Judging) (sys : System) (accepted : Bool) (status : Status)
    (text words : List ℕ)
    → it.system ≡ sys → status ≡ status_of accepted → text ≡ words → IsJudgedWith it.scene sys unit accepted words
    → IsReport unit it status text
judged_as unit it sys accepted status text words system same spelled is =
    at_equal (IsReport unit it) status (status_of accepted) text words same spelled
    (judged unit it accepted words
    (subst (λ (s : System). IsJudgedWith it.scene s unit accepted words) (sym system) is))

-- the report of a program that is not accepted, where its certificate is asked for
pub uncertified : (it : Judging) (status : Status) (text : List ℕ)
    → (IsAccepted it.system (orders_of it.scene.lattices) → ⊥)
    → IsReport None it status text → IsCertified it status text
uncertified it Accepted text never (IsRight _ (AcceptedWith _ report is spelled)) = absurd (never is.accepted)
uncertified it Rejected text never (IsWrong _ is) = Uncertified text is
uncertified it PathsHold text never is = elim is [ ]
uncertified it PathBad text never is = elim is [ ]
uncertified it CertificateHolds text never is = elim is [ ]
uncertified it CertificateBad text never is = elim is [ ]
uncertified it Answered text never is = elim is [ ]
uncertified it NoName text never is = elim is [ ]
uncertified it NoSignature text never is = elim is [ ]
uncertified it Malformed text never is = elim is [ ]
uncertified it BadWords text never is = elim is [ ]
uncertified it ReadFault text never is = elim is [ ]
uncertified it WriteFault text never is = elim is [ ]
uncertified it NoMemory text never is = elim is [ ]

-- what is made of certificates, where there are some, and where there are none
pub certified_as : (it : Judging) (lattices : List LatticeView) (sys : System) (found : Option (Vec ℕ Global))
    (text : Vec ℕ Global)
    → it.scene.lattices ≡ lattices → sys ≡ it.system → found ≡ Some text
    → IfSome found (λ t. IsCertificate sys (orders_of lattices) t.items)
    → IfSome found (λ t. IsAccepted sys (orders_of lattices))
    → IsCertified it Accepted text.items
certified_as it lattices sys found text same system some written accepted =
    let is = subst
    (λ (o : Option (Vec ℕ Global)). IfSome o (λ t. IsCertificate sys (orders_of lattices) t.items)) some written in
    let holds =
    subst (λ (o : Option (Vec ℕ Global)). IfSome o (λ t. IsAccepted sys (orders_of lattices))) some accepted in
    Certified text.items
    (subst (λ (s : System). IsAccepted s (orders_of it.scene.lattices)) system
    (subst (λ (ls : List LatticeView). IsAccepted sys (orders_of ls)) (sym same) holds))
    (subst (λ (s : System). IsCertificate s (orders_of it.scene.lattices) text.items) system
    (subst (λ (ls : List LatticeView). IsCertificate sys (orders_of ls) text.items) (sym same) is))

-- where a program is not accepted, its plain report is the answer for a certificate that was asked for
pub uncertified_as : {E : Type 0} (it : Judging) (lattices : List LatticeView) (sys : System) (result : Result Answer E)
    → it.scene.lattices ≡ lattices → sys ≡ it.system → (IsAccepted sys (orders_of lattices) → ⊥)
    → IfOk result (λ answer. IsReport None it answer.status answer.text.items)
    → IfOk result (λ answer. IsCertified it answer.status answer.text.items)
uncertified_as it lattices sys result same system never is =
    let refuted = subst (λ (s : System). IsAccepted s (orders_of it.scene.lattices) → ⊥) system
    (subst (λ (ls : List LatticeView). IsAccepted sys (orders_of ls) → ⊥) (sym same) never) in
    IfOk-weaker result _ _ (λ answer report. uncertified it answer.status answer.text.items refuted report) is

-- what is written of a name, where there is a text for it, and where there is none
pub answered_as : (it : Judging) (sys : System) (name : List ℕ) (found : Option (Vec ℕ Global)) (text : Vec ℕ Global)
    → it.system ≡ sys → found ≡ Some text → IsWho it.scene sys name (option_map (λ (t : Vec ℕ Global). t.items) found)
    → IsAnswered it name Answered text.items
answered_as it sys name found text system some is =
    Answering text.items
    (subst (λ (s : System). IsWho it.scene s name (Some text.items)) (sym system)
    (subst
    (λ (o : Option (Vec ℕ Global)). IsWho it.scene sys name (option_map (λ (t : Vec ℕ Global). t.items) o)) some is))

-- where the question who reaches a name finds nothing, the line of no such name is its answer
pub unnamed_as : (it : Judging) (sys : System) (name : List ℕ) (found : Option (Vec ℕ Global)) (status : Status)
    (text : List ℕ)
    → it.system ≡ sys → found ≡ None → status ≡ NoName → text ≡ no_name_line name
    → IsWho it.scene sys name (option_map (λ (t : Vec ℕ Global). t.items) found) → IsAnswered it name status text
unnamed_as it sys name found status text system none says spelled is =
    at_equal (IsAnswered it name) status NoName text (no_name_line name) says spelled
    (Unnamed (subst (λ (s : System). IsWho it.scene s name None) (sym system)
    (subst
    (λ (o : Option (Vec ℕ Global)). IsWho it.scene sys name (option_map (λ (t : Vec ℕ Global). t.items) o)) none is)))

-- a certificate is verified with the status and the text of its verdict; one that holds needs an accepted program
verified : (it : Judging) (bytes : List ℕ) (found : Verdict)
    → CertificateComesTo it.system (orders_of it.scene.lattices) bytes found
    → (found ≡ Holds → IsAccepted it.system (orders_of it.scene.lattices))
    → IsVerified it bytes (verdict_status found) (verdict_text found)
verified it bytes Holds comes accepted = Proving comes (accepted refl)
verified it bytes (Fails lattice rule) comes accepted = Breaking lattice rule comes
verified it bytes (Unread line code) comes accepted = NoProof line code comes

-- the same over lattices, constraints, a status and a text that are equal to those of the verdict
pub verified_as : (it : Judging) (lattices : List LatticeView) (sys : System) (bytes : List ℕ) (found : Verdict)
    (status : Status) (text : List ℕ)
    → it.scene.lattices ≡ lattices → it.system ≡ sys → status ≡ verdict_status found → text ≡ verdict_text found
    → CertificateComesTo sys (orders_of lattices) bytes found → (found ≡ Holds → IsAccepted sys (orders_of lattices))
    → IsVerified it bytes status text
verified_as it lattices sys bytes found status text same system says spelled comes accepted =
    at_equal (IsVerified it bytes) status (verdict_status found) text (verdict_text found) says spelled
    (verified it bytes found
    (subst (λ (s : System). CertificateComesTo s (orders_of it.scene.lattices) bytes found) (sym system)
    (subst (λ (ls : List LatticeView). CertificateComesTo sys (orders_of ls) bytes found) (sym same) comes))
    (λ holds. subst (λ (s : System). IsAccepted s (orders_of it.scene.lattices)) (sym system)
    (subst (λ (ls : List LatticeView). IsAccepted sys (orders_of ls)) (sym same) (accepted holds))))

pub decided : (accepted : Bool) → IsDecided (status_of accepted)
decided true = tt
decided false = tt

checked : (it : Judging) (bytes : List ℕ) (found : Checked)
    → ComesTo it.system (orders_of it.scene.lattices) bytes found
    → (found ≡ Hold → IsAccepted it.system (orders_of it.scene.lattices) → ⊥)
    → IsChecked it bytes (checked_status found) (checked_text found)
checked it bytes Hold comes refutes = Holding comes (refutes refl)
checked it bytes (Bad line code) comes refutes = Failing line code comes

-- a report is checked with the status and the text of what it comes to; one that holds needs a program that is not
-- accepted
pub checked_as : (it : Judging) (lattices : List LatticeView) (sys : System) (bytes : List ℕ) (found : Checked)
    (status : Status) (text : List ℕ)
    → it.scene.lattices ≡ lattices → it.system ≡ sys → status ≡ checked_status found → text ≡ checked_text found
    → ComesTo sys (orders_of lattices) bytes found → (found ≡ Hold → IsAccepted sys (orders_of lattices) → ⊥)
    → IsChecked it bytes status text
checked_as it lattices sys bytes found status text same system says spelled comes refutes =
    at_equal (IsChecked it bytes) status (checked_status found) text (checked_text found) says spelled
    (checked it bytes found
    (subst (λ (s : System). ComesTo s (orders_of it.scene.lattices) bytes found) (sym system)
    (subst (λ (ls : List LatticeView). ComesTo sys (orders_of ls) bytes found) (sym same) comes))
    (λ holds. subst (λ (s : System). IsAccepted s (orders_of it.scene.lattices) → ⊥) (sym system)
    (subst (λ (ls : List LatticeView). IsAccepted sys (orders_of ls) → ⊥) (sym same) (refutes holds))))
