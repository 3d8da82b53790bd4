-- What the program answers, and the number with which it exits.
use Rattle.std.specs.Prelude.{◌≡◌, ℕ, Bool, true, false, List}
use Rattle.path_checker.specs.declared.report_checks.judging.Checked.{Checked}
use Rattle.path_checker.specs.declared.report_checks.judging.Checked.TheVariants.{Hold, Bad}
use Rattle.certificate_checks.specs.declared.judging.Verdict.{Verdict}
use Rattle.certificate_checks.specs.declared.judging.Verdict.TheVariants.{Holds, Fails, Unread}
use Rattle.cqual_tool.specs.declared.answer.Answer.{Answer}
use Rattle.cqual_tool.specs.declared.status.Status.{Status}
use Rattle.cqual_tool.specs.declared.status.Status.TheVariants.{Accepted, Rejected, PathsHold, PathBad, CertificateHolds, CertificateBad, Answered, NoName, NoSignature, Malformed, BadWords, ReadFault, WriteFault, NoMemory}

-- the number with which the program exits, by the status of its answer
abbrev pub exit_of : Status → ℕ
exit_of Accepted = 0
exit_of Rejected = 1
exit_of PathsHold = 0
exit_of PathBad = 1
exit_of CertificateHolds = 0
exit_of CertificateBad = 1
exit_of Answered = 0
exit_of NoName = 1
exit_of NoSignature = 1
exit_of Malformed = 2
exit_of BadWords = 3
exit_of ReadFault = 4
exit_of WriteFault = 5
exit_of NoMemory = 6

-- an answer of this status and this text
abbrev pub Says : Status → List ℕ → Answer → Type 0
Says status text answer = (answer.status ≡ status) × (answer.text.items ≡ text)

-- the status of a program that was judged
abbrev pub status_of : Bool → Status
status_of true = Accepted
status_of false = Rejected

-- the status of what a report comes to
abbrev pub checked_status : Checked → Status
checked_status Hold = PathsHold
checked_status (Bad line code) = PathBad

-- the status of what a certificate comes to
abbrev pub verdict_status : Verdict → Status
verdict_status Holds = CertificateHolds
verdict_status (Fails lattice rule) = CertificateBad
verdict_status (Unread line code) = CertificateBad
