-- What the tool answers for words and files is one.
use Rattle.std.specs.Prelude.{◌≡◌, ℕ, List}
use Rattle.cqual_tool.specs.declared.status.Status.{Status}
use Rattle.cqual_tool.specs.declared.status.Status.TheVariants.{Accepted, Rejected, PathsHold, PathBad, CertificateHolds, CertificateBad, Answered, NoName, NoSignature, Malformed, BadWords, ReadFault, WriteFault, NoMemory}
use Rattle.cqual_tool.specs.Inputs.{Inputs}
use Rattle.cqual_tool.specs.Outcome.{Outcome}

-- The text of an answer with this status is one. Of what is rejected the path proofs are free, of who reaches a name
-- the walks, and of a unit that is not well formed the code. The last three are the status of no outcome: the words and
-- the files alone tell none of them.
abbrev pub HasOneText : Status → Type 0
HasOneText Accepted = Unit {0}
HasOneText Rejected = ⊥
HasOneText PathsHold = Unit {0}
HasOneText PathBad = Unit {0}
HasOneText CertificateHolds = Unit {0}
HasOneText CertificateBad = Unit {0}
HasOneText Answered = ⊥
HasOneText NoName = Unit {0}
HasOneText NoSignature = Unit {0}
HasOneText Malformed = ⊥
HasOneText BadWords = Unit {0}
HasOneText ReadFault = ⊥
HasOneText WriteFault = ⊥
HasOneText NoMemory = ⊥

-- The words and the bytes of the files have one status, and one text where the status has one.
abbrev pub OneOutcome : Type 0
OneOutcome =
    (words : List (List ℕ)) (inputs : Inputs)
    (s t : Status) (x y : List ℕ) → Outcome words inputs s x → Outcome words inputs t y →
    (s ≡ t) × (HasOneText s → x ≡ y)
