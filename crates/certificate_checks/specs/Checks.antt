-- What a certificate comes to.
use Rattle.std.specs.Prelude.{◌≡◌, ℕ, ◌+◌, ◌<◌, List, slice_get, Option, Some, None}
use Rattle.lattice_core.specs.Order.{Order}
use Rattle.flow_graph.specs.System.{System}
use Rattle.certificate_laws.specs.Certificates.{Obeys, IsLowestFailing}
use Rattle.certificate_laws.specs.declared.rule.CertRule.{CertRule}
use Rattle.closure_check.specs.declared.part.Part.{Part}
use Rattle.closure_check.specs.Parts.{certificate_of}
use Rattle.certificate_reader.specs.Grammar.{IsPlaced, ReadsAs}
use Rattle.certificate_reader.specs.Lines.{lines_of}
use Rattle.certificate_reader.specs.declared.section.CertFault.{CertFault}
use Rattle.certificate_reader.specs.declared.section.CertFault.TheVariants.{Grammar, NoSuchVariable, NoMemory}
use Rattle.certificate_checks.specs.declared.judging.CertCode.TheVariants.{V1, V2}
use Rattle.certificate_checks.specs.declared.judging.Verdict.{Verdict}
use Rattle.certificate_checks.specs.declared.judging.Verdict.TheVariants.{Holds, Fails, Unread}

-- the certificate of the lattice with this number obeys the rules, if there is such a lattice
abbrev pub ObeysAt : System → List Order → List Part → ℕ → Type 0
ObeysAt sys orders parts n =
    (order : Order) (part : Part) → slice_get orders n ≡ Some order → slice_get parts n ≡ Some part
    → Obeys sys n order (certificate_of part)

-- the lattice with this number is the first whose certificate breaks a rule, and this is the lowest that it breaks
pub record FailsFirst (sys : System) (orders : List Order) (parts : List Part) (n : ℕ) (rule : CertRule) : Type 0 where
  pub order : Order
  pub part : Part
  pub there : slice_get orders n ≡ Some order
  pub at : slice_get parts n ≡ Some part
  pub fails : IsLowestFailing sys n order (certificate_of part) rule
  pub before : (m : ℕ) → m < n → ObeysAt sys orders parts m

-- What a text comes to as a certificate over a system: it reads and obeys the rules in every lattice, it reads and
-- breaks one, or it does not read.
pub data ComesTo (sys : System) (orders : List Order) (text : List ℕ) : Verdict → Type 0 where
  Proves : (parts : List Part) → ReadsAs sys orders text parts → ((n : ℕ) → ObeysAt sys orders parts n)
      → ComesTo sys orders text Holds
  Breaks : (parts : List Part) (n : ℕ) (rule : CertRule) → ReadsAs sys orders text parts
      → FailsFirst sys orders parts n rule →
      ComesTo sys orders text (Fails (n + 1) rule)
  StopsAt : (line : ℕ) → IsPlaced sys orders (lines_of text) (Grammar line) → ComesTo sys orders text (Unread line V1)
  NamesNone : (line : ℕ) → IsPlaced sys orders (lines_of text) (NoSuchVariable line)
      → ComesTo sys orders text (Unread line V2)

-- what a certificate that does not read comes to
abbrev pub unread_of : CertFault → Option Verdict
unread_of (Grammar line) = Some (Unread line V1)
unread_of (NoSuchVariable line) = Some (Unread line V2)
unread_of NoMemory = None
