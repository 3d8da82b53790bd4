-- Laws of certificates.
use Rattle.std.specs.Prelude.{◌≡◌, ℕ, true}
use Rattle.lattice_core.specs.Order.{Order, IsOrder, IsLattice}
use Rattle.flow_graph.specs.System.{System, IsWellOwned}
use Rattle.flow_graph.specs.Unfolding.{IsAcceptedIn, NamesElementsIn}
use Rattle.flow_graph.specs.Paths.{Returning, Lead}
use Rattle.certificate_laws.specs.Certificates.{Certificate, Obeys, IsJoined, IsWritten}

-- In a lattice, a system of which a certificate obeys the rules is accepted. It need not be well owned.
abbrev pub CertifiedIsAccepted : Type 0
CertifiedIsAccepted =
    (sys : System) (lattice : ℕ) (order : Order) (c : Certificate) → IsLattice order
    → NamesElementsIn sys lattice order →
    Obeys sys lattice order c → IsAcceptedIn sys lattice order

-- The certificate that is written of an accepted system obeys them.
abbrev pub AcceptedIsCertified : Type 0
AcceptedIsCertified = (sys : System) (lattice : ℕ) (order : Order) (c : Certificate) → IsWellOwned sys → IsOrder order →
    IsWritten sys lattice c → IsAcceptedIn sys lattice order → Obeys sys lattice order c

-- what leads to a variable is in its sets, and what is joined is a pair
pub record HasWritten (sys : System) (lattice : ℕ) (c : Certificate) : Type 0 where
  pub paired : (x v : ℕ) → IsJoined sys lattice x v → c.paired x v ≡ true
  pub first : (v e : ℕ) → Returning sys lattice e v → c.first v e ≡ true
  pub second : (v e : ℕ) → Lead sys lattice e v → c.second v e ≡ true

-- A certificate that obeys the rules has all that the written one has, which is thus the least.
abbrev pub CertifiedHasWritten : Type 0
CertifiedHasWritten = (sys : System) (lattice : ℕ) (order : Order) (c : Certificate) → IsWellOwned sys →
    Obeys sys lattice order c → HasWritten sys lattice c
