-- A text of certificates says one thing, and a text has one fault at most.
use Rattle.std.specs.Prelude.{◌≡◌, ◌≢◌, ◌≤◌, ℕ, List, [], ◌∷◌, length, slice_get, Some}
use Rattle.lattice_core.specs.Order.{Order, size}
use Rattle.flow_graph.specs.System.{System, most_constraints}
use Rattle.closure_check.specs.declared.part.Part.{Part}
use Rattle.certificate_reader.specs.declared.lines.Line.{Line}
use Rattle.certificate_reader.specs.declared.section.CertFault.{CertFault}
use Rattle.certificate_reader.specs.declared.section.CertFault.TheVariants.{NoMemory}
use Rattle.certificate_reader.specs.Lines.{lines_of}
use Rattle.certificate_reader.specs.Grammar.{IsPlaced, ReadsAs}

-- no more constraints, lattices and elements than there may be
pub record IsBounded (sys : System) (orders : List Order) : Type 0 where
  pub constraints : length sys.constraints ≤ most_constraints
  pub lattices : length orders ≤ 16
  pub elements : (n : ℕ) (order : Order) → slice_get orders n ≡ Some order → size order ≤ 64

-- certificates with the same lists of pairs and of sets
abbrev pub AreSame : List Part → List Part → Type 0
AreSame [] [] = Unit {0}
AreSame [] (other ∷ others) = ⊥
AreSame (part ∷ parts) [] = ⊥
AreSame (part ∷ parts) (other ∷ others) =
    (part.pairs.items ≡ other.pairs.items) × (part.first.items ≡ other.first.items)
    × (part.second.items ≡ other.second.items) × AreSame parts others

-- what a text reads as is one list of certificates
abbrev pub ReadsOnce : Type 0
ReadsOnce = (sys : System) (orders : List Order) (bytes : List ℕ) (parts others : List Part) → IsBounded sys orders →
    ReadsAs sys orders bytes parts → ReadsAs sys orders bytes others → AreSame parts others

-- lines have one fault at most, but for want of memory
abbrev pub OneFault : Type 0
OneFault =
    (sys : System) (orders : List Order) (lines : List Line) (one other : CertFault) → one ≢ NoMemory
    → other ≢ NoMemory →
    IsPlaced sys orders lines one → IsPlaced sys orders lines other → one ≡ other

-- and what reads as certificates has none
abbrev pub TextHasNoFault : Type 0
TextHasNoFault =
    (sys : System) (orders : List Order) (bytes : List ℕ) (parts : List Part) (fault : CertFault)
    → IsBounded sys orders →
    ReadsAs sys orders bytes parts → IsPlaced sys orders (lines_of bytes) fault → fault ≡ NoMemory
