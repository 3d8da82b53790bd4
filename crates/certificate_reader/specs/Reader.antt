-- What a reader of a certificate holds, and what a line adds to it.
use Rattle.std.specs.Prelude.{◌≡◌, ℕ, ◌+◌, ◌-◌, ◌<◌, ◌≤◌, Bool, true, false, ◌&&◌, ◌==◌, nat_lt, List, [], ◌∷◌, ◌++◌, length, slice_get, slice_index, Option, Some, None, if◌then◌else◌}
use Rattle.lattice_core.specs.Order.{Order, size}
use Rattle.flow_graph.specs.System.{System}
use Rattle.closure_check.specs.declared.part.Part.{Part}
use Rattle.closure_check.specs.Parts.{IsPart}
use Rattle.certificate_text.specs.declared.putting.SetLine.{SetLine}
use Rattle.certificate_text.specs.Text.{written, certificate_text}
use Rattle.certificate_reader.specs.declared.lines.Line.{Line}
use Rattle.certificate_reader.specs.declared.lines.Line.TheVariants.{Certificate, Lattice, Set, Pair, Other}
use Rattle.certificate_reader.specs.declared.section.Section.{Section}
use Rattle.certificate_reader.specs.declared.section.Section.TheVariants.{Start, Opened, InSets, InPairs}
use Rattle.certificate_reader.specs.declared.section.CertFault.{CertFault}
use Rattle.certificate_reader.specs.declared.section.CertFault.TheVariants.{Grammar, NoSuchVariable}
use Rattle.certificate_reader.specs.Grammar.{all_of, name_behind, pair_behind, sets_fit, is_known, SetsFit, PairsFit, AreNamed, HasNames}

-- the section of a lattice, where it is the one behind so many
abbrev pub lattice_behind : List ℕ → ℕ → ℕ → Option Section
lattice_behind alls number n = if n == number + 1 && nat_lt number (length alls) then Some (InSets n None) else None

-- Which line may stand in a section, and the section that it leads to. The sets of all elements are given by lattices.
abbrev pub next : List ℕ → Section → Line → Option Section
next alls Start Certificate = Some Opened
next alls Start (Lattice n) = None
next alls Start (Set name first second) = None
next alls Start (Pair from to) = None
next alls Start Other = None
next alls Opened Certificate = None
next alls Opened (Lattice n) = lattice_behind alls 0 n
next alls Opened (Set name first second) = None
next alls Opened (Pair from to) = None
next alls Opened Other = None
next alls (InSets number last) Certificate = None
next alls (InSets number last) (Lattice n) = lattice_behind alls number n
next alls (InSets number last) (Set name first second) =
    if name_behind last name && sets_fit (slice_index alls (number - 1)) first second
    then Some (InSets number (Some name)) else None
next alls (InSets number last) (Pair from to) = Some (InPairs number from to)
next alls (InSets number last) Other = None
next alls (InPairs number u v) Certificate = None
next alls (InPairs number u v) (Lattice n) = lattice_behind alls number n
next alls (InPairs number u v) (Set name first second) = None
next alls (InPairs number u v) (Pair from to) =
    if pair_behind (Some (u, v)) (from, to) then Some (InPairs number from to) else None
next alls (InPairs number u v) Other = None

-- all lattices have been begun
abbrev pub may_end : List ℕ → Section → Bool
may_end alls Start = false
may_end alls Opened = length alls == 0
may_end alls (InSets number last) = length alls == number
may_end alls (InPairs number u v) = length alls == number

-- what fails at line n, or else behind it
abbrev pub fault_behind : System → ℕ → Line → Option Section → (Section → Option CertFault) → Option CertFault
fault_behind sys n line None behind = Some (Grammar n)
fault_behind sys n line (Some section) behind = if is_known sys line then behind section else Some (NoSuchVariable n)

-- The first line that may not stand where it does or that has a name of no variable, of lines from number n on. Where
-- the end comes too soon, it is the line behind the last.
abbrev pub fault_from : System → List ℕ → Section → ℕ → List Line → Option CertFault
fault_from sys alls section n [] = if may_end alls section then None else Some (Grammar n)
fault_from sys alls section n (line ∷ lines) =
    fault_behind sys n line (next alls section line) (λ s. fault_from sys alls s (n + 1) lines)

-- The lines of a certificate: its sets fit some lattice, its pairs ascend, and their names are those of variables.
pub record AreLines (sys : System) (sets : List SetLine) (pairs : List (ℕ × ℕ)) : Type 0 where
  pub all : ℕ
  pub sets_fit : SetsFit all None sets
  pub pairs_fit : PairsFit None pairs
  pub named : AreNamed sys sets pairs

-- the certificate that lines say
pub record IsPartOf (sys : System) (sets : List SetLine) (pairs : List (ℕ × ℕ)) (part : Part) : Type 0 where
  pub plain : (order : Order) → SetsFit (all_of order) None sets → IsPart sys order part
  pub names : HasNames sys part
  pub written_is : written sys part ≡ record { sets = sets; pairs = pairs }

-- what a reader holds: whole certificates, and the lines of the next one
pub record Held : Type 0 where
  pub section : Section
  pub parts : List Part
  pub sets : List SetLine
  pub pairs : List (ℕ × ℕ)

-- the lines are made one more certificate
pub record Closed (sys : System) (old : Held) (parts : List Part) (sets : List SetLine)
    (pairs : List (ℕ × ℕ)) : Type 0 where
  pub part : Part
  pub is : IsPartOf sys old.sets old.pairs part
  pub parts_are : parts ≡ old.parts ++ part ∷ []
  pub sets_are : sets ≡ []
  pub pairs_are : pairs ≡ []

-- what is held stays so
abbrev pub Stays : Held → List Part → List SetLine → List (ℕ × ℕ) → Type 0
Stays old parts sets pairs = (parts ≡ old.parts) × (sets ≡ old.sets) × (pairs ≡ old.pairs)

-- the certificate that is being read ends, if there is one
abbrev pub Closes : System → Section → Held → List Part → List SetLine → List (ℕ × ℕ) → Type 0
Closes sys Start old parts sets pairs = Stays old parts sets pairs
Closes sys Opened old parts sets pairs = Stays old parts sets pairs
Closes sys (InSets number last) old parts sets pairs = Closed sys old parts sets pairs
Closes sys (InPairs number u v) old parts sets pairs = Closed sys old parts sets pairs

-- what a line adds
abbrev pub Keeps : System → Line → Held → List Part → List SetLine → List (ℕ × ℕ) → Type 0
Keeps sys Certificate old parts sets pairs = Stays old parts sets pairs
Keeps sys (Lattice n) old parts sets pairs = Closes sys old.section old parts sets pairs
Keeps sys (Set name first second) old parts sets pairs =
    (parts ≡ old.parts) × (sets ≡ old.sets ++ record { name = name; first = first; second = second } ∷ [])
    × (pairs ≡ old.pairs)
Keeps sys (Pair from to) old parts sets pairs =
    (parts ≡ old.parts) × (sets ≡ old.sets) × (pairs ≡ old.pairs ++ (from, to) ∷ [])
Keeps sys Other old parts sets pairs = Stays old parts sets pairs

-- the line may stand behind what was read and names variables, and is kept
pub record Takes (sys : System) (alls : List ℕ) (line : Line) (old new : Held) : Type 0 where
  pub follows : next alls old.section line ≡ Some new.section
  pub known : is_known sys line ≡ true
  pub keeps : Keeps sys line old new.parts new.sets new.pairs

-- line n is the first that fails, whatever stands behind it
abbrev pub FailsAt : System → List ℕ → Section → ℕ → Line → CertFault → Type 0
FailsAt sys alls section n line fault =
    (behind : Section → Option CertFault) → fault_behind sys n line (next alls section line) behind ≡ Some fault

-- a certificate of a lattice, whose elements are given
abbrev pub IsMade : System → ℕ → Part → Type 0
IsMade sys all part = ((order : Order) → all ≡ all_of order → IsPart sys order part) × HasNames sys part

-- certificates of the first lattices
abbrev pub AreMade : System → List ℕ → List Part → Type 0
AreMade sys alls [] = Unit {0}
AreMade sys [] (part ∷ parts) = ⊥
AreMade sys (all ∷ alls) (part ∷ parts) = IsMade sys all part × AreMade sys alls parts

-- the text is that of certificates of all lattices
pub record IsReadAs (sys : System) (alls bytes : List ℕ) (parts : List Part) : Type 0 where
  pub text_is : bytes ≡ certificate_text sys parts
  pub made : AreMade sys alls parts
  pub whole : length parts ≡ length alls

-- the orders of the first lattices have at most 64 elements
abbrev pub AreSmall : ℕ → List Order → Type 0
AreSmall count orders = (n : ℕ) (order : Order) → n < count → slice_get orders n ≡ Some order → size order ≤ 64
