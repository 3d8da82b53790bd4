-- The lines of whole certificates.
use Rattle.std.specs.Prelude.{◌≡◌, ℕ, suc, ◌+◌, ◌<◌, ◌≤◌, ◌-◌, ◌^◌, Bool, true, false, not, ◌&&◌, nat_lt, ◌==◌, List, [], ◌∷◌, ◌++◌, length, take, map, slice_get, slice_index, Option, Some, None}
use Rattle.lattice_core.specs.Order.{Order, size}
use Rattle.flow_graph.specs.System.{System}
use Rattle.closure_check.specs.declared.part.Part.{Part}
use Rattle.closure_check.specs.Parts.{IsPart, is_among, is_below}
use Rattle.certificate_text.specs.declared.putting.SetLine.{SetLine}
use Rattle.certificate_text.specs.Names.{ends_in, is_at, name_of}
use Rattle.certificate_text.specs.Text.{Written, certificate_text}
use Rattle.certificate_reader.specs.declared.lines.Line.{Line}
use Rattle.certificate_reader.specs.declared.lines.Line.TheVariants.{Certificate, Lattice, Set, Pair, Other}
use Rattle.certificate_reader.specs.declared.section.CertFault.{CertFault}
use Rattle.certificate_reader.specs.declared.section.CertFault.TheVariants.{Grammar, NoSuchVariable, NoMemory}

-- all elements of a lattice, as a set
abbrev pub all_of : Order → ℕ
all_of order = 2 ^ size order - 1

-- the lines of sets, and those that stand behind them
abbrev pub set_lines : List SetLine → List Line → List Line
set_lines [] behind = behind
set_lines (it ∷ sets) behind = Set it.name it.first it.second ∷ set_lines sets behind

-- the lines of pairs, and those that stand behind them
abbrev pub pair_lines : List (ℕ × ℕ) → List Line → List Line
pair_lines [] behind = behind
pair_lines (pair ∷ pairs) behind = Pair pair.0 pair.1 ∷ pair_lines pairs behind

-- lattices from a number on
abbrev pub part_lines : ℕ → List Written → List Line → List Line
part_lines number [] behind = behind
part_lines number (part ∷ parts) behind =
    Lattice number ∷ set_lines part.sets (pair_lines part.pairs (part_lines (number + 1) parts behind))

-- the lines of a whole certificate
abbrev pub lines_of_parts : List Written → List Line
lines_of_parts parts = Certificate ∷ part_lines 1 parts []

-- whether a name stands behind another, where there is one
abbrev pub name_behind : Option ℕ → ℕ → Bool
name_behind None name = true
name_behind (Some last) name = nat_lt last name

-- whether a pair stands behind another, where there is one
abbrev pub pair_behind : Option (ℕ × ℕ) → ℕ × ℕ → Bool
pair_behind None pair = true
pair_behind (Some last) pair = is_below last pair.0 pair.1

-- the sets have elements of the lattice alone, and the second is not empty
abbrev pub sets_fit : ℕ → ℕ → ℕ → Bool
sets_fit all first second = not (second == 0) && (not (nat_lt all first) && not (nat_lt all second))

-- each set line stands behind the one before it, and its sets fit
abbrev pub SetsFit : ℕ → Option ℕ → List SetLine → Type 0
SetsFit all last [] = Unit {0}
SetsFit all last (it ∷ sets) =
    (name_behind last it.name ≡ true) × (sets_fit all it.first it.second ≡ true) × SetsFit all (Some it.name) sets

-- each pair line stands behind the one before it
abbrev pub PairsFit : Option (ℕ × ℕ) → List (ℕ × ℕ) → Type 0
PairsFit last [] = Unit {0}
PairsFit last (pair ∷ pairs) = (pair_behind last pair ≡ true) × PairsFit (Some pair) pairs

-- a part for each lattice, whose elements are given
abbrev pub PartsFit : List ℕ → List Written → Type 0
PartsFit [] [] = Unit {0}
PartsFit [] (part ∷ parts) = ⊥
PartsFit (all ∷ alls) [] = ⊥
PartsFit (all ∷ alls) (part ∷ parts) = SetsFit all None part.sets × PairsFit None part.pairs × PartsFit alls parts

-- the sets of all elements of the lattices
abbrev pub alls_of : List Order → List ℕ
alls_of orders = map (λ order. all_of order) orders

-- the lines are those of a certificate, whatever its names say
pub record IsShaped (orders : List Order) (lines : List Line) : Type 0 where
  pub parts : List Written
  pub fit : PartsFit (alls_of orders) parts
  pub lines_are : lines ≡ lines_of_parts parts

-- lines that others, put behind them, make a certificate
abbrev pub BeginsText : List Order → List Line → Type 0
BeginsText orders lines = (behind : List Line) × IsShaped orders (lines ++ behind)

-- the end is the name of a variable
abbrev pub names_at : System → ℕ → Option ℕ → Bool
names_at sys end (Some v) = is_at (name_of sys v) end
names_at sys end None = false

-- whether an end is the name of a variable
abbrev pub is_name : System → ℕ → Bool
is_name sys end = names_at sys end (slice_get (ends_in sys) end)

-- all names of a line are those of variables
abbrev pub is_known : System → Line → Bool
is_known sys (Set name first second) = is_name sys name
is_known sys (Pair from to) = is_name sys from && is_name sys to
is_known sys Certificate = true
is_known sys (Lattice n) = true
is_known sys Other = true

-- all names of these lines are those of variables
abbrev pub AreKnown : System → List Line → Type 0
AreKnown sys [] = Unit {0}
AreKnown sys (line ∷ lines) = (is_known sys line ≡ true) × AreKnown sys lines

-- Line n is the first that does not fit: the lines before it begin a certificate and name variables. No certificate
-- begins with it too, whatever its names say, or it is the line behind the last one and the lines are not yet a
-- certificate.
pub record IsMisfit (sys : System) (orders : List Order) (lines : List Line) (n : ℕ) : Type 0 where
  pub before : ℕ
  pub number : n ≡ before + 1
  pub within : before ≤ length lines
  pub begins : BeginsText orders (take before lines)
  pub known : AreKnown sys (take before lines)
  pub misfit : before < length lines → BeginsText orders (take (suc before) lines) → ⊥
  pub unfinished : before ≡ length lines → IsShaped orders lines → ⊥

-- Line n is the first with a name that is no variable's: the lines to it begin a certificate, and those before it name
-- variables.
pub record NamesNone (sys : System) (orders : List Order) (lines : List Line) (n : ℕ) : Type 0 where
  pub before : ℕ
  pub number : n ≡ before + 1
  pub begins : BeginsText orders (take (suc before) lines)
  pub known : AreKnown sys (take before lines)
  pub line : Line
  pub there : slice_get lines before ≡ Some line
  pub unknown : is_known sys line ≡ false

-- a fault is at the line where it should be; want of memory has none
abbrev pub IsPlaced : System → List Order → List Line → CertFault → Type 0
IsPlaced sys orders lines (Grammar n) = IsMisfit sys orders lines n
IsPlaced sys orders lines (NoSuchVariable n) = NamesNone sys orders lines n
IsPlaced sys orders lines NoMemory = Unit {0}

-- each variable whose second set is not empty has a name, as has each of a pair, and no variable has a first set alone
pub record HasNames (sys : System) (part : Part) : Type 0 where
  pub sets : (v : ℕ) → name_of sys v ≡ None → slice_index part.second.items v ≡ 0
  pub pairs : (u v : ℕ) → is_among part.pairs.items u v ≡ true
      → (m : ℕ) × (n : ℕ) × (name_of sys u ≡ Some m) × (name_of sys v ≡ Some n)
  pub firsts : (v : ℕ) → slice_index part.second.items v ≡ 0 → slice_index part.first.items v ≡ 0

-- a certificate of each lattice, of which all is written
abbrev pub ArePlain : System → List Order → List Part → Type 0
ArePlain sys [] [] = Unit {0}
ArePlain sys [] (part ∷ parts) = ⊥
ArePlain sys (order ∷ orders) [] = ⊥
ArePlain sys (order ∷ orders) (part ∷ parts) = IsPart sys order part × HasNames sys part × ArePlain sys orders parts

-- the text is that of these certificates
abbrev pub ReadsAs : System → List Order → List ℕ → List Part → Type 0
ReadsAs sys orders bytes parts = (bytes ≡ certificate_text sys parts) × ArePlain sys orders parts

-- the names of sets and pairs are those of variables
pub record AreNamed (sys : System) (sets : List SetLine) (pairs : List (ℕ × ℕ)) : Type 0 where
  pub sets_are : (k : ℕ) (it : SetLine) → slice_get sets k ≡ Some it → is_name sys it.name ≡ true
  pub pairs_are : (k : ℕ) (pair : ℕ × ℕ) → slice_get pairs k ≡ Some pair
      → (is_name sys pair.0 ≡ true) × (is_name sys pair.1 ≡ true)
