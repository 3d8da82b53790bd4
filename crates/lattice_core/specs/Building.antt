-- The order that entries and order lines make, and each reason to refuse them.
use Rattle.std.specs.Prelude.{◌≡◌, ℕ, ◌<◌, ◌≤◌, ◌↔◌, ◌⊎◌, true, List, [], ◌∷◌, length, Some, None, is_none, Contains, find}
use Rattle.std.specs.List.{flat_map}
use Rattle.std.specs.declared.option.Option.{Option}
use Rattle.lattice_core.specs.declared.Entry.{Entry}
use Rattle.lattice_core.specs.declared.Pair.{Pair}
use Rattle.lattice_core.specs.declared.LatticeFault.{LatticeFault}
use Rattle.lattice_core.specs.declared.LatticeFault.TheVariants.{TooMany, Repeated, UnknownName, LevelMix, Cycle, NotALattice, NoMemory}
use Rattle.lattice_core.specs.Order.{Order, size, leq, IsLattice, IsLeastUpper, IsGreatestLower}
use Rattle.lattice_core.specs.Entries.{name_at, number_of, AreDistinct, IsFirstRepeated, AreOfOneLevel, IsFirstMixed}
use Rattle.lattice_core.specs.View.{LatticeView}

-- an order line says that entry a is below entry b
pub record IsWritten (entries : List Entry) (pairs : List Pair) (a b : ℕ) : Type 0 where
  pub pair : Pair
  pub there : Contains pairs pair
  pub low : number_of entries pair.low ≡ Some a
  pub high : number_of entries pair.high ≡ Some b

-- the reflexive transitive closure of the order lines, on the entries
pub data IsBelow (entries : List Entry) (pairs : List Pair) (a : ℕ) : ℕ → Type 0 where
  Same : a < length entries → IsBelow entries pairs a a
  Through : (b c : ℕ) → IsBelow entries pairs a b → IsWritten entries pairs b c → IsBelow entries pairs a c

-- an order that is this closure
pub record IsClosureOf (entries : List Entry) (pairs : List Pair) (order : Order) : Type 0 where
  pub elements : size order ≡ length entries
  pub below : (a b : ℕ) → (leq order a b ≡ true) ↔ IsBelow entries pairs a b

-- the names of the order lines, in order
abbrev pub written_names : List Pair → List (List ℕ)
written_names = flat_map (λ pair. pair.low ∷ pair.high ∷ [])

-- the first name of an order line that no entry has
abbrev pub first_unknown : List Entry → List Pair → Option (List ℕ)
first_unknown entries pairs = find (λ name. is_none (number_of entries name)) (written_names pairs)

-- why a name of an order line has no number: no entry has it, or memory ran out
abbrev pub IsUnknown : List Entry → List ℕ → LatticeFault → Type 0
IsUnknown entries name (UnknownName copy) = (copy ≡ name) × (number_of entries name ≡ None)
IsUnknown entries name NoMemory = Unit {0}
IsUnknown entries name _ = ⊥

-- why order lines have no numbers: the first name without an entry, or memory ran out
abbrev pub IsFirstUnknown : List Entry → List Pair → LatticeFault → Type 0
IsFirstUnknown entries pairs (UnknownName name) = first_unknown entries pairs ≡ Some name
IsFirstUnknown entries pairs NoMemory = Unit {0}
IsFirstUnknown entries pairs _ = ⊥

-- (a, b) is the least pair of different elements with a property, the first element compared first
pub record IsFirstPair (Has : ℕ → ℕ → Type 0) (count a b : ℕ) : Type 0 where
  pub apart : a < b
  pub within : b < count
  pub has : Has a b
  pub no_earlier_row : (c d : ℕ) → c < a → c < d → d < count → Has c d → ⊥
  pub no_earlier : (d : ℕ) → a < d → d < b → Has a d → ⊥

-- no two different elements have a property
abbrev pub HasNoPair : (ℕ → ℕ → Type 0) → ℕ → Type 0
HasNoPair Has count = (a b : ℕ) → a < b → b < count → Has a b → ⊥

-- a property holds of an element with none behind it
abbrev pub HasNone : (ℕ → ℕ → Type 0) → ℕ → ℕ → Type 0
HasNone Has a end = (b : ℕ) → a < b → b < end → Has a b → ⊥

-- b is the first element behind a with a property
pub record IsNextTo (Has : ℕ → ℕ → Type 0) (count a b : ℕ) : Type 0 where
  pub apart : a < b
  pub within : b < count
  pub has : Has a b
  pub none_between : HasNone Has a b

-- each of two elements is below the other
abbrev pub IsCycle : Order → ℕ → ℕ → Type 0
IsCycle order a b = (leq order a b ≡ true) × (leq order b a ≡ true)

-- two elements have no least upper bound, or no greatest lower bound
abbrev pub LacksBound : Order → ℕ → ℕ → Type 0
LacksBound order a b = ((c : ℕ) → IsLeastUpper order a b c → ⊥) ⊎ ((c : ℕ) → IsGreatestLower order a b c → ⊥)

-- two elements have both bounds
pub record HasBounds (order : Order) (a b : ℕ) : Type 0 where
  pub upper : ℕ
  pub is_upper : IsLeastUpper order a b upper
  pub lower : ℕ
  pub is_lower : IsGreatestLower order a b lower

-- so has an element with each behind it
abbrev pub AreBounded : Order → ℕ → ℕ → Type 0
AreBounded order a end = (b : ℕ) → a < b → b < end → HasBounds order a b

-- at most 64 entries, with names of their own
pub record AreNamed (entries : List Entry) : Type 0 where
  pub few : length entries ≤ 64
  pub distinct : AreDistinct entries (length entries)

-- and each name of an order line is an entry's
pub record AreKnown (entries : List Entry) (pairs : List Pair) : Type 0 where
  pub named : AreNamed entries
  pub known : first_unknown entries pairs ≡ None

-- and all entries are of one level
pub record AreFit (entries : List Entry) (pairs : List Pair) : Type 0 where
  pub known : AreKnown entries pairs
  pub level : AreOfOneLevel entries (length entries)

-- the entries and order lines make a lattice
pub record AreBuilt (entries : List Entry) (pairs : List Pair) (lattice : LatticeView) : Type 0 where
  pub fit : AreFit entries pairs
  pub same : lattice.entries ≡ entries
  pub closure : IsClosureOf entries pairs lattice.order
  pub bounded : IsLattice lattice.order

-- this is the name of the first entry whose name an earlier one has
pub record RefusesRepeated (entries : List Entry) (name : List ℕ) : Type 0 where
  pub few : length entries ≤ 64
  pub at : ℕ
  pub first : IsFirstRepeated entries at
  pub named : name_at entries at ≡ Some name

-- this is the first name of an order line that no entry has
pub record RefusesUnknown (entries : List Entry) (pairs : List Pair) (name : List ℕ) : Type 0 where
  pub named : AreNamed entries
  pub first : first_unknown entries pairs ≡ Some name

-- these are the names of the first entry and of the first one that has another level
pub record RefusesLevels (entries : List Entry) (pairs : List Pair) (one other : List ℕ) : Type 0 where
  pub known : AreKnown entries pairs
  pub at : ℕ
  pub first : IsFirstMixed entries at
  pub one_named : name_at entries 0 ≡ Some one
  pub other_named : name_at entries at ≡ Some other

-- these are the names of the first pair of elements each of which is below the other
pub record RefusesCycle (entries : List Entry) (pairs : List Pair) (one other : List ℕ) : Type 0 where
  pub fit : AreFit entries pairs
  pub order : Order
  pub closure : IsClosureOf entries pairs order
  pub a : ℕ
  pub b : ℕ
  pub first : IsFirstPair (IsCycle order) (length entries) a b
  pub one_named : name_at entries a ≡ Some one
  pub other_named : name_at entries b ≡ Some other

-- these are the names of the first pair of elements without a least upper or a greatest lower bound
pub record RefusesBounds (entries : List Entry) (pairs : List Pair) (one other : List ℕ) : Type 0 where
  pub fit : AreFit entries pairs
  pub order : Order
  pub closure : IsClosureOf entries pairs order
  pub acyclic : (a b : ℕ) → IsCycle order a b → a ≡ b
  pub a : ℕ
  pub b : ℕ
  pub first : IsFirstPair (LacksBound order) (length entries) a b
  pub one_named : name_at entries a ≡ Some one
  pub other_named : name_at entries b ≡ Some other

-- when each refusal comes: it is the first that fits, in the order of these lines
abbrev pub Refuses : List Entry → List Pair → LatticeFault → Type 0
Refuses entries pairs TooMany = 64 < length entries
Refuses entries pairs (Repeated name) = RefusesRepeated entries name
Refuses entries pairs (UnknownName name) = RefusesUnknown entries pairs name
Refuses entries pairs (LevelMix one other) = RefusesLevels entries pairs one other
Refuses entries pairs (Cycle one other) = RefusesCycle entries pairs one other
Refuses entries pairs (NotALattice one other) = RefusesBounds entries pairs one other
Refuses entries pairs NoMemory = Unit {0}
