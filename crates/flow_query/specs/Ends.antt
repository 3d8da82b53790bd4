-- The constants and the bounds of lattices, as lists of their numbers.
use Rattle.std.specs.Prelude.{◌≡◌, ℕ, ◌+◌, ◌<◌, List, length, slice_get, Some}
use Rattle.flow_graph.specs.Index.{AreThose}
use Rattle.flow_graph.specs.declared.constraint.Link.TheVariants.{Const, Bound}
use Rattle.flow_graph.specs.System.{System, Stands}
use Rattle.std.specs.List.{Contains}
use Rattle.flow_query.specs.declared.ends.Constant.{Constant}
use Rattle.flow_query.specs.declared.ends.Ends.{Ends}

-- a constraint is a constant of the lattice
abbrev pub IsConstant : System → ℕ → ℕ → Type 0
IsConstant sys lattice number = (at elem : ℕ) × Stands sys lattice number (Const lattice elem at)

-- a constraint is a bound of the lattice
abbrev pub IsBound : System → ℕ → ℕ → Type 0
IsBound sys lattice number = (at elem : ℕ) × Stands sys lattice number (Bound at lattice elem)

-- these are the numbers below one that have a property, ascending
abbrev pub AreThoseBelow : (ℕ → Type 0) → ℕ → List ℕ → Type 0
AreThoseBelow Has below numbers = AreThose (λ n. (n < below) × Has n) numbers

-- where a list had those below a number, it has those up to it
abbrev pub Lists : (ℕ → Type 0) → ℕ → List ℕ → List ℕ → Type 0
Lists Has number old new = AreThoseBelow Has number old → AreThoseBelow Has (number + 1) new

-- some constraint is this constant
pub record IsThere (sys : System) (lattice elem at : ℕ) : Type 0 where
  pub low : elem < 64
  pub number : ℕ
  pub stands : Stands sys lattice number (Const lattice elem at)

-- a constraint is a constant of this element and variable
abbrev pub IsStart : System → ℕ → Constant → Type 0
IsStart sys lattice start = IsThere sys lattice start.elem start.at

-- constants with the variables of all constants below a number
pub record AreStartsBelow (sys : System) (lattice below : ℕ) (starts : List Constant) : Type 0 where
  pub only : (start : Constant) → Contains starts start → IsStart sys lattice start
  pub all : (n elem at : ℕ) → n < below → Stands sys lattice n (Const lattice elem at)
      → (start : Constant) × Contains starts start × (start.at ≡ at)

-- the constants of a lattice and its bounds, and its constants by their variables
pub record AreEnds (sys : System) (lattice : ℕ) (ends : Ends) : Type 0 where
  pub constants : AreThose (IsConstant sys lattice) ends.constants.items
  pub bounds : AreThose (IsBound sys lattice) ends.bounds.items
  pub starts : AreStartsBelow sys lattice (length sys.constraints) ends.starts.items

-- those of each lattice, in order
pub record AllEnds (sys : System) (lattices : ℕ) (ends : List Ends) : Type 0 where
  pub count : length ends ≡ lattices
  pub each : (n : ℕ) (own : Ends) → slice_get ends n ≡ Some own → AreEnds sys n own
