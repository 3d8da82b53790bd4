-- The constraints of an unfolding one by one, in one copy each.
use Rattle.std.specs.Prelude.{◌≡◌, ℕ, ◌<◌, List, length, slice_get, Some, true, false}
use Rattle.lattice_core.specs.Order.{Order, size, leq}
use Rattle.flow_graph.specs.declared.constraint.Link.{Link}
use Rattle.flow_graph.specs.declared.constraint.Link.TheVariants.{Le, Const, Bound, Enter, Leave}
use Rattle.flow_graph.specs.declared.constraint.Constraint.{Constraint}
use Rattle.flow_graph.specs.System.{System, owner_of, IsInLattice, Stands}
use Rattle.flow_graph.specs.PathRules.{link_ends}
use Rattle.flow_graph.specs.Unfolding.{Assignment, at, Rises, Meets}
use Rattle.flow_systems.specs.FlowUnfolding.Copies.{is_copy, stands, behind}

-- the element at which a link begins, in the copy where it stands; a bound's own variable has what it has
abbrev pub begin_element : System → Assignment → Link → List ℕ → ℕ
begin_element sys map (Le u v) w = at sys map u w
begin_element sys map (Const l e v) w = e
begin_element sys map (Bound v l e) w = at sys map v w
begin_element sys map (Enter s u v) w = at sys map u (behind w)
begin_element sys map (Leave s u v) w = at sys map u w

-- the copy from which the end of a link is met
abbrev pub end_sites : Link → List ℕ → List ℕ
end_sites (Le u v) w = w
end_sites (Const l e v) w = w
end_sites (Bound v l e) w = w
end_sites (Enter s u v) w = w
end_sites (Leave s u v) w = behind w

-- the assignment is one of elements
abbrev pub AreElements : Order → Assignment → Type 0
AreElements order map = (v : ℕ) (w : List ℕ) → map v w < size order

-- and is at or below each that rises along the constraints
pub record IsLow (sys : System) (lattice : ℕ) (order : Order) (depth : ℕ) (map : Assignment) : Type 0 where
  pub elements : AreElements order map
  pub below : (other : Assignment) → Rises sys lattice order depth other → (v : ℕ) (w : List ℕ)
      → leq order (map v w) (other v w) ≡ true

-- it rises along constraint n in copy w
abbrev pub AgreesAt : System → ℕ → Order → ℕ → Assignment → ℕ → List ℕ → Type 0
AgreesAt sys lattice order depth map n w =
    (c : Constraint) → slice_get sys.constraints n ≡ Some c → IsInLattice lattice c.link c.lattices
    → stands sys depth c.link w ≡ true →
    leq order (begin_element sys map c.link w) (at sys map (link_ends c.link) (end_sites c.link w)) ≡ true

-- in each of the first copies
abbrev pub AgreesUpTo : System → ℕ → Order → ℕ → Assignment → ℕ → List (List ℕ) → ℕ → Type 0
AgreesUpTo sys lattice order depth map n strings count =
    (k : ℕ) (w : List ℕ) → k < count → slice_get strings k ≡ Some w → AgreesAt sys lattice order depth map n w

-- along each of the first constraints in each copy
abbrev pub AgreesBelow : System → ℕ → Order → ℕ → Assignment → List (List ℕ) → ℕ → Type 0
AgreesBelow sys lattice order depth map strings count =
    (n : ℕ) → n < count → AgreesUpTo sys lattice order depth map n strings (length strings)

-- the assignment keeps constraint n, if it is a bound, in copy w
abbrev pub KeepsAt : System → ℕ → Order → ℕ → Assignment → ℕ → List ℕ → Type 0
KeepsAt sys lattice order depth map n w =
    (v e : ℕ) → Stands sys lattice n (Bound v lattice e) → is_copy sys depth (owner_of sys v) w ≡ true →
    leq order (at sys map v w) e ≡ true

-- the assignment keeps constraint n, if it is a bound, in each of the first copies
abbrev pub KeepsUpTo : System → ℕ → Order → ℕ → Assignment → ℕ → List (List ℕ) → ℕ → Type 0
KeepsUpTo sys lattice order depth map n strings count =
    (k : ℕ) (w : List ℕ) → k < count → slice_get strings k ≡ Some w → KeepsAt sys lattice order depth map n w

-- it keeps each of the first constraints, if it is a bound, in each copy
abbrev pub KeepsBelow : System → ℕ → Order → ℕ → Assignment → List (List ℕ) → ℕ → Type 0
KeepsBelow sys lattice order depth map strings count =
    (n : ℕ) → n < count → KeepsUpTo sys lattice order depth map n strings (length strings)

-- in some copy it is not at or below some bound
pub record IsOver (sys : System) (lattice : ℕ) (order : Order) (depth : ℕ) (map : Assignment) : Type 0 where
  pub number : ℕ
  pub var : ℕ
  pub element : ℕ
  pub bound : Stands sys lattice number (Bound var lattice element)
  pub sites : List ℕ
  pub in_copy : is_copy sys depth (owner_of sys var) sites ≡ true
  pub over : leq order (at sys map var sites) element ≡ false

-- no assignment meets the unfolding
abbrev pub IsUnmet : System → ℕ → Order → ℕ → Type 0
IsUnmet sys lattice order depth = (map : Assignment) → Meets sys lattice order depth map → ⊥
