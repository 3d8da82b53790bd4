-- The conditions on a system, one constraint at a time.
use Rattle.std.specs.Prelude.{◌≡◌, ◌<◌, ℕ}
use Rattle.qual_base.specs.declared.places.Owner.TheVariants.{Function}
use Rattle.lattice_core.specs.Order.{Order, size}
use Rattle.flow_graph.specs.declared.constraint.Link.{Link}
use Rattle.flow_graph.specs.declared.constraint.Link.TheVariants.{Le, Const, Bound, Enter, Leave}
use Rattle.flow_graph.specs.System.{System, owner_of, Has, Calls}

-- a link joins variables of the owners that it may
abbrev pub IsOwned : System → Link → Type 0
IsOwned sys (Le u v) = (f g : ℕ) → owner_of sys u ≡ Function f → owner_of sys v ≡ Function g → f ≡ g
IsOwned sys (Const l e v) = Unit {0}
IsOwned sys (Bound v l e) = Unit {0}
IsOwned sys (Enter s u v) = Calls sys s (owner_of sys u) (owner_of sys v)
IsOwned sys (Leave s u v) = Calls sys s (owner_of sys v) (owner_of sys u)

-- the constraint of this number, where there is one, joins variables of the owners that it may
abbrev pub IsOwnedAt : System → ℕ → Type 0
IsOwnedAt sys n = (link : Link) → Has sys n link → IsOwned sys link

-- a link names an element of the order, if it is a constant or a bound of the lattice
abbrev pub IsInOrder : ℕ → Order → Link → Type 0
IsInOrder lattice order (Le u v) = Unit {0}
IsInOrder lattice order (Const named e v) = named ≡ lattice → e < size order
IsInOrder lattice order (Bound v named e) = named ≡ lattice → e < size order
IsInOrder lattice order (Enter s u v) = Unit {0}
IsInOrder lattice order (Leave s u v) = Unit {0}

-- the constraint of this number, where it is a constant or a bound of the lattice, names an element of the order
abbrev pub IsNamedAt : System → ℕ → Order → ℕ → Type 0
IsNamedAt sys lattice order n = (link : Link) → Has sys n link → IsInOrder lattice order link
