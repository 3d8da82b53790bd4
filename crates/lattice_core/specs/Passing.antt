-- What a lattice says of pointers and structs as a whole.
use Rattle.std.specs.Prelude.{Bool, true, false, Option, Some, None}
use Rattle.lattice_core.specs.declared.Direction.{Direction}
use Rattle.lattice_core.specs.declared.Direction.TheVariants.{Up, Down}
use Rattle.lattice_core.specs.declared.Flows.{Flows}

-- nothing passes through pointers, nor into fields
abbrev pub no_flows : Flows
no_flows = record { ptr = None; field = false }

-- a pointer is at or above what it points to
abbrev pub is_up : Option Direction → Bool
is_up (Some Up) = true
is_up (Some Down) = false
is_up None = false

-- a pointer is at or below what it points to
abbrev pub is_down : Option Direction → Bool
is_down (Some Up) = false
is_down (Some Down) = true
is_down None = false
