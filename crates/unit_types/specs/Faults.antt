-- Faults of names and types, and want of memory.
use Rattle.std.specs.Prelude.{List, Option, Some, None, IfSome}
use Rattle.name_rules.specs.Faults as rules
use Rattle.unit_shapes.specs.Faults.{fault_of}
use Rattle.unit_types.specs.declared.fault.ShapeFault.{ShapeFault}
use Rattle.unit_types.specs.declared.fault.ShapeFault.TheVariants as faults

-- the fault that is answered; none where memory was wanting
abbrev pub fault_in : ShapeFault → Option rules.Fault
fault_in (faults.Found it) = Some (fault_of it)
fault_in faults.NoMemory = None

-- memory was wanting, or it is the first of some faults
abbrev pub IsFirstUnlessMemory : ShapeFault → List rules.Fault → Type 0
IsFirstUnlessMemory fault all = IfSome (fault_in fault) (λ f. rules.IsFirst f all)
