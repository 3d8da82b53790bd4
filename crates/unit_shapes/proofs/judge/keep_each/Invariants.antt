use Rattle.std.proofs.Common.{◌≡◌, drop, map}
use Rattle.name_state.specs.UnitNames.Shown.{fault_of}
use Rattle.unit_shapes.specs.Faults.{some_fault_of, keep}
use Rattle.unit_shapes.proofs.judge.keep_each.Given as goal

-- the best fault so far, with the faults left, is the best of the first and all faults
abbrev pub invariant-loop-fault : goal.invariant-loop-fault
invariant-loop-fault l =
    keep (some_fault_of l.best) (map fault_of (drop l.fault-index l.faults))
    ≡ keep (some_fault_of l.initial.best) (map fault_of l.faults)
