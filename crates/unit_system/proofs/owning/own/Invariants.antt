use Rattle.std.proofs.Common.{◌≡◌, ◌+◌, ◌-◌, ◌≤◌, ◌++◌, length, replicate}
use Rattle.unit_system.proofs.owning.own.Given as goal

-- invariant of the loop: as many variables have an owner as the number of the next
abbrev pub invariant-loop-number : goal.invariant-loop-number
invariant-loop-number l =
    (length l.graph.owners ≡ l.number)
    × (l.number ≤ l.from + l.count)
    × (l.graph.owners ++ replicate (l.from + l.count - l.number) l.owner
    ≡ l.initial.graph.owners ++ replicate l.count l.owner)
    × (l.graph.sites ≡ l.initial.graph.sites)
    × (l.graph.constraints ≡ l.initial.graph.constraints)
