use Rattle.std.proofs.Common.{◌≡◌, ◌+◌, ◌-◌, ◌≤◌, ◌++◌}
use Rattle.constraint_gen.specs.Listing.{numbers}
use Rattle.constraint_gen.proofs.listing.add_numbers.Given as goal

-- invariant of the loop: what is found, with the numbers still to come, is what was there and all the numbers
abbrev pub invariant-loop-number : goal.invariant-loop-number
invariant-loop-number l =
    (l.found.items ++ numbers (l.from + l.count - l.number) l.number ≡ l.initial.found.items ++ numbers l.count l.from)
    × (l.number ≤ l.from + l.count)
