use Rattle.std.proofs.Common.{◌≡◌, ◌++◌, drop}
use Rattle.name_tables.specs.NameRecords.Bodies.{lying_in}
use Rattle.name_tables.proofs.name_records.body.Body.push_inner.Given as goal

-- the members so far, with those left that lie in the own one, are as at first with all; own members stay
abbrev pub invariant-loop-known : goal.invariant-loop-known
invariant-loop-known l =
    (l.self-inside.known.items ++ lying_in l.own (drop l.known-index l.inner) ≡ l.initial.self-inside.known.items
    ++ lying_in l.own l.inner)
    × (l.self-inside.own.items ≡ l.initial.self-inside.own.items)
