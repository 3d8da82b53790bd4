use Rattle.std.proofs.Common.{◌≡◌, ◌++◌, drop, reverse}
use Rattle.name_state.specs.UnitNames.Shared.{shared}
use Rattle.name_state.proofs.unit_names.shared.share_all.Given as goal

-- what is shared so far, with what the names left share, is what all of them do and what was at first
abbrev pub invariant-loop-it : goal.invariant-loop-it
invariant-loop-it l =
    shared l.declared (reverse (drop l.it-index l.names)) ++ l.round
    ≡ shared l.declared (reverse l.names) ++ l.initial.round
