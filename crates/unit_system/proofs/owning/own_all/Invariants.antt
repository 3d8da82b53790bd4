use Rattle.std.proofs.Common.{◌≡◌, ◌+◌, ◌++◌, drop, length, map}
use Rattle.row_rules.specs.Sites.{owners_among, variables_among}
use Rattle.unit_starts.specs.Views.{start_in}
use Rattle.unit_system.proofs.owning.own_all.Given as goal

-- invariant of the loop: the owners so far, with those of the skeletons still to come, are the owners of all
abbrev pub invariant-loop-start : goal.invariant-loop-start
invariant-loop-start l =
    (l.graph.owners ++ owners_among l.functions (map (start_in l.types) (drop l.start-index l.starts))
    ≡ owners_among l.functions (map (start_in l.types) l.starts))
    × (length l.graph.owners ≡ l.from)
    × (l.from + variables_among (map (start_in l.types) (drop l.start-index l.starts))
    ≡ variables_among (map (start_in l.types) l.starts))
    × (l.graph.sites ≡ l.initial.graph.sites)
    × (l.graph.constraints ≡ l.initial.graph.constraints)
