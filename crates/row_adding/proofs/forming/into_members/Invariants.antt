use Rattle.std.proofs.Common.{map, take}
use Rattle.name_state.specs.UnitNames.Shown.{own_of}
use Rattle.row_rules.specs.Forming.{into_members}
use Rattle.row_world.specs.Shown.{type}
use Rattle.row_adding.specs.Adding.{Adds}
use Rattle.row_adding.specs.Forming.{ways_of}
use Rattle.row_adding.proofs.forming.into_members.Given as goal

abbrev pub invariant-loop-it : goal.invariant-loop-it
invariant-loop-it l =
    Adds l.known l.fn.graph l.graph
    (λ w. into_members (ways_of l.ways) w.skeletons l.span l.of (map (own_of (type l.known)) (take l.it-index l.own)))
