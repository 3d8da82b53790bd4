use Rattle.std.proofs.Common.{ℕ, ◌<◌, List, [], ◌∷◌}
use Rattle.std.specs.List.{Contains}
use Rattle.flow_systems.proofs.flow_unfolding.strings.longer.Given as goal

-- the empty string is there, and each string with each site before this one in front
abbrev pub invariant-loop-s : goal.invariant-loop-s
invariant-loop-s l = record {
  empty : Contains l.all.items [];
  added : (s : ℕ) (w : List ℕ) → s < l.s → Contains l.strings w → Contains l.all.items (s ∷ w);
}
