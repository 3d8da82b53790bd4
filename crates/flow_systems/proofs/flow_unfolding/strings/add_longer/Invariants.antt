use Rattle.std.proofs.Common.{◌≡◌, ℕ, ◌<◌, List, ◌∷◌, slice_get, Some}
use Rattle.std.specs.List.{Contains}
use Rattle.flow_systems.proofs.flow_unfolding.strings.add_longer.Given as goal

-- all that was there is there still, with the strings before this one, the site in front of each
abbrev pub invariant-loop-string : goal.invariant-loop-string
invariant-loop-string l = record {
  kept : (w : List ℕ) → Contains l.initial.all.items w → Contains l.all.items w;
  added : (k : ℕ) (w : List ℕ) → k < l.string-index → slice_get l.strings k ≡ Some w
      → Contains l.all.items (l.site ∷ w);
}
