use Rattle.std.proofs.Common.{◌≡◌, ◌<◌, length, reverse, slice_get, Some}
use Rattle.error_path.specs.declared.search.Reached.{Reached}
use Rattle.flow_graph.specs.Parts.{Goal, Onward}
use Rattle.error_path.specs.Made.{subs_in, IsMade}
use Rattle.error_path.proofs.traces.trace.Given as goal

-- the sub-paths are right, and if the first steps lead on to a goal, those so far do from this place
abbrev pub invariant-loop-from : goal.invariant-loop-from
invariant-loop-from l = record {
  made : IsMade l.graph l.subs;
  lattice : l.subs.lattice ≡ l.fn.subs.lattice;
  place : l.place < length l.reached;
  onward : (target : Goal)
      → ((r : Reached) → slice_get l.reached l.fn.place ≡ Some r
      → Onward l.graph l.fn.subs.lattice (subs_in l.fn.subs) target r.phase r.at (reverse l.fn.steps.items)) →
      (r : Reached) → slice_get l.reached l.place ≡ Some r
      → Onward l.graph l.fn.subs.lattice (subs_in l.subs) target r.phase r.at (reverse l.steps.items);
}

abbrev pub decreases-loop-from : goal.decreases-loop-from
decreases-loop-from l = l.place
