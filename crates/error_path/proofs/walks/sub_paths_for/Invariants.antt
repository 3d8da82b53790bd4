use Rattle.std.proofs.Common.{◌≡◌, ℕ, ◌<◌, Some, slice_get}
use Rattle.error_path.specs.Made.{subs_in, IsMade}
use Rattle.error_path.specs.Traced.{HasSub}
use Rattle.error_path.proofs.walks.sub_paths_for.Given as goal

-- the sub-paths are right in the lattice, and each pair before this one has one
abbrev pub invariant-loop-ends : goal.invariant-loop-ends
invariant-loop-ends l = record {
  made : IsMade l.graph l.subs;
  lattice : l.subs.lattice ≡ l.fn.lattice;
  each : (k u v : ℕ) → k < l.ends-index → slice_get l.pairs k ≡ Some (u, v) → HasSub l.graph (subs_in l.subs) u v;
}
