use Rattle.std.proofs.Common.{◌≡◌, ℕ, ◌<◌, true, false, length, get_or}
use Rattle.flow_graph.specs.declared.constraint.Link.TheVariants.{Enter}
use Rattle.flow_graph.specs.System.{AllBelow, Stands, vars_of}
use Rattle.match_summary.specs.Summary.{IsInnerEnd}
use Rattle.match_summary.proofs.closure.inner_ends.Given as goal

-- only inner ends are marked, and those of each constraint before this one are
abbrev pub invariant-loop-n : goal.invariant-loop-n
invariant-loop-n l = record {
  size : length l.ends.items ≡ vars_of l.graph;
  below : AllBelow l.graph (length l.ends.items);
  only : (a : ℕ) → get_or l.ends.items a false ≡ true → IsInnerEnd l.graph l.lattice a;
  all : (k s u a : ℕ) → k < l.n → Stands l.graph l.lattice k (Enter s u a) → get_or l.ends.items a false ≡ true;
}
