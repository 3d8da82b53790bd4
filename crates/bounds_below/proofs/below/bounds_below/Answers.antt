use Rattle.std.proofs.Common.{ℕ, sym, subst}
use Rattle.flow_graph.specs.System.{AllBelow}
use Rattle.bounds_below.proofs.below.bounds_below.Goals as goal

-- the new sets have a place for each variable, and the index and the summaries are of the graph
pub saturate-requires-clause-ready : goal.saturate-requires-clause-ready
saturate-requires-clause-ready c = record {
  below = subst (λ (n : ℕ). AllBelow c.args.graph.now n) (sym c.in_ok-work.ensures.size) c.vars.ensures.above;
  indexed = c.in_ok-index.ensures;
  summarised = c.requires;
}
