use Rattle.std.proofs.Common.{◌≡◌, ℕ, ◌<◌, length}
use Rattle.flow_graph.specs.declared.constraint.Link.TheVariants.{Leave}
use Rattle.flow_graph.specs.System.{Has}
use Rattle.closure_check.specs.Index.{LiesIn, span_at}
use Rattle.closure_check.proofs.index.returns_of.Given as goal

-- there is a span for each site, and each return before this constraint lies in that of its site
abbrev pub invariant-loop-n : goal.invariant-loop-n
invariant-loop-n l = record {
  size : length l.spans.items ≡ length l.graph.sites;
  all : (n s y v : ℕ) → n < l.n → Has l.graph n (Leave s y v) → LiesIn (span_at l.spans.items s) n;
}
