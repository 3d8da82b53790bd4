use Rattle.std.proofs.Common.{ℕ, ◌<◌, List}
use Rattle.flow_graph.specs.declared.constraint.Link.TheVariants.{Const}
use Rattle.flow_graph.specs.System.{Stands, owner_of}
use Rattle.match_summary.specs.declared.reason.Summary.{Summary}
use Rattle.flow_graph.specs.declared.phase.Phase.TheVariants.{First}
use Rattle.flow_graph.specs.Parts.{settled}
use Rattle.error_path.specs.declared.search.Origin.TheVariants.{Element}
use Rattle.error_path.specs.Reaching.{Grows, IsGood, IsMarked}
use Rattle.error_path.proofs.search.Search.start_at_each.Given as goal

-- the search is good and grows, and the constants of the element before this constraint are marked
abbrev pub invariant-loop-n : goal.invariant-loop-n
invariant-loop-n l = record {
  good : (rows : List Summary) → IsGood l.graph l.lattice (Element l.elem) rows l.fn.self
      → IsGood l.graph l.lattice (Element l.elem) rows l.self;
  grows : Grows l.fn.self l.self;
  done : (k v : ℕ) → k < l.n → Stands l.graph l.lattice k (Const l.lattice l.elem v)
      → IsMarked l.self (settled (owner_of l.graph v) First) v;
}
