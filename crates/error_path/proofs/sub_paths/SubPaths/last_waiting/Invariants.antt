use Rattle.std.proofs.Common.{ℕ, List, length}
use Rattle.flow_graph.specs.declared.proof.PathStep.{PathStep}
use Rattle.flow_graph.specs.System.{System}
use Rattle.match_summary.specs.declared.reason.Summary.{Summary}
use Rattle.error_path.specs.Drafts.{AreDrafts}
use Rattle.error_path.proofs.sub_paths.SubPaths.last_waiting.Given as goal

abbrev pub invariant-loop-draft : goal.invariant-loop-draft
invariant-loop-draft l =
    (sys : System) (lattice : ℕ) (rows : List Summary) (subs : List (List PathStep))
    → AreDrafts sys lattice rows subs l.fn.waiting.items →
    AreDrafts sys lattice rows subs l.waiting.items

abbrev pub decreases-loop-draft : goal.decreases-loop-draft
decreases-loop-draft l = length l.waiting.items
