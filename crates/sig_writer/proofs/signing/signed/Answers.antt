use Rattle.std.proofs.Common.{ℕ, List, ◌∙◌, subst}
use Rattle.match_summary.specs.Summary.{SummarisesFrom}
use Rattle.sig_writer.proofs.Written.{all_nodes_are}
use Rattle.sig_writer.proofs.signing.signed.Goals as goal

-- the summaries of the graph with its nodes are those of the library's functions
pub signed_by-requires-clause-summaries : goal.signed_by-requires-clause-summaries
signed_by-requires-clause-summaries c =
    let sys = c.args.graph.now in
    let rows = c.in_ok-summaries.summaries in
    subst (λ (starts : List ℕ). SummarisesFrom sys 0 starts rows)
    (c.deref.ensures.value ∙ c.in_ok-vars.ensures ∙ all_nodes_are c.args.library.now)
    (subst (λ (n : ℕ). SummarisesFrom sys n c.deref.result.now rows) c.new-at.ensures c.in_ok-summaries.ensures)
