use Rattle.std.proofs.Common.{ℕ, List, ◌++◌, refl, ◌∙◌, ap, sym}
use Rattle.generated_source.specs.declared.summary.Counts.{Counts}
use Rattle.generated_source.specs.Summary.{summary_text}
use Rattle.cqual_tool.proofs.Summing.{summed_as}
use Rattle.cqual_tool.proofs.making.summed.Goals as goal

-- the counts of the scene and the graph are those of the sum of what is judged
pub returns-clause-sum : goal.returns-clause-sum
returns-clause-sum c = λ it shows system.
    let counts : Counts = record {
      variables = c.count.result;
      constraints = c.len.result;
      sites = c.sites.result;
      errors = c.in_ok-errors.errors;
    } in
    summed_as c.args.number c.in_ok-errors.errors it c.args.graph.now counts _ _ system c.status_for.ensures
    (c.in_ok-put_summary.ensures
    ∙ ap (λ (bytes : List ℕ). bytes ++ summary_text c.args.number counts) c.new-text.ensures.items)
    (c.count.ensures.value ∙ sym shows.count) c.len.ensures.length c.sites.ensures refl
    (c.in_ok-errors.ensures.count it.scene shows) (λ none. c.in_ok-errors.ensures.accepted none it.scene shows)
    (λ some. c.in_ok-errors.ensures.rejected some it.scene shows)
