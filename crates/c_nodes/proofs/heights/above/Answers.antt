use Rattle.std.proofs.Common.{ℕ, ◌+◌, min, ap, ◌∙◌}
use Rattle.c_nodes.proofs.HeightLemmas.{capped_above}
use Rattle.c_nodes.proofs.heights.above.Goals as goal

pub returns : goal.returns
returns c = λ x is. c.saturating_add.ensures ∙ ap (λ (n : ℕ). min (n + 1) 4294967295) is ∙ capped_above x
