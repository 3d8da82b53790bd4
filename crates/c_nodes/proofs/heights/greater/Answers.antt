use Rattle.std.proofs.Common.{ℕ, min, max, ap, ◌∙◌}
use Rattle.c_nodes.proofs.HeightLemmas.{capped_max}
use Rattle.c_nodes.proofs.heights.greater.Goals as goal

pub returns : goal.returns
returns c =
    λ x y one other. c.max.ensures ∙ ap (λ (n : ℕ). max n c.args.other) one
    ∙ ap (λ (n : ℕ). max (min x 4294967295) n) other ∙ capped_max x y
