use Rattle.std.proofs.Common.{◌∙◌}
use Rattle.std.proofs.lemmas.Result.{IfOk-weaker}
use Rattle.error_path.proofs.reaches.Reaches.ask.Goals as goal

-- the place of what was searched for is that of the lattice and the element
pub returns-clause-place : goal.returns-clause-place
returns-clause-place c =
    IfOk-weaker c.keep.result _ _
    (λ place is. (is.0, is.1, is.2 ∙ c.in_ok-reach.ensures.lattice, is.3 ∙ c.in_ok-reach.ensures.origin))
    c.keep.ensures.place
