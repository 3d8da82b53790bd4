use Rattle.lattice_core.proofs.Bits.{and_both, and_of_both}
use Rattle.lattice_core.proofs.rows.narrowed.Goals as goal

-- where the set has the element, what is left is what the element's row has too
pub returns-then-has : goal.returns-then-has
returns-then-has c i = (
  λ h. let both = and_both c.args.left c.args.row i h in (both.0, λ _. both.1),
  λ h. and_of_both c.args.left c.args.row i h.0 (h.1 (c.has.ensures.exact.0 c.if-has.true)),
)
