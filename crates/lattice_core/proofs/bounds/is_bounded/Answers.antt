use Rattle.std.proofs.Common.{sym, ◌∙◌}
use Rattle.lattice_core.proofs.UpperLower.{bounds_found}
use Rattle.lattice_core.proofs.bounds.is_bounded.Goals as goal

-- two elements with a least upper bound in both tables have both bounds
pub returns-then-is_some : goal.returns-then-is_some
returns-then-is_some c = rw c.is_some-then-is_some.ensures (
    bounds_found c.args.above.now c.args.below.now c.requires.converse c.args.a c.args.b c.least_upper.result
    c.least_upper-then-is_some.result
    (sym c.is_some.ensures ∙ c.if-is_some.true) c.least_upper.ensures c.least_upper-then-is_some.ensures)
