use Rattle.std.proofs.Common.{◌≡◌, inl, inr}
use Rattle.std.specs.Int.{bit_at}
use Rattle.std.proofs.lemmas.Nat.{le_or_l}
use Rattle.lattice_core.proofs.Bits.{or_left, or_right, or_either}
use Rattle.lattice_core.proofs.rows.raised.Goals as goal

pub returns-then-has-clause-more : goal.returns-then-has-clause-more
returns-then-has-clause-more c = le_or_l c.args.grown c.args.upper

pub returns-then-has-clause-kept : goal.returns-then-has-clause-kept
returns-then-has-clause-kept c i h = or_left c.args.grown c.args.upper i h

pub returns-then-has-clause-added : goal.returns-then-has-clause-added
returns-then-has-clause-added c i there h = or_right c.args.grown c.args.upper i h

-- where the row has the element, what it gains is of the rows of its elements
pub returns-then-has-clause-only : goal.returns-then-has-clause-only
returns-then-has-clause-only c i h =
    let there : bit_at c.args.row c.args.at ≡ 1 = c.has.ensures.exact.0 c.if-has.true in
    elim (or_either c.args.grown c.args.upper i h) [
      | inl before ↦ inl before
      | inr new ↦ inr (there, new)
    ]
