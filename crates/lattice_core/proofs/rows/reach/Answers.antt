use Rattle.std.proofs.Common.{inl, inr, arith}
use Rattle.std.proofs.lemmas.Nat.Bits.{bit_at-zero}
use Rattle.std.proofs.lemmas.Bool.{cases_eq}
use Rattle.lattice_core.specs.Rows.{Here}
use Rattle.lattice_core.proofs.Reaching.{closed_has}
use Rattle.lattice_core.proofs.rows.reach.Goals as goal

-- at first the row has the start alone, which leads to itself
pub loop-row-init : goal.loop-row-init
loop-row-init c = record {
  begun = c.with-row.ensures.same;
  sound = λ i h. elim (cases_eq i c.args.start) [
    | inl e ↦ rw e Here
    | inr ne ↦ absurd (omega (arith, bit_at-zero i, c.with-row.ensures.others i ne))
  ];
}

-- a row that a step leaves as it is has exactly what links lead to
pub returns-then-next-row : goal.returns-then-next-row
returns-then-next-row c = λ i. (
  c.loop-row.invariant.sound i,
  closed_has c.args.links.now c.loop-row.row c.args.start
      (c.step-next.ensures.closed c.if-next-row.true) c.loop-row.invariant.begun i,
)
