use Rattle.std.proofs.Common.{◌<◌, ℕ, ◌+◌, ◌-◌, ◌/◌, Some, arith, sym, ◌∙◌, ap}
use Rattle.std.proofs.lemmas.Option.{slice_get-get_or}
use Rattle.closure_check.proofs.Sorted.{below_on, behind_on, half_less}
use Rattle.closure_check.proofs.pairs.place_of.Goals as goal

-- where the middle pair comes before the two variables, so do all up to it
pub loop-low-preserved-then-is_below : goal.loop-low-preserved-then-is_below
loop-low-preserved-then-is_below c =
    let middle : ℕ = c.loop-low.low + (c.loop-low.high - c.loop-low.low) / 2 in
    let less : middle < c.loop-low.high = half_less c.loop-low.low c.loop-low.high c.loop-low-test.true in
    let inv = c.loop-low.invariant in
    let at = slice_get-get_or c.args.pairs.now middle c.index-pairs-middle.result (omega (arith, less, inv.1))
    ∙ ap Some (sym c.index-pairs-middle.is) in (
      omega (arith, less),
      inv.1,
      λ k p low there.
          below_on c.args.pairs.now middle k c.index-pairs-middle.result p c.args.from c.args.to c.requires at
          (sym c.is_below.ensures ∙ c.if-is_below.true) (omega (arith, low)) there,
      inv.3,
    )

-- where the middle pair does not come before the two variables, neither does any behind it
pub loop-low-preserved : goal.loop-low-preserved
loop-low-preserved c =
    let middle : ℕ = c.loop-low.low + (c.loop-low.high - c.loop-low.low) / 2 in
    let less : middle < c.loop-low.high = half_less c.loop-low.low c.loop-low.high c.loop-low-test.true in
    let inv = c.loop-low.invariant in
    let at = slice_get-get_or c.args.pairs.now middle c.index-pairs-middle.result (omega (arith, less, inv.1))
    ∙ ap Some (sym c.index-pairs-middle.is) in (
      omega arith,
      omega (arith, less, inv.1),
      inv.2,
      λ k p low there.
          behind_on c.args.pairs.now middle k c.index-pairs-middle.result p c.args.from c.args.to c.requires at
          (sym c.is_below.ensures ∙ c.if-is_below.false) low there,
    )
