use Rattle.std.proofs.Common.{◌≡◌, ◌∙◌, ap, arith, get_or}
use Rattle.std.specs.Int.{bit_at}
use Rattle.std.proofs.lemmas.Grind.{common_steps}
use Rattle.std.proofs.lemmas.Result.{err_from_is_err_and}
use Rattle.lattice_core.proofs.Written.{low_unknown, high_unknown, all_known_on, linked_more}
use Rattle.lattice_core.proofs.checks.links.Goals as goal

-- the lower name of an order line that no entry has is the first unknown one
pub returns-in_err-low-clause-unknown : goal.returns-in_err-low-clause-unknown
returns-in_err-low-clause-unknown c =
    let p = err_from_is_err_and c.from_residual-in_err-low.result c.from_residual-in_err-low.ensures.1 in
    rw (p.1, p.2)
    (low_unknown c.args.entries.now c.args.pairs.now c.loop-pair.pair-index c.pair-item.result c.in_err-low.field-0.0
    c.loop-pair-test.true c.pair-item.is c.loop-pair.invariant.known c.in_err-low.ensures.unknown)

-- the upper name of an order line that no entry has is the first unknown one
pub returns-in_err-high-clause-unknown : goal.returns-in_err-high-clause-unknown
returns-in_err-high-clause-unknown c =
    let p = err_from_is_err_and c.from_residual-in_err-high.result c.from_residual-in_err-high.ensures.1 in
    rw (p.1, p.2) (high_unknown c.args.entries.now c.args.pairs.now c.loop-pair.pair-index c.pair-item.result
    c.in_ok-low.low c.in_err-high.field-0.0 c.loop-pair-test.true c.pair-item.is c.loop-pair.invariant.known
    c.in_ok-low.ensures.number c.in_err-high.ensures.unknown)

-- one more order line with known names sets its bit in the rows
pub loop-pair-preserved : goal.loop-pair-preserved
loop-pair-preserved c =
    let so_far = c.loop-pair.invariant in
    let entries = c.args.entries.now in
    let pairs = c.args.pairs.now in
    let k = c.loop-pair.pair-index in
    let pair = c.pair-item.result in
    let row : c.index.result.now ≡ get_or c.loop-pair.rows.items c.in_ok-low.low 0 = grind (arith, common_steps) in
    record {
      len = so_far.len;
      rows = linked_more entries pairs k pair c.loop-pair.rows.items c.in_ok-low.low c.in_ok-high.high c.with.result
          c.loop-pair-test.true c.pair-item.is
          c.in_ok-low.ensures.number c.in_ok-high.ensures.number (grind (arith, common_steps)) c.with.ensures.same
          (λ i ne. c.with.ensures.others i ne ∙ ap (λ r. bit_at r i) row) so_far.rows;
      known = all_known_on entries pairs k pair c.in_ok-low.low c.in_ok-high.high c.loop-pair-test.true c.pair-item.is
          so_far.known c.in_ok-low.ensures.number c.in_ok-high.ensures.number;
    }
