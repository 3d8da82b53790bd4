use Rattle.std.proofs.Common.{◌-◌, Some, refl, sym, ◌∙◌, ap, arith}
use Rattle.std.proofs.lemmas.Option.{slice_get-get_or, slice_get_within}
use Rattle.closure_check.proofs.Sorted.{ascends_more}
use Rattle.closure_check.proofs.part.are_ascending.Goals as goal

-- a pair behind its neighbour is behind all that come before that
pub loop-n-preserved : goal.loop-n-preserved
loop-n-preserved c =
    let begun = c.loop-n.invariant.begun in
    let before = slice_get-get_or c.args.pairs.now (c.loop-n.n - 1) c.index-pairs-n-in-loop-n.result
    (omega (arith, c.loop-n-test.true)) ∙ ap Some (sym c.index-pairs-n-in-loop-n.is) in
    let here = slice_get-get_or c.args.pairs.now c.loop-n.n c.index-pairs-n.result c.loop-n-test.true
    ∙ ap Some (sym c.index-pairs-n.is) in
    record {
      begun = omega (arith, begun);
      done = ascends_more c.args.pairs.now c.loop-n.n c.index-pairs-n-in-loop-n.result c.index-pairs-n.result begun
          before here (sym c.is_below.ensures ∙ c.if-not-is_below.false) c.loop-n.invariant.done;
    }

-- when no pair is left, each comes before those behind it
pub returns : goal.returns
returns c = (
  λ met i j p q less at there.
      let inside = slice_get_within c.args.pairs.now j q there in
      c.loop-n.invariant.done i j p q less (omega (arith, inside, c.loop-n-test.false)) at there,
  λ all. refl,
)
