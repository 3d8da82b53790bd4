use Rattle.std.proofs.Common.{arith, ◌≡◌, ◌∙◌, ◌-◌, ◌+◌, ◌<◌, [], ◌++◌, ap, subst, ℕ}
use Rattle.row_rules.specs.RowSteps.Steps as steps
use Rattle.skel_steps.specs.Picks.{IsPickedVal, with_candidate}
use Rattle.skel_steps.specs.Stepping.{state_of}
use Rattle.skel_steps.proofs.Candidates.{selected_next, selected_all}
use Rattle.skel_steps.proofs.picks.selected.Goals as goal

-- before the first association no candidate is kept, and all are to come
pub loop-number-init : goal.loop-number-init
loop-number-init c = λ w shows.
    let none : c.args.count - 0 ≡ c.args.count = omega arith in (
      [],
      c.new-picked.ensures,
      ap (λ (n : ℕ). steps.selected w c.args.token 0 n (state_of c.args.known.now c.args.stacks.now)) none,
    )

-- one association more keeps the candidates so far and those to come all of the selection
pub loop-number-preserved : goal.loop-number-preserved
loop-number-preserved c = λ w shows.
    let st = state_of c.args.known.now c.args.stacks.now in
    let n = c.loop-number.number in
    let so = c.loop-number.invariant w shows in
    let is = c.is_candidate-is.ensures w shows in
    let lt : n < c.args.count = c.loop-number-test.true in (
      with_candidate c.is_candidate-is.result so.0 (steps.candidate_at c.depth_of.result st),
      c.add_where.ensures so.0 so.1,
      (λ i. with_candidate (is i) so.0 (steps.candidate_at (c.depth_of.ensures i) st)
          ++ steps.selected w c.args.token (n + 1) (c.args.count - (n + 1)) st)
          ∙ selected_next w c.args.token n c.args.count st so.0 lt
          ∙ so.2,
    )

-- behind the last association what is kept is that of all candidates of the selection
pub returns : goal.returns
returns c = λ w shows.
    let k = c.args.known.now in
    let st = state_of k c.args.stacks.now in
    let so = c.loop-number.invariant w shows in
    let test = c.loop-number-test.false in
    subst (λ some. IsPickedVal k.vars.now some c.loop-number.picked)
    (selected_all w c.args.token c.loop-number.number c.args.count st so.0 test so.2) so.1
