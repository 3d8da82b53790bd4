use Rattle.std.proofs.Common.{◌≡◌, ℕ, List, get_or, inl, inr, refl, arith, sym, ◌∙◌, subst}
use Rattle.std.specs.List.{Contains}
use Rattle.std.proofs.lemmas.Bool.{cases_lt}
use Rattle.lattice_solver.specs.Stable.{IsCarried}
use Rattle.lattice_solver.specs.Working.{had_of}
use Rattle.lattice_solver.proofs.Agreeing.{carried_on, carried_elsewhere}
use Rattle.lattice_solver.proofs.Gaining.{gains_same, gains_then, system_same}
use Rattle.lattice_solver.proofs.Items.{read_item, each_item}
use Rattle.lattice_solver.proofs.turns.pass_on.Goals as goal

pub loop-edge-init : goal.loop-edge-init
loop-edge-init c = record {
  gains = gains_same _;
  sound = λ lead all. all;
  carried = λ k lt other. absurd (omega (arith, lt));
  over = c.requires.over;
  same = refl;
}

pub follow-requires-clause-ready : goal.follow-requires-clause-ready
follow-requires-clause-ready c = system_same c.args.flows.now _ _ c.loop-edge.invariant.gains.size c.requires.ready

-- following one more constraint keeps those before it carried and the passed sets right
pub loop-edge-preserved : goal.loop-edge-preserved
loop-edge-preserved c =
    let sys = c.args.flows.now.graph.now in
    let lattice = c.args.flows.now.lattice in
    let rows = c.args.flows.now.summaries.now in
    let had = had_of c.args.taken.now in
    let at = c.args.taken.now.at in
    let so_far = c.loop-edge.invariant in
    let step = c.follow.ensures in
    let Is : ℕ → Type 0 = λ n. IsCarried sys lattice rows had c.follow.new.work.sets at n in
    record {
      gains = gains_then c.args.work.now c.loop-edge.work c.follow.new.work so_far.gains step.gains;
      sound = λ lead all. step.sound lead (so_far.sound lead all);
      carried = λ k lt other. elim (cases_lt k c.loop-edge.edge-index) [
        | inl earlier ↦ carried_on sys lattice rows had had c.loop-edge.work.sets c.follow.new.work.sets
            (λ p. refl) step.gains.kept at _ (so_far.carried k earlier other)
        | inr last ↦
            let is : c.loop-edge.edge-index ≡ k = omega (arith, lt, last) in
            let held = read_item Is c.out-edge-items.result.now c.loop-edge.edge-index c.edge-item.result
            c.loop-edge-test.true c.edge-item.is step.carried other in
            subst (λ (i : ℕ). Is (get_or c.out-edge-items.result.now i other)) is held
      ];
      over = step.over;
      same = step.same ∙ so_far.same;
    }

-- each constraint is carried: it is one of those that begin at the variable, or it does not begin there
pub returns-clause-carried : goal.returns-clause-carried
returns-clause-carried c =
    let sys = c.args.flows.now.graph.now in
    let lattice = c.args.flows.now.lattice in
    let rows = c.args.flows.now.summaries.now in
    let had = had_of c.args.taken.now in
    let at = c.args.taken.now.at in
    let Is : ℕ → Type 0 = λ n. IsCarried sys lattice rows had c.loop-edge.work.sets at n in
    λ n. carried_elsewhere sys lattice rows had c.loop-edge.work.sets at n
    (λ keyed. each_item Is c.out-edge-items.result.now
    (λ k lt. c.loop-edge.invariant.carried k (omega (arith, lt, c.loop-edge-test.false))) n (subst
    (λ (row : List ℕ). Contains row n) (sym c.out-edge-items.ensures) ((c.requires.ready.indexed.out at).all n keyed)))
