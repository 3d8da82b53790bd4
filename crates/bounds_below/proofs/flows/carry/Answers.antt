use Rattle.std.proofs.Common.{◌≡◌, ℕ, List, get_or, inl, inr, arith, sym, subst}
use Rattle.std.specs.Int.{bit_at}
use Rattle.std.specs.List.{Contains}
use Rattle.std.proofs.lemmas.Bool.{cases_lt}
use Rattle.bounds_below.specs.Carrying.{IsCarried}
use Rattle.bounds_below.proofs.Carried.{carried_on, carried_elsewhere}
use Rattle.bounds_below.proofs.Gaining.{gains_same, gains_then, system_same}
use Rattle.bounds_below.proofs.Items.{read_item, each_item}
use Rattle.bounds_below.proofs.flows.carry.Goals as goal

pub loop-edge-init : goal.loop-edge-init
loop-edge-init c =
    record { gains = gains_same _; sound = λ lead all. all; carried = λ k lt n. absurd (omega (arith, lt)) }

pub follow-requires-clause-ready : goal.follow-requires-clause-ready
follow-requires-clause-ready c = system_same c.args.flows.now _ _ c.loop-edge.invariant.gains.size c.requires

-- each constraint of the row leads to the variable
pub follow-requires-clause-leads : goal.follow-requires-clause-leads
follow-requires-clause-leads c =
    (c.requires.indexed.into c.args.at).only c.edge-item.result
    (subst (λ (row : List ℕ). Contains row c.edge-item.result) c.into-edge-items.ensures
    (c.loop-edge.edge-index, c.loop-edge-test.true, sym c.edge-item.is))

-- following one more constraint back keeps those before it carried
pub loop-edge-preserved : goal.loop-edge-preserved
loop-edge-preserved c =
    let sys = c.args.flows.now.graph.now in
    let lattice = c.args.flows.now.lattice in
    let rows = c.args.flows.now.summaries.now in
    let had = c.set-had.result in
    let so_far = c.loop-edge.invariant in
    let step = c.in_ok-follow.ensures in
    let items = c.into-edge-items.result.now in
    let Is : ℕ → Type 0 = λ n. IsCarried sys lattice rows had c.follow.new.work.sets.items c.args.at n in
    record {
      gains = gains_then c.args.work.now c.loop-edge.work c.follow.new.work so_far.gains step.gains;
      sound = λ lead all. step.sound lead (so_far.sound lead all);
      carried = λ k lt n. elim (cases_lt k c.loop-edge.edge-index) [
        | inl earlier ↦ carried_on sys lattice rows had c.loop-edge.work.sets.items c.follow.new.work.sets.items
            c.args.at _ step.gains.kept (so_far.carried k earlier n)
        | inr last ↦
            let is : c.loop-edge.edge-index ≡ k = omega (arith, lt, last) in
            let held = read_item Is items c.loop-edge.edge-index c.edge-item.result c.loop-edge-test.true c.edge-item.is
            step.carried n in
            subst (λ (i : ℕ). Is (get_or items i n)) is held
      ];
    }

pub returns-clause-sound : goal.returns-clause-sound
returns-clause-sound c =
    λ all. c.loop-edge.invariant.sound
    (λ b has. all c.args.at b (subst (λ (set : ℕ). bit_at set b ≡ 1) c.set-had.ensures has)) all

-- each constraint is carried: it is one of the row, or it does not lead to the variable
pub returns-clause-carried : goal.returns-clause-carried
returns-clause-carried c = λ n.
    let sys = c.args.flows.now.graph.now in
    let lattice = c.args.flows.now.lattice in
    let rows = c.args.flows.now.summaries.now in
    let had = c.set-had.result in
    let Is : ℕ → Type 0 = λ n. IsCarried sys lattice rows had c.loop-edge.work.sets.items c.args.at n in
    subst (λ (set : ℕ). IsCarried sys lattice rows set c.loop-edge.work.sets.items c.args.at n) c.set-had.ensures
    (carried_elsewhere sys lattice rows had c.loop-edge.work.sets.items c.args.at n (λ keyed.
    each_item Is c.into-edge-items.result.now (λ k lt. c.loop-edge.invariant.carried k
    (omega (arith, lt, c.loop-edge-test.false))) n (subst (λ (row : List ℕ). Contains row n)
    (sym c.into-edge-items.ensures) ((c.requires.indexed.into c.args.at).all n keyed))))
