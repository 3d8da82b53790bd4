use Rattle.std.proofs.Common.{◌≡◌, ℕ, List, get_or, inl, inr, arith, sym, subst}
use Rattle.std.specs.List.{Contains}
use Rattle.std.proofs.lemmas.Bool.{cases_lt}
use Rattle.bounds_below.specs.Carrying.{IsPassed}
use Rattle.bounds_below.proofs.Carried.{passed_on, passed_elsewhere}
use Rattle.bounds_below.proofs.Gaining.{gains_same, gains_then, system_same}
use Rattle.bounds_below.proofs.Items.{read_item, each_item}
use Rattle.bounds_below.proofs.flows.pass_groups.Goals as goal

pub loop-other-init : goal.loop-other-init
loop-other-init c =
    record { gains = gains_same _; sound = λ lead all. all; passed = λ k lt n. absurd (omega (arith, lt)) }

pub pass_group-requires-clause-ready : goal.pass_group-requires-clause-ready
pass_group-requires-clause-ready c = system_same c.args.flows.now _ _ c.loop-other.invariant.gains.size c.requires.ready

-- one more constraint of the site keeps the groups of those before it passed
pub loop-other-preserved : goal.loop-other-preserved
loop-other-preserved c =
    let sys = c.args.flows.now.graph.now in
    let lattice = c.args.flows.now.lattice in
    let rows = c.args.flows.now.summaries.now in
    let back = c.args.back.now in
    let so_far = c.loop-other.invariant in
    let step = c.in_ok-pass_group.ensures in
    let items = c.of_site-other-items.result.now in
    let Is : ℕ → Type 0 =
    λ m. IsPassed sys lattice rows c.args.had c.pass_group.new.work.sets.items back.site back.from m in
    record {
      gains = gains_then c.args.work.now c.loop-other.work c.pass_group.new.work so_far.gains step.gains;
      sound = λ lead all. step.sound lead (so_far.sound lead all);
      passed = λ k lt n. elim (cases_lt k c.loop-other.other-index) [
        | inl earlier ↦ passed_on sys lattice rows c.args.had c.loop-other.work.sets.items
            c.pass_group.new.work.sets.items back.site back.from _ step.gains.kept (so_far.passed k earlier n)
        | inr last ↦
            let is : c.loop-other.other-index ≡ k = omega (arith, lt, last) in
            let held = read_item Is items c.loop-other.other-index c.other-item.result c.loop-other-test.true
            c.other-item.is step.passed n in
            subst (λ (i : ℕ). Is (get_or items i n)) is held
      ];
    }

-- each group that ends with the `Leave` is passed: its `Enter` is one of the constraints of the site
pub returns-clause-passed : goal.returns-clause-passed
returns-clause-passed c = λ m.
    let sys = c.args.flows.now.graph.now in
    let lattice = c.args.flows.now.lattice in
    let rows = c.args.flows.now.summaries.now in
    let back = c.args.back.now in
    let Is : ℕ → Type 0 =
    λ m. IsPassed sys lattice rows c.args.had c.loop-other.work.sets.items back.site back.from m in
    passed_elsewhere sys lattice rows c.args.had c.loop-other.work.sets.items back.site back.from m
    (λ keyed. each_item Is c.of_site-other-items.result.now (λ k lt. c.loop-other.invariant.passed k
    (omega (arith, lt, c.loop-other-test.false))) m (subst (λ (row : List ℕ). Contains row m)
    (sym c.of_site-other-items.ensures) ((c.requires.ready.indexed.of_site back.site).all m keyed)))
