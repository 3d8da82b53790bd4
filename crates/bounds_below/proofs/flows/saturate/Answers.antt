use Rattle.std.proofs.Common.{◌≡◌, ◌<◌, ℕ, List, length, inl, inr, sym, ◌∙◌, ap, subst, arith}
use Rattle.std.specs.Int.{bit_at}
use Rattle.std.specs.List.{Contains}
use Rattle.lattice_core.proofs.Bits.{none_in}
use Rattle.bounds_below.specs.Below.{AreBelow}
use Rattle.bounds_below.specs.Carrying.{AreSound, Has, left_in}
use Rattle.bounds_below.proofs.Carried.{agreed_below, empty_agrees, turn_agrees}
use Rattle.bounds_below.proofs.Gaining.{system_same, taken_less}
use Rattle.bounds_below.proofs.flows.saturate.Goals as goal

-- at first each variable waits or has an empty set, with which all constraints agree
pub loop-at-init : goal.loop-at-init
loop-at-init c =
    let start = c.in_ok-begin_all.ensures in
    record {
      size = start.gains.size;
      sound =
          start.sound (λ v b has. absurd (none_in b (subst (λ (set : ℕ). bit_at set b ≡ 1) (c.requires.empty v) has)));
      begun = start.begun;
      settled = λ v. elim (start.gains.still v) [
        | inl waits ↦ inl waits
        | inr same ↦
            inr (empty_agrees c.args.flows.now.graph.now c.args.flows.now.lattice c.args.flows.now.summaries.now
            c.begin_all.new.work.sets.items v (same ∙ c.requires.empty v))
      ];
    }

pub carry-requires : goal.carry-requires
carry-requires c =
    system_same c.args.flows.now _ _ (ap length c.take.ensures.sets ∙ c.loop-at.invariant.size) c.requires.ready

-- taking a variable and carrying what it has makes the room and those that wait fewer together
pub loop-at-smaller : goal.loop-at-smaller
loop-at-smaller c =
    let taken = taken_less c.loop-at.work c.take.new.self c.in-Some.at c.in-Some.ensures.taken c.take.ensures.sets in
    let less : left_in c.carry.new.work < left_in c.loop-at.work =
    omega (arith, taken, c.in_ok-carry.ensures.gains.left) in
    less

-- carrying back what a variable has makes the constraints agree there, or it waits again
pub loop-at-preserved : goal.loop-at-preserved
loop-at-preserved c =
    let sys = c.args.flows.now.graph.now in
    let lattice = c.args.flows.now.lattice in
    let so_far = c.loop-at.invariant in
    let step = c.in_ok-carry.ensures in
    let sets = c.take.ensures.sets in
    record {
      size = step.gains.size ∙ ap length sets ∙ so_far.size;
      sound = step.sound (subst (λ (xs : List ℕ). AreSound sys lattice xs) (sym sets) so_far.sound);
      begun = λ n v b st. step.gains.kept v b (subst (λ (xs : List ℕ). Has xs v b) (sym sets) (so_far.begun n v b st));
      settled = turn_agrees sys lattice c.args.flows.now.summaries.now c.loop-at.work c.take.new.self c.carry.new.work
          c.in-Some.at c.in-Some.ensures.taken sets step.gains step.carried
          so_far.settled;
    }

-- when no variable waits, the sets have just the bounds that each variable leads to
pub returns : goal.returns
returns c =
    let sys = c.args.flows.now.graph.now in
    let lattice = c.args.flows.now.lattice in
    let rows = c.args.flows.now.summaries.now in
    let so_far = c.loop-at.invariant in
    let none = c.in_default.ensures.none in
    subst (λ (xs : List ℕ). AreBelow sys lattice xs) (sym c.take.ensures.sets)
    (agreed_below sys lattice rows c.loop-at.work.sets.items c.requires.ready.summarised
    (λ v. elim (so_far.settled v) [
      | inl waits ↦ let lt = (subst (λ (xs : List ℕ). Contains xs v) none waits).1 in absurd (omega (arith, lt))
      | inr agrees ↦ agrees
    ]) so_far.sound so_far.begun)
