use Rattle.std.proofs.Common.{◌≡◌, ℕ, reverse, get_or, sym, ◌∙◌, subst}
use Rattle.std.proofs.lemmas.Option.{slice_get-get_or, slice_get_within}
use Rattle.error_path.specs.declared.search.Reached.{Reached}
use Rattle.flow_graph.specs.Parts.{Onward}
use Rattle.error_path.specs.Made.{subs_in}
use Rattle.error_path.specs.Reaching.{ComesBy}
use Rattle.error_path.specs.Traced.{IsTraced}
use Rattle.error_path.proofs.Tracing.{match_none, match_some, some_given, some_reached}
use Rattle.error_path.proofs.traces.trace.Goals as goal

-- the cause of an item tells how its variable was reached
pub trace_step-requires-clause-comes : goal.trace_step-requires-clause-comes
trace_step-requires-clause-comes c =
    let place = c.loop-from.place in
    let r = get_or c.args.reached.now place c.index-reached-place.result in
    let there = slice_get-get_or c.args.reached.now place c.index-reached-place.result c.loop-from.invariant.place in
    let origin = c.requires.sound.0 in
    let Of : ℕ → Type 0 =
    λ l. ComesBy c.args.graph.now l origin c.args.summaries.now c.args.reached.now place r.phase r.at r.cause in (
      origin,
      c.args.reached.now,
      place,
      r.phase,
      r.at,
      subst Of (sym c.loop-from.invariant.lattice) (c.requires.sound.1 place r there),
    )

-- the steps of a cause begin at an earlier place of the queue
pub loop-from-smaller : goal.loop-from-smaller
loop-from-smaller c =
    let place = c.loop-from.place in
    let r = get_or c.args.reached.now place c.index-reached-place.result in
    let there = slice_get-get_or c.args.reached.now place c.index-reached-place.result c.loop-from.invariant.place in
    let origin = c.requires.sound.0 in
    let Of : ℕ → Type 0 =
    λ l. ComesBy c.args.graph.now l origin c.args.summaries.now c.args.reached.now place r.phase r.at r.cause in
    let comes = subst Of (sym c.loop-from.invariant.lattice) (c.requires.sound.1 place r there) in
    (some_given _ c.in_ok-from.field-0 c.in-Some.from c.in-Some.is
    (c.in_ok-from.ensures.earlier origin c.args.reached.now place r.phase r.at comes)).before

-- steps from a variable on to a goal, with those of its cause in front, go on from the earlier place
pub loop-from-preserved : goal.loop-from-preserved
loop-from-preserved c =
    let sys = c.args.graph.now in
    let place = c.loop-from.place in
    let lattice = c.args.subs.now.lattice in
    let inv = c.loop-from.invariant in
    let r0 = get_or c.args.reached.now place c.index-reached-place.result in
    let there = slice_get-get_or c.args.reached.now place c.index-reached-place.result inv.place in
    let origin = c.requires.sound.0 in
    let Of : ℕ → Type 0 =
    λ l. ComesBy sys l origin c.args.summaries.now c.args.reached.now place r0.phase r0.at r0.cause in
    let comes = subst Of (sym inv.lattice) (c.requires.sound.1 place r0 there) in
    let earlier = some_given _ c.in_ok-from.field-0 c.in-Some.from c.in-Some.is
    (c.in_ok-from.ensures.earlier origin c.args.reached.now place r0.phase r0.at comes) in
    record {
      made = c.in_ok-from.ensures.made;
      lattice = c.in_ok-from.ensures.extends.lattice ∙ inv.lattice;
      place = slice_get_within c.args.reached.now c.in-Some.from earlier.it earlier.there;
      onward = λ target begun r is.
          let Old : ℕ → Type 0 =
          λ l. Onward sys l (subs_in c.loop-from.subs) target r0.phase r0.at (reverse c.loop-from.steps.items) in
          let step = match_some _ _ c.in_ok-from.field-0 c.in-Some.from c.in-Some.is
          (c.in_ok-from.ensures.traced origin target c.args.reached.now place r0.phase r0.at comes
          (subst Old (sym inv.lattice) (inv.onward target begun r0 there))) in
          let same : step.0.it ≡ r = some_reached (sym step.0.there ∙ is) in
          let New : Reached → Type 0 = λ x. Onward sys lattice (subs_in c.trace_step.new.subs) target x.phase x.at
          (reverse c.trace_step.new.steps.items) in
          let In : ℕ → Type 0 = λ l. Onward sys l (subs_in c.trace_step.new.subs) target step.0.it.phase step.0.it.at
          (reverse c.trace_step.new.steps.items) in
          subst New same (subst In inv.lattice step.1);
    }

pub returns-in-None-clause-lattice : goal.returns-in-None-clause-lattice
returns-in-None-clause-lattice c = c.in_ok-from.ensures.extends.lattice ∙ c.loop-from.invariant.lattice

-- where no place is left, the steps lead from the origin to the goal
pub returns-in-None-clause-path : goal.returns-in-None-clause-path
returns-in-None-clause-path c = λ origin target r sound is on.
    let sys = c.args.graph.now in
    let place = c.loop-from.place in
    let inv = c.loop-from.invariant in
    let r0 = get_or c.args.reached.now place c.index-reached-place.result in
    let there = slice_get-get_or c.args.reached.now place c.index-reached-place.result inv.place in
    let Of : ℕ → Type 0 =
    λ l. ComesBy sys l origin c.args.summaries.now c.args.reached.now place r0.phase r0.at r0.cause in
    let comes = subst Of (sym inv.lattice) (sound place r0 there) in
    let At : Reached → Type 0 = λ x.
    Onward sys c.args.subs.now.lattice (subs_in c.args.subs.now) target x.phase x.at (reverse c.args.steps.now.items) in
    let begun = inv.onward target (λ x here. subst At (some_reached (sym is ∙ here)) on) r0 there in
    let Old : ℕ → Type 0 =
    λ l. Onward sys l (subs_in c.loop-from.subs) target r0.phase r0.at (reverse c.loop-from.steps.items) in
    let path = match_none _ _ c.in_ok-from.field-0 c.in-None.is (c.in_ok-from.ensures.traced origin target
    c.args.reached.now place r0.phase r0.at comes (subst Old (sym inv.lattice) begun)) in
    let In : ℕ → Type 0 =
    λ l. IsTraced sys l (subs_in c.trace_step.new.subs) origin target (reverse c.trace_step.new.steps.items) in
    subst In inv.lattice path
