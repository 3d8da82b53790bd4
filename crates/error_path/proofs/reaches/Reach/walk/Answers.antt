use Rattle.std.proofs.Common.{◌≡◌, ℕ, List, [], reverse, slice_get, refl, sym, ◌∙◌, ap, subst}
use Rattle.std.proofs.lemmas.Option.{slice_get_within}
use Rattle.flow_graph.specs.declared.proof.PathStep.{PathStep}
use Rattle.flow_graph.specs.PathProofs.{steps_of, AreApart}
use Rattle.flow_graph.specs.Parts.{AreSubs, Goal, ToVariable, There, Onward}
use Rattle.error_path.specs.declared.search.Origin.{Origin}
use Rattle.error_path.specs.declared.search.Reached.{Reached}
use Rattle.error_path.specs.Made.{place_of, subs_in}
use Rattle.error_path.specs.Reaches.{LedBy}
use Rattle.error_path.specs.Reaching.{AreSound}
use Rattle.error_path.specs.Traced.{IsTraced}
use Rattle.error_path.proofs.Found.{found_sound}
use Rattle.error_path.proofs.Making.{made_apart}
use Rattle.error_path.proofs.Tracing.{some_given, some_if}
use Rattle.error_path.proofs.reaches.Reach.walk.Goals as goal

pub place_of-requires : goal.place_of-requires
place_of-requires c = c.requires.reached.1.is.firsts

-- a variable that is led to has a first place in the queue
pub unwrap-place-requires : goal.unwrap-place-requires
unwrap-place-requires c =
    let reach = c.args.self.now.found in
    let From : Origin → Type 0 = λ o. LedBy c.args.graph.now reach.lattice o c.args.to in
    let led = subst From (sym c.requires.reached.1.origin_is) c.requires.reached.2 in
    some_if c.place_of.result _ c.place_of.ensures.none (λ missed. missed (c.requires.reached.1.is.whole c.args.to led))

pub trace-requires-clause-made : goal.trace-requires-clause-made
trace-requires-clause-made c = c.new-subs.ensures.made c.args.graph.now

-- the first place of the variable is within the queue
pub trace-requires-clause-place : goal.trace-requires-clause-place
trace-requires-clause-place c =
    let at = some_given _ c.place_of.result c.unwrap-place.result c.unwrap-place.ensures c.place_of.ensures.found in
    slice_get_within c.queue.result.now c.unwrap-place.result at.0
    (ap (λ xs. slice_get xs c.unwrap-place.result) c.queue.ensures ∙ at.1)

-- the queue is sound for the given summaries in the lattice of the new sub-paths
pub trace-requires-clause-sound : goal.trace-requires-clause-sound
trace-requires-clause-sound c =
    let reach = c.args.self.now.found in
    let Of : ℕ → Type 0 = λ l. AreSound c.args.graph.now l reach.origin c.args.summaries.now reach.queue.items in
    let At : List Reached → Type 0 =
    λ xs. AreSound c.args.graph.now c.new-subs.result.lattice reach.origin c.args.summaries.now xs in (
      reach.origin,
      subst At (sym c.queue.ensures)
          (subst Of (sym (c.new-subs.ensures.lattice ∙ c.lattice.ensures))
          (found_sound c.args.graph.now reach reach.lattice reach.origin c.args.summaries.now c.requires.reached.1.is
          refl refl c.requires.summaries)),
    )

-- the steps that were traced, turned round, are a walk from the variable of the search to the other
pub returns : goal.returns
returns c = λ start found_from.
    let sys = c.args.graph.now in
    let reach = c.args.self.now.found in
    let from = c.new-subs.result.lattice in
    let lattice : from ≡ reach.lattice = c.new-subs.ensures.lattice ∙ c.lattice.ensures in
    let end : Goal = ToVariable c.args.to in
    let at = some_given _ c.place_of.result c.unwrap-place.result c.unwrap-place.ensures c.place_of.ensures.found in
    let Of : ℕ → Type 0 = λ l. AreSound sys l reach.origin c.args.summaries.now reach.queue.items in
    let At : List Reached → Type 0 = λ xs. AreSound sys from reach.origin c.args.summaries.now xs in
    let found = subst At (sym c.queue.ensures)
    (subst Of (sym lattice) (found_sound sys reach reach.lattice reach.origin c.args.summaries.now
    c.requires.reached.1.is refl refl c.requires.summaries)) in
    let there = ap (λ xs. slice_get xs c.unwrap-place.result) c.queue.ensures ∙ at.1 in
    let none : Onward sys from (subs_in c.new-subs.result) (ToVariable at.0.at) at.0.phase at.0.at [] =
    There at.0.phase at.0.at in
    let To : ℕ → Type 0 = λ v. Onward sys from (subs_in c.new-subs.result) (ToVariable v) at.0.phase at.0.at [] in
    let Steps : List PathStep → Type 0 =
    λ xs. Onward sys from (subs_in c.new-subs.result) end at.0.phase at.0.at (reverse xs) in
    let on = subst Steps (sym c.new-steps.ensures.items) (subst To at.2 none) in
    let path = c.in_ok-trace.ensures.path reach.origin end at.0 found there on in
    let made = c.in_ok-trace.ensures.made in
    let same : steps_of c.into_paths.result.items ≡ subs_in c.trace.new.subs = ap steps_of c.into_paths.ensures in
    let Good : ℕ → Type 0 = λ l. AreSubs sys l (subs_in c.trace.new.subs) in
    let Subs : List (List PathStep) → Type 0 = λ xs. AreSubs sys reach.lattice xs in
    let Apart : List (List PathStep) → Type 0 = λ xs. AreApart sys xs in
    let Lat : ℕ → Type 0 =
    λ l. IsTraced sys l (subs_in c.trace.new.subs) reach.origin end (reverse c.trace.new.steps.items) in
    let Over : List (List PathStep) → Type 0 =
    λ xs. IsTraced sys reach.lattice xs reach.origin end (reverse c.trace.new.steps.items) in
    let Main : List PathStep → Type 0 =
    λ xs. IsTraced sys reach.lattice (steps_of c.into_paths.result.items) reach.origin end xs in
    let From : Origin → Type 0 =
    λ o. IsTraced sys reach.lattice (steps_of c.into_paths.result.items) o end c.reverse.new.self.items in
    record {
      subs = subst Subs (sym same) (subst Good (c.in_ok-trace.ensures.lattice ∙ lattice) made.good);
      walk = subst From found_from.origin_is
          (subst Main (sym c.reverse.ensures.items) (subst Over (sym same) (subst Lat lattice path)));
      apart = subst Apart (sym same)
          (made_apart sys c.trace.new.subs.lattice (subs_in c.trace.new.subs) (place_of c.trace.new.subs) made);
      end = refl;
    }
