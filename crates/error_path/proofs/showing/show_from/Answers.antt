use Rattle.std.proofs.Common.{◌≡◌, ℕ, List, [], ◌∷◌, reverse, slice_get, refl, sym, ◌∙◌, ap, subst}
use Rattle.std.proofs.lemmas.Option.{slice_get_within}
use Rattle.flow_graph.specs.declared.constraint.Link.TheVariants.{Bound}
use Rattle.flow_graph.specs.declared.proof.PathStep.{PathStep}
use Rattle.flow_graph.specs.declared.proof.PathStep.TheVariants.{Take}
use Rattle.flow_graph.specs.System.{Stands}
use Rattle.flow_graph.specs.PathProofs.{steps_of, AreApart}
use Rattle.flow_graph.specs.Parts.{AreSubs, Goal, ToBound, Ends, Onward}
use Rattle.error_path.specs.declared.search.Origin.{Origin}
use Rattle.error_path.specs.declared.search.Origin.TheVariants.{Element}
use Rattle.error_path.specs.declared.search.Reached.{Reached}
use Rattle.error_path.specs.Made.{place_of, subs_in}
use Rattle.error_path.specs.Reaches.{LedBy}
use Rattle.error_path.specs.Reaching.{AreSound}
use Rattle.error_path.specs.Traced.{IsTraced}
use Rattle.error_path.proofs.Found.{found_sound}
use Rattle.error_path.proofs.Making.{made_apart}
use Rattle.error_path.proofs.Tracing.{path_of, some_given, some_if}
use Rattle.error_path.proofs.showing.show_from.Goals as goal

-- the variable of the bound, which the element leads to, has a first place in the queue
pub unwrap-place-requires : goal.unwrap-place-requires
unwrap-place-requires c =
    let reach = c.args.found.now in
    let target = c.args.target.now in
    let From : Origin → Type 0 = λ o. LedBy c.args.graph.now reach.lattice o target.at in
    let Lat : ℕ → Type 0 = λ l. LedBy c.args.graph.now l (Element target.elem) target.at in
    let led = subst From (sym c.requires.origin) (subst Lat (sym c.requires.lattice) c.requires.lead) in
    some_if c.place_of.result _ c.place_of.ensures.none (λ missed. missed (c.requires.found.whole target.at led))

pub trace-requires-clause-made : goal.trace-requires-clause-made
trace-requires-clause-made c = c.new-subs.ensures.made c.args.graph.now

-- the place of the bound's variable is within the queue
pub trace-requires-clause-place : goal.trace-requires-clause-place
trace-requires-clause-place c =
    let at = some_given _ c.place_of.result c.unwrap-place.result c.unwrap-place.ensures c.place_of.ensures.found in
    slice_get_within c.queue.result.now c.unwrap-place.result at.0
    (ap (λ xs. slice_get xs c.unwrap-place.result) c.queue.ensures ∙ at.1)

-- the queue of the element is sound for the given summaries in the lattice of the new sub-paths
pub trace-requires-clause-sound : goal.trace-requires-clause-sound
trace-requires-clause-sound c =
    let origin : Origin = Element c.args.target.now.elem in
    let Of : ℕ → Type 0 = λ l. AreSound c.args.graph.now l origin c.args.summaries.now c.args.found.now.queue.items in
    let At : List Reached → Type 0 =
    λ xs. AreSound c.args.graph.now c.new-subs.result.lattice origin c.args.summaries.now xs in (
      origin,
      subst At (sym c.queue.ensures)
          (subst Of (sym c.new-subs.ensures.lattice)
          (found_sound c.args.graph.now c.args.found.now c.args.target.now.lattice origin c.args.summaries.now
          c.requires.found c.requires.lattice c.requires.origin c.requires.summaries)),
    )

-- the steps traced from the bound, turned round, are a path from a constant of the element to it
pub returns : goal.returns
returns c =
    let sys = c.args.graph.now in
    let to = c.args.target.now.lattice in
    let from = c.new-subs.result.lattice in
    let bound = c.args.target.now.bound in
    let elem = c.args.target.now.elem in
    let origin : Origin = Element elem in
    let end : Goal = ToBound bound in
    let at = some_given _ c.place_of.result c.unwrap-place.result c.unwrap-place.ensures c.place_of.ensures.found in
    let Of : ℕ → Type 0 = λ l. AreSound sys l origin c.args.summaries.now c.args.found.now.queue.items in
    let At : List Reached → Type 0 = λ xs. AreSound sys from origin c.args.summaries.now xs in
    let found = subst At (sym c.queue.ensures)
    (subst Of (sym c.new-subs.ensures.lattice) (found_sound sys c.args.found.now to origin c.args.summaries.now
    c.requires.found c.requires.lattice c.requires.origin c.requires.summaries)) in
    let there = ap (λ xs. slice_get xs c.unwrap-place.result) c.queue.ensures ∙ at.1 in
    let Var : ℕ → Type 0 = λ v. Stands sys to bound (Bound v to c.requires.bound.0) in
    let first : Onward sys to (subs_in c.new-subs.result) end at.0.phase at.0.at (Take bound 0 ∷ []) =
    Ends bound at.0.phase at.0.at c.requires.bound.0 (subst Var (sym at.2) c.requires.bound.1) in
    let steps : reverse c.push_take.new.steps.items ≡ Take bound 0 ∷ [] =
    c.in_ok-push_take.ensures ∙ ap (λ xs. Take bound 0 ∷ reverse xs) c.new-steps.ensures.items in
    let In : ℕ → Type 0 = λ l. Onward sys l (subs_in c.new-subs.result) end at.0.phase at.0.at (Take bound 0 ∷ []) in
    let Steps : List PathStep → Type 0 = λ xs. Onward sys from (subs_in c.new-subs.result) end at.0.phase at.0.at xs in
    let on = subst Steps (sym steps) (subst In (sym c.new-subs.ensures.lattice) first) in
    let path = c.in_ok-trace.ensures.path origin end at.0 found there on in
    let made = c.in_ok-trace.ensures.made in
    let same : steps_of c.into_paths.result.items ≡ subs_in c.trace.new.subs = ap steps_of c.into_paths.ensures in
    let Good : ℕ → Type 0 = λ l. AreSubs sys l (subs_in c.trace.new.subs) in
    let Subs : List (List PathStep) → Type 0 = λ xs. AreSubs sys to xs in
    let Apart : List (List PathStep) → Type 0 = λ xs. AreApart sys xs in
    let Lat : ℕ → Type 0 =
    λ l. IsTraced sys l (subs_in c.trace.new.subs) origin end (reverse c.trace.new.steps.items) in
    let Over : List (List PathStep) → Type 0 = λ xs. IsTraced sys to xs origin end (reverse c.trace.new.steps.items) in
    let Main : List PathStep → Type 0 = λ xs. IsTraced sys to (steps_of c.into_paths.result.items) origin end xs in
    record {
      subs = subst Subs (sym same) (subst Good (c.in_ok-trace.ensures.lattice ∙ c.new-subs.ensures.lattice) made.good);
      path = path_of sys to (steps_of c.into_paths.result.items) elem bound _ (subst Main (sym c.reverse.ensures.items)
          (subst Over (sym same) (subst Lat c.new-subs.ensures.lattice path)));
      apart = subst Apart (sym same)
          (made_apart sys c.trace.new.subs.lattice (subs_in c.trace.new.subs) (place_of c.trace.new.subs) made);
      end = refl;
    }
