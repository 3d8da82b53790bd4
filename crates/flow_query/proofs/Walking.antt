-- What a search in a section has found.
use Rattle.std.proofs.Common.{ℕ, Ok, Err, IfOk, sym, ◌∙◌, subst}
use Rattle.std.specs.declared.result.Result.{Result}
use Rattle.flow_graph.specs.declared.proof.Walk.{Walk}
use Rattle.flow_graph.specs.PathProofs.{steps_of}
use Rattle.flow_graph.specs.Leading.{GoesTo}
use Rattle.match_summary.specs.Summary.{Summarises}
use Rattle.error_path.specs.Reaches.{IsReachOf}
use Rattle.error_path.specs.Traced.{IsWalkShown}
use Rattle.walk_laws.specs.Laws.{WalkShown}
use Rattle.flow_query.specs.declared.searches.Search.{Search}
use Rattle.flow_query.specs.declared.searches.Section.{Section}
use Rattle.flow_query.specs.Answers.{IsWalkTo}
use Rattle.flow_query.specs.Searches.{IsSearchIn, IsSection}

-- what holds of a success gives what follows from it
pub if_ok : {T E : Type 0} {P Q : T → Type 0} (r : Result T E) → IfOk r P → ((x : T) → P x → Q x) → IfOk r Q
if_ok (Ok x) p f = f x p
if_ok (Err e) p f = tt

-- a search of the lattice of a section
pub reach_of : (section : Section) (search : Search) → IsSearchIn section search
    → IsReachOf section.graph.now section.lattice search.start search.reach
reach_of section search found =
    let At : ℕ → Type 0 = λ l. IsReachOf section.graph.now l search.start search.reach in
    subst At found.lattice_is found.is

module _ (section : Section) (search : Search) (to : ℕ) (is : IsSection section)
    (in_it : IsSearchIn section search) where
  abbrev found : IsReachOf section.graph.now section.lattice search.start search.reach
  found = reach_of section search in_it

  pub summarised : Summarises section.graph.now search.reach.found.lattice section.solved.now.summaries
  summarised =
      let At : ℕ → Type 0 = λ l. Summarises section.graph.now l section.solved.now.summaries in
      subst At (is.solution.lattice_is ∙ sym found.lattice_is) is.solution.summarised

  pub reached : GoesTo section.graph.now section.lattice search.start to →
      (start : ℕ) × IsReachOf section.graph.now search.reach.found.lattice start search.reach
      × GoesTo section.graph.now search.reach.found.lattice start to
  reached goes =
      let At : ℕ → Type 0 = λ l. IsReachOf section.graph.now l search.start search.reach in
      let To : ℕ → Type 0 = λ l. GoesTo section.graph.now l search.start to in
      (search.start, subst At (sym found.lattice_is) found, subst To (sym found.lattice_is) goes)

  pub walked : WalkShown → (walk : Walk) →
      ((start : ℕ) → IsReachOf section.graph.now search.reach.found.lattice start search.reach →
      IsWalkShown section.graph.now search.reach.found.lattice start to walk) →
      IsWalkTo section.graph.now section.lattice search.start to walk
  walked law walk shown =
      let At : ℕ → Type 0 = λ l. IsReachOf section.graph.now l search.start search.reach in
      let By : ℕ → Type 0 = λ l. IsWalkShown section.graph.now l search.start to walk in
      let here = subst By found.lattice_is (shown search.start (subst At (sym found.lattice_is) found)) in
      record {
        holds =
            law section.graph.now section.lattice search.start to walk.end (steps_of walk.subs.items) walk.steps.items
            here.subs here.walk;
        apart = here.apart;
      }
