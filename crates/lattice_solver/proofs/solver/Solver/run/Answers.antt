use Rattle.std.proofs.Common.{◌≡◌, ◌<◌, ap, sym, ◌∙◌, subst, arith}
use Rattle.match_summary.specs.Crossings.{AreCrossings}
use Rattle.match_summary.specs.Summary.{Summarises}
use Rattle.flow_graph.specs.Index.{IsIndexOf}
use Rattle.flow_graph.specs.Paths.{Lead}
use Rattle.lattice_solver.specs.Phases.{size_of}
use Rattle.lattice_solver.specs.Solution.{Solution}
use Rattle.lattice_solver.proofs.Leading.{union_leads}
use Rattle.lattice_solver.proofs.Gaining.{below_same}
use Rattle.lattice_solver.proofs.solver.Solver.run.Goals as goal

-- the index, the crossings and the summaries that are lent are of the graph, in a lattice below 16
pub saturate-requires-clause-ready : goal.saturate-requires-clause-ready
saturate-requires-clause-ready c =
    let named : c.self.inside.lattice ≡ c.args.self.now.lattice = ap (λ (s : Solution). s.lattice) c.self.view_is in
    let size = c.clear.ensures.size ∙ ap (λ (s : Solution). size_of s.phases) c.self.view_is in
    record {
      lattice = subst (λ n. n < 16) (sym named) c.requires.lattice;
      below = below_same c.args.graph.now _ _ size c.requires.fits.below;
      indexed = subst (IsIndexOf c.args.graph.now)
          (sym (ap (λ (s : Solution). s.index) c.self.view_is)) c.requires.fits.indexed;
      crossings = subst (AreCrossings c.args.graph.now)
          (sym (ap (λ (s : Solution). s.crossings) c.self.view_is)) c.requires.fits.crossings;
      summarised = subst (λ l. Summarises c.args.graph.now l c.args.summaries.now) (sym named) c.requires.summaries;
    }

pub saturate-requires-clause-room : goal.saturate-requires-clause-room
saturate-requires-clause-room c =
    let same = c.clear-2.ensures.size ∙ ap (λ (s : Solution). size_of s.passed) c.self.view_is in
    omega (arith, c.requires.fits.room, same)

-- after a run the sets have exactly what leads to each variable in each phase
pub returns-clause-solved : goal.returns-clause-solved
returns-clause-solved c =
    let named : c.self.inside.lattice ≡ c.args.self.now.lattice = ap (λ (s : Solution). s.lattice) c.self.view_is in
    let size =
    c.saturate.ensures.size ∙ c.clear.ensures.size ∙ ap (λ (s : Solution). size_of s.phases) c.self.view_is in
    let room =
    c.saturate.ensures.same ∙ c.clear-2.ensures.size ∙ ap (λ (s : Solution). size_of s.passed) c.self.view_is in
    record {
      exact = c.saturate.ensures.exact;
      summaries = c.args.summaries.now;
      summarised = subst (λ l. Summarises c.args.graph.now l c.args.summaries.now) (sym named) c.requires.summaries;
      fits = record {
        below = below_same c.args.graph.now _ _ size c.requires.fits.below;
        indexed = subst (IsIndexOf c.args.graph.now)
            (sym (ap (λ (s : Solution). s.index) c.self.view_is)) c.requires.fits.indexed;
        crossings = subst (AreCrossings c.args.graph.now)
            (sym (ap (λ (s : Solution). s.crossings) c.self.view_is)) c.requires.fits.crossings;
        room = omega (arith, c.requires.fits.room, room);
      };
    }

-- after a run a variable has an element in either phase just if the element leads to it
pub returns-clause-reached : goal.returns-clause-reached
returns-clause-reached c = λ v e.
    let here =
    union_leads c.args.graph.now c.self.inside.lattice c.saturate.new.work.sets c.saturate.ensures.exact v e in
    let named : c.self.inside.lattice ≡ c.args.self.now.lattice = ap (λ (s : Solution). s.lattice) c.self.view_is in (
      λ has. subst (λ l. Lead c.args.graph.now l e v) named (here.0 has),
      λ path. here.1 (subst (λ l. Lead c.args.graph.now l e v) (sym named) path),
    )
