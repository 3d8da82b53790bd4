use Rattle.std.proofs.Common.{ℕ, sym, subst, arith}
use Rattle.flow_graph.specs.System.{System}
use Rattle.flow_query.specs.Searches.{IsFinder}
use Rattle.flow_query.specs.Walks.{AreSound, IsDone, StaysDone}
use Rattle.flow_query.proofs.Keeping.{all_next, all_taken, moved}
use Rattle.flow_query.proofs.walks.find_from.Goals as goal

-- the walks of the lattice are shown to lead in the section of each variable
pub find_walk-requires-clause-sound : goal.find_walk-requires-clause-sound
find_walk-requires-clause-sound c =
    let section = c.section_in-section.result in
    moved
    (λ s l. AreSound s l c.loop-var.walks) c.args.found.now.graph.now section.graph.now c.args.lattice section.lattice
    (sym c.section_in-section.ensures.graph) (sym c.section_in-section.ensures.lattice) c.loop-var.invariant.sound

-- the walk to one variable more keeps those to the variables so far
pub loop-var-preserved : goal.loop-var-preserved
loop-var-preserved c =
    let section = c.section_in-section.result in
    let sys = c.args.found.now.graph.now in
    let told = c.in_ok-finder.ensures in
    let here = c.section_in-section.ensures in
    let At : ℕ → Type 0 = λ v. IsDone sys c.args.lattice c.find_walk.new.walks c.args.at v in
    let stays = moved (λ s l. StaysDone s l c.loop-var.walks c.find_walk.new.walks) section.graph.now sys
    section.lattice c.args.lattice here.graph here.lattice told.stays in
    let done = moved (λ s l. IsDone s l c.find_walk.new.walks c.args.at section.var) section.graph.now sys
    section.lattice c.args.lattice here.graph here.lattice told.done in
    record {
      finder = subst (λ (g : System). IsFinder g c.in_ok-finder.finder) here.graph told.finder;
      sound = moved (λ s l. AreSound s l c.find_walk.new.walks) section.graph.now sys section.lattice c.args.lattice
          here.graph here.lattice told.sound;
      stays = λ u v own. stays u v (c.loop-var.invariant.stays u v own);
      done = all_next At c.args.vars.now c.loop-var.var-index c.var-item.result (omega arith) c.var-item.is
          (λ v there. stays c.args.at v (c.loop-var.invariant.done v there)) (subst At here.var done);
    }

pub returns-clause-done : goal.returns-clause-done
returns-clause-done c =
    all_taken (λ v. IsDone c.args.found.now.graph.now c.args.lattice c.loop-var.walks c.args.at v) c.args.vars.now
    c.loop-var.var-index c.loop-var.invariant.done (omega arith)
