use Rattle.std.proofs.Common.{ℕ, List, subst}
use Rattle.flow_query.specs.Walks.{StartsDone}
use Rattle.flow_query.proofs.Keeping.{done_for_all}
use Rattle.flow_query.proofs.walks.push_walks.Goals as goal

-- the walks to the reached variables are those to all, as no constant leads to the others
pub returns-clause-pushed : goal.returns-clause-pushed
returns-clause-pushed c =
    let sys = c.args.found.now.graph.now in
    let Of : List ℕ → Type 0 = λ list. StartsDone sys c.args.lattice c.find_all.new.walks list in (
      c.find_all.new.walks,
      c.in_ok-push.ensures.items,
      record {
        sound = c.in_ok-finder.ensures.sound;
        done = done_for_all sys c.args.lattice c.find_all.new.walks c.args.vars.now c.in_ok-reached.reached.items
            c.in_ok-reached.ensures
            (subst Of c.deref.ensures.value c.in_ok-finder.ensures.done);
      },
    )
