use Rattle.flow_query.proofs.Listing.{led, not_led}
use Rattle.flow_query.proofs.Walking.{reach_of}
use Rattle.annotate.proofs.Writing.{on_ok}
use Rattle.flow_query.proofs.Keeping.{done_put, sound_put, stays_put}
use Rattle.flow_query.proofs.walks.add_walk.Goals as goal

-- where the search has not reached the variable, its start does not lead there, and no walk is wanting
pub returns-then-not-reaches-clause-done : goal.returns-then-not-reaches-clause-done
returns-then-not-reaches-clause-done c = λ none leads.
    let section = c.args.section.now in
    let search = c.args.search.now in
    let tells = c.reaches.ensures section.graph.now section.lattice search.start c.requires.section.owned
    (reach_of section search c.requires.search) in
    not_led c.reaches.result tells c.if-not-reaches.true ((c.leads_are_walks.ensures section.graph.now section.lattice
    search.start section.var c.requires.section.owned).0 leads)

-- a variable that the search has reached is gone to from its start, as `walk_to` requires
pub walk_to-requires-clause-goes : goal.walk_to-requires-clause-goes
walk_to-requires-clause-goes c =
    let section = c.args.section.now in
    let search = c.args.search.now in
    led c.reaches.result (c.reaches.ensures section.graph.now section.lattice search.start c.requires.section.owned
    (reach_of section search c.requires.search)) c.if-not-reaches.false

-- with the walk that is added all walks are shown to lead
pub returns-clause-sound : goal.returns-clause-sound
returns-clause-sound c =
    let section = c.args.section.now in
    let search = c.args.search.now in
    let tells = c.reaches.ensures section.graph.now section.lattice search.start c.requires.section.owned
    (reach_of section search c.requires.search) in
    let goes = led c.reaches.result tells c.if-not-reaches.false in
    on_ok c.insert.result c.insert.ensures (λ put. sound_put section.graph.now section.lattice c.args.walks.now
    c.insert.new.self search.start section.var c.in_ok-walk.walk put (
      (c.leads_are_walks.ensures section.graph.now section.lattice search.start section.var
          c.requires.section.owned).1 goes,
      c.in_ok-walk.ensures,
    ) c.requires.sound)

-- with the walk that is added no pair of variables is without a walk that was not so before
pub returns-clause-stays : goal.returns-clause-stays
returns-clause-stays c =
    let section = c.args.section.now in
    let search = c.args.search.now in
    on_ok c.insert.result c.insert.ensures (λ put.
    stays_put section.graph.now section.lattice c.args.walks.now c.insert.new.self search.start section.var
    c.in_ok-walk.walk put)

-- with the walk that is added the start of the search has its walk to the variable
pub returns-clause-done : goal.returns-clause-done
returns-clause-done c =
    let section = c.args.section.now in
    let search = c.args.search.now in
    on_ok c.insert.result c.insert.ensures (λ put.
    done_put section.graph.now section.lattice c.args.walks.now c.insert.new.self search.start section.var
    c.in_ok-walk.walk put)
