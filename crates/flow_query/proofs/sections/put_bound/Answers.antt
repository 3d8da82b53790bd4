use Rattle.std.proofs.Common.{ℕ, subst}
use Rattle.flow_graph.specs.Leading.{GoesTo}
use Rattle.flow_query.specs.Answers.{IsWalkTo, ToText, NoTo}
use Rattle.annotate.proofs.Writing.{none_of, on_ok, some_of}
use Rattle.flow_query.proofs.Listing.{no_to, one_to, not_led, led}
use Rattle.flow_query.proofs.Walking.{reach_of}
use Rattle.flow_query.proofs.sections.put_bound.Goals as goal

-- a bound that the search has not reached is none to which the variable leads, and gives no text
pub returns-then-not-reaches : goal.returns-then-not-reaches
returns-then-not-reaches c =
    let section = c.args.section.now in
    let search = c.args.search.now in
    let tells = c.reaches.ensures section.graph.now section.lattice search.start c.requires.section.owned
    (reach_of section search c.requires.search) in
    let From : ℕ → Type 0 = λ u. GoesTo section.graph.now section.lattice u c.args.at → ⊥ in
    none_of c.args.scene.now c.args.out.now.items
    (λ s text. ToText s section.graph.now section.lattice section.var c.args.number text)
    (λ s shows. NoTo (no_to section.graph.now section.lattice section.var c.args.number c.args.at
    c.leads_are_walks.ensures c.requires.section.owned c.requires.bound
    (subst From c.requires.start (not_led c.reaches.result tells c.if-not-reaches.true))))

-- a bound that the search has reached is gone to from the variable, as `walk_to` requires
pub walk_to-requires-clause-goes : goal.walk_to-requires-clause-goes
walk_to-requires-clause-goes c =
    let section = c.args.section.now in
    let search = c.args.search.now in
    led c.reaches.result (c.reaches.ensures section.graph.now section.lattice search.start c.requires.section.owned
    (reach_of section search c.requires.search)) c.if-not-reaches.false

-- a bound that is reached gives its line and the walk to it
pub returns : goal.returns
returns c =
    let section = c.args.section.now in
    let search = c.args.search.now in
    let tells = c.reaches.ensures section.graph.now section.lattice search.start c.requires.section.owned
    (reach_of section search c.requires.search) in
    let From : ℕ → Type 0 = λ u. GoesTo section.graph.now section.lattice u c.args.at in
    let By : ℕ → Type 0 = λ u. IsWalkTo section.graph.now section.lattice u c.args.at c.in_ok-walk.walk in
    on_ok c.put_lines.result c.put_lines.ensures
    (λ put. some_of (λ s text. ToText s section.graph.now section.lattice section.var c.args.number text) put
    (λ s shows. one_to section.graph.now section.lattice section.var c.args.number c.args.at c.leads_are_walks.ensures
    c.requires.section.owned s c.in_ok-walk.walk c.requires.bound (subst From c.requires.start
    (led c.reaches.result tells c.if-not-reaches.false)) (subst By c.requires.start c.in_ok-walk.ensures)))
