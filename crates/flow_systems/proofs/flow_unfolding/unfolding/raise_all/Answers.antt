use Rattle.std.proofs.Common.{◌≡◌, length, sym, subst}
use Rattle.std.proofs.lemmas.Bool.{OnFalse_at}
use Rattle.flow_systems.specs.declared.flow_unfolding.assignment.Assignment.{Assignment}
use Rattle.flow_systems.specs.FlowUnfolding.Assignment.{map_of}
use Rattle.flow_systems.specs.FlowUnfolding.Meeting.{AgreesBelow}
use Rattle.flow_systems.proofs.FlowUnfolding.Rising.{all_rise}
use Rattle.flow_systems.proofs.flow_unfolding.unfolding.raise_all.Goals as goal

-- an assignment that a turn over all constraints and copies leaves as it is, rises along all of them
pub returns-then-not-grew-clause-rises : goal.returns-then-not-grew-clause-rises
returns-then-not-grew-clause-rises c =
    let Agrees : Assignment → Type 0 = λ k.
    AgreesBelow c.args.graph.now c.args.lattice_no c.args.lattice.now.order c.args.depth (map_of k) c.args.strings.now
    (length c.args.graph.now.constraints) in
    let same : c.turn.new.map ≡ c.loop.map = OnFalse_at c.if-not-grew.true c.in_ok-grew.ensures.same in
    let agrees : Agrees c.loop.map = OnFalse_at c.if-not-grew.true c.in_ok-grew.ensures.agrees in
    all_rise c.args.graph.now c.args.lattice_no c.args.lattice.now.order c.args.depth (map_of c.turn.new.map)
    c.args.strings.now c.requires.all c.in_ok-grew.ensures.low.elements (subst Agrees (sym same) agrees)
