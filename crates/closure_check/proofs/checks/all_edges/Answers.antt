use Rattle.std.proofs.Common.{◌≡◌, ℕ, false, true, refl, sym, ◌∙◌}
use Rattle.flow_graph.specs.declared.constraint.Link.TheVariants.{Le, Enter}
use Rattle.flow_graph.specs.PathRules.{link_begins}
use Rattle.flow_graph.proofs.Keyed.{item_keyed, keyed_item}
use Rattle.closure_check.specs.Checking.{AsksEdge}
use Rattle.closure_check.proofs.Turns.{keyed, turn_more, turns_all}
use Rattle.closure_check.proofs.checks.all_edges.Goals as goal

-- each constraint of the row begins at the end of the pair
pub is_edge_met-requires-clause-edge : goal.is_edge_met-requires-clause-edge
is_edge_met-requires-clause-edge c =
    item_keyed c.args.given.now.graph.now link_begins c.args.to _ c.out-edge-items.result.now c.loop-edge.edge-index
    c.edge-item.result
    (c.requires.index.out c.args.to) c.out-edge-items.ensures c.loop-edge-test.true c.edge-item.is

pub returns-then-not-is_edge_met : goal.returns-then-not-is_edge_met
returns-then-not-is_edge_met c = (
  λ (no : false ≡ true). absurd cc,
  λ all. sym c.if-not-is_edge_met.true ∙ c.is_edge_met.ensures.1 (all c.edge-item.result),
)

-- a constraint that is met joins those before it in the row
pub loop-edge-preserved : goal.loop-edge-preserved
loop-edge-preserved c =
    turn_more (λ (n : ℕ). AsksEdge c.args.given.now c.args.rule c.args.from c.args.to n) c.out-edge-items.result.now
    c.loop-edge.edge-index c.edge-item.result c.loop-edge-test.true c.edge-item.is c.loop-edge.invariant
    (c.is_edge_met.ensures.0 c.if-not-is_edge_met.false)

-- a pair is met by each constraint: those of its row were asked, and no other begins at its end
pub returns : goal.returns
returns c = (
  λ yes n.
      let listed = turns_all (λ (n : ℕ). AsksEdge c.args.given.now c.args.rule c.args.from c.args.to n)
      c.out-edge-items.result.now c.loop-edge.edge-index c.loop-edge-test.false c.loop-edge.invariant n in
      let among = keyed_item c.args.given.now.graph.now link_begins c.args.to _ c.out-edge-items.result.now n
      (c.requires.index.out c.args.to) c.out-edge-items.ensures in (
        λ is v f st. (listed (among (keyed c.args.given.now.graph.now c.args.given.now.at n link_begins c.args.to
            (Le c.args.to v) st refl))).0 is v f st,
        λ is s x st. (listed (among (keyed c.args.given.now.graph.now c.args.given.now.at n link_begins c.args.to
            (Enter s c.args.to x) st refl))).1 is s x st,
      ),
  λ all. refl,
)
