use Rattle.std.proofs.Common.{ℕ, refl}
use Rattle.flow_graph.specs.declared.constraint.Link.TheVariants.{Le, Enter, Leave}
use Rattle.flow_graph.specs.PathRules.{link_begins}
use Rattle.flow_graph.specs.Index.{IsKeyed}
use Rattle.flow_graph.proofs.Keyed.{item_keyed, keyed_item}
use Rattle.match_summary.specs.Closing.{IsFollowed}
use Rattle.match_summary.proofs.Followed.{begins_at}
use Rattle.match_summary.proofs.Growth.{followed_on, followed_from, grows_then, leads_grown}
use Rattle.match_summary.proofs.Turns.{turn_more, turns_all}
use Rattle.match_summary.proofs.closure.look.Goals as goal

pub follow-requires-clause-path : goal.follow-requires-clause-path
follow-requires-clause-path c = leads_grown _ _ c.args.from c.args.to c.loop-edge.invariant.grows c.requires.path

-- each constraint of the row begins at the end of the path
pub follow-requires-clause-edge : goal.follow-requires-clause-edge
follow-requires-clause-edge c =
    item_keyed c.args.given.now.graph.now link_begins c.args.to _ c.out-edge-items.result.now c.loop-edge.edge-index
    c.edge-item.result
    (c.requires.ready.index.out c.args.to) c.out-edge-items.ensures c.loop-edge-test.true c.edge-item.is

-- following one more constraint of the row keeps those before it followed
pub loop-edge-preserved : goal.loop-edge-preserved
loop-edge-preserved c =
    let so_far = c.loop-edge.invariant in
    let step = c.in_ok-follow.ensures in
    record {
      kept = step.kept;
      grows = grows_then _ _ _ so_far.grows step.grows;
      done = turn_more (λ (n : ℕ). IsFollowed c.args.given.now.graph.now c.args.given.now.lattice
          c.args.given.now.marks.now c.args.found.now.known c.follow.new.found.known c.args.from c.args.to n)
          c.out-edge-items.result.now c.loop-edge.edge-index c.edge-item.result c.loop-edge-test.true c.edge-item.is
          (λ k n lt is. followed_on _ _ _ _ _ _ _ _ _ step.grows (so_far.done k n lt is))
          (followed_from _ _ _ _ _ _ _ _ _ so_far.grows step.done);
    }

-- each constraint is followed: it is one of the row, or it does not begin at the end of the path
pub returns-clause-done : goal.returns-clause-done
returns-clause-done c = λ n.
    let listed = λ (has : IsKeyed c.args.given.now.graph.now link_begins c.args.to n).
    turns_all (λ (n : ℕ). IsFollowed c.args.given.now.graph.now c.args.given.now.lattice c.args.given.now.marks.now
    c.args.found.now.known c.loop-edge.found.known c.args.from c.args.to n) c.out-edge-items.result.now
    c.loop-edge.edge-index c.loop-edge-test.false c.loop-edge.invariant.done n
    (keyed_item c.args.given.now.graph.now link_begins c.args.to _ c.out-edge-items.result.now n
    (c.requires.ready.index.out c.args.to) c.out-edge-items.ensures has) in
    record {
      flow = λ w st. (listed (begins_at c.args.given.now.graph.now c.args.given.now.lattice n c.args.to
          (Le c.args.to w) st refl)).flow w st;
      enter = λ s a m st. (listed (begins_at c.args.given.now.graph.now c.args.given.now.lattice n c.args.to
          (Enter s c.args.to a) st refl)).enter s a m st;
      leave = λ s w m st. (listed (begins_at c.args.given.now.graph.now c.args.given.now.lattice n c.args.to
          (Leave s c.args.to w) st refl)).leave s w m st;
    }
