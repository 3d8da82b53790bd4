use Rattle.std.proofs.Common.{◌∙◌}
use Rattle.error_path.proofs.Rooming.{marked_less, placed_less}
use Rattle.error_path.proofs.room.clear_found.Goals as goal

-- taking the marks and the place of the last item away leaves only those of items before it
pub loop-reached-preserved : goal.loop-reached-preserved
loop-reached-preserved c =
    let so_far = c.loop-reached.invariant in
    let all = c.loop-reached.queue.items in
    let left = c.pop.new.self.items in
    record {
      marked = marked_less c.loop-reached.marks c.clear.new.self all left c.in-Some.reached c.in-Some.ensures.items
          c.clear.ensures.here c.clear.ensures.others so_far.marked;
      placed = placed_less c.loop-reached.firsts c.clear_first.new.firsts all left c.in-Some.reached
          c.in-Some.ensures.items c.clear_first.ensures.here c.clear_first.ensures.others so_far.placed;
      size = c.clear.ensures.size ∙ so_far.size;
      length = c.clear_first.ensures.length ∙ so_far.length;
    }
