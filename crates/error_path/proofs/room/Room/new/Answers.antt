use Rattle.std.proofs.Common.{sym, ◌∙◌, arith}
use Rattle.std.proofs.Math.Nat.{le-max_right}
use Rattle.error_path.proofs.room.Room.new.Goals as goal

-- a new room has marks for each variable and constraint of the graph, and nothing set
pub returns-clause-room : goal.returns-clause-room
returns-clause-room c = record {
  vars = λ n link has.
      let low = c.vars.ensures.above n link has in
      let most = le-max_right c.args.vars c.vars.result in
      let size = c.in_ok-marks.ensures.size in
      let is = c.max-vars.ensures in
      omega (arith, low, most, size, is);
  constraints = let size = c.in_ok-passed.ensures.size in omega (arith, size, c.len.ensures.length);
  places = c.in_ok-firsts.ensures.size ∙ sym c.in_ok-marks.ensures.size;
  unmarked = c.in_ok-marks.ensures.none;
  none_passed = c.in_ok-passed.ensures.none;
  none_placed = c.in_ok-firsts.ensures.none;
}
