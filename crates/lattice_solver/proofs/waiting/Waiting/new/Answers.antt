use Rattle.std.proofs.Common.{◌≡◌, length, true, false, arith, sym, ◌∙◌}
use Rattle.lattice_solver.proofs.waiting.Waiting.new.Goals as goal

-- a new stack has a place for each mark, and nobody on it
pub invariant_of-result : goal.invariant_of-result
invariant_of-result c =
    let places : length c.in_ok-places.places.items ≡ c.args.vars = c.in_ok-places.ensures in
    let marks : length c.in_ok-marks.marks.items ≡ c.args.vars = c.in_ok-marks.ensures.size in
    record {
      same = places ∙ sym marks;
      few = omega (arith, marks, c.ranges.vars.fits);
      height = omega arith;
      low = λ i v lt there. absurd (omega (arith, lt));
      held = λ v is. let none : true ≡ false = sym is ∙ c.in_ok-marks.ensures.none v in absurd cc;
    }
