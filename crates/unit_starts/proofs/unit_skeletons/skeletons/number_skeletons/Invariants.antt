use Rattle.std.proofs.Common.{drop, map}
use Rattle.unit_starts.specs.Views.{start_in}
use Rattle.unit_starts.specs.UnitSkeletons.Found.{IsNumbering}
use Rattle.unit_starts.proofs.unit_skeletons.skeletons.number_skeletons.Given as goal

-- invariant of the loop: the table and the index number the skeletons so far, with those still to come
abbrev pub invariant-loop-start : goal.invariant-loop-start
invariant-loop-start l =
    IsNumbering l.it.vars l.it.starts (map (start_in l.types) (drop l.start-index l.starts))
    (map (start_in l.types) l.starts)
