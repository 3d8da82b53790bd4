use Rattle.error_path.proofs.reaches.Reaches.find.Given as goal

abbrev pub invariant-loop-place : goal.invariant-loop-place
invariant-loop-place l = Unit {0}
