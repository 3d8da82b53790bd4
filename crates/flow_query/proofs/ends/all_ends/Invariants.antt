use Rattle.flow_query.specs.Ends.{AllEnds}
use Rattle.flow_query.proofs.ends.all_ends.Given as goal

abbrev pub invariant-loop-n : goal.invariant-loop-n
invariant-loop-n l = AllEnds l.graph l.n l.ends.items
