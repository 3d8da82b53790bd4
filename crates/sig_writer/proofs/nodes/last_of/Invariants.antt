use Rattle.std.proofs.Common.{◌≡◌, ◌-◌, length}
use Rattle.qual_types.specs.Rows.{skel_of}
use Rattle.sig_writer.specs.Nodes.{last_of}
use Rattle.sig_writer.proofs.nodes.last_of.Given as goal

abbrev pub invariant-loop-var : goal.invariant-loop-var
invariant-loop-var l = last_of (skel_of l.vars l.here) ≡ last_of (skel_of l.vars l.fn.at)

abbrev pub decreases-loop-var : goal.decreases-loop-var
decreases-loop-var l = length l.vars - l.here
