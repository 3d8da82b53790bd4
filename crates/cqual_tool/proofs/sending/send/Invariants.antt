use Rattle.std.proofs.Common.{◌≡◌, ◌≤◌, ◌-◌, ◌++◌, length, take}
use Rattle.cqual_tool.proofs.sending.send.Given as goal

-- a front of the text, of the length that is sent, is written, and no put failed
abbrev pub invariant-loop-sent : goal.invariant-loop-sent
invariant-loop-sent g l = record {
  part : l.sent ≤ length l.text;
  written : g.O.Sink.written l.out ≡ g.O.Sink.written l.fn.out ++ take l.sent l.text;
  failed : g.O.Sink.failed l.out ≡ g.O.Sink.failed l.fn.out;
}

abbrev pub decreases-loop-sent : goal.decreases-loop-sent
decreases-loop-sent g l = length l.text - l.sent
