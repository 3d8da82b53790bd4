use Rattle.std.proofs.Common.{arith}
use Rattle.std.proofs.lemmas.Grind.{common_steps}
use Rattle.std.proofs.lemmas.List.{take_rest}
use Rattle.cqual_tool.proofs.Pieces.{written_on}
use Rattle.cqual_tool.proofs.sending.send.Goals as goal

-- one more put keeps what was sent a part of the text, and written behind what was there
pub loop-sent-preserved : goal.loop-sent-preserved
loop-sent-preserved g c = record {
  part = grind (arith, common_steps);
  written = written_on (g.O.Sink.written c.args.out.now) (g.O.Sink.written c.loop-sent.out)
      (g.O.Sink.written c.put.new.self) c.args.text.now c.loop-sent.sent c.in_ok-sent.field-0
      c.loop-sent.invariant.written (rw take_rest at c.in_ok-sent.ensures.written);
  failed = grind arith;
}
