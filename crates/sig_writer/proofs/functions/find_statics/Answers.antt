use Rattle.std.proofs.Common.{arith}
use Rattle.sig_writer.proofs.Statics.{static_added}
use Rattle.sig_writer.proofs.functions.find_statics.Goals as goal

-- one more entry keeps what is known the table of `static` of the entries so far
pub loop-it-preserved : goal.loop-it-preserved
loop-it-preserved c =
    static_added c.args.statics.now c.loop-it.it-index c.it-item.result c.loop-it.known c.insert.new.self
    tt c.it-item.is
    (omega arith) c.loop-it.invariant c.in-Ok.ensures.updates.0
