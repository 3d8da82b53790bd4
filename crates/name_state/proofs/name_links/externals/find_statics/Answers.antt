use Rattle.std.proofs.Common.{arith}
use Rattle.name_state.proofs.NameLinks.Things.{static_added}
use Rattle.name_state.proofs.name_links.externals.find_statics.Goals as goal

-- one `static` more: its unit and name are known
pub loop-it-preserved : goal.loop-it-preserved
loop-it-preserved c =
    static_added c.args.statics.now c.loop-it.it-index c.it-item.result c.loop-it.known c.insert.new.self
    tt c.it-item.is
    (omega arith) c.loop-it.invariant c.in-Ok.ensures.updates.0
