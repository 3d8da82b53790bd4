use Rattle.sig_writer.proofs.Shared.{one_plain}
use Rattle.sig_writer.proofs.suiting.is_one_plain.Goals as goal

pub returns-then-len-eq1 : goal.returns-then-len-eq1
returns-then-len-eq1 c =
    one_plain c.args.lattices.now c.new.result c.get.result.now c.is_plain.result
    (cc) c.new.ensures c.get.ensures c.is_plain.ensures
