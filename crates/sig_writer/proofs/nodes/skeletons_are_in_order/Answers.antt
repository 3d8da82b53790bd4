use Rattle.sig_writer.proofs.Orders.{skeletons_in_order}
use Rattle.sig_writer.proofs.nodes.skeletons_are_in_order.Goals as goal

pub returns : goal.returns
returns c = skeletons_in_order
