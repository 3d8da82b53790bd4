use Rattle.path_checker.proofs.Ordered.{all_ordered}
use Rattle.path_checker.proofs.checking.are_orders.Goals as goal

pub returns : goal.returns
returns c = all_ordered c.args.lattices.now c.law.ensures.lattices
