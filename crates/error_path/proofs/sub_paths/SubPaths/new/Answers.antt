use Rattle.std.proofs.Common.{ap}
use Rattle.flow_graph.specs.PathProofs.{steps_of}
use Rattle.error_path.proofs.Making.{made_none}
use Rattle.error_path.proofs.sub_paths.SubPaths.new.Goals as goal

pub returns-clause-made : goal.returns-clause-made
returns-clause-made c sys = made_none sys c.args.lattice _ _ (ap steps_of c.new.ensures.items) c.new-2.ensures
