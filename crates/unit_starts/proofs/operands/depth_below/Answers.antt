use Rattle.unit_starts.proofs.operands.depth_below.Goals as goal

pub returns : goal.returns
returns c = c.depth_below.ensures c.args.types.now
