use Rattle.unit_starts.proofs.operands.is_zero_at.Goals as goal

pub returns : goal.returns
returns c = c.is_zero_at.ensures c.args.types.now
