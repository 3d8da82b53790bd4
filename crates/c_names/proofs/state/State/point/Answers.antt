use Rattle.c_names.proofs.Low.{declared_low}
use Rattle.c_names.proofs.state.State.point.Goals as goal

pub pointer-requires : goal.pointer-requires
pointer-requires c = declared_low c.args.types.now c.args.self.now c.requires c.in-Some.declaration _ c.in-Some.ensures
