use Rattle.c_names.proofs.Low.{declared_low}
use Rattle.c_names.proofs.state.State.declare_member.Goals as goal

pub declare_member-requires : goal.declare_member-requires
declare_member-requires c =
    declared_low c.args.types.now c.args.self.now c.requires c.in-Some.declaration _ c.in-Some.ensures
