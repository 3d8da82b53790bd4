use Rattle.c_names.proofs.Low.{declared_low, type_low}
use Rattle.c_names.proofs.state.State.declare.Goals as goal

pub declare_name-requires : goal.declare_name-requires
declare_name-requires c =
    declared_low c.args.types.now c.args.self.now c.requires c.in-Some.declaration _ c.in-Some.ensures

pub untagged_number-untagged-requires : goal.untagged_number-untagged-requires
untagged_number-untagged-requires c =
    type_low c.args.types.now c.args.self.now c.requires c.in-Some.declaration _ c.in-Some.ensures
