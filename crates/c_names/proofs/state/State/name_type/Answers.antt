use Rattle.c_names.proofs.Low.{declared_low}
use Rattle.c_names.proofs.state.State.name_type.Goals as goal

pub name_type-requires : goal.name_type-requires
name_type-requires c =
    declared_low c.args.types.now c.args.self.now c.requires c.in-Some.declaration _ c.in-Some.ensures
