use Rattle.c_names.proofs.Low.{top_is, type_low}
use Rattle.c_names.proofs.state.State.declared_type.Goals as goal

-- the type of the innermost declaration's specifiers is a number of the table
pub returns-in-Some-clause-low : goal.returns-in-Some-clause-low
returns-in-Some-clause-low c =
    let there = top_is c.args.self.now.declarations c.in-Some.declaration.now c.in-Some.ensures in
    type_low c.args.types.now c.args.self.now c.requires c.in-Some.declaration.now there.0 there.1
