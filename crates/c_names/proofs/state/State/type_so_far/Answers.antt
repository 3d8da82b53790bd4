use Rattle.c_names.proofs.Low.{top_is, declared_low}
use Rattle.c_names.proofs.state.State.type_so_far.Goals as goal

-- the type so far of the innermost declaration is a number of the table
pub returns-in-Some-clause-low : goal.returns-in-Some-clause-low
returns-in-Some-clause-low c =
    let there = top_is c.args.self.now.declarations c.in-Some.declaration.now c.in-Some.ensures in
    declared_low c.args.types.now c.args.self.now c.requires c.in-Some.declaration.now there.0 there.1
