use Rattle.flow_systems.proofs.building.link_of.Goals as goal

pub returns-in-Const : goal.returns-in-Const
returns-in-Const g c = c.const_of.ensures c.args.sites

pub returns-in-ConstIn : goal.returns-in-ConstIn
returns-in-ConstIn g c = c.const_of-in-ConstIn.ensures c.args.sites

pub returns-in-Bound : goal.returns-in-Bound
returns-in-Bound g c = c.bound_of.ensures c.args.sites

pub returns-in-BoundIn : goal.returns-in-BoundIn
returns-in-BoundIn g c = c.bound_of-in-BoundIn.ensures c.args.sites
