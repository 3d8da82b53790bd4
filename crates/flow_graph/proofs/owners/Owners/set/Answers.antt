use Rattle.std.proofs.Common.{arith}
use Rattle.flow_graph.proofs.Owning.{owner-set_same, owner-set_other}
use Rattle.flow_graph.proofs.owners.Owners.set.Goals as goal

-- a variable has the owner that was just set
pub returns-clause-owner : goal.returns-clause-owner
returns-clause-owner c =
    owner-set_same c.make_room.new.cells.items c.args.at c.in-Some.cell c.args.owner c.in-Some.ensures
    (omega (arith, c.in_ok-make_room.ensures.room))

pub returns-clause-others : goal.returns-clause-others
returns-clause-others c = rw (← c.self.view_is) (λ u other.
    owner-set_other c.self.inside.cells.items c.make_room.new.cells.items c.args.at u c.in-Some.cell
    (c.make_room.ensures.same u) other)
