use Rattle.row_world.proofs.Showing.{declared_there}
use Rattle.row_world.proofs.known.Known.declared_here.Goals as goal

pub returns : goal.returns
returns c =
    λ w s. declared_there c.args.self.now w c.place.result c.args.token c.declared.result (c.place.ensures w s)
    (c.declared.ensures w s)
