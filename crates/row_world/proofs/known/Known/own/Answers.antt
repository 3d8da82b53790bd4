use Rattle.row_world.proofs.Showing.{own_is}
use Rattle.row_world.proofs.known.Known.own.Goals as goal

pub returns : goal.returns
returns c =
    λ w s. own_is c.args.self.now w c.place.result c.args.token c.skeleton.result (c.place.ensures w s)
    (c.skeleton.ensures w s)
