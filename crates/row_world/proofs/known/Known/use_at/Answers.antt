use Rattle.row_world.proofs.Showing.{use_is}
use Rattle.row_world.proofs.known.Known.use_at.Goals as goal

pub returns : goal.returns
returns c =
    λ w s. use_is c.args.self.now w s c.place.result c.args.token c.use_at.result (c.place.ensures w s) c.use_at.ensures
