use Rattle.row_world.proofs.Showing.{type_is}
use Rattle.row_world.proofs.known.Known.type_named.Goals as goal

pub returns : goal.returns
returns c = λ w s.
    type_is c.args.self.now w s c.place.result c.args.token c.type_at.result (c.place.ensures w s) c.type_at.ensures
