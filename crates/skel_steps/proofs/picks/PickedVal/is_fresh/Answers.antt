use Rattle.skel_steps.proofs.Candidates.{fresh_is}
use Rattle.skel_steps.proofs.picks.PickedVal.is_fresh.Goals as goal

pub returns : goal.returns
returns c = λ rows all p. fresh_is rows all c.args.self.now c.fresh.result p c.fresh.ensures
