use Rattle.match_summary.proofs.Chaining.{chained_pop}
use Rattle.match_summary.proofs.chains.Chains.pop.Goals as goal

pub returns-in-Some : goal.returns-in-Some
returns-in-Some c =
    λ keys are. chained_pop keys c.args.key c.in-Some.link c.args.self.now _ are c.in-Some.ensures.items
    c.set.ensures.here c.set.ensures.others
