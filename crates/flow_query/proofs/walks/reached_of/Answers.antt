use Rattle.std.proofs.Common.{arith}
use Rattle.flow_query.specs.Walks.{IsKept}
use Rattle.flow_query.proofs.Keeping.{all_next, all_taken, kept_on}
use Rattle.flow_query.proofs.walks.reached_of.Goals as goal

-- one variable more is kept, or no constant leads to it, and those so far stay
pub loop-var-preserved : goal.loop-var-preserved
loop-var-preserved c =
    let sys = c.args.found.now.graph.now in
    all_next (λ v. IsKept sys c.args.lattice c.keep_reached.new.kept.items v) c.args.vars.now c.loop-var.var-index
    c.var-item.result (omega arith) c.var-item.is
    (λ v there. kept_on sys c.args.lattice c.loop-var.kept.items c.keep_reached.new.kept.items v
    c.in_ok-keep_reached.ensures.kept (c.loop-var.invariant v there)) c.in_ok-keep_reached.ensures.var

pub returns : goal.returns
returns c =
    all_taken (λ v. IsKept c.args.found.now.graph.now c.args.lattice c.loop-var.kept.items v) c.args.vars.now
    c.loop-var.var-index c.loop-var.invariant (omega arith)
