use Rattle.std.proofs.Common.{◌≡◌, ◌++◌, ◌-◌, arith, ap, ◌∙◌}
use Rattle.sig_writer.specs.Nodes.{numbers}
use Rattle.sig_writer.proofs.Numbers.{one_more}
use Rattle.sig_writer.proofs.nodes.push_nodes.Goals as goal

-- one variable more keeps those that are added the numbers of the range so far
pub loop-n-preserved : goal.loop-n-preserved
loop-n-preserved c =
    one_more c.args.nodes.from c.loop-n.n c.new.result c.args.vars.now.items c.loop-n.vars.items c.push.new.self.items
    c.loop-n.auto.n c.loop-n.invariant c.in_ok-push.ensures.items c.new.ensures

-- behind the last variable those of the whole range are added
pub returns : goal.returns
returns c =
    let here = c.loop-n.auto.n-end c.requires in
    let end : c.loop-n.n ≡ c.args.nodes.to = omega (arith, here, c.loop-n-test.false) in
    c.loop-n.invariant ∙ ap (λ n. c.args.vars.now.items ++ numbers (n - c.args.nodes.from) c.args.nodes.from) end
