use Rattle.std.proofs.Common.{◌≡◌, ℕ, length, subst, arith}
use Rattle.flow_query.specs.Ends.{AllEnds, AreEnds}
use Rattle.flow_query.proofs.Ending.{next_ends, no_ends}
use Rattle.flow_query.proofs.ends.all_ends.Goals as goal

pub loop-n-init : goal.loop-n-init
loop-n-init c = no_ends c.args.graph.now c.new-ends.result.items c.new-ends.ensures.items

-- the ends of one lattice more come behind those of the lattices so far
pub loop-n-preserved : goal.loop-n-preserved
loop-n-preserved c =
    let Own : ℕ → Type 0 = λ l. AreEnds c.args.graph.now l c.in_ok-ends_of.field-0 in
    next_ends c.args.graph.now c.loop-n.n c.loop-n.ends.items c.push.new.self.items c.in_ok-ends_of.field-0
    c.in_ok-push.ensures.items
    (subst Own c.new.ensures c.in_ok-ends_of.ensures) c.loop-n.invariant

-- behind the last lattice there are the ends of each
pub returns : goal.returns
returns c =
    let past = c.loop-n-test.false in
    let most = c.loop-n.auto.n-end in
    let count = c.len-n-end.ensures.count in
    let Of : ℕ → Type 0 = λ lattices. AllEnds c.args.graph.now lattices c.loop-n.ends.items in
    let same : c.loop-n.n ≡ length c.args.lattices.now = omega (arith, past, most, count) in
    subst Of same c.loop-n.invariant
