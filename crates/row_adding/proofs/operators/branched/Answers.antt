use Rattle.std.specs.Prelude.{false}
use Rattle.row_rules.specs.Worlds.{all_lattices}
use Rattle.row_rules.specs.Rows.{flowing}
use Rattle.row_world.specs.Shown.{skel}
use Rattle.row_adding.proofs.Behind.{halts_behind}
use Rattle.row_adding.proofs.operators.branched.Goals as goal

-- where the flow of the last branch halts, the condition halts behind that of the first
pub returns-clause-err : goal.returns-clause-err
returns-clause-err c =
    let k = c.args.known.now in
    let own = skel k c.args.own in
    halts_behind c.flowing_in_all-2.result k c.args.graph.now c.flowing_in_all.new.graph c.flowing_in_all-2.new.graph
    (λ w. flowing false (skel k c.args.first) own (all_lattices w) c.args.span.now)
    (λ w. flowing false (skel k c.args.last) own (all_lattices w) c.args.span.now) c.in_ok-flowing_in_all.ensures.ok
    c.flowing_in_all-2.ensures.err
