use Rattle.std.specs.Prelude.{false}
use Rattle.row_rules.specs.Worlds.{all_lattices}
use Rattle.row_rules.specs.Rows as rows
use Rattle.row_world.specs.Shown.{skel}
use Rattle.row_adding.proofs.Behind.{halts_behind}
use Rattle.row_adding.proofs.operators.pointed.Goals as goal

-- where what a pointer carries halts, it halts behind the flow of its place
pub returns-clause-err : goal.returns-clause-err
returns-clause-err c =
    let k = c.args.known.now in
    let own = skel k c.args.own in
    halts_behind c.carrying.result k c.args.graph.now c.flowing_in_all.new.graph c.carrying.new.graph
    (λ w. rows.flowing false (skel k c.args.place) own (all_lattices w) c.args.span.now)
    (λ w. rows.carrying w (skel k c.args.pointer) own c.args.span.now)
    c.in_ok-flowing_in_all.ensures.ok c.carrying.ensures.err
