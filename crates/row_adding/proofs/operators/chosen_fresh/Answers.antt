use Rattle.row_rules.specs.Forming.{formed}
use Rattle.row_rules.specs.Rows as rows
use Rattle.row_world.specs.Shown.{skel}
use Rattle.row_adding.proofs.Behind.{halts_behind}
use Rattle.row_adding.proofs.operators.chosen_fresh.Goals as goal

-- where the branches of a condition halt, it halts behind what passes inside its fresh value
pub returns-clause-err : goal.returns-clause-err
returns-clause-err c =
    let k = c.args.known.now in
    halts_behind c.branched.result k c.args.graph.now c.form.new.graph c.branched.new.graph
    (λ w. formed w c.args.span.now (skel k c.args.own)) (λ w. rows.branched w (skel k c.args.first) (skel k c.args.last)
    (skel k c.args.own) c.args.span.now) c.in_ok-form.ensures.ok c.branched.ensures.err
