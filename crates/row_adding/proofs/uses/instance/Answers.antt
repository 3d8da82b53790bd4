use Rattle.row_rules.specs.Rows.{formed_here}
use Rattle.row_adding.specs.Parts.{instance_row}
use Rattle.row_adding.proofs.Behind.{halts_behind}
use Rattle.row_adding.proofs.uses.instance.Goals as goal

-- where the crossing of a function's instance halts, it halts behind what passes inside its skeleton
pub returns-clause-err : goal.returns-clause-err
returns-clause-err c =
    let k = c.args.known.now in
    halts_behind c.cross_here.result k c.args.graph.now c.form_here.new.graph c.cross_here.new.graph
    (λ w. formed_here w c.args.token) (λ w. instance_row w c.args.token c.args.at.now)
    c.in_ok-form_here.ensures.ok c.cross_here.ensures.err
