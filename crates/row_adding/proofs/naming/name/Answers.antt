use Rattle.name_state.specs.UnitNames.Shown.{declared_of}
use Rattle.row_rules.specs.Rows as rows
use Rattle.row_world.specs.Shown.{type}
use Rattle.row_adding.proofs.Behind.{halts_behind}
use Rattle.row_adding.proofs.naming.name.Goals as goal

-- where annotations, index words or the tie to the first declaration halt, the name halts behind what passes inside it
pub returns-clause-err : goal.returns-clause-err
returns-clause-err c =
    let k = c.args.known.now in
    let d = declared_of (type k) c.args.declared.now in
    halts_behind c.plain_name.result k c.args.graph.now c.form_name.new.graph c.plain_name.new.graph
    (λ w. rows.formed_name w d) (λ w. rows.plain_name_row w d)
    c.in_ok-form_name.ensures.ok c.plain_name.ensures.err
