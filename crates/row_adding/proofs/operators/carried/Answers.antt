use Rattle.row_rules.specs.Forming.{formed}
use Rattle.row_world.specs.Shown.{skel}
use Rattle.row_adding.specs.Parts.{pointed}
use Rattle.row_adding.proofs.Behind.{halts_behind}
use Rattle.row_adding.proofs.operators.carried.Goals as goal

-- where what a carrying pointer points at or carries halts, it halts behind what passes inside its value
pub returns-clause-err : goal.returns-clause-err
returns-clause-err c =
    let k = c.args.known.now in
    let own = skel k c.args.own in
    halts_behind c.pointed.result k c.args.graph.now c.form.new.graph c.pointed.new.graph
    (λ w. formed w c.args.span.now own)
    (λ w. pointed w (skel k c.args.place) (skel k c.args.pointer) own c.args.span.now)
    c.in_ok-form.ensures.ok c.pointed.ensures.err
