use Rattle.row_rules.specs.Forming.{formed}
use Rattle.row_rules.specs.Rows as rows
use Rattle.row_world.specs.Shown.{skel, type}
use Rattle.row_adding.proofs.Behind.{halts_behind}
use Rattle.row_adding.proofs.casts.cast_to.Goals as goal

-- where annotations and flow of a cast halt, it halts behind what passes inside its skeleton
pub returns-clause-err : goal.returns-clause-err
returns-clause-err c =
    let k = c.args.known.now in
    halts_behind c.casting.result k c.args.graph.now c.form.new.graph c.casting.new.graph
    (λ w. formed w c.args.span.now (skel k c.args.own)) (λ w. rows.casting w (type k c.args.ty) c.args.is_zero
    (skel k c.args.operand) (skel k c.args.own) c.args.span.now) c.in_ok-form.ensures.ok c.casting.ensures.err
