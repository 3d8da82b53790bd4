use Rattle.std.proofs.Common.{option_map}
use Rattle.row_rules.specs.Rows as rows
use Rattle.row_rules.specs.Vals as vals
use Rattle.row_world.specs.Shown.{type}
use Rattle.row_adding.proofs.Behind.{halts_behind}
use Rattle.row_adding.proofs.others.literal.Goals as goal

-- where the annotations of a compound literal halt, it halts behind what passes inside its skeleton
pub returns-clause-err : goal.returns-clause-err
returns-clause-err c =
    let k = c.args.known.now in
    halts_behind c.annotate_literal.result k c.args.graph.now c.form_here.new.graph c.annotate_literal.new.graph
    (λ w. rows.formed_here w c.args.token) (λ w. rows.annotating_place w (option_map (type k) c.args.ty.now)
    (vals.own w c.args.token)) c.in_ok-form_here.ensures.ok c.annotate_literal.ensures.err
