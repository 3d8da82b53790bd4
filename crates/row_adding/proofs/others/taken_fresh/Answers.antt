use Rattle.std.proofs.Common.{◌++◌, option_map, subst}
use Rattle.std.proofs.lemmas.Result.{IfErr-weaker}
use Rattle.row_rules.specs.Forming.{formed}
use Rattle.row_rules.specs.Rows as rows
use Rattle.row_world.specs.Shown.{skel, type}
use Rattle.row_adding.specs.Adding.{Halts, StopsEarly}
use Rattle.row_adding.proofs.Lists.{stop_back}
use Rattle.row_adding.proofs.others.taken_fresh.Goals as goal

-- where annotations or flow of what is taken halt, `va_arg` halts behind what passes inside its skeleton
pub returns-clause-err : goal.returns-clause-err
returns-clause-err c =
    let k = c.args.known.now in
    let old = c.args.graph.now in
    let middle = c.form.new.graph in
    let new = c.taken_of_type.new.graph in
    let ty = option_map (type k) c.args.ty.now in
    let list = skel k c.args.list in
    IfErr-weaker c.taken_of_type.result
    (λ fault. Halts k middle new fault (λ w. rows.taken_of_type w c.args.token ty list c.args.span.now)) _
    (λ fault stop w s. subst (λ t. StopsEarly old new fault (formed w c.args.span.now t
    ++ rows.taken_of_type w c.args.token ty list c.args.span.now)) (c.own.ensures w s) (stop_back old middle new fault
    (formed w c.args.span.now (skel k c.own.result)) (rows.taken_of_type w c.args.token ty list c.args.span.now)
    (c.in_ok-form.ensures.ok w s) (stop w s))) c.taken_of_type.ensures.err
