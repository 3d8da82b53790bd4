use Rattle.std.proofs.Common.{◌++◌, option_map, subst}
use Rattle.std.proofs.lemmas.Result.{IfErr-weaker, err_from_is_err_and}
use Rattle.row_rules.specs.Rows as rows
use Rattle.row_world.specs.Shown.{skel, type}
use Rattle.row_adding.specs.Adding.{Halts, StopsEarly}
use Rattle.row_adding.proofs.Lists.{stop_front, stop_back}
use Rattle.row_adding.proofs.others.taken_of_type.Goals as goal

-- where the annotations of the type that is taken halt, its row halts there
pub returns-in_err-annotate_some-clause-err : goal.returns-in_err-annotate_some-clause-err
returns-in_err-annotate_some-clause-err c =
    let k = c.args.known.now in
    let old = c.args.graph.now in
    let new = c.annotate_some.new.graph in
    let fault = c.in_err-annotate_some.field-0.0 in
    let ty = option_map (type k) c.args.ty.now in
    let list = skel k c.args.list in
    let failed = err_from_is_err_and c.from_residual.result c.from_residual.ensures.1 in
    rw (failed.1, failed.2)
    (λ w s. subst (λ t. StopsEarly old new fault (rows.annotating_some w ty t ++ rows.taken w list t c.args.span.now))
    (c.own-own.ensures w s)
    (stop_front old new fault (rows.annotating_some w ty (skel k c.own-own.result))
    (rows.taken w list (skel k c.own-own.result) c.args.span.now)
    (c.in_err-annotate_some.ensures.err w s)))

-- where the flow of further arguments into what is taken halts, its row halts behind the annotations
pub returns-clause-err : goal.returns-clause-err
returns-clause-err c =
    let k = c.args.known.now in
    let old = c.args.graph.now in
    let middle = c.annotate_some.new.graph in
    let new = c.taken.new.graph in
    let ty = option_map (type k) c.args.ty.now in
    let list = skel k c.args.list in
    let own = skel k c.own-own.result in
    IfErr-weaker c.taken.result (λ fault. Halts k middle new fault (λ w. rows.taken w list own c.args.span.now)) _
    (λ fault stop w s. subst
    (λ t. StopsEarly old new fault (rows.annotating_some w ty t ++ rows.taken w list t c.args.span.now))
    (c.own-own.ensures w s) (stop_back old middle new fault (rows.annotating_some w ty own)
    (rows.taken w list own c.args.span.now) (c.in_ok-annotate_some.ensures.ok w s) (stop w s))) c.taken.ensures.err
