use Rattle.std.proofs.Common.{◌∙◌, ap, sym}
use Rattle.std.proofs.lemmas.Result.{on_ok_weaker, err_from_is_err_and}
use Rattle.flow_rules.specs.Adding.{with}
use Rattle.qual_types.specs.Skel.{root}
use Rattle.qual_types.specs.Rows.{params_from}
use Rattle.row_rules.specs.Forming.{pointing, formed_in, all_formed_in}
use Rattle.row_world.specs.Shown.{skel}
use Rattle.row_adding.specs.Forming.{ways_of}
use Rattle.row_adding.proofs.Lists.{stop_front, with_append}
use Rattle.row_adding.proofs.Behind.{halts_behind}
use Rattle.row_adding.proofs.forming.+forming.Goals as goal

-- where what passes inside what a pointer points to halts, the pointer halts behind what passes between both
pub form_pointer-returns-clause-err : goal.form_pointer-returns-clause-err
form_pointer-returns-clause-err t c =
    let k = c.args.known.now in
    let ways = ways_of c.args.ways.now in
    halts_behind c.form_in.result k c.args.graph.now c.point.new.graph c.form_in.new.graph
    (λ w. pointing ways c.args.span.now c.args.pointer (root (skel k c.args.inside))) (λ w. formed_in ways w.skeletons
    w.names.aggregates c.args.span.now (skel k c.args.inside)) c.in_ok-point.ensures.ok c.form_in.ensures.err

-- where what passes between a pointer and what it points to halts, the pointer halts there
pub form_pointer-returns-in_err-point-clause-err : goal.form_pointer-returns-in_err-point-clause-err
form_pointer-returns-in_err-point-clause-err t c =
    let k = c.args.known.now in
    let ways = ways_of c.args.ways.now in
    let failed = err_from_is_err_and c.from_residual.result c.from_residual.ensures.1 in
    rw (failed.1, failed.2)
    (λ w s. stop_front c.args.graph.now c.point.new.graph c.in_err-point.field-0.0
    (pointing ways c.args.span.now c.args.pointer (root (skel k c.args.inside)))
    (formed_in ways w.skeletons w.names.aggregates c.args.span.now (skel k c.args.inside))
    (c.in_err-point.ensures.err w s))

-- what passes between a pointer and what it points to, then inside that, is what passes inside the pointer
pub form_pointer-returns-clause-ok : goal.form_pointer-returns-clause-ok
form_pointer-returns-clause-ok t c =
    let k = c.args.known.now in
    let ways = ways_of c.args.ways.now in
    on_ok_weaker c.form_in.result
    (λ is w s.
    let one = pointing ways c.args.span.now c.args.pointer (root (skel k c.args.inside)) in
    let two = formed_in ways w.skeletons w.names.aggregates c.args.span.now (skel k c.args.inside) in
    is w s ∙ ap (λ g. with g two) (c.in_ok-point.ensures.ok w s)
    ∙ sym (with_append c.args.graph.now one two)) c.form_in.ensures.ok

-- where what passes inside the result halts, the function halts behind what passes inside its parameters
pub form_function-returns-clause-err : goal.form_function-returns-clause-err
form_function-returns-clause-err t c =
    let k = c.args.known.now in
    let ways = ways_of c.args.ways.now in
    halts_behind c.form_in.result k c.args.graph.now c.form_params.new.graph c.form_in.new.graph
    (λ w. all_formed_in ways w.skeletons w.names.aggregates c.args.span.now (params_from k.vars.now c.args.first))
    (λ w. formed_in ways w.skeletons w.names.aggregates c.args.span.now
    (skel k c.args.back)) c.in_ok-form_params.ensures.ok c.form_in.ensures.err
