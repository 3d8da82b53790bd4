use Rattle.std.proofs.Common.{◌++◌, ◌∙◌, ap, subst}
use Rattle.std.proofs.lemmas.Result.{on_ok_weaker, IfErr-weaker, err_from_is_err_and}
use Rattle.flow_graph.specs.declared.graph.GraphFault.TheVariants.{NoMemory}
use Rattle.flow_rules.specs.Adding.{with}
use Rattle.type_table.specs.Types.{ellipsis_words_of}
use Rattle.type_table.specs.Rows.{types_of, types_at}
use Rattle.row_rules.specs.Annotations as rules
use Rattle.row_rules.specs.Annotations.{annotation_constraints, some_annotations_at, sorted}
use Rattle.row_world.specs.Shown.{skel, type}
use Rattle.row_adding.specs.Adding.{Halts, StopsEarly}
use Rattle.row_adding.specs.Nodes.{annotated_inside, params_row}
use Rattle.row_adding.proofs.Lists.{stop_front, stop_back}
use Rattle.row_adding.proofs.Noding.{node_added, stops_at_node, stops_inside_node}
use Rattle.row_adding.proofs.annotating.+annotating.Goals as goal

pub annotate-returns-in_err-annotate_root-clause-err :
    goal.annotate-returns-in_err-annotate_root-clause-err
annotate-returns-in_err-annotate_root-clause-err t c =
    let failed = err_from_is_err_and c.from_residual.result c.from_residual.ensures.1 in
    rw (failed.1, failed.2) (λ w s. stops_at_node w (type c.args.known.now c.args.ty) (skel c.args.known.now c.args.at)
    c.args.graph.now c.annotate_root.new.graph c.annotate_root.new.graph c.in_err-annotate_root.field-0.0
    (c.in_err-annotate_root.ensures.err w s))

-- the annotations of the outermost constructor, then those inside it, are those of the skeleton of a type
pub annotate-returns-clause-ok : goal.annotate-returns-clause-ok
annotate-returns-clause-ok t c = on_ok_weaker c.annotate_inside.result
    (λ is w s. node_added w (type c.args.known.now c.args.ty) (skel c.args.known.now c.args.at) c.args.graph.now
    c.annotate_root.new.graph c.annotate_inside.new.graph NoMemory (c.in_ok-annotate_root.ensures.ok w s) (is w s))
    c.annotate_inside.ensures.ok

-- where the annotations inside a constructor halt, those of the skeleton halt behind its own
pub annotate-returns-clause-err : goal.annotate-returns-clause-err
annotate-returns-clause-err t c = IfErr-weaker c.annotate_inside.result
    (λ fault. Halts c.args.known.now c.annotate_root.new.graph c.annotate_inside.new.graph fault (λ w.
    annotation_constraints w (annotated_inside w (type c.args.known.now c.args.ty) (skel c.args.known.now c.args.at))))
    _ (λ fault stop w s. stops_inside_node w (type c.args.known.now c.args.ty)
    (skel c.args.known.now c.args.at) c.args.graph.now c.annotate_root.new.graph c.annotate_inside.new.graph fault
    (c.in_ok-annotate_root.ensures.ok w s) (stop w s)) c.annotate_inside.ensures.err

pub annotate_function-returns-in_err-annotate-clause-err :
    goal.annotate_function-returns-in_err-annotate-clause-err
annotate_function-returns-in_err-annotate-clause-err t c =
    let failed = err_from_is_err_and c.from_residual-in_err-annotate.result c.from_residual-in_err-annotate.ensures.1 in
    rw (failed.1, failed.2)
    (λ w s.
    let k = c.args.known.now in
    let one = params_row w (types_at (types_of k.types.now) c.args.params.now) (rules.parameters (skel k c.args.at)) in
    let two = rules.annotating w (type k c.args.back) (rules.outcome (skel k c.args.at)) in
    let three = annotation_constraints w
    (some_annotations_at (rules.further (skel k c.args.at)) (sorted (ellipsis_words_of (type k c.args.ty)))) in
    stop_back c.args.graph.now c.annotate_all.new.graph c.annotate.new.graph c.in_err-annotate.field-0.0 one
    (two ++ three)
    (c.in_ok-annotate_all.ensures.ok w s)
    (stop_front c.annotate_all.new.graph c.annotate.new.graph c.in_err-annotate.field-0.0 two three
    (subst (λ x. StopsEarly c.annotate_all.new.graph c.annotate.new.graph c.in_err-annotate.field-0.0
    (rules.annotating w (type k c.args.back) x)) c.outcome.ensures.outcome (c.in_err-annotate.ensures.err w s))))

-- where the annotations of further arguments halt, those of the function halt behind its parameters and its result
pub annotate_function-returns-clause-err : goal.annotate_function-returns-clause-err
annotate_function-returns-clause-err t c = IfErr-weaker c.annotate_further.result
    (λ fault. Halts c.args.known.now c.annotate.new.graph c.annotate_further.new.graph fault
    (λ w. annotation_constraints w (some_annotations_at c.further.result (sorted c.ellipsis_words-words.result.now)))) _
    (λ fault stop w s.
    let k = c.args.known.now in
    let one = params_row w (types_at (types_of k.types.now) c.args.params.now) (rules.parameters (skel k c.args.at)) in
    let two = rules.annotating w (type k c.args.back) (rules.outcome (skel k c.args.at)) in
    let three = annotation_constraints w
    (some_annotations_at (rules.further (skel k c.args.at)) (sorted (ellipsis_words_of (type k c.args.ty)))) in
    stop_back c.args.graph.now c.annotate_all.new.graph c.annotate_further.new.graph fault one (two ++ three)
    (c.in_ok-annotate_all.ensures.ok w s) (stop_back c.annotate_all.new.graph c.annotate.new.graph
    c.annotate_further.new.graph fault two three (c.in_ok-annotate.ensures.ok w s
    ∙ ap (λ x. with c.annotate_all.new.graph (rules.annotating w (type k c.args.back) x)) c.outcome.ensures.outcome)
    (subst (λ x. StopsEarly c.annotate.new.graph c.annotate_further.new.graph fault (annotation_constraints w
    (some_annotations_at (rules.further (skel k c.args.at)) (sorted x)))) c.ellipsis_words-words.ensures
    (subst (λ x. StopsEarly c.annotate.new.graph c.annotate_further.new.graph fault (annotation_constraints w
    (some_annotations_at x (sorted c.ellipsis_words-words.result.now)))) c.further.ensures.value (stop w s)))))
    c.annotate_further.ensures.err
