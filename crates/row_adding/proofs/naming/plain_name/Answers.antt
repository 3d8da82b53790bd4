use Rattle.std.proofs.Common.{◌++◌}
use Rattle.std.proofs.lemmas.Result.{IfErr-weaker, err_from_is_err_and}
use Rattle.name_state.specs.UnitNames.Shown.{declared_of}
use Rattle.row_rules.specs.Rows as rows
use Rattle.row_world.specs.Shown.{type}
use Rattle.row_adding.specs.Adding.{Halts}
use Rattle.row_adding.specs.Kinds.{index_row}
use Rattle.row_adding.proofs.Lists.{stop_front, stop_back}
use Rattle.row_adding.proofs.naming.plain_name.Goals as goal

-- where the index words of a name halt, its row halts behind its annotations
pub returns-in_err-index_name-clause-err : goal.returns-in_err-index_name-clause-err
returns-in_err-index_name-clause-err c =
    let failed =
    err_from_is_err_and c.from_residual-in_err-index_name.result c.from_residual-in_err-index_name.ensures.1 in
    rw (failed.1, failed.2)
    (λ w s.
    let d = declared_of (type c.args.known.now) c.args.declared.now in
    stop_back c.args.graph.now c.annotate_name.new.graph c.index_name.new.graph c.in_err-index_name.field-0.0
    (rows.annotating_name w d) (index_row w d ++ rows.tied_to_first w d) (c.in_ok-annotate_name.ensures.ok w s)
    (stop_front c.annotate_name.new.graph c.index_name.new.graph c.in_err-index_name.field-0.0
    (index_row w d) (rows.tied_to_first w d) (c.in_err-index_name.ensures.err w s)))

-- where the tie to the first declaration halts, the row of a name halts behind its annotations and index words
pub returns-clause-err : goal.returns-clause-err
returns-clause-err c = IfErr-weaker c.as_first.result
    (λ fault. Halts c.args.known.now c.index_name.new.graph c.as_first.new.graph fault
    (λ w. rows.tied_to_first w (declared_of (type c.args.known.now) c.args.declared.now))) _
    (λ fault stop w s.
    let d = declared_of (type c.args.known.now) c.args.declared.now in
    stop_back c.args.graph.now c.annotate_name.new.graph c.as_first.new.graph fault
    (rows.annotating_name w d) (index_row w d ++ rows.tied_to_first w d) (c.in_ok-annotate_name.ensures.ok w s)
    (stop_back c.annotate_name.new.graph c.index_name.new.graph c.as_first.new.graph fault
    (index_row w d) (rows.tied_to_first w d) (c.in_ok-index_name.ensures.ok w s) (stop w s))) c.as_first.ensures.err
