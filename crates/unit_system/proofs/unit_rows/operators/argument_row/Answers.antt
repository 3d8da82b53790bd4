use Rattle.std.proofs.Common.{◌≡◌, option_map, ◌∙◌, ap}
use Rattle.qual_types.specs.Skel.{param_at}
use Rattle.row_rules.specs.Worlds.{span}
use Rattle.row_rules.specs.Annotations.{parameters, further}
use Rattle.row_rules.specs.Rows as rows
use Rattle.row_rules.specs.RowSteps.State as states
use Rattle.row_rules.specs.RowSteps.OpRows as op_rows
use Rattle.row_world.specs.Shown.{skel}
use Rattle.skel_steps.specs.Stepping.{tables_of, state_of}
use Rattle.unit_system.proofs.UnitRows.RowLists.{Same, row_added, row_halted}
use Rattle.unit_system.proofs.unit_rows.operators.argument_row.Goals as goal

-- an argument adds its flow into the parameter of its number, or into the further ones, or halts in it
pub returns : goal.returns
returns c =
    let k = c.args.known.now in
    let t = tables_of k in
    let st = state_of k c.args.stacks.now in
    let called = op_rows.called_at c.args.behind st in
    let same_parameter : param_at (parameters (skel k c.called_at-called.result)) c.passed-number.result
    ≡ param_at (parameters called) st.passed =
    λ j. param_at (parameters (c.called_at-called.ensures j)) (c.passed-number.ensures t j) in
    let parameter_is : option_map (skel k) c.parameter-parameter.result ≡ param_at (parameters called) st.passed =
    c.parameter-parameter.ensures ∙ same_parameter in
    let further_is : c.further-further.result ≡ further called =
    c.further-further.ensures.value ∙ ap further c.called_at-called.ensures in
    let same : Same k (λ w. rows.passed w c.is_zero_at-is_zero.result (skel k c.value_at-argument.result)
    (option_map (skel k) c.parameter-parameter.result) c.further-further.result c.span-span.result)
    (λ w. rows.passed w (states.is_zero_at c.args.behind st) (states.value_at c.args.behind st)
    (param_at (parameters (op_rows.called_at c.args.behind st)) st.passed)
    (further (op_rows.called_at c.args.behind st)) (span w c.args.first c.args.last)) =
    λ w shows. λ i. rows.passed w (c.is_zero_at-is_zero.ensures t i) (c.value_at-argument.ensures i) (parameter_is i)
    (further_is i) (c.span-span.ensures w shows i) in
    record {
      ok = row_added c.passed.result k c.args.graph.now c.passed.new.graph _ _ same c.passed.ensures.ok;
      err = row_halted c.passed.result k c.args.graph.now c.passed.new.graph _ _ same c.passed.ensures.err;
    }
