use Rattle.std.proofs.Common.{◌≡◌, ◌+◌, suc, ◌∙◌, ap, arith}
use Rattle.row_rules.specs.Vals as vals
use Rattle.row_rules.specs.RowSteps.State as states
use Rattle.skel_steps.specs.Stepping.{tables_of, state_of}
use Rattle.unit_system.proofs.unit_rows.operators.called_at.Goals as goal

-- the skeleton below the arguments is that of the function that is called
pub returns : goal.returns
returns c =
    let k = c.args.known.now in
    let st = state_of k c.args.stacks.now in
    let p : c.passed.result ≡ st.passed = c.passed.ensures (tables_of k) in
    let below : c.args.behind + c.passed.result + 1 ≡ suc (c.args.behind + st.passed) = omega (arith, p) in
    c.contents.ensures ∙ ap vals.contents (c.value_at.ensures ∙ ap (λ n. states.value_at n st) below)
