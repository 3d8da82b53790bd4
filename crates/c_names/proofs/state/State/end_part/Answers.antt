use Rattle.std.proofs.Common.{take, drop, ap, ◌∙◌}
use Rattle.std.proofs.lemmas.Result.{IfOk-weaker}
use Rattle.type_table.specs.Rows.{type_of}
use Rattle.name_rules.specs.Scopes.{Names}
use Rattle.name_rules.specs.NameSteps.State.{State}
use Rattle.name_rules.specs.ShapeSteps.State.{nothing, shape_at}
use Rattle.name_rules.specs.ShapeSteps.Steps.{run}
use Rattle.name_state.specs.UnitNames.Shown.{names_of}
use Rattle.name_tables.specs.UnitSpelling.Spelled.{spelling_of}
use Rattle.c_names.specs.Shown.{state_of}
use Rattle.c_names.proofs.state.State.end_part.Goals as goal

pub returns-clause-shape : goal.returns-clause-shape
unfolding state_of
returns-clause-shape c =
    let t = type_of c.args.types.now in
    let u = spelling_of c.args.spelling.now in
    let passed = take c.args.at c.args.tape.now in
    IfOk-weaker c.shape_of.result _ _ (λ shape is. is
    ∙ ap (λ (s : Names). shape_at 0 (run u s nothing c.ops_between.result.now))
    (ap (λ (x : State). x.names) (c.leave_part-from.ensures.left t passed))
    ∙ ap (λ ops. shape_at 0 (run u (names_of t c.args.self.now.names) nothing ops))
    (c.ops_between.ensures ∙ ap (λ n. drop n passed) (c.leave_part-from.ensures.from t passed)))
    c.shape_of.ensures
