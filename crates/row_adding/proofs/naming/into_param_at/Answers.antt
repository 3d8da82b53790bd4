use Rattle.std.proofs.Common.{◌∙◌, ap, subst}
use Rattle.std.proofs.lemmas.Result.{on_ok_weaker, IfErr-weaker}
use Rattle.flow_rules.specs.Adding.{with}
use Rattle.qual_types.specs.Skel.{param_at}
use Rattle.name_state.specs.UnitNames.Shown.{declared_of}
use Rattle.row_rules.specs.Annotations as rules
use Rattle.row_rules.specs.Rows as rows
use Rattle.row_world.specs.Shown.{skel, type}
use Rattle.std.specs.Prelude.{option_map}
use Rattle.row_adding.specs.Adding.{Halts, StopsEarly}
use Rattle.row_adding.proofs.naming.into_param_at.Goals as goal

-- what a function is given flows into the parameter of the number at its skeleton
pub returns-clause-ok : goal.returns-clause-ok
returns-clause-ok c = on_ok_weaker c.into_param.result
    (λ is w s. is w s ∙ ap (λ p. with c.args.graph.now (rows.into_param w p
    (declared_of (type c.args.known.now) c.args.declared.now))) c.parameter.ensures) c.into_param.ensures.ok

-- where the flow into the parameter of a number halts, its row halts there
pub returns-clause-err : goal.returns-clause-err
returns-clause-err c = IfErr-weaker c.into_param.result
    (λ fault. Halts c.args.known.now c.args.graph.now c.into_param.new.graph fault (λ w. rows.into_param w
    (option_map (skel c.args.known.now) c.parameter.result) (declared_of (type c.args.known.now) c.args.declared.now)))
    (λ fault. Halts c.args.known.now c.args.graph.now c.into_param.new.graph fault
    (λ w. rows.into_param w (param_at (rules.parameters (skel c.args.known.now c.args.own)) c.args.i)
    (declared_of (type c.args.known.now) c.args.declared.now)))
    (λ fault stop w s. subst (λ p. StopsEarly c.args.graph.now c.into_param.new.graph fault (rows.into_param w p
    (declared_of (type c.args.known.now) c.args.declared.now))) c.parameter.ensures (stop w s)) c.into_param.ensures.err
