use Rattle.std.proofs.lemmas.Result.{IfErr-weaker}
use Rattle.qual_types.specs.Skel.{param_at}
use Rattle.name_state.specs.UnitNames.Shown.{declared_of}
use Rattle.row_rules.specs.Annotations as rules
use Rattle.row_rules.specs.Rows as rows
use Rattle.row_world.specs.Shown.{skel, type}
use Rattle.row_adding.specs.Adding.{Halts}
use Rattle.row_adding.proofs.Lists.{stop_back}
use Rattle.row_adding.proofs.naming.plain_param.Goals as goal

-- where what the function is given halts, the row of a parameter halts behind its annotations
pub returns-clause-err : goal.returns-clause-err
returns-clause-err c = IfErr-weaker c.into_param_at.result
    (λ fault. Halts c.args.known.now c.annotate_name.new.graph c.into_param_at.new.graph fault (λ w. rows.into_param w
    (param_at (rules.parameters (skel c.args.known.now c.args.own)) c.args.i)
    (declared_of (type c.args.known.now) c.args.declared.now))) _
    (λ fault stop w s. stop_back c.args.graph.now c.annotate_name.new.graph c.into_param_at.new.graph fault
    (rows.annotating_name w (declared_of (type c.args.known.now) c.args.declared.now))
    (rows.into_param w (param_at (rules.parameters (skel c.args.known.now c.args.own)) c.args.i)
    (declared_of (type c.args.known.now) c.args.declared.now))
    (c.in_ok-annotate_name.ensures.ok w s) (stop w s)) c.into_param_at.ensures.err
