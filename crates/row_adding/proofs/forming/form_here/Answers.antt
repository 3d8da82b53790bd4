use Rattle.std.proofs.Common.{◌∙◌, ap, subst}
use Rattle.std.proofs.lemmas.Result.{on_ok_weaker, IfErr-weaker}
use Rattle.flow_rules.specs.Adding.{with}
use Rattle.row_rules.specs.Forming.{formed}
use Rattle.row_rules.specs.Rows.{formed_here}
use Rattle.row_rules.specs.Worlds.{span as span_of}
use Rattle.row_world.specs.Shown.{skel}
use Rattle.row_adding.specs.Adding.{Halts, StopsEarly}
use Rattle.row_adding.proofs.forming.form_here.Goals as goal

-- what passes inside the skeleton of one token is that of the span of this token
pub returns-clause-ok : goal.returns-clause-ok
returns-clause-ok c =
    let k = c.args.known.now in
    on_ok_weaker c.form.result
    (λ is w s. is w s
    ∙ (ap (λ span. with c.args.graph.now (formed w span (skel k c.own-at.result))) (c.span-span.ensures w s)
    ∙ ap (λ t. with c.args.graph.now (formed w (span_of w c.args.token c.args.token) t)) (c.own-at.ensures w s)))
    c.form.ensures.ok

-- where what passes inside the skeleton of one token halts, it halts in the row of this token
pub returns-clause-err : goal.returns-clause-err
returns-clause-err c =
    let k = c.args.known.now in
    IfErr-weaker c.form.result
    (λ fault.
    Halts k c.args.graph.now c.form.new.graph fault (λ w. formed w c.span-span.result (skel k c.own-at.result)))
    (λ fault. Halts k c.args.graph.now c.form.new.graph fault (λ w. formed_here w c.args.token))
    (λ fault stop w s. subst (λ t. StopsEarly c.args.graph.now c.form.new.graph fault
    (formed w (span_of w c.args.token c.args.token) t)) (c.own-at.ensures w s)
    (subst (λ span. StopsEarly c.args.graph.now c.form.new.graph fault (formed w span (skel k c.own-at.result)))
    (c.span-span.ensures w s) (stop w s))) c.form.ensures.err
