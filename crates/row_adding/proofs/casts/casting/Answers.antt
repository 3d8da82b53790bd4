use Rattle.std.proofs.lemmas.Result.{IfErr-weaker}
use Rattle.row_rules.specs.Annotations.{annotating}
use Rattle.row_world.specs.Shown.{skel, type}
use Rattle.row_adding.specs.Adding.{Halts}
use Rattle.row_adding.specs.Parts.{cast_row}
use Rattle.row_adding.proofs.Lists.{stop_back}
use Rattle.row_adding.proofs.casts.casting.Goals as goal

-- where the flow of a cast's operand halts, the cast halts behind the annotations of its type
pub returns-clause-err : goal.returns-clause-err
returns-clause-err c =
    let k = c.args.known.now in
    let ty = type k c.args.ty in
    let operand = skel k c.args.operand in
    let own = skel k c.args.own in
    IfErr-weaker c.flow_uncut.result
    (λ fault. Halts k c.annotate.new.graph c.flow_uncut.new.graph fault
    (λ w. cast_row w ty c.args.is_zero operand own c.args.span.now)) _
    (λ fault stop w s. stop_back c.args.graph.now c.annotate.new.graph c.flow_uncut.new.graph fault
    (annotating w ty own) (cast_row w ty c.args.is_zero operand own c.args.span.now)
    (c.in_ok-annotate.ensures.ok w s) (stop w s)) c.flow_uncut.ensures.err
