use Rattle.std.proofs.lemmas.Result.{IfErr-weaker}
use Rattle.qual_types.specs.Skel.{root}
use Rattle.row_rules.specs.Annotations.{write_bounds}
use Rattle.row_rules.specs.Vals as vals
use Rattle.row_world.specs.Shown.{skel}
use Rattle.row_adding.specs.Adding.{Halts}
use Rattle.row_adding.specs.Parts.{moved}
use Rattle.row_adding.proofs.Lists.{stop_back}
use Rattle.row_adding.proofs.operators.assigned.Goals as goal

-- where what an assignment moves halts, it halts behind the bounds of the write to its place
pub returns-clause-err : goal.returns-clause-err
returns-clause-err c =
    let k = c.args.known.now in
    let place = skel k c.args.place in
    let value = skel k c.args.value in
    IfErr-weaker c.moved.result
    (λ fault. Halts k c.written.new.graph c.moved.new.graph fault
    (λ w. moved w c.args.sign c.args.is_zero (vals.contents place) value c.args.span.now)) _
    (λ fault stop w s. stop_back c.args.graph.now c.written.new.graph c.moved.new.graph fault
    (write_bounds w (root place) c.args.span.now)
    (moved w c.args.sign c.args.is_zero (vals.contents place) value c.args.span.now)
    (c.in_ok-written.ensures.ok w s) (stop w s)) c.moved.ensures.err
