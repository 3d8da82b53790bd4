use Rattle.std.proofs.lemmas.Result.{IfErr-weaker}
use Rattle.row_rules.specs.Annotations as rules
use Rattle.row_world.specs.Shown.{skel, type}
use Rattle.row_adding.specs.Adding.{Halts}
use Rattle.row_adding.proofs.Noding.{stops_inside_place}
use Rattle.row_adding.proofs.annotating.annotate_place.Goals as goal

-- where the annotations of what a place holds halt, those of the place halt behind those of its reference
pub returns-clause-err : goal.returns-clause-err
returns-clause-err c = IfErr-weaker c.annotate.result
    (λ fault. Halts c.args.known.now c.annotate_outer.new.graph c.annotate.new.graph fault
    (λ w. rules.annotating w (type c.args.known.now c.args.ty) (skel c.args.known.now c.inner.result))) _
    (λ fault stop w s. stops_inside_place w (type c.args.known.now c.args.ty) (skel c.args.known.now c.args.at)
    (skel c.args.known.now c.inner.result) c.var.result c.args.graph.now c.annotate_outer.new.graph c.annotate.new.graph
    fault c.var.ensures.root c.inner.ensures (c.in_ok-annotate_outer.ensures.ok w s) (stop w s)) c.annotate.ensures.err
