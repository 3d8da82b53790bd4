use Rattle.std.proofs.lemmas.Result.{on_ok_weaker, IfErr-weaker}
use Rattle.flow_rules.specs.Lists.{cross}
use Rattle.row_rules.specs.Worlds.{in_all, site_number, skeleton}
use Rattle.row_adding.specs.Adding.{Halts}
use Rattle.row_adding.specs.Parts.{instance_row}
use Rattle.row_adding.proofs.Crossing.{crossed, crossing_stops}
use Rattle.row_adding.proofs.uses.cross_here.Goals as goal

-- the signature of a function is crossed with the instance at the place and the span of a token
pub returns-clause-ok : goal.returns-clause-ok
returns-clause-ok c = on_ok_weaker c.cross_at.result
    (λ is w s. crossed w c.args.token c.args.at.now c.place-here.result c.span-span.result (c.place-here.ensures w s)
    (c.span-span.ensures w s) c.args.graph.now c.cross_at.new.graph (is w s)) c.cross_at.ensures.ok

-- where the crossing at the place of a token halts, its row halts there
pub returns-clause-err : goal.returns-clause-err
returns-clause-err c = IfErr-weaker c.cross_at.result
    (λ fault. Halts c.args.known.now c.args.graph.now c.cross_at.new.graph fault (λ w. in_all w c.span-span.result
    (cross (site_number w c.place-here.result) (skeleton w c.args.at.now) (skeleton w c.place-here.result)))) (λ fault.
    Halts c.args.known.now c.args.graph.now c.cross_at.new.graph fault (λ w. instance_row w c.args.token c.args.at.now))
    (λ fault stop w s. crossing_stops w c.args.token c.args.at.now c.place-here.result c.span-span.result
    (c.place-here.ensures w s) (c.span-span.ensures w s) c.args.graph.now c.cross_at.new.graph fault
    (stop w s)) c.cross_at.ensures.err
