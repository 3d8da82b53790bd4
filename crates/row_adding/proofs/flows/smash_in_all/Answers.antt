use Rattle.std.proofs.lemmas.Result.{on_ok_weaker, IfErr-weaker}
use Rattle.flow_rules.specs.Adding.{marked, Stops}
use Rattle.flow_rules.specs.Lists.{smash}
use Rattle.row_rules.specs.Worlds.{all_lattices, in_all}
use Rattle.row_world.specs.Shown.{skel}
use Rattle.row_adding.specs.Adding.{Halts}
use Rattle.row_adding.proofs.Lists.{with_all, stop_all}
use Rattle.row_adding.proofs.flows.smash_in_all.Goals as goal

-- a skeleton that flows into one variable adds its links in all lattices of each world
pub returns-clause-ok : goal.returns-clause-ok
returns-clause-ok c = on_ok_weaker c.smash.result
    (λ is w s. with_all c.args.graph.now c.smash.new.graph c.all_lattices.result (all_lattices w) c.args.span.now
    (smash (skel c.args.known.now c.args.from) c.args.into) (c.all_lattices.ensures w s) is) c.smash.ensures.ok

-- where the flow of a skeleton into one variable stops, it halts in the links of all lattices
pub returns-clause-err : goal.returns-clause-err
returns-clause-err c = IfErr-weaker c.smash.result
    (λ fault. Stops c.args.graph.now c.smash.new.graph fault
    (marked c.all_lattices.result c.args.span.now (smash (skel c.args.known.now c.args.from) c.args.into)))
    (λ fault. Halts c.args.known.now c.args.graph.now c.smash.new.graph fault (λ w.
    in_all w c.args.span.now (smash (skel c.args.known.now c.args.from) c.args.into)))
    (λ fault stop w s.
    stop_all c.args.graph.now c.smash.new.graph fault c.all_lattices.result (all_lattices w) c.args.span.now
    (smash (skel c.args.known.now c.args.from) c.args.into) (c.all_lattices.ensures w s) stop) c.smash.ensures.err
