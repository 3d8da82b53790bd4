use Rattle.name_rules.specs.Values.{own_of}
use Rattle.row_adding.specs.Forming.{ways_of}
use Rattle.row_adding.proofs.Passing.{none_passes}
use Rattle.row_adding.proofs.forming.into_struct.Goals as goal

pub returns-then-ways-eq0-clause-ok : goal.returns-then-ways-eq0-clause-ok
returns-then-ways-eq0-clause-ok c =
    λ w s. none_passes (ways_of c.args.ways.now) w.skeletons c.args.span.now c.args.of
    (own_of w.names.aggregates c.args.number) c.args.graph.now c.if-ways-eq0.true
