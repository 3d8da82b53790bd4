use Rattle.std.proofs.Common.{arith, ◌<◌, List, length, map, refl}
use Rattle.std.proofs.lemmas.Result.{err_from_is_err_and}
use Rattle.name_tables.specs.declared.name_records.body.Own.{Own}
use Rattle.name_state.specs.UnitNames.Shown.{own_of}
use Rattle.row_rules.specs.Worlds.{World}
use Rattle.row_rules.specs.Forming.{into_members}
use Rattle.row_world.specs.Shown.{type}
use Rattle.row_adding.specs.Forming.{into_one, ways_of}
use Rattle.row_adding.proofs.Rowing.{one_added, stops_at_one}
use Rattle.row_adding.proofs.forming.into_members.Goals as goal

-- what passes into one member more comes behind what passes into the members so far
pub loop-it-preserved : goal.loop-it-preserved
loop-it-preserved c =
    let test = c.loop-it-test.true in
    let within : c.loop-it.it-index < length c.args.own.now = omega arith in
    λ w s. one_added (λ (x : Own). into_one (ways_of c.args.ways.now) w.skeletons c.args.span.now c.args.of
    (own_of (type c.args.known.now) x)) (λ (xs : List Own). into_members
    (ways_of c.args.ways.now) w.skeletons c.args.span.now c.args.of (map (own_of (type c.args.known.now)) xs)) refl
    (λ x xs. refl) c.args.graph.now c.loop-it.graph c.into_own.new.graph c.args.own.now c.loop-it.it-index
    c.it-item.result c.it-item.is within (c.loop-it.invariant w s) (c.in_ok-into_own.ensures.ok w s)

-- where what passes into a member halts, that into all members halts there
pub returns-in_err-into_own-clause-err : goal.returns-in_err-into_own-clause-err
returns-in_err-into_own-clause-err c =
    let test = c.loop-it-test.true in
    let within : c.loop-it.it-index < length c.args.own.now = omega arith in
    let failed = err_from_is_err_and c.from_residual.result c.from_residual.ensures.1 in
    rw (failed.1, failed.2) (λ w s. stops_at_one (λ (x : Own). into_one
    (ways_of c.args.ways.now) w.skeletons c.args.span.now c.args.of (own_of (type c.args.known.now) x))
    (λ (xs : List Own). into_members (ways_of c.args.ways.now) w.skeletons c.args.span.now c.args.of
    (map (own_of (type c.args.known.now)) xs)) refl (λ x xs. refl) c.args.graph.now c.loop-it.graph c.into_own.new.graph
    c.in_err-into_own.field-0.0 c.args.own.now c.loop-it.it-index c.it-item.result c.it-item.is within
    (c.loop-it.invariant w s) (c.in_err-into_own.ensures.err w s))
