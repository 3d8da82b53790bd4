use Rattle.std.proofs.Common.{arith, ◌<◌, length, ◌∙◌}
use Rattle.name_state.proofs.UnitNames.Sharing.{shared_on}
use Rattle.name_state.proofs.unit_names.shared.share_all.Goals as goal

-- one name more: what it shares comes before what was shared so far
pub loop-it-preserved : goal.loop-it-preserved
loop-it-preserved c =
    let names = c.args.names.now in
    let test = c.loop-it-test.true in
    let within : c.loop-it.it-index < length names = omega arith in
    shared_on c.args.declared.now names c.loop-it.it-index c.it-item.result c.loop-it.round c.share.new.round
    c.it-item.is within c.in_ok-share.ensures
    ∙ c.loop-it.invariant
