use Rattle.std.proofs.Common.{sym, ◌∙◌, arith, get_or}
use Rattle.std.proofs.lemmas.List.{take_more}
use Rattle.certificate_text.specs.declared.putting.SetLine.{SetLine}
use Rattle.certificate_reader.proofs.PartLemmas.{fill_more, var_there}
use Rattle.certificate_reader.proofs.making.sets_of_vars.Goals as goal

-- one more set line fills the two sets of its variable
pub loop-set-preserved : goal.loop-set-preserved
loop-set-preserved c =
    let sys = c.args.graph.now in
    let it : SetLine = get_or c.args.sets.now c.loop-set.set-index (record { name = 0; first = 0; second = 0 }) in
    rw (take_more c.args.sets.now c.loop-set.set-index
    (record { name = 0; first = 0; second = 0 }) c.loop-set-test.true) (fill_more sys _ it c.loop-set.first.items
    c.loop-set.second.items c.number-at.result c.new.result c.new-in-loop-set.result c.loop-set.invariant
    (var_there sys it.name c.end_at.result c.end_at.ensures.there ∙ sym c.number-at.ensures)
    (omega (arith, c.number-at.ensures, c.end_at.ensures.below)) c.new.ensures c.new-in-loop-set.ensures)
