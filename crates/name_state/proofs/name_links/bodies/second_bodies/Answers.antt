use Rattle.std.proofs.Common.{arith, List, ◌++◌, sym, ◌∙◌, ap}
use Rattle.name_rules.specs.Faults.{Fault, defined_twice, fault_where}
use Rattle.name_tables.specs.declared.name_records.bodies.Bodied.{Bodied}
use Rattle.name_state.specs.NameLinks.Tables.{is_second, second_faults}
use Rattle.name_state.proofs.NameLinks.Lists.{one_reversed, all_reversed}
use Rattle.name_state.proofs.name_links.bodies.second_bodies.Goals as goal

-- one body more: a second one is at fault, and the faults are those of the bodies up to it
pub loop-it-preserved : goal.loop-it-preserved
loop-it-preserved c =
    let it = c.it-item.result in
    c.in_ok-note_second.ensures ∙ ap (λ (faults : List Fault). faults
    ++ fault_where (is_second c.args.links.now c.args.units.now it) it.at defined_twice) c.loop-it.invariant
    ∙ ap (λ (them : List Bodied). second_faults c.args.links.now c.args.units.now them)
    (sym (one_reversed c.args.bodies.now c.loop-it.it-index it c.it-item.is (omega arith)))

-- once no body is left, the faults are those of all second bodies
pub returns : goal.returns
returns c =
    c.loop-it.invariant
    ∙ ap (λ (them : List Bodied). second_faults c.args.links.now c.args.units.now them)
    (all_reversed c.args.bodies.now c.loop-it.it-index (omega arith))
