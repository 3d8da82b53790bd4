use Rattle.std.proofs.Common.{arith, ℕ, List, Option, sym, ◌∙◌, ap}
use Rattle.name_tables.specs.declared.name_records.bodies.Bodied.{Bodied}
use Rattle.name_state.specs.NameLinks.Tables.{earlier_unit, plain_there, earliest_plain}
use Rattle.name_state.proofs.NameLinks.Lists.{one_reversed, all_reversed}
use Rattle.name_state.proofs.name_links.bodies.plain_units.Goals as goal

-- one body more: its place has the earliest unit of its plain bodies, it included
pub loop-it-preserved : goal.loop-it-preserved
loop-it-preserved c = λ p.
    let it = c.it-item.result in
    c.in_ok-add_plain.ensures p
    ∙ ap (λ (o : Option ℕ). earlier_unit o (plain_there c.args.links.now it p)) (c.loop-it.invariant p)
    ∙ ap (λ (them : List Bodied). earliest_plain c.args.links.now them p)
    (sym (one_reversed c.args.bodies.now c.loop-it.it-index it c.it-item.is (omega arith)))

-- once no body is left, each place has the earliest unit of all its plain bodies
pub returns : goal.returns
returns c = λ p.
    c.loop-it.invariant p
    ∙ ap (λ (them : List Bodied). earliest_plain c.args.links.now them p)
    (all_reversed c.args.bodies.now c.loop-it.it-index (omega arith))
