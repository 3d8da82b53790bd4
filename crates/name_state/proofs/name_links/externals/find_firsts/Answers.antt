use Rattle.std.proofs.Common.{arith, ◌&&◌, ℕ, nat_eq, List, Option, sym, ◌∙◌, ap}
use Rattle.name_rules.specs.Spellings.{Place}
use Rattle.name_rules.specs.Scopes.{or_place}
use Rattle.name_rules.specs.Linking.{is_external, place_where, first_external}
use Rattle.name_state.proofs.NameLinks.Lists.{one_reversed, all_reversed}
use Rattle.name_state.proofs.name_links.externals.find_firsts.Goals as goal

-- one thing more: it is the first of its name where it is external and no thing before it was
pub loop-it-preserved : goal.loop-it-preserved
loop-it-preserved c = λ all statics name.
    let it = c.it-item.result in
    c.in_ok-add_external.ensures all statics name
    ∙ ap (λ (o : Option Place). or_place o (place_where (nat_eq it.0 name && is_external all it.0 it.1) it.1))
    (c.loop-it.invariant all statics name)
    ∙ ap (λ (them : List (ℕ × Place)). first_external all them name)
    (sym (one_reversed c.args.things.now c.loop-it.it-index it c.it-item.is (omega arith)))

-- once no thing is left, each name has the first of its external things
pub returns : goal.returns
returns c = λ all statics name.
    c.loop-it.invariant all statics name
    ∙ ap (λ (them : List (ℕ × Place)). first_external all them name)
    (all_reversed c.args.things.now c.loop-it.it-index (omega arith))
