use Rattle.std.proofs.Common.{arith, ℕ, List, Option, sym, ◌∙◌, ap}
use Rattle.name_rules.specs.Spellings.{Place}
use Rattle.name_rules.specs.Scopes.{or_place}
use Rattle.name_rules.specs.Linking.{thing_linked, thing_link}
use Rattle.name_state.proofs.NameLinks.Lists.{one_reversed, all_reversed}
use Rattle.name_state.proofs.name_links.externals.add_things.Goals as goal

-- one thing more: its place gets the link that the rules give it, all others keep theirs
pub loop-it-preserved : goal.loop-it-preserved
loop-it-preserved c = λ all others statics firsts p.
    let it = c.it-item.result in
    c.in_ok-add_thing.ensures all others statics firsts p
    ∙ ap (λ (o : Option Place). or_place (thing_linked all others p it) o)
    (c.loop-it.invariant all others statics firsts p)
    ∙ ap (λ (them : List (ℕ × Place)). thing_link all others them p)
    (sym (one_reversed c.args.things.now c.loop-it.it-index it c.it-item.is (omega arith)))

-- once no thing is left, each place has the link that the rules give it
pub returns : goal.returns
returns c = λ all others statics firsts p.
    c.loop-it.invariant all others statics firsts p
    ∙ ap (λ (them : List (ℕ × Place)). thing_link all others them p)
    (all_reversed c.args.things.now c.loop-it.it-index (omega arith))
