use Rattle.std.proofs.Common.{ℕ, List, reverse, ◌∙◌, ap}
use Rattle.std.proofs.lemmas.Result.{IfOk-weaker}
use Rattle.name_rules.specs.Spellings.{Place}
use Rattle.name_rules.specs.Linking.{thing_link}
use Rattle.name_state.specs.UnitNames.Shown.{names_of}
use Rattle.name_state.proofs.name_links.externals.link_things.Goals as goal

-- each place has the link that the rules give it by the names' own `static` ones and things
pub returns : goal.returns
returns c =
    let words = reverse c.statics.result.now in
    let things = reverse c.things-things.result.now in
    IfOk-weaker c.add_things.result _ _
    (λ it is. λ t p.
    is p ∙ ap (λ (them : List (ℕ × ℕ)). thing_link them things things p) (c.statics.ensures t)
    ∙ ap (λ (them : List (ℕ × Place)). thing_link (names_of t c.args.names.now).statics them them p)
    (c.things-things.ensures t))
    (c.add_things.ensures words things c.in_ok-statics.ensures (c.in_ok-firsts.ensures words c.in_ok-statics.ensures))
