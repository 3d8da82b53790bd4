use Rattle.std.proofs.Common.{Option, ap, ◌∙◌}
use Rattle.name_rules.specs.Spellings.{Place}
use Rattle.name_rules.specs.Scopes.{Meaning, means_thing, Names, bound}
use Rattle.name_rules.specs.Declaring.{the_thing, declaring}
use Rattle.name_state.specs.UnitNames.Shown.{names_of, role_of}
use Rattle.name_state.proofs.name_uses.first.declare_here.Goals as goal

-- a name is declared in the innermost scope as the rules say: at its first place there, or else at this one
pub returns : goal.returns
returns c =
    λ t.
    let s : Names = names_of t c.args.names.now in
    let at : Place = c.args.at.now in
    let name = c.args.name in
    let after : Place
    → Names = λ f. bound name (means_thing f)
    (declaring at (role_of c.args.role.now) f (t c.args.ty) c.args.own.now s) in
    let first = c.the_thing-first.ensures t ∙ ap (λ (o : Option Meaning). the_thing o at) (c.meaning_here.ensures t) in
    c.in_ok-bind.ensures t ∙ ap (bound name (means_thing c.the_thing-first.result)) (c.in_ok-declare_first.ensures t)
    ∙ ap after first
