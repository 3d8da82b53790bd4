use Rattle.std.proofs.Common.{Option, ap, ◌∙◌}
use Rattle.name_rules.specs.Spellings.{Place}
use Rattle.name_rules.specs.Scopes.{Meaning, Use, Names, meaning}
use Rattle.name_rules.specs.Declaring.{use_by, used_as}
use Rattle.name_tables.specs.UnitSpelling.Spelled.{spelling_of}
use Rattle.name_state.specs.UnitNames.Shown.{names_of, use_of}
use Rattle.name_state.proofs.NameUses.Used.{used_is}
use Rattle.name_state.proofs.name_uses.uses.use_name.Goals as goal

-- a use of a name is noted by what the name means there, and is at fault where it is a missing one
pub returns : goal.returns
returns c =
    λ t.
    let s : Names = names_of t c.args.names.now in
    let at : Place = c.place-at.result in
    let it : Use = use_of c.use_by-it.result in
    let found = c.meaning-found.ensures t ∙ ap (meaning s) c.key.ensures in
    let means = c.use_by-it.ensures t ∙ ap (λ (o : Option Meaning). use_by o c.args.is_called) found in
    used_is s (names_of t c.push_use.new.self)
    (names_of t c.blame.new.self) at it c.is_missing.result c.is_missing.ensures
    (c.in_ok-push_use.ensures t) (c.in_ok-blame.ensures t)
    ∙ ap (λ x. used_as at x s) means
    ∙ ap
    (λ p. used_as p
    (use_by (meaning s ((spelling_of c.args.spelling.now).key c.args.name)) c.args.is_called) s) c.place-at.ensures
