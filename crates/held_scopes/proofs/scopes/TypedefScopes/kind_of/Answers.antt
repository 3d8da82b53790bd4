use Rattle.std.proofs.Common.{ap, ◌∙◌, reverse}
use Rattle.c_units.specs.HeldScopes as held
use Rattle.name_lists.specs.Newest as lists
use Rattle.held_scopes.proofs.Known.{kind_through}
use Rattle.held_scopes.proofs.scopes.TypedefScopes.kind_of.Goals as goal

-- the kind of a name by the table is that of the innermost scope that gives it one
pub returns : goal.returns
returns c =
    c.newest.ensures
    ∙ ap (λ names. lists.newest_through names c.args.name) c.self.invariant
    ∙ kind_through (reverse c.self.inside.open.items) c.args.name
    ∙ ap (λ ss. held.kind_of ss c.args.name) c.self.view_is
