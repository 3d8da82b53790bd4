use Rattle.std.proofs.Common.{ap, ◌∙◌, reverse}
use Rattle.name_lists.specs.Newest as lists
use Rattle.name_tables.specs.NameScopes.Meanings.{meant_through}
use Rattle.name_tables.proofs.NameScopes.Known.{meant_known}
use Rattle.name_tables.proofs.name_scopes.scopes.Scopes.meaning.Goals as goal

-- the meaning of a name by the table is that of the innermost scope that gives it one
pub returns : goal.returns
returns c =
    c.newest.ensures
    ∙ ap (λ names. lists.newest_through names c.args.name) c.self.invariant.named
    ∙ meant_known (reverse c.self.inside.open.items) c.args.name
    ∙ ap (λ ss. meant_through ss c.args.name) c.self.view_is
