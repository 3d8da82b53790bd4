use Rattle.std.proofs.Common.{ap, ◌∙◌, reverse, List}
use Rattle.name_lists.specs.Newest as lists
use Rattle.name_tables.specs.NameScopes.Meanings.{OneScope, innermost}
use Rattle.name_tables.proofs.NameScopes.Known.{meant_here}
use Rattle.name_tables.proofs.name_scopes.scopes.Scopes.meaning_here.Goals as goal

-- the meaning of a name in the innermost scope of the table is that which the scope gives it
pub returns : goal.returns
returns c =
    c.newest_here.ensures
    ∙ ap (λ names. lists.newest (lists.innermost names) c.args.name) c.self.invariant.named
    ∙ meant_here (reverse c.self.inside.open.items) c.args.name
    ∙ ap (λ (ss : List OneScope). lists.newest (innermost ss).names c.args.name) c.self.view_is
