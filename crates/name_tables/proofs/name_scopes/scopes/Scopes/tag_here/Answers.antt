use Rattle.std.proofs.Common.{ap, ◌∙◌, reverse, List}
use Rattle.name_lists.specs.Newest as lists
use Rattle.name_tables.specs.NameScopes.Meanings.{OneScope, innermost, tag_found}
use Rattle.name_tables.proofs.NameScopes.Known.{tag_here}
use Rattle.name_tables.proofs.name_scopes.scopes.Scopes.tag_here.Goals as goal

-- the number of a tag in the innermost scope of the table is that which the scope gives it
pub returns : goal.returns
returns c =
    c.newest_here.ensures
    ∙ ap (λ tags. lists.newest (lists.innermost tags) c.args.tag)
    (c.of_kind.ensures ∙ c.self.invariant.tagged c.args.kind)
    ∙ tag_here (reverse c.self.inside.open.items) c.args.kind c.args.tag
    ∙ ap (λ (ss : List OneScope). tag_found (innermost ss).tags c.args.kind c.args.tag) c.self.view_is
