use Rattle.std.proofs.Common.{ap, ◌∙◌, reverse}
use Rattle.name_lists.specs.Newest as lists
use Rattle.name_tables.specs.NameScopes.Meanings.{tag_through}
use Rattle.name_tables.proofs.NameScopes.Known.{tag_known}
use Rattle.name_tables.proofs.name_scopes.scopes.Scopes.tag.Goals as goal

-- the number of a tag by the table is that of the innermost scope that has it
pub returns : goal.returns
returns c =
    c.newest.ensures
    ∙ ap (λ tags. lists.newest_through tags c.args.tag) (c.of_kind.ensures ∙ c.self.invariant.tagged c.args.kind)
    ∙ tag_known (reverse c.self.inside.open.items) c.args.kind c.args.tag
    ∙ ap (λ ss. tag_through ss c.args.kind c.args.tag) c.self.view_is
