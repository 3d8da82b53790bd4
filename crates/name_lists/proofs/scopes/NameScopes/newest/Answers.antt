use Rattle.std.proofs.Common.{reverse, sym, ◌∙◌, ap}
use Rattle.name_lists.specs.Newest.{newest_through}
use Rattle.name_lists.proofs.Cutting.{newest_cut}
use Rattle.name_lists.proofs.scopes.NameScopes.newest.Goals as goal

-- the newest entry of a name is that of the innermost scope that has one
pub returns : goal.returns
returns g c =
    c.get.ensures ∙ newest_cut (reverse c.self.inside.counts.items) c.self.inside.names c.args.name c.self.invariant
    ∙ ap (λ v. newest_through v c.args.name) c.self.view_is
