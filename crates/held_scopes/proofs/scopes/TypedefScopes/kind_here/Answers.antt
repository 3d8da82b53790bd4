use Rattle.std.proofs.Common.{ap, ◌∙◌, reverse}
use Rattle.typedef_scope.specs.Scopes.{kind_in}
use Rattle.c_units.specs.HeldScopes.{HeldScopes, innermost}
use Rattle.name_lists.specs.Newest as lists
use Rattle.held_scopes.proofs.Known.{kind_here}
use Rattle.held_scopes.proofs.scopes.TypedefScopes.kind_here.Goals as goal

-- the kind of a name in the innermost scope of the table is that which the scope gives it
pub returns : goal.returns
returns c =
    c.newest_here.ensures
    ∙ ap (λ names. lists.newest (lists.innermost names) c.args.name) c.self.invariant
    ∙ kind_here (reverse c.self.inside.open.items) c.args.name
    ∙ ap (λ (ss : HeldScopes). kind_in (innermost ss).names c.args.name) c.self.view_is
