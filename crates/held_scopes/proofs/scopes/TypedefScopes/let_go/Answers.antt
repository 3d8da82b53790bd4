use Rattle.std.proofs.Common.{refl, ap}
use Rattle.c_units.specs.HeldScopes.{HeldScope}
use Rattle.held_scopes.proofs.Innermost.{let_go_there, names_stay}
use Rattle.held_scopes.proofs.scopes.TypedefScopes.let_go.Goals as goal

-- the table of names stays that of the scopes where the innermost lets go the name that it holds
pub invariant_of-self-2 : goal.invariant_of-self-2
invariant_of-self-2 c =
    let scopes = c.self.inside.open in
    let last = c.in-Some.ensures in
    names_stay scopes.items _ c.in-Some.scope.now c.let_go.new.self scopes.ok.0 (last.variant.0 refl) last.value
    c.self.inside.names c.self.invariant (ap (λ (s : HeldScope). s.names) c.let_go.ensures)

-- where a scope is open, the innermost holds no name any more, and the others stay
pub returns : goal.returns
returns c =
    let scopes = c.self.inside.open in
    let last = c.in-Some.ensures in
    let_go_there scopes.items _ c.in-Some.scope.now c.let_go.new.self scopes.ok.0 (last.variant.0 refl) last.value
    c.args.self.now c.self.view_is c.let_go.ensures
