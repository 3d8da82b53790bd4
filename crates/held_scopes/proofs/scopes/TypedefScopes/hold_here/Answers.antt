use Rattle.std.proofs.Common.{refl, ap}
use Rattle.c_units.specs.HeldScopes.{HeldScope}
use Rattle.held_scopes.specs.Changed.{holding}
use Rattle.held_scopes.proofs.Innermost.{written, names_stay}
use Rattle.held_scopes.proofs.scopes.TypedefScopes.hold_here.Goals as goal

-- the table of names stays that of the scopes where the innermost holds a name
pub invariant_of-self : goal.invariant_of-self
invariant_of-self c =
    let scopes = c.self.inside.open in
    let last = c.in-Some.ensures in
    names_stay scopes.items _ c.in-Some.scope.now c.hold.new.self scopes.ok.0 (last.variant.0 refl) last.value
    c.self.inside.names c.self.invariant (ap (λ (s : HeldScope). s.names) c.hold.ensures)

-- where a scope is open, the innermost holds the name, and the others stay
pub returns-in-Some-clause-held : goal.returns-in-Some-clause-held
returns-in-Some-clause-held c =
    let scopes = c.self.inside.open in
    let last = c.in-Some.ensures in
    written scopes.items _ c.in-Some.scope.now c.hold.new.self scopes.ok.0 (last.variant.0 refl) last.value
    c.args.self.now (holding c.args.name) c.self.view_is c.hold.ensures
