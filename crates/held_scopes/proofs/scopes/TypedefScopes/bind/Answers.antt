use Rattle.std.proofs.Common.{refl}
use Rattle.held_scopes.specs.Changed.{bound}
use Rattle.held_scopes.proofs.Innermost.{written, names_more}
use Rattle.held_scopes.proofs.scopes.TypedefScopes.bind.Goals as goal

-- the table of names stays that of the scopes where the innermost gives a name a kind
pub invariant_of-self-in-Some : goal.invariant_of-self-in-Some
invariant_of-self-in-Some c =
    let scopes = c.self.inside.open in
    let last = c.in-Some.ensures in
    let done = c.in_ok-bind_in-in-Some.ensures in
    names_more scopes.items _ c.in-Some.scope.now c.bind_in.new.scope scopes.ok.0 (last.variant.0 refl) last.value
    c.args.name c.args.kind c.self.inside.names c.bind_in.new.names c.self.invariant done.bound done.named

-- where a scope is open, the innermost gives the name the kind, and the others stay
pub returns-in_ok-bind_in-in-Some-clause-bound : goal.returns-in_ok-bind_in-in-Some-clause-bound
returns-in_ok-bind_in-in-Some-clause-bound c =
    let scopes = c.self.inside.open in
    let last = c.in-Some.ensures in
    let done = c.in_ok-bind_in-in-Some.ensures in
    written scopes.items _ c.in-Some.scope.now c.bind_in.new.scope scopes.ok.0 (last.variant.0 refl) last.value
    c.args.self.now (bound c.args.name c.args.kind) c.self.view_is done.bound
