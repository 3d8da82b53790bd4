use Rattle.std.proofs.Common.{refl}
use Rattle.name_tables.specs.NameScopes.Meanings.{with_name}
use Rattle.name_tables.proofs.NameScopes.Innermost.{written, tabled_name}
use Rattle.name_tables.proofs.name_scopes.scopes.Scopes.bind.Goals as goal

-- the table of meanings stays that of the scopes where the innermost gives a name a meaning
pub invariant_of-self-in-Some : goal.invariant_of-self-in-Some
invariant_of-self-in-Some c =
    let scopes = c.self.inside.open in
    let last = c.in-Some.ensures in
    let done = c.in_ok-bind_in-in-Some.ensures in
    tabled_name scopes.items _ c.in-Some.scope.now c.bind_in.new.scope scopes.ok.0
    (last.variant.0 refl) last.value c.self.inside.names c.self.inside.tags c.self.invariant c.args.name c.args.meant
    c.bind_in.new.names done.bound done.named

-- where a scope is open, the innermost gives the name the meaning, and the others stay
pub returns-in_ok-bind_in-in-Some : goal.returns-in_ok-bind_in-in-Some
returns-in_ok-bind_in-in-Some c =
    let scopes = c.self.inside.open in
    let last = c.in-Some.ensures in
    let done = c.in_ok-bind_in-in-Some.ensures in
    record {
      bound =
          written scopes.items _ c.in-Some.scope.now c.bind_in.new.scope scopes.ok.0 (last.variant.0 refl) last.value
          c.args.self.now (with_name c.args.name c.args.meant) c.self.view_is done.bound;
    }
