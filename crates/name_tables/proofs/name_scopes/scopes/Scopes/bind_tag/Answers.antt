use Rattle.std.proofs.Common.{refl}
use Rattle.name_tables.specs.NameScopes.Meanings.{with_tag}
use Rattle.name_tables.proofs.NameScopes.Innermost.{written, tabled_tag}
use Rattle.name_tables.proofs.name_scopes.scopes.Scopes.bind_tag.Goals as goal

-- the tables of tags stay those of the scopes where the innermost gets a tag
pub invariant_of-self-in-Some : goal.invariant_of-self-in-Some
invariant_of-self-in-Some c =
    let scopes = c.self.inside.open in
    let last = c.in-Some.ensures in
    let done = c.in_ok-bind_tag_in-in-Some.ensures in
    tabled_tag scopes.items _ c.in-Some.scope.now c.bind_tag_in.new.scope scopes.ok.0 (last.variant.0 refl) last.value
    c.self.inside.names c.self.inside.tags c.self.invariant c.args.kind c.args.tag c.args.number c.bind_tag_in.new.tags
    done.bound done.tagged

-- where a scope is open, the innermost gets the tag, and the others stay
pub returns-in_ok-bind_tag_in-in-Some : goal.returns-in_ok-bind_tag_in-in-Some
returns-in_ok-bind_tag_in-in-Some c =
    let scopes = c.self.inside.open in
    let last = c.in-Some.ensures in
    let done = c.in_ok-bind_tag_in-in-Some.ensures in
    record {
      bound =
          written scopes.items _ c.in-Some.scope.now c.bind_tag_in.new.scope scopes.ok.0 (last.variant.0 refl)
          last.value c.args.self.now (with_tag c.args.kind c.args.tag c.args.number) c.self.view_is done.bound;
    }
