-- Names of which nothing is known.
use Rattle.std.proofs.Common.{◌≡◌, ℕ, [], ◌∷◌, None, refl}
use Rattle.type_table.specs.Types.{CType}
use Rattle.name_rules.specs.Units.{no_names}
use Rattle.name_tables.specs.NameScopes.Meanings.{no_scope}
use Rattle.name_state.specs.declared.unit_names.names.Names.{Names}
use Rattle.name_state.specs.UnitNames.Shown.{names_of}

pub begun : (t : ℕ → CType) (s : Names) → s.declared ≡ [] → s.scopes ≡ no_scope ∷ [] → s.aggregates ≡ [] → s.things
    ≡ [] → s.statics.items ≡ [] → s.round ≡ []
    → s.uses ≡ [] → s.type_names ≡ [] → s.faults.items ≡ [] → s.bodies ≡ [] → s.enclosing ≡ None → s.kept
    ≡ None → names_of t s ≡ no_names
unfolding names_of
begun t s declared scopes aggregates things statics round uses type_names faults bodies enclosing kept =
    rw declared
    (rw scopes
    (rw aggregates
    (rw things
    (rw statics (rw round (rw uses (rw type_names (rw faults (rw bodies (rw enclosing (rw kept refl)))))))))))
