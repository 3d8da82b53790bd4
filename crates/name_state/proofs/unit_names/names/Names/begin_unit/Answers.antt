use Rattle.std.proofs.Common.{List, ◌∷◌, ◌∙◌, ap, sym}
use Rattle.name_tables.specs.NameScopes.Meanings.{OneScope, no_scope}
use Rattle.name_state.specs.UnitNames.Shown.{names_of}
use Rattle.name_state.proofs.UnitNames.Sharing.{first_begun, other_begun}
use Rattle.name_state.proofs.unit_names.names.Names.begin_unit.Goals as goal
use Rattle.name_state.proofs.unit_names.names.Names.begin_unit.Goals.{then-number-eq1+in_ok-share, else-number-eq1}

-- a unit begins with a file scope of its own, and the first source with what the prelude shares
pub returns : goal.returns
returns c =
    λ t.
    let before = c.args.self.now in
    let shared = c.if-number-eq1.self in
    let scopes = c.in_ok-enter.ensures.entered ∙ ap (λ (ss : List OneScope). no_scope ∷ ss) c.new.ensures in
    elim c.if-number-eq1.branch [
      | then-number-eq1+in_ok-share w ↦
          first_begun t c.args.unit before shared c.enter.new.self (sym c.number.ensures ∙ w.if-number-eq1.true)
          (ap (names_of t) w.self-is ∙ w.in_ok-share.ensures t) scopes
      | else-number-eq1 w ↦
          other_begun t c.args.unit before shared c.enter.new.self
          (λ is. w.if-number-eq1.false (c.number.ensures ∙ is)) w.self-is scopes
    ]
