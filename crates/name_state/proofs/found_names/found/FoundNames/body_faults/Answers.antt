use Rattle.std.proofs.Common.{◌∙◌, ap}
use Rattle.std.proofs.lemmas.Result.{IfOk-weaker}
use Rattle.name_rules.specs.Linking.{body_faults}
use Rattle.name_state.specs.declared.unit_names.names.Names.{Names}
use Rattle.name_state.specs.UnitNames.Shown.{names_of}
use Rattle.name_state.proofs.found_names.found.FoundNames.body_faults.Goals as goal

-- the faults of bodies, as shown, are those that the rules find in the names
pub returns : goal.returns
returns c =
    IfOk-weaker c.body_faults.result _ _
    (λ it is. λ t.
    is t (λ p. c.self.invariant.links t p) ∙ ap (λ (s : Names). body_faults (names_of t s)) c.self.view_is)
    c.body_faults.ensures
