use Rattle.std.proofs.Common.{◌∙◌, ap}
use Rattle.name_rules.specs.Linking.{link_of}
use Rattle.name_state.specs.declared.unit_names.names.Names.{Names}
use Rattle.name_state.specs.UnitNames.Shown.{names_of}
use Rattle.name_state.proofs.found_names.found.FoundNames.link.Goals as goal

-- the link of a place, by the table held with the names, is the one that the rules give it
pub returns : goal.returns
returns c = λ t.
    c.link.ensures ∙ c.self.invariant.links t c.args.at.now
    ∙ ap (λ (s : Names). link_of (names_of t s) c.args.at.now) c.self.view_is
