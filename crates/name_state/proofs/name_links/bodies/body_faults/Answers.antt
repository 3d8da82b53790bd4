use Rattle.std.proofs.Common.{reverse, List, sym, ◌∙◌, ap}
use Rattle.std.proofs.lemmas.Result.{IfOk-weaker}
use Rattle.name_rules.specs.Scopes.{Bodied}
use Rattle.name_rules.specs.Linking.{faults_in}
use Rattle.name_state.specs.UnitNames.Shown.{names_of}
use Rattle.name_state.proofs.NameLinks.Earliest.{faults_are}
use Rattle.name_state.proofs.name_links.bodies.body_faults.Goals as goal

-- the faults of bodies, found by links that are those of the rules, are those of the rules
pub returns : goal.returns
returns c =
    let all = reverse c.bodies-bodies.result.now in
    IfOk-weaker c.second_bodies.result _ _
    (λ it is. λ t are.
    let s = names_of t c.args.names.now in
    is ∙ faults_are s c.args.links.now are c.in_ok-units.units all all c.in_ok-units.ensures
    (sym (c.bodies-bodies.ensures t))
    ∙ ap (λ (them : List Bodied). faults_in s them) (c.bodies-bodies.ensures t)) c.second_bodies.ensures
