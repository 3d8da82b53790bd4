use Rattle.std.proofs.Common.{Option, None, sym, ◌∙◌, ap, subst}
use Rattle.name_rules.specs.Faults.{Fault}
use Rattle.name_state.specs.UnitNames.Shown.{names_of}
use Rattle.unit_shapes.specs.Faults.{keep, IsFirstOf}
use Rattle.unit_shapes.proofs.Keeping.{kept_first}
use Rattle.unit_shapes.proofs.judge.first_of_names.Goals as goal

-- the earliest fault of names is the first of them
pub returns : goal.returns
returns c =
    λ t.
    let faults = (names_of t c.args.names.now).faults in
    let named = c.faults.ensures t in
    let best = c.earliest.ensures ∙ ap (keep None) named in
    subst (λ (o : Option Fault). IsFirstOf o faults) (sym best) (kept_first faults)
