use Rattle.std.proofs.Common.{◌∙◌, sym, ap}
use Rattle.name_state.specs.UnitNames.Shown.{names_of}
use Rattle.name_state.proofs.UnitNames.Finding.{use_or_missing, use_found}
use Rattle.name_state.proofs.unit_names.names.Names.use_at.Goals as goal

pub returns-in-Some : goal.returns-in-Some
unfolding names_of
returns-in-Some c = λ t.
    ap use_or_missing (sym c.in-Some.is)
    ∙ use_found c.args.self.now.uses c.args.at.now c.first_at.result c.first_at.ensures

pub returns-in-None : goal.returns-in-None
unfolding names_of
returns-in-None c = λ t.
    ap use_or_missing (sym c.in-None.is)
    ∙ use_found c.args.self.now.uses c.args.at.now c.first_at.result c.first_at.ensures
