use Rattle.std.proofs.Common.{sym, ◌∙◌, ap}
use Rattle.name_rules.specs.Checks.{type_declared}
use Rattle.name_rules.specs.Spellings.{Place}
use Rattle.name_rules.specs.Scopes.{declared_at}
use Rattle.name_rules.specs.ShapeSteps.Steps as steps
use Rattle.name_tables.specs.UnitSpelling.Spelled.{spelling_of}
use Rattle.unit_shapes.specs.Views.{names_in}
use Rattle.unit_shapes.proofs.initialisers.type_of_name.Goals as goal

-- where the name declared last has a token, its type is that of the first declaration there
pub returns-in-Some : goal.returns-in-Some
returns-in-Some c =
    let rows = c.args.types.now in
    let u = spelling_of c.args.spelling.now in
    let s = names_in rows c.args.names.now in
    c.type_declared.ensures ∙ ap (λ (at : Place). type_declared (declared_at s.declared at)) c.place.ensures
    ∙ ap (steps.type_of_name u s) (sym c.in-Some.is ∙ c.declared_last.ensures rows)

-- where no name was declared last there is no type of it
pub returns-in-None : goal.returns-in-None
returns-in-None c =
    let rows = c.args.types.now in
    let u = spelling_of c.args.spelling.now in
    let s = names_in rows c.args.names.now in
    ap (steps.type_of_name u s) (sym c.in-None.is ∙ c.declared_last.ensures rows)
