use Rattle.std.proofs.Common.{take, option_map, refl, sym, ap, ◌∙◌}
use Rattle.type_table.specs.Rows.{type_of}
use Rattle.name_rules.specs.Pieces.{bare}
use Rattle.name_rules.specs.Identifiers.{type_or_base}
use Rattle.name_rules.specs.NameSteps.State.{State}
use Rattle.name_rules.specs.NameSteps.Steps.{with_type, shape_of_part}
use Rattle.expr_shapes.specs.ShapeValues.Views.{some_type}
use Rattle.name_tables.specs.UnitSpelling.Spelled.{spelling_of}
use Rattle.c_names.specs.Parts.{blamed}
use Rattle.c_names.specs.Shown.{state_of}
use Rattle.c_names.proofs.Low.{knows_before}
use Rattle.c_names.proofs.Ending.{typed_is}
use Rattle.c_names.proofs.state.State.end_typeof.Goals as goal

-- a `TypeofEnd` gives the specifiers the bare type of its expression, or is at fault and gives the base type
pub returns-clause-shown : goal.returns-clause-shown
returns-clause-shown c = λ t knows.
    let u = spelling_of c.args.spelling.now in
    let passed = take c.args.at c.args.tape.now in
    let before = knows_before c.args.types.now c.bare_part.new.types t c.in_ok-ty.ensures.grown knows in
    let st = state_of t passed c.args.self.now in
    let found = some_type c.bare_part.new.types c.in_ok-ty.ty in
    let same = c.requires.shown.alike (type_of c.args.types.now) passed (λ n lt. refl)
    ∙ sym (c.requires.shown.alike t passed before) in
    c.set_type.ensures t passed
    ∙ ap (λ x. with_type x (state_of t passed c.or_base.new.self))
    (knows c.in_ok-made.made c.in_ok-made.ensures.low ∙ c.in_ok-made.ensures.made)
    ∙ ap (λ (s : State). with_type (type_or_base found) s)
    (c.in_ok-made.ensures.blamed t passed ∙ ap (blamed u c.args.token found) (c.in_ok-ty.ensures.left t passed))
    ∙ typed_is u c.args.token (shape_of_part u st).type found st
    (c.in_ok-ty.ensures.made ∙ ap (λ (s : State). option_map bare (shape_of_part u s).type) same)
