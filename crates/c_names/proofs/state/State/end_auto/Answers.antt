use Rattle.std.proofs.Common.{◌≡◌, take, option_map, refl, subst, sym, ap, ◌∙◌}
use Rattle.std.proofs.lemmas.Result.{on_ok_weaker}
use Rattle.type_table.specs.Rows.{type_of}
use Rattle.name_rules.specs.Pieces.{bare}
use Rattle.name_rules.specs.Values.{value}
use Rattle.name_rules.specs.Identifiers.{type_or_base}
use Rattle.name_rules.specs.NameSteps.State.{State}
use Rattle.name_rules.specs.NameSteps.Steps.{part_ended, name_declared, shape_of_part}
use Rattle.expr_shapes.specs.ShapeValues.Views.{some_type, some_value_type, shape_in}
use Rattle.name_tables.specs.UnitSpelling.Spelled.{spelling_of}
use Rattle.c_names.specs.Parts.{blamed, auto_declared}
use Rattle.c_names.specs.Shown.{state_of}
use Rattle.c_names.proofs.Low.{knows_before, shown_at}
use Rattle.c_names.proofs.Ending.{auto_is}
use Rattle.c_names.proofs.state.State.end_auto.Goals as goal

-- the state behind the expression of an `auto`, with its fault if it has no type, is shown alike by the table
pub set_auto-requires-clause-shown : goal.set_auto-requires-clause-shown
set_auto-requires-clause-shown c =
    let u = spelling_of c.args.spelling.now in
    let passed = take c.args.at c.args.tape.now in
    let found = some_type c.bare_value.new.types c.in_ok-ty.ty in
    shown_at (λ x. blamed u c.args.token found (part_ended x)) passed c.args.types.now c.bare_value.new.types
    c.args.self.now c.or_base.new.self c.requires.shown c.in_ok-ty.ensures.grown (λ t knows.
    c.in_ok-bare.ensures.blamed t passed ∙ ap (blamed u c.args.token found) (c.in_ok-shape.ensures.left t passed))

-- the state in which an `auto` name has got its type is shown alike by the table that has grown
pub declare-requires : goal.declare-requires
declare-requires c =
    let u = spelling_of c.args.spelling.now in
    let passed = take c.args.at c.args.tape.now in
    let found = some_type c.bare_value.new.types c.in_ok-ty.ty in
    let shown = shown_at (λ x. blamed u c.args.token found (part_ended x)) passed c.args.types.now
    c.bare_value.new.types c.args.self.now c.or_base.new.self c.requires.shown c.in_ok-ty.ensures.grown (λ t knows.
    c.in_ok-bare.ensures.blamed t passed ∙ ap (blamed u c.args.token found) (c.in_ok-shape.ensures.left t passed)) in
    shown_at (λ x. auto_declared (type_or_base found) x) passed c.bare_value.new.types c.set_auto.new.types
    c.or_base.new.self c.set_auto.new.self shown c.in_ok-set_auto.ensures.grown (λ t knows.
    let before = knows_before c.bare_value.new.types c.set_auto.new.types t c.in_ok-set_auto.ensures.grown knows in
    c.in_ok-set_auto.ensures.made t passed knows
    ∙ ap (λ x. auto_declared x (state_of t passed c.or_base.new.self))
    (before c.in_ok-bare.bare c.in_ok-bare.ensures.low ∙ c.in_ok-bare.ensures.made))

-- an `AutoEnd` declares its name with the bare type of its value, or the base type and a fault, and the specifiers' words
pub returns-clause-shown : goal.returns-clause-shown
returns-clause-shown c =
    let u = spelling_of c.args.spelling.now in
    let passed = take c.args.at c.args.tape.now in
    let old = c.args.types.now in
    let found = some_type c.bare_value.new.types c.in_ok-ty.ty in
    on_ok_weaker c.declare.result (λ done t knows.
    let between = knows_before c.bare_value.new.types c.set_auto.new.types t c.in_ok-set_auto.ensures.grown knows in
    let before = knows_before old c.bare_value.new.types t c.in_ok-ty.ensures.grown between in
    let st = state_of t passed c.args.self.now in
    let same =
    c.requires.shown.alike (type_of old) passed (λ n lt. refl) ∙ sym (c.requires.shown.alike t passed before) in
    done t passed knows ∙ ap (λ (s : State). name_declared u s) (c.in_ok-set_auto.ensures.made t passed knows ∙ ap
    (λ x. auto_declared x (state_of t passed c.or_base.new.self)) (between c.in_ok-bare.bare c.in_ok-bare.ensures.low
    ∙ c.in_ok-bare.ensures.made) ∙ ap (λ (s : State). auto_declared (type_or_base found) s)
    (c.in_ok-bare.ensures.blamed t passed ∙ ap (blamed u c.args.token found) (c.in_ok-shape.ensures.left t passed)))
    ∙ auto_is u c.args.token (value (shape_of_part u st)) found st
    (c.in_ok-ty.ensures.made ∙ ap (option_map bare) (subst (λ rows. some_value_type rows c.value-value.result
    ≡ value (shape_in rows c.in_ok-shape.shape)) c.table.ensures c.value-value.ensures
    ∙ ap value (c.in_ok-shape.ensures.shape ∙ ap (λ (s : State). shape_of_part u s) same)))) c.declare.ensures
