use Rattle.std.proofs.Common.{[], None, sym, ap, ◌∙◌}
use Rattle.type_table.specs.Types.{base}
use Rattle.name_rules.specs.NameSteps.Steps.{with_parameter}
use Rattle.name_tables.specs.UnitSpelling.Spelled.{spelling_of}
use Rattle.c_names.specs.Parameters.{parameter_added}
use Rattle.c_names.specs.Shown.{state_of}
use Rattle.c_names.proofs.Low.{declared_low, knows_before}
use Rattle.c_names.proofs.state.State.add_parameter.Goals as goal

pub push_parameter-requires : goal.push_parameter-requires
push_parameter-requires c =
    declared_low c.args.types.now c.args.self.now c.requires c.in-Some.declaration _ c.in-Some.ensures

pub returns-in_ok-push_parameter-in-Some-clause-shown : goal.returns-in_ok-push_parameter-in-Some-clause-shown
unfolding state_of
returns-in_ok-push_parameter-in-Some-clause-shown c = λ t p knows.
    let u = spelling_of c.args.spelling.now in
    c.in_ok-push_parameter-in-Some.ensures.shown t p knows
    ∙ ap (λ ds. with_parameter u (state_of t p (record c.args.self.now { declarations = ds }))) (sym c.in-Some.ensures)

pub returns-in_ok-push_parameter-in-None-clause-shown : goal.returns-in_ok-push_parameter-in-None-clause-shown
unfolding state_of
returns-in_ok-push_parameter-in-None-clause-shown c = λ t p knows.
    let u = spelling_of c.args.spelling.now in
    let before = knows_before c.args.types.now c.push_parameter-in-None.new.types t
    c.in_ok-push_parameter-in-None.ensures.grown knows in
    c.in_ok-push_parameter-in-None.ensures.shown t p knows
    ∙ ap (λ x. parameter_added u None x (state_of t p (record c.args.self.now { declarations = c.pop.new.self })))
    (c.base-ty.ensures.is t before)
    ∙ ap (λ ds. parameter_added u None (base [])
    (state_of t p (record c.args.self.now { declarations = ds }))) c.in-None.ensures.1
    ∙ ap (λ ds. with_parameter u (state_of t p (record c.args.self.now { declarations = ds })))
    (sym c.in-None.ensures.0)
