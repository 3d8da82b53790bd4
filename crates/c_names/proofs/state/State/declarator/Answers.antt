use Rattle.std.proofs.Common.{take, sym, ap, ◌∙◌}
use Rattle.std.proofs.lemmas.Result.{on_ok_weaker}
use Rattle.name_rules.specs.NameSteps.Steps.{declarator_step, with_type_name}
use Rattle.name_tables.specs.UnitSpelling.Spelled.{spelling_of}
use Rattle.c_names.specs.Shown.{state_of}
use Rattle.c_names.proofs.state.State.declarator.Goals as goal

-- a `DeclName` gives its token and name to the innermost declaration
pub returns-in-DeclName-clause-shown : goal.returns-in-DeclName-clause-shown
returns-in-DeclName-clause-shown c =
    let u = spelling_of c.args.spelling.now in
    let passed = take c.args.at c.args.tape.now in
    on_ok_weaker c.set_name.result (λ done t knows. done t passed
    ∙ ap (declarator_step u (state_of t passed c.args.self.now)) (sym c.in-DeclName.is)) c.set_name.ensures

-- a `ParamsBegin` enters a scope and opens a list of parameters, with its owner where it is a function's own
pub returns-in-ParamsBegin-clause-shown : goal.returns-in-ParamsBegin-clause-shown
returns-in-ParamsBegin-clause-shown c =
    let u = spelling_of c.args.spelling.now in
    let passed = take c.args.at c.args.tape.now in
    on_ok_weaker c.begin_parameters.result (λ done t knows. done t passed
    ∙ ap (declarator_step u (state_of t passed c.args.self.now)) (sym c.in-ParamsBegin.is)) c.begin_parameters.ensures

-- a `Param` takes the innermost declaration as the next parameter
pub returns-in-Param-clause-shown : goal.returns-in-Param-clause-shown
returns-in-Param-clause-shown c =
    let u = spelling_of c.args.spelling.now in
    let passed = take c.args.at c.args.tape.now in
    on_ok_weaker c.add_parameter.result (λ done t knows. done t passed knows
    ∙ ap (declarator_step u (state_of t passed c.args.self.now)) (sym c.in-Param.is)) c.add_parameter.ensures.shown

-- a `ParamsEnd` finishes the innermost list of parameters, and its scope
pub returns-in-ParamsEnd-clause-shown : goal.returns-in-ParamsEnd-clause-shown
returns-in-ParamsEnd-clause-shown c =
    let u = spelling_of c.args.spelling.now in
    let passed = take c.args.at c.args.tape.now in
    on_ok_weaker c.end_parameters.result (λ done t knows. done t passed knows
    ∙ ap (declarator_step u (state_of t passed c.args.self.now)) (sym c.in-ParamsEnd.is)) c.end_parameters.ensures

-- a `Pointer` makes the type so far one that is pointed to
pub returns-in-Pointer-clause-shown : goal.returns-in-Pointer-clause-shown
returns-in-Pointer-clause-shown c =
    let u = spelling_of c.args.spelling.now in
    let passed = take c.args.at c.args.tape.now in
    on_ok_weaker c.point.result (λ done t knows. done t passed knows
    ∙ ap (declarator_step u (state_of t passed c.args.self.now)) (sym c.in-Pointer.is)) c.point.ensures.shown

-- an `Array` makes the type so far that of its elements
pub returns-in-Array-clause-shown : goal.returns-in-Array-clause-shown
returns-in-Array-clause-shown c =
    let u = spelling_of c.args.spelling.now in
    let passed = take c.args.at c.args.tape.now in
    on_ok_weaker c.point-in-Array.result (λ done t knows. done t passed knows
    ∙ ap (declarator_step u (state_of t passed c.args.self.now)) (sym c.in-Array.is)) c.point-in-Array.ensures.shown

-- a `Function` makes the type so far its result, with the parameters of the last list that ended
pub returns-in-Function-clause-shown : goal.returns-in-Function-clause-shown
returns-in-Function-clause-shown c =
    let u = spelling_of c.args.spelling.now in
    let passed = take c.args.at c.args.tape.now in
    on_ok_weaker c.call.result (λ done t knows. done t passed knows
    ∙ ap (declarator_step u (state_of t passed c.args.self.now)) (sym c.in-Function.is)) c.call.ensures.shown

-- a `Declare` declares the name of the innermost declaration with its type so far
pub returns-in-Declare-clause-shown : goal.returns-in-Declare-clause-shown
returns-in-Declare-clause-shown c =
    let u = spelling_of c.args.spelling.now in
    let passed = take c.args.at c.args.tape.now in
    on_ok_weaker c.declare.result (λ done t knows. done t passed knows
    ∙ ap (declarator_step u (state_of t passed c.args.self.now)) (sym c.in-Declare.is)) c.declare.ensures

-- an `Identifier` adds its name to the innermost list of identifiers
pub returns-in-Identifier-clause-shown : goal.returns-in-Identifier-clause-shown
returns-in-Identifier-clause-shown c =
    let u = spelling_of c.args.spelling.now in
    let passed = take c.args.at c.args.tape.now in
    on_ok_weaker c.add_identifier.result (λ done t knows. done t passed
    ∙ ap (declarator_step u (state_of t passed c.args.self.now)) (sym c.in-Identifier.is)) c.add_identifier.ensures

-- an `OldParam` gives its type to the identifier of its name, or declares a typedef
pub returns-in-OldParam-clause-shown : goal.returns-in-OldParam-clause-shown
returns-in-OldParam-clause-shown c =
    let u = spelling_of c.args.spelling.now in
    let passed = take c.args.at c.args.tape.now in
    on_ok_weaker c.declare_identifier.result (λ done t knows. done t passed knows ∙ ap
    (declarator_step u (state_of t passed c.args.self.now)) (sym c.in-OldParam.is)) c.declare_identifier.ensures.shown

-- a `Member` adds the declarator to the innermost body
pub returns-in-Member-clause-shown : goal.returns-in-Member-clause-shown
returns-in-Member-clause-shown c =
    let u = spelling_of c.args.spelling.now in
    let passed = take c.args.at c.args.tape.now in
    on_ok_weaker c.declare_member.result (λ done t knows. done t passed knows
    ∙ ap (declarator_step u (state_of t passed c.args.self.now)) (sym c.in-Member.is)) c.declare_member.ensures

-- a `TypeName` keeps the type of the innermost declaration for the place of its first token
pub returns-in-TypeName-clause-shown : goal.returns-in-TypeName-clause-shown
returns-in-TypeName-clause-shown c =
    let u = spelling_of c.args.spelling.now in
    let passed = take c.args.at c.args.tape.now in
    on_ok_weaker c.name_type.result (λ done t knows. done t passed knows
    ∙ ap (λ at. with_type_name at (state_of t passed c.args.self.now)) c.place.ensures
    ∙ ap (declarator_step u (state_of t passed c.args.self.now)) (sym c.in-TypeName.is)) c.name_type.ensures

-- a `DeclarationEnd` drops the innermost declaration
pub returns-in-DeclarationEnd-clause-shown : goal.returns-in-DeclarationEnd-clause-shown
returns-in-DeclarationEnd-clause-shown c =
    let u = spelling_of c.args.spelling.now in
    let passed = take c.args.at c.args.tape.now in
    λ t knows. c.let_go.ensures t passed
    ∙ ap (declarator_step u (state_of t passed c.args.self.now)) (sym c.in-DeclarationEnd.is)
