use Rattle.std.proofs.Common.{take, sym, ap, ◌∙◌}
use Rattle.std.proofs.lemmas.Result.{on_ok_weaker}
use Rattle.name_rules.specs.Declaring.{untagged_begun}
use Rattle.name_rules.specs.NameSteps.Steps.{specifier_step, with_body, without_tag, with_unnamed_member}
use Rattle.name_tables.specs.UnitSpelling.Spelled.{spelling_of}
use Rattle.c_names.specs.Shown.{state_of}
use Rattle.c_names.proofs.state.State.specifier.Goals as goal

-- a `Word` adds its annotation, if it is one, to the specifiers
pub returns-in-Word-clause-shown : goal.returns-in-Word-clause-shown
returns-in-Word-clause-shown c =
    let u = spelling_of c.args.spelling.now in
    let passed = take c.args.at c.args.tape.now in
    on_ok_weaker c.add_word.result (λ done t knows. done t passed
    ∙ ap (specifier_step u (state_of t passed c.args.self.now)) (sym c.in-Word.is)) c.add_word.ensures

-- a `TagUse` makes the visible tag, or a new one, a word of the specifiers
pub returns-in-TagUse-clause-shown : goal.returns-in-TagUse-clause-shown
returns-in-TagUse-clause-shown c =
    let u = spelling_of c.args.spelling.now in
    let passed = take c.args.at c.args.tape.now in
    on_ok_weaker c.add_tag.result (λ done t knows. done t passed
    ∙ ap (specifier_step u (state_of t passed c.args.self.now)) (sym c.in-TagUse.is)) c.add_tag.ensures

-- a `TagAlone` makes the tag of the innermost scope, or a new one there, a word of the specifiers
pub returns-in-TagAlone-clause-shown : goal.returns-in-TagAlone-clause-shown
returns-in-TagAlone-clause-shown c =
    let u = spelling_of c.args.spelling.now in
    let passed = take c.args.at c.args.tape.now in
    on_ok_weaker c.add_tag-in-TagAlone.result (λ done t knows. done t passed
    ∙ ap (specifier_step u (state_of t passed c.args.self.now)) (sym c.in-TagAlone.is)) c.add_tag-in-TagAlone.ensures

-- a `TagBody` begins the body of the tag in the innermost scope
pub returns-in-TagBody-clause-shown : goal.returns-in-TagBody-clause-shown
returns-in-TagBody-clause-shown c =
    let u = spelling_of c.args.spelling.now in
    let passed = take c.args.at c.args.tape.now in
    on_ok_weaker c.begin_tag.result (λ done t knows. done t passed
    ∙ ap (specifier_step u (state_of t passed c.args.self.now)) (sym c.in-TagBody.is)) c.begin_tag.ensures

-- an `Untagged` begins a body without a tag, and the specifiers note that they have one
pub returns-in-Untagged-clause-shown : goal.returns-in-Untagged-clause-shown
returns-in-Untagged-clause-shown c =
    let u = spelling_of c.args.spelling.now in
    let passed = take c.args.at c.args.tape.now in
    on_ok_weaker c.begin_untagged.result (λ done t knows. done t passed ∙ ap (λ at.
    with_body c.in-Untagged.kind (untagged_begun at c.in-Untagged.kind (state_of t passed c.args.self.now).names)
    (without_tag c.in-Untagged.kind (state_of t passed c.args.self.now))) c.place.ensures
    ∙ ap (specifier_step u (state_of t passed c.args.self.now)) (sym c.in-Untagged.is)) c.begin_untagged.ensures

-- a `BodyEnd` goes back to the specifiers that the innermost body is a word of
pub returns-in-BodyEnd-clause-shown : goal.returns-in-BodyEnd-clause-shown
returns-in-BodyEnd-clause-shown c =
    let u = spelling_of c.args.spelling.now in
    let passed = take c.args.at c.args.tape.now in
    λ t knows. c.end_body.ensures t passed
    ∙ ap (specifier_step u (state_of t passed c.args.self.now)) (sym c.in-BodyEnd.is)

-- an `UnnamedMember` adds a member without a declarator to the innermost body
pub returns-in-UnnamedMember-clause-shown : goal.returns-in-UnnamedMember-clause-shown
returns-in-UnnamedMember-clause-shown c =
    let u = spelling_of c.args.spelling.now in
    let passed = take c.args.at c.args.tape.now in
    on_ok_weaker c.add_unnamed.result (λ done t knows. done t passed knows
    ∙ ap (λ at. with_unnamed_member at (state_of t passed c.args.self.now)) c.place-in-UnnamedMember.ensures
    ∙ ap (specifier_step u (state_of t passed c.args.self.now)) (sym c.in-UnnamedMember.is)) c.add_unnamed.ensures

-- a `TypeEnd` gives the waiting specifiers the type that was named last, if any was
pub returns-in-TypeEnd-clause-shown : goal.returns-in-TypeEnd-clause-shown
returns-in-TypeEnd-clause-shown c =
    let u = spelling_of c.args.spelling.now in
    let passed = take c.args.at c.args.tape.now in
    λ t knows. c.end_type.ensures t passed
    ∙ ap (specifier_step u (state_of t passed c.args.self.now)) (sym c.in-TypeEnd.is)

-- a `SpecsEnd` opens a declaration with the type of the specifiers
pub returns-in-SpecsEnd-clause-shown : goal.returns-in-SpecsEnd-clause-shown
returns-in-SpecsEnd-clause-shown c =
    let u = spelling_of c.args.spelling.now in
    let passed = take c.args.at c.args.tape.now in
    on_ok_weaker c.end_specifiers.result (λ done t knows. done t passed knows
    ∙ ap (specifier_step u (state_of t passed c.args.self.now)) (sym c.in-SpecsEnd.is)) c.end_specifiers.ensures.shown
