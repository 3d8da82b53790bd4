use Rattle.std.proofs.Common.{ℕ, true, [], ◌∷◌, ◌++◌, None, sym, ap, ◌∙◌}
use Rattle.std.proofs.lemmas.Result.{on_ok_weaker}
use Rattle.name_rules.specs.Faults.{fault_where, defined_twice}
use Rattle.name_rules.specs.Scopes.{with_faults}
use Rattle.name_tables.specs.UnitSpelling.Spelled.{spelling_of}
use Rattle.name_state.specs.UnitNames.Shown.{names_of}
use Rattle.c_names.specs.declared.identifiers.OldParameter.{OldParameter}
use Rattle.c_names.specs.Identifiers.{number_in}
use Rattle.c_names.proofs.Olds.{known_is, new_is}
use Rattle.c_names.proofs.old.add_old.Goals as goal

-- a second identifier of a name is at fault, and is not added
pub returns-in-Some : goal.returns-in-Some
returns-in-Some c =
    let u = spelling_of c.args.spelling.now in
    let ids = c.args.identifiers.now in
    on_ok_weaker c.blame.result (λ done t. known_is t u c.args.token c.args.name _ ids (names_of t c.args.names.now)
    (names_of t c.blame.new.self)
    (sym c.in-Some.is ∙ c.number.ensures ∙ ap (λ k. number_in k ids) c.key-key.ensures)
    (done t ∙ ap (λ at. with_faults (fault_where true at defined_twice) (names_of t c.args.names.now)) c.place.ensures))
    c.blame.ensures

-- an identifier of a new name is added behind the others
pub returns-in-None : goal.returns-in-None
returns-in-None c =
    let u = spelling_of c.args.spelling.now in
    let ids = c.args.identifiers.now in
    let made : ℕ → OldParameter = λ key. record { token = c.args.token; key = key; ty = None } in
    on_ok_weaker c.push.result (λ done t.
    new_is t u c.args.token c.args.name ids c.push.new.self (names_of t c.args.names.now)
    (sym c.in-None.is ∙ c.number.ensures ∙ ap (λ k. number_in k ids) c.key-key.ensures)
    (done ∙ ap (λ k. ids ++ made k ∷ []) c.key-key.ensures)) c.push.ensures
