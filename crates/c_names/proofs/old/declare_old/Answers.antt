use Rattle.std.proofs.Common.{Bool, true, slice_get, Some, sym, ap, ◌∙◌}
use Rattle.std.proofs.lemmas.Result.{on_ok_weaker}
use Rattle.name_rules.specs.Spellings.{Place}
use Rattle.name_rules.specs.Faults.{fault_where, defined_twice, undeclared}
use Rattle.name_rules.specs.Scopes.{Names, with_faults}
use Rattle.name_rules.specs.Declaring.{declared_param}
use Rattle.name_state.specs.NameUses.Named.{named_of}
use Rattle.name_tables.specs.UnitSpelling.Spelled.{spelling_of}
use Rattle.name_state.specs.UnitNames.Shown.{names_of}
use Rattle.c_names.specs.Identifiers.{number_in, is_typed_in}
use Rattle.c_names.proofs.Olds.{declared_is, undeclared_is}
use Rattle.c_names.proofs.old.declare_old.Goals as goal

-- a name that is an identifier of the list gets its type, with a fault where it has one, and is declared
pub returns-in_ok-blame-in-Some : goal.returns-in_ok-blame-in-Some
returns-in_ok-blame-in-Some c =
    let u = spelling_of c.args.spelling.now in
    let ids = c.args.identifiers.now in
    let it = named_of c.args.named.now in
    on_ok_weaker c.declare_parameter.result
    (λ done t knows. declared_is t u c.args.own.now it c.args.ty ids c.set_type.new.self c.in-Some.number
    (names_of t c.args.names.now) (names_of t c.declare_parameter.new.names) (sym c.in-Some.is ∙ c.number.ensures
    ∙ ap (λ k. number_in k ids) c.key.ensures) c.set_type.ensures (done t knows ∙ ap (λ (s : Names). declared_param u
    (Some it) c.in-Some.number c.args.own.now (t c.args.ty) s) (c.in_ok-blame-in-Some.ensures t ∙ ap (λ (b : Bool).
    with_faults (fault_where b c.place-at.result defined_twice) (names_of t c.args.names.now)) c.is_typed.ensures
    ∙ ap (λ (at : Place). with_faults (fault_where (is_typed_in (slice_get ids c.in-Some.number)) at defined_twice)
    (names_of t c.args.names.now)) c.place-at.ensures))) c.declare_parameter.ensures

-- a name that is no identifier of the list is at fault as undeclared
pub returns-in-None : goal.returns-in-None
returns-in-None c =
    let u = spelling_of c.args.spelling.now in
    let ids = c.args.identifiers.now in
    let it = named_of c.args.named.now in
    on_ok_weaker c.blame-in-None.result (λ done t knows. undeclared_is t u c.args.own.now it c.args.ty ids
    (names_of t c.args.names.now) (names_of t c.blame-in-None.new.self) (sym c.in-None.is ∙ c.number.ensures
    ∙ ap (λ k. number_in k ids) c.key.ensures) (done t ∙ ap (λ (at : Place). with_faults
    (fault_where true at undeclared) (names_of t c.args.names.now)) c.place-at.ensures)) c.blame-in-None.ensures
