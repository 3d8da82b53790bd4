use Rattle.std.proofs.Common.{◌≡◌, ap, ◌∙◌, sym, subst, ℕ, List, map, reverse}
use Rattle.std.specs.List.{filter}
use Rattle.std.proofs.lemmas.List.{reverse-reverse}
use Rattle.std.proofs.lemmas.Result.{IfOk-weaker}
use Rattle.name_rules.specs.Spellings.{Place}
use Rattle.type_table.specs.Rows.{type_of}
use Rattle.name_state.specs.declared.unit_names.names.Names.{Names}
use Rattle.name_state.specs.UnitNames.Shown.{names_of}
use Rattle.name_state.specs.NameLinks.Tables.{AreStatics}
use Rattle.sig_writer.specs.Functions.{functions_in, is_first}
use Rattle.sig_writer.proofs.functions.external_functions.Goals as goal

-- what is found of the names and of `static` is the list of the external functions of the program
pub returns : goal.returns
returns c =
    let t = type_of c.args.program.now.rows in
    let them = c.found_names-names.result.now in
    let s = names_of t them in
    let same = c.names-known.ensures in
    let statics : reverse c.statics.result.now ≡ s.statics =
    c.statics.ensures t ∙ ap (λ (k : Names). (names_of t k).statics) same in
    let things : c.things.result.now ≡ reverse s.things =
    sym (reverse-reverse c.things.result.now)
    ∙ ap reverse (c.things.ensures t ∙ ap (λ (k : Names). (names_of t k).things) same) in
    IfOk-weaker c.first_functions.result _ _ (λ it is. is t
    (subst (λ (all : List (ℕ × ℕ)). AreStatics all c.in_ok-statics.statics.known) statics c.in_ok-statics.ensures)
    ∙ ap (λ (all : List (ℕ × Place)). map (λ it. it.1) (filter (is_first s) all)) things
    ∙ ap (λ (k : Names). functions_in (names_of t k)) c.found_names-names.ensures) c.first_functions.ensures
