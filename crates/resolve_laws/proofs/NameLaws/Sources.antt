-- The laws of names over tapes.
use Rattle.std.proofs.Common.{◌≡◌, List, [], ◌∷◌, refl, ◌∙◌, ap}
use Rattle.std.specs.Prelude.{All, map}
use Rattle.std.proofs.lemmas.List.Elements.{All-head, All-tail}
use Rattle.name_rules.specs.Scopes.{Names}
use Rattle.name_rules.specs.Units.{no_names, unit_begun}
use Rattle.name_rules.specs.NameSteps.State.{State, with_names}
use Rattle.name_rules.specs.NameSteps.Units.{tape_named, tapes_named}
use Rattle.type_rules.specs.Naming.{items_named}
use Rattle.type_rules.specs.Program.{Source, sources_named}
use Rattle.resolve_laws.specs.ShapeLaws.Laws.{ShapesAreLeft}
use Rattle.resolve_laws.specs.NameLaws.NameLaws.{NamesAreSteps, NamesOfTapes, tape_of_source, IsSound}
use Rattle.resolve_laws.proofs.NameLaws.Items.{items_law}

pub names_step : ShapesAreLeft → NamesAreSteps
names_step left u all items s unit = ((items_law u left all items unit.parts).goes (with_names s) s).is []

one_source : NamesAreSteps → (it : Source) (s : Names) → IsSound it
    → tape_named (tape_of_source it) s ≡ items_named it.spelling it.items s
one_source steps it s (all, unit) = ap (λ (st : State). st.names) (steps it.spelling all it.items s unit)

-- where the steps over a unit's tape name as its tree does, those over sound sources' tapes name as the sources do
all_sources : NamesAreSteps → (sources : List Source) (s : Names) → All IsSound sources
    → tapes_named (map tape_of_source sources) s ≡ sources_named sources s
all_sources steps [] s h = refl
all_sources steps (it ∷ sources) s h =
    ap (tapes_named (map tape_of_source sources))
    (one_source steps it (unit_begun it.spelling.unit s) (All-head IsSound it sources h))
    ∙ all_sources steps sources (items_named it.spelling it.items (unit_begun it.spelling.unit s))
    (All-tail IsSound it sources h)

pub names_found : NamesAreSteps → NamesOfTapes
names_found steps sources h = all_sources steps sources no_names h
