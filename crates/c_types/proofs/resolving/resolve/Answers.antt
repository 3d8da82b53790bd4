use Rattle.std.proofs.Common.{◌≡◌, ◌∙◌, ap}
use Rattle.std.specs.Prelude.{map}
use Rattle.resolve_laws.specs.NameLaws.NameLaws.{tape_of_source}
use Rattle.std.proofs.lemmas.Result.{IfOk-weaker, IfErr-weaker}
use Rattle.unit_types.specs.Resolved.{tapes_of}
use Rattle.c_types.specs.Sources.{sources_of}
use Rattle.c_types.specs.Units.{AreTapesOf}
use Rattle.c_types.proofs.resolving.resolve.Goals as goal

-- the tapes that were made are those of the sources
taped : (c : goal.After-resolve_tapes) → AreTapesOf c.in-Ok.units.items (sources_of c.args.sources.now)
taped c = record { sound = c.requires.formed; taped = c.in-Ok.ensures }

units_taped : (c : goal.After-resolve_tapes)
    → tapes_of c.in-Ok.units.items ≡ map tape_of_source (sources_of c.args.sources.now)
units_taped c = c.in-Ok.ensures

pub returns-clause-none : goal.returns-clause-none
returns-clause-none c =
    IfOk-weaker c.resolve_tapes.result _ _
    (λ it is. is (sources_of c.args.sources.now) (taped c)) c.resolve_tapes.ensures.none

pub returns-clause-names : goal.returns-clause-names
returns-clause-names c =
    IfOk-weaker c.resolve_tapes.result _ _
    (λ it is. is (sources_of c.args.sources.now) (taped c)) c.resolve_tapes.ensures.names

pub returns-clause-tapes : goal.returns-clause-tapes
returns-clause-tapes c =
    IfOk-weaker c.resolve_tapes.result _ _ (λ it is. let same : tapes_of it.units ≡ tapes_of c.in-Ok.units.items =
    ap tapes_of is in same ∙ units_taped c) c.resolve_tapes.ensures.tapes

pub returns-clause-first : goal.returns-clause-first
returns-clause-first c =
    IfErr-weaker c.resolve_tapes.result _ _
    (λ fault is. is (sources_of c.args.sources.now) (taped c)) c.resolve_tapes.ensures.first
