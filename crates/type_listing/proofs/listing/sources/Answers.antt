use Rattle.std.proofs.Common.{List, [], sym, subst}
use Rattle.std.proofs.lemmas.List.Elements.{All-nil, All-cons}
use Rattle.std.specs.Prelude.{All}
use Rattle.resolve_laws.specs.NameLaws.NameLaws.{IsSound}
use Rattle.c_types.specs.declared.source.Source.{Source}
use Rattle.c_types.specs.Sources.{sources_of}
use Rattle.type_listing.proofs.listing.sources.Goals as goal

-- the one source that was parsed is a sound one
pub returns-in-Ok-vec : goal.returns-in-Ok-vec
returns-in-Ok-vec c =
    subst (λ (all : List Source). All IsSound (sources_of all)) (sym c.in-Ok-vec.ensures.items)
    (All-cons IsSound _ [] (_, c.in-Ok-parse.ensures.unit.rules) (All-nil IsSound))
