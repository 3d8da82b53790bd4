use Rattle.std.proofs.Common.{List, sym, subst}
use Rattle.std.specs.Prelude.{All}
use Rattle.resolve_laws.specs.NameLaws.NameLaws.{IsSound}
use Rattle.c_types.specs.declared.source.Source.{Source}
use Rattle.c_types.specs.Sources.{sources_of}
use Rattle.type_listing.proofs.listing.list.Goals as goal

-- the sources that were parsed are sound, as `resolve` requires
pub resolve-requires : goal.resolve-requires
resolve-requires c =
    record {
      formed = subst (λ (all : List Source). All IsSound (sources_of all))
          (sym c.deref.ensures.value) c.in_ok-all.ensures;
    }
