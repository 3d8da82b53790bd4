use Rattle.std.proofs.Common.{◌≡◌, ◌++◌, ◌<◌, List, length, map, drop}
use Rattle.c_lexer.specs.Tokens.{Lexed}
use Rattle.resolve_laws.specs.NameLaws.NameLaws.{tape_of_source}
use Rattle.c_types.specs.SourceSpelling.Keys.{AreNamesOf}
use Rattle.unit_types.specs.Resolved.{tapes_of}
use Rattle.c_types.specs.Sources.{sources_of}
use Rattle.c_types.proofs.Sources.{tapes_from}
use Rattle.c_types.proofs.tapes.unit_tapes.Given as goal

-- the tapes made, with those of the sources that are left behind the earlier units, are those of all sources
abbrev pub invariant-loop-number : goal.invariant-loop-number
invariant-loop-number l =
    record {
      before : List Lexed;
      names : l.number < length l.sources → AreNamesOf before l.earlier;
      rest : tapes_of l.units.items ++ tapes_from before (drop l.number l.sources)
          ≡ map tape_of_source (sources_of l.sources);
    }
