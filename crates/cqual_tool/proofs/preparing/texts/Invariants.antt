use Rattle.std.proofs.Common.{◌≡◌, ◌++◌, drop}
use Rattle.annotate.specs.Scenes as scenes
use Rattle.cqual_tool.specs.Words.{names_in}
use Rattle.cqual_tool.specs.Programs.{texts_of}
use Rattle.cqual_tool.proofs.preparing.texts.Given as goal

abbrev pub invariant-loop-it : goal.invariant-loop-it
invariant-loop-it l =
    scenes.units_of l.units.items
    ++ texts_of (names_in l.named) (drop l.it-index l.tokens) ≡ texts_of (names_in l.named) l.tokens
