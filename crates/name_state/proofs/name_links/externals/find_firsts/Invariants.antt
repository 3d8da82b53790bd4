use Rattle.std.proofs.Common.{ℕ, List, take, reverse}
use Rattle.name_state.specs.NameLinks.Tables.{AreStatics, AreFirsts}
use Rattle.name_state.proofs.name_links.externals.find_firsts.Given as goal

abbrev pub invariant-loop-it : goal.invariant-loop-it
invariant-loop-it l =
    (all : List (ℕ × ℕ)) → AreStatics all l.statics.known
    → AreFirsts all (reverse (take l.it-index l.things)) l.found.map
