use Rattle.std.proofs.Common.{◌≡◌, ℕ, List, take, reverse}
use Rattle.name_rules.specs.Spellings.{Place}
use Rattle.name_rules.specs.Linking.{thing_link}
use Rattle.name_tables.specs.PlaceMap.Values.{value_at}
use Rattle.name_state.specs.NameLinks.Tables.{AreStatics, AreFirsts}
use Rattle.name_state.proofs.name_links.externals.add_things.Given as goal

-- each place has the link of the things so far, by the `static` names and the first external things
abbrev pub invariant-loop-it : goal.invariant-loop-it
invariant-loop-it l =
    (all : List (ℕ × ℕ)) (others : List (ℕ × Place)) → AreStatics all l.statics.known
    → AreFirsts all others l.firsts.map
    → (p : Place) → value_at l.links p ≡ thing_link all others (reverse (take l.it-index l.things)) p
