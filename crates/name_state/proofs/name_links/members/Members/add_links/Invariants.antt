use Rattle.std.proofs.Common.{◌≡◌, drop}
use Rattle.name_rules.specs.Spellings.{Place}
use Rattle.name_tables.specs.PlaceMap.Values.{value_at, or_else}
use Rattle.name_state.specs.NameLinks.Tables.{first_link}
use Rattle.name_state.proofs.name_links.members.Members.add_links.Given as goal

-- each place has its link so far, or else the first among the members left of this struct, as at first
abbrev pub invariant-loop-it : goal.invariant-loop-it
invariant-loop-it l =
    (p : Place)
    → or_else (value_at l.links p)
    (first_link l.self.own.map l.self.among.map l.number l.shared (drop l.it-index l.known) p)
    ≡ or_else (value_at l.initial.links p) (first_link l.self.own.map l.self.among.map l.number l.shared l.known p)
