use Rattle.std.proofs.Common.{◌≡◌, drop}
use Rattle.name_rules.specs.Spellings.{Place}
use Rattle.name_tables.specs.PlaceMap.Values.{value_at, or_else}
use Rattle.name_state.specs.NameLinks.Tables.{all_links}
use Rattle.name_state.proofs.name_links.members.Members.link_all.Given as goal

-- each place has its link so far, or else the first among the structs left, as at first
abbrev pub invariant-loop-it : goal.invariant-loop-it
invariant-loop-it l =
    (p : Place)
    → or_else (value_at l.links p) (all_links l.self.own.map l.self.among.map l.keys l.number (drop l.it-index l.all) p)
    ≡ or_else (value_at l.initial.links p) (all_links l.self.own.map l.self.among.map l.keys 0 l.all p)
