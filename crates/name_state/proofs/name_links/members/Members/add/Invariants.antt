use Rattle.std.proofs.Common.{◌≡◌, drop}
use Rattle.name_rules.specs.Spellings.{Place}
use Rattle.name_tables.specs.PlaceMap.Values.{or_else}
use Rattle.name_state.specs.NameLinks.Tables.{member_there, first_known}
use Rattle.name_state.proofs.name_links.members.Members.add.Given as goal

-- each place has what is known of it, or else of the members left, as at first: by the struct and by its key
abbrev pub invariant-loop-it : goal.invariant-loop-it
invariant-loop-it l =
    record {
      own : (p : Place)
          → or_else (member_there l.self.own.map p) (first_known l.number (drop l.it-index l.known) p)
          ≡ or_else (member_there l.initial.self.own.map p) (first_known l.number l.known p);
      among : (p : Place)
          → or_else (member_there l.self.among.map p) (first_known l.shared.first (drop l.it-index l.known) p)
          ≡ or_else (member_there l.initial.self.among.map p) (first_known l.shared.first l.known p);
    }
