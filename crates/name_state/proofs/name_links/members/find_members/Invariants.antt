use Rattle.std.proofs.Common.{◌≡◌, drop}
use Rattle.name_rules.specs.Spellings.{Place}
use Rattle.name_tables.specs.PlaceMap.Values.{or_else}
use Rattle.name_state.specs.NameLinks.Tables.{member_there, first_own, first_among}
use Rattle.name_state.proofs.name_links.members.find_members.Given as goal

-- each place has what is found of it, or else what the structs left say, as with all: by its struct and by its key
abbrev pub invariant-loop-it : goal.invariant-loop-it
invariant-loop-it l =
    record {
      own : (p : Place)
          → or_else (member_there l.members.own.map p) (first_own l.keys l.number (drop l.it-index l.all) p)
          ≡ first_own l.keys 0 l.all p;
      among : (p : Place)
          → or_else (member_there l.members.among.map p) (first_among l.keys (drop l.it-index l.all) p)
          ≡ first_among l.keys l.all p;
    }
