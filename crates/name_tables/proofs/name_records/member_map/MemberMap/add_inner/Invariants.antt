use Rattle.std.proofs.Common.{◌≡◌, drop}
use Rattle.name_rules.specs.Spellings.{Place}
use Rattle.name_tables.specs.PlaceMap.Values.{or_else}
use Rattle.name_tables.specs.NameRecords.Bodies.{lying_in}
use Rattle.name_tables.specs.NameRecords.Found.{first_in, known_entry, member_there}
use Rattle.name_tables.proofs.name_records.member_map.MemberMap.add_inner.Given as goal

-- each place has its member so far, or else the first of those left, as at first with all
abbrev pub invariant-loop-known : goal.invariant-loop-known
invariant-loop-known l =
    (p : Place)
    → or_else (member_there l.self.map p)
    (first_in (known_entry l.number) (lying_in l.own (drop l.known-index l.inner)) p)
    ≡ or_else (member_there l.initial.self.map p) (first_in (known_entry l.number) (lying_in l.own l.inner) p)
