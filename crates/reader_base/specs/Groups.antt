-- Groups in which brackets match.
use Rattle.std.specs.Prelude.{reverse}
use Rattle.c_reading.specs.Reading.{Reader, run}
use Rattle.c_reading.specs.Tokens as tokens
use Rattle.reader_base.specs.declared.groups.Opened.{Opened}

-- the brackets that are open, the innermost first
abbrev pub opened_of : Opened → tokens.Opened
opened_of opened = record { brackets = reverse opened.brackets.items; last = opened.last }

-- tokens until no bracket is open
abbrev pub insides_at : Opened → Reader tokens.Opened
insides_at opened s ts = run tokens.bracket_turn (opened_of opened) s ts
