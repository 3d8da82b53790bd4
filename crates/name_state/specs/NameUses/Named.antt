-- A name with its token.
use Rattle.name_rules.specs.Spellings as rules
use Rattle.name_state.specs.declared.name_uses.first.Named.{Named}

-- a name with its token, as the definitions have it
abbrev pub named_of : Named → rules.Named
named_of it = record { token = it.token; name = it.name }
