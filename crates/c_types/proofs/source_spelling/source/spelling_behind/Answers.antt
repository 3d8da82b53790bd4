use Rattle.c_types.proofs.SourceSpelling.Reading.{spelled_is}
use Rattle.c_types.proofs.source_spelling.source.spelling_behind.Goals as goal

-- what is read of a unit's tokens is what the rules say of it behind the earlier units
pub returns : goal.returns
returns c =
    λ units are. spelled_is units c.args.tokens.now c.unit.result c.is_wide.result c.in_ok-annotates.annotates.items
    c.in_ok-is_naught.is_naught.items c.in_ok-keys.keys.items c.unit.ensures c.is_wide.ensures c.in_ok-annotates.ensures
    c.in_ok-is_naught.ensures (c.in_ok-keys.ensures units are)
