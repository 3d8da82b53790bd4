use Rattle.token_laws.proofs.Units as units
use Rattle.token_laws.proofs.laws.sites_have_tokens.Goals as goal

pub returns : goal.returns
returns c =
    units.sites_have_tokens c.first_begins.ensures c.last_ends.ensures c.names_of_tapes.ensures
    c.starts_of_program_are_found.ensures
