use Rattle.token_laws.proofs.Units as units
use Rattle.token_laws.proofs.laws.faults_have_tokens.Goals as goal

pub returns : goal.returns
returns c =
    units.faults_have_tokens c.first_begins.ensures c.last_ends.ensures c.names_of_tapes.ensures
    c.faults_are_found.ensures
