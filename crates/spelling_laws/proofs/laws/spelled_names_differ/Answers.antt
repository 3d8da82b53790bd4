use Rattle.spelling_laws.proofs.Numbers.{spelled_names_differ}
use Rattle.spelling_laws.proofs.laws.spelled_names_differ.Goals as goal

pub returns : goal.returns
returns c = spelled_names_differ c.names_are_numbered.ensures
