use Rattle.resolve_laws.proofs.NameLaws.Sources.{names_found}
use Rattle.resolve_laws.proofs.name_laws.laws.names_of_tapes.Goals as goal

pub returns : goal.returns
returns c = names_found c.names_are_steps.ensures
