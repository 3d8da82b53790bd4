use Rattle.resolve_laws.proofs.NameLaws.Sources.{names_step}
use Rattle.resolve_laws.proofs.name_laws.laws.names_are_steps.Goals as goal

pub returns : goal.returns
returns c = names_step c.shapes_are_left.ensures
