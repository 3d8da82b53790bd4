use Rattle.answer_laws.proofs.Owned.{programs_are_owned}
use Rattle.answer_laws.proofs.laws.programs_are_owned.Goals as goal

pub returns : goal.returns
returns c = programs_are_owned c.systems_are_owned.ensures c.elements_are_named.ensures.lattices
