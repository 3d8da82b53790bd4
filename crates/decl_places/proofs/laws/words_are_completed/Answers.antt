use Rattle.decl_places.proofs.Mixes.{words_are_completed}
use Rattle.decl_places.proofs.laws.words_are_completed.Goals as goal

pub returns : goal.returns
returns c = words_are_completed
