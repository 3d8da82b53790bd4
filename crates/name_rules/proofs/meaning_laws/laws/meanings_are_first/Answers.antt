use Rattle.name_rules.proofs.MeaningLaws.Tapes.{meanings_are_first}
use Rattle.name_rules.proofs.meaning_laws.laws.meanings_are_first.Goals as goal

pub returns : goal.returns
returns c = meanings_are_first
