use Rattle.std.proofs.Common.{refl}
use Rattle.definition_examples.proofs.constraint_examples.laws.index_words_hold.Goals as goal

-- the programs with index words give the constraints, sites and owners that were worked out
pub returns : goal.returns
returns c = (
  record { constraints_are = refl; sites_are = refl; owners_are = refl },
  record { constraints_are = refl; sites_are = refl; owners_are = refl },
)
