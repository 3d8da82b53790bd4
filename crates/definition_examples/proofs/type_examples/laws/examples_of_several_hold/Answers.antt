use Rattle.std.proofs.Common.{refl}
use Rattle.definition_examples.proofs.type_examples.laws.examples_of_several_hold.Goals as goal

-- the programs of several sources give the links, bodies and faults that were worked out
pub returns : goal.returns
returns c = (
  (refl, refl, refl, refl),
  (refl, refl, refl, refl),
  (refl, refl, refl),
  refl,
  refl,
  (refl, refl, refl, refl),
  (refl, refl, refl, refl),
  (refl, refl, refl, refl),
  (refl, refl),
)
