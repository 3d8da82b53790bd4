use Rattle.std.proofs.Common.{refl}
use Rattle.flow_rules.specs.Lists.{tie}
use Rattle.definition_examples.proofs.constraint_examples.laws.wider_examples_hold.Goals as goal

pub returns : goal.returns
unfolding tie
returns c = (
  (
    record { constraints_are = refl; sites_are = refl; owners_are = refl },
    record { constraints_are = refl; sites_are = refl; owners_are = refl },
    record { constraints_are = refl; sites_are = refl; owners_are = refl },
    record { constraints_are = refl; sites_are = refl; owners_are = refl },
    record { constraints_are = refl; sites_are = refl; owners_are = refl },
    record { constraints_are = refl; sites_are = refl; owners_are = refl },
    record { constraints_are = refl; sites_are = refl; owners_are = refl },
    record { constraints_are = refl; sites_are = refl; owners_are = refl },
    record { constraints_are = refl; sites_are = refl; owners_are = refl },
    record { constraints_are = refl; sites_are = refl; owners_are = refl },
    record { constraints_are = refl; sites_are = refl; owners_are = refl },
  ),
  (
    record { constraints_are = refl; sites_are = refl; owners_are = refl },
    record { constraints_are = refl; sites_are = refl; owners_are = refl },
    record { constraints_are = refl; sites_are = refl; owners_are = refl },
    record { constraints_are = refl; sites_are = refl; owners_are = refl },
    record { constraints_are = refl; sites_are = refl; owners_are = refl },
    record { constraints_are = refl; sites_are = refl; owners_are = refl },
    record { constraints_are = refl; sites_are = refl; owners_are = refl },
    record { constraints_are = refl; sites_are = refl; owners_are = refl },
    record { constraints_are = refl; sites_are = refl; owners_are = refl },
    record { constraints_are = refl; sites_are = refl; owners_are = refl },
    record { constraints_are = refl; sites_are = refl; owners_are = refl },
    record { constraints_are = refl; sites_are = refl; owners_are = refl },
    record { constraints_are = refl; sites_are = refl; owners_are = refl },
    record { constraints_are = refl; sites_are = refl; owners_are = refl },
    record { constraints_are = refl; sites_are = refl; owners_are = refl },
  ),
  (
    record { constraints_are = refl; sites_are = refl; owners_are = refl },
    record { constraints_are = refl; sites_are = refl; owners_are = refl },
    record { constraints_are = refl; sites_are = refl; owners_are = refl },
    record { constraints_are = refl; sites_are = refl; owners_are = refl },
  ),
  (
    record { constraints_are = refl; sites_are = refl; owners_are = refl },
    record { constraints_are = refl; sites_are = refl; owners_are = refl },
    record { constraints_are = refl; sites_are = refl; owners_are = refl },
    record { constraints_are = refl; sites_are = refl; owners_are = refl },
    record { constraints_are = refl; sites_are = refl; owners_are = refl },
    record { constraints_are = refl; sites_are = refl; owners_are = refl },
    record { constraints_are = refl; sites_are = refl; owners_are = refl },
    record { constraints_are = refl; sites_are = refl; owners_are = refl },
    record { constraints_are = refl; sites_are = refl; owners_are = refl },
    record { constraints_are = refl; sites_are = refl; owners_are = refl },
    record { constraints_are = refl; sites_are = refl; owners_are = refl },
    record { constraints_are = refl; sites_are = refl; owners_are = refl },
  ),
)
