use Rattle.std.proofs.Common.{refl}
use Rattle.definition_examples.proofs.unit_examples.laws.wider_examples_hold.Goals as goal

-- the sources of wider C have the trees and heights that were worked out
pub returns : goal.returns
returns c = (
  (
    record { spelled = record { last = 9; spelled = refl }; high = refl; named = refl },
    record { spelled = record { last = 8; spelled = refl }; high = refl; named = refl },
    record { spelled = record { last = 25; spelled = refl }; high = refl; named = refl },
    record { spelled = record { last = 14; spelled = refl }; high = refl; named = refl },
    record { spelled = record { last = 22; spelled = refl }; high = refl; named = refl },
    record { spelled = record { last = 29; spelled = refl }; high = refl; named = refl },
    record { spelled = record { last = 20; spelled = refl }; high = refl; named = refl },
    record { spelled = record { last = 20; spelled = refl }; high = refl; named = refl },
    record { spelled = record { last = 19; spelled = refl }; high = refl; named = refl },
    record { spelled = record { last = 17; spelled = refl }; high = refl; named = refl },
    record { spelled = record { last = 10; spelled = refl }; high = refl; named = refl },
    record { spelled = record { last = 16; spelled = refl }; high = refl; named = refl },
  ),
  (
    record { spelled = record { last = 15; spelled = refl }; high = refl; named = refl },
    record { spelled = record { last = 15; spelled = refl }; high = refl; named = refl },
    record { spelled = record { last = 19; spelled = refl }; high = refl; named = refl },
    record { spelled = record { last = 32; spelled = refl }; high = refl; named = refl },
    record { spelled = record { last = 14; spelled = refl }; high = refl; named = refl },
    record { spelled = record { last = 28; spelled = refl }; high = refl; named = refl },
    record { spelled = record { last = 24; spelled = refl }; high = refl; named = refl },
  ),
  (
    record { spelled = record { last = 22; spelled = refl }; high = refl; named = refl },
    record { spelled = record { last = 19; spelled = refl }; high = refl; named = refl },
    record { spelled = record { last = 16; spelled = refl }; high = refl; named = refl },
    record { spelled = record { last = 20; spelled = refl }; high = refl; named = refl },
    record { spelled = record { last = 39; spelled = refl }; high = refl; named = refl },
    record { spelled = record { last = 17; spelled = refl }; high = refl; named = refl },
    record { spelled = record { last = 10; spelled = refl }; high = refl; named = refl },
  ),
  (
    record { spelled = record { last = 21; spelled = refl }; high = refl; named = refl },
    record { spelled = record { last = 41; spelled = refl }; high = refl; named = refl },
    record { spelled = record { last = 31; spelled = refl }; high = refl; named = refl },
    record { spelled = record { last = 34; spelled = refl }; high = refl; named = refl },
    record { spelled = record { last = 25; spelled = refl }; high = refl; named = refl },
    record { spelled = record { last = 23; spelled = refl }; high = refl; named = refl },
    record { spelled = record { last = 28; spelled = refl }; high = refl; named = refl },
    record { spelled = record { last = 24; spelled = refl }; high = refl; named = refl },
  ),
  (
    record { spelled = record { last = 16; spelled = refl }; misnamed = refl },
    record { spelled = record { last = 17; spelled = refl }; misnamed = refl },
    record { spelled = record { last = 16; spelled = refl }; misnamed = refl },
  ),
  (
    record { spelled = record { last = 13; spelled = refl }; misnamed = refl },
    record { spelled = record { last = 15; spelled = refl }; misnamed = refl },
    record { spelled = record { last = 15; spelled = refl }; misnamed = refl },
    record { spelled = record { last = 20; spelled = refl }; misnamed = refl },
    record { spelled = record { last = 13; spelled = refl }; misnamed = refl },
    record { spelled = record { last = 7; spelled = refl }; misnamed = refl },
    record { spelled = record { last = 4; spelled = refl }; misnamed = refl },
  ),
)
