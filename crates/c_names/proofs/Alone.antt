-- The first unit of all sees nothing of others.
use Rattle.std.proofs.Common.{◌≡◌, ℕ, nat_eq, Bool, true, false, [], refl, if◌then◌else◌}
use Rattle.name_rules.specs.Units.{no_names, unit_begun}

-- the first unit of all begins with no names, whatever its number
pub begun_alone : (unit : ℕ) → unit_begun unit no_names ≡ no_names
begun_alone unit = by_test (nat_eq unit 1)
  where
    by_test : (b : Bool) → record no_names { round = if b then [] else [] } ≡ no_names
    by_test true = refl
    by_test false = refl
