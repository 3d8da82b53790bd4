-- For each phase a list of sets: set number v is that of variable v, bit e stands for element e.
use Rattle.std.specs.Prelude.{◌≡◌, ℕ, ◌<◌, ◌^◌, List, length}

-- the sets of all variables in both phases
pub record PhaseSets : Type 0 where
  pub first : List ℕ
  pub second : List ℕ

-- both have a set for each variable
pub record AreSized (first second : List ℕ) : Type 0 where
  pub same : length second ≡ length first
  pub few : length first < 2 ^ 32
