-- The sets and the pairs of variables that lines say.
use Rattle.std.specs.Prelude.{◌≡◌, ◌<◌, ◌*◌, ◌↔◌, ◌⊎◌, ℕ, List, length, map, slice_get, slice_index, Some}
use Rattle.std.specs.List.{Contains}
use Rattle.std.specs.List.Sorted.{IsStrictlySortedBy}
use Rattle.flow_graph.specs.System.{System, vars_of}
use Rattle.certificate_text.specs.declared.putting.SetLine.{SetLine}
use Rattle.certificate_text.specs.Names.{ends_in}
use Rattle.certificate_text.specs.Order.{pair_cmp}

-- names are ends that there are
abbrev pub SetsExist : System → List SetLine → Type 0
SetsExist sys sets = (k : ℕ) (it : SetLine) → slice_get sets k ≡ Some it → it.name < 2 * length sys.constraints

-- the names of pairs are ends that there are
abbrev pub PairsExist : System → List (ℕ × ℕ) → Type 0
PairsExist sys pairs =
    (k : ℕ) (pair : ℕ × ℕ) → slice_get pairs k ≡ Some pair → (pair.0 < 2 * length sys.constraints)
    × (pair.1 < 2 * length sys.constraints)

-- the variable at an end
abbrev pub var_at : System → ℕ → ℕ
var_at sys end = slice_index (ends_in sys) end

-- the variables at the two ends of a pair
abbrev pub vars_at : System → ℕ × ℕ → ℕ × ℕ
vars_at sys pair = (var_at sys pair.0, var_at sys pair.1)

-- a line says the sets of a variable
pub record IsSaid (sys : System) (sets : List SetLine) (first second : List ℕ) (v : ℕ) : Type 0 where
  pub it : SetLine
  pub there : Contains sets it
  pub var_is : var_at sys it.name ≡ v
  pub first_is : slice_index first v ≡ it.first
  pub second_is : slice_index second v ≡ it.second

-- no line does, and they are empty
pub record IsUnsaid (sys : System) (sets : List SetLine) (first second : List ℕ) (v : ℕ) : Type 0 where
  pub none : (it : SetLine) → Contains sets it → var_at sys it.name ≡ v → ⊥
  pub first_is : slice_index first v ≡ 0
  pub second_is : slice_index second v ≡ 0

-- the sets of all variables are those that lines say
pub record AreFilled (sys : System) (sets : List SetLine) (first second : List ℕ) : Type 0 where
  pub first_size : length first ≡ vars_of sys
  pub second_size : length second ≡ vars_of sys
  pub at : (v : ℕ) → IsSaid sys sets first second v ⊎ IsUnsaid sys sets first second v

-- the pairs of variables in order, each once
pub record ArePairsOf (sys : System) (pairs found : List (ℕ × ℕ)) : Type 0 where
  pub ascending : IsStrictlySortedBy pair_cmp found
  pub same : (p : ℕ × ℕ) → Contains (map (λ pair. vars_at sys pair) pairs) p ↔ Contains found p
