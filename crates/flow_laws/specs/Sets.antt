-- What reaches a variable in a copy.
use Rattle.std.specs.Prelude.{ℕ, List, [], ◌∷◌, ◌⊎◌}
use Rattle.lattice_core.specs.Order.{Order}
use Rattle.flow_graph.specs.declared.constraint.Link.TheVariants.{Enter}
use Rattle.flow_graph.specs.System.{System, Stands}
use Rattle.flow_graph.specs.Unfolding.{Assignment}
use Rattle.flow_graph.specs.Paths.{Matches, Returning}
use Rattle.flow_laws.specs.Least.{IsLeastOver}

-- A constant of the element leads to the variable's copy of a call string, the last site first: with no call open, or
-- through the last site and on inside the function that it calls, from a variable that the element reaches in the copy
-- of the sites before.
abbrev pub Reaches : System → ℕ → ℕ → ℕ → List ℕ → Type 0
Reaches sys lattice e v [] = Returning sys lattice e v
Reaches sys lattice e v (s ∷ sites) = Returning sys lattice e v
    ⊎ ((u : ℕ) × (a : ℕ) × (g : ℕ) × (n : ℕ) × Stands sys lattice n (Enter s u a) × Reaches sys lattice e u sites
    × Matches sys lattice g a v)

-- in each copy the least element at or above each that reaches the variable there
abbrev pub IsLeastInCopies : System → ℕ → Order → Assignment → Type 0
IsLeastInCopies sys lattice order copies =
    (v : ℕ) (sites : List ℕ) → IsLeastOver order (λ e. Reaches sys lattice e v sites) (copies v sites)
