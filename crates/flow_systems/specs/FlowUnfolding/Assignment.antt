-- The assignment that a list of changes says.
use Rattle.std.specs.Prelude.{◌≡◌, ℕ, List, [], ◌∷◌, Bool, ◌&&◌, cond, nat_eq}
use Rattle.std.specs.Str.{bytes_eq}
use Rattle.lattice_core.specs.Order.{Order, IsLeastUpper}
use Rattle.flow_graph.specs.Unfolding
use Rattle.flow_systems.specs.declared.flow_unfolding.assignment.Change.{Change}
use Rattle.flow_systems.specs.declared.flow_unfolding.assignment.Assignment.{Assignment}

-- copy w of variable v is copy x of variable u
abbrev pub is_same : ℕ → List ℕ → ℕ → List ℕ → Bool
is_same u x v w = nat_eq u v && bytes_eq x w

-- the element of the last change of a copy, or another one where there is no change
abbrev pub last_change : List Change → ℕ → ℕ → List ℕ → ℕ
last_change [] other v w = other
last_change (c ∷ cs) other v w = last_change cs (cond (is_same c.at c.sites v w) c.elem other) v w

-- the assignment that its list of changes says
abbrev pub map_of : Assignment → Unfolding.Assignment
map_of a v w = last_change a.changes.items a.start v w

-- the assignment with another element for copy x of variable u
abbrev pub changed : Unfolding.Assignment → ℕ → List ℕ → ℕ → Unfolding.Assignment
changed map u x e v w = cond (is_same u x v w) e (map v w)

-- copy x of variable u is raised to the least upper bound of its element and another, and no other is changed
pub record Raises (order : Order) (old new : Unfolding.Assignment) (u : ℕ) (x : List ℕ) (e : ℕ) : Type 0 where
  pub join : ℕ
  pub least : IsLeastUpper order (old u x) e join
  pub changes : (v : ℕ) (w : List ℕ) → new v w ≡ changed old u x join v w
