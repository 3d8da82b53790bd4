-- Laws of paths.
use Rattle.std.specs.Prelude.{◌≡◌, ℕ, ◌<◌, Bool, true, List, ◌↔◌}
use Rattle.flow_graph.specs.declared.constraint.Link.TheVariants.{Enter}
use Rattle.flow_graph.specs.System.{System, AllBelow, Stands}
use Rattle.flow_graph.specs.Paths.{Matches, Match, Returning, Calling, Lead}
use Rattle.flow_laws.specs.Sets.{Reaches}

-- Two paths inside a function, where one begins at the end of the other, are one path.
abbrev pub MatchesJoin : Type 0
MatchesJoin =
    (sys : System) (lattice f u x v : ℕ) → Matches sys lattice f u x → Matches sys lattice f x v
    → Matches sys lattice f u v

-- A path inside a function goes on from each path that leads to its first variable with no call open, and leaves none
-- open.
abbrev pub ReturningGoesOn : Type 0
ReturningGoesOn =
    (sys : System) (lattice e f x v : ℕ) → Returning sys lattice e x → Matches sys lattice f x v
    → Returning sys lattice e v

-- It goes on from each path that leads to its first variable with calls open, and these stay open.
abbrev pub CallingGoesOn : Type 0
CallingGoesOn =
    (sys : System) (lattice e f x v : ℕ) → Calling sys lattice e x → Matches sys lattice f x v → Calling sys lattice e v

-- What reaches some copy of a variable leads to the variable.
abbrev pub ReachesLeads : Type 0
ReachesLeads = (sys : System) (lattice e v : ℕ) (sites : List ℕ) → Reaches sys lattice e v sites → Lead sys lattice e v

-- Nothing leads to a variable above all that constraints name.
abbrev pub LeadsInside : Type 0
LeadsInside = (sys : System) (lattice e v vars : ℕ) → AllBelow sys vars → Lead sys lattice e v → v < vars

-- Where tests say what leads to which variables with no call open, and where matched paths lead from the variables that
-- calls enter, there is a test of what reaches which copies.
abbrev pub ReachedIsTested : Type 0
ReachedIsTested =
    (sys : System) (lattice : ℕ) (returned matched : ℕ → ℕ → Bool)
    → ((e v : ℕ) → (returned e v ≡ true) ↔ Returning sys lattice e v) →
    ((n s w u v : ℕ) → Stands sys lattice n (Enter s w u) → (matched u v ≡ true) ↔ Match sys lattice u v) →
    (reached : ℕ → ℕ → List ℕ → Bool)
    × ((e v : ℕ) (sites : List ℕ) → (reached e v sites ≡ true) ↔ Reaches sys lattice e v sites)
