-- The names of variables. A variable is named by the first end of a constraint at which it stands.
use Rattle.std.specs.Prelude.{◌≡◌, ℕ, ◌+◌, ◌==◌, Bool, false, List, [], ◌∷◌, ◌++◌, Option, Some, None, slice_get, if◌then◌else◌}
use Rattle.flow_graph.specs.declared.constraint.Link.{Link}
use Rattle.flow_graph.specs.declared.constraint.Link.TheVariants.{Le, Const, Bound, Enter, Leave}
use Rattle.flow_graph.specs.declared.constraint.Constraint.{Constraint}
use Rattle.flow_graph.specs.System.{System}

-- the variable at the first end of a link; that of a constant or a bound stands at both
abbrev pub first_end : Link → ℕ
first_end (Le u v) = u
first_end (Const l e v) = v
first_end (Bound v l e) = v
first_end (Enter s u v) = u
first_end (Leave s u v) = u

-- the variable at the second end of a link
abbrev pub second_end : Link → ℕ
second_end (Le u v) = v
second_end (Const l e v) = v
second_end (Bound v l e) = v
second_end (Enter s u v) = v
second_end (Leave s u v) = v

-- The variables at the ends of constraints: constraint n has the ends 2 n and 2 n + 1.
abbrev pub ends_of : List Constraint → List ℕ
ends_of [] = []
ends_of (c ∷ cs) = first_end c.link ∷ second_end c.link ∷ ends_of cs

-- the variables at the ends of a system's constraints
abbrev pub ends_in : System → List ℕ
ends_in sys = ends_of sys.constraints

-- the first end at which a variable stands, of ends from number k on
abbrev pub first_from : ℕ → List ℕ → ℕ → Option ℕ
first_from k [] v = None
first_from k (u ∷ ends) v = if u == v then Some k else first_from (k + 1) ends v

-- the name of a variable that stands in a constraint
abbrev pub name_of : System → ℕ → Option ℕ
name_of sys v = first_from 0 (ends_in sys) v

-- a variable and its name
pub record Named : Type 0 where
  pub name : ℕ
  pub var : ℕ

-- the name is this end
abbrev pub is_at : Option ℕ → ℕ → Bool
is_at (Some n) k = n == k
is_at None k = false

-- the variable at an end, where that is its name
abbrev pub named_at : System → ℕ → ℕ → List Named
named_at sys k v = if is_at (name_of sys v) k then record { name = k; var = v } ∷ [] else []

-- the names among ends from number k on, with their variables
abbrev pub names_from : System → ℕ → List ℕ → List Named
names_from sys k [] = []
names_from sys k (v ∷ ends) = named_at sys k v ++ names_from sys (k + 1) ends

-- the variables that stand in constraints, in the order of their names
abbrev pub names_in : System → List Named
names_in sys = names_from sys 0 (ends_in sys)

-- a name in a table that may end before it
abbrev pub entry : Option (Option ℕ) → Option ℕ
entry (Some name) = name
entry None = None

-- the name of a variable in a table
abbrev pub name_in : List (Option ℕ) → ℕ → Option ℕ
name_in table v = entry (slice_get table v)

-- a table has the name of each variable that has one
abbrev pub AreNames : System → List (Option ℕ) → Type 0
AreNames sys table = (v : ℕ) → name_in table v ≡ name_of sys v
