-- Paths whose calls and returns match, as relations between the variables where they begin and end.
use Rattle.std.specs.Prelude.{◌≡◌, ℕ, ◌⊎◌}
use Rattle.qual_base.specs.declared.places.Owner.TheVariants.{Nobody, Function}
use Rattle.flow_graph.specs.declared.constraint.Link.TheVariants.{Le, Const, Enter, Leave}
use Rattle.flow_graph.specs.System.{System, owner_of, Stands}

-- A path inside one function, from one of its variables to another: a list of parts. A part is a flow, or a group,
-- which is an Enter, a path inside the function that is called, and a Leave of the same site.
mutual
  -- no part, or parts one behind the other, from one variable of a function to another
  pub data Matches (sys : System) (lattice : ℕ) : ℕ → ℕ → ℕ → Type 0 where
    stay : (f u : ℕ) → owner_of sys u ≡ Function f → Matches sys lattice f u u
    longer : (f u x v : ℕ) → Matches sys lattice f u x → Part sys lattice f x v → Matches sys lattice f u v

  -- a flow inside the function, or a call with its matched path inside and its return
  pub data Part (sys : System) (lattice : ℕ) : ℕ → ℕ → ℕ → Type 0 where
    flow : (f x v n : ℕ) → Stands sys lattice n (Le x v) → owner_of sys v ≡ Function f → Part sys lattice f x v
    group : (f x a b v s g n m : ℕ) → Stands sys lattice n (Enter s x a) → Matches sys lattice g a b
        → Stands sys lattice m (Leave s b v) →
        owner_of sys v ≡ Function f → Part sys lattice f x v

-- A path from a constant of an element to a variable: `Returning` as long as no call is open, `Calling` while one is.
-- The order of calls starts anew at a variable of nobody.
mutual
  -- paths on which no call is open
  pub data Returning (sys : System) (lattice e : ℕ) : ℕ → Type 0 where
    start : (v n : ℕ) → Stands sys lattice n (Const lattice e v) → Returning sys lattice e v
    flows : (u v n : ℕ) → Returning sys lattice e u → Stands sys lattice n (Le u v) → Returning sys lattice e v
    returns : (u v s n : ℕ) → Returning sys lattice e u → Stands sys lattice n (Leave s u v) → Returning sys lattice e v
    grouped : (u a b v s g n m : ℕ) → Returning sys lattice e u → Stands sys lattice n (Enter s u a)
        → Matches sys lattice g a b →
        Stands sys lattice m (Leave s b v) → Returning sys lattice e v
    anew : (v : ℕ) → Calling sys lattice e v → owner_of sys v ≡ Nobody → Returning sys lattice e v

  -- paths on which a call is open
  pub data Calling (sys : System) (lattice e : ℕ) : ℕ → Type 0 where
    calls : (u v s n : ℕ) → Returning sys lattice e u → Stands sys lattice n (Enter s u v) → Calling sys lattice e v
    calls_on : (u v s n : ℕ) → Calling sys lattice e u → Stands sys lattice n (Enter s u v) → Calling sys lattice e v
    flows_on : (u v n : ℕ) → Calling sys lattice e u → Stands sys lattice n (Le u v) → Calling sys lattice e v
    grouped_on : (u a b v s g n m : ℕ) → Calling sys lattice e u → Stands sys lattice n (Enter s u a)
        → Matches sys lattice g a b →
        Stands sys lattice m (Leave s b v) → Calling sys lattice e v

-- a path of one or more parts, whose calls and returns match, leads from one variable of a function to another
abbrev pub Match : System → ℕ → ℕ → ℕ → Type 0
Match sys lattice u v = (f : ℕ) × (x : ℕ) × Matches sys lattice f u x × Part sys lattice f x v

-- a constant of the element leads to the variable
abbrev pub Lead : System → ℕ → ℕ → ℕ → Type 0
Lead sys lattice e v = Returning sys lattice e v ⊎ Calling sys lattice e v
