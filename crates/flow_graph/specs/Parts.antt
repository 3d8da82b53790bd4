-- Steps that are parts of paths, sub-paths inside one function, and main paths.
use Rattle.std.specs.Prelude.{◌≡◌, ℕ, List, [], ◌∷◌, ◌++◌}
use Rattle.qual_base.specs.declared.places.Owner.{Owner}
use Rattle.qual_base.specs.declared.places.Owner.TheVariants.{Nobody, Function}
use Rattle.flow_graph.specs.declared.constraint.Link.TheVariants.{Le, Const, Bound, Enter, Leave}
use Rattle.flow_graph.specs.declared.proof.PathStep.{PathStep}
use Rattle.flow_graph.specs.declared.proof.PathStep.TheVariants.{Take, Sub}
use Rattle.flow_graph.specs.declared.step.Seen.TheVariants.{Through}
use Rattle.flow_graph.specs.System.{System, owner_of, Stands}
use Rattle.flow_graph.specs.PathProofs.{look}
use Rattle.flow_graph.specs.declared.phase.Phase.{Phase}
use Rattle.flow_graph.specs.declared.phase.Phase.TheVariants.{First, Second}

-- The phase in which a path goes on from a variable: the order of calls starts anew at a variable of nobody.
abbrev pub settled : Owner → Phase → Phase
settled Nobody phase = First
settled (Function f) phase = phase

-- These steps are one part that leads from a variable to another: a flow, or a group, which is an Enter, nothing or a
-- sub-path, and a Leave of the same site.
pub data Part (sys : System) (lattice : ℕ) (subs : List (List PathStep)) : ℕ → ℕ → List PathStep → Type 0 where
  Flow : (u v n : ℕ) → Stands sys lattice n (Le u v) → Part sys lattice subs u v (Take n 0 ∷ [])
  Empty : (u a v s n m : ℕ) → Stands sys lattice n (Enter s u a) → Stands sys lattice m (Leave s a v)
      → Part sys lattice subs u v (Take n 0 ∷ Take m 0 ∷ [])
  Full : (u a b v s n m k : ℕ) → Stands sys lattice n (Enter s u a) → look sys subs (Sub k 0) ≡ Through a b
      → Stands sys lattice m (Leave s b v) →
      Part sys lattice subs u v (Take n 0 ∷ Sub k 0 ∷ Take m 0 ∷ [])

-- These steps are parts inside one function.
pub data Inside (sys : System) (lattice : ℕ) (subs : List (List PathStep)) (f : ℕ) : ℕ → ℕ → List PathStep
    → Type 0 where
  Done : (v : ℕ) → Inside sys lattice subs f v v []
  More : (u x v : ℕ) (front rest : List PathStep) → Part sys lattice subs u x front → owner_of sys u ≡ Function f
      → owner_of sys x ≡ Function f →
      Inside sys lattice subs f x v rest → Inside sys lattice subs f u v (front ++ rest)

-- These steps are a sub-path from a variable to another: one or more parts inside one function.
pub record IsSub (sys : System) (lattice : ℕ) (subs : List (List PathStep)) (u v : ℕ)
    (steps : List PathStep) : Type 0 where
  pub function : ℕ
  pub next : ℕ
  pub front : List PathStep
  pub rest : List PathStep
  pub part : Part sys lattice subs u next front
  pub from_is : owner_of sys u ≡ Function function
  pub next_is : owner_of sys next ≡ Function function
  pub more : Inside sys lattice subs function next v rest
  pub steps_are : steps ≡ front ++ rest

-- Each of these is a sub-path, and names only earlier ones.
pub data AreSubs (sys : System) (lattice : ℕ) : List (List PathStep) → Type 0 where
  None : AreSubs sys lattice []
  Next : (subs : List (List PathStep)) (u v : ℕ) (steps : List PathStep) → AreSubs sys lattice subs
      → IsSub sys lattice subs u v steps →
      AreSubs sys lattice (subs ++ steps ∷ [])

-- Where steps lead to: a bound, which is their last step, or a variable.
pub data Goal : Type 0 where
  ToBound : ℕ → Goal
  ToVariable : ℕ → Goal

-- These steps lead on from a variable in a phase to a goal: parts, Leaves as long as no call is open, Enters, and the
-- bound, if it is one.
pub data Onward (sys : System) (lattice : ℕ) (subs : List (List PathStep)) : Goal → Phase → ℕ → List PathStep
    → Type 0 where
  Ends : (bound : ℕ) (p : Phase) (v limit : ℕ) → Stands sys lattice bound (Bound v lattice limit) →
      Onward sys lattice subs (ToBound bound) p v (Take bound 0 ∷ [])
  There : (p : Phase) (v : ℕ) → Onward sys lattice subs (ToVariable v) p v []
  Along : (goal : Goal) (p : Phase) (u v : ℕ) (front rest : List PathStep) → Part sys lattice subs u v front →
      Onward sys lattice subs goal (settled (owner_of sys v) p) v rest
      → Onward sys lattice subs goal p u (front ++ rest)
  Back : (goal : Goal) (u v s n : ℕ) (rest : List PathStep) → Stands sys lattice n (Leave s u v) →
      Onward sys lattice subs goal (settled (owner_of sys v) First) v rest
      → Onward sys lattice subs goal First u (Take n 0 ∷ rest)
  Into : (goal : Goal) (p : Phase) (u v s n : ℕ) (rest : List PathStep) → Stands sys lattice n (Enter s u v) →
      Onward sys lattice subs goal (settled (owner_of sys v) Second) v rest
      → Onward sys lattice subs goal p u (Take n 0 ∷ rest)

-- These steps are a path from a constant of an element to a bound.
pub record IsPath (sys : System) (lattice : ℕ) (subs : List (List PathStep)) (elem bound : ℕ)
    (steps : List PathStep) : Type 0 where
  pub start : ℕ
  pub from : ℕ
  pub constant : Stands sys lattice start (Const lattice elem from)
  pub rest : List PathStep
  pub onward : Onward sys lattice subs (ToBound bound) (settled (owner_of sys from) First) from rest
  pub steps_are : steps ≡ Take start 0 ∷ rest
