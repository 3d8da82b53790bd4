-- Which variables lead to which in the unfolding, and the paths in two phases by which they do.
use Rattle.std.specs.Prelude.{◌≡◌, ℕ, ◌≤◌, List, ◌∷◌, length, slice_get, Some}
use Rattle.flow_graph.specs.declared.constraint.Link.TheVariants.{Le, Enter, Leave}
use Rattle.flow_graph.specs.declared.constraint.Site.{Site}
use Rattle.flow_graph.specs.declared.phase.Phase.{Phase}
use Rattle.flow_graph.specs.declared.phase.Phase.TheVariants.{First, Second}
use Rattle.flow_graph.specs.System.{System, owner_of, Stands}
use Rattle.flow_graph.specs.CallStrings.{IsCopy, either}
use Rattle.flow_graph.specs.Unfolding.{seen_from}
use Rattle.flow_graph.specs.Paths.{Matches}
use Rattle.flow_graph.specs.Parts.{settled}

-- A constraint of the unfolding at a depth leads from a variable in a copy to a variable in a copy.
pub data Leap (sys : System) (lattice depth : ℕ) : ℕ → List ℕ → ℕ → List ℕ → Type 0 where
  ByFlow : (n u v : ℕ) (sites : List ℕ) → Stands sys lattice n (Le u v)
      → IsCopy sys depth (either (owner_of sys u) (owner_of sys v)) sites →
      Leap sys lattice depth u (seen_from (owner_of sys u) sites) v (seen_from (owner_of sys v) sites)
  ByEnter : (n s u v : ℕ) (site : Site) (sites : List ℕ) → Stands sys lattice n (Enter s u v)
      → slice_get sys.sites s ≡ Some site →
      IsCopy sys depth site.owner sites → length (s ∷ sites) ≤ depth →
      Leap sys lattice depth u (seen_from (owner_of sys u) sites) v (seen_from (owner_of sys v) (s ∷ sites))
  ByLeave : (n s u v : ℕ) (site : Site) (sites : List ℕ) → Stands sys lattice n (Leave s u v)
      → slice_get sys.sites s ≡ Some site →
      IsCopy sys depth site.owner sites → length (s ∷ sites) ≤ depth →
      Leap sys lattice depth u (seen_from (owner_of sys u) (s ∷ sites)) v (seen_from (owner_of sys v) sites)

-- none or more of them do
pub data Onto (sys : System) (lattice depth : ℕ) : ℕ → List ℕ → ℕ → List ℕ → Type 0 where
  Stays : (u : ℕ) (sites : List ℕ) → Onto sys lattice depth u sites u sites
  Further : (u x v : ℕ) (one two three : List ℕ) → Onto sys lattice depth u one x two
      → Leap sys lattice depth x two v three → Onto sys lattice depth u one v three

-- At some depth a copy of one variable leads to a copy of another.
pub record Leads (sys : System) (lattice u v : ℕ) : Type 0 where
  pub depth : ℕ
  pub from : List ℕ
  pub to : List ℕ
  pub from_copy : IsCopy sys depth (owner_of sys u) from
  pub to_copy : IsCopy sys depth (owner_of sys v) to
  pub onto : Onto sys lattice depth u from v to

-- A path from a variable in phases: in the second a call is open. The order of calls starts anew at a variable of
-- nobody.
pub data Goes (sys : System) (lattice start : ℕ) : Phase → ℕ → Type 0 where
  Begins : Goes sys lattice start First start
  Flows : (p : Phase) (u v n : ℕ) (q : Phase) → q ≡ settled (owner_of sys v) p → Goes sys lattice start p u
      → Stands sys lattice n (Le u v) →
      Goes sys lattice start q v
  Returns : (u v s n : ℕ) → Goes sys lattice start First u → Stands sys lattice n (Leave s u v)
      → Goes sys lattice start First v
  Enters : (p : Phase) (u v s n : ℕ) (q : Phase) → q ≡ settled (owner_of sys v) Second → Goes sys lattice start p u
      → Stands sys lattice n (Enter s u v) →
      Goes sys lattice start q v
  Rounds : (p : Phase) (u a b v s g n m : ℕ) (q : Phase) → q ≡ settled (owner_of sys v) p → Goes sys lattice start p u →
      Stands sys lattice n (Enter s u a) → Matches sys lattice g a b → Stands sys lattice m (Leave s b v)
      → Goes sys lattice start q v

-- a path leads from one variable to another, in some phase
abbrev pub GoesTo : System → ℕ → ℕ → ℕ → Type 0
GoesTo sys lattice u v = (p : Phase) × Goes sys lattice u p v
