-- What the nodes of a function say, as the code holds it.
use Rattle.std.specs.Prelude.{◌≡◌, ℕ, ◌<◌, ◌≤◌, ◌+◌, ◌-◌, nat_eq, true, not, ◌↔◌, Bool, List, [], ◌∷◌, ◌++◌, slice_get}
use Rattle.std.specs.Prelude.{length, Option, None, Some, if◌then◌else◌}
use Rattle.std.specs.List.{list_any, Contains}
use Rattle.std.specs.Int.{bit_at}
use Rattle.std.specs.declared.alloc.Global.{Global}
use Rattle.std.specs.declared.vec.Vec.{Vec}
use Rattle.lattice_core.specs.Order.{Order, leq, size, IsJoinOf}
use Rattle.flow_graph.specs.declared.phase.Phase.TheVariants.{First}
use Rattle.match_summary.specs.Summary.{HasPair}
use Rattle.lattice_solver.specs.Phases.{set_of}
use Rattle.sig_writer.specs.declared.nodes.Nodes.{Nodes}
use Rattle.sig_writer.specs.declared.says.Known.{Known}
use Rattle.sig_writer.specs.declared.says.Elements.{Elements}
use Rattle.sig_writer.specs.Found.{IsGreatest, IsLeast}
use Rattle.bounds_below.specs.Below.{set_at}
use Rattle.sig_writer.specs.Signatures.{Found, Says, says, says_nothing, unless}

-- m is the greatest element that is at or below each element of a set, bit n for element n
pub record IsMeetOf (order : Order) (set m : ℕ) : Type 0 where
  pub element : m < size order
  pub lower : (a : ℕ) → a < size order → bit_at set a ≡ 1 → leq order m a ≡ true
  pub greatest : (d : ℕ) → d < size order → ((a : ℕ) → a < size order → bit_at set a ≡ 1 → leq order d a ≡ true) →
      leq order d m ≡ true

-- the elements that stand beside what is found are the least and the greatest
pub record AreKnown (known : Known) : Type 0 where
  pub least : IsLeast known.lattice.now.order known.least
  pub greatest : IsGreatest known.lattice.now.order known.greatest

-- the join of the constants that come to a variable with no call open
abbrev pub IsJoinAt : Known → ℕ → ℕ → Type 0
IsJoinAt known v e = IsJoinOf known.lattice.now.order (set_of known.solver.now.phases First v) e

-- the meet of the bounds that a variable leads to
abbrev pub IsMeetAt : Known → ℕ → ℕ → Type 0
IsMeetAt known v e = IsMeetOf known.lattice.now.order (set_at known.below.now v) e

-- what summaries, a solver and sets of bounds say of these nodes
pub record IsKnownOf (known : Known) (vars : List ℕ) (it : Found) : Type 0 where
  pub join : (v : ℕ) → Contains vars v → IsJoinAt known v (it.join v)
  pub meet : (v : ℕ) → Contains vars v → IsMeetAt known v (it.meet v)
  pub joins : (u v : ℕ) → Contains vars u → (it.joins u v ≡ true) ↔ HasPair known.summaries.now u v
  pub least : it.least ≡ known.least
  pub greatest : it.greatest ≡ known.greatest

-- what is written of the join and of the meet
abbrev pub elements_of : Option ℕ → Option ℕ → Elements
elements_of low high = record { low = low; high = high }

-- some variables, and what each says
pub record Saying : Type 0 where
  pub vars : List ℕ
  pub says : List Says

-- nothing: no number and no element
abbrev pub nothing_said : Says
nothing_said = record { numbers = []; low = None; high = None }

-- what a variable says, of these variables and what they say in the same order
abbrev pub says_among : List ℕ → List Says → ℕ → Says
says_among [] all v = nothing_said
says_among (u ∷ us) [] v = nothing_said
says_among (u ∷ us) (it ∷ all) v = if nat_eq u v then it else says_among us all v

-- nothing is said elsewhere
abbrev pub said_at : Saying → ℕ → Says
said_at said v = says_among said.vars said.says v

-- what each node says, by its numbers and its elements
abbrev pub says_by : List (Vec ℕ Global) → List Elements → List Says
says_by [] elements = []
says_by (list ∷ lists) [] = []
says_by (list ∷ lists) (it ∷ elements) = record { numbers = list.items; low = it.low; high = it.high } ∷ says_by lists
    elements

-- each node has a list of numbers, and elements
pub record AreHeld (nodes : Nodes) (numbers : List (Vec ℕ Global)) (elements : List Elements) : Type 0 where
  pub order : nodes.from ≤ nodes.to
  pub numbers_are : length numbers ≡ nodes.to - nodes.from
  pub elements_are : length elements ≡ nodes.to - nodes.from

-- elements of an order
abbrev pub IsOf : Order → Option ℕ → Type 0
IsOf order None = Unit {0}
IsOf order (Some e) = e < size order

-- the elements that are written are of an order
abbrev pub AreOf : Order → Elements → Type 0
AreOf order it = IsOf order it.low × IsOf order it.high

-- what is written of a variable's join is what is found of it, in whatever variables it is
pub record IsLowAt (known : Known) (v : ℕ) (e : Option ℕ) : Type 0 where
  pub is : (vars : List ℕ) (it : Found) → Contains vars v → IsKnownOf known vars it → e ≡ unless (it.join v) it.least

-- what is written of a variable's meet is what is found of it, in whatever variables it is
pub record IsHighAt (known : Known) (v : ℕ) (e : Option ℕ) : Type 0 where
  pub is : (vars : List ℕ) (it : Found) → Contains vars v → IsKnownOf known vars it → e ≡ unless (it.meet v) it.greatest

-- what is written of a variable's join and meet is what is found of it
pub record AreFoundAt (known : Known) (v : ℕ) (it : Elements) : Type 0 where
  pub within : AreOf known.lattice.now.order it
  pub low : IsLowAt known v it.low
  pub high : IsHighAt known v it.high

-- the elements of a variable come behind others
pub record PushesFound (known : Known) (v : ℕ) (old new : List Elements) : Type 0 where
  pub it : Elements
  pub pushed : new ≡ old ++ it ∷ []
  pub found : AreFoundAt known v it

-- for each node the elements that are written of it
pub record AreElements (known : Known) (nodes : Nodes) (elements : List Elements) : Type 0 where
  pub count : length elements ≡ nodes.to - nodes.from
  pub are : (k : ℕ) (it : Elements) → slice_get elements k ≡ Some it → AreFoundAt known (nodes.from + k) it

-- nodes say what is found of them
pub record AreSaid (it : Found) (vars : List ℕ) (said : Saying) : Type 0 where
  pub vars_are : said.vars ≡ vars
  pub says_are : (v : ℕ) → Contains vars v → said_at said v ≡ says it vars v

-- whether some of these variables says anything
abbrev pub some_says : Saying → List ℕ → Bool
some_says said vars = list_any (λ v. not (says_nothing (said_at said v))) vars
