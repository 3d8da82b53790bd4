-- The program with one copy of each function for each call string, and the assignments that meet its constraints.
use Rattle.std.specs.Prelude.{◌≡◌, ℕ, ◌≤◌, ◌<◌, List, [], ◌∷◌, length, slice_get, Some, true}
use Rattle.qual_base.specs.declared.places.Owner.{Owner}
use Rattle.qual_base.specs.declared.places.Owner.TheVariants.{Nobody, Function}
use Rattle.lattice_core.specs.Order.{Order, size, leq}
use Rattle.flow_graph.specs.declared.constraint.Link.TheVariants.{Le, Const, Bound, Enter, Leave}
use Rattle.flow_graph.specs.declared.constraint.Site.{Site}
use Rattle.flow_graph.specs.System.{System, owner_of, Has, Stands}
use Rattle.flow_graph.specs.CallStrings.{IsCopy, either}

-- an element for each variable in each copy
abbrev pub Assignment : Type 0
Assignment = ℕ → List ℕ → ℕ

-- the copy of a variable that is met from a copy of a function: the one copy, where nobody owns it
abbrev pub seen_from : Owner → List ℕ → List ℕ
seen_from Nobody sites = []
seen_from (Function f) sites = sites

-- the element of a variable in the copy that is met from a copy of a function
abbrev pub at : System → Assignment → ℕ → List ℕ → ℕ
at sys map v sites = map v (seen_from (owner_of sys v) sites)

-- The assignment is one of lattice elements, and rises along each constraint of the unfolding at a depth but the
-- bounds. A flow or a constant stands once in each copy of the function that owns one of its ends, and once where
-- nobody owns any. An Enter of a site leads from a copy of the site's owner to the copy with that site behind, and a
-- Leave leads back, wherever both call strings have at most as many sites as the depth. Where nobody owns the site, the
-- outer end is there once, and the inner end is in the copy whose call string is the site alone.
pub record Rises (sys : System) (lattice : ℕ) (order : Order) (depth : ℕ) (map : Assignment) : Type 0 where
  pub elements : (v : ℕ) (sites : List ℕ) → map v sites < size order
  pub le : (n u v : ℕ) (sites : List ℕ) → Stands sys lattice n (Le u v)
      → IsCopy sys depth (either (owner_of sys u) (owner_of sys v)) sites →
      leq order (at sys map u sites) (at sys map v sites) ≡ true
  pub const : (n e v : ℕ) (sites : List ℕ) → Stands sys lattice n (Const lattice e v)
      → IsCopy sys depth (owner_of sys v) sites →
      leq order e (at sys map v sites) ≡ true
  pub enter : (n s u v : ℕ) (site : Site) (sites : List ℕ) → Stands sys lattice n (Enter s u v)
      → slice_get sys.sites s ≡ Some site →
      IsCopy sys depth site.owner sites → length (s ∷ sites) ≤ depth
      → leq order (at sys map u sites) (at sys map v (s ∷ sites)) ≡ true
  pub leave : (n s u v : ℕ) (site : Site) (sites : List ℕ) → Stands sys lattice n (Leave s u v)
      → slice_get sys.sites s ≡ Some site →
      IsCopy sys depth site.owner sites → length (s ∷ sites) ≤ depth
      → leq order (at sys map u (s ∷ sites)) (at sys map v sites) ≡ true

-- the assignment is at or below a bound in each copy
abbrev pub Keeps : System → ℕ → Order → ℕ → Assignment → ℕ → Type 0
Keeps sys lattice order depth map n =
    (e v : ℕ) (sites : List ℕ) → Stands sys lattice n (Bound v lattice e) → IsCopy sys depth (owner_of sys v) sites →
    leq order (at sys map v sites) e ≡ true

-- The assignment meets the unfolding at a depth in a lattice.
pub record Meets (sys : System) (lattice : ℕ) (order : Order) (depth : ℕ) (map : Assignment) : Type 0 where
  pub rises : Rises sys lattice order depth map
  pub bound : (n : ℕ) → Keeps sys lattice order depth map n

-- in one lattice some assignment meets the unfolding at every depth
abbrev pub IsAcceptedIn : System → ℕ → Order → Type 0
IsAcceptedIn sys lattice order = (depth : ℕ) → (map : Assignment) × Meets sys lattice order depth map

-- The program is accepted where that is so in every lattice of the file.
abbrev pub IsAccepted : System → List Order → Type 0
IsAccepted sys orders =
    (lattice : ℕ) (order : Order) → slice_get orders lattice ≡ Some order → IsAcceptedIn sys lattice order

-- A bound is exceeded where at some depth no assignment meets the unfolding from which every other bound was left out.
pub record IsExceeded (sys : System) (lattice : ℕ) (order : Order) (n : ℕ) : Type 0 where
  pub var : ℕ
  pub element : ℕ
  pub bound : Stands sys lattice n (Bound var lattice element)
  pub depth : ℕ
  pub unmet : (map : Assignment) → Rises sys lattice order depth map → Keeps sys lattice order depth map n → ⊥

-- at every depth some assignment that meets the unfolding is at or below an element on all copies of a variable
abbrev pub CanStay : System → ℕ → Order → ℕ → ℕ → Type 0
CanStay sys lattice order v r = (depth : ℕ) → (map : Assignment) × Meets sys lattice order depth map
    × ((sites : List ℕ) → IsCopy sys depth (owner_of sys v) sites → leq order (at sys map v sites) r ≡ true)

-- The printed element of a variable is the least at or below which it can stay.
pub record Printed (sys : System) (lattice : ℕ) (order : Order) (v r : ℕ) : Type 0 where
  pub can : CanStay sys lattice order v r
  pub least : (q : ℕ) → CanStay sys lattice order v q → leq order r q ≡ true

-- each constant and bound of the lattice names an element
pub record NamesElementsIn (sys : System) (lattice : ℕ) (order : Order) : Type 0 where
  pub const : (n e v : ℕ) → Stands sys lattice n (Const lattice e v) → e < size order
  pub bound : (n v b : ℕ) → Stands sys lattice n (Bound v lattice b) → b < size order

-- each constant and bound names a lattice of the list and an element of it
pub record NamesElements (sys : System) (orders : List Order) : Type 0 where
  pub const : (n lattice e v : ℕ) → Has sys n (Const lattice e v)
      → (order : Order) × (slice_get orders lattice ≡ Some order) × (e < size order)
  pub bound : (n lattice e v : ℕ) → Has sys n (Bound v lattice e)
      → (order : Order) × (slice_get orders lattice ≡ Some order) × (e < size order)
