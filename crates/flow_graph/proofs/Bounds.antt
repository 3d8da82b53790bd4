-- What holds of each constraint holds of each in a longer list.
use Rattle.std.proofs.Common.{◌≡◌, ℕ, zero, suc, ◌≤◌, List, [], ◌∷◌, ◌++◌, length, slice_get, Some, sym, ◌∙◌, ap, subst, arith, ◌⊎◌, inl, inr}
use Rattle.flow_graph.specs.declared.constraint.Constraint.{Constraint}
use Rattle.flow_graph.specs.declared.constraint.Link.{Link}
use Rattle.flow_graph.specs.declared.constraint.Link.TheVariants.{Le, Const, Bound, Enter, Leave}
use Rattle.flow_graph.specs.System.{System, IsWithin, AllWithin, AllBelow, highest, vars_of_link, vars_of}

-- an item of a longer list is one of the list, or the new one
pub item_of_pushed : {A : Type 0} (xs : List A) (y : A) (n : ℕ) (x : A) → slice_get (xs ++ y ∷ []) n ≡ Some x
    → (slice_get xs n ≡ Some x) ⊎ (y ≡ x)
item_of_pushed [] y zero x is = inr cc
item_of_pushed [] y (suc n) x is = inl is
item_of_pushed (z ∷ xs) y zero x is = inl is
item_of_pushed (z ∷ xs) y (suc n) x is = item_of_pushed xs y n x is

-- a link whose site is among few sites has it among more
pub within_more : (few many : ℕ) → few ≤ many → (link : Link) → IsWithin few link → IsWithin many link
within_more few many h (Le u v) w = w
within_more few many h (Const l e v) w = w
within_more few many h (Bound v l e) w = w
within_more few many h (Enter s u v) w = (omega (arith, h, w.0), w.1, w.2)
within_more few many h (Leave s u v) w = (omega (arith, h, w.0), w.1, w.2)

-- more sites keep each constraint within the limits
pub all_within-sites : (one other : System) → one.constraints ≡ other.constraints
    → length one.sites ≤ length other.sites → AllWithin one → AllWithin other
all_within-sites one other same h all n link has =
    within_more (length one.sites) (length other.sites) h link
    (all n link
    (record { constraint = has.constraint; there = ap (λ cs. slice_get cs n) same ∙ has.there; link_is = has.link_is }))

-- so does one more constraint that is within them
pub all_within-push : (one other : System) (c : Constraint) → other.constraints ≡ one.constraints ++ c ∷ []
    → one.sites ≡ other.sites →
    IsWithin (length one.sites) c.link → AllWithin one → AllWithin other
all_within-push one other c longer same new all n link has =
    let sites : length one.sites ≡ length other.sites = ap length same in
    let Family : ℕ → Type 0 = λ k. IsWithin k link in
    subst Family sites
    (elim (item_of_pushed one.constraints c n has.constraint (ap (λ cs. slice_get cs n) (sym longer) ∙ has.there)) [
      | inl there ↦ all n link (record { constraint = has.constraint; there = there; link_is = has.link_is })
      | inr is ↦
          let Fits : Link → Type 0 = λ k. IsWithin (length one.sites) k in
          subst Fits (ap (λ (d : Constraint). d.link) is ∙ has.link_is) new
    ])

-- the variables of a constraint are below the highest number of the list
pub below-highest : (cs : List Constraint) (n : ℕ) (c : Constraint) → slice_get cs n ≡ Some c
    → vars_of_link c.link ≤ highest cs
below-highest [] n c is = absurd cc
below-highest (d ∷ cs) zero c is =
    let first : d ≡ c = cc in
    let same : vars_of_link d.link ≡ vars_of_link c.link = ap (λ (x : Constraint). vars_of_link x.link) first in
    omega (arith, same)
below-highest (d ∷ cs) (suc n) c is =
    let deeper : vars_of_link c.link ≤ highest cs = below-highest cs n c is in
    omega (arith, deeper)

-- the variables of each constraint of a system are below its number of variables
pub all_below : (sys : System) → AllBelow sys (vars_of sys)
all_below sys n link has =
    let low : vars_of_link link ≤ highest sys.constraints =
    let Low : Link → Type 0 = λ k. vars_of_link k ≤ highest sys.constraints in
    subst Low has.link_is (below-highest sys.constraints n has.constraint has.there) in
    omega (arith, low)
