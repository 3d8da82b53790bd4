-- What the tests of the rules say of a step with the steps around it.
use Rattle.std.proofs.Common.{◌≡◌, ℕ, Bool, true, false, not, ◌&&◌, ◌||◌, ◌==◌, Option, Some, None, refl, sym, ◌∙◌, ap, ◌⊎◌, inl, inr}
use Rattle.std.specs.Int.{bit_at}
use Rattle.std.proofs.lemmas.Bool.{eqb-true, not-false}
use Rattle.qual_base.specs.declared.places.Span.{Span}
use Rattle.qual_base.specs.declared.places.Owner.TheVariants.{Function}
use Rattle.flow_graph.specs.declared.constraint.Link.{Link}
use Rattle.flow_graph.specs.declared.constraint.Link.TheVariants.{Le, Const, Bound, Enter, Leave}
use Rattle.flow_graph.specs.declared.step.Seen.{Seen}
use Rattle.flow_graph.specs.declared.step.Seen.TheVariants.{Edge, Through}
use Rattle.flow_graph.specs.declared.step.Path.{Path}
use Rattle.flow_graph.specs.declared.step.StepInPath.{StepInPath}
use Rattle.flow_graph.specs.System.{System, owner_of, IsInLattice}
use Rattle.flow_graph.specs.PathRules.{begins, is_sub, leaves, is_main, is_there, holds_of, agree, differ, end_of, site_entered, begins_group, is_after_sub, closes, is_unmatched_enter, is_unmatched_leave, is_late_const, is_stray_bound, is_late_return, is_unmatched_in_sub, is_loose_sub, fails_b2, is_outside_link}
use Rattle.flow_graph.specs.PathProofs.{is_nobodys, stays_in_call}

pub eq_is : (a b : ℕ) → (a == b) ≡ true → a ≡ b
eq_is a b e = eqb-true a b e

only_main : (a : Bool) → (not a && true) ≡ false → a ≡ true
only_main true e = refl
only_main false e = absurd cc

pub agree_is : (a : ℕ) (b : Option ℕ) → agree (Some a) b ≡ true → b ≡ Some a
agree_is a (Some b) e = ap (λ x. Some x) (sym (eq_is a b e))
agree_is a None e = absurd cc

differ_is : (a b : ℕ) → differ (Some a) (Some b) ≡ false → a ≡ b
differ_is a b e = eq_is a b (not-false (a == b) e)

-- a step that is looked at as a constraint
abbrev pub edge : Link → ℕ → Span → Seen
edge l m p = Edge (record { link = l; lattices = m; span = p })

-- a link that is found not to be outside a lattice is in it
pub in_lattice : (lattice : ℕ) (l : Link) (m : ℕ) → is_outside_link lattice l m ≡ false → IsInLattice lattice l m
in_lattice lattice (Le u v) m e = eq_is (bit_at m lattice) 1 (not-false _ e)
in_lattice lattice (Const l e' v) m e = eq_is l lattice (not-false _ e)
in_lattice lattice (Bound v l b) m e = eq_is l lattice (not-false _ e)
in_lattice lattice (Enter s u v) m e = eq_is (bit_at m lattice) 1 (not-false _ e)
in_lattice lattice (Leave s u v) m e = eq_is (bit_at m lattice) 1 (not-false _ e)

pub owned_is : (sys : System) (v g : ℕ) → owner_of sys v ≡ Function g → is_nobodys (owner_of sys v) ≡ false
owned_is sys v g is = rw is refl

module _ (path : Path) (lattice elem : ℕ) where
  abbrev pub here : Option Seen → Option Seen → Seen → Option Seen → Bool → StepInPath
  here two one step next c =
      record {
        path = path;
        two_before = two;
        one_before = one;
        step = step;
        one_after = next;
        in_call = c;
        lattice = lattice;
        elem = elem;
      }

  pub joins : (two one next : Option Seen) (step : Seen) (c : Bool) (u v : ℕ)
      → (end_of one ≡ Some v) ⊎ ((x : Seen) → Some step ≡ Some x → begins x ≡ Some v) →
      begins step ≡ Some u → fails_b2 (here two one step next c) ≡ false → v ≡ u
  unfolding fails_b2
  joins two one next step c u v (inl ended) is fits = differ_is v u (rw (ended, is) at fits)
  joins two one next step c u v (inr first) is fits = let same : Some v ≡ Some u = sym (first step refl) ∙ is in cc

  not_after : (two one next : Option Seen) (step : Seen) (c : Bool) → holds_of one is_sub ≡ false
      → is_after_sub (here two one step next c) ≡ false
  unfolding is_after_sub
  not_after two one next step c none = rw none refl

  pub unmatched : (two one next : Option Seen) (c : Bool) (s u v m : ℕ) (p : Span)
      → begins_group (edge (Enter s u v) m p) next ≡ false → holds_of one is_sub ≡ false →
      is_unmatched_enter (here two one (edge (Enter s u v) m p) next c) ≡ true
  unfolding is_unmatched_enter
  unmatched two one next c s u v m p none plain =
      rw (none, not_after two one next (edge (Enter s u v) m p) c plain) refl

  pub not_unmatched : (two one next : Option Seen) (c : Bool) (s u v m : ℕ) (p : Span)
      → begins_group (edge (Enter s u v) m p) next ≡ true →
      is_unmatched_enter (here two one (edge (Enter s u v) m p) next c) ≡ false
  unfolding is_unmatched_enter
  not_unmatched two one next c s u v m p some = rw some refl

  pub unmatched_back : (two one next : Option Seen) (c : Bool) (s u v m : ℕ) (p : Span)
      → agree (site_entered one) (Some s) ≡ false → holds_of one is_sub ≡ false →
      is_unmatched_leave (here two one (edge (Leave s u v) m p) next c) ≡ true
  unfolding is_unmatched_leave closes
  unmatched_back two one next c s u v m p none plain =
      rw (none, not_after two one next (edge (Leave s u v) m p) c plain) refl

  pub main_enters : (two one next : Option Seen) (c : Bool) (step : Seen)
      → is_unmatched_enter (here two one step next c) ≡ true →
      is_unmatched_in_sub (here two one step next c) ≡ false → is_main path ≡ true
  unfolding is_unmatched_in_sub
  main_enters two one next c step is none = only_main (is_main path) (rw is at none)

  pub main_leaves : (two one next : Option Seen) (c : Bool) (s u v m : ℕ) (p : Span)
      → is_unmatched_leave (here two one (edge (Leave s u v) m p) next c) ≡ true →
      is_unmatched_in_sub (here two one (edge (Leave s u v) m p) next c) ≡ false → is_main path ≡ true
  unfolding is_unmatched_in_sub is_unmatched_enter
  main_leaves two one next c s u v m p is none = only_main (is_main path) (rw is at none)

  pub no_call : (two one next : Option Seen) (c : Bool) (step : Seen) → is_main path ≡ true
      → is_unmatched_leave (here two one step next c) ≡ true →
      is_late_return (here two one step next c) ≡ false → c ≡ false
  unfolding is_late_return
  no_call two one next c step main is none = rw (main, is) at none

  pub main_bound : (two one next : Option Seen) (c : Bool) (u l b m : ℕ) (p : Span)
      → is_stray_bound (here two one (edge (Bound u l b) m p) next c) ≡ false → is_main path ≡ true
  unfolding is_stray_bound
  main_bound two one next c u l b m p none = not-false (is_main path) none

  pub no_start : (two one next : Option Seen) (c : Bool) (l e v m : ℕ) (p : Span)
      → (is_main path && not (is_there one)) ≡ false →
      is_late_const (here two one (edge (Const l e v) m p) next c) ≡ false → ⊥
  unfolding is_late_const
  no_start two one next c l e v m p begun none = let wrong : true ≡ false = rw begun at none in cc

  pub loose : (two one next : Option Seen) (c : Bool) (u v : ℕ) → is_there (site_entered one) ≡ false
      → holds_of one is_sub ≡ false →
      is_loose_sub (here two one (Through u v) next c) ≡ false → ⊥
  unfolding is_loose_sub
  loose two one next c u v none plain in_group =
      let wrong : true ≡ false = rw (none, not_after two one next (Through u v) c plain) at in_group in
      cc

  -- which call stays open
  module _ (sys : System) (two one next : Option Seen) (c : Bool) where
    pub stays_le : (u v m : ℕ) (p : Span)
        → stays_in_call sys (here two one (edge (Le u v) m p) next c) ≡ (not (is_nobodys (owner_of sys v)) && c)
    unfolding is_unmatched_enter
    stays_le u v m p = refl

    pub stays_leave : (s u v m : ℕ) (p : Span)
        → stays_in_call sys (here two one (edge (Leave s u v) m p) next c) ≡ (not (is_nobodys (owner_of sys v)) && c)
    unfolding is_unmatched_enter
    stays_leave s u v m p = refl

    pub stays_const : (l e v m : ℕ) (p : Span)
        → stays_in_call sys (here two one (edge (Const l e v) m p) next c) ≡ (not (is_nobodys (owner_of sys v)) && c)
    unfolding is_unmatched_enter
    stays_const l e v m p = refl

    pub stays_through : (u v : ℕ)
        → stays_in_call sys (here two one (Through u v) next c) ≡ (not (is_nobodys (owner_of sys v)) && c)
    unfolding is_unmatched_enter
    stays_through u v = refl

pub split_group : (s u v m : ℕ) (p : Span) (next : Option Seen) → begins_group (edge (Enter s u v) m p) next ≡ false
    → (y : Seen) → next ≡ Some y →
    (is_sub y || agree (Some s) (leaves y)) ≡ false
unfolding begins_group
split_group s u v m p next is y next_is = rw next_is at is
