-- Steps that fail no rule.
use Rattle.std.proofs.Common.{◌≡◌, ℕ, Bool, true, false, not, ◌&&◌, ◌||◌, Option, Some, None, eq-eqb, refl}
use Rattle.std.specs.Int.{bit_at}
use Rattle.qual_base.specs.declared.places.Span.{Span}
use Rattle.qual_base.proofs.Tests.{and_false}
use Rattle.lattice_core.specs.Order.{Order, leq}
use Rattle.flow_graph.specs.declared.constraint.Link.TheVariants.{Le, Const, Bound, Enter, Leave}
use Rattle.flow_graph.specs.declared.step.Seen.{Seen}
use Rattle.flow_graph.specs.declared.step.Seen.TheVariants.{Through}
use Rattle.flow_graph.specs.declared.step.Path.{Path}
use Rattle.flow_graph.specs.declared.step.Path.TheVariants.{Main}
use Rattle.flow_graph.specs.declared.step.StepInPath.{StepInPath}
use Rattle.flow_graph.specs.System.{System}
use Rattle.flow_graph.specs.PathRules.{rule_at, fails_b1, fails_b2, fails_b3, is_headless, is_late_const, is_stray_bound, is_late_return, is_unmatched_in_sub, is_loose_sub, follows_bound, is_unmatched_leave, is_unmatched_enter, begins_group, is_after_sub, closes, is_bound, is_sub, is_main, is_there, holds_of, agree, differ, end_of, leaves, site_entered, lacks}
use Rattle.flow_laws.proofs.Places.{edge}

-- what a path asks of the step before one that begins at a variable and is none of a group
pub record Follows (path : Path) (one : Option Seen) (u : ℕ) : Type 0 where
  pub unbound : holds_of one is_bound ≡ false
  pub plain : holds_of one is_sub ≡ false
  pub joined : differ (end_of one) (Some u) ≡ false
  pub begun : (is_main path && not (is_there one)) ≡ false

module _ (sys : System) (order : Order) (path : Path) (lattice elem : ℕ) where
  abbrev pub placed : Option Seen → Option Seen → Seen → Option Seen → Bool → StepInPath
  placed two one step after in_call = record {
    path = path;
    two_before = two;
    one_before = one;
    step = step;
    one_after = after;
    in_call = in_call;
    lattice = lattice;
    elem = elem;
  }

  pub flow_passes : (two one after : Option Seen) (c : Bool) (u v mask : ℕ) (span : Span) → Follows path one u
      → lacks sys path u ≡ false → lacks sys path v ≡ false →
      bit_at mask lattice ≡ 1 → rule_at sys order (placed two one (edge (Le u v) mask span) after c) ≡ None
  unfolding rule_at fails_b1 fails_b2 fails_b3 is_headless is_late_const is_stray_bound is_late_return
      is_unmatched_in_sub is_loose_sub follows_bound is_unmatched_leave is_unmatched_enter is_after_sub
  flow_passes two one after c u v mask span f first second carried =
      rw (
        f.unbound,
        f.plain,
        f.joined,
        f.begun,
        first,
        second,
        eq-eqb (bit_at mask lattice) 1 carried,
        and_false (is_main path),
        and_false (not (is_main path)),
      ) refl

  -- an Enter that begins a group
  pub group_passes : (two one : Option Seen) (next : Seen) (c : Bool) (s u a mask : ℕ) (span : Span)
      → Follows path one u → lacks sys path u ≡ false →
      (is_sub next || agree (Some s) (leaves next)) ≡ true → bit_at mask lattice ≡ 1
      → rule_at sys order (placed two one (edge (Enter s u a) mask span) (Some next) c) ≡ None
  unfolding rule_at fails_b1 fails_b2 fails_b3 is_headless is_late_const is_stray_bound is_late_return
      is_unmatched_in_sub is_loose_sub follows_bound is_unmatched_leave is_unmatched_enter is_after_sub
      begins_group closes
  group_passes two one next c s u a mask span f first begins carried =
      rw (
        f.unbound,
        f.plain,
        f.joined,
        f.begun,
        first,
        begins,
        eq-eqb (bit_at mask lattice) 1 carried,
        and_false (is_main path),
        and_false (not (is_main path)),
      ) refl

  -- the sub-path of a group
  pub sub_passes : (two : Option Seen) (next : Seen) (c : Bool) (s u a b mask : ℕ) (span : Span) →
      rule_at sys order (placed two (Some (edge (Enter s u a) mask span)) (Through a b) (Some next) c) ≡ None
  unfolding rule_at fails_b1 fails_b2 fails_b3 is_headless is_late_const is_stray_bound is_late_return
      is_unmatched_in_sub is_loose_sub follows_bound is_unmatched_leave is_unmatched_enter is_after_sub
      begins_group closes
  sub_passes two next c s u a b mask span =
      rw (eq-eqb a a refl, and_false (is_main path), and_false (not (is_main path))) refl

  -- the Leave of a group with a sub-path
  pub left_passes : (after : Option Seen) (c : Bool) (s u a b v mask other : ℕ) (span far : Span)
      → lacks sys path v ≡ false → bit_at mask lattice ≡ 1 →
      rule_at sys order
      (placed (Some (edge (Enter s u a) other far)) (Some (Through a b)) (edge (Leave s b v) mask span) after c) ≡ None
  unfolding rule_at fails_b1 fails_b2 fails_b3 is_headless is_late_const is_stray_bound is_late_return
      is_unmatched_in_sub is_loose_sub follows_bound is_unmatched_leave is_unmatched_enter is_after_sub
      begins_group closes
  left_passes after c s u a b v mask other span far last carried =
      rw (
        eq-eqb b b refl,
        eq-eqb s s refl,
        last,
        eq-eqb (bit_at mask lattice) 1 carried,
        and_false (is_main path),
        and_false (not (is_main path)),
      ) refl

  -- the Leave of a group without one
  pub closed_passes : (two after : Option Seen) (c : Bool) (s u a v mask other : ℕ) (span far : Span)
      → lacks sys path v ≡ false → bit_at mask lattice ≡ 1 →
      rule_at sys order (placed two (Some (edge (Enter s u a) other far)) (edge (Leave s a v) mask span) after c) ≡ None
  unfolding rule_at fails_b1 fails_b2 fails_b3 is_headless is_late_const is_stray_bound is_late_return
      is_unmatched_in_sub is_loose_sub follows_bound is_unmatched_leave is_unmatched_enter is_after_sub
      begins_group closes
  closed_passes two after c s u a v mask other span far last carried =
      rw (
        eq-eqb a a refl,
        eq-eqb s s refl,
        last,
        eq-eqb (bit_at mask lattice) 1 carried,
        and_false (is_main path),
        and_false (not (is_main path)),
      ) refl

module _ (sys : System) (order : Order) (lattice elem : ℕ) where
  abbrev pub on_main : Option Seen → Option Seen → Seen → Option Seen → Bool → StepInPath
  on_main two one step after in_call = placed sys order Main lattice elem two one step after in_call

  pub start_passes : (after : Option Seen) (c : Bool) (v mask : ℕ) (span : Span)
      → rule_at sys order (on_main None None (edge (Const lattice elem v) mask span) after c) ≡ None
  unfolding rule_at fails_b1 fails_b2 fails_b3 is_headless is_late_const is_stray_bound is_late_return
      is_unmatched_in_sub is_loose_sub follows_bound is_unmatched_leave is_unmatched_enter is_after_sub
      begins_group closes
  start_passes after c v mask span = rw (eq-eqb lattice lattice refl) refl

  -- a Leave while no call is open
  pub back_passes : (two one after : Option Seen) (s u v mask : ℕ) (span : Span) → Follows Main one u
      → bit_at mask lattice ≡ 1 →
      rule_at sys order (on_main two one (edge (Leave s u v) mask span) after false) ≡ None
  unfolding rule_at fails_b1 fails_b2 fails_b3 is_headless is_late_const is_stray_bound is_late_return
      is_unmatched_in_sub is_loose_sub follows_bound is_unmatched_leave is_unmatched_enter is_after_sub
      begins_group closes
  back_passes two one after s u v mask span f carried =
      rw (
        f.unbound,
        f.plain,
        f.joined,
        f.begun,
        eq-eqb (bit_at mask lattice) 1 carried,
        and_false (not (agree (site_entered one) (Some s)) && true),
      ) refl

  -- an Enter without a Leave
  pub into_passes : (two one after : Option Seen) (c : Bool) (s u v mask : ℕ) (span : Span) → Follows Main one u
      → bit_at mask lattice ≡ 1 →
      rule_at sys order (on_main two one (edge (Enter s u v) mask span) after c) ≡ None
  unfolding rule_at fails_b1 fails_b2 fails_b3 is_headless is_late_const is_stray_bound is_late_return
      is_unmatched_in_sub is_loose_sub follows_bound is_unmatched_leave is_unmatched_enter is_after_sub
      begins_group closes
  into_passes two one after c s u v mask span f carried =
      rw (f.unbound, f.plain, f.joined, f.begun, eq-eqb (bit_at mask lattice) 1 carried) refl

  pub bound_passes : (two one after : Option Seen) (c : Bool) (u limit mask : ℕ) (span : Span) → Follows Main one u
      → leq order elem limit ≡ false →
      rule_at sys order (on_main two one (edge (Bound u lattice limit) mask span) after c) ≡ None
  unfolding rule_at fails_b1 fails_b2 fails_b3 is_headless is_late_const is_stray_bound is_late_return
      is_unmatched_in_sub is_loose_sub follows_bound is_unmatched_leave is_unmatched_enter is_after_sub
      begins_group closes
  bound_passes two one after c u limit mask span f over =
      rw (f.unbound, f.plain, f.joined, f.begun, eq-eqb lattice lattice refl, over) refl
