-- Which groups were followed, and that they still are after a search went on.
use Rattle.std.proofs.Common.{◌≡◌, ℕ, ◌≤◌, ◌⊎◌, inl, inr, List, length, Bool, true, false, sym, ◌∙◌, subst}
use Rattle.flow_graph.specs.declared.constraint.Link.TheVariants.{Enter, Leave}
use Rattle.flow_graph.specs.declared.phase.Phase.{Phase}
use Rattle.flow_graph.specs.Parts.{settled}
use Rattle.flow_graph.specs.System.{System, owner_of, Has, Stands}
use Rattle.match_summary.specs.declared.crossings.Way.TheVariants.{In, Out}
use Rattle.match_summary.specs.declared.reason.Summary.{Summary}
use Rattle.match_summary.specs.Crossings.{Crosses}
use Rattle.match_summary.specs.Summary.{Leads}
use Rattle.error_path.specs.declared.search.Search.{Search}
use Rattle.error_path.specs.Marks.{PhaseMarks, mark_of, size_of}
use Rattle.error_path.specs.Reaching.{Grows, IsMarked, IsOver, IsRounded, IsRoundedFrom}
use Rattle.match_summary.proofs.Crossing.{has_end_of, has_enter, has_leave}

-- what was marked beside
abbrev pub IsOnly : PhaseMarks → PhaseMarks → Phase → ℕ → Type 0
IsOnly old new phase at =
    (p : Phase) (n : ℕ) → mark_of new p n ≡ true → (mark_of old p n ≡ true) ⊎ ((phase ≡ p) × (at ≡ n))

unmarked_not : {b : Bool} → b ≡ false → b ≡ true → ⊥
unmarked_not none is = let both : false ≡ true = sym none ∙ is in cc

module _ (sys : System) (lattice : ℕ) (rows : List Summary) where
  pub from_on : (old new : Search) (p : Phase) (s a b m : ℕ) → Grows old new
      → IsRoundedFrom sys lattice rows old p s a b m → IsRoundedFrom sys lattice rows new p s a b m
  from_on old new p s a b m grows rounded v st leads = grows.kept _ v (rounded v st leads)

  pub over_on : (passed : PhaseMarks) (old new : Search) → Grows old new → IsOver sys lattice rows passed old
      → IsOver sys lattice rows passed new
  over_on passed old new grows o = record {
    room = o.room;
    groups = λ p n s u a m is has b v st leads. grows.kept _ v (o.groups p n s u a m is has b v st leads);
    leaves = λ p n s b w m v is has st. grows.kept _ v (o.leaves p n s b w m v is has st);
  }

  -- nothing was followed
  pub empty_over : (passed : PhaseMarks) (search : Search) → length sys.constraints ≤ size_of passed
      → ((p : Phase) (n : ℕ) → mark_of passed p n ≡ false) →
      IsOver sys lattice rows passed search
  empty_over passed search room none = record {
    room = room;
    groups = λ p n s u a m is has b v st leads. absurd (unmarked_not (none p n) is);
    leaves = λ p n s b w m v is has st. absurd (unmarked_not (none p n) is);
  }

  module _ (passed : PhaseMarks) (search : Search) (over : IsOver sys lattice rows passed search) (p : Phase) (n : ℕ)
      (is : mark_of passed p n ≡ true) where
    -- what a mark stands for
    pub enter_covered : (s a : ℕ) → Crosses sys (record { way = In; site = s; at = a }) n → (m : ℕ)
        → IsRounded sys lattice rows search p s a m
    enter_covered s a c m b v st leads =
        let link = has_enter s a c.constraint.link c.has in
        over.groups p n s link.0 a m is
        (record { constraint = c.constraint; there = c.there; link_is = link.1 }) b v st leads

    pub leave_covered : (s b : ℕ) → Crosses sys (record { way = Out; site = s; at = b }) n → (m v : ℕ)
        → Stands sys lattice m (Leave s b v) → IsMarked search (settled (owner_of sys v) p) v
    leave_covered s b c m v st =
        let link = has_leave s b c.constraint.link c.has in
        over.leaves p n s b link.0 m v is (record { constraint = c.constraint; there = c.there; link_is = link.1 }) st

  module _ (old new : PhaseMarks) (search : Search) (phase : Phase) (at : ℕ) (only : IsOnly old new phase at)
      (size : size_of new ≡ size_of old) (over : IsOver sys lattice rows old search) where
    room_on : length sys.constraints ≤ size_of new
    room_on = subst (λ k. length sys.constraints ≤ k) (sym size) over.room

    -- the groups of an Enter were followed
    pub enter_over : (s a : ℕ) → Crosses sys (record { way = In; site = s; at = a }) at
        → ((m : ℕ) → IsRounded sys lattice rows search phase s a m) → IsOver sys lattice rows new search
    enter_over s a c done = record {
      room = room_on;
      groups = λ p n t u b m is has d v st leads. elim (only p n is) [
        | inl before ↦ over.groups p n t u b m before has d v st leads
        | inr came ↦
            let ends : (t ≡ s) × (b ≡ a) = has_end_of sys (record { way = In; site = s; at = a }) at (Enter t u b) c
            (subst (λ k. Has sys k (Enter t u b)) (sym came.1) has) in
            subst (λ q. IsMarked search (settled (owner_of sys v) q) v) came.0
            (done m d v (subst (λ x. Stands sys lattice m (Leave x d v)) ends.0 st)
            (subst (λ x. Leads rows x d) ends.1 leads))
      ];
      leaves = λ p n t b w m v is has st. elim (only p n is) [
        | inl before ↦ over.leaves p n t b w m v before has st
        | inr came ↦ absurd (has_end_of sys (record { way = In; site = s; at = a }) at (Leave t b w) c
            (subst (λ k. Has sys k (Leave t b w)) (sym came.1) has))
      ];
    }

    -- the Leaves of a site from a variable were followed
    pub leave_over : (s b : ℕ) → Crosses sys (record { way = Out; site = s; at = b }) at
        → ((m v : ℕ) → Stands sys lattice m (Leave s b v) → IsMarked search (settled (owner_of sys v) phase) v) →
        IsOver sys lattice rows new search
    leave_over s b c done = record {
      room = room_on;
      groups = λ p n t u a m is has d v st leads. elim (only p n is) [
        | inl before ↦ over.groups p n t u a m before has d v st leads
        | inr came ↦ absurd (has_end_of sys (record { way = Out; site = s; at = b }) at (Enter t u a) c
            (subst (λ k. Has sys k (Enter t u a)) (sym came.1) has))
      ];
      leaves = λ p n t d w m v is has st. elim (only p n is) [
        | inl before ↦ over.leaves p n t d w m v before has st
        | inr came ↦
            let ends : (t ≡ s) × (d ≡ b) = has_end_of sys (record { way = Out; site = s; at = b }) at (Leave t d w) c
            (subst (λ k. Has sys k (Leave t d w)) (sym came.1) has) in
            subst (λ q. IsMarked search (settled (owner_of sys v) q) v) came.0
            (done m v (subst (λ x. Stands sys lattice m (Leave s x v)) ends.1
            (subst (λ x. Stands sys lattice m (Leave x d v)) ends.0 st)))
      ];
    }
