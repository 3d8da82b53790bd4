-- What was carried round groups, and that it still is in greater sets.
use Rattle.std.proofs.Common.{◌≡◌, ℕ, ◌<◌, ◌≤◌, ◌⊎◌, inl, inr, List, Some, slice_get, length, refl, sym, ◌∙◌, ap, subst, arith}
use Rattle.std.specs.Int.{bit_at}
use Rattle.lattice_core.proofs.Bits.{none_in}
use Rattle.flow_graph.specs.declared.constraint.Link.TheVariants.{Enter, Leave}
use Rattle.flow_graph.specs.declared.phase.Phase.{Phase}
use Rattle.flow_graph.specs.System.{System, Has, Stands}
use Rattle.match_summary.specs.declared.crossings.Way.TheVariants.{In, Out}
use Rattle.match_summary.specs.declared.reason.Summary.{Summary}
use Rattle.match_summary.specs.Crossings.{Crosses}
use Rattle.match_summary.specs.Summary.{AreOfOne, Leads}
use Rattle.lattice_solver.specs.PhaseSets.{PhaseSets}
use Rattle.lattice_solver.specs.Phases.{set_of, size_of, HasIn, Includes}
use Rattle.lattice_solver.specs.Stable.{IsOver, IsPassed, IsPassedFrom}
use Rattle.match_summary.proofs.Crossing.{has_end_of, has_enter, has_leave}

-- what was added to the sets of one constraint
abbrev pub IsOnly : PhaseSets → PhaseSets → ℕ → (Phase → ℕ) → Type 0
IsOnly old new at had = (p : Phase) (n e : ℕ) → HasIn new p n e → HasIn old p n e ⊎ ((n ≡ at) × (bit_at (had p) e ≡ 1))

module _ (sys : System) (lattice : ℕ) (rows : List Summary) where
  pub from_on : (had : Phase → ℕ) (old new : PhaseSets) (s a b m : ℕ)
      → ((p : Phase) (v e : ℕ) → HasIn old p v e → HasIn new p v e) → IsPassedFrom sys lattice rows had old s a b m →
      IsPassedFrom sys lattice rows had new s a b m
  from_on had old new s a b m keeps passed v st leads one p e has = keeps p v e (passed v st leads one p e has)

  pub over_on : (passed old new : PhaseSets) → ((p : Phase) (v e : ℕ) → HasIn old p v e → HasIn new p v e)
      → IsOver sys lattice rows passed old → IsOver sys lattice rows passed new
  over_on passed old new keeps o = record {
    room = o.room;
    groups = λ n s u a m has b v st leads one p e h. keeps p v e (o.groups n s u a m has b v st leads one p e h);
    leaves = λ n s b w m v has st p e h. keeps p v e (o.leaves n s b w m v has st p e h);
  }

  -- nothing was carried
  pub empty_over : (passed sets : PhaseSets) → length sys.constraints ≤ size_of passed
      → ((p : Phase) (n : ℕ) → set_of passed p n ≡ 0) → IsOver sys lattice rows passed sets
  empty_over passed sets room empty =
      let nothing =
      λ (p : Phase) (n e : ℕ) (has : HasIn passed p n e). none_in e (subst (λ set. bit_at set e ≡ 1) (empty p n) has) in
      record {
        room = room;
        groups = λ n s u a m has b v st leads one p e h. absurd (nothing p n e h);
        leaves = λ n s b w m v has st p e h. absurd (nothing p n e h);
      }

  module _ (passed sets : PhaseSets) (over : IsOver sys lattice rows passed sets) (had : Phase → ℕ) (n : ℕ)
      (covered : (p : Phase) → Includes (had p) passed p n) where
    -- what a constraint has was carried on
    pub enter_covered : (s a : ℕ) → Crosses sys (record { way = In; site = s; at = a }) n → (m : ℕ)
        → IsPassed sys lattice rows had sets s a m
    enter_covered s a c m b v st leads one p e has =
        let link = has_enter s a c.constraint.link c.has in
        over.groups n s link.0 a m
        (record { constraint = c.constraint; there = c.there; link_is = link.1 }) b v st leads one p e (covered p e has)

    pub leave_covered : (s b : ℕ) → Crosses sys (record { way = Out; site = s; at = b }) n → (m v : ℕ)
        → Stands sys lattice m (Leave s b v) → (p : Phase) → Includes (had p) sets p v
    leave_covered s b c m v st p e has =
        let link = has_leave s b c.constraint.link c.has in
        over.leaves n s b link.0 m v (record { constraint = c.constraint; there = c.there; link_is = link.1 }) st p e
        (covered p e has)

  module _ (old new sets : PhaseSets) (had : Phase → ℕ) (at : ℕ) (only : IsOnly old new at had)
      (size : size_of new ≡ size_of old) (over : IsOver sys lattice rows old sets) where
    room_on : length sys.constraints ≤ size_of new
    room_on = subst (λ k. length sys.constraints ≤ k) (sym size) over.room

    -- what was carried round the groups of an Enter was added to it
    pub enter_over : (s a : ℕ) → Crosses sys (record { way = In; site = s; at = a }) at
        → ((m : ℕ) → IsPassed sys lattice rows had sets s a m) → IsOver sys lattice rows new sets
    enter_over s a c done = record {
      room = room_on;
      groups = λ n t u b m has d v st leads one p e h. elim (only p n e h) [
        | inl before ↦ over.groups n t u b m has d v st leads one p e before
        | inr came ↦
            let ends : (t ≡ s) × (b ≡ a) = has_end_of sys (record { way = In; site = s; at = a }) at (Enter t u b) c
            (subst (λ k. Has sys k (Enter t u b)) came.0 has) in
            done m d v (subst (λ x. Stands sys lattice m (Leave x d v)) ends.0 st)
            (subst (λ x. Leads rows x d) ends.1 leads) (subst (λ x. AreOfOne sys x d) ends.1 one) p e came.1
      ];
      leaves = λ n t b w m v has st p e h. elim (only p n e h) [
        | inl before ↦ over.leaves n t b w m v has st p e before
        | inr came ↦ absurd (has_end_of sys (record { way = In; site = s; at = a }) at (Leave t b w) c
            (subst (λ k. Has sys k (Leave t b w)) came.0 has))
      ];
    }

    -- what was carried over the Leaves of a site from a variable was added to one of them
    pub leave_over : (s b : ℕ) → Crosses sys (record { way = Out; site = s; at = b }) at
        → ((m v : ℕ) → Stands sys lattice m (Leave s b v) → (p : Phase) → Includes (had p) sets p v) →
        IsOver sys lattice rows new sets
    leave_over s b c done = record {
      room = room_on;
      groups = λ n t u a m has d v st leads one p e h. elim (only p n e h) [
        | inl before ↦ over.groups n t u a m has d v st leads one p e before
        | inr came ↦ absurd (has_end_of sys (record { way = Out; site = s; at = b }) at (Enter t u a) c
            (subst (λ k. Has sys k (Enter t u a)) came.0 has))
      ];
      leaves = λ n t d w m v has st p e h. elim (only p n e h) [
        | inl before ↦ over.leaves n t d w m v has st p e before
        | inr came ↦
            let ends : (t ≡ s) × (d ≡ b) = has_end_of sys (record { way = Out; site = s; at = b }) at (Leave t d w) c
            (subst (λ k. Has sys k (Leave t d w)) came.0 has) in
            done m v (subst (λ x. Stands sys lattice m (Leave s x v)) ends.1
            (subst (λ x. Stands sys lattice m (Leave x d v)) ends.0 st)) p e came.1
      ];
    }
