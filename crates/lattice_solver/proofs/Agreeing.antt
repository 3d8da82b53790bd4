-- What a constraint carries on, and that it still does so in greater sets.
use Rattle.std.proofs.Common.{◌≡◌, ℕ, List, Some, false, slice_get, refl, sym, ◌∙◌, inl, inr, subst}
use Rattle.std.specs.Int.{bit_at}
use Rattle.std.proofs.lemmas.Bool.{cases_eq}
use Rattle.lattice_core.proofs.Bits.{none_in}
use Rattle.flow_graph.specs.declared.constraint.Link.TheVariants.{Le, Enter, Leave}
use Rattle.flow_graph.specs.declared.constraint.Constraint.{Constraint}
use Rattle.flow_graph.specs.Index.{IsKeyed}
use Rattle.flow_graph.specs.PathRules.{link_begins}
use Rattle.flow_graph.specs.System.{System, Stands}
use Rattle.flow_graph.specs.Paths.{flows, flows_on, calls, calls_on}
use Rattle.match_summary.specs.declared.reason.Summary.{Summary}
use Rattle.flow_graph.specs.declared.phase.Phase.{Phase}
use Rattle.flow_graph.specs.declared.phase.Phase.TheVariants.{First, Second}
use Rattle.lattice_solver.specs.PhaseSets.{PhaseSets}
use Rattle.lattice_solver.specs.Phases.{set_of, HasIn, LeadsIn, Includes, StartsAnew}
use Rattle.lattice_solver.specs.Stable.{AgreesAt, IsCarried, IsPassed}
use Rattle.lattice_solver.specs.Waiting.{waits}
use Rattle.lattice_solver.specs.Working.{Held, Gains, IsTakenUp, had_of}
use Rattle.lattice_solver.specs.declared.work.Taken.{Taken}
use Rattle.lattice_solver.proofs.Links.{one_link}

-- a flow carries each phase on, an Enter both to the second
pub flow_leads : (sys : System) (lattice u v n : ℕ) → Stands sys lattice n (Le u v) → (p : Phase) (e : ℕ)
    → LeadsIn sys lattice p e u → LeadsIn sys lattice p e v
flow_leads sys lattice u v n st First e path = flows u v n path st
flow_leads sys lattice u v n st Second e path = flows_on u v n path st

pub call_leads : (sys : System) (lattice s u v n : ℕ) → Stands sys lattice n (Enter s u v) → (p : Phase) (e : ℕ)
    → LeadsIn sys lattice p e u → LeadsIn sys lattice Second e v
call_leads sys lattice s u v n st First e path = calls u v s n path st
call_leads sys lattice s u v n st Second e path = calls_on u v s n path st

abbrev Keeps : PhaseSets → PhaseSets → Type 0
Keeps old new = (p : Phase) (v e : ℕ) → HasIn old p v e → HasIn new p v e

includes_on : (a b : ℕ) (old new : PhaseSets) (p : Phase) (v : ℕ) → b ≡ a → Keeps old new → Includes a old p v
    → Includes b new p v
includes_on a b old new p v same keeps all e has = keeps p v e (all e (subst (λ set. bit_at set e ≡ 1) same has))

-- where the sets of a variable are the same, it starts anew in both
pub anew_on : (sys : System) (old new : PhaseSets) (v : ℕ) → ((p : Phase) → set_of new p v ≡ set_of old p v)
    → StartsAnew sys old v → StartsAnew sys new v
anew_on sys old new v same anew nobody e has =
    subst (λ set. bit_at set e ≡ 1) (sym (same First))
    (anew nobody e (subst (λ set. bit_at set e ≡ 1) (same Second) has))

module _ (sys : System) (lattice : ℕ) (rows : List Summary) where
  module _ (had now : Phase → ℕ) (old new : PhaseSets) (same : (p : Phase) → now p ≡ had p)
      (keeps : Keeps old new) where
    pub passed_on : (s a m : ℕ) → IsPassed sys lattice rows had old s a m → IsPassed sys lattice rows now new s a m
    passed_on s a m passed b v st leads one p =
        includes_on (had p) (now p) old new p v (same p) keeps (passed b v st leads one p)

    pub carried_on : (u n : ℕ) → IsCarried sys lattice rows had old u n → IsCarried sys lattice rows now new u n
    carried_on u n carried = record {
      flow = λ v st p. includes_on (had p) (now p) old new p v (same p) keeps (carried.flow v st p);
      back = λ s v st. includes_on (had First) (now First) old new First v (same First) keeps (carried.back s v st);
      call = λ s v st p. includes_on (had p) (now p) old new Second v (same p) keeps (carried.call s v st p);
      group = λ s a m st. passed_on s a m (carried.group s a m st);
    }

  -- a constraint that does not begin at the variable carries nothing from it
  pub carried_elsewhere : (had : Phase → ℕ) (sets : PhaseSets) (u n : ℕ)
      → (IsKeyed sys link_begins u n → IsCarried sys lattice rows had sets u n)
      → IsCarried sys lattice rows had sets u n
  carried_elsewhere had sets u n carried = record {
    flow = λ v st. (carried (record {
      constraint = st.constraint;
      there = st.there;
      keyed = subst (λ l. link_begins l ≡ Some u) (sym st.link_is) refl;
    })).flow v st;
    back = λ s v st. (carried (record {
      constraint = st.constraint;
      there = st.there;
      keyed = subst (λ l. link_begins l ≡ Some u) (sym st.link_is) refl;
    })).back s v st;
    call = λ s v st. (carried (record {
      constraint = st.constraint;
      there = st.there;
      keyed = subst (λ l. link_begins l ≡ Some u) (sym st.link_is) refl;
    })).call s v st;
    group = λ s a m st. (carried (record {
      constraint = st.constraint;
      there = st.there;
      keyed = subst (λ l. link_begins l ≡ Some u) (sym st.link_is) refl;
    })).group s a m st;
  }

  -- empty sets agree with all
  pub empty_agrees : (sets : PhaseSets) (v : ℕ) → ((p : Phase) → set_of sets p v ≡ 0) → AgreesAt sys lattice rows sets v
  empty_agrees sets v empty =
      let nothing =
      λ (p : Phase) (e : ℕ) (has : HasIn sets p v e). none_in e (subst (λ set. bit_at set e ≡ 1) (empty p) has) in
      record {
        carried = λ n. record {
          flow = λ w st p e has. absurd (nothing p e has);
          back = λ s w st e has. absurd (nothing First e has);
          call = λ s w st p e has. absurd (nothing p e has);
          group = λ s a m st b w leave leads one p e has. absurd (nothing p e has);
        };
        anew = λ nobody e has. absurd (nothing Second e has);
      }

  -- who agrees and keeps what he has agrees with greater sets
  pub agrees_on : (old new : PhaseSets) (v : ℕ) → Keeps old new → ((p : Phase) → set_of new p v ≡ set_of old p v)
      → AgreesAt sys lattice rows old v → AgreesAt sys lattice rows new v
  agrees_on old new v keeps same agrees = record {
    carried = λ n. carried_on (λ p. set_of old p v) (λ p. set_of new p v) old new same keeps v n (agrees.carried n);
    anew = anew_on sys old new v same agrees.anew;
  }

  -- after a turn who does not wait agrees, if that was so before
  pub turn_agrees : (a b c : Held) (taken : Taken) → IsTakenUp sys a b taken → Gains b c →
      ((n : ℕ) → IsCarried sys lattice rows (had_of taken) c.sets taken.at n) →
      ((v : ℕ) → waits a.waiting v ≡ false → AgreesAt sys lattice rows a.sets v) → (v : ℕ) → waits c.waiting v ≡ false
      → AgreesAt sys lattice rows c.sets v
  turn_agrees a b c taken up gains carried agree v quiet = elim (cases_eq v taken.at) [
    | inl is ↦
        let same : (p : Phase) → set_of c.sets p taken.at ≡ set_of b.sets p taken.at =
        (gains.still taken.at (subst (λ w. waits c.waiting w ≡ false) is quiet)).1 in
        subst (AgreesAt sys lattice rows c.sets) (sym is) (record {
          carried = λ n. carried_on (had_of taken) (λ p. set_of c.sets p taken.at) c.sets c.sets
              (λ p. same p ∙ sym (up.had p)) (λ p w e has. has) taken.at n (carried n);
          anew = anew_on sys b.sets c.sets taken.at same up.anew;
        })
    | inr ne ↦
        let late = gains.still v quiet in
        let early = up.others v ne late.0 in
        agrees_on a.sets c.sets v (λ p w e has. gains.kept p w e (up.kept p w e has)) (λ p. late.1 p ∙ early.1 p)
        (agree v early.0)
  ]

  pub enter_carried : (had : Phase → ℕ) (sets : PhaseSets) (n : ℕ) (constraint : Constraint) (s u a w : ℕ)
      → slice_get sys.constraints n ≡ Some constraint → constraint.link ≡ Enter s w a →
      ((p : Phase) → Includes (had p) sets Second a) → ((m : ℕ) → IsPassed sys lattice rows had sets s a m)
      → IsCarried sys lattice rows had sets u n
  enter_carried had sets n constraint s u a w there is called passed = record {
    flow = λ v st. let no = one_link sys lattice n constraint (Enter s w a) there is (Le u v) st in absurd cc;
    back = λ t v st. let no = one_link sys lattice n constraint (Enter s w a) there is (Leave t u v) st in absurd cc;
    call = λ t b st.
        let e = one_link sys lattice n constraint (Enter s w a) there is (Enter t u b) st in
        let inner : a ≡ b = cc in
        subst (λ y. (p : Phase) → Includes (had p) sets Second y) inner called;
    group = λ t b m st.
        let e = one_link sys lattice n constraint (Enter s w a) there is (Enter t u b) st in
        let site : s ≡ t = cc in
        let inner : a ≡ b = cc in
        subst (λ y. IsPassed sys lattice rows had sets y b m) site
        (subst (λ y. IsPassed sys lattice rows had sets s y m) inner (passed m));
  }
