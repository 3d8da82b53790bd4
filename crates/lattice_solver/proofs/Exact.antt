-- Sets that agree with each constraint have all that leads to a variable.
use Rattle.std.proofs.Common.{ℕ, List}
use Rattle.flow_graph.specs.System.{System}
use Rattle.flow_graph.specs.Paths.{Returning, Calling, start, flows, returns, grouped, anew, calls, calls_on, flows_on, grouped_on}
use Rattle.match_summary.specs.declared.reason.Summary.{Summary}
use Rattle.match_summary.specs.Summary.{Summarises}
use Rattle.flow_graph.specs.declared.phase.Phase.{Phase}
use Rattle.flow_graph.specs.declared.phase.Phase.TheVariants.{First, Second}
use Rattle.lattice_solver.specs.PhaseSets.{PhaseSets}
use Rattle.lattice_solver.specs.Phases.{HasIn, LeadsIn}
use Rattle.lattice_solver.specs.Stable.{AgreesAt, AreBegun}
use Rattle.lattice_solver.proofs.Groups.{matches_leads, matches_one}

module _ (sys : System) (lattice : ℕ) (rows : List Summary) (sets : PhaseSets) (whole : Summarises sys lattice rows)
    (begun : AreBegun sys lattice sets)
    (agree : (v : ℕ) → AgreesAt sys lattice rows sets v) where
  mutual
    returning_in : (e v : ℕ) → Returning sys lattice e v → HasIn sets First v e
    returning_in e v (start _ n st) = begun n e v st
    returning_in e v (flows u _ n p st) = ((agree u).carried n).flow v st First e (returning_in e u p)
    returning_in e v (returns u _ s n p st) = ((agree u).carried n).back s v st e (returning_in e u p)
    returning_in e v (grouped u a b _ s g n m p st q st2) =
        ((agree u).carried n).group s a m st b v st2 (matches_leads sys lattice rows g a b whole (n, s, u, st) q)
        (matches_one sys lattice rows g a b q) First e (returning_in e u p)
    returning_in e v (anew _ p is) = (agree v).anew is e (calling_in e v p)

    calling_in : (e v : ℕ) → Calling sys lattice e v → HasIn sets Second v e
    calling_in e v (calls u _ s n p st) = ((agree u).carried n).call s v st First e (returning_in e u p)
    calling_in e v (calls_on u _ s n p st) = ((agree u).carried n).call s v st Second e (calling_in e u p)
    calling_in e v (flows_on u _ n p st) = ((agree u).carried n).flow v st Second e (calling_in e u p)
    calling_in e v (grouped_on u a b _ s g n m p st q st2) =
        ((agree u).carried n).group s a m st b v st2 (matches_leads sys lattice rows g a b whole (n, s, u, st) q)
        (matches_one sys lattice rows g a b q) Second e (calling_in e u p)

  pub all_in : (p : Phase) (v e : ℕ) → LeadsIn sys lattice p e v → HasIn sets p v e
  all_in First v e path = returning_in e v path
  all_in Second v e path = calling_in e v path
