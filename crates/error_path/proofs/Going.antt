-- What a search from a variable has reached is led to.
use Rattle.std.proofs.Common.{◌≡◌, ℕ, zero, suc, ◌<◌, List, slice_get, Some, inl, inr, refl, sym, ◌∙◌, subst, arith}
use Rattle.flow_graph.specs.System.{System, owner_of, Stands, IsWellOwned}
use Rattle.flow_graph.specs.declared.constraint.Link.TheVariants.{Enter}
use Rattle.flow_graph.specs.declared.phase.Phase.{Phase}
use Rattle.flow_graph.specs.declared.phase.Phase.TheVariants.{First}
use Rattle.qual_base.specs.declared.places.Owner.{Owner}
use Rattle.qual_base.specs.declared.places.Owner.TheVariants.{Nobody, Function}
use Rattle.flow_graph.specs.Leading.{Goes, Begins, Flows, Returns, Enters, Rounds, GoesTo}
use Rattle.flow_graph.specs.Parts.{settled}
use Rattle.flow_graph.specs.Paths.{Matches, stay, longer}
use Rattle.flow_laws.proofs.Owners.{entering}
use Rattle.match_summary.specs.declared.reason.Summary.{Summary}
use Rattle.match_summary.specs.Summary.{Leads, Summarises}
use Rattle.error_path.specs.declared.search.Cause.{Cause}
use Rattle.error_path.specs.declared.search.Cause.TheVariants.{Start, Here, Step, Group}
use Rattle.error_path.specs.declared.search.Origin.{Origin}
use Rattle.error_path.specs.declared.search.Origin.TheVariants.{Element, Variable}
use Rattle.error_path.specs.declared.search.Reached.{Reached}
use Rattle.error_path.specs.declared.reaches.Reach.{Reach}
use Rattle.error_path.specs.Reaches.{IsReachOf, StandsIn}
use Rattle.error_path.specs.Reaching.{AreSound, ComesBy, LeadsBy, ByFlow, ByLeave, ByEnter, LeadsAround}

-- the first phase is settled at each variable
first_is : (o : Owner) → settled o First ≡ First
first_is Nobody = refl
first_is (Function f) = refl

no_element : (e v : ℕ) → Variable v ≡ Element e → ⊥
no_element e v is = absurd cc

variable_is : (u v : ℕ) → Variable u ≡ Variable v → u ≡ v
variable_is u v is = cc

module _ (sys : System) (lattice start : ℕ) (rows : List Summary) (well : IsWellOwned sys)
    (all : Summarises sys lattice rows) where
  -- what nothing or a summary joins to the inner end of an Enter is matched
  inner_matches : (n s u a b : ℕ) → Stands sys lattice n (Enter s u a) → Leads rows a b
      → (g : ℕ) × Matches sys lattice g a b
  inner_matches n s u a b st (inl same) =
      let call = entering sys lattice well n s u a st in
      (call.it.target, subst (λ x. Matches sys lattice call.it.target a x) same (stay call.it.target a call.inner_is))
  inner_matches n s u a b st (inr pair) = let m = all.sound a b pair in (m.0, longer m.0 a m.1 b m.2 m.3)

  settled_goes : (v : ℕ) (q : Phase) → q ≡ settled (owner_of sys v) First → Goes sys lattice start First v
      → Goes sys lattice start q v
  settled_goes v q is goes = subst (λ f. Goes sys lattice start f v) (sym (is ∙ first_is (owner_of sys v))) goes

  goes_by : (n : ℕ) (p : Phase) (u : ℕ) (q : Phase) (v : ℕ) → LeadsBy sys lattice n p u q v → Goes sys lattice start p u
      → Goes sys lattice start q v
  goes_by n p u q v (ByFlow _ _ _ _ _ st is) on = Flows p u v n q is on st
  goes_by n _ u q v (ByLeave _ s _ _ _ st is) on = settled_goes v q is (Returns u v s n on st)
  goes_by n p u q v (ByEnter _ s _ _ _ _ st is) on = Enters p u v s n q is on st

  goes_around : (enter leave : ℕ) (p : Phase) (u : ℕ) (q : Phase) (v : ℕ)
      → LeadsAround sys lattice rows enter leave p u q v → Goes sys lattice start p u → Goes sys lattice start q v
  goes_around enter leave p u q v a on =
      let inside = inner_matches enter a.site u a.inner a.last a.enters a.joined in
      Rounds p u a.inner a.last v a.site inside.0 enter leave q a.phase_is on a.enters inside.1 a.leaves

  module _ (queue : List Reached) (sound : AreSound sys lattice (Variable start) rows queue) where
    -- where that holds of all earlier places
    came : (place : ℕ)
        → ((from : ℕ) (r : Reached) → from < place → slice_get queue from ≡ Some r
        → Goes sys lattice start r.phase r.at) →
        (q : Phase) (v : ℕ) (cause : Cause) → ComesBy sys lattice (Variable start) rows queue place q v cause
        → Goes sys lattice start q v
    came place earlier q v (Start n) comes = absurd (no_element comes.0 start comes.1)
    came place earlier q v Here comes =
        let begins : Goes sys lattice start First start = Begins in
        settled_goes v q comes.1 (subst (λ x. Goes sys lattice start First x) (variable_is start v comes.0) begins)
    came place earlier q v (Step from n) comes =
        goes_by n comes.0.it.phase comes.0.it.at q v comes.1 (earlier from comes.0.it comes.0.before comes.0.there)
    came place earlier q v (Group from enter leave) comes =
        goes_around enter leave comes.0.it.phase comes.0.it.at q v comes.1
        (earlier from comes.0.it comes.0.before comes.0.there)

    reached_below : (most place : ℕ) (r : Reached) → place < most → slice_get queue place ≡ Some r
        → Goes sys lattice start r.phase r.at
    reached_below zero place r lt is = absurd (omega (arith, lt))
    reached_below (suc most) place r lt is =
        came place (λ from other before there. reached_below most from other
        (omega (arith, lt, before)) there) r.phase r.at r.cause (sound place r is)

    pub reached_goes : (place v : ℕ) → StandsIn queue place v → GoesTo sys lattice start v
    reached_goes place v at =
        let goes = reached_below (suc place) place at.0 (omega arith) at.1 in
        (at.0.phase, subst (λ x. Goes sys lattice start at.0.phase x) at.2 goes)

-- of what was found from a variable
pub found_goes : (sys : System) (lattice start : ℕ) (reach : Reach) → IsWellOwned sys
    → IsReachOf sys lattice start reach → (place v : ℕ) → StandsIn reach.found.queue.items place v →
    GoesTo sys lattice start v
found_goes sys lattice start reach well of place v at =
    let From : Origin → Type 0 = λ o. AreSound sys reach.found.lattice o of.is.rows reach.found.queue.items in
    let goes = reached_goes sys reach.found.lattice start of.is.rows well of.is.summarised reach.found.queue.items
    (subst From of.origin_is of.is.sound) place v at in
    subst (λ l. GoesTo sys l start v) of.lattice_is goes
