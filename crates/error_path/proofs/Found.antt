-- What a search has found stays right for other summaries of the same system, and its variables are those of
-- constraints.
use Rattle.std.proofs.Common.{◌≡◌, ℕ, ◌<◌, List, inl, inr, arith, subst, sym}
use Rattle.flow_graph.specs.System.{System, AllBelow}
use Rattle.flow_graph.specs.declared.phase.Phase.{Phase}
use Rattle.match_summary.specs.declared.reason.Summary.{Summary}
use Rattle.match_summary.specs.Summary.{HasPair, Leads, IsInnerEnd, Summarises}
use Rattle.error_path.specs.declared.search.Cause.{Cause}
use Rattle.error_path.specs.declared.search.Cause.TheVariants.{Start, Here, Step, Group}
use Rattle.error_path.specs.declared.search.Origin.{Origin}
use Rattle.error_path.specs.declared.search.Reached.{Reached}
use Rattle.error_path.specs.Reaching.{LeadsBy, ByFlow, ByLeave, ByEnter, LeadsAround, ComesBy, AreSound, HasRoom}
use Rattle.error_path.specs.Reaches.{AreBelow, IsFound}
use Rattle.error_path.specs.declared.reaches.Found.{Found}
use Rattle.error_path.proofs.Resting.{has_of}

-- the variables that are reached are below each number that those of the constraints are below
module _ (sys : System) (lattice vars : ℕ) (origin : Origin) (rows : List Summary) (queue : List Reached)
    (below : AllBelow sys vars) (room : HasRoom origin vars) where
  leads_below : (n : ℕ) (p : Phase) (u : ℕ) (q : Phase) (v : ℕ) → LeadsBy sys lattice n p u q v → v < vars
  leads_below n p u q v (ByFlow _ _ _ _ _ st _) = let low = below n _ (has_of sys lattice n _ st) in omega (arith, low)
  leads_below n p u q v (ByLeave _ _ _ _ _ st _) = let low = below n _ (has_of sys lattice n _ st) in omega (arith, low)
  leads_below n p u q v (ByEnter _ _ _ _ _ _ st _) =
      let low = below n _ (has_of sys lattice n _ st) in
      omega (arith, low)

  comes_below : (place : ℕ) (q : Phase) (v : ℕ) (cause : Cause) → ComesBy sys lattice origin rows queue place q v cause
      → v < vars
  comes_below place q v (Start n) comes = let low = below n _ (has_of sys lattice n _ comes.2) in omega (arith, low)
  comes_below place q v Here comes = subst (λ (o : Origin). HasRoom o vars) comes.0 room
  comes_below place q v (Step from n) comes = leads_below n comes.0.it.phase comes.0.it.at q v comes.1
  comes_below place q v (Group from enter leave) comes =
      let low = below leave _ (has_of sys lattice leave _ comes.1.leaves) in
      omega (arith, low)

  pub sound_below : AreSound sys lattice origin rows queue → AreBelow vars queue
  sound_below sound place r is = comes_below place r.phase r.at r.cause (sound place r is)

-- what one list of summaries joins to an inner end, each list does
module _ (sys : System) (lattice : ℕ) (origin : Origin) (rows others : List Summary) (all : Summarises sys lattice rows)
    (alike : Summarises sys lattice others) where
  pair_alike : (u v : ℕ) → IsInnerEnd sys lattice u → HasPair rows u v → HasPair others u v
  pair_alike u v inner pair = alike.whole u v inner (all.sound u v pair)

  leads_alike : (u v : ℕ) → IsInnerEnd sys lattice u → Leads rows u v → Leads others u v
  leads_alike u v inner (inl same) = inl same
  leads_alike u v inner (inr pair) = inr (pair_alike u v inner pair)

  around_alike : (enter leave : ℕ) (p : Phase) (u : ℕ) (q : Phase) (v : ℕ)
      → LeadsAround sys lattice rows enter leave p u q v → LeadsAround sys lattice others enter leave p u q v
  around_alike enter leave p u q v a = record {
    site = a.site;
    inner = a.inner;
    last = a.last;
    enters = a.enters;
    leaves = a.leaves;
    joined = leads_alike a.inner a.last (enter, a.site, u, a.enters) a.joined;
    phase_is = a.phase_is;
  }

  comes_alike : (queue : List Reached) (place : ℕ) (q : Phase) (v : ℕ) (cause : Cause)
      → ComesBy sys lattice origin rows queue place q v cause →
      ComesBy sys lattice origin others queue place q v cause
  comes_alike queue place q v (Start n) comes = comes
  comes_alike queue place q v Here comes = comes
  comes_alike queue place q v (Step from n) comes = comes
  comes_alike queue place q v (Group from enter leave) comes =
      (comes.0, around_alike enter leave comes.0.it.phase comes.0.it.at q v comes.1)

  pub sound_alike : (queue : List Reached) → AreSound sys lattice origin rows queue
      → AreSound sys lattice origin others queue
  sound_alike queue sound place r is = comes_alike queue place r.phase r.at r.cause (sound place r is)

-- what was found is sound for any summaries of the system
pub found_sound : (sys : System) (found : Found) (lattice : ℕ) (origin : Origin) (rows : List Summary)
    → IsFound sys found → found.lattice ≡ lattice → found.origin ≡ origin →
    Summarises sys lattice rows → AreSound sys lattice origin rows found.queue.items
found_sound sys found lattice origin rows is at named all =
    let Rows : ℕ → Type 0 = λ l. Summarises sys l rows in
    let alike = sound_alike sys found.lattice found.origin is.rows rows is.summarised
    (subst Rows (sym at) all) found.queue.items is.sound in
    let Lat : ℕ → Type 0 = λ l. AreSound sys l found.origin rows found.queue.items in
    let From : Origin → Type 0 = λ o. AreSound sys lattice o rows found.queue.items in
    subst From named (subst Lat at alike)
