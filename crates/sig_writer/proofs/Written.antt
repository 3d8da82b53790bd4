-- What is found of a library is what is written of it.
use Rattle.std.proofs.Common.{◌≡◌, ℕ, ◌↔◌, true, List, Option, None, Some, IfSome, IfNone, refl, sym, subst}
use Rattle.std.specs.Option.{is_none}
use Rattle.std.specs.Int.{bit_at}
use Rattle.std.specs.List.{flat_map}
use Rattle.std.proofs.lemmas.List.Folds.{flat_map-map}
use Rattle.lattice_core.specs.Order.{Order, IsLattice, IsJoinOf}
use Rattle.lattice_core.specs.View.{LatticeView}
use Rattle.flow_graph.specs.System.{System, IsWellOwned}
use Rattle.flow_graph.specs.Unfolding.{IsAcceptedIn, IsExceeded, NamesElementsIn}
use Rattle.flow_graph.specs.Paths.{Returning}
use Rattle.flow_graph.specs.declared.phase.Phase.TheVariants.{First}
use Rattle.flow_laws.proofs.Force.{exceeded_is_refuted}
use Rattle.match_summary.specs.declared.reason.Summary.{Summary}
use Rattle.match_summary.specs.Summary.{HasPair, SummarisesFrom}
use Rattle.lattice_solver.specs.Phases.{set_of}
use Rattle.lattice_solver.specs.Solution.{Solution, IsFirstExceeded, IsKept, IsSolved}
use Rattle.bounds_below.specs.Below.{set_at, AreBelow}
use Rattle.split_laws.specs.Same.{SamePaths}
use Rattle.split_laws.specs.Splits.{ServedIsWhole, WholeIsServed}
use Rattle.sig_writer.specs.declared.lines.Library.{Library}
use Rattle.sig_writer.specs.declared.lines.SigFault.{SigFault}
use Rattle.sig_writer.specs.declared.lines.SigFault.TheVariants.{Unwritable, NoSign, NoMemory}
use Rattle.sig_writer.specs.declared.says.Known.{Known}
use Rattle.sig_writer.specs.Found.{IsGreatest, IsLeast}
use Rattle.sig_writer.specs.Library.{external_by, externals_by, FaultOr}
use Rattle.sig_writer.specs.Nodes.{all_nodes_in}
use Rattle.sig_writer.specs.Parts.{AreOwnedApart, Serves}
use Rattle.sig_writer.specs.Saying.{AreKnown, IsKnownOf, IsMeetOf}
use Rattle.sig_writer.specs.Signatures.{External, Found, first_refusal, lines_of, nodes_of}
use Rattle.sig_writer.specs.Signing.{IsFault, IsFoundIn, IsWritten}
use Rattle.sig_writer.proofs.Knowing.{found_by, is_found, join_of, meet_of}
use Rattle.sig_writer.proofs.Pairs.{is_pair, pair_of}
use Rattle.sig_writer.proofs.Serving.{serves}

-- the nodes are those of the external functions
pub all_nodes_are : (it : Library) →
    all_nodes_in it.skeletons.now it.functions.now ≡ flat_map nodes_of (externals_by it)
all_nodes_are it = sym (flat_map-map nodes_of (external_by it) it.functions.now)

-- what the solver has found comes to each variable with no call open
pub firsts_exact : (sys : System) (solution : Solution) → solution.lattice ≡ 0 → IsSolved sys solution →
    (v e : ℕ) → (bit_at (set_of solution.phases First v) e ≡ 1) ↔ Returning sys 0 e v
firsts_exact sys solution number solved v e =
    subst (λ (n : ℕ). (bit_at (set_of solution.phases First v) e ≡ 1) ↔ Returning sys n e v) number
    (solved.exact First v e)

-- What the code knows of a library, and of what it was lent.
pub record Lent (sys : System) (lattice : LatticeView) (functions : List External) (rows : List Summary)
    (solution : Solution) (below : List ℕ) (known : Known) : Type 0 where
  pub lat : IsLattice lattice.order
  pub named : NamesElementsIn sys 0 lattice.order
  pub summaries : SummarisesFrom sys 0 (flat_map nodes_of functions) rows
  pub number : solution.lattice ≡ 0
  pub solved : IsSolved sys solution
  pub bounds : AreBelow sys 0 below
  pub known_is : AreKnown known
  pub lattice_is : known.lattice.now ≡ lattice
  pub summaries_are : known.summaries.now ≡ rows
  pub solver_is : known.solver.now ≡ solution
  pub below_is : known.below.now ≡ below

module _ (sys : System) (lattice : LatticeView) (functions : List External) (rows : List Summary) (solution : Solution)
    (below : List ℕ) (known : Known)
    (lent : Lent sys lattice functions rows solution below known) where
  abbrev vars : List ℕ
  vars = flat_map nodes_of functions

  abbrev firsts : ℕ → ℕ
  firsts v = set_of solution.phases First v

  abbrev pub it : Found
  it = found_by sys lattice.order vars rows firsts below lent.lat known.least known.greatest

  is_least : IsLeast lattice.order known.least
  is_least = subst (λ (l : LatticeView). IsLeast l.order known.least) lent.lattice_is lent.known_is.least

  is_greatest : IsGreatest lattice.order known.greatest
  is_greatest = subst (λ (l : LatticeView). IsGreatest l.order known.greatest) lent.lattice_is lent.known_is.greatest

  pub found : IsFoundIn sys lattice functions it
  found = is_found sys lattice.order vars rows firsts below lent.lat known.least known.greatest lent.named
      lent.summaries (firsts_exact sys solution lent.number lent.solved) lent.bounds is_least is_greatest

  joins_known : (v : ℕ) → IsJoinOf known.lattice.now.order (set_of known.solver.now.phases First v) (it.join v)
  joins_known v =
      subst (λ (l : LatticeView). IsJoinOf l.order (set_of known.solver.now.phases First v) (it.join v))
      (sym lent.lattice_is)
      (subst (λ (s : Solution). IsJoinOf lattice.order (set_of s.phases First v) (it.join v)) (sym lent.solver_is)
      (join_of lattice.order (firsts v) lent.lat).1)

  meets_known : (v : ℕ) → IsMeetOf known.lattice.now.order (set_at known.below.now v) (it.meet v)
  meets_known v =
      subst (λ (l : LatticeView). IsMeetOf l.order (set_at known.below.now v) (it.meet v)) (sym lent.lattice_is)
      (subst (λ (sets : List ℕ). IsMeetOf lattice.order (set_at sets v) (it.meet v)) (sym lent.below_is)
      (meet_of lattice.order (set_at below v) lent.lat).1)

  pub is_known : IsKnownOf known vars it
  is_known = record {
    join = λ v in_vars. joins_known v;
    meet = λ v in_vars. meets_known v;
    joins = λ u v in_vars. subst (λ (rs : List Summary). (it.joins u v ≡ true) ↔ HasPair rs u v)
        (sym lent.summaries_are) (pair_of rows u v, is_pair rows u v);
    least = refl;
    greatest = refl;
  }

  module _ (owned : IsWellOwned sys) (apart : AreOwnedApart sys functions) (accepted : IsAcceptedIn sys 0 lattice.order)
      (paths : SamePaths) (one : ServedIsWhole) (other : WholeIsServed) where
    pub it_serves : Serves sys lattice.order it functions
    it_serves = serves sys lattice.order it functions rows firsts below (record {
      lat = lent.lat;
      owned = owned;
      apart = apart;
      accepted = accepted;
      found = found;
      summaries = lent.summaries;
      comes = firsts_exact sys solution lent.number lent.solved;
      bounds = lent.bounds;
    }) paths one other

    -- what is said of all that is known is said of what is found
    pub written : (text : List ℕ) →
        ((other : Found) → IsKnownOf known vars other →
        (first_refusal other known.lattice.now functions ≡ None)
        × (text ≡ lines_of other known.lattice.now functions)) →
        IsWritten sys lattice functions text
    written text said = record {
      it = it;
      found = found;
      none = subst (λ (l : LatticeView). first_refusal it l functions ≡ None) lent.lattice_is (said it is_known).0;
      is = subst (λ (l : LatticeView). text ≡ lines_of it l functions) lent.lattice_is (said it is_known).1;
      serves = it_serves;
    }

  by_fault : (fault : SigFault) → FaultOr fault (first_refusal it lattice functions) →
      IsFault sys lattice functions fault
  by_fault (Unwritable p) is = record { it = it; found = found; some = is }
  by_fault (NoSign p) is = record { it = it; found = found; some = is }
  by_fault NoMemory is = tt

  pub refused : (fault : SigFault) →
      ((other : Found) → IsKnownOf known vars other → FaultOr fault (first_refusal other known.lattice.now functions)) →
      IsFault sys lattice functions fault
  refused fault said =
      by_fault fault
      (subst (λ (l : LatticeView). FaultOr fault (first_refusal it l functions)) lent.lattice_is (said it is_known))

-- ---- where no bound is exceeded, a library is accepted, and else it is not

-- a solver finds no exceeded bound of lattice 0 exactly where the system is accepted in it
pub none_is_accepted : (sys : System) (order : Order) (solution : Solution) (o : Option ℕ) → solution.lattice ≡ 0 →
    IfSome o (IsFirstExceeded sys solution.lattice order) → IfNone o (IsKept sys solution order) →
    (is_none o ≡ true) ↔ IsAcceptedIn sys 0 order
none_is_accepted sys order solution None number some none =
    (λ is. subst (λ (n : ℕ). IsAcceptedIn sys n order) number none.accepted, λ accepted. refl)
none_is_accepted sys order solution (Some n) number some none = (
  λ is. absurd cc,
  λ accepted. absurd (exceeded_is_refuted sys 0 order n
      (subst (λ (l : ℕ). IsExceeded sys l order n) number some.exceeded) accepted),
)
