-- What a reader answers, in the words of certificates.
use Rattle.std.proofs.Common.{◌≡◌, ◌≢◌, ℕ, ◌≤◌, List, length, Some, Result, Ok, Err, IfErr, sym, ◌∙◌, ap, subst, arith, inl, inr, ◌⊎◌}
use Rattle.std.proofs.lemmas.List.{length-map}
use Rattle.std.proofs.lemmas.Option.{slice_get_within}
use Rattle.lattice_core.specs.Order.{Order}
use Rattle.lattice_core.specs.View.{LatticeView, orders_of}
use Rattle.flow_graph.specs.System.{System, most_constraints}
use Rattle.closure_check.specs.declared.part.Part.{Part}
use Rattle.certificate_reader.specs.declared.section.Section.TheVariants.{Start}
use Rattle.certificate_reader.specs.declared.section.CertFault.{CertFault}
use Rattle.certificate_reader.specs.declared.section.CertFault.TheVariants.{NoMemory}
use Rattle.certificate_reader.specs.Lines.{lines_of}
use Rattle.certificate_reader.specs.Grammar.{all_of, alls_of, IsPlaced, ReadsAs}
use Rattle.certificate_reader.specs.Reader.{fault_from, AreSmall, AreMade, IsReadAs}
use Rattle.certificate_reader.specs.Laws.{IsBounded}
use Rattle.certificate_reader.proofs.HeldLemmas.{made_plain}
use Rattle.certificate_reader.proofs.OneFault.{shaped_has_none}
use Rattle.certificate_reader.proofs.Placed.{fault_is_placed}
use Rattle.certificate_reader.proofs.Plain.{read_shaped, read_known}

-- there are as many lattices as orders, and as sets of all elements
pub few_alls : (lattices : List LatticeView) (alls : List ℕ) → alls ≡ alls_of (orders_of lattices)
    → length lattices ≤ 16 → length alls ≤ 16
few_alls lattices alls are few =
    let one : length (orders_of lattices) ≡ length lattices =
    length-map lattices (λ (view : LatticeView). view.order) in
    let two : length (alls_of (orders_of lattices)) ≡ length (orders_of lattices) =
    length-map (orders_of lattices) (λ (order : Order). all_of order) in
    let three : length alls ≡ length (alls_of (orders_of lattices)) = ap length are in
    omega (arith, few, one, two, three)

-- a system and lattices within the limits of the tool are bounded
pub bounded_of : (sys : System) (lattices : List LatticeView) → length sys.constraints ≤ most_constraints
    → length lattices ≤ 16 → AreSmall (length lattices) (orders_of lattices) →
    IsBounded sys (orders_of lattices)
bounded_of sys lattices few many small =
    let one : length (orders_of lattices) ≡ length lattices =
    length-map lattices (λ (view : LatticeView). view.order) in
    record {
      constraints = few;
      lattices = omega (arith, one, many);
      elements = λ n order there.
          small n order (omega (arith, slice_get_within (orders_of lattices) n order there, one)) there;
    }

module _ (sys : System) (orders : List Order) (alls : List ℕ) (are : alls ≡ alls_of orders) (bytes : List ℕ) where
  pub reads_as : (parts : List Part) → IsReadAs sys alls bytes parts → ReadsAs sys orders bytes parts
  reads_as parts is = (
    is.text_is,
    made_plain sys orders parts (subst (λ (as_ : List ℕ). AreMade sys as_ parts) are is.made)
        (is.whole ∙ ap length are),
  )

  pub faults_placed : {A : Type 0} → (r : Result A CertFault)
      → IfErr r (λ e. (e ≡ NoMemory) ⊎ (fault_from sys alls Start 1 (lines_of bytes) ≡ Some e)) →
      IfErr r (IsPlaced sys orders (lines_of bytes))
  faults_placed (Ok x) h = tt
  faults_placed (Err e) (inl is) = subst (λ (f : CertFault). IsPlaced sys orders (lines_of bytes) f) (sym is) tt
  faults_placed (Err e) (inr is) =
      fault_is_placed sys orders (lines_of bytes) e
      (subst (λ (as_ : List ℕ). fault_from sys as_ Start 1 (lines_of bytes) ≡ Some e) are is)

-- a text that reads as certificates is refused for want of memory alone
pub refused_for_memory : {A : Type 0} → (sys : System) (orders : List Order) (bytes : List ℕ) (r : Result A CertFault)
    → IsBounded sys orders → IfErr r (IsPlaced sys orders (lines_of bytes)) →
    IfErr r (λ fault. fault ≢ NoMemory → (parts : List Part) → ReadsAs sys orders bytes parts → ⊥)
refused_for_memory sys orders bytes (Ok x) bounded placed = tt
refused_for_memory sys orders bytes (Err e) bounded placed = λ other parts reads.
    other (shaped_has_none sys orders (lines_of bytes) e (read_shaped sys orders bytes parts bounded reads)
    (read_known sys orders bytes parts bounded reads) placed)
