-- The joins of what a certificate carries meet the unfolding.
use Rattle.std.proofs.Common.{◌≡◌, ℕ, ◌<◌, Bool, true, false, List, ◌∷◌, refl, inl, inr}
use Rattle.lattice_core.specs.Order.{Order, size, leq, IsLattice}
use Rattle.flow_graph.specs.System.{System, owner_of}
use Rattle.flow_graph.specs.Unfolding.{Assignment, seen_from, Rises, Meets, NamesElementsIn}
use Rattle.flow_laws.specs.Least.{IsLeastOver}
use Rattle.flow_laws.proofs.Join.{least_over}
use Rattle.certificate_laws.specs.declared.rule.CertRule.TheVariants.{A1, A9}
use Rattle.certificate_laws.specs.Certificates.{Certificate, Obeys}
use Rattle.certificate_laws.specs.Laws.{CertifiedIsAccepted}
use Rattle.certificate_laws.proofs.Ways.{Decided}
use Rattle.certificate_laws.proofs.Carrying.{Carries, carries_tells, anywhere, second_of, at_home, from_home, flowed, entered, left}

abbrev test_of : (A : Type 0) → Decided A → Bool
test_of A (inl a) = true
test_of A (inr not) = false

test_on : (A : Type 0) (d : Decided A) → A → test_of A d ≡ true
test_on A (inl a) given = refl
test_on A (inr not) given = absurd (not given)

test_off : (A : Type 0) (d : Decided A) → test_of A d ≡ true → A
test_off A (inl a) is = a
test_off A (inr not) is = absurd cc

module _ (sys : System) (lattice : ℕ) (order : Order) (c : Certificate) (lat : IsLattice order)
    (names : NamesElementsIn sys lattice order) (obeys : Obeys sys lattice order c) where
  -- the elements that are carried to a copy
  abbrev In : ℕ → List ℕ → ℕ → Type 0
  In v sites e = Carries sys lattice c e v sites × (e < size order)

  in_tells : (v : ℕ) (sites : List ℕ) (e : ℕ) → Decided (In v sites e)
  in_tells v sites e = by_both (carries_tells sys lattice c e v sites) (leq order e e) refl
    where
      by_both : Decided (Carries sys lattice c e v sites) → (t : Bool) → leq order e e ≡ t → Decided (In v sites e)
      by_both (inr not) t is = inr (λ both. not both.0)
      by_both (inl r) true is = inl (r, (lat.ordered.inside e e is).0)
      by_both (inl r) false is = inr (λ both. let fits : leq order e e ≡ true = lat.ordered.same e both.1 in cc)

  abbrev one : (v : ℕ) (sites : List ℕ) → (r : ℕ) × IsLeastOver order (In v sites) r
  one v sites = least_over order (In v sites) (λ e. test_of (In v sites e) (in_tells v sites e)) lat
      (λ e is. (test_on (In v sites e) (in_tells v sites e) is, is.1))
      (λ e t. test_off (In v sites e) (in_tells v sites e) t)

  abbrev copies : Assignment
  copies v sites = (one v sites).0

  least : (v : ℕ) (sites : List ℕ) → IsLeastOver order (In v sites) (copies v sites)
  least v sites = (one v sites).1

  -- what is carried to one copy is carried to another
  raised : (u v : ℕ) (here there : List ℕ)
      → ((e : ℕ) → Carries sys lattice c e u here → Carries sys lattice c e v there)
      → leq order (copies u here) (copies v there) ≡ true
  raised u v here there h =
      (least u here).least (copies v there) (least v there).element (λ e r. (least v there).upper e (h e r.0, r.1))

  rising : (depth : ℕ) → Rises sys lattice order depth copies
  rising depth = record {
    elements = λ v sites. (least v sites).element;
    le = λ n u v sites st copy. raised u v _ _ (λ e r. at_home sys lattice order c obeys e v sites
        (flowed sys lattice order c obeys e n u v sites st (from_home sys lattice order c obeys e u sites r)));
    const = λ n e v sites st copy. (least v _).upper e
        (anywhere sys lattice c e v (seen_from (owner_of sys v) sites) (obeys A1 n e v st), names.const n e v st);
    enter = λ n s u v site sites st there copy fits.
        raised u v _ _ (λ e r. at_home sys lattice order c obeys e v (s ∷ sites)
        (entered sys lattice order c obeys e s n u v sites st (from_home sys lattice order c obeys e u sites r)));
    leave = λ n s u v site sites st there copy fits. raised u v _ _ (λ e r. at_home sys lattice order c obeys e v sites
        (left sys lattice order c obeys e s n u v sites st (from_home sys lattice order c obeys e u (s ∷ sites) r)));
  }

  met : (depth : ℕ) → Meets sys lattice order depth copies
  met depth = record {
    rises = rising depth;
    bound = λ n b v sites st copy. (least v (seen_from (owner_of sys v) sites)).least b (names.bound n v b st)
        (λ e r. obeys A9 n v b st e (second_of sys lattice order c obeys e v (seen_from (owner_of sys v) sites) r.0));
  }

pub certified_is_accepted : CertifiedIsAccepted
certified_is_accepted sys lattice order c lat names obeys depth =
    (copies sys lattice order c lat names obeys, met sys lattice order c lat names obeys depth)
