-- What summaries, and sets of what comes and of bounds say of nodes is right of a library.
use Rattle.std.proofs.Common.{◌≡◌, ℕ, zero, suc, ◌<◌, nat_eq, ltb, Bool, true, false, not, ◌&&◌, ◌||◌, ◌↔◌, List, refl, sym, ◌∙◌, ap, subst, arith, inl, inr}
use Rattle.std.specs.Int.{bit_at}
use Rattle.std.proofs.lemmas.Bool.{and_from, and_parts, eq-eqb, eqb-true, lt-ltb, ltb-true, or_cases, not-true, eqb-false}
use Rattle.lattice_core.specs.Order.{Order, size, leq, IsLattice, IsJoinOf}
use Rattle.flow_graph.specs.System.{System}
use Rattle.flow_graph.specs.Unfolding.{NamesElementsIn}
use Rattle.flow_graph.specs.Paths.{Returning}
use Rattle.flow_laws.proofs.Join.{least_over}
use Rattle.flow_laws.proofs.Leads.{lead_element}
use Rattle.flow_laws.proofs.Search.{last_or}
use Rattle.match_summary.specs.declared.reason.Summary.{Summary}
use Rattle.match_summary.specs.Summary.{SummarisesFrom}
use Rattle.bounds_below.specs.Below.{set_at, AreBelow}
use Rattle.sig_writer.specs.Found.{IsFoundAt, IsGreatest, IsLeast}
use Rattle.sig_writer.specs.Saying.{IsMeetOf}
use Rattle.sig_writer.specs.Signatures.{Found}
use Rattle.sig_writer.proofs.Pairs.{has_pair, is_pair, pair_of}

-- ---- each set of elements has a join and a meet

module _ (order : Order) (set : ℕ) where
  abbrev has : ℕ → Bool
  has a = nat_eq (bit_at set a) 1

  -- an element is at or below each of the set among the first k
  abbrev is_under : ℕ → ℕ → Bool
  is_under d zero = true
  is_under d (suc k) = (not (has k) || leq order d k) && is_under d k

  abbrev Under : ℕ → ℕ → Type 0
  Under d k = (a : ℕ) → a < k → bit_at set a ≡ 1 → leq order d a ≡ true

  under_of : (d k : ℕ) → is_under d k ≡ true → Under d k
  under_of d zero is a low bit = absurd (omega (arith, low))
  under_of d (suc k) is a low bit =
      let both = and_parts (not (has k) || leq order d k) (is_under d k) is in
      elim (last_or a k low) [
        | inr less ↦ under_of d k both.1 a less bit
        | inl same ↦ elim (or_cases (not (has k)) (leq order d k) both.0) [
          | inr below ↦ subst (λ x. leq order d x ≡ true) (sym same) below
          | inl out ↦ absurd (eqb-false (bit_at set k) 1 (not-true (has k) out)
              (ap (λ x. bit_at set x) (sym same) ∙ bit))
        ]
      ]

  of_under : (d k : ℕ) → Under d k → is_under d k ≡ true
  of_under d zero h = refl
  of_under d (suc k) h =
      and_from (not (has k) || leq order d k) (is_under d k) (by_test (has k) refl)
      (of_under d k (λ a low bit. h a (omega (arith, low)) bit))
    where
      by_test : (b : Bool) → has k ≡ b → (not b || leq order d k) ≡ true
      by_test false is = refl
      by_test true is = h k (omega arith) (eqb-true (bit_at set k) 1 is)

  module _ (lat : IsLattice order) where
    pub join_of : (j : ℕ) × IsJoinOf order set j
    join_of =
        let found = least_over order (λ e. (e < size order) × (bit_at set e ≡ 1)) (λ e. ltb e (size order) && has e) lat
        (λ e is. (
          and_from (ltb e (size order)) (has e) (lt-ltb e (size order) is.0)
              (eq-eqb (bit_at set e) 1 is.1),
          is.0,
        ))
        (λ e is. let both = and_parts (ltb e (size order)) (has e) is in
        (ltb-true e (size order) both.0, eqb-true (bit_at set e) 1 both.1)) in (
          found.0,
          record {
            element = found.1.element;
            upper = λ a low bit. found.1.upper a (low, bit);
            least = λ d low above. found.1.least d low (λ e is. above e is.0 is.1);
          },
        )

    pub meet_of : (m : ℕ) × IsMeetOf order set m
    meet_of =
        let found = least_over order (λ d. (d < size order) × Under d (size order))
        (λ d. ltb d (size order) && is_under d (size order)) lat
        (λ d is. (
          and_from (ltb d (size order)) (is_under d (size order)) (lt-ltb d (size order) is.0)
              (of_under d (size order) is.1),
          is.0,
        ))
        (λ d is. let both = and_parts (ltb d (size order)) (is_under d (size order)) is in
        (ltb-true d (size order) both.0, under_of d (size order) both.1)) in (
          found.0,
          record {
            element = found.1.element;
            lower = λ a low bit. found.1.least a low (λ d is. is.1 a low bit);
            greatest = λ d low below. found.1.upper d (low, below);
          },
        )

-- ---- what is found

module _ (sys : System) (order : Order) (vars : List ℕ) (rows : List Summary) (firsts : ℕ → ℕ) (below : List ℕ)
    (lat : IsLattice order) (least greatest : ℕ) where
  abbrev pub found_by : Found
  found_by = record {
    join = λ v. (join_of order (firsts v) lat).0;
    meet = λ v. (meet_of order (set_at below v) lat).0;
    joins = has_pair rows;
    least = least;
    greatest = greatest;
  }

  pub is_found : NamesElementsIn sys 0 order → SummarisesFrom sys 0 vars rows →
      ((v e : ℕ) → (bit_at (firsts v) e ≡ 1) ↔ Returning sys 0 e v) →
      AreBelow sys 0 below → IsLeast order least → IsGreatest order greatest → IsFoundAt sys 0 order vars found_by
  is_found named summaries comes bounds is_least is_greatest = record {
    join = λ v in_vars. let j = (join_of order (firsts v) lat).1 in record {
      element = j.element;
      upper = λ e p. j.upper e (lead_element sys 0 order named e v (inl p)) ((comes v e).1 p);
      least = λ d low above. j.least d low (λ a fits bit. above a ((comes v a).0 bit));
    };
    meet = λ v in_vars. let m = (meet_of order (set_at below v) lat).1 in record {
      element = m.element;
      lower = λ b r. m.lower b (named.bound r.0 r.1.0 b r.1.2) ((bounds v b).1 r);
      greatest = λ d low under. m.greatest d low (λ a fits bit. under a ((bounds v a).0 bit));
    };
    joins = λ u v in_vars. (
      λ is. summaries.summaries.sound u v (pair_of rows u v is),
      λ m. is_pair rows u v (summaries.whole u v (inr in_vars) m),
    );
    least = is_least;
    greatest = is_greatest;
  }
