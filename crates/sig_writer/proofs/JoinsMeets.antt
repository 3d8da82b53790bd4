-- Joins and meets of sets are one.
use Rattle.std.proofs.Common.{◌≡◌, ℕ, ◌+◌, ◌<◌, Option, true, inl, inr, sym, ◌∙◌, ap, subst, arith}
use Rattle.std.specs.Int.{bit_at}
use Rattle.std.proofs.lemmas.Bool.{cases_lt}
use Rattle.lattice_core.specs.Order.{Order, leq, size, IsGreatestLower, IsLattice, IsJoinOf}
use Rattle.flow_graph.specs.declared.phase.Phase.TheVariants.{First}
use Rattle.lattice_solver.specs.Phases.{set_of}
use Rattle.bounds_below.specs.Below.{set_at}
use Rattle.sig_writer.specs.declared.says.Known.{Known}
use Rattle.sig_writer.specs.Saying.{IsHighAt, IsJoinAt, IsLowAt, IsMeetAt, IsMeetOf}
use Rattle.sig_writer.specs.Signatures.{unless}

module _ (order : Order) (lattice : IsLattice order) (set : ℕ) where
  pub join_one : (a b : ℕ) → IsJoinOf order set a → IsJoinOf order set b → a ≡ b
  join_one a b p q = lattice.ordered.apart a b (p.least b q.element q.upper) (q.least a p.element p.upper)

  pub meet_one : (a b : ℕ) → IsMeetOf order set a → IsMeetOf order set b → a ≡ b
  meet_one a b p q = lattice.ordered.apart a b (q.greatest a p.element p.lower) (p.greatest b q.element q.lower)

-- what is written of a variable, by its join and its meet
pub low_is : (known : Known) (v e : ℕ) (r : Option ℕ) → IsLattice known.lattice.now.order → IsJoinAt known v e →
    r ≡ unless e known.least → IsLowAt known v r
low_is known v e r lattice join written = record {
  is = λ vars it has is.
      let order = known.lattice.now.order in
      let set = set_of known.solver.now.phases First v in
      let one : e ≡ it.join v = join_one order lattice set e (it.join v) join (is.join v has) in
      written ∙ ap (λ x. unless x known.least) one ∙ ap (λ x. unless (it.join v) x) (sym is.least);
}

-- the meet of bounds at a variable, unless it is the greatest element, is what is written as its high element
pub high_is : (known : Known) (v e : ℕ) (r : Option ℕ) → IsLattice known.lattice.now.order → IsMeetAt known v e →
    r ≡ unless e known.greatest → IsHighAt known v r
high_is known v e r lattice meet written = record {
  is = λ vars it has is.
      let order = known.lattice.now.order in
      let one : e ≡ it.meet v = meet_one order lattice (set_at known.below.now v) e (it.meet v) meet (is.meet v has) in
      written ∙ ap (λ x. unless x known.greatest) one ∙ ap (λ x. unless (it.meet v) x) (sym is.greatest);
}

-- the meet of the elements below a number, as far as a loop has come
pub record IsMeetBelow (order : Order) (set n m : ℕ) : Type 0 where
  pub element : m < size order
  pub lower : (a : ℕ) → a < n → bit_at set a ≡ 1 → leq order m a ≡ true
  pub greatest : (d : ℕ) → d < size order → ((a : ℕ) → a < size order → bit_at set a ≡ 1 → leq order d a ≡ true) →
      leq order d m ≡ true

module _ (order : Order) (lattice : IsLattice order) (set n m : ℕ) (is : IsMeetBelow order set n m) where
  pub meet_more : (new : ℕ) → n < size order → bit_at set n ≡ 1 → IsGreatestLower order m n new →
      IsMeetBelow order set (n + 1) new
  meet_more new lt has met = record {
    element = (lattice.ordered.inside new m met.left).0;
    lower = λ a low had. elim (cases_lt a n) [
      | inl early ↦ lattice.ordered.through new m a met.left (is.lower a early had)
      | inr last ↦ let same : n ≡ a = omega (arith, low, last) in subst (λ k. leq order new k ≡ true) same met.right
    ];
    greatest = λ d low below. met.greatest d (is.greatest d low below) (below n lt has);
  }

  pub meet_same : (bit_at set n ≡ 1 → ⊥) → IsMeetBelow order set (n + 1) m
  meet_same lacks = record {
    element = is.element;
    lower = λ a low had. elim (cases_lt a n) [
      | inl early ↦ is.lower a early had
      | inr last ↦ let same : a ≡ n = omega (arith, low, last) in
          absurd (lacks (subst (λ k. bit_at set k ≡ 1) same had))
    ];
    greatest = is.greatest;
  }
