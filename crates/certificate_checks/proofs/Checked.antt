-- The certificates of the first lattices, checked one after the other.
use Rattle.std.proofs.Common.{◌≡◌, ℕ, zero, suc, ◌+◌, ◌<◌, inl, inr, List, [], ◌∷◌, length, Some, slice_get, refl, sym, ◌∙◌, ap, subst, arith}
use Rattle.std.proofs.lemmas.Bool.{cases_order}
use Rattle.std.proofs.lemmas.Option.{slice_get_within}
use Rattle.lattice_core.specs.Order.{Order}
use Rattle.flow_graph.specs.System.{System}
use Rattle.flow_graph.specs.Unfolding.{IsAccepted, IsAcceptedIn}
use Rattle.certificate_laws.specs.Certificates.{Obeys}
use Rattle.closure_check.specs.declared.part.Part.{Part}
use Rattle.closure_check.specs.Parts.{certificate_of, IsPart}
use Rattle.certificate_reader.specs.Grammar.{ArePlain}
use Rattle.certificate_checks.specs.Checks.{ObeysAt}

some_part : {x y : Part} → Some x ≡ Some y → x ≡ y
some_part e = cc

some_order : {x y : Order} → Some x ≡ Some y → x ≡ y
some_order e = cc

module _ (sys : System) where
  -- there are as many certificates as lattices
  pub as_many : (orders : List Order) (parts : List Part) → ArePlain sys orders parts → length parts ≡ length orders
  as_many [] [] plain = refl
  as_many [] (p ∷ ps) plain = absurd plain
  as_many (o ∷ os) [] plain = absurd plain
  as_many (o ∷ os) (p ∷ ps) plain = ap suc (as_many os ps plain.2)

  -- and each is one of its lattice
  pub part_of : (orders : List Order) (parts : List Part) (n : ℕ) (order : Order) (part : Part)
      → ArePlain sys orders parts → slice_get orders n ≡ Some order → slice_get parts n ≡ Some part →
      IsPart sys order part
  part_of [] parts n order part plain o p = absurd cc
  part_of (x ∷ os) [] n order part plain o p = absurd cc
  part_of (x ∷ os) (y ∷ ps) zero order part plain o p =
      let Of : Order → Type 0 = λ z. IsPart sys z part in
      let By : Part → Type 0 = λ z. IsPart sys x z in
      subst Of (some_order o) (subst By (some_part p) plain.0)
  part_of (x ∷ os) (y ∷ ps) (suc n) order part plain o p = part_of os ps n order part plain.2 o p

-- the certificates of the first so many lattices obey the rules, and the program is accepted in these
pub record FirstObey (sys : System) (orders : List Order) (parts : List Part) (count : ℕ) : Type 0 where
  pub obey : (n : ℕ) → n < count → ObeysAt sys orders parts n
  pub accepted : (n : ℕ) (order : Order) → n < count → slice_get orders n ≡ Some order → IsAcceptedIn sys n order

module _ (sys : System) (orders : List Order) (parts : List Part) where
  pub none_first : FirstObey sys orders parts 0
  none_first = record {
    obey = λ n below. absurd (omega (arith, below));
    accepted = λ n order below there. absurd (omega (arith, below));
  }

  -- and so of one more
  pub next_first : (count : ℕ) (order : Order) (part : Part) → slice_get orders count ≡ Some order
      → slice_get parts count ≡ Some part → Obeys sys count order (certificate_of part) →
      IsAcceptedIn sys count order → FirstObey sys orders parts count → FirstObey sys orders parts (count + 1)
  next_first count order part o_there p_there own accepted first = record {
    obey = λ n below o p o_is p_is.
        elim (cases_order n count) [
          | inl at ↦
              let same_o : order ≡ o = some_order (sym o_there ∙ ap (slice_get orders) (sym at) ∙ o_is) in
              let same_p : part ≡ p = some_part (sym p_there ∙ ap (slice_get parts) (sym at) ∙ p_is) in
              let At : ℕ → Type 0 = λ k. Obeys sys k order (certificate_of part) in
              let Of : Order → Type 0 = λ x. Obeys sys n x (certificate_of part) in
              let By : Part → Type 0 = λ x. Obeys sys n o (certificate_of x) in
              subst By same_p (subst Of same_o (subst At (sym at) own))
          | inr other ↦ elim other
              [ inl before ↦ first.obey n before o p o_is p_is | inr past ↦ absurd (omega (arith, past, below)) ]
        ];
    accepted = λ n o below o_is.
        elim (cases_order n count) [
          | inl at ↦
              let same : order ≡ o = some_order (sym o_there ∙ ap (slice_get orders) (sym at) ∙ o_is) in
              let At : ℕ → Type 0 = λ k. IsAcceptedIn sys k order in
              let Of : Order → Type 0 = λ x. IsAcceptedIn sys n x in
              subst Of same (subst At (sym at) accepted)
          | inr other ↦ elim other
              [ inl before ↦ first.accepted n o before o_is | inr past ↦ absurd (omega (arith, past, below)) ]
        ];
  }

  module _ (count : ℕ) (all : length orders ≡ count) (first : FirstObey sys orders parts count) where
    pub all_obey : (n : ℕ) → ObeysAt sys orders parts n
    all_obey n order part o p =
        let within = slice_get_within orders n order o in
        first.obey n (omega (arith, within, all)) order part o p

    pub all_accepted : IsAccepted sys orders
    all_accepted n order there =
        let within = slice_get_within orders n order there in
        first.accepted n order (omega (arith, within, all)) there
