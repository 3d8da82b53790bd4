-- The certificates of the first lattices, one after the other.
use Rattle.std.proofs.Common.{◌≡◌, ℕ, zero, suc, ◌+◌, ◌<◌, ◌⊎◌, inl, inr, List, [], ◌∷◌, ◌++◌, length, Some, slice_get, refl, sym, ◌∙◌, ap, subst, arith, length-append, IfSome}
use Rattle.std.specs.declared.option.Option.{Option}
use Rattle.std.proofs.lemmas.Bool.{cases_order}
use Rattle.std.proofs.lemmas.Option.{slice_get_within}
use Rattle.lattice_core.specs.Order.{Order}
use Rattle.flow_graph.specs.System.{System}
use Rattle.flow_graph.specs.Unfolding.{IsAccepted, IsAcceptedIn, IsExceeded}
use Rattle.certificate_laws.specs.Certificates.{IsWritten}
use Rattle.closure_check.specs.declared.part.Part.{Part}
use Rattle.closure_check.specs.Parts.{certificate_of, IsPart}
use Rattle.certificate_maker.specs.Certified.{AreWritten}

some_part : {x y : Part} → Some x ≡ Some y → x ≡ y
some_part e = cc

some_order : {x y : Order} → Some x ≡ Some y → x ≡ y
some_order e = cc

-- what is said of what may be found, of what is found
pub of_found : (Is : Part → Type 0) (found : Option Part) (part : Part) → found ≡ Some part → IfSome found Is → Is part
of_found Is found part is said = subst (λ (f : Option Part). IfSome f Is) is said

-- where a bound is exceeded, no assignment meets the unfolding at some depth
pub exceeded_unmet : (sys : System) (lattice : ℕ) (order : Order) (n : ℕ) → IsExceeded sys lattice order n
    → IsAcceptedIn sys lattice order → ⊥
exceeded_unmet sys lattice order n over accepted =
    let met = accepted over.depth in
    over.unmet met.0 met.1.rises (met.1.bound n)

-- an item of a list with one more part is one of the list, or the new part at its end
before_or_at : (xs : List Part) (x : Part) (n : ℕ) (y : Part) → slice_get (xs ++ x ∷ []) n ≡ Some y
    → (slice_get xs n ≡ Some y) ⊎ ((n ≡ length xs) × (x ≡ y))
before_or_at [] x zero y is = inr (refl, some_part is)
before_or_at [] x (suc n) y is = absurd cc
before_or_at (z ∷ xs) x zero y is = inl is
before_or_at (z ∷ xs) x (suc n) y is =
    elim (before_or_at xs x n y is) [ inl before ↦ inl before | inr last ↦ inr (ap suc last.0, last.1) ]

-- the first so many lattices have their certificates, and the program is accepted in them
pub record AreFirst (sys : System) (orders : List Order) (count : ℕ) (parts : List Part) : Type 0 where
  pub count_is : length parts ≡ count
  pub each : (n : ℕ) (order : Order) (part : Part) → slice_get orders n ≡ Some order → slice_get parts n ≡ Some part →
      IsPart sys order part × IsWritten sys n (certificate_of part)
  pub accepted : (n : ℕ) (order : Order) → n < count → slice_get orders n ≡ Some order → IsAcceptedIn sys n order

-- of no variables, the first sets are none
pub none_first : (sys : System) (orders : List Order) → AreFirst sys orders 0 []
none_first sys orders = record {
  count_is = refl;
  each = λ n order part o p. absurd cc;
  accepted = λ n order below o. absurd (omega (arith, below));
}

module _ (sys : System) (orders : List Order) (count : ℕ) (order : Order)
    (there : slice_get orders count ≡ Some order) where
  -- and so have the first so many and one more
  pub next_first : (old new : List Part) (part : Part) → new ≡ old ++ part ∷ []
      → IsPart sys order part × IsWritten sys count (certificate_of part) → IsAcceptedIn sys count order →
      AreFirst sys orders count old → AreFirst sys orders (count + 1) new
  next_first old new part more own accepted first = record {
    count_is = (let l = length-append old (part ∷ []) in
        let m : length new ≡ length (old ++ part ∷ []) = ap length more in let c = first.count_is in omega arith);
    each = λ n o p o_there p_there.
        elim (before_or_at old part n p (sym (ap (λ (ps : List Part). slice_get ps n) more) ∙ p_there)) [
          | inl before ↦ first.each n o p o_there before
          | inr last ↦
              let at : n ≡ count = last.0 ∙ first.count_is in
              let same : order ≡ o = some_order (sym there ∙ ap (slice_get orders) (sym at) ∙ o_there) in
              let Of : Order → Type 0 = λ x. IsPart sys x p × IsWritten sys n (certificate_of p) in
              let By : Part → Type 0 = λ x. IsPart sys order x × IsWritten sys n (certificate_of x) in
              let At : ℕ → Type 0 = λ k. IsPart sys order part × IsWritten sys k (certificate_of part) in
              subst Of same (subst By last.1 (subst At (sym at) own))
        ];
    accepted = λ n o below o_there.
        elim (cases_order n count) [
          | inl at ↦
              let same : order ≡ o = some_order (sym there ∙ ap (slice_get orders) (sym at) ∙ o_there) in
              let At : ℕ → Type 0 = λ k. IsAcceptedIn sys k order in
              let Of : Order → Type 0 = λ x. IsAcceptedIn sys n x in
              subst Of same (subst At (sym at) accepted)
          | inr other ↦ elim other
              [ inl before ↦ first.accepted n o before o_there | inr past ↦ absurd (omega (arith, past, below)) ]
        ];
  }

module _ (sys : System) (orders : List Order) (count : ℕ) (parts : List Part) (all : length orders ≡ count)
    (first : AreFirst sys orders count parts) where
  pub written_of_all : AreWritten sys orders parts
  written_of_all = record { as_many = first.count_is ∙ sym all; each = first.each }

  pub accepted_of_all : IsAccepted sys orders
  accepted_of_all n order there =
      let within = slice_get_within orders n order there in
      first.accepted n order (omega (arith, within, all)) there
