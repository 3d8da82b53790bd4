-- Constraints that are constants or bounds of a lattice.
use Rattle.std.proofs.Common.{◌≡◌, ℕ, zero, suc, ◌+◌, ◌<◌, ◌≤◌, ◌⊎◌, inl, inr, List, [], ◌∷◌, ◌++◌, length, length-append, slice_get, Some, refl, sym, ◌∙◌, ap, subst, arith}
use Rattle.std.proofs.lemmas.Bool.{cases_lt}
use Rattle.std.proofs.lemmas.List.Elements.{Contains-append_cases, Contains-append_left, Contains-append_right}
use Rattle.std.specs.List.{Contains}
use Rattle.std.specs.List.Sorted.{IsPermutation}
use Rattle.std.proofs.lemmas.List.Sorted.{Contains-permutation, IsPermutation-sym}
use Rattle.std.proofs.lemmas.Option.{slice_get_within}
use Rattle.flow_graph.specs.declared.constraint.Constraint.{Constraint}
use Rattle.flow_graph.specs.declared.constraint.Link.TheVariants.{Const, Bound}
use Rattle.flow_graph.specs.System.{System, IsNoBound, Stands}
use Rattle.flow_query.specs.declared.ends.Constant.{Constant}
use Rattle.flow_query.specs.declared.ends.Ends.{Ends}
use Rattle.flow_query.specs.Ends.{AllEnds, AreEnds, AreStartsBelow, IsBound, IsConstant, IsStart}
use Rattle.flow_query.specs.Searches.{IsNoConstant}
use Rattle.flow_query.proofs.Listing.{link_there}

module _ (sys : System) (lattice number : ℕ) (constraint : Constraint)
    (there : slice_get sys.constraints number ≡ Some constraint) where
  pub is_none_constant : IsNoConstant constraint.link lattice → IsConstant sys lattice number → ⊥
  is_none_constant none own =
      none own.1 own.0 (link_there sys lattice number constraint there (Const lattice own.1 own.0) own.2)

  pub is_no_bound : IsNoBound constraint.link lattice → IsBound sys lattice number → ⊥
  is_no_bound none own =
      none own.0 own.1 (link_there sys lattice number constraint there (Bound own.0 lattice own.1) own.2)

-- a constant of the lattice stands as its link
pub const_stands : (sys : System) (lattice number : ℕ) (constraint : Constraint)
    → slice_get sys.constraints number ≡ Some constraint → (elem at : ℕ) →
    constraint.link ≡ Const lattice elem at → Stands sys lattice number (Const lattice elem at)
const_stands sys lattice number constraint there elem at is =
    record { constraint = constraint; there = there; link_is = is; carried = refl }

pub constant_low : (sys : System) (lattice number : ℕ) → IsConstant sys lattice number → number < length sys.constraints
constant_low sys lattice number own = slice_get_within sys.constraints number own.2.constraint own.2.there

pub bound_low : (sys : System) (lattice number : ℕ) → IsBound sys lattice number → number < length sys.constraints
bound_low sys lattice number own = slice_get_within sys.constraints number own.2.constraint own.2.there

-- ---- those of each lattice

at_is : {v w l m a b : ℕ} → Const l a v ≡ Const m b w → v ≡ w
at_is e = cc

ends_is : {x y : Ends} → Some x ≡ Some y → x ≡ y
ends_is e = cc

-- an entry of ends in a list with one more at its end was in the list, or is that one at its length
before_or_at : (xs : List Ends) (x : Ends) (n : ℕ) (y : Ends) → slice_get (xs ++ x ∷ []) n ≡ Some y
    → (slice_get xs n ≡ Some y) ⊎ ((n ≡ length xs) × (x ≡ y))
before_or_at [] x zero y is = inr (refl, ends_is is)
before_or_at [] x (suc n) y is = absurd cc
before_or_at (z ∷ xs) x zero y is = inl is
before_or_at (z ∷ xs) x (suc n) y is = elim (before_or_at xs x n y is) [
  | inl before ↦ inl before
  | inr last ↦ inr (ap (λ (k : ℕ). suc k) last.0, last.1)
]

-- before the first lattice there are no ends
pub no_ends : (sys : System) (ends : List Ends) → ends ≡ [] → AllEnds sys 0 ends
no_ends sys ends none = record {
  count = ap (λ (xs : List Ends). length xs) none;
  each = λ n own is.
      let there : slice_get [] n ≡ Some own = subst (λ (xs : List Ends). slice_get xs n ≡ Some own) none is in
      absurd cc;
}

-- one lattice more
pub next_ends : (sys : System) (count : ℕ) (old new : List Ends) (x : Ends) → new ≡ old ++ x ∷ [] → AreEnds sys count x
    → AllEnds sys count old → AllEnds sys (count + 1) new
next_ends sys count old new x more own first = record {
  count =
      let longer = length-append old (x ∷ []) in
      let same : length new ≡ length (old ++ x ∷ []) = ap (λ (xs : List Ends). length xs) more in
      let were = first.count in omega (arith, longer, same, were);
  each = λ n ends is.
      let there : slice_get (old ++ x ∷ []) n ≡ Some ends =
      subst (λ (xs : List Ends). slice_get xs n ≡ Some ends) more is in
      elim (before_or_at old x n ends there) [
        | inl before ↦ first.each n ends before
        | inr last ↦
            let At : ℕ → Type 0 = λ k. AreEnds sys k x in
            let Of : Ends → Type 0 = λ e. AreEnds sys n e in
            subst Of last.1 (subst At (sym (last.0 ∙ first.count)) own)
      ];
}

-- ---- constants by their variables

only_start : (x y : Constant) → Contains (x ∷ []) y → x ≡ y
only_start x y (zero, within, is) = is
only_start x y (suc i, within, is) = absurd (omega (arith, within))

no_start : (x : Constant) → Contains [] x → ⊥
no_start x (i, within, is) = omega (arith, within)

-- below number 0 no constraint is a constant, and no start is listed
pub starts_none : (sys : System) (lattice : ℕ) → AreStartsBelow sys lattice 0 []
starts_none sys lattice = record {
  only = λ start there. absurd (no_start start there);
  all = λ n elem at low. absurd (omega (arith, low));
}

module _ (sys : System) (lattice number : ℕ) (starts : List Constant) where
  pub starts_same : AreStartsBelow sys lattice number starts → (IsConstant sys lattice number → ⊥)
      → AreStartsBelow sys lattice (number + 1) starts
  starts_same were none = record {
    only = were.only;
    all = λ n elem at low stands. elim (cases_lt n number) [
      | inl before ↦ were.all n elem at before stands
      | inr late ↦
          let same : n ≡ number = omega (arith, low, late) in
          let At : ℕ → Type 0 = λ m. Stands sys lattice m (Const lattice elem at) in
          absurd (none (at, elem, subst At same stands))
    ];
  }

  pub starts_push : (start : Constant) → start.elem < 64 → AreStartsBelow sys lattice number starts
      → Stands sys lattice number (Const lattice start.elem start.at) →
      AreStartsBelow sys lattice (number + 1) (starts ++ start ∷ [])
  starts_push start low were own = record {
    only = λ other there. elim (Contains-append_cases starts (start ∷ []) other there) [
      | inl before ↦ were.only other before
      | inr last ↦ subst (λ (c : Constant). IsStart sys lattice c) (only_start start other last)
          (record { low = low; number = number; stands = own })
    ];
    all = λ n elem at under stands. elim (cases_lt n number) [
      | inl before ↦
          let there = were.all n elem at before stands in
          (there.0, Contains-append_left starts (start ∷ []) there.0 there.1, there.2)
      | inr late ↦
          let same : n ≡ number = omega (arith, under, late) in
          let At : ℕ → Type 0 = λ m. Stands sys lattice m (Const lattice elem at) in
          let here = subst At same stands in
          let link = link_there sys lattice number own.constraint own.there (Const lattice elem at) here in (
            start,
            Contains-append_right starts (start ∷ []) start (zero, omega arith, refl),
            at_is (sym own.link_is ∙ link),
          )
    ];
  }

-- in another order, and up to all
pub starts_all : (sys : System) (lattice n : ℕ) (starts ordered : List Constant) → length sys.constraints ≤ n
    → IsPermutation starts ordered →
    AreStartsBelow sys lattice n starts → AreStartsBelow sys lattice (length sys.constraints) ordered
starts_all sys lattice n starts ordered most permuted were = record {
  only = λ start there.
      were.only start (Contains-permutation ordered starts start (IsPermutation-sym starts ordered permuted) there);
  all = λ m elem at low stands.
      let there = were.all m elem at (omega (arith, low, most)) stands in
      (there.0, Contains-permutation starts ordered there.0 permuted there.1, there.2);
}
