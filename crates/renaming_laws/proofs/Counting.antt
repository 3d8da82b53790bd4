-- A numbering of the places of one list that leads to places of another: the other is no shorter.
use Rattle.std.proofs.Common.{◌≡◌, ◌⊎◌, ℕ, zero, suc, ◌≤◌, ◌<◌, Bool, true, false, nat_eq, if◌then◌else◌, List, length, slice_get, Option, None, Some, refl, subst, sym, ap, ◌∙◌, inl, inr, arith}
use Rattle.std.proofs.lemmas.Bool.{eqb-true, eq-eqb}
use Rattle.std.proofs.lemmas.Option.{slice_get_within}
use Rattle.qual_base.proofs.Lists.{stands_at}
use Rattle.renaming_laws.specs.Renamings.{Numbering, turned, Agree, IsSameConstraint, IsSameSite}
use Rattle.renaming_laws.specs.Laws.{RenamedHasAsMany}
use Rattle.renaming_laws.proofs.Turning.{renamed_turns}

-- numbers below one lead to numbers below another, no two to one
record IsInto (f : ℕ → ℕ) (a b : ℕ) : Type 0 where
  inside : (n : ℕ) → n < a → f n < b
  apart : (i j : ℕ) → i < a → j < a → f i ≡ f j → i ≡ j

abbrev put_off : (ℕ → ℕ) → ℕ → ℕ → ℕ → ℕ
put_off f a b n = if nat_eq (f n) b then f a else f n

false_not : false ≡ true → ⊥
false_not h = subst (λ b. elim b as (λ x. Type 0) [ true ↦ ⊥ | false ↦ Unit {0} ]) h tt

ways : (x y z : ℕ) (c : Bool) → nat_eq x y ≡ c
    → ((x ≡ y) × ((if nat_eq x y then z else x) ≡ z)) ⊎ ((x ≡ y → ⊥) × ((if nat_eq x y then z else x) ≡ x))
ways x y z true is = inl (eqb-true x y is, ap (λ c. if c then z else x) is)
ways x y z false is = inr ((λ same. false_not (sym is ∙ eq-eqb x y same)), ap (λ c. if c then z else x) is)

two_ways : (f : ℕ → ℕ) (a b n : ℕ) → ((f n ≡ b) × (put_off f a b n ≡ f a)) ⊎ ((f n ≡ b → ⊥) × (put_off f a b n ≡ f n))
two_ways f a b n = ways (f n) b (f a) (nat_eq (f n) b) refl

below_last : (x b : ℕ) → x < suc b → (x ≡ b → ⊥) → x < b
below_last x b h not = grind arith

module _ (f : ℕ → ℕ) (a b : ℕ) (h : IsInto f (suc a) (suc b)) where
  later : (n : ℕ) → n < a → f n ≡ f a → ⊥
  later n low same = let is : n ≡ a = h.apart n a (omega arith) (omega arith) same in omega arith

  inside_by : (n : ℕ) → n < a → ((f n ≡ b) × (put_off f a b n ≡ f a)) ⊎ ((f n ≡ b → ⊥) × (put_off f a b n ≡ f n))
      → put_off f a b n < b
  inside_by n low (inl (last, is)) =
      subst (λ x. x < b) (sym is)
      (below_last (f a) b (h.inside a (omega arith)) (λ same. later n low (last ∙ sym same)))
  inside_by n low (inr (other, is)) = subst (λ x. x < b) (sym is) (below_last (f n) b (h.inside n (omega arith)) other)

  apart_by : (i j : ℕ) → i < a → j < a → put_off f a b i ≡ put_off f a b j
      → ((f i ≡ b) × (put_off f a b i ≡ f a)) ⊎ ((f i ≡ b → ⊥) × (put_off f a b i ≡ f i)) →
      ((f j ≡ b) × (put_off f a b j ≡ f a)) ⊎ ((f j ≡ b → ⊥) × (put_off f a b j ≡ f j)) → i ≡ j
  apart_by i j low high same (inl (p, q)) (inl (r, s)) = h.apart i j (omega arith) (omega arith) (p ∙ sym r)
  apart_by i j low high same (inl (p, q)) (inr (r, s)) = absurd (later j high (sym s ∙ (sym same ∙ q)))
  apart_by i j low high same (inr (p, q)) (inl (r, s)) = absurd (later i low (sym q ∙ (same ∙ s)))
  apart_by i j low high same (inr (p, q)) (inr (r, s)) = h.apart i j (omega arith) (omega arith) (sym q ∙ (same ∙ s))

  put_off_into : IsInto (put_off f a b) a b
  put_off_into = record {
    inside = λ n low. inside_by n low (two_ways f a b n);
    apart = λ i j low high same. apart_by i j low high same (two_ways f a b i) (two_ways f a b j);
  }

-- where numbers below one map apart to numbers below another, the other is no lower
no_lower : (f : ℕ → ℕ) (a b : ℕ) → IsInto f a b → a ≤ b
no_lower f zero b h = omega arith
no_lower f (suc a) zero h = let low : f a < 0 = h.inside a (omega arith) in absurd (omega arith)
no_lower f (suc a) (suc b) h = let less : a ≤ b = no_lower (put_off f a b) a b (put_off_into f a b h) in omega arith

found : {A : Type 0} (same : A → A → Type 0) (x : A) (ys : List A) (m : ℕ) (o : Option A) → slice_get ys m ≡ o
    → Agree same (Some x) o → m < length ys
found same x ys m None is h = absurd h
found same x ys m (Some y) is h = slice_get_within ys m y is

-- a list whose items all agree with items of another under a numbering is no longer than that
pub no_shorter : {A : Type 0} (same : A → A → Type 0) (xs ys : List A) (it : Numbering) →
    ((n : ℕ) → Agree same (slice_get xs n) (slice_get ys (it.to n))) → length xs ≤ length ys
no_shorter same xs ys it h = no_lower it.to (length xs) (length ys) (record {
  inside = λ n low. let is = stands_at xs n low in
      found same is.0 ys (it.to n) (slice_get ys (it.to n)) refl
      (subst (λ o. Agree same o (slice_get ys (it.to n))) is.1 (h n));
  apart = λ i j low high same. sym (it.from_to i) ∙ (ap (λ n. it.from n) same ∙ it.from_to j);
})

both_ways : (x y : ℕ) → x ≤ y → y ≤ x → y ≡ x
both_ways x y h k = omega arith

-- systems that differ by their numbers have as many constraints and as many sites
pub renamed_has_as_many : RenamedHasAsMany
renamed_has_as_many ren sys other is =
    let turn = renamed_turns ren sys other is in (
      both_ways (length sys.constraints) (length other.constraints)
          (no_shorter (IsSameConstraint ren) sys.constraints other.constraints ren.constraints is.constraints)
          (no_shorter (IsSameConstraint (turned ren)) other.constraints sys.constraints
          (turned ren).constraints turn.constraints),
      both_ways (length sys.sites) (length other.sites)
          (no_shorter (IsSameSite ren) sys.sites other.sites ren.sites is.sites)
          (no_shorter (IsSameSite (turned ren)) other.sites sys.sites (turned ren).sites turn.sites),
    )
