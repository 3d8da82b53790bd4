-- Lists whose elements come one before the other: two with the same elements are the same.
use Rattle.std.proofs.Common.{◌≡◌, ℕ, zero, suc, ◌<◌, List, [], ◌∷◌, ◌++◌, length, get_or, refl, sym, ◌∙◌, ap, subst, arith, ◌⊎◌, inl, inr}
use Rattle.std.specs.List.{Contains}

abbrev pub Among : {A : Type 0} → A → List A → Type 0
Among x [] = ⊥
Among x (y ∷ ys) = (x ≡ y) ⊎ Among x ys

-- what is in a list is in it with another behind
pub among_left : {A : Type 0} → (xs ys : List A) (x : A) → Among x xs → Among x (xs ++ ys)
among_left [] ys x there = absurd there
among_left (z ∷ xs) ys x (inl is) = inl is
among_left (z ∷ xs) ys x (inr later) = inr (among_left xs ys x later)

pub among_right : {A : Type 0} → (xs ys : List A) (x : A) → Among x ys → Among x (xs ++ ys)
among_right [] ys x there = there
among_right (z ∷ xs) ys x there = inr (among_right xs ys x there)

-- what is in two joined lists is in the one or in the other
pub among_either : {A : Type 0} → (xs ys : List A) (x : A) → Among x (xs ++ ys) → Among x xs ⊎ Among x ys
among_either [] ys x there = inr there
among_either (z ∷ xs) ys x (inl is) = inl (inl is)
among_either (z ∷ xs) ys x (inr later) = elim (among_either xs ys x later) [ inl a ↦ inl (inr a) | inr b ↦ inr b ]

-- what stands at a place of a list is in it
among_at : {A : Type 0} → (xs : List A) (x : A) (k : ℕ) → k < length xs → get_or xs k x ≡ x → Among x xs
among_at [] x k within is = absurd (omega (arith, within))
among_at (y ∷ xs) x zero within is = inl (sym is)
among_at (y ∷ xs) x (suc k) within is = inr (among_at xs x k (omega (arith, within)) is)

pub among_contained : {A : Type 0} → (xs : List A) (x : A) → Contains xs x → Among x xs
among_contained xs x there = among_at xs x there.0 there.1 there.2

-- what is in a list by recursion is contained at some place
pub contained_among : {A : Type 0} → (xs : List A) (x : A) → Among x xs → Contains xs x
contained_among [] x there = absurd there
contained_among (y ∷ xs) x (inl is) = (0, omega arith, sym is)
contained_among (y ∷ xs) x (inr later) =
    let rest = contained_among xs x later in
    (suc rest.0, omega (arith, rest.1), rest.2)

module _ {A : Type 0} (Before : A → A → Type 0) where
  abbrev pub Rises : List A → Type 0
  Rises [] = Unit {0}
  Rises (x ∷ xs) = ((y : A) → Among y xs → Before x y) × Rises xs

  pub rises_append : (xs ys : List A) → Rises xs → Rises ys → ((x y : A) → Among x xs → Among y ys → Before x y)
      → Rises (xs ++ ys)
  rises_append [] ys one other between = other
  rises_append (x ∷ xs) ys one other between = (
    λ y there. elim (among_either xs ys y there) [ inl a ↦ one.0 y a | inr b ↦ between x y (inl refl) b ],
    rises_append xs ys one.1 other (λ u v a b. between u v (inr a) b),
  )

  pub same_rising : (never : (x y : A) → Before x y → Before y x → ⊥) → (xs ys : List A) → Rises xs → Rises ys
      → ((x : A) → Among x xs → Among x ys) →
      ((x : A) → Among x ys → Among x xs) → xs ≡ ys
  same_rising never [] [] one other to from = refl
  same_rising never [] (y ∷ ys) one other to from = absurd (from y (inl refl))
  same_rising never (x ∷ xs) [] one other to from = absurd (to x (inl refl))
  same_rising never (x ∷ xs) (y ∷ ys) one other to from =
      let first : x ≡ y = elim (to x (inl refl)) [
        | inl is ↦ is
        | inr later ↦ elim (from y (inl refl)) [
          | inl is ↦ sym is
          | inr back ↦ absurd (never x y (one.0 y back) (other.0 x later))
        ]
      ] in
      let self : (z : A) → Before z z → ⊥ = λ z b. never z z b b in
      let rest : xs ≡ ys = same_rising never xs ys one.1 other.1
      (λ z there. elim (to z (inr there)) [
        | inl is ↦ absurd (self z (subst (λ w. Before w z) (first ∙ sym is) (one.0 z there)))
        | inr later ↦ later
      ])
      (λ z there. elim (from z (inr there)) [
        | inl is ↦ absurd (self z (subst (λ w. Before w z) (sym first ∙ sym is) (other.0 z there)))
        | inr later ↦ later
      ]) in
      ap (λ w. w ∷ xs) first ∙ ap (λ ws. y ∷ ws) rest
