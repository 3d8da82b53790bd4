-- Elements of lists that are made of others.
use Rattle.std.proofs.Common.{◌≡◌, ℕ, zero, suc, Bool, true, false, ◌||◌, cond, List, [], ◌∷◌, ◌++◌, map, slice_get, Some, refl, sym, ◌∙◌, ap, subst, arith, ◌⊎◌, inl, inr}
use Rattle.std.specs.List.{filter, flat_map, list_all, list_any, Contains}
use Rattle.std.proofs.lemmas.Bool.{and_from, and_parts, or_cases, or_left, or_right}
use Rattle.std.proofs.lemmas.List.Elements.{Contains-append_left, Contains-append_right, Contains-append_cases}

module _ {X : Type 0} where
  pub here : (xs : List X) (x : X) → Contains (x ∷ xs) x
  here xs x = (zero, omega arith, refl)

  pub there : (xs : List X) (y x : X) → Contains xs x → Contains (y ∷ xs) x
  there xs y x (k, low, is) = (suc k, omega (arith, low), is)

  pub first_or : (xs : List X) (y x : X) → Contains (y ∷ xs) x → (y ≡ x) ⊎ Contains xs x
  first_or xs y x (zero, low, is) = inl is
  first_or xs y x (suc k, low, is) = inr (k, omega (arith, low), is)

  pub none : (x : X) → Contains [] x → ⊥
  none x (k, low, is) = omega (arith, low)

  -- an element and its place
  pub of_place : (xs : List X) (k : ℕ) (x : X) → slice_get xs k ≡ Some x → Contains xs x
  of_place [] k x is = absurd cc
  of_place (y ∷ xs) zero x is = let same : y ≡ x = cc in subst (λ z. Contains (y ∷ xs) z) same (here xs y)
  of_place (y ∷ xs) (suc k) x is = there xs y x (of_place xs k x is)

  -- tests
  pub of_all : (p : X → Bool) (xs : List X) → ((x : X) → Contains xs x → p x ≡ true) → list_all p xs ≡ true
  of_all p [] h = refl
  of_all p (y ∷ xs) h = and_from (p y) (list_all p xs) (h y (here xs y))
      (of_all p xs (λ x in_xs. h x (there xs y x in_xs)))

  pub all_of : (p : X → Bool) (xs : List X) → list_all p xs ≡ true → (x : X) → Contains xs x → p x ≡ true
  all_of p [] h x in_xs = absurd (none x in_xs)
  all_of p (y ∷ xs) h x in_xs =
      let both = and_parts (p y) (list_all p xs) h in
      elim (first_or xs y x in_xs) [
        | inl same ↦ subst (λ z. p z ≡ true) same both.0
        | inr more ↦ all_of p xs both.1 x more
      ]

  pub of_any : (p : X → Bool) (xs : List X) (x : X) → Contains xs x → p x ≡ true → list_any p xs ≡ true
  of_any p [] x in_xs is = absurd (none x in_xs)
  of_any p (y ∷ xs) x in_xs is = elim (first_or xs y x in_xs) [
    | inl same ↦ or_left (p y) (list_any p xs) (ap p same ∙ is)
    | inr more ↦ or_right (p y) (list_any p xs) (of_any p xs x more is)
  ]

  pub any_of : (p : X → Bool) (xs : List X) → list_any p xs ≡ true → (x : X) × Contains xs x × (p x ≡ true)
  any_of p [] h = absurd cc
  any_of p (y ∷ xs) h = elim (or_cases (p y) (list_any p xs) h) [
    | inl is ↦ (y, here xs y, is)
    | inr more ↦ let on = any_of p xs more in (on.0, there xs y on.0 on.1, on.2)
  ]

  -- what a filter keeps
  pub of_filter : (p : X → Bool) (xs : List X) (x : X) → Contains (filter p xs) x → Contains xs x × (p x ≡ true)
  of_filter p [] x h = absurd (none x h)
  of_filter p (y ∷ xs) x h = by_test (λ more. of_filter p xs x more) (p y) refl h
    where
      by_test : (Contains (filter p xs) x → Contains xs x × (p x ≡ true)) → (b : Bool) → p y ≡ b →
          Contains (cond b (y ∷ filter p xs) (filter p xs)) x → Contains (y ∷ xs) x × (p x ≡ true)
      by_test later false is h = let on = later h in (there xs y x on.0, on.1)
      by_test later true is h = elim (first_or (filter p xs) y x h) [
        | inl same ↦ (subst (λ z. Contains (y ∷ xs) z) same (here xs y), ap p (sym same) ∙ is)
        | inr more ↦ let on = later more in (there xs y x on.0, on.1)
      ]

  pub in_filter : (p : X → Bool) (xs : List X) (x : X) → Contains xs x → p x ≡ true → Contains (filter p xs) x
  in_filter p [] x in_xs is = absurd (none x in_xs)
  in_filter p (y ∷ xs) x in_xs is = by_test (λ more. in_filter p xs x more is) (p y) refl
    where
      by_test : (Contains xs x → Contains (filter p xs) x) → (b : Bool) → p y ≡ b →
          Contains (cond b (y ∷ filter p xs) (filter p xs)) x
      by_test later true passes = elim (first_or xs y x in_xs) [
        | inl same ↦ subst (λ z. Contains (y ∷ filter p xs) z) same (here (filter p xs) y)
        | inr more ↦ there (filter p xs) y x (later more)
      ]
      by_test later false fails = elim (first_or xs y x in_xs) [
        | inl same ↦ let wrong : false ≡ true = sym fails ∙ ap p same ∙ is in absurd cc
        | inr more ↦ later more
      ]

  -- tests that agree on all elements
  pub same_any : (p q : X → Bool) (xs : List X) → ((x : X) → Contains xs x → p x ≡ q x) → list_any p xs ≡ list_any q xs
  same_any p q [] h = refl
  same_any p q (y ∷ xs) h =
      ap (λ b. b || list_any p xs) (h y (here xs y))
      ∙ ap (λ b. q y || b) (same_any p q xs (λ x in_xs. h x (there xs y x in_xs)))

  pub same_filter : (p q : X → Bool) (xs : List X) → ((x : X) → Contains xs x → p x ≡ q x) → filter p xs ≡ filter q xs
  same_filter p q [] h = refl
  same_filter p q (y ∷ xs) h =
      ap (λ b. cond b (y ∷ filter p xs) (filter p xs)) (h y (here xs y))
      ∙ ap (λ ys. cond (q y) (y ∷ ys) ys) (same_filter p q xs (λ x in_xs. h x (there xs y x in_xs)))

module _ {X Y : Type 0} where
  pub of_map : (f : X → Y) (xs : List X) (y : Y) → Contains (map f xs) y → (x : X) × Contains xs x × (f x ≡ y)
  of_map f [] y h = absurd (none y h)
  of_map f (x ∷ xs) y h = elim (first_or (map f xs) (f x) y h) [
    | inl same ↦ (x, here xs x, same)
    | inr more ↦ let on = of_map f xs y more in (on.0, there xs x on.0 on.1, on.2)
  ]

  pub in_map : (f : X → Y) (xs : List X) (x : X) → Contains xs x → Contains (map f xs) (f x)
  in_map f [] x in_xs = absurd (none x in_xs)
  in_map f (y ∷ xs) x in_xs = elim (first_or xs y x in_xs) [
    | inl same ↦ subst (λ z. Contains (f y ∷ map f xs) (f z)) same (here (map f xs) (f y))
    | inr more ↦ there (map f xs) (f y) (f x) (in_map f xs x more)
  ]

  pub of_flat : (f : X → List Y) (xs : List X) (y : Y) → Contains (flat_map f xs) y → (x : X) × Contains xs x ×
      Contains (f x) y
  of_flat f [] y h = absurd (none y h)
  of_flat f (x ∷ xs) y h = elim (Contains-append_cases (f x) (flat_map f xs) y h) [
    | inl is ↦ (x, here xs x, is)
    | inr more ↦ let on = of_flat f xs y more in (on.0, there xs x on.0 on.1, on.2)
  ]

  pub in_flat : (f : X → List Y) (xs : List X) (x : X) (y : Y) → Contains xs x → Contains (f x) y →
      Contains (flat_map f xs) y
  in_flat f [] x y in_xs is = absurd (none x in_xs)
  in_flat f (z ∷ xs) x y in_xs is = elim (first_or xs z x in_xs) [
    | inl same ↦ Contains-append_left (f z) (flat_map f xs) y (subst (λ w. Contains (f w) y) (sym same) is)
    | inr more ↦ Contains-append_right (f z) (flat_map f xs) y (in_flat f xs x y more is)
  ]

  pub same_flat : (f g : X → List Y) (xs : List X) → ((x : X) → Contains xs x → f x ≡ g x) →
      flat_map f xs ≡ flat_map g xs
  same_flat f g [] h = refl
  same_flat f g (x ∷ xs) h =
      ap (λ ys. ys ++ flat_map f xs) (h x (here xs x))
      ∙ ap (λ ys. g x ++ ys) (same_flat f g xs (λ z in_xs. h z (there xs x z in_xs)))
