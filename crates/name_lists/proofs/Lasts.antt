-- The last item of a list, as it is read and written.
use Rattle.std.proofs.Common.{arith, ◌≡◌, ℕ, ◌-◌, ◌<◌, refl, sym, ◌∙◌, ap}
use Rattle.std.proofs.Common.{List, [], ◌∷◌, ◌++◌, length, reverse, slice_set, slice_index_or}
use Rattle.std.proofs.lemmas.List.{reverse-append, length-append}

module _ {X : Type 0} where
  -- a list that has items has a last one
  ends : (xs : List X) → 0 < length xs → (front : List X) × (last : X) × (xs ≡ front ++ last ∷ [])
  ends [] some = absurd (omega arith)
  ends (x ∷ []) some = ([], x, refl)
  ends (x ∷ y ∷ xs) some =
      let e = ends (y ∷ xs) (omega arith) in
      (x ∷ e.0, e.1, ap (λ ys. x ∷ ys) e.2)

  write_last : (front : List X) (last w : X) (n : ℕ) → n ≡ length front
      → slice_set (front ++ last ∷ []) n w ≡ front ++ w ∷ []
  write_last [] last w n is = rw is refl
  write_last (x ∷ front) last w n is =
      rw is (ap (λ ys. x ∷ ys) (write_last front last w (length front) refl))

  read_last : (front : List X) (last d : X) (n : ℕ) → n ≡ length front
      → slice_index_or (front ++ last ∷ []) n d ≡ last
  read_last [] last d n is = rw is refl
  read_last (x ∷ front) last d n is = rw is (read_last front last d (length front) refl)

  -- a list whose last item was read, and the same list where that item was written
  pub last_in : (xs : List X) (len : ℕ) (s w : X) → len ≡ length xs → 0 < len → s ≡ slice_index_or xs (len - 1) s
      → (behind : List X) × (reverse xs ≡ s ∷ behind) × (reverse (slice_set xs (len - 1) w) ≡ w ∷ behind)
  last_in xs len s w whole some is =
      let e = ends xs (omega (arith, whole, some)) in
      let size = ap length e.2 ∙ length-append e.0 (e.1 ∷ []) in
      let at : len - 1 ≡ length e.0 = omega (arith, size, whole, some) in
      let same : s ≡ e.1 = is ∙ ap (λ ys. slice_index_or ys (len - 1) s) e.2 ∙ read_last e.0 e.1 s (len - 1) at in (
        reverse e.0,
        ap reverse e.2 ∙ reverse-append e.0 (e.1 ∷ []) ∙ ap (λ x. x ∷ reverse e.0) (sym same),
        ap (λ ys. reverse (slice_set ys (len - 1) w)) e.2 ∙ ap reverse (write_last e.0 e.1 w (len - 1) at)
            ∙ reverse-append e.0 (w ∷ []),
      )
