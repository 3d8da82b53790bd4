-- The last item of a list.
use Rattle.std.proofs.Common.{◌≡◌, ℕ, ◌+◌, ◌-◌, ◌<◌, List, [], ◌∷◌, ◌++◌, length, take, Option, None, Some, sym, ◌∙◌, ap, arith, inl, inr, Bor}
use Rattle.std.specs.Prelude.{slice_get}
use Rattle.std.proofs.lemmas.List.{take_all, take_more, nil_from_length}
use Rattle.std.proofs.lemmas.Option.{slice_get_within, slice_get_cases, get_or_from_slice_get}
use Rattle.std.specs.Option.{option_copied}

module _ {A : Type 0} where
  pub take_with : (xs : List A) (n : ℕ) (x : A) → slice_get xs n ≡ Some x → take (n + 1) xs ≡ take n xs ++ x ∷ []
  take_with xs n x h =
      take_more xs n x (slice_get_within xs n x h)
      ∙ ap (λ (y : A). take n xs ++ y ∷ []) (get_or_from_slice_get xs n x x h)

  -- a list is what comes before its last item, and that
  pub with_last : (xs : List A) (x : A) → slice_get xs (length xs - 1) ≡ Some x → xs ≡ take (length xs - 1) xs ++ x ∷ []
  with_last xs x h =
      let within = slice_get_within xs (length xs - 1) x h in
      let same : length xs - 1 + 1 ≡ length xs = omega (arith, within) in
      sym (take_all (length xs) xs (omega arith)) ∙ ap (λ (n : ℕ). take n xs) (sym same)
      ∙ take_with xs (length xs - 1) x h

  pub without_last : (xs : List A) → slice_get xs (length xs - 1) ≡ None → xs ≡ []
  without_last xs h =
      elim (slice_get_cases xs (length xs - 1)).1
      [ inl t ↦ absurd (some_none t.0 (sym t.2 ∙ h)) | inr t ↦ nil_from_length xs (omega (arith, t.0)) ]
    where
      some_none : (x : A) → Some x ≡ None → ⊥
      some_none x h = absurd cc

  -- what `last` answers
  pub read_last : (xs slice : List A) (r : Option (Bor A)) (x : Bor A) → slice ≡ xs
      → option_copied r ≡ slice_get slice (length slice - 1) → r ≡ Some x → slice_get xs (length xs - 1) ≡ Some x.now
  read_last xs slice r x same value is =
      sym (value ∙ ap (λ (ys : List A). slice_get ys (length ys - 1)) same) ∙ ap option_copied is
