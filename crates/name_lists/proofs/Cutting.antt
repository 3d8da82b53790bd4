-- Entries that are cut into scopes, as scopes and entries come and go.
use Rattle.std.proofs.Common.{arith, ◌≡◌, ℕ, zero, suc, ◌+◌, ◌-◌, ◌≤◌, ◌<◌, Bool, true, false, refl, sym, ◌∙◌, ap, subst, if◌then◌else◌, eqb}
use Rattle.std.proofs.Common.{List, [], ◌∷◌, length, reverse, take, drop, slice_set, slice_index_or, Some}
use Rattle.std.proofs.lemmas.List.{length-drop}
use Rattle.name_lists.specs.Newest.{newest, newest_through, or_outer, innermost, outer_scopes}
use Rattle.name_lists.specs.Cut.{cut, total}
use Rattle.name_lists.proofs.Lasts.{last_in}

-- one item dropped behind some dropped is one dropped more
drop_more : {X : Type 0} (xs : List X) (n : ℕ) → drop 1 (drop n xs) ≡ drop (suc n) xs
drop_more [] zero = refl
drop_more [] (suc n) = refl
drop_more (x ∷ xs) zero = refl
drop_more (x ∷ xs) (suc n) = drop_more xs n

pub drop_next : {X : Type 0} (xs : List X) (n : ℕ) → drop 1 (drop n xs) ≡ drop (n + 1) xs
drop_next xs n = let next : suc n ≡ n + 1 = omega arith in drop_more xs n ∙ ap (λ k. drop k xs) next

-- the count of the innermost scope, which is the last
module _ (counts : List ℕ) (len count : ℕ) (whole : len ≡ length counts) (some : 0 < len)
    (is : count ≡ slice_index_or counts (len - 1) count) where
  -- no more entries than all
  pub count_bound : count ≤ total (reverse counts)
  count_bound =
      let there = last_in counts len count count whole some is in
      subst (λ cs. count ≤ total cs) (sym there.1) (omega arith)

  -- one entry more in the innermost scope
  pub total_bound : (old new : ℕ) → total (reverse counts) ≡ old → new ≡ suc old
      → total (reverse (slice_set counts (len - 1) (count + 1))) ≡ new
  total_bound old new was more =
      let there = last_in counts len count (count + 1) whole some is in
      let after : total (reverse (slice_set counts (len - 1) (count + 1))) ≡ count + 1 + total there.0 =
      ap total there.2 in
      let before : total (reverse counts) ≡ count + total there.0 = ap total there.1 in
      omega (arith, after, before, was, more)

  pub cut_bound : {V : Type 0} (es new : List (ℕ × V)) (e : ℕ × V) (old : List (List (ℕ × V))) → new ≡ e ∷ es
      → cut (reverse counts) es ≡ old
      → cut (reverse (slice_set counts (len - 1) (count + 1))) new ≡ (e ∷ innermost old) ∷ outer_scopes old
  cut_bound es new e old more was =
      let there = last_in counts len count (count + 1) whole some is in
      let next : suc count ≡ count + 1 = omega arith in
      ap (λ xs. cut (reverse (slice_set counts (len - 1) (count + 1))) xs) more
      ∙ ap (λ cs. cut cs (e ∷ es)) there.2
      ∙ ap (λ k. cut (k ∷ there.0) (e ∷ es)) (sym next)
      ∙ ap (λ ss. (e ∷ innermost ss) ∷ outer_scopes ss) (sym (ap (λ cs. cut cs es) there.1) ∙ was)

  -- the innermost scope, by the count of its entries
  pub innermost_cut : {V : Type 0} (es : List (ℕ × V)) → innermost (cut (reverse counts) es) ≡ take count es
  innermost_cut es = ap (λ cs. innermost (cut cs es)) (last_in counts len count count whole some is).1

module _ {V : Type 0} where
  newest_split : (es : List (ℕ × V)) (count n : ℕ)
      → newest es n ≡ or_outer (newest (take count es) n) (newest (drop count es) n)
  newest_split [] zero n = refl
  newest_split [] (suc count) n = refl
  newest_split (e ∷ es) zero n = refl
  newest_split (e ∷ es) (suc count) n = by_test (eqb e.0 n) (newest_split es count n)
    where
      by_test : (b : Bool) → newest es n ≡ or_outer (newest (take count es) n) (newest (drop count es) n)
          → (if b then Some e.1 else newest es n)
          ≡ or_outer (if b then Some e.1 else newest (take count es) n) (newest (drop count es) n)
      by_test true rest = refl
      by_test false rest = rest

  -- where all entries are in scopes, the newest of all is the innermost that there is
  pub newest_cut : (counts : List ℕ) (es : List (ℕ × V)) (n : ℕ) → total counts ≡ length es
      → newest es n ≡ newest_through (cut counts es) n
  newest_cut [] [] n all = refl
  newest_cut [] (e ∷ es) n all = absurd (omega (arith, all))
  newest_cut (count ∷ counts) es n all =
      let less = length-drop count es in
      let rest : total counts ≡ length (drop count es) = omega (arith, all, less) in
      newest_split es count n ∙ ap (or_outer (newest (take count es) n)) (newest_cut counts (drop count es) n rest)
