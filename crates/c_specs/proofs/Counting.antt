-- Words that begin a listed set, by counts of each word.
use Rattle.std.proofs.Common.{arith, ◌≡◌, ℕ, ◌+◌, ◌≤◌, nat_le, nat_eq, Bool, true, false, ◌&&◌, List, [], ◌∷◌, ◌++◌, length, refl, sym, ◌∙◌, if◌then◌else◌}
use Rattle.std.specs.Prelude.{Any, IsPermutation}
use Rattle.std.specs.List.{sum_by, list_all, list_any}
use Rattle.std.proofs.lemmas.Bool.{le-leb, eq-eqb}
use Rattle.std.proofs.lemmas.List.Folds.{list_any-from_Any}
use Rattle.std.proofs.lemmas.List.Sums.{sum_by-append}
use Rattle.std.proofs.lemmas.List.Sorted.{sum_by-IsPermutation, length_permutation}
use Rattle.c_words.specs.declared.kinds.Keyword.{Keyword}

module _ (code : Keyword → ℕ) where
  abbrev pub count : ℕ → List Keyword → ℕ
  count n ws = sum_by (λ k. if nat_eq (code k) n then 1 else 0) ws

  abbrev pub covers : List Keyword → List Keyword → Bool
  covers set ws = list_all (λ k. nat_le (count (code k) ws) (count (code k) set)) ws

  -- whether some set has each of these words as often
  abbrev pub begins : List (List Keyword) → List Keyword → Bool
  begins sets ws = list_any (λ set. covers set ws) sets

  -- and no other
  abbrev pub ends : List (List Keyword) → List Keyword → Bool
  ends sets ws = list_any (λ set. covers set ws && nat_eq (length ws) (length set)) sets

  covered : (set ws us : List Keyword) → ((n : ℕ) → count n ws ≤ count n set)
      → list_all (λ k. nat_le (count (code k) ws) (count (code k) set)) us ≡ true
  covered set ws [] fewer = refl
  covered set ws (u ∷ us) fewer = rw (le-leb _ _ (fewer (code u))) (covered set ws us fewer)

  pub not_begun : (sets : List (List Keyword)) (ws all : List Keyword) → begins sets ws ≡ false
      → ((n : ℕ) → count n ws ≤ count n all) → Any (IsPermutation all) sets → ⊥
  not_begun sets ws all none fewer (at, set, lt, is, same) =
      let f : (n : ℕ) → count n ws ≤ count n set = λ n. let e =
      sum_by-IsPermutation (λ k. if nat_eq (code k) n then 1 else 0) all set same in let l = fewer n in omega arith in
      let yes = list_any-from_Any (λ s. covers s ws) sets (at, set, lt, is, covered set ws ws f) in
      let wrong : true ≡ false = sym yes ∙ none in absurd cc

  pub not_ended : (sets : List (List Keyword)) (ws all : List Keyword) → ends sets ws ≡ false → IsPermutation all ws
      → Any (IsPermutation all) sets → ⊥
  not_ended sets ws all none here (at, set, lt, is, same) =
      let f : (n : ℕ) → count n ws ≤ count n set =
      λ n. let e = sum_by-IsPermutation (λ k. if nat_eq (code k) n then 1 else 0) all set same in
      let g = sum_by-IsPermutation (λ k. if nat_eq (code k) n then 1 else 0) all ws here in omega arith in
      let long : length ws ≡ length set = length_permutation all ws here ∙ sym (length_permutation all set same) in
      let both : (covers set ws && nat_eq (length ws) (length set)) ≡ true =
      rw (covered set ws ws f) (eq-eqb _ _ long) in
      let yes = list_any-from_Any (λ s. covers s ws && nat_eq (length ws) (length s)) sets (at, set, lt, is, both) in
      let wrong : true ≡ false = sym yes ∙ none in absurd cc

  pub more_words_count : (n : ℕ) (ks more : List Keyword) → count n (ks ++ more) ≡ count n ks + count n more
  more_words_count n ks more = sum_by-append (λ k. if nat_eq (code k) n then 1 else 0) ks more
