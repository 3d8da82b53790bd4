-- Chains of a list with one place more.
use Rattle.std.proofs.Common.{◌≡◌, ℕ, ◌+◌, ◌≤◌, ◌<◌, inl, inr, List, [], ◌∷◌, ◌++◌, Some, length, slice_get, get_or, set, sym, ◌∙◌, ap, subst, arith, get_or-set_same, get_or-set_other}
use Rattle.std.proofs.lemmas.Bool.{cases_eq, cases_lt}
use Rattle.std.proofs.lemmas.Option.{slice_get_within}
use Rattle.std.proofs.lemmas.List.{length-append, get_or_append_left, get_or_past, get_or_push}
use Rattle.qual_base.proofs.Lists.{push_left, push_last}
use Rattle.match_summary.specs.declared.chains.Chains.{Chains}
use Rattle.match_summary.specs.Chained.{AreChained, IsLink}
use Rattle.match_summary.proofs.Growth.{push_cases}

-- a link below a bound within the list
link_on : (keys : List ℕ) (last key bound link : ℕ) → bound ≤ length keys → IsLink keys key bound link
    → IsLink (keys ++ last ∷ []) key bound link
link_on keys last key bound link le is = record {
  within = is.within;
  there = λ n at. push_left keys last key n (is.there n at);
  last = λ n from lt there. elim (push_cases keys last n key there) [
    | inl old ↦ is.last n from lt old.1
    | inr new ↦ let at = new.0 in absurd (omega (arith, at, le, lt))
  ];
}

-- the newest place of another key
link_other : (keys : List ℕ) (last key link : ℕ) → (last ≡ key → ⊥) → IsLink keys key (length keys) link
    → IsLink (keys ++ last ∷ []) key (length keys + 1) link
link_other keys last key link other is = record {
  within = let le = is.within in omega (arith, le);
  there = λ n at. push_left keys last key n (is.there n at);
  last = λ n from lt there. elim (push_cases keys last n key there) [
    | inl old ↦ is.last n from old.0 old.1
    | inr new ↦ other new.1
  ];
}

-- the newest place of the key itself
link_here : (keys : List ℕ) (key : ℕ) → IsLink (keys ++ key ∷ []) key (length keys + 1) (length keys + 1)
link_here keys key = record {
  within = omega arith;
  there = λ n at.
      let same : length keys ≡ n = omega (arith, at) in
      subst (λ k. slice_get (keys ++ key ∷ []) k ≡ Some key) same (push_last keys key);
  last = λ n from lt there. absurd (omega (arith, from, lt));
}

module _ (keys : List ℕ) (key at : ℕ) (old new : Chains) (are : AreChained keys old) (room : List ℕ)
    (same : (k : ℕ) → get_or room k 0 ≡ get_or old.newest.items k 0)
    (within : key < length room) (before : new.before.items ≡ old.before.items ++ get_or room key 0 ∷ [])
    (newest : new.newest.items ≡ set room key at) (place : at ≡ length keys + 1) where
  size_more : length (keys ++ key ∷ []) ≡ length keys + 1
  size_more = length-append keys (key ∷ [])

  newest_more : (k : ℕ) → IsLink (keys ++ key ∷ []) k (length (keys ++ key ∷ [])) (get_or new.newest.items k 0)
  newest_more k =
      subst (λ b. IsLink (keys ++ key ∷ []) k b (get_or new.newest.items k 0)) (sym size_more) (elim (cases_eq key k) [
        | inl one ↦
            let value : length keys + 1 ≡ get_or new.newest.items k 0 =
            sym place ∙ sym (get_or-set_same room key at 0 within) ∙ ap (λ j. get_or (set room key at) j 0) one
            ∙ ap (λ xs. get_or xs k 0) (sym newest) in
            subst (λ link. IsLink (keys ++ key ∷ []) k (length keys + 1) link) value
            (subst (λ j. IsLink (keys ++ key ∷ []) j (length keys + 1) (length keys + 1)) one (link_here keys key))
        | inr other ↦
            let value : get_or old.newest.items k 0 ≡ get_or new.newest.items k 0 = sym (same k)
            ∙ sym (get_or-set_other room key k at 0 (λ e. other (sym e))) ∙ ap (λ xs. get_or xs k 0) (sym newest) in
            subst (λ link. IsLink (keys ++ key ∷ []) k (length keys + 1) link) value
            (link_other keys key k _ other (are.newest k))
      ])

  before_more : (n k : ℕ) → slice_get (keys ++ key ∷ []) n ≡ Some k
      → IsLink (keys ++ key ∷ []) k n (get_or new.before.items n 0)
  before_more n k there = elim (push_cases keys key n k there) [
    | inl early ↦
        let lt = early.0 in
        let size = are.size in
        let value : get_or old.before.items n 0 ≡ get_or new.before.items n 0 = sym
        (get_or_append_left old.before.items _ 0 n (omega (arith, lt, size))) ∙ ap (λ xs. get_or xs n 0) (sym before) in
        subst (λ link. IsLink (keys ++ key ∷ []) k n link) value
        (link_on keys key k n _ (omega (arith, lt)) (are.before n k early.1))
    | inr last ↦
        let size = are.size in
        let end : length old.before.items ≡ n = size ∙ sym last.0 in
        let value : get_or old.newest.items key 0 ≡ get_or new.before.items n 0 = sym (same key)
        ∙ sym (get_or_push old.before.items (get_or room key 0) 0 n end) ∙ ap (λ xs. get_or xs n 0) (sym before) in
        let link = link_on keys key key (length keys) _ (omega arith) (are.newest key) in
        subst (λ j. IsLink (keys ++ key ∷ []) j n (get_or new.before.items n 0)) last.1
        (subst (λ b. IsLink (keys ++ key ∷ []) key b (get_or new.before.items n 0)) (sym last.0)
        (subst (λ l. IsLink (keys ++ key ∷ []) key (length keys) l) value link))
  ]

  pub chained_push : AreChained (keys ++ key ∷ []) new
  chained_push = record {
    size = ap length before ∙ length-append old.before.items _
        ∙ (let old_size = are.size in let more = size_more in omega (arith, old_size, more));
    newest = newest_more;
    before = before_more;
  }

-- a link below a bound within a list that has lost its last place
link_off : (keys : List ℕ) (last key bound link : ℕ) → bound ≤ length keys → IsLink (keys ++ last ∷ []) key bound link
    → IsLink keys key bound link
link_off keys last key bound link le is = record {
  within = is.within;
  there = λ n at. elim (push_cases keys last n key (is.there n at)) [
    | inl old ↦ old.1
    | inr new ↦ let end = new.0 in let within = is.within in absurd (omega (arith, end, le, within, at))
  ];
  last = λ n from lt there. is.last n from lt (push_left keys last key n there);
}

-- the newest place of another key than the one that was lost
link_other_off : (keys : List ℕ) (last key link : ℕ) → (last ≡ key → ⊥)
    → IsLink (keys ++ last ∷ []) key (length keys + 1) link → IsLink keys key (length keys) link
link_other_off keys last key link other is = record {
  within = elim (cases_lt (length keys) link) [
    | inl over ↦
        let within = is.within in
        let end : link ≡ length keys + 1 = omega (arith, over, within) in
        elim (push_cases keys last (length keys) key (is.there (length keys) end)) [
          | inl old ↦ let lt = old.0 in absurd (omega (arith, lt))
          | inr new ↦ absurd (other new.1)
        ]
    | inr under ↦ under
  ];
  there = λ n at.
      elim (push_cases keys last n key (is.there n at)) [ inl old ↦ old.1 | inr new ↦ absurd (other new.1) ];
  last = λ n from lt there. is.last n from (omega (arith, lt)) (push_left keys last key n there);
}

-- chains without their last place
module _ (keys : List ℕ) (key link : ℕ) (old new : Chains) (are : AreChained (keys ++ key ∷ []) old)
    (before : old.before.items ≡ new.before.items ++ link ∷ [])
    (here : key < length old.newest.items → get_or new.newest.items key 0 ≡ link) (others : (k : ℕ) → (k ≡ key → ⊥)
    → get_or new.newest.items k 0 ≡ get_or old.newest.items k 0) where
  all_size : length (keys ++ key ∷ []) ≡ length keys + 1
  all_size = length-append keys (key ∷ [])

  size_less : length new.before.items ≡ length keys
  size_less =
      let whole : length old.before.items ≡ length new.before.items + 1 =
      ap length before ∙ length-append new.before.items (link ∷ []) in
      let size = are.size in
      let more = all_size in
      omega (arith, whole, size, more)

  last_link : IsLink keys key (length keys) link
  last_link =
      let value : get_or old.before.items (length keys) 0 ≡ link =
      ap (λ xs. get_or xs (length keys) 0) before ∙ get_or_push new.before.items link 0 (length keys) size_less in
      link_off keys key key (length keys) link (omega arith)
      (subst (λ l. IsLink (keys ++ key ∷ []) key (length keys) l) value
      (are.before (length keys) key (push_last keys key)))

  key_within : key < length old.newest.items
  key_within = elim (cases_lt key (length old.newest.items)) [
    | inl lt ↦ lt
    | inr past ↦
        let none : get_or old.newest.items key 0 ≡ 0 = get_or_past old.newest.items key 0 past in
        let more = all_size in
        absurd ((subst (λ l. IsLink (keys ++ key ∷ []) key (length (keys ++ key ∷ [])) l) none (are.newest key)).last
        (length keys) (omega arith) (omega (arith, more)) (push_last keys key))
  ]

  newest_less : (k : ℕ) → IsLink keys k (length keys) (get_or new.newest.items k 0)
  newest_less k = elim (cases_eq k key) [
    | inl one ↦
        let value : link ≡ get_or new.newest.items k 0 =
        sym (here key_within) ∙ ap (λ j. get_or new.newest.items j 0) (sym one) in
        subst (λ l. IsLink keys k (length keys) l) value
        (subst (λ j. IsLink keys j (length keys) link) (sym one) last_link)
    | inr other ↦
        subst (λ l. IsLink keys k (length keys) l) (sym (others k other))
        (link_other_off keys key k _ (λ e. other (sym e))
        (subst (λ b. IsLink (keys ++ key ∷ []) k b (get_or old.newest.items k 0)) all_size (are.newest k)))
  ]

  before_less : (n k : ℕ) → slice_get keys n ≡ Some k → IsLink keys k n (get_or new.before.items n 0)
  before_less n k there =
      let lt = slice_get_within keys n k there in
      let size = size_less in
      let value : get_or old.before.items n 0 ≡ get_or new.before.items n 0 =
      ap (λ xs. get_or xs n 0) before ∙ get_or_append_left new.before.items (link ∷ []) 0 n (omega (arith, lt, size)) in
      link_off keys key k n _ (omega (arith, lt))
      (subst (λ l. IsLink (keys ++ key ∷ []) k n l) value (are.before n k (push_left keys key k n there)))

  pub chained_pop : AreChained keys new
  chained_pop = record { size = size_less; newest = newest_less; before = before_less }
