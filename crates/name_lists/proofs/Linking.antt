-- Links of entries, and the table of them, as entries come and go.
use Rattle.std.proofs.Common.{arith, ◌≡◌, ◌≢◌, ℕ, zero, suc, ◌+◌, ◌-◌, ◌≤◌, ◌<◌, Bool, true, false, nat_eq, eqb, inl, inr, refl, sym, ◌∙◌, ap, subst, if◌then◌else◌}
use Rattle.std.proofs.Common.{List, [], ◌∷◌, ◌++◌, length, reverse, map, take, drop, get_or, set, get_or-set_same, get_or-set_other, slice_get, Option, Some, None, option_map}
use Rattle.std.proofs.lemmas.Bool.{cases_eq, cases_lt}
use Rattle.std.proofs.lemmas.Bool.Decides.{eqb_tells}
use Rattle.std.proofs.lemmas.List.{reverse-append, length-reverse, reverse-reverse, length-map, get_or_past}
use Rattle.qual_base.proofs.Lists.{push_last}
use Rattle.name_lists.specs.declared.list.Entry.{Entry}
use Rattle.name_lists.specs.Newest.{newest}
use Rattle.name_lists.specs.Linked.{pair_of, link_of, HaveLinks, AreLinked}

pub reverse_push : {X : Type 0} (xs : List X) (x : X) → reverse (xs ++ x ∷ []) ≡ x ∷ reverse xs
reverse_push xs x = reverse-append xs (x ∷ [])

reverse_more : {X : Type 0} (x : X) (xs : List X) → reverse (x ∷ xs) ≡ reverse xs ++ x ∷ []
reverse_more x xs = reverse-append (x ∷ []) xs

alike : (n : ℕ) → eqb n n ≡ true
alike n = elim (eqb_tells n n) [ inl same ↦ same.0 | inr other ↦ absurd (other.1 refl) ]

apart : (a n : ℕ) → n ≢ a → eqb a n ≡ false
apart a n other = elim (eqb_tells a n) [ inl same ↦ absurd (other (sym same.1)) | inr not ↦ not.0 ]

-- an item put at the end changes no item before it
get_left : {X : Type 0} (xs : List X) (last : X) (n : ℕ) → n < length xs
    → slice_get (xs ++ last ∷ []) n ≡ slice_get xs n
get_left [] last n lt = absurd (omega (arith, lt))
get_left (x ∷ xs) last zero lt = refl
get_left (x ∷ xs) last (suc n) lt = get_left xs last n (omega (arith, lt))

module _ {V : Type 0} where
  -- a link is no more than there are entries
  pub link_bound : (es : List (ℕ × V)) (n : ℕ) → link_of es n ≤ length es
  link_bound [] n = omega arith
  link_bound (e ∷ es) n = by_test (eqb e.0 n) (link_bound es n)
    where
      by_test : (b : Bool) → link_of es n ≤ length es → (if b then length es + 1 else link_of es n) ≤ suc (length es)
      by_test true le = omega arith
      by_test false le = omega (arith, le)

  -- a name without a link is not there
  pub not_there : (es : List (ℕ × V)) (n : ℕ) → link_of es n ≡ 0 → newest es n ≡ None
  not_there [] n none = refl
  not_there (e ∷ es) n none = by_test (eqb e.0 n) none (not_there es n)
    where
      by_test : (b : Bool) → (if b then length es + 1 else link_of es n) ≡ 0 → (link_of es n ≡ 0 → newest es n ≡ None)
          → (if b then Some e.1 else newest es n) ≡ None
      by_test true none rest = absurd (omega (arith, none))
      by_test false none rest = rest none

  -- a name's link leads to its newest entry
  there_from : (es : List (Entry V)) (n at : ℕ) → link_of (map pair_of es) n ≡ at + 1
      → newest (map pair_of es) n ≡ option_map (λ (e : Entry V). e.value) (slice_get (reverse es) at)
  there_from [] n at is = absurd (omega (arith, is))
  there_from (e ∷ es) n at is =
      by_test (eqb e.name n) is (there_from es n at)
      ∙ ap (λ xs. option_map (λ (e : Entry V). e.value) (slice_get xs at)) (sym (reverse_more e es))
    where
      size : length (reverse es) ≡ length (map pair_of es)
      size = length-reverse es ∙ sym (length-map es pair_of)

      by_test : (b : Bool) → (if b then length (map pair_of es) + 1 else link_of (map pair_of es) n) ≡ at + 1
          → (link_of (map pair_of es) n ≡ at + 1
          → newest (map pair_of es) n ≡ option_map (λ (e : Entry V). e.value) (slice_get (reverse es) at))
          → (if b then Some e.value else newest (map pair_of es) n)
          ≡ option_map (λ (e : Entry V). e.value) (slice_get (reverse es ++ e ∷ []) at)
      by_test true is rest =
          let here : length (reverse es) ≡ at = size ∙ omega (arith, is) in
          ap (λ (o : Option (Entry V)). option_map (λ (e : Entry V). e.value) o)
          (sym (ap (λ k. slice_get (reverse es ++ e ∷ []) k) (sym here) ∙ push_last (reverse es) e))
      by_test false is rest =
          let bound = link_bound (map pair_of es) n in
          let within : at < length (reverse es) = subst (λ k. at < k) (sym size) (omega (arith, is, bound)) in
          rest is ∙ ap (λ (o : Option (Entry V)). option_map (λ (e : Entry V). e.value) o)
          (sym (get_left (reverse es) e at within))

  pub there : (xs ys : List (Entry V)) (n link : ℕ) (list : List (ℕ × V)) → map pair_of (reverse xs) ≡ list → ys ≡ xs
      → link ≡ link_of list n → (link ≡ 0 → ⊥)
      → option_map (λ (e : Entry V). e.value) (slice_get ys (link - 1)) ≡ newest list n
  there xs ys n link list view same is some =
      let next : link ≡ link - 1 + 1 = omega (arith, some) in
      let at = ap (λ es. link_of es n) view ∙ sym is ∙ next in
      ap (λ zs. option_map (λ (e : Entry V). e.value) (slice_get zs (link - 1))) (same ∙ sym (reverse-reverse xs))
      ∙ sym (there_from (reverse xs) n (link - 1) at) ∙ ap (λ es. newest es n) view

  -- the newest entry of a name among some of the newest
  pub among : (es : List (ℕ × V)) (count n : ℕ) → length es - count < link_of es n
      → newest (take count es) n ≡ newest es n
  among [] count n lt = absurd (omega (arith, lt))
  among (e ∷ es) zero n lt = let le = link_bound (e ∷ es) n in absurd (omega (arith, lt, le))
  among (e ∷ es) (suc count) n lt = by_test (eqb e.0 n) lt (among es count n)
    where
      by_test : (b : Bool) → suc (length es) - suc count < (if b then length es + 1 else link_of es n)
          → (length es - count < link_of es n → newest (take count es) n ≡ newest es n)
          → (if b then Some e.1 else newest (take count es) n) ≡ (if b then Some e.1 else newest es n)
      by_test true lt rest = refl
      by_test false lt rest = rest (omega (arith, lt))

  pub not_among : (es : List (ℕ × V)) (count n : ℕ) → link_of es n ≤ length es - count → newest (take count es) n ≡ None
  not_among [] zero n le = refl
  not_among [] (suc count) n le = refl
  not_among (e ∷ es) zero n le = refl
  not_among (e ∷ es) (suc count) n le = by_test (eqb e.0 n) le (not_among es count n)
    where
      by_test : (b : Bool) → (if b then length es + 1 else link_of es n) ≤ suc (length es) - suc count
          → (link_of es n ≤ length es - count → newest (take count es) n ≡ None)
          → (if b then Some e.1 else newest (take count es) n) ≡ None
      by_test true le rest = absurd (omega (arith, le))
      by_test false le rest = rest (omega (arith, le))

  module _ (entries : List (Entry V)) (name : ℕ) (value : V) (hides link : ℕ) (table room : List ℕ) where
    -- one entry more
    pub linked_push : AreLinked (reverse entries) table → ((n : ℕ) → get_or room n 0 ≡ get_or table n 0)
        → name < length room → hides ≡ get_or room name 0 → link ≡ length entries + 1
        → AreLinked (reverse (entries ++ (record { name = name; value = value; hides = hides }) ∷ []))
        (set room name link)
    linked_push are same within hidden is =
        let e : Entry V = record { name = name; value = value; hides = hides } in
        let size : length (map pair_of (reverse entries)) ≡ length entries =
        length-map (reverse entries) pair_of ∙ length-reverse entries in
        subst (λ es. AreLinked es (set room name link)) (sym (reverse_push entries e)) (record {
          tabled = λ n. elim (cases_eq n name) [
            | inl one ↦
                rw one (rw (alike name) (get_or-set_same room name link 0 within ∙ is ∙ ap (λ k. k + 1) (sym size)))
            | inr other ↦ rw (apart name n other) (get_or-set_other room name n link 0 other ∙ same n ∙ are.tabled n)
          ];
          hidden = (hidden ∙ same name ∙ are.tabled name, are.hidden);
        })

    -- the newest entry is taken back
    pub linked_pop : AreLinked (reverse (entries ++ (record { name = name; value = value; hides = hides }) ∷ [])) table
        → (name < length table → get_or room name 0 ≡ hides) → ((n : ℕ) → n ≢ name → get_or room n 0 ≡ get_or table n 0)
        → AreLinked (reverse entries) room
    linked_pop are_all here others =
        let e : Entry V = record { name = name; value = value; hides = hides } in
        let are : AreLinked (e ∷ reverse entries) table =
        subst (λ es. AreLinked es table) (reverse_push entries e) are_all in
        let top : get_or table name 0 ≡ length (map pair_of (reverse entries)) + 1 =
        are.tabled name ∙ rw (alike name) refl in
        let within : name < length table = elim (cases_lt name (length table)) [
          | inl lt ↦ lt
          | inr past ↦ let none = get_or_past table name 0 past in absurd (omega (arith, top, none))
        ] in
        record {
          tabled = λ n. elim (cases_eq n name) [
            | inl one ↦ rw one (here within ∙ are.hidden.0)
            | inr other ↦ others n other ∙ are.tabled n ∙ rw (apart name n other) refl
          ];
          hidden = are.hidden.1;
        }
