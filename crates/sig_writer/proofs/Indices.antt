-- The index words that lists hold are those of what is found.
use Rattle.std.specs.Prelude.{option_map}
use Rattle.std.proofs.Common.{◌≡◌, ℕ, zero, suc, ◌+◌, ◌-◌, ◌<◌, ◌≤◌, nat_eq, not, ◌&&◌, ◌||◌, Bool, true, false, ◌⊎◌}
use Rattle.std.proofs.Common.{inl, inr, ◌↔◌, List, [], ◌∷◌, length, map, slice_get, get_or, Some, refl, sym, ◌∙◌, ap}
use Rattle.std.proofs.Common.{subst, arith, eqb-true}
use Rattle.std.specs.List.{filter, list_any, Contains}
use Rattle.std.proofs.lemmas.Bool.{and_from, and_parts, cases_Bool, cond-false, cond-true, eq-eqb, ne_eqb, not-true}
use Rattle.std.proofs.lemmas.Bool.{not_from_false, or_cases, or_left, or_right}
use Rattle.std.proofs.lemmas.Option.{get_or_from_slice_get, slice_get-get_or, slice_get-map, slice_get_within}
use Rattle.std.proofs.lemmas.List.Folds.{list_any_at}
use Rattle.qual_base.proofs.Lists.{map_length}
use Rattle.qual_base.proofs.Tests.{same_test}
use Rattle.index_words.specs.Marks.{AreAscending}
use Rattle.match_summary.specs.declared.reason.Summary.{Summary}
use Rattle.match_summary.specs.Summary.{HasPair}
use Rattle.sig_writer.specs.declared.nodes.Nodes.{Nodes}
use Rattle.sig_writer.specs.Nodes.{numbers, AreNodes}
use Rattle.sig_writer.specs.Marks.{AreMarks, IsIndexOf, marked_up_to}
use Rattle.sig_writer.specs.Marking.{IsMarked, marked_before}
use Rattle.sig_writer.specs.Signatures.{Found, is_marked, marked, numbers_of, numbers_to}
use Rattle.sig_writer.proofs.Ascending.{ascending_cons, cons_cases, cons_here, cons_later, none_has, same_ascending}
use Rattle.sig_writer.proofs.Numbering.{up_to_is}

-- ---- numbers to a node, by the marks of nodes

module _ (it : Found) (v : ℕ) where
  abbrev pub Leads : ℕ → Bool
  Leads u = nat_eq u v || it.joins u v

  to_cons_true : (u : ℕ) (us : List ℕ) (n : ℕ) → Leads u ≡ true →
      numbers_to it v n (u ∷ us) ≡ n ∷ numbers_to it v (suc n) us
  to_cons_true u us n is = cond-true (Leads u) (n ∷ numbers_to it v (suc n) us) (numbers_to it v (suc n) us) is

  to_cons_false : (u : ℕ) (us : List ℕ) (n : ℕ) → Leads u ≡ false →
      numbers_to it v n (u ∷ us) ≡ numbers_to it v (suc n) us
  to_cons_false u us n is = cond-false (Leads u) (n ∷ numbers_to it v (suc n) us) (numbers_to it v (suc n) us) is

  -- they ascend from the first one on
  pub to_above : (us : List ℕ) (n m : ℕ) → Contains (numbers_to it v n us) m → n ≤ m
  to_above [] n m has = absurd (none_has m has)
  to_above (u ∷ us) n m has = elim (cases_Bool (Leads u)) [
    | inl is ↦ elim (cons_cases n (numbers_to it v (suc n) us) m
        (subst (λ (xs : List ℕ). Contains xs m) (to_cons_true u us n is) has)) [
          | inl same ↦ omega (arith, same)
          | inr later ↦ let above = to_above us (suc n) m later in omega (arith, above)
        ]
    | inr other ↦ let above = to_above us (suc n) m
        (subst (λ (xs : List ℕ). Contains xs m) (to_cons_false u us n other) has) in omega (arith, above)
  ]

  pub to_ascending : (us : List ℕ) (n : ℕ) → AreAscending (numbers_to it v n us)
  to_ascending [] n = tt
  to_ascending (u ∷ us) n = elim (cases_Bool (Leads u)) [
    | inl is ↦ subst AreAscending (sym (to_cons_true u us n is))
        (ascending_cons n (numbers_to it v (suc n) us) (to_ascending us (suc n))
        (λ m has. let above = to_above us (suc n) m has in omega (arith, above)))
    | inr other ↦ subst AreAscending (sym (to_cons_false u us n other)) (to_ascending us (suc n))
  ]

  module _ (p : ℕ → Bool) where
    kept : (u : ℕ) (us : List ℕ) → p u ≡ true → filter p (u ∷ us) ≡ u ∷ filter p us
    kept u us is = cond-true (p u) (u ∷ filter p us) (filter p us) is

    left : (u : ℕ) (us : List ℕ) → p u ≡ false → filter p (u ∷ us) ≡ filter p us
    left u us is = cond-false (p u) (u ∷ filter p us) (filter p us) is

    before_more : (u : ℕ) (us : List ℕ) (i : ℕ) → p u ≡ true →
        marked_before (map p (u ∷ us)) (suc i) ≡ suc (marked_before (map p us) i)
    before_more u us i is = ap (λ (b : Bool). marked_before (b ∷ map p us) (suc i)) is

    before_same : (u : ℕ) (us : List ℕ) (i : ℕ) → p u ≡ false →
        marked_before (map p (u ∷ us)) (suc i) ≡ marked_before (map p us) i
    before_same u us i is = ap (λ (b : Bool). marked_before (b ∷ map p us) (suc i)) is

    abbrev Place : List ℕ → ℕ → ℕ → Type 0
    Place us n m = (i : ℕ) × (u : ℕ) × (slice_get us i ≡ Some u) × (p u ≡ true) × (Leads u ≡ true) ×
        (m ≡ n + marked_before (map p us) i)

    -- each number has its place
    pub to_found : (us : List ℕ) (n m : ℕ) → Contains (numbers_to it v n (filter p us)) m → Place us n m
    to_found [] n m has = absurd (none_has m has)
    to_found (u ∷ us) n m has = elim (cases_Bool (p u)) [
      | inl is ↦
          let had = subst (λ (xs : List ℕ). Contains (numbers_to it v n xs) m) (kept u us is) has in
          let later : Contains (numbers_to it v (suc n) (filter p us)) m → Place (u ∷ us) n m = λ more.
          let deeper = to_found us (suc n) m more in
          let at = deeper.5 in
          let shift = before_more u us deeper.0 is in
          (suc deeper.0, deeper.1, deeper.2, deeper.3, deeper.4, omega (arith, at, shift)) in
          elim (cases_Bool (Leads u)) [
            | inl leads ↦ elim (cons_cases n (numbers_to it v (suc n) (filter p us)) m
                (subst (λ (xs : List ℕ). Contains xs m) (to_cons_true u (filter p us) n leads) had)) [
                  | inl same ↦ (0, u, refl, is, leads, omega (arith, same))
                  | inr more ↦ later more
                ]
            | inr other ↦ later (subst (λ (xs : List ℕ). Contains xs m) (to_cons_false u (filter p us) n other) had)
          ]
      | inr is ↦
          let deeper = to_found us n m (subst (λ (xs : List ℕ). Contains (numbers_to it v n xs) m) (left u us is) has)
          in
          let at = deeper.5 in
          let same = before_same u us deeper.0 is in
          (suc deeper.0, deeper.1, deeper.2, deeper.3, deeper.4, omega (arith, at, same))
    ]

    -- and each place its number
    pub to_has : (us : List ℕ) (n i u : ℕ) → slice_get us i ≡ Some u → p u ≡ true → Leads u ≡ true →
        Contains (numbers_to it v n (filter p us)) (n + marked_before (map p us) i)
    to_has [] n i u at is leads = absurd cc
    to_has (x ∷ us) n zero u at is leads =
        let same : u ≡ x = cc in
        let mine = subst (λ k. p k ≡ true) same is in
        let goes = subst (λ k. Leads k ≡ true) same leads in
        let first : n ≡ n + 0 = omega arith in
        subst (λ (xs : List ℕ). Contains (numbers_to it v n xs) (n + 0)) (sym (kept x us mine))
        (subst (λ (xs : List ℕ). Contains xs (n + 0)) (sym (to_cons_true x (filter p us) n goes))
        (subst (λ k. Contains (n ∷ numbers_to it v (suc n) (filter p us)) k) first
        (cons_here n (numbers_to it v (suc n) (filter p us)))))
    to_has (x ∷ us) n (suc i) u at is leads = elim (cases_Bool (p x)) [
      | inl mine ↦
          let deeper = to_has us (suc n) i u at is leads in
          let shift = before_more x us i mine in
          let number : suc n + marked_before (map p us) i ≡ n + marked_before (map p (x ∷ us)) (suc i) = omega
          (arith, shift) in
          let had = subst (λ k. Contains (numbers_to it v (suc n) (filter p us)) k) number deeper in
          subst (λ (xs : List ℕ). Contains (numbers_to it v n xs) (n + marked_before (map p (x ∷ us)) (suc i)))
          (sym (kept x us mine)) (elim (cases_Bool (Leads x)) [
            | inl goes ↦
                subst (λ (xs : List ℕ). Contains xs (n + marked_before (map p (x ∷ us)) (suc i)))
                (sym (to_cons_true x (filter p us) n goes)) (cons_later n _ _ had)
            | inr other ↦
                subst (λ (xs : List ℕ). Contains xs (n + marked_before (map p (x ∷ us)) (suc i)))
                (sym (to_cons_false x (filter p us) n other)) had
          ])
      | inr other ↦
          let deeper = to_has us n i u at is leads in
          let same = before_same x us i other in
          let number : n + marked_before (map p us) i ≡ n + marked_before (map p (x ∷ us)) (suc i) = omega
          (arith, same) in
          subst (λ (xs : List ℕ). Contains (numbers_to it v n xs) (n + marked_before (map p (x ∷ us)) (suc i)))
          (sym (left x us other))
          (subst (λ k. Contains (numbers_to it v n (filter p us)) k) number deeper)
    ]

-- ---- numbers from one on

pub numbers_length : (count from : ℕ) → length (numbers count from) ≡ count
numbers_length zero from = refl
numbers_length (suc count) from = ap (λ n. suc n) (numbers_length count (suc from))

-- the i-th of so many numbers from one on is that number plus i
pub numbers_get : (count from i : ℕ) → i < count → slice_get (numbers count from) i ≡ Some (from + i)
numbers_get zero from i lt = absurd (omega (arith, lt))
numbers_get (suc count) from zero lt = let same : from ≡ from + 0 = omega arith in ap (λ k. Some k) same
numbers_get (suc count) from (suc i) lt =
    let same : suc from + i ≡ from + suc i = omega arith in
    numbers_get count (suc from) i (omega (arith, lt)) ∙ ap (λ k. Some k) same

-- so many numbers from one on contain that number plus i, where i is below the count
pub numbers_has : (count from i : ℕ) → i < count → Contains (numbers count from) (from + i)
numbers_has count from i lt =
    let long = numbers_length count from in (
      i,
      omega (arith, lt, long),
      get_or_from_slice_get (numbers count from) i (from + i) (from + i)
          (numbers_get count from i lt),
    )

-- each of so many numbers from one on is that number plus an index below the count
pub numbers_in_range : (count from v : ℕ) → Contains (numbers count from) v → (i : ℕ) × (i < count) × (v ≡ from + i)
numbers_in_range zero from v has = absurd (none_has v has)
numbers_in_range (suc count) from v has = elim (cons_cases from (numbers count (suc from)) v has) [
  | inl same ↦ (0, omega arith, omega (arith, same))
  | inr later ↦ let deeper = numbers_in_range count (suc from) v later in let lt = deeper.1 in let is = deeper.2 in
      (suc deeper.0, omega (arith, lt), omega (arith, is))
]

-- ---- some element

-- where a test holds of some element of a list, there is an element of which it holds
pub any_found : (p : ℕ → Bool) (xs : List ℕ) → list_any p xs ≡ true → (x : ℕ) × Contains xs x × (p x ≡ true)
any_found p [] is = absurd cc
any_found p (x ∷ xs) is = elim (or_cases (p x) (list_any p xs) is) [
  | inl here ↦ (x, cons_here x xs, here)
  | inr later ↦ let deeper = any_found p xs later in (deeper.0, cons_later x xs deeper.0 deeper.1, deeper.2)
]

pub any_from : (p : ℕ → Bool) (xs : List ℕ) (x : ℕ) → Contains xs x → p x ≡ true → list_any p xs ≡ true
any_from p xs x has is = list_any_at p xs has.0 x has.1 (ap p has.2 ∙ is)

-- two lists of one length that have the same elements at each index are one list
same_lists : {X : Type 0} → (xs ys : List X) → length xs ≡ length ys →
    ((i : ℕ) → i < length xs → slice_get xs i ≡ slice_get ys i) → xs ≡ ys
same_lists [] [] size same = refl
same_lists [] (y ∷ ys) size same = absurd (omega (arith, size))
same_lists (x ∷ xs) [] size same = absurd (omega (arith, size))
same_lists (x ∷ xs) (y ∷ ys) size same =
    let head : Some x ≡ Some y = same 0 (omega arith) in
    let rest = same_lists xs ys (omega (arith, size)) (λ i lt. same (suc i) (omega (arith, lt))) in
    cc

-- ---- the nodes of a function

module _ (nodes : Nodes) (vars : List ℕ) (it : Found) (rows : List Summary) (marks : List Bool)
    (are_nodes : AreNodes vars nodes)
    (joins : (u w : ℕ) → Contains vars u → (it.joins u w ≡ true) ↔ HasPair rows u w)
    (are_marks : AreMarks nodes rows marks) where
  abbrev Count : ℕ
  Count = nodes.to - nodes.from

  pub var_at : (i : ℕ) → i < nodes.to - nodes.from → slice_get vars i ≡ Some (nodes.from + i)
  var_at i lt = subst (λ (xs : List ℕ). slice_get xs i ≡ Some (nodes.from + i)) are_nodes.are
      (numbers_get (nodes.to - nodes.from) nodes.from i lt)

  pub var_has : (i : ℕ) → i < nodes.to - nodes.from → Contains vars (nodes.from + i)
  var_has i lt = subst (λ (xs : List ℕ). Contains xs (nodes.from + i)) are_nodes.are
      (numbers_has (nodes.to - nodes.from) nodes.from i lt)

  pub var_place : (v : ℕ) → Contains vars v → (i : ℕ) × (i < nodes.to - nodes.from) × (v ≡ nodes.from + i)
  var_place v has = numbers_in_range (nodes.to - nodes.from) nodes.from v
      (subst (λ (xs : List ℕ). Contains xs v) (sym are_nodes.are) has)

  vars_count : length vars ≡ nodes.to - nodes.from
  vars_count = ap length (sym are_nodes.are) ∙ numbers_length (nodes.to - nodes.from) nodes.from

  -- a node is marked where what is found marks it
  marked_there : (i : ℕ) → i < nodes.to - nodes.from → IsMarked marks i → is_marked it vars (nodes.from + i) ≡ true
  marked_there i lt is =
      let count = are_marks.count in
      let found = (are_marks.marked i (omega (arith, lt, count))).0 is in
      let j = found.0 in
      let within = found.1 in
      let small : j < nodes.to - nodes.from = omega (arith, within, count) in
      let passes : (nodes.from + j ≡ nodes.from + i → ⊥) →
      (it.joins (nodes.from + j) (nodes.from + i) ≡ true) ⊎ (it.joins (nodes.from + i) (nodes.from + j) ≡ true) →
      is_marked it vars (nodes.from + i) ≡ true = λ other some.
      any_from (λ u. not (nat_eq u (nodes.from + i)) && (it.joins u (nodes.from + i) || it.joins (nodes.from + i) u))
      vars (nodes.from + j) (var_has j small)
      (and_from (not (nat_eq (nodes.from + j) (nodes.from + i)))
      (it.joins (nodes.from + j) (nodes.from + i) || it.joins (nodes.from + i) (nodes.from + j))
      (not_from_false (nat_eq (nodes.from + j) (nodes.from + i)) (ne_eqb (nodes.from + j) (nodes.from + i) other))
      (elim some [
        | inl one ↦ or_left (it.joins (nodes.from + j) (nodes.from + i)) (it.joins (nodes.from + i) (nodes.from + j))
            one
        | inr two ↦ or_right (it.joins (nodes.from + j) (nodes.from + i)) (it.joins (nodes.from + i) (nodes.from + j))
            two
      ])) in
      elim found.2 [
        | inl pair ↦ passes (λ same. pair.1 (omega (arith, same)))
            (inr ((joins (nodes.from + i) (nodes.from + j) (var_has i lt)).1 pair.0))
        | inr pair ↦ passes (λ same. pair.1 (omega (arith, same)))
            (inl ((joins (nodes.from + j) (nodes.from + i) (var_has j small)).1 pair.0))
      ]

  marked_back : (i : ℕ) → i < nodes.to - nodes.from → is_marked it vars (nodes.from + i) ≡ true → IsMarked marks i
  marked_back i lt is =
      let count = are_marks.count in
      let at = nodes.from + i in
      let found = any_found (λ u. not (nat_eq u (nodes.from + i)) &&
      (it.joins u (nodes.from + i) || it.joins (nodes.from + i) u)) vars is in
      let u = found.0 in
      let place = var_place found.0 found.1 in
      let small = place.1 in
      let u_is = place.2 in
      let parts = and_parts (not (nat_eq found.0 (nodes.from + i)))
      (it.joins found.0 (nodes.from + i) || it.joins (nodes.from + i) found.0) found.2 in
      let apart = not-true (nat_eq found.0 (nodes.from + i)) parts.0 in
      let other : i ≡ place.0 → ⊥ = λ same.
      let one : found.0 ≡ nodes.from + i = omega (arith, u_is, same) in
      let both : true ≡ false = sym (eq-eqb found.0 (nodes.from + i) one) ∙ apart in absurd cc in
      (are_marks.marked i (omega (arith, lt, count))).1 (
        place.0,
        omega (arith, small, count),
        elim (or_cases (it.joins found.0 (nodes.from + i)) (it.joins (nodes.from + i) found.0) parts.1) [
          | inl from ↦ inr (
            subst (λ k. HasPair rows k (nodes.from + i)) u_is
                ((joins found.0 (nodes.from + i) found.1).0 from),
            λ same. other (sym same),
          )
          | inr to ↦ inl (
            subst (λ k. HasPair rows (nodes.from + i) k) u_is
                ((joins (nodes.from + i) found.0 (var_has i lt)).0 to),
            other,
          )
        ],
      )

  mark_read : (i : ℕ) (lt : i < nodes.to - nodes.from) → slice_get marks i ≡ Some (is_marked it vars (nodes.from + i))
  mark_read i lt =
      let count = are_marks.count in
      let read = slice_get-get_or marks i false (omega (arith, lt, count)) in
      read ∙ ap (λ (b : Bool). Some b) (same_test (get_or marks i false) (is_marked it vars (nodes.from + i))
      (λ is. marked_there i lt (read ∙ ap (λ (b : Bool). Some b) is))
      (λ is. get_or_from_slice_get marks i true false (marked_back i lt is)))

  pub marks_are : marks ≡ map (is_marked it vars) vars
  marks_are =
      let count = are_marks.count in
      let long = vars_count in
      same_lists marks (map (is_marked it vars) vars) (count ∙ sym (map_length (is_marked it vars) vars ∙ vars_count))
      (λ i lt.
      let small : i < nodes.to - nodes.from = omega (arith, lt, count) in
      mark_read i small ∙ sym (slice_get-map (is_marked it vars) vars i
      ∙ ap (option_map (is_marked it vars)) (var_at i small)))

  -- the index word of a node
  pub index_is : (j : ℕ) → j < nodes.to - nodes.from → (list : List ℕ) → IsIndexOf nodes rows marks j list →
      list ≡ numbers_of it vars (nodes.from + j)
  index_is j lt list is = elim (cases_Bool (is_marked it vars (nodes.from + j))) [
    | inl mine ↦
        same_ascending list (numbers_to it (nodes.from + j) 1 (marked it vars)) is.ascending
        (to_ascending it (nodes.from + j) (marked it vars) 1)
        (λ m has. there m ((is.are m).0 has))
        (λ m has. back m mine (to_found it (nodes.from + j) (is_marked it vars) vars 1 m has))
        ∙ sym (cond-true (is_marked it vars (nodes.from + j)) (numbers_to it (nodes.from + j) 1 (marked it vars)) []
        mine)
    | inr other ↦
        none list (λ m has.
        let found = (is.are m).0 has in
        let both : true ≡ false = sym (marked_there j lt found.2) ∙ other in absurd cc)
        ∙ sym (cond-false (is_marked it vars (nodes.from + j)) (numbers_to it (nodes.from + j) 1 (marked it vars)) []
        other)
  ]
    where
      none : (xs : List ℕ) → ((m : ℕ) → Contains xs m → ⊥) → xs ≡ []
      none [] lacks = refl
      none (x ∷ xs) lacks = absurd (lacks x (cons_here x xs))

      there : (m : ℕ) → ((i : ℕ) × (slice_get marks i ≡ Some true) × (slice_get marks j ≡ Some true) ×
          (marked_up_to marks i ≡ m) × ((i ≡ j) ⊎ HasPair rows (nodes.from + i) (nodes.from + j))) →
          Contains (numbers_to it (nodes.from + j) 1 (marked it vars)) m
      there m found =
          let i = found.0 in
          let count = are_marks.count in
          let within = slice_get_within marks found.0 true found.1 in
          let small : found.0 < nodes.to - nodes.from = omega (arith, within, count) in
          let leads : Leads it (nodes.from + j) (nodes.from + found.0) ≡ true = elim found.4 [
            | inl same ↦ or_left (nat_eq (nodes.from + found.0) (nodes.from + j))
                (it.joins (nodes.from + found.0) (nodes.from + j))
                (eq-eqb (nodes.from + found.0) (nodes.from + j) (omega (arith, same)))
            | inr pair ↦ or_right (nat_eq (nodes.from + found.0) (nodes.from + j))
                (it.joins (nodes.from + found.0) (nodes.from + j))
                ((joins (nodes.from + found.0) (nodes.from + j) (var_has found.0 small)).1 pair)
          ] in
          let has = to_has it (nodes.from + j) (is_marked it vars) vars 1 found.0 (nodes.from + found.0)
          (var_at found.0 small) (marked_there found.0 small found.1) leads in
          let up = up_to_is marks found.0 found.1 in
          let same = ap (λ (ms : List Bool). marked_before ms found.0) marks_are in
          let up_is = found.3 in
          let number : 1 + marked_before (map (is_marked it vars) vars) found.0 ≡ m = omega (arith, up, same, up_is) in
          subst (λ k. Contains (numbers_to it (nodes.from + j) 1 (marked it vars)) k) number has

      back : (m : ℕ) → is_marked it vars (nodes.from + j) ≡ true →
          ((i : ℕ) × (u : ℕ) × (slice_get vars i ≡ Some u) × (is_marked it vars u ≡ true) ×
          (Leads it (nodes.from + j) u ≡ true) × (m ≡ 1 + marked_before (map (is_marked it vars) vars) i)) →
          Contains list m
      back m mine found =
          let i = found.0 in
          let long = vars_count in
          let within = slice_get_within vars found.0 found.1 found.2 in
          let small : found.0 < nodes.to - nodes.from = omega (arith, within, long) in
          let one : Some (nodes.from + found.0) ≡ Some found.1 = sym (var_at found.0 small) ∙ found.2 in
          let u_is : found.1 ≡ nodes.from + found.0 = cc in
          let is_one = marked_back found.0 small (subst (λ k. is_marked it vars k ≡ true) u_is found.3) in
          let leads : Leads it (nodes.from + j) (nodes.from + found.0) ≡ true = subst
          (λ k. Leads it (nodes.from + j) k ≡ true) u_is found.4 in
          let up = up_to_is marks found.0 is_one in
          let same = ap (λ (ms : List Bool). marked_before ms found.0) marks_are in
          let m_is = found.5 in
          (is.are m).1 (
            found.0,
            is_one,
            marked_back j lt mine,
            omega (arith, up, same, m_is),
            elim (or_cases (nat_eq (nodes.from + found.0) (nodes.from + j))
                (it.joins (nodes.from + found.0) (nodes.from + j)) leads) [
                  | inl eq ↦ let together = eqb-true (nodes.from + found.0) (nodes.from + j) eq in
                      inl (omega (arith, together))
                  | inr pair ↦ inr ((joins (nodes.from + found.0) (nodes.from + j) (var_has found.0 small)).0 pair)
                ],
          )
