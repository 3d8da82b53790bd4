-- Numbers put into lists.
use Rattle.std.proofs.Common.{◌≡◌, ℕ, zero, suc, ◌+◌, ◌-◌, ◌<◌, ◌≤◌, nat_eq, Bool, true, false, ◌⊎◌, inl, inr, List, []}
use Rattle.std.proofs.Common.{◌∷◌, ◌++◌, length, length-append, length-set, set, slice_get, get_or, Option, None, Some}
use Rattle.std.proofs.Common.{Vec, refl, sym, ◌∙◌, ap, subst, arith, rules}
use Rattle.std.specs.Global.{Global}
use Rattle.std.specs.List.{Contains}
use Rattle.std.proofs.lemmas.Bool.{cases_lt, cases_eq, cases_Bool, cond-true, cond-false, eqb-true}
use Rattle.std.proofs.lemmas.Option.{slice_get_within, slice_get_cases, slice_get_read, get_or_from_slice_get}
use Rattle.std.proofs.lemmas.List.Elements.{Contains-append_left, Contains-push_cases}
use Rattle.index_words.specs.Marks.{AreAscending}
use Rattle.match_summary.specs.declared.reason.Summary.{Summary}
use Rattle.match_summary.specs.Summary.{HasPair}
use Rattle.sig_writer.specs.declared.nodes.Nodes.{Nodes}
use Rattle.sig_writer.specs.declared.marks.Pair.{Pair}
use Rattle.sig_writer.specs.Marks.{AreIndicesOf, AreMarks, IsIndexOf, IsJoined, marked_up_to}
use Rattle.sig_writer.specs.Marking.{AreUpTo, IsIndexUpTo, IsLastEnd, IsMarked, Puts, Reaches, SomeFrom, ends_with}
use Rattle.sig_writer.specs.Marking.{is_some_number, items_at, marked_before, with_last}
use Rattle.sig_writer.proofs.Marking.{joins_pair, row_pair}

-- ---- a number at the end

eq_self : (n : ℕ) → nat_eq n n ≡ true
eq_self n = search rules

pushed_last : (list : List ℕ) (n : ℕ) → slice_get (list ++ n ∷ []) (length list) ≡ Some n
pushed_last [] n = refl
pushed_last (m ∷ ms) n = pushed_last ms n

-- a list with a number put at its end ends with it
ends_pushed : (list : List ℕ) (n : ℕ) → ends_with (list ++ n ∷ []) n ≡ true
ends_pushed list n =
    let long = length-append list (n ∷ []) in
    let last : length (list ++ n ∷ []) - 1 ≡ length list = omega (arith, long) in
    ap (λ k. is_some_number (slice_get (list ++ n ∷ []) k) n) last
    ∙ ap (λ (it : Option ℕ). is_some_number it n) (pushed_last list n) ∙ eq_self n

-- a list that ends with a number contains it
ends_has : (list : List ℕ) (n : ℕ) → ends_with list n ≡ true → Contains list n
ends_has list n ends = elim (slice_get_cases list (length list - 1)).1 [
  | inl found ↦
      let is : nat_eq found.0 n ≡ true = ap (λ (it : Option ℕ). is_some_number it n) (sym found.2) ∙ ends in
      let same : found.0 ≡ n = eqb-true found.0 n is in
      (length list - 1, found.1, get_or_from_slice_get list (length list - 1) found.0 n found.2 ∙ same)
  | inr past ↦ let none : is_some_number None n ≡ true = ap (λ (it : Option ℕ). is_some_number it n) (sym past.1)
      ∙ ends in absurd cc
]

-- a number put last leaves a list that ends with it, or else stands behind the list
pub with_last_cases : (list : List ℕ) (n : ℕ) → ((ends_with list n ≡ true) × (with_last list n ≡ list)) ⊎
    (with_last list n ≡ list ++ n ∷ [])
with_last_cases list n = elim (cases_Bool (ends_with list n)) [
  | inl ends ↦ inl (ends, cond-true (ends_with list n) list (list ++ n ∷ []) ends)
  | inr other ↦ inr (cond-false (ends_with list n) list (list ++ n ∷ []) other)
]

-- a list with a number put last ends with it
ends_last : (list : List ℕ) (n : ℕ) → ends_with (with_last list n) n ≡ true
ends_last list n = elim (with_last_cases list n) [
  | inl same ↦ ap (λ (xs : List ℕ). ends_with xs n) same.1 ∙ same.0
  | inr more ↦ ap (λ (xs : List ℕ). ends_with xs n) more ∙ ends_pushed list n
]

pub with_last_twice : (list : List ℕ) (n : ℕ) → with_last (with_last list n) n ≡ with_last list n
with_last_twice list n = cond-true (ends_with (with_last list n) n) (with_last list n) (with_last list n ++ n ∷ [])
    (ends_last list n)

-- putting a number last keeps the numbers of the list
last_kept : (list : List ℕ) (n m : ℕ) → Contains list m → Contains (with_last list n) m
last_kept list n m has = elim (with_last_cases list n) [
  | inl same ↦ subst (λ (xs : List ℕ). Contains xs m) (sym same.1) has
  | inr more ↦ subst (λ (xs : List ℕ). Contains xs m) (sym more) (Contains-append_left list (n ∷ []) m has)
]

last_has : (list : List ℕ) (n : ℕ) → Contains (with_last list n) n
last_has list n = ends_has (with_last list n) n (ends_last list n)

-- a number of a list with one put last was in the list, or is that one
last_only : (list : List ℕ) (n m : ℕ) → Contains (with_last list n) m → Contains list m ⊎ (n ≡ m)
last_only list n m has = elim (with_last_cases list n) [
  | inl same ↦ inl (subst (λ (xs : List ℕ). Contains xs m) same.1 has)
  | inr more ↦ Contains-push_cases list n m (subst (λ (xs : List ℕ). Contains xs m) more has)
]

-- an ascending list stays so with a number behind it that is above all of its own
ascending_push : (list : List ℕ) (n : ℕ) → AreAscending list → ((m : ℕ) → Contains list m → m < n) →
    AreAscending (list ++ n ∷ [])
ascending_push [] n are less = tt
ascending_push (m ∷ []) n are less = (less m (0, omega arith, refl), tt)
ascending_push (m ∷ k ∷ ms) n are less =
    (are.0, ascending_push (k ∷ ms) n are.1 (λ x has. less x (suc has.0, (let lt = has.1 in omega (arith, lt)), has.2)))

-- an ascending list stays so with a number put last that is above all of its own
last_ascending : (list : List ℕ) (n : ℕ) → AreAscending list → ((m : ℕ) → Contains list m → m < n) →
    AreAscending (with_last list n)
last_ascending list n are less = elim (with_last_cases list n) [
  | inl same ↦ subst AreAscending (sym same.1) are
  | inr more ↦ subst AreAscending (sym more) (ascending_push list n are less)
]

-- ---- lists by their places

-- an element behind others
pub pushed_cases : {X : Type 0} → (xs : List X) (y : X) (k : ℕ) (x : X) → slice_get (xs ++ y ∷ []) k ≡ Some x →
    (slice_get xs k ≡ Some x) ⊎ ((k ≡ length xs) × (y ≡ x))
pushed_cases [] y zero x is = inr (refl, cc)
pushed_cases [] y (suc k) x is = absurd cc
pushed_cases (z ∷ xs) y zero x is = inl is
pushed_cases (z ∷ xs) y (suc k) x is = elim (pushed_cases xs y k x is)
    [ inl early ↦ inl early | inr last ↦ inr (ap (λ n. suc n) last.0, last.1) ]

-- the items at an index are those of the list that is there
pub items_get : (lists : List (Vec ℕ Global)) (j : ℕ) (list : Vec ℕ Global) → slice_get lists j ≡ Some list →
    items_at lists j ≡ list.items
items_get [] j list is = absurd cc
items_get (x ∷ xs) zero list is = let same : x ≡ list = cc in ap (λ (l : Vec ℕ Global). l.items) same
items_get (x ∷ xs) (suc j) list is = items_get xs j list is

-- a list that was read at a place
pub items_read : (lists : List (Vec ℕ Global)) (at : ℕ) (list : Vec ℕ Global) → at < length lists →
    list ≡ get_or lists at list → list.items ≡ items_at lists at
items_read lists at list lt is = sym (items_get lists at list (slice_get_read lists (length lists) at list refl lt is))

-- the items at an index that is set are those of the new list
items_set_here : (lists : List (Vec ℕ Global)) (at : ℕ) (list : Vec ℕ Global) → at < length lists →
    items_at (set lists at list) at ≡ list.items
items_set_here [] at list lt = absurd (omega (arith, lt))
items_set_here (x ∷ xs) zero list lt = refl
items_set_here (x ∷ xs) (suc at) list lt = items_set_here xs at list (omega (arith, lt))

-- at any other index the items stay as they were when one list is set
items_set_other : (lists : List (Vec ℕ Global)) (at j : ℕ) (list : Vec ℕ Global) → (at ≡ j → ⊥) →
    items_at (set lists at list) j ≡ items_at lists j
items_set_other [] at j list other = refl
items_set_other (x ∷ xs) zero zero list other = absurd (other refl)
items_set_other (x ∷ xs) zero (suc j) list other = refl
items_set_other (x ∷ xs) (suc at) zero list other = refl
items_set_other (x ∷ xs) (suc at) (suc j) list other = items_set_other xs at j list
    (λ same. other (ap (λ n. suc n) same))

-- an index without items has none with an empty list behind all
pub items_push : (lists : List (Vec ℕ Global)) (list : Vec ℕ Global) (j : ℕ) → list.items ≡ [] →
    items_at lists j ≡ [] → items_at (lists ++ list ∷ []) j ≡ []
items_push [] list zero none is = none
items_push [] list (suc j) none is = refl
items_push (x ∷ xs) list zero none is = is
items_push (x ∷ xs) list (suc j) none is = items_push xs list j none is

-- setting the list at an index to its own with a number put last puts the number there and nowhere else
pub puts_at : (number at : ℕ) (lists : List (Vec ℕ Global)) (list : Vec ℕ Global) → at < length lists →
    list.items ≡ with_last (items_at lists at) number →
    Puts (λ j. at ≡ j) number lists (set lists at list)
puts_at number at lists list lt is = record {
  size = length-set lists at list;
  done = λ j within same. there j same;
  only = λ j. elim (cases_eq at j) [
    | inl same ↦ inl (same, there j same)
    | inr other ↦ inr (items_set_other lists at j list other)
  ];
}
  where
    there : (j : ℕ) → at ≡ j → items_at (set lists at list) j ≡ with_last (items_at lists j) number
    there j same = subst (λ k. items_at (set lists at list) k ≡ with_last (items_at lists k) number) same
        (items_set_here lists at list lt ∙ is)

-- a number is put into more lists
pub puts_both : (A B : ℕ → Type 0) (number : ℕ) (x y z : List (Vec ℕ Global)) → Puts A number x y → Puts B number y z →
    Puts (λ j. A j ⊎ B j) number x z
puts_both A B number x y z p q = record {
  size = q.size ∙ p.size;
  done = λ j lt is. elim is [
    | inl a ↦ let first = p.done j lt a in elim (q.only j) [
      | inl put ↦ put.1 ∙ ap (λ (xs : List ℕ). with_last xs number) first ∙ with_last_twice (items_at x j) number
      | inr same ↦ same ∙ first
    ]
    | inr b ↦ let size = p.size in q.done j (omega (arith, lt, size)) b ∙ elim (p.only j) [
      | inl put ↦ ap (λ (xs : List ℕ). with_last xs number) put.1 ∙ with_last_twice (items_at x j) number
      | inr same ↦ ap (λ (xs : List ℕ). with_last xs number) same
    ]
  ];
  only = λ j. elim (q.only j) [
    | inl put ↦ inl (
      inr put.0,
      put.1 ∙ elim (p.only j) [
        | inl early ↦ ap (λ (xs : List ℕ). with_last xs number) early.1 ∙ with_last_twice (items_at x j) number
        | inr same ↦ ap (λ (xs : List ℕ). with_last xs number) same
      ],
    )
    | inr same ↦ elim (p.only j) [
      | inl put ↦ inl (inl put.0, same ∙ put.1)
      | inr alike ↦ inr (same ∙ alike)
    ]
  ];
}

-- putting a number into the lists that one test tells is putting it where an equal test tells
pub puts_as : (A B : ℕ → Type 0) (number : ℕ) (x y : List (Vec ℕ Global)) → ((j : ℕ) → A j → B j) →
    ((j : ℕ) → j < length x → B j → A j) → Puts A number x y → Puts B number x y
puts_as A B number x y more less p = record {
  size = p.size;
  done = λ j lt is. p.done j lt (less j lt is);
  only = λ j. elim (p.only j) [ inl put ↦ inl (more j put.0, put.1) | inr same ↦ inr same ];
}

-- the last end of a summary
pub puts_end : (nodes : Nodes) (row : Summary) (pair : Pair) → IsJoined nodes row pair →
    (number : ℕ) (x y : List (Vec ℕ Global)) → Puts (λ j. pair.to ≡ j) number x y →
    Puts (IsLastEnd nodes row) number x y
puts_end nodes row pair joined number x y put = puts_as (λ j. pair.to ≡ j) (IsLastEnd nodes row) number x y
    (λ j same. (pair, joined, same))
    (λ j lt end. let one = joined.2 in let two = end.1.2 in let to = end.2 in omega (arith, one, two, to)) put

-- ---- the nodes that a node reaches

module _ (nodes : Nodes) (rows : List Summary) (n : ℕ) (within : n < nodes.to - nodes.from) where
  pub reached : (from j : ℕ) → from ≡ nodes.from + n → (n ≡ j) ⊎ SomeFrom rows from (λ row. IsLastEnd nodes row j) →
      Reaches nodes rows n j
  reached from j is (inl same) = inl same
  reached from j is (inr some) =
      let row = some.1 in
      let pair = some.4.0 in
      let joined = some.4.1 in
      let has = row_pair nodes rows some.0 row some.2 in
      let to : row.to ≡ nodes.from + j = sym joined.2 ∙ ap (λ k. nodes.from + k) some.4.2 in
      inr (subst (λ k. HasPair rows k (nodes.from + j)) (some.3 ∙ is) (subst (λ k. HasPair rows row.from k) to has))

  pub reaching : (from j : ℕ) → from ≡ nodes.from + n → j < nodes.to - nodes.from → Reaches nodes rows n j →
      (n ≡ j) ⊎ SomeFrom rows from (λ row. IsLastEnd nodes row j)
  reaching from j is lt (inl same) = inl same
  reaching from j is lt (inr has) = elim (cases_eq n j) [
    | inl same ↦ inl same
    | inr other ↦
        let place = joins_pair nodes rows n j within lt (has, other) in
        inr (place.0, place.1, place.2, place.3 ∙ sym is, (record { from = n; to = j }, place.4, refl))
  ]

  pub puts_reached : (from : ℕ) → from ≡ nodes.from + n → (number : ℕ) (x y z : List (Vec ℕ Global)) →
      length x ≡ nodes.to - nodes.from → Puts (λ j. n ≡ j) number x y →
      Puts (λ j. SomeFrom rows from (λ row. IsLastEnd nodes row j)) number y z → Puts (Reaches nodes rows n) number x z
  puts_reached from is number x y z size own others = puts_as
      (λ j. (n ≡ j) ⊎ SomeFrom rows from (λ row. IsLastEnd nodes row j)) (Reaches nodes rows n) number x z
      (λ j. reached from j is) (λ j lt. reaching from j is (omega (arith, lt, size)))
      (puts_both (λ j. n ≡ j) (λ j. SomeFrom rows from (λ row. IsLastEnd nodes row j)) number x y z own others)

-- ---- how many are marked

-- up to a marked node, one more is marked than before it
pub up_to_is : (marks : List Bool) (i : ℕ) → IsMarked marks i → marked_up_to marks i ≡ suc (marked_before marks i)
up_to_is [] i is = absurd cc
up_to_is (true ∷ marks) zero is = refl
up_to_is (true ∷ marks) (suc i) is = ap (λ n. suc n) (up_to_is marks i is)
up_to_is (false ∷ marks) zero is = absurd cc
up_to_is (false ∷ marks) (suc i) is = up_to_is marks i is

-- behind a marked node the count of marked nodes before goes up by one
before_marked : (marks : List Bool) (n : ℕ) → IsMarked marks n →
    marked_before marks (suc n) ≡ suc (marked_before marks n)
before_marked [] n is = absurd cc
before_marked (true ∷ []) zero is = refl
before_marked (true ∷ m ∷ marks) zero is = refl
before_marked (true ∷ marks) (suc n) is = ap (λ n. suc n) (before_marked marks n is)
before_marked (false ∷ marks) zero is = absurd cc
before_marked (false ∷ marks) (suc n) is = before_marked marks n is

pub before_marked_one : (marks : List Bool) (n : ℕ) → IsMarked marks n →
    marked_before marks (n + 1) ≡ suc (marked_before marks n)
before_marked_one marks n is = let up : n + 1 ≡ suc n = omega arith in ap (λ k. marked_before marks k) up
    ∙ before_marked marks n is

-- behind a node that is not marked the count of marked nodes before stays
before_other : (marks : List Bool) (n : ℕ) → slice_get marks n ≡ Some false →
    marked_before marks (suc n) ≡ marked_before marks n
before_other [] n is = absurd cc
before_other (true ∷ marks) zero is = absurd cc
before_other (true ∷ marks) (suc n) is = ap (λ n. suc n) (before_other marks n is)
before_other (false ∷ []) zero is = refl
before_other (false ∷ m ∷ marks) zero is = refl
before_other (false ∷ marks) (suc n) is = before_other marks n is

pub before_other_one : (marks : List Bool) (n : ℕ) → slice_get marks n ≡ Some false →
    marked_before marks (n + 1) ≡ marked_before marks n
before_other_one marks n is = let up : n + 1 ≡ suc n = omega arith in ap (λ k. marked_before marks k) up
    ∙ before_other marks n is

pub before_none : (marks : List Bool) → marked_before marks 0 ≡ 0
before_none [] = refl
before_none (mark ∷ marks) = refl

-- of the nodes before n at most n are marked
pub before_few : (marks : List Bool) (n : ℕ) → marked_before marks n ≤ n
before_few [] n = omega arith
before_few (m ∷ marks) zero = omega arith
before_few (true ∷ marks) (suc n) = let deeper = before_few marks n in omega (arith, deeper)
before_few (false ∷ marks) (suc n) = let deeper = before_few marks n in omega (arith, deeper)

-- ---- a node more

module _ (nodes : Nodes) (rows : List Summary) (marks : List Bool) (are_marks : AreMarks nodes rows marks) where
  pub up_to_none : (lists : List (Vec ℕ Global)) → length lists ≡ length marks → ((j : ℕ) → items_at lists j ≡ []) →
      AreUpTo nodes rows marks 0 lists
  up_to_none lists size none = record {
    count = size;
    are = λ j lt. subst (λ (xs : List ℕ). IsIndexUpTo nodes rows marks 0 j xs) (sym (none j)) (record {
      ascending = tt;
      few = λ m has. let lt = has.1 in absurd (omega (arith, lt));
      are = λ m. (
        (λ has. let lt = has.1 in absurd (omega (arith, lt))),
        λ is. let lt = is.1 in
            absurd (omega (arith, lt)),
      );
    });
  }

  pub up_to_all : (lists : List (Vec ℕ Global)) → AreUpTo nodes rows marks (length marks) lists →
      AreIndicesOf nodes rows lists
  up_to_all lists all = record {
    marks = marks;
    are_marks = are_marks;
    count = all.count;
    are = λ j list there.
        let is = all.are j (slice_get_within lists j list there) in
        let whole : IsIndexOf nodes rows marks j (items_at lists j) = record {
          ascending = is.ascending;
          are = λ m. (
            (λ has. let found = (is.are m).0 has in (found.0, found.2, found.3, found.4, found.5)),
            λ found. (is.are m).1 (
              found.0,
              slice_get_within marks found.0 true found.1,
              found.1,
              found.2,
              found.3,
              found.4,
            ),
          );
        } in
        subst (λ (xs : List ℕ). IsIndexOf nodes rows marks j xs) (items_get lists j list there) whole;
  }

  -- a node that is not marked
  pub up_to_other : (lists : List (Vec ℕ Global)) (n : ℕ) → slice_get marks n ≡ Some false →
      AreUpTo nodes rows marks n lists → AreUpTo nodes rows marks (n + 1) lists
  up_to_other lists n other all = record {
    count = all.count;
    are = λ j lt.
        let is = all.are j lt in
        record {
          ascending = is.ascending;
          few = λ m has. let few = is.few m has in let same = before_other_one marks n other in
              omega (arith, few, same);
          are = λ m. (
            (λ has. let found = (is.are m).0 has in let lt = found.1 in
                (found.0, omega (arith, lt), found.2, found.3, found.4, found.5)),
            λ found.
                let lt = found.1 in
                let apart : found.0 ≡ n → ⊥ = λ same. let both : Some true ≡ Some false = sym found.2
                ∙ ap (λ k. slice_get marks k) same ∙ other in absurd cc in
                (is.are m).1 (
                  found.0,
                  (elim (cases_lt found.0 n)
                      [ inl less ↦ less | inr least ↦ absurd (apart (omega (arith, lt, least))) ]),
                  found.2,
                  found.3,
                  found.4,
                  found.5,
                ),
          );
        };
  }

  -- what a marked node reaches is marked
  reached_marked : (n j : ℕ) → IsMarked marks n → j < length marks → Reaches nodes rows n j → IsMarked marks j
  reached_marked n j is lt (inl same) = subst (λ k. IsMarked marks k) same is
  reached_marked n j is lt (inr has) = elim (cases_eq n j) [
    | inl same ↦ subst (λ k. IsMarked marks k) same is
    | inr other ↦ (are_marks.marked j lt).1 (n, slice_get_within marks n true is, inr (has, other))
  ]

  -- a marked node
  pub up_to_marked : (old new : List (Vec ℕ Global)) (n number : ℕ) → IsMarked marks n →
      number ≡ suc (marked_before marks n) → Puts (Reaches nodes rows n) number old new →
      AreUpTo nodes rows marks n old → AreUpTo nodes rows marks (n + 1) new
  up_to_marked old new n number marked number_is put all = record {
    count = put.size ∙ all.count;
    are = λ j lt.
        let size = put.size in
        let count = all.count in
        let within : j < length old = omega (arith, lt, size) in
        let is = all.are j within in
        let more = before_marked_one marks n marked in
        let few : (m : ℕ) → Contains (items_at old j) m → m < number = λ m has. let least = is.few m has in
        omega (arith, least, number_is) in
        let goes : (m : ℕ) → Contains (items_at old j) m → Contains (items_at new j) m = λ m has. elim (put.only j) [
          | inl it ↦ subst (λ (xs : List ℕ). Contains xs m) (sym it.1) (last_kept (items_at old j) number m has)
          | inr same ↦ subst (λ (xs : List ℕ). Contains xs m) (sym same) has
        ] in
        let comes : (m : ℕ) → Contains (items_at new j) m →
        Contains (items_at old j) m ⊎ ((number ≡ m) × Reaches nodes rows n j) = λ m has. elim (put.only j) [
          | inl it ↦ elim (last_only (items_at old j) number m (subst (λ (xs : List ℕ). Contains xs m) it.1 has))
              [ inl early ↦ inl early | inr last ↦ inr (last, it.0) ]
          | inr same ↦ inl (subst (λ (xs : List ℕ). Contains xs m) same has)
        ] in
        record {
          ascending = elim (put.only j) [
            | inl it ↦ subst AreAscending (sym it.1) (last_ascending (items_at old j) number is.ascending few)
            | inr same ↦ subst AreAscending (sym same) is.ascending
          ];
          few = λ m has. elim (comes m has) [
            | inl early ↦ let least = is.few m early in omega (arith, least, more)
            | inr last ↦ let at = last.0 in omega (arith, at, number_is, more)
          ];
          are = λ m. (
            (λ has. elim (comes m has) [
              | inl early ↦ let found = (is.are m).0 early in let lt = found.1 in
                  (found.0, omega (arith, lt), found.2, found.3, found.4, found.5)
              | inr last ↦ (
                n,
                omega arith,
                marked,
                reached_marked n j marked (omega (arith, within, count)) last.1,
                up_to_is
                    marks n marked ∙ sym number_is ∙ last.0,
                last.1,
              )
            ]),
            λ found.
                let lt = found.1 in
                elim (cases_lt found.0 n) [
                  | inl less ↦ goes m ((is.are m).1 (found.0, less, found.2, found.3, found.4, found.5))
                  | inr least ↦
                      let same : found.0 ≡ n = omega (arith, lt, least) in
                      let reaches : Reaches nodes rows n j = subst (λ k. Reaches nodes rows k j) same found.5 in
                      let at : number ≡ m = number_is ∙ sym (up_to_is marks n marked)
                      ∙ ap (λ k. marked_up_to marks k) (sym same) ∙ found.4 in
                      subst (λ k. Contains (items_at new j) k) at
                      (subst (λ (xs : List ℕ). Contains xs number) (sym (put.done j within reaches))
                      (last_has (items_at old j) number))
                ],
          );
        };
  }
