-- What is kept of the candidates of a pick, with one more behind them, and what is read from it.
use Rattle.std.proofs.Common.{◌≡◌, ◌∙◌, sym, ap, refl, ℕ, suc, ◌+◌, ◌-◌, ◌<◌, ◌≤◌, arith, Bool, true, false, if◌then◌else◌, List, [], ◌∷◌, ◌++◌, append-nil, append_assoc}
use Rattle.qual_types.specs.declared.row.VarRow.{VarRow}
use Rattle.qual_types.specs.Skel.{Skel}
use Rattle.row_rules.specs.Worlds.{World, at}
use Rattle.row_rules.specs.Vals.{Val, Candidate, a_value, value, no_zeros, or_all, left_of, value_of_left, pick_of}
use Rattle.row_rules.specs.RowSteps.State.{State}
use Rattle.row_rules.specs.RowSteps.Steps.{candidate_at, selected}
use Rattle.name_rules.specs.ShapeSteps.Steps.{twice}
use Rattle.row_world.specs.Shown.{val_in}
use Rattle.skel_steps.specs.declared.picks.Count.{Count}
use Rattle.skel_steps.specs.declared.picks.PickedVal.{PickedVal}
use Rattle.skel_steps.specs.Picks.{IsPickedVal, count_of, more_than, first_by, first_val, is_several, are_several, fresh_by, value_by, pick_by, with_candidate}

-- the count of candidates with one more at their end is one more: none, one or several
one_more : (all : List Candidate) (c : Candidate) → count_of (all ++ c ∷ []) ≡ more_than (count_of all)
one_more [] c = refl
one_more (it ∷ []) c = refl
one_more (it ∷ other ∷ others) c = refl

-- the first of candidates with one more at their end is the first of them, or this one where there is none
first_more : (all : List Candidate) (c : Candidate) →
    first_val (all ++ c ∷ []) ≡ first_by (count_of all) (first_val all) c.val
first_more [] c = refl
first_more (it ∷ []) c = refl
first_more (it ∷ other ∷ others) c = refl

-- a zero more leaves the candidates that are no zeros as they were
zero_more : (all : List Candidate) (c : Candidate) → c.is_zero ≡ true → no_zeros (all ++ c ∷ []) ≡ no_zeros all
zero_more [] c e = rw e refl
zero_more (it ∷ others) c e = by (zero_more others c e) it.is_zero where
  by : no_zeros (others ++ c ∷ []) ≡ no_zeros others → (b : Bool) →
      (if b then no_zeros (others ++ c ∷ []) else it ∷ no_zeros (others ++ c ∷ [])) ≡
      (if b then no_zeros others else it ∷ no_zeros others)
  by h true = h
  by h false = ap (λ some. it ∷ some) h

-- a candidate more that is no zero comes behind those that are none
other_more : (all : List Candidate) (c : Candidate) → c.is_zero ≡ false →
    no_zeros (all ++ c ∷ []) ≡ no_zeros all ++ c ∷ []
other_more [] c e = rw e refl
other_more (it ∷ others) c e = by (other_more others c e) it.is_zero where
  by : no_zeros (others ++ c ∷ []) ≡ no_zeros others ++ c ∷ [] → (b : Bool) →
      (if b then no_zeros (others ++ c ∷ []) else it ∷ no_zeros (others ++ c ∷ [])) ≡
      ((if b then no_zeros others else it ∷ no_zeros others) ++ c ∷ [])
  by h true = h
  by h false = ap (λ some. it ∷ some) h

-- one more candidate leaves the first value that of the list
first_added : (all : List Candidate) (c : Candidate) (count : Count) (old new : Val) → count ≡ count_of all →
    old ≡ first_val all → new ≡ first_by count old c.val → new ≡ first_val (all ++ c ∷ [])
first_added all c count old new count_is old_is is =
    is ∙ ap (λ n. first_by n old c.val) count_is ∙ ap (λ v. first_by (count_of all) v c.val) old_is
    ∙ sym (first_more all c)

-- one more that is a zero
pub zero_added : (rows : List VarRow) (all : List Candidate) (c : Candidate) (old new : PickedVal)
    → IsPickedVal rows all old →
    c.is_zero ≡ true → new.count ≡ more_than old.count →
    val_in rows new.first ≡ first_by old.count (val_in rows old.first) c.val → new.others ≡ old.others →
    new.first_other ≡ old.first_other → IsPickedVal rows (all ++ c ∷ []) new
zero_added rows all c old new h is_zero count first others first_other =
    record {
      count = count ∙ ap more_than h.count ∙ sym (one_more all c);
      others = others ∙ h.others ∙ ap count_of (sym (zero_more all c is_zero));
      first = first_added all c old.count (val_in rows old.first) (val_in rows new.first) h.count h.first first;
      first_other = ap (val_in rows) first_other ∙ h.first_other ∙ ap first_val (sym (zero_more all c is_zero));
    }

-- one more that is none
pub other_added : (rows : List VarRow) (all : List Candidate) (c : Candidate) (old new : PickedVal)
    → IsPickedVal rows all old →
    c.is_zero ≡ false → new.count ≡ more_than old.count →
    val_in rows new.first ≡ first_by old.count (val_in rows old.first) c.val → new.others ≡ more_than old.others →
    val_in rows new.first_other ≡ first_by old.others (val_in rows old.first_other) c.val →
    IsPickedVal rows (all ++ c ∷ []) new
other_added rows all c old new h other count first others first_other =
    record {
      count = count ∙ ap more_than h.count ∙ sym (one_more all c);
      others =
          others ∙ ap more_than h.others ∙ sym (one_more (no_zeros all) c) ∙ ap count_of (sym (other_more all c other));
      first = first_added all c old.count (val_in rows old.first) (val_in rows new.first) h.count h.first first;
      first_other =
          first_added (no_zeros all) c old.others (val_in rows old.first_other) (val_in rows new.first_other) h.others
          h.first_other first_other ∙ ap first_val (sym (other_more all c other));
    }

-- whether several are left, by the counts

-- the count of candidates says that there are several exactly where there are
several : (all : List Candidate) → are_several (count_of all) ≡ is_several all
several [] = refl
several (it ∷ []) = refl
several (it ∷ other ∷ others) = refl

-- a pick is fresh by the counts of candidates exactly where several are left of them
fresh_left : (all : List Candidate) → fresh_by (count_of (no_zeros all)) (count_of all) ≡ is_several (left_of all)
fresh_left all = by (no_zeros all) where
  by : (some : List Candidate) → fresh_by (count_of some) (count_of all) ≡ is_several (or_all some all)
  by [] = several all
  by (it ∷ []) = refl
  by (it ∷ other ∷ others) = refl

pub fresh_is : (rows : List VarRow) (all : List Candidate) (it : PickedVal) (b : Bool) → IsPickedVal rows all it →
    b ≡ fresh_by it.others it.count → b ≡ is_several (left_of all)
fresh_is rows all it b h is =
    is ∙ ap (λ n. fresh_by n it.count) h.others ∙ ap (fresh_by (count_of (no_zeros all))) h.count ∙ fresh_left all

-- what is picked

-- the value of several candidates by their count is that of those that are left
value_left : (own : Skel) (first : Val) (some : List Candidate) (it other : Candidate) (others : List Candidate) →
    first ≡ first_val some →
    value_by (count_of some) own (value first) ≡ value_of_left own (or_all some (it ∷ other ∷ others))
value_left own first [] it other others is = refl
value_left own first (a ∷ []) it other others is = ap value is
value_left own first (a ∷ b ∷ more) it other others is = refl

-- what is picked by the counts and the first candidates is what is picked of all
pick_is : (own : Skel) (first first_other : Val) (all : List Candidate) → first ≡ first_val all →
    first_other ≡ first_val (no_zeros all) →
    pick_by (count_of all) (count_of (no_zeros all)) own first first_other ≡ pick_of own all
pick_is own first first_other [] is other_is = refl
pick_is own first first_other (it ∷ []) is other_is = is
pick_is own first first_other (it ∷ other ∷ others) is other_is =
    ap a_value (value_left own first_other (no_zeros (it ∷ other ∷ others)) it other others other_is)

-- what is picked by what is kept of the candidates is what is picked of all
pub picked_is : (rows : List VarRow) (all : List Candidate) (it : PickedVal) (own : Skel) → IsPickedVal rows all it →
    pick_by it.count it.others own (val_in rows it.first) (val_in rows it.first_other) ≡ pick_of own all
picked_is rows all it own h =
    ap (λ n. pick_by n it.others own (val_in rows it.first) (val_in rows it.first_other)) h.count ∙
    ap (λ n. pick_by (count_of all) n own (val_in rows it.first) (val_in rows it.first_other)) h.others ∙
    pick_is own (val_in rows it.first) (val_in rows it.first_other) all h.first h.first_other

-- the candidates of a selection, one association after the other

with_is : (b : Bool) (all : List Candidate) (it : Candidate) →
    with_candidate b all it ≡ all ++ (if b then it ∷ [] else [])
with_is true all it = refl
with_is false all it = sym (append-nil all)

-- the candidates so far with that of an association, and those behind it, are those so far and those from it on
next_at : (w : World) (token i n : ℕ) (st : State) (all : List Candidate) →
    with_candidate (w.candidate (at w token) i) all (candidate_at (twice n) st) ++ selected w token (suc i) n st ≡
    all ++ selected w token i (suc n) st
next_at w token i n st all =
    ap (λ (xs : List Candidate). xs ++ selected w token (suc i) n st)
    (with_is (w.candidate (at w token) i) all (candidate_at (twice n) st)) ∙
    append_assoc all (if w.candidate (at w token) i then candidate_at (twice n) st ∷ [] else [])
    (selected w token (suc i) n st)

-- with the association of a number, of so many, behind those before it
pub selected_next : (w : World) (token i count : ℕ) (st : State) (all : List Candidate) → i < count →
    with_candidate (w.candidate (at w token) i) all (candidate_at (twice (count - suc i)) st) ++
    selected w token (i + 1) (count - (i + 1)) st ≡ all ++ selected w token i (count - i) st
selected_next w token i count st all lt =
    let one : i + 1 ≡ suc i = omega arith in
    let left : count - i ≡ suc (count - suc i) = omega arith in
    ap (λ (m : ℕ). with_candidate (w.candidate (at w token) i) all (candidate_at (twice (count - suc i)) st) ++
    selected w token m (count - m) st) one ∙
    next_at w token i (count - suc i) st all ∙
    ap (λ (n : ℕ). all ++ selected w token i n st) (sym left)

-- behind the last association the candidates so far are those of the selection
pub selected_all : (w : World) (token i count : ℕ) (st : State) (all : List Candidate) → count ≤ i →
    all ++ selected w token i (count - i) st ≡ selected w token 0 count st → all ≡ selected w token 0 count st
selected_all w token i count st all le is =
    let none : count - i ≡ 0 = omega arith in
    sym (append-nil all) ∙ ap (λ (n : ℕ). all ++ selected w token i n st) (sym none) ∙ is
