-- Readings of files in memory, and what is left of the last one.
use Rattle.std.proofs.Common.{◌≡◌, ℕ, zero, suc, List, [], ◌∷◌, ◌++◌, take, Ok, Err, refl, sym, ap, subst, ◌+◌, ◌-◌, ◌^◌, min, ◌∙◌, arith, All, append-nil, append_assoc}
use Rattle.std.proofs.lemmas.List.Elements.{All-nil, All-cons}
use Rattle.outside.specs.Readings.{Reading, End, Going, Whole, Broken, Agrees, MayGive, at_last, content_of, ended, given, goes_on}
use Rattle.outside.specs.Memory.{AreRead, IsLeft, shown}

-- a reading that leaves a rest of a file may have been given by it
may_give : (end : End) (content bytes rest : List ℕ) → IsLeft end content bytes rest → MayGive end content bytes
may_give Going content bytes rest is = (rest, is)
may_give Whole content bytes rest is = is.0
may_give Broken content bytes rest is = is

-- the bytes of a reading are the first ones of its file, however it stands
broken : (end : End) (content bytes rest : List ℕ) → IsLeft end content bytes rest
    → (more : List ℕ) × (content ≡ bytes ++ more)
broken Going content bytes rest is = (rest, is)
broken Whole content bytes rest is = ([], is.0 ∙ sym (append-nil bytes))
broken Broken content bytes rest is = is

module _ (files : List (List ℕ × List ℕ)) where
  abbrev Left : List ℕ → Reading → Type 0
  Left rest r = IsLeft r.end (content_of files r.name) r.bytes rest

  pub all_agree : (rest : List ℕ) (log : List Reading) → AreRead files rest log → All (Agrees files) log
  all_agree rest [] are = All-nil (Agrees files)
  all_agree rest (r ∷ []) are =
      All-cons (Agrees files) r [] (may_give r.end (content_of files r.name) r.bytes rest are) (All-nil (Agrees files))
  all_agree rest (r ∷ s ∷ more) are = All-cons (Agrees files) r (s ∷ more) are.0 (all_agree rest (s ∷ more) are.1)

  -- one reading more
  pub one_behind : (old rest : List ℕ) (log : List Reading) (r : Reading) → AreRead files old log → Left rest r
      → AreRead files rest (log ++ r ∷ [])
  one_behind old rest [] r are left = left
  one_behind old rest (a ∷ []) r are left = (may_give a.end (content_of files a.name) a.bytes old are, left)
  one_behind old rest (a ∷ b ∷ more) r are left = (are.0, one_behind old rest (b ∷ more) r are.1 left)

  -- the last reading goes on
  pub last_on : (old rest : List ℕ) (f : Reading → Reading) → ((r : Reading) → Left old r → Left rest (f r))
      → (log : List Reading)
      → AreRead files old log → AreRead files rest (at_last f log)
  last_on old rest f on [] are = tt
  last_on old rest f on (a ∷ []) are = on a are
  last_on old rest f on (a ∷ b ∷ []) are = (are.0, on b are.1)
  last_on old rest f on (a ∷ b ∷ c ∷ more) are = (are.0, last_on old rest f on (b ∷ c ∷ more) are.1)

  at_broken : (E : Type 0) (e : E) (into old rest : List ℕ) (r : Reading) → Left old r
      → Left rest (goes_on (Err e) into r)
  at_broken E e into old rest r is = broken r.end (content_of files r.name) r.bytes old is

  at_none : (old rest : List ℕ) → old ≡ [] → rest ≡ [] → (r : Reading) (end : End) → end ≡ r.end
      → IsLeft end (content_of files r.name) r.bytes old
      → Left rest (ended end r)
  at_none old rest none spent r Going same is =
      (is ∙ ap (λ (left : List ℕ). r.bytes ++ left) none ∙ append-nil r.bytes, spent)
  at_none old rest none spent r Whole same is = (is.0, spent)
  at_none old rest none spent r Broken same is =
      subst (λ (end : End). IsLeft end (content_of files r.name) r.bytes rest) same is

  at_some : (piece old rest : List ℕ) → old ≡ piece ++ rest → (old ≡ [] → ⊥) → (r : Reading) (end : End) → end ≡ r.end
      → IsLeft end (content_of files r.name) r.bytes old → Left rest (given end piece r)
  at_some piece old rest moves some r Going same is =
      is ∙ ap (λ (left : List ℕ). r.bytes ++ left) moves ∙ sym (append_assoc r.bytes piece rest)
  at_some piece old rest moves some r Whole same is = absurd (some is.1)
  at_some piece old rest moves some r Broken same is =
      subst (λ (end : End). IsLeft end (content_of files r.name) r.bytes rest) same is

  pub goes_left : (E : Type 0) (n : ℕ) (into old rest : List ℕ) → old ≡ take n into ++ rest → (n ≡ 0 → old ≡ [])
      → (old ≡ [] → n ≡ 0)
      → (r : Reading) → Left old r → Left rest (goes_on {E = E} (Ok n) into r)
  goes_left E zero into old rest moves none spent r is =
      at_none old rest (none refl) (sym moves ∙ none refl) r r.end refl is
  goes_left E (suc n) into old rest moves none spent r is =
      at_some (take (suc n) into) old rest moves
      (λ e. let wrong : suc n ≡ 0 = spent e in absurd (omega (arith, wrong))) r r.end refl is

  -- a failure, and bytes that were moved
  pub fails_read : (E : Type 0) (e : E) (into old rest : List ℕ) (log : List Reading) → AreRead files old log
      → AreRead files rest (at_last (goes_on (Err e) into) log)
  fails_read E e into old rest log are = last_on old rest (goes_on (Err e) into) (at_broken E e into old rest) log are

  pub moves_read : (E : Type 0) (n : ℕ) (into old rest : List ℕ) (log : List Reading) → old ≡ take n into ++ rest
      → (n ≡ 0 → old ≡ [])
      → (old ≡ [] → n ≡ 0) → AreRead files old log → AreRead files rest (at_last (goes_on {E = E} (Ok n) into) log)
  moves_read E n into old rest log moves none spent are =
      last_on old rest (goes_on {E = E} (Ok n) into) (goes_left E n into old rest moves none spent) log are

  -- what is left of a whole file, and of one that could not be started
  pub starts_read : (old rest name : List ℕ) (log : List Reading) → rest ≡ content_of files name → AreRead files old log
      → AreRead files rest (log ++ record { name = name; bytes = []; end = Going } ∷ [])
  starts_read old rest name log is are =
      one_behind old rest log (record { name = name; bytes = []; end = Going }) are (sym is)

  pub no_start : (old rest name : List ℕ) (log : List Reading) → AreRead files old log
      → AreRead files rest (log ++ record { name = name; bytes = []; end = Broken } ∷ [])
  no_start old rest name log are =
      one_behind old rest log (record { name = name; bytes = []; end = Broken }) are (content_of files name, refl)

-- one failure more, as a count shows it
pub shown_on : (faults now failed next : ℕ) → faults ≡ shown failed → now ≡ min (faults + 1) (2 ^ 64 - 1)
    → next ≡ failed + 1 → now ≡ shown next
shown_on faults now failed next is one more = omega (arith, is, one, more)

pub shown_same : (faults failed next : ℕ) → faults ≡ shown failed → next ≡ failed + 0 → faults ≡ shown next
shown_same faults failed next is more = omega (arith, is, more)
