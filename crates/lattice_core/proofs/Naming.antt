-- Entries and their numbers by name.
use Rattle.std.proofs.Common.{◌≡◌, ◌≢◌, ℕ, ◌<◌, ◌≤◌, ◌+◌, zero, suc, Bool, true, false, List, [], ◌∷◌, length, map, take, get_or, slice_get, Some, None, refl, sym, ◌∙◌, ap, arith, inl, inr, position, cond, nat_lt, ltb-false, is_some}
use Rattle.std.specs.List.{position_or_len}
use Rattle.std.specs.declared.option.Option.{Option}
use Rattle.std.specs.Str.{bytes_eq}
use Rattle.std.proofs.lemmas.Grind.{common_steps}
use Rattle.std.proofs.lemmas.Bool.{cases_lt}
use Rattle.std.proofs.lemmas.List.Quantifiers.{position-Some}
use Rattle.std.proofs.lemmas.List.Sums.{fails_before_first}
use Rattle.std.proofs.lemmas.Slice.Eq.{bytes_eq-Decides}
use Rattle.lattice_core.specs.declared.Entry.{Entry}
use Rattle.lattice_core.specs.Entries.{name_of, level_of, name_at, level_at, number_of, AreDistinct}

-- a place within a list has its image in the mapped list
pub item_at : {X Y : Type 0} (f : X → Y) (xs : List X) (i : ℕ) (d : X) → i < length xs
    → slice_get (map f xs) i ≡ Some (f (get_or xs i d))
item_at f [] i d h = absurd (omega arith)
item_at f (x ∷ xs) zero d h = refl
item_at f (x ∷ xs) (suc i) d h = item_at f xs i d (omega arith)

pub name_is : (entries : List Entry) (i : ℕ) (d : Entry) → i < length entries
    → name_at entries i ≡ Some (name_of (get_or entries i d))
name_is entries i d h = item_at name_of entries i d h

pub level_is : (entries : List Entry) (i : ℕ) (d : Entry) → i < length entries
    → level_at entries i ≡ Some (level_of (get_or entries i d))
level_is entries i d h = item_at level_of entries i d h

-- a look-up in the first k
pub item_in_front : {X Y : Type 0} (f : X → Y) (xs : List X) (k i : ℕ) → i < k
    → slice_get (map f (take k xs)) i ≡ slice_get (map f xs) i
item_in_front f xs zero i h = absurd (omega arith)
item_in_front f [] (suc k) i h = refl
item_in_front f (x ∷ xs) (suc k) zero h = refl
item_in_front f (x ∷ xs) (suc k) (suc i) h = item_in_front f xs k i (omega arith)

-- the number of a name is that of an entry, which has that name
pub has_name : (entries : List Entry) (name : List ℕ) (i : ℕ) → number_of entries name ≡ Some i
    → (i < length entries) × (name_at entries i ≡ Some name)
has_name [] name i h = absurd cc
has_name (e ∷ es) name i h =
    let found = position-Some (λ (entry : Entry). bytes_eq name (name_of entry)) (e ∷ es) i e h in
    let same : name ≡ name_of (get_or (e ∷ es) i e) =
    (bytes_eq-Decides name (name_of (get_or (e ∷ es) i e))).0 found.1 in
    (found.0, name_is (e ∷ es) i e found.0 ∙ ap Some (sym same))

untrue : (b : Bool) (n : ℕ) → cond b (Some n) None ≡ None → b ≡ false
untrue true n h = absurd cc
untrue false n h = refl

-- no element passes a test that has no first one
none_passes : {X : Type 0} (p : X → Bool) (xs : List X) → position p xs ≡ None → (i : ℕ) (d : X) → i < length xs
    → p (get_or xs i d) ≡ false
none_passes p xs none i d h =
    let past : length xs ≤ position_or_len p xs = ltb-false (position_or_len p xs) (length xs)
    (untrue (nat_lt (position_or_len p xs) (length xs)) (position_or_len p xs) none) in
    fails_before_first p xs i d (omega arith)

-- past the end of a list the mapped list has nothing
item_past : {X Y : Type 0} (f : X → Y) (xs : List X) (i : ℕ) → length xs ≤ i → slice_get (map f xs) i ≡ None
item_past f [] i h = refl
item_past f (x ∷ xs) zero h = absurd (omega arith)
item_past f (x ∷ xs) (suc i) h = item_past f xs i (omega arith)

-- where a name has no number, no entry has it
pub lacks_name : (entries : List Entry) (name : List ℕ) → number_of entries name ≡ None → (i : ℕ)
    → name_at entries i ≢ Some name
lacks_name [] name none i is = cc
lacks_name (e ∷ es) name none i is = elim (cases_lt i (length (e ∷ es))) [
  | inl within ↦
      let other : bytes_eq name (name_of (get_or (e ∷ es) i e)) ≡ false =
      none_passes (λ (entry : Entry). bytes_eq name (name_of entry)) (e ∷ es) none i e within in
      let there = name_is (e ∷ es) i e within in
      let same : name ≡ name_of (get_or (e ∷ es) i e) = cc in
      let eq : bytes_eq name (name_of (get_or (e ∷ es) i e)) ≡ true =
      (bytes_eq-Decides name (name_of (get_or (e ∷ es) i e))).1 same in
      cc
  | inr past ↦
      let none_there : name_at (e ∷ es) i ≡ None = item_past name_of (e ∷ es) i past in
      cc
]

-- in the first k
pub has_name_before : (entries : List Entry) (k : ℕ) (name : List ℕ) (i : ℕ) → number_of (take k entries) name ≡ Some i
    → (i < k) × (name_at entries i ≡ Some name)
has_name_before entries k name i h =
    let found = has_name (take k entries) name i h in
    let within : i < k = grind (arith, common_steps) in
    (within, sym (item_in_front name_of entries k i within) ∙ found.1)

pub lacks_name_before : (entries : List Entry) (k : ℕ) (name : List ℕ) → number_of (take k entries) name ≡ None
    → (i : ℕ) → i < k → name_at entries i ≢ Some name
lacks_name_before entries k name none i within is =
    lacks_name (take k entries) name none i (item_in_front name_of entries k i within ∙ is)

-- an earlier entry has the name of entry k
pub repeated : (entries : List Entry) (k : ℕ) (name : List ℕ) (found : Option ℕ)
    → found ≡ number_of (take k entries) name → is_some found ≡ true → name_at entries k ≡ Some name →
    (i : ℕ) × (i < k) × (name_at entries i ≡ name_at entries k)
repeated entries k name None is some there = absurd cc
repeated entries k name (Some i) is some there =
    let has = has_name_before entries k name i (sym is) in
    (i, has.0, has.1 ∙ sym there)

-- no earlier entry has the name of entry k
pub distinct_on : (entries : List Entry) (k : ℕ) (name : List ℕ) (found : Option ℕ)
    → found ≡ number_of (take k entries) name → is_some found ≡ false → name_at entries k ≡ Some name →
    AreDistinct entries k → AreDistinct entries (k + 1)
distinct_on entries k name (Some n) is some there distinct i j lt within same = absurd cc
distinct_on entries k name None is some there distinct i j lt within same = elim (cases_lt j k) [
  | inl before ↦ distinct i j lt before same
  | inr past ↦
      let e : k ≡ j = omega arith in
      lacks_name_before entries k name (sym is) i (omega arith) (rw (← e) at same ∙ there)
]
