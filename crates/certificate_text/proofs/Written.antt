-- The names of variables in order, and the pairs of names.
use Rattle.std.proofs.Common.{◌≡◌, ℕ, zero, suc, ◌+◌, ◌-◌, ◌<◌, ◌≤◌, ◌==◌, ◌||◌, Bool, true, false, List, [], ◌∷◌, slice_get, Option, Some, None, refl, sym, ◌∙◌, ap, subst, arith, inl, inr, cond}
use Rattle.std.specs.List.{AllByRecursion}
use Rattle.std.specs.List.Sorted.{IsStrictlySortedBy}
use Rattle.std.specs.Ordering.{nat_cmp, ordering_then, MatchOrdering}
use Rattle.std.specs.declared.cmp.Ordering.{Ordering}
use Rattle.std.specs.declared.cmp.Ordering.TheVariants.{Less, Equal, Greater}
use Rattle.std.proofs.lemmas.Cmp.{ranked}
use Rattle.std.proofs.lemmas.Bool.{or_right, or_cases}
use Rattle.flow_graph.specs.System.{System}
use Rattle.closure_check.specs.Parts.{is_among, is_that}
use Rattle.closure_check.proofs.Sorted.{IsBefore, that_is, is_that_one}
use Rattle.certificate_text.specs.Names.{Named, ends_in, first_from, name_of, is_at, named_at, names_from, names_in, name_in, AreNames}
use Rattle.certificate_text.specs.Text.{pair_of, pairs_with, pairs_of}
use Rattle.certificate_text.specs.Order.{pair_cmp}
use Rattle.certificate_text.specs.Naming.{both, pair_name, as_list, pair_names}
use Rattle.certificate_text.proofs.Rising.{Among, Rises, among_left, among_right, among_either, rises_append, same_rising}

-- one before the other
abbrev pub Earlier : ℕ × ℕ → ℕ × ℕ → Type 0
Earlier p q = IsBefore p q.0 q.1

abbrev pub Lower : Named → Named → Type 0
Lower x y = x.name < y.name

-- of two pairs not both are before the other
pub never_both : (p q : ℕ × ℕ) → Earlier p q → Earlier q p → ⊥
never_both p q (inl a) (inl b) = omega (arith, a, b)
never_both p q (inl a) (inr b) = omega (arith, a, b.0)
never_both p q (inr a) (inl b) = omega (arith, a.0, b)
never_both p q (inr a) (inr b) = omega (arith, a.1, b.1)

-- two pairs whose parts compare, the first ones and then the second ones, as less are one before the other
less_is : (p q : ℕ × ℕ) (a b : Ordering) → MatchOrdering a (p.0 < q.0) (p.0 ≡ q.0) (q.0 < p.0)
    → MatchOrdering b (p.1 < q.1) (p.1 ≡ q.1) (q.1 < p.1) →
    ordering_then a b ≡ Less → Earlier p q
less_is p q Less b one other e = inl one
less_is p q Equal Less one other e = inr (one, other)
less_is p q Equal Equal one other e = absurd cc
less_is p q Equal Greater one other e = absurd cc
less_is p q Greater b one other e = absurd cc

pub earlier_less : (p q : ℕ × ℕ) → pair_cmp p q ≡ Less → Earlier p q
earlier_less p q e = less_is p q (nat_cmp p.0 q.0) (nat_cmp p.1 q.1) (ranked p.0 q.0 _ refl) (ranked p.1 q.1 _ refl) e

-- a pair that compares as less than all of a list comes before each of them
all_earlier : (p : ℕ × ℕ) (qs : List (ℕ × ℕ)) → AllByRecursion (λ q. pair_cmp p q ≡ Less) qs → (q : ℕ × ℕ) → Among q qs
    → Earlier p q
all_earlier p [] all q there = absurd there
all_earlier p (r ∷ qs) all q (inl is) = earlier_less p q (subst (λ s. pair_cmp p s ≡ Less) (sym is) all.0)
all_earlier p (r ∷ qs) all q (inr later) = all_earlier p qs all.1 q later

pub sorted_rises : (ps : List (ℕ × ℕ)) → IsStrictlySortedBy pair_cmp ps → Rises Earlier ps
unfolding IsStrictlySortedBy
sorted_rises [] sorted = tt
sorted_rises (p ∷ ps) sorted = (all_earlier p ps sorted.0, sorted_rises ps sorted.1)

-- a variable is named where it first stands
pub first_is : (ends : List ℕ) (k v n : ℕ) → first_from k ends v ≡ Some n → (k ≤ n) × (slice_get ends (n - k) ≡ Some v)
first_is [] k v n is = absurd cc
first_is (u ∷ ends) k v n is = by_test (λ e. first_is ends (k + 1) v n e) (u == v) refl is
  where
    by_test : (first_from (k + 1) ends v ≡ Some n → (k + 1 ≤ n) × (slice_get ends (n - (k + 1)) ≡ Some v)) → (b : Bool)
        → (u == v) ≡ b →
        cond b (Some k) (first_from (k + 1) ends v) ≡ Some n → (k ≤ n) × (slice_get (u ∷ ends) (n - k) ≡ Some v)
    by_test further true same e =
        let here : k ≡ n = cc in
        let none : n - k ≡ 0 = omega (arith, here) in
        let var : u ≡ v = grind (arith, same) in
        (omega (arith, here), rw none (ap Some var))
    by_test further false differs e =
        let deeper = further e in
        let more : n - k ≡ suc (n - (k + 1)) = omega (arith, deeper.0) in
        (omega (arith, deeper.0), rw more deeper.1)

at_is : (name : Option ℕ) (k : ℕ) → is_at name k ≡ true → name ≡ Some k
at_is (Some n) k e = let same : n ≡ k = grind (arith, e) in ap Some same
at_is None k e = absurd cc

is_at_own : (n : ℕ) → is_at (Some n) n ≡ true
is_at_own n = grind arith

module _ (sys : System) where
  named_is : (x : Named) (k v : ℕ) → Among x (named_at sys k v) → (x.name ≡ k) × (name_of sys x.var ≡ Some x.name)
  named_is x k v there = by_test (is_at (name_of sys v) k) refl there
    where
      by_test : (b : Bool) → is_at (name_of sys v) k ≡ b → Among x (cond b (record { name = k; var = v } ∷ []) [])
          → (x.name ≡ k) × (name_of sys x.var ≡ Some x.name)
      by_test true is (inl same) =
          let name : x.name ≡ k = ap (λ (y : Named). y.name) same in
          let var : x.var ≡ v = ap (λ (y : Named). y.var) same in
          (name, ap (name_of sys) var ∙ at_is (name_of sys v) k is ∙ ap Some (sym name))
      by_test true is (inr none) = absurd none
      by_test false is none = absurd none

  pub names_are : (ends : List ℕ) (k : ℕ) (x : Named) → Among x (names_from sys k ends)
      → (k ≤ x.name) × (name_of sys x.var ≡ Some x.name)
  names_are [] k x there = absurd there
  names_are (v ∷ ends) k x there = elim (among_either (named_at sys k v) (names_from sys (k + 1) ends) x there) [
    | inl here ↦ let is = named_is x k v here in (omega (arith, is.0), is.1)
    | inr later ↦ let is = names_are ends (k + 1) x later in (omega (arith, is.0), is.1)
  ]

  pub names_rise : (ends : List ℕ) (k : ℕ) → Rises Lower (names_from sys k ends)
  names_rise [] k = tt
  names_rise (v ∷ ends) k =
      rises_append Lower (named_at sys k v) (names_from sys (k + 1) ends) (one (is_at (name_of sys v) k))
      (names_rise ends (k + 1))
      (λ x y here later. omega (arith, (named_is x k v here).0, (names_are ends (k + 1) y later).0))
    where
      one : (b : Bool) → Rises Lower (cond b (record { name = k; var = v } ∷ []) [])
      one true = (λ y none. absurd none, tt)
      one false = tt

  own_name : (k v : ℕ) (b : Bool) → b ≡ true
      → Among {A = Named} (record { name = k; var = v }) (cond b (record { name = k; var = v } ∷ []) [])
  own_name k v true e = inl refl
  own_name k v false e = absurd cc

  has_name : (ends : List ℕ) (k j v : ℕ) → slice_get ends j ≡ Some v → name_of sys v ≡ Some (k + j)
      → Among {A = Named} (record { name = k + j; var = v }) (names_from sys k ends)
  has_name [] k j v there is = absurd cc
  has_name (u ∷ ends) k zero v there is =
      let var : u ≡ v = cc in
      let here : k + 0 ≡ k = omega arith in
      let name : is_at (name_of sys v) k ≡ true = ap (λ o. is_at o k) (is ∙ ap Some here) ∙ is_at_own k in
      rw (here, var) (among_left (named_at sys k v) (names_from sys (k + 1) ends) (record { name = k; var = v })
      (own_name k v (is_at (name_of sys v) k) name))
  has_name (u ∷ ends) k (suc j) v there is =
      let same : k + suc j ≡ (k + 1) + j = omega arith in
      rw same (among_right (named_at sys k u) (names_from sys (k + 1) ends) _
      (has_name ends (k + 1) j v there (is ∙ ap Some same)))

  pub has_own_name : (v n : ℕ) → name_of sys v ≡ Some n
      → Among {A = Named} (record { name = n; var = v }) (names_in sys)
  has_own_name v n is =
      let there = first_is (ends_in sys) 0 v n is in
      let same : n - 0 ≡ n = omega arith in
      let zero_first : 0 + n ≡ n = omega arith in
      let at : slice_get (ends_in sys) n ≡ Some v = subst (λ k. slice_get (ends_in sys) k ≡ Some v) same there.1 in
      subst (λ k. Among {A = Named} (record { name = k; var = v }) (names_in sys)) zero_first
      (has_name (ends_in sys) 0 n v at (is ∙ ap Some (sym zero_first)))

  -- the pairs of two names, and what they are of
  pub record IsNamedPair (pairs : List (ℕ × ℕ)) (p : ℕ × ℕ) : Type 0 where
    pub from : ℕ
    pub to : ℕ
    pub paired : is_among pairs from to ≡ true
    pub from_is : name_of sys from ≡ Some p.0
    pub to_is : name_of sys to ≡ Some p.1

  pair_is : (pairs : List (ℕ × ℕ)) (x y : Named) (p : ℕ × ℕ) → Among p (pair_of pairs x y)
      → (is_among pairs x.var y.var ≡ true) × (p ≡ (x.name, y.name))
  pair_is pairs x y p there = by_test (is_among pairs x.var y.var) refl there
    where
      by_test : (b : Bool) → is_among pairs x.var y.var ≡ b → Among p (cond b ((x.name, y.name) ∷ []) [])
          → (is_among pairs x.var y.var ≡ true) × (p ≡ (x.name, y.name))
      by_test true is (inl same) = (is, same)
      by_test true is (inr none) = absurd none
      by_test false is none = absurd none

  with_is : (pairs : List (ℕ × ℕ)) (x : Named) (names : List Named) (p : ℕ × ℕ) → Among p (pairs_with pairs x names) →
      (y : Named) × Among y names × (is_among pairs x.var y.var ≡ true) × (p ≡ (x.name, y.name))
  with_is pairs x [] p there = absurd there
  with_is pairs x (y ∷ names) p there = elim (among_either (pair_of pairs x y) (pairs_with pairs x names) p there) [
    | inl here ↦ let is = pair_is pairs x y p here in (y, inl refl, is.0, is.1)
    | inr later ↦ let is = with_is pairs x names p later in (is.0, inr is.1, is.2, is.3)
  ]

  pairs_are : (pairs : List (ℕ × ℕ)) (names others : List Named) (p : ℕ × ℕ) → Among p (pairs_of pairs names others) →
      (x : Named) × (y : Named) × Among x names × Among y others × (is_among pairs x.var y.var ≡ true)
      × (p ≡ (x.name, y.name))
  pairs_are pairs [] others p there = absurd there
  pairs_are pairs (x ∷ names) others p there =
      elim (among_either (pairs_with pairs x others) (pairs_of pairs names others) p there) [
        | inl here ↦ let is = with_is pairs x others p here in (x, is.0, inl refl, is.1, is.2, is.3)
        | inr later ↦ let is = pairs_are pairs names others p later in (is.0, is.1, inr is.2, is.3, is.4, is.5)
      ]

  pub written_pair : (pairs : List (ℕ × ℕ)) (p : ℕ × ℕ) → Among p (pairs_of pairs (names_in sys) (names_in sys))
      → IsNamedPair pairs p
  written_pair pairs p there =
      let is = pairs_are pairs (names_in sys) (names_in sys) p there in
      let x = is.0 in
      let y = is.1 in
      record {
        from = x.var;
        to = y.var;
        paired = is.4;
        from_is = (names_are (ends_in sys) 0 x is.2).1 ∙ ap Some (sym (ap (λ (q : ℕ × ℕ). q.0) is.5));
        to_is = (names_are (ends_in sys) 0 y is.3).1 ∙ ap Some (sym (ap (λ (q : ℕ × ℕ). q.1) is.5));
      }

  is_paired : (pairs : List (ℕ × ℕ)) (x y : Named) → is_among pairs x.var y.var ≡ true
      → Among {A = ℕ × ℕ} (x.name, y.name) (pair_of pairs x y)
  is_paired pairs x y is = by_test (is_among pairs x.var y.var) is
    where
      by_test : (b : Bool) → b ≡ true → Among {A = ℕ × ℕ} (x.name, y.name) (cond b ((x.name, y.name) ∷ []) [])
      by_test true e = inl refl
      by_test false e = absurd cc

  has_with : (pairs : List (ℕ × ℕ)) (x y : Named) (names : List Named) → Among y names
      → is_among pairs x.var y.var ≡ true → Among {A = ℕ × ℕ} (x.name, y.name) (pairs_with pairs x names)
  has_with pairs x y [] there is = absurd there
  has_with pairs x y (z ∷ names) (inl same) is =
      among_left (pair_of pairs x z) (pairs_with pairs x names) _
      (subst (λ w. Among {A = ℕ × ℕ} (x.name, y.name) (pair_of pairs x w)) same (is_paired pairs x y is))
  has_with pairs x y (z ∷ names) (inr later) is =
      among_right (pair_of pairs x z) (pairs_with pairs x names) _ (has_with pairs x y names later is)

  has_pair : (pairs : List (ℕ × ℕ)) (x y : Named) (names others : List Named) → Among x names → Among y others
      → is_among pairs x.var y.var ≡ true →
      Among {A = ℕ × ℕ} (x.name, y.name) (pairs_of pairs names others)
  has_pair pairs x y [] others one other is = absurd one
  has_pair pairs x y (z ∷ names) others (inl same) other is =
      among_left (pairs_with pairs z others) (pairs_of pairs names others) _
      (subst (λ w. Among {A = ℕ × ℕ} (x.name, y.name) (pairs_with pairs w others)) same
      (has_with pairs x y others other is))
  has_pair pairs x y (z ∷ names) others (inr later) other is =
      among_right (pairs_with pairs z others) (pairs_of pairs names others) _
      (has_pair pairs x y names others later other is)

  pub pair_written : (pairs : List (ℕ × ℕ)) (p : ℕ × ℕ) → IsNamedPair pairs p
      → Among p (pairs_of pairs (names_in sys) (names_in sys))
  pair_written pairs p is =
      has_pair pairs (record { name = p.0; var = is.from }) (record { name = p.1; var = is.to }) (names_in sys)
      (names_in sys)
      (has_own_name is.from p.0 is.from_is) (has_own_name is.to p.1 is.to_is) is.paired

  with_rise : (pairs : List (ℕ × ℕ)) (x : Named) (names : List Named) → Rises Lower names
      → Rises Earlier (pairs_with pairs x names)
  with_rise pairs x [] rise = tt
  with_rise pairs x (y ∷ names) rise =
      rises_append Earlier (pair_of pairs x y) (pairs_with pairs x names) (one (is_among pairs x.var y.var))
      (with_rise pairs x names rise.1)
      (λ p q here later.
      let a = (pair_is pairs x y p here).1 in
      let b = with_is pairs x names q later in
      let c = b.3 in
      let low = rise.0 b.0 b.1 in
      inr (
        ap (λ (r : ℕ × ℕ). r.0) a ∙ sym (ap (λ (r : ℕ × ℕ). r.0) c),
        omega (arith, low, ap (λ (r : ℕ × ℕ). r.1) a, ap (λ (r : ℕ × ℕ). r.1) c),
      ))
    where
      one : (b : Bool) → Rises Earlier (cond b ((x.name, y.name) ∷ []) [])
      one true = (λ q none. absurd none, tt)
      one false = tt

  pub pairs_rise : (pairs : List (ℕ × ℕ)) (names others : List Named) → Rises Lower names → Rises Lower others
      → Rises Earlier (pairs_of pairs names others)
  pairs_rise pairs [] others one other = tt
  pairs_rise pairs (x ∷ names) others one other =
      rises_append Earlier (pairs_with pairs x others) (pairs_of pairs names others) (with_rise pairs x others other)
      (pairs_rise pairs names others one.1 other)
      (λ p q here later.
      let a = (with_is pairs x others p here).3 in
      let b = pairs_are pairs names others q later in
      let c = b.5 in
      let low = one.0 b.0 b.2 in
      inl (omega (arith, low, ap (λ (r : ℕ × ℕ). r.0) a, ap (λ (r : ℕ × ℕ). r.0) c)))

  -- a list in order with the pairs of names is the one that is written
  pub written_is : (pairs found : List (ℕ × ℕ)) → IsStrictlySortedBy pair_cmp found
      → ((p : ℕ × ℕ) → Among p found → IsNamedPair pairs p) →
      ((p : ℕ × ℕ) → IsNamedPair pairs p → Among p found) → found ≡ pairs_of pairs (names_in sys) (names_in sys)
  written_is pairs found sorted to from =
      let rise = names_rise (ends_in sys) 0 in
      same_rising Earlier never_both found (pairs_of pairs (names_in sys) (names_in sys)) (sorted_rises found sorted)
      (pairs_rise pairs (names_in sys) (names_in sys) rise rise)
      (λ p there. pair_written pairs p (to p there))
      (λ p there. from p (written_pair pairs p there))

  -- the names of the pairs of a list
  both_is : (a b : Option ℕ) (p : ℕ × ℕ) → both a b ≡ Some p → (a ≡ Some p.0) × (b ≡ Some p.1)
  both_is (Some m) (Some n) p e = (ap (λ (q : ℕ × ℕ). Some q.0) (same e), ap (λ (q : ℕ × ℕ). Some q.1) (same e))
    where
      same : Some (m, n) ≡ Some p → (m, n) ≡ p
      same e = cc
  both_is (Some m) None p e = absurd cc
  both_is None b p e = absurd cc

  pub names_pair : (table : List (Option ℕ)) (pairs : List (ℕ × ℕ)) (p : ℕ × ℕ) → AreNames sys table
      → Among p (pair_names table pairs) → IsNamedPair pairs p
  names_pair table [] p known there = absurd there
  names_pair table (q ∷ pairs) p known there =
      elim (among_either (as_list (pair_name table q)) (pair_names table pairs) p there) [
        | inl here ↦ now (pair_name table q) refl here
        | inr later ↦
            let is = names_pair table pairs p known later in
            record {
              from = is.from;
              to = is.to;
              paired = or_right (is_that q is.from is.to) _ is.paired;
              from_is = is.from_is;
              to_is = is.to_is;
            }
      ]
    where
      now : (o : Option (ℕ × ℕ)) → pair_name table q ≡ o → Among p (as_list o) → IsNamedPair (q ∷ pairs) p
      now (Some r) is (inl same) =
          let names = both_is (name_in table q.0) (name_in table q.1) p (is ∙ ap Some (sym same)) in
          record {
            from = q.0;
            to = q.1;
            paired = ap (λ b. b || is_among pairs q.0 q.1) (is_that_one q.0 q.1);
            from_is = sym (known q.0) ∙ names.0;
            to_is = sym (known q.1) ∙ names.1;
          }
      now (Some r) is (inr none) = absurd none
      now None is none = absurd none

  pub pair_names_has : (table : List (Option ℕ)) (pairs : List (ℕ × ℕ)) (p : ℕ × ℕ) → AreNames sys table
      → IsNamedPair pairs p → Among p (pair_names table pairs)
  pair_names_has table pairs p known is = over pairs is.paired
    where
      named : pair_name table (is.from, is.to) ≡ Some p
      named = ap (λ o. both o (name_in table is.to)) (known is.from ∙ is.from_is)
          ∙ ap (both (Some p.0)) (known is.to ∙ is.to_is)

      over : (pairs : List (ℕ × ℕ)) → is_among pairs is.from is.to ≡ true → Among p (pair_names table pairs)
      over [] e = absurd cc
      over (q ∷ pairs) e = elim (or_cases (is_that q is.from is.to) (is_among pairs is.from is.to) e) [
        | inl here ↦
            among_left (as_list (pair_name table q)) (pair_names table pairs) p
            (subst (λ o. Among p (as_list o))
            (sym (ap (pair_name table) (that_is q is.from is.to here) ∙ named)) (inl refl))
        | inr later ↦ among_right (as_list (pair_name table q)) (pair_names table pairs) p (over pairs later)
      ]
