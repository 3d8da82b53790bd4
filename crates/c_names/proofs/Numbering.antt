-- The numbers of identifiers, as one comes or gets its type.
use Rattle.std.proofs.Common.{arith, ◌≡◌, ◌∙◌, sym, ap, refl, ℕ, zero, suc, ◌<◌, ◌≤◌, inl, inr, nat_eq, Bool, true, false, List, [], ◌∷◌, ◌++◌, length, slice_index_or, slice_set, Option, Some, None, option_map, if◌then◌else◌}
use Rattle.std.proofs.lemmas.Bool.{cases_lt, eqb-true, eq-eqb}
use Rattle.name_rules.specs.Scopes.{changed_at}
use Rattle.c_names.specs.declared.identifiers.OldParameter.{OldParameter}
use Rattle.c_names.specs.Identifiers.{number_in, typed_once, NumberTable, number_there, AreNumbered}

pub none_numbered : (numbers : NumberTable) → ((key : ℕ) → number_there numbers key ≡ None) → AreNumbered [] numbers
none_numbered numbers none = record { same = none }

-- a search that finds nothing has no hit at its first item, and none behind it
none_parts : (b : Bool) (o : Option ℕ) → (if b then Some 0 else option_map suc o) ≡ None → (b ≡ false) × (o ≡ None)
none_parts true o e = absurd cc
none_parts false None e = (refl, refl)
none_parts false (Some n) e = absurd cc

-- one identifier more, of a new spelling: its key has the number of all before it, other keys keep theirs
number_behind : (all : List OldParameter) (it : OldParameter) (key : ℕ) → number_in it.key all ≡ None →
    number_in key (all ++ it ∷ []) ≡ (if nat_eq it.key key then Some (length all) else number_in key all)
number_behind [] it key new = refl
number_behind (x ∷ all) it key new =
    let parts = none_parts (nat_eq x.key it.key) (number_in it.key all) new in
    by (nat_eq x.key key) (nat_eq it.key key)
    (λ one other.
    let same : nat_eq x.key it.key ≡ true =
    eq-eqb x.key it.key (eqb-true x.key key one ∙ sym (eqb-true it.key key other)) in
    let no : false ≡ true = sym parts.0 ∙ same in
    cc)
    (number_behind all it key parts.1)
  where
    by : (b c : Bool) → (b ≡ true → c ≡ true → ⊥) →
        number_in key (all ++ it ∷ []) ≡ (if c then Some (length all) else number_in key all) →
        (if b then Some 0 else option_map suc (number_in key (all ++ it ∷ []))) ≡
        (if c then Some (suc (length all)) else if b then Some 0 else option_map suc (number_in key all))
    by true true apart rest = absurd (apart refl refl)
    by true false apart rest = refl
    by false true apart rest = ap (option_map suc) rest
    by false false apart rest = ap (option_map suc) rest

-- one more, of a new spelling
pub one_numbered : (all new : List OldParameter) (it : OldParameter) (n : ℕ) (before after : NumberTable)
    → AreNumbered all before →
    number_in it.key all ≡ None → new ≡ all ++ it ∷ [] → n ≡ length all →
    ((key : ℕ) → number_there after key ≡ (if nat_eq it.key key then Some n else number_there before key)) →
    AreNumbered new after
one_numbered all new it n before after h unknown is at set = record {
  same = λ key. set key ∙ ap (λ (k : ℕ). if nat_eq it.key key then Some k else number_there before key) at ∙
      ap (λ (o : Option ℕ). if nat_eq it.key key then Some (length all) else o) (h.same key) ∙
      sym (number_behind all it key unknown) ∙ ap (number_in key) (sym is);
}

-- a type given to one parameter changes the number of no identifier
typed_number : (all : List OldParameter) (n ty key : ℕ)
    → number_in key (changed_at all n (typed_once ty)) ≡ number_in key all
typed_number [] n ty key = refl
typed_number (it ∷ all) zero ty key = refl
typed_number (it ∷ all) (suc n) ty key =
    ap (λ (o : Option ℕ). if nat_eq it.key key then Some 0 else option_map suc o) (typed_number all n ty key)

-- one gets its type
pub typed_numbered : (all new : List OldParameter) (n ty : ℕ) (numbers : NumberTable) → AreNumbered all numbers →
    new ≡ changed_at all n (typed_once ty) → AreNumbered new numbers
typed_numbered all new n ty numbers h is = record {
  same = λ key. h.same key ∙ sym (typed_number all n ty key) ∙ ap (number_in key) (sym is);
}

-- an item set to what a function makes of it is the list changed there by the function
pub changed : (xs : List OldParameter) (n : ℕ) (x y : OldParameter) (f : OldParameter → OldParameter) → n < length xs →
    x ≡ slice_index_or xs n x → y ≡ f x → slice_set xs n y ≡ changed_at xs n f
changed [] n x y f lt is made = absurd (omega arith)
changed (z ∷ xs) zero x y f lt is made = ap (λ w. w ∷ xs) (made ∙ ap f is)
changed (z ∷ xs) (suc n) x y f lt is made = ap (λ ys. z ∷ ys) (changed xs n x y f (omega arith) is made)

-- a change at a position past the end leaves the list as it is
pub unchanged : (xs : List OldParameter) (n : ℕ) (f : OldParameter → OldParameter) → length xs ≤ n
    → xs ≡ changed_at xs n f
unchanged [] n f le = refl
unchanged (z ∷ xs) zero f le = absurd (omega arith)
unchanged (z ∷ xs) (suc n) f le = ap (λ ys. z ∷ ys) (unchanged xs n f (omega arith))

pub past : (n m : ℕ) → (n < m → false ≡ true) → m ≤ n
past n m out = elim (cases_lt n m) [ inl lt ↦ absurd (let no = out lt in cc) | inr ge ↦ ge ]
