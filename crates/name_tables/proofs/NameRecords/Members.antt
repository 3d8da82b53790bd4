-- Members that are found by their names, as structs get more of them.
use Rattle.std.proofs.Common.{arith, ◌⊎◌, ◌≡◌, ◌∙◌, sym, ap, refl, ℕ, zero, suc, ◌<◌, nat_eq, Bool, true, false, ◌&&◌, List, [], ◌∷◌, ◌++◌, length, slice_index_or, Option, Some, None, is_some, inl, inr, if◌then◌else◌}
use Rattle.std.proofs.lemmas.Option.{slice_get_read}
use Rattle.std.proofs.lemmas.Bool.Decides.{eqb_tells}
use Rattle.name_rules.specs.Spellings.{Place}
use Rattle.name_rules.specs.Scopes.{is_place, changed_at}
use Rattle.name_tables.specs.PlaceMap.Values.{or_else, there}
use Rattle.name_tables.proofs.PlaceMap.Adding as adding
use Rattle.name_tables.specs.declared.name_records.body.Known.{Known}
use Rattle.name_tables.specs.declared.name_records.aggregates.Aggregate.{Aggregate}
use Rattle.name_tables.specs.declared.name_records.member_map.MemberMap.{MemberMap}
use Rattle.name_tables.specs.NameRecords.Bodies.{OneBody, or_empty}
use Rattle.name_tables.specs.NameRecords.Aggregates.{known_at, body_at, body_of_some, with_body}
use Rattle.name_tables.specs.NameRecords.Found.{MemberTable, member_there, member_named, first_in, known_entry, AreMembers}

-- a name that has a member keeps it
pub stays : (table : MemberTable) (at : Place) (v : Known) → is_some (member_there table at) ≡ true → (p : Place)
    → member_there table p ≡ or_else (member_there table p) (there at v p)
stays table at v known p = adding.stays (member_there table) at v known p

-- another gets one
pub comes : (table : MemberTable) (at : Place) (v : Known) (after : MemberTable)
    → is_some (member_there table at) ≡ false
    → ((p : Place) → member_there after p ≡ (if is_place at p then Some v else member_there table p)) → (p : Place)
    → member_there after p ≡ or_else (member_there table p) (there at v p)
comes table at v after unknown set p = adding.comes (member_there table) at v (member_there after) unknown set p

-- the first member of a name in two lists is that of the first, or else that of the second
named_behind : (xs ys : List Known) (name : ℕ) →
    member_named (xs ++ ys) name ≡ or_else (member_named xs name) (member_named ys name)
named_behind [] ys name = refl
named_behind (x ∷ xs) ys name = by (named_behind xs ys name) (nat_eq x.name name) where
  by : member_named (xs ++ ys) name ≡ or_else (member_named xs name) (member_named ys name) → (b : Bool) →
      (if b then Some x else member_named (xs ++ ys) name)
      ≡ or_else (if b then Some x else member_named xs name) (member_named ys name)
  by h true = refl
  by h false = h

-- a struct of another number has none of them
elsewhere : (m n : ℕ) (known : List Known) (name : ℕ) → nat_eq m n ≡ false
    → first_in (known_entry m) known (n, name) ≡ None
elsewhere m n [] name other = refl
elsewhere m n (k ∷ known) name other =
    ap (λ b. or_else (if b && nat_eq k.name name then Some k else None) (first_in (known_entry m) known (n, name)))
    other
    ∙ elsewhere m n known name other

-- and its own has those of the name
own_named : (m n : ℕ) (known : List Known) (name : ℕ) → nat_eq m n ≡ true
    → first_in (known_entry m) known (n, name) ≡ member_named known name
own_named m n [] name same = refl
own_named m n (k ∷ known) name same =
    ap (λ b. or_else (if b && nat_eq k.name name then Some k else None) (first_in (known_entry m) known (n, name))) same
    ∙ by (own_named m n known name same) (nat_eq k.name name)
  where
    by : first_in (known_entry m) known (n, name) ≡ member_named known name → (b : Bool) →
        or_else (if b then Some k else None) (first_in (known_entry m) known (n, name)) ≡
        (if b then Some k else member_named known name)
    by h true = refl
    by h false = h

-- a struct whose body is changed has the members that the change makes of its body
known_changed : (all : List Aggregate) (n : ℕ) (change : OneBody → OneBody) → n < length all →
    known_at (changed_at all n (with_body change)) n ≡ (change (or_empty (body_at all n))).known
known_changed [] n change lt = absurd (omega arith)
known_changed (it ∷ all) zero change lt = refl
known_changed (it ∷ all) (suc n) change lt = known_changed all n change (omega arith)

-- a change of one struct leaves the members of each other as they are
known_other : (all : List Aggregate) (n m : ℕ) (change : Aggregate → Aggregate) → (n ≡ m → ⊥) →
    known_at (changed_at all n change) m ≡ known_at all m
known_other [] n m change other = refl
known_other (it ∷ all) zero zero change other = absurd (other refl)
known_other (it ∷ all) zero (suc m) change other = refl
known_other (it ∷ all) (suc n) zero change other = refl
known_other (it ∷ all) (suc n) (suc m) change other = known_other all n m change (λ e. other (ap suc e))

-- a change that keeps a struct's members leaves those of all structs as they are
known_kept : (all : List Aggregate) (n m : ℕ) (change : Aggregate → Aggregate) →
    ((it : Aggregate) → (or_empty (change it).body).known ≡ (or_empty it.body).known) →
    known_at (changed_at all n change) m ≡ known_at all m
known_kept [] n m change keeps = refl
known_kept (it ∷ all) zero zero change keeps = keeps it
known_kept (it ∷ all) zero (suc m) change keeps = refl
known_kept (it ∷ all) (suc n) zero change keeps = refl
known_kept (it ∷ all) (suc n) (suc m) change keeps = known_kept all n m change keeps

-- a struct without a body, put behind the others, leaves the members of each number as they are
known_behind : (all : List Aggregate) (it : Aggregate) (m : ℕ) → it.body ≡ None
    → known_at (all ++ it ∷ []) m ≡ known_at all m
known_behind [] it zero none = ap (λ (b : Option OneBody). (or_empty b).known) none
known_behind [] it (suc m) none = refl
known_behind (x ∷ all) it zero none = refl
known_behind (x ∷ all) it (suc m) none = known_behind all it m none

-- members of a struct are added
pub members_more : (all new : List Aggregate) (n : ℕ) (it : Aggregate) (change : OneBody → OneBody) (more : List Known)
    (before after : MemberMap) → n < length all → it ≡ slice_index_or all n it →
    (change (or_empty it.body)).known ≡ (or_empty it.body).known ++ more →
    AreMembers all before → new ≡ changed_at all n (with_body change) →
    ((p : Place) → member_there after.map p ≡ or_else (member_there before.map p) (first_in (known_entry n) more p)) →
    AreMembers new after
members_more all new n it change more before after lt it_is adds h is added = record {
  same = λ number name. added (number, name) ∙
      ap (λ (o : Option Known). or_else o (first_in (known_entry n) more (number, name))) (h.same number name) ∙
      by_number number name (eqb_tells n number) ∙
      ap (λ (l : List Aggregate). member_named (known_at l number) name) (sym is);
}
  where
    body_is : body_at all n ≡ it.body
    body_is = ap body_of_some (slice_get_read all (length all) n it refl lt it_is)

    known_is : known_at (changed_at all n (with_body change)) n ≡ known_at all n ++ more
    known_is = known_changed all n change lt ∙
        ap (λ (b : Option OneBody). (change (or_empty b)).known) body_is ∙ adds ∙
        ap (λ (b : Option OneBody). (or_empty b).known ++ more) (sym body_is)

    by_number : (number name : ℕ)
        → ((nat_eq n number ≡ true) × (n ≡ number)) ⊎ ((nat_eq n number ≡ false) × (n ≡ number → ⊥))
        → or_else (member_named (known_at all number) name) (first_in (known_entry n) more (number, name)) ≡
        member_named (known_at (changed_at all n (with_body change)) number) name
    by_number number name (inl same) =
        ap (or_else (member_named (known_at all number) name)) (own_named n number more name same.0) ∙
        sym (named_behind (known_at all number) more name) ∙
        ap (λ (k : ℕ). member_named (known_at all k ++ more) name) (sym same.1) ∙
        ap (λ (l : List Known). member_named l name) (sym known_is) ∙
        ap (λ (k : ℕ). member_named (known_at (changed_at all n (with_body change)) k) name) same.1
    by_number number name (inr other) =
        ap (or_else (member_named (known_at all number) name)) (elsewhere n number more name other.0) ∙
        adding.or_none (member_named (known_at all number) name) ∙
        ap (λ (l : List Known). member_named l name) (sym (known_other all n number (with_body change) other.1))

-- one member
pub member_more : (all new : List Aggregate) (n : ℕ) (it : Aggregate) (change : OneBody → OneBody) (v : Known)
    (before after : MemberMap) → n < length all → it ≡ slice_index_or all n it →
    (change (or_empty it.body)).known ≡ (or_empty it.body).known ++ v ∷ [] →
    AreMembers all before → new ≡ changed_at all n (with_body change) →
    ((p : Place) → member_there after.map p ≡ or_else (member_there before.map p) (there (n, v.name) v p)) →
    AreMembers new after
member_more all new n it change v before after lt it_is adds h is added =
    members_more all new n it change (v ∷ []) before after lt it_is adds h is
    (λ p. added p ∙ ap (or_else (member_there before.map p)) (sym (adding.or_none (there (n, v.name) v p))))
