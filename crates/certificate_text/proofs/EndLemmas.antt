-- The ends of constraints, and the table of names.
use Rattle.std.proofs.Common.{◌≡◌, ℕ, zero, suc, ◌+◌, ◌*◌, ◌<◌, ◌≤◌, ◌==◌, List, [], ◌∷◌, length, drop, slice_get, slice_set, Option, Some, if◌then◌else◌, refl, sym, ◌∙◌, ap, arith, ne_eqb}
use Rattle.qual_base.proofs.Tests.{some_is}
use Rattle.flow_graph.specs.declared.constraint.Link.{Link}
use Rattle.flow_graph.specs.declared.constraint.Link.TheVariants.{Le, Const, Bound, Enter, Leave}
use Rattle.flow_graph.specs.declared.constraint.Constraint.{Constraint}
use Rattle.flow_graph.specs.System.{vars_of_link}
use Rattle.certificate_text.specs.Names.{first_end, second_end, ends_of, first_from, name_in}

-- the end of twice a constraint's number is its first one
pub first_there : (cs : List Constraint) (n k : ℕ) (c : Constraint) → slice_get cs n ≡ Some c → k ≡ 2 * n
    → slice_get (ends_of cs) k ≡ Some (first_end c.link)
first_there [] n k c there is = absurd cc
first_there (x ∷ cs) zero k c there is =
    let same : k ≡ 0 = omega (arith, is) in
    rw same (ap (λ (d : Constraint). Some (first_end d.link)) (some_is there))
first_there (x ∷ cs) (suc n) k c there is =
    let same : k ≡ suc (suc (2 * n)) = omega (arith, is) in
    rw same (first_there cs n (2 * n) c there refl)

-- the end of twice a constraint's number and one is its second one
pub second_there : (cs : List Constraint) (n k : ℕ) (c : Constraint) → slice_get cs n ≡ Some c → k ≡ 2 * n + 1
    → slice_get (ends_of cs) k ≡ Some (second_end c.link)
second_there [] n k c there is = absurd cc
second_there (x ∷ cs) zero k c there is =
    let same : k ≡ suc 0 = omega (arith, is) in
    rw same (ap (λ (d : Constraint). Some (second_end d.link)) (some_is there))
second_there (x ∷ cs) (suc n) k c there is =
    let same : k ≡ suc (suc (2 * n + 1)) = omega (arith, is) in
    rw same (second_there cs n (2 * n + 1) c there refl)

-- the first end of a link is below a number that is above its variables
pub first_below : (link : Link) (vars : ℕ) → vars_of_link link ≤ vars → first_end link < vars
first_below (Le u v) vars h = omega (arith, h)
first_below (Const l e v) vars h = omega (arith, h)
first_below (Bound v l e) vars h = omega (arith, h)
first_below (Enter s u v) vars h = omega (arith, h)
first_below (Leave s u v) vars h = omega (arith, h)

-- the second end of a link is below a number that is above its variables
pub second_below : (link : Link) (vars : ℕ) → vars_of_link link ≤ vars → second_end link < vars
second_below (Le u v) vars h = omega (arith, h)
second_below (Const l e v) vars h = omega (arith, h)
second_below (Bound v l e) vars h = omega (arith, h)
second_below (Enter s u v) vars h = omega (arith, h)
second_below (Leave s u v) vars h = omega (arith, h)

pub ends_length : (cs : List Constraint) → length (ends_of cs) ≡ 2 * length cs
ends_length [] = refl
ends_length (c ∷ cs) = let rest = ends_length cs in omega (arith, rest)

-- what is left from a place on begins with what stands there
pub drop_there : {A : Type 0} → (xs : List A) (k : ℕ) (x : A) → slice_get xs k ≡ Some x
    → drop k xs ≡ x ∷ drop (suc k) xs
drop_there [] k x there = absurd cc
drop_there (y ∷ xs) zero x there = ap (λ z. z ∷ xs) (some_is there)
drop_there (y ∷ xs) (suc k) x there = drop_there xs k x there

drop_none : {A : Type 0} → (k : ℕ) → drop {A = A} k [] ≡ []
drop_none zero = refl
drop_none (suc k) = refl

-- setting one place leaves the length of a list
pub set_length : {A : Type 0} → (xs : List A) (k : ℕ) (x : A) → length (slice_set xs k x) ≡ length xs
set_length [] k x = refl
set_length (y ∷ xs) zero x = refl
set_length (y ∷ xs) (suc k) x = ap suc (set_length xs k x)

same_next : (u v : ℕ) → (suc u == suc v) ≡ (u == v)
same_next u v = grind arith

-- a table where one more name is noted
pub noted : (table : List (Option ℕ)) (u v k : ℕ) → u < length table
    → name_in (slice_set table u (Some k)) v ≡ (if u == v then Some k else name_in table v)
noted [] u v k within = absurd (omega (arith, within))
noted (x ∷ table) zero zero k within = refl
noted (x ∷ table) zero (suc v) k within = rw (ne_eqb 0 (suc v) (λ e. omega (arith, e))) refl
noted (x ∷ table) (suc u) zero k within = rw (ne_eqb (suc u) 0 (λ e. omega (arith, e))) refl
noted (x ∷ table) (suc u) (suc v) k within = rw (same_next u v) (noted table u v k (omega (arith, within)))

-- the names of ends from one on, and of one more before them
pub known_before : (table : List (Option ℕ)) (ends : List ℕ) (k u : ℕ) → slice_get ends k ≡ Some u → u < length table →
    ((v : ℕ) → name_in table v ≡ first_from (k + 1) (drop (suc k) ends) v) → (v : ℕ)
    → name_in (slice_set table u (Some k)) v ≡ first_from k (drop k ends) v
known_before table ends k u there within known v =
    noted table u v k within ∙ ap (λ o. if u == v then Some k else o) (known v)
    ∙ ap (λ xs. first_from k xs v) (sym (drop_there ends k u there))
