-- The elements and the lattices that bound accesses, one behind the other.
use Rattle.std.proofs.Common.{◌≡◌, ℕ, zero, suc, ◌+◌, ◌≤◌, ◌^◌, false, ◌||◌, List, [], ◌∷◌, length, drop, slice_get, Some, sym, ◌∙◌, ap, arith, if◌then◌else◌}
use Rattle.std.proofs.Math.Nat.{pow-suc}
use Rattle.qual_base.proofs.Lists.{drop_past}
use Rattle.lattice_core.specs.declared.Entry.{Entry}
use Rattle.lattice_core.specs.View.{LatticeView}
use Rattle.row_rules.specs.Annotations.{is_access, bounds_accesses, access_from}

-- from the index of an element on a list is this element and those from the next index on
drop_there : {A : Type 0} (xs : List A) (n : ℕ) (x : A) → slice_get xs n ≡ Some x → drop n xs ≡ x ∷ drop (n + 1) xs
drop_there [] n x is = absurd cc
drop_there (y ∷ ys) zero x is = let e : y ≡ x = cc in ap (λ z. z ∷ ys) e
drop_there (y ∷ ys) (suc n) x is = let e : suc n + 1 ≡ suc (n + 1) = omega arith in rw e (drop_there ys n x is)

pub no_entry_left : (n : ℕ) (es : List Entry) → length es ≤ n → false ≡ bounds_accesses (drop n es)
no_entry_left n es le = ap bounds_accesses (sym (drop_past es n le))

pub entry_there : (n : ℕ) (es : List Entry) (e : Entry) → slice_get es n ≡ Some e
    → bounds_accesses (drop n es) ≡ (is_access e.deref || bounds_accesses (drop (n + 1) es))
entry_there n es e is = ap bounds_accesses (drop_there es n e is)

-- the same by a number that is equal
pub entry_at : (n m : ℕ) (es : List Entry) (e : Entry) → m ≡ n → slice_get es m ≡ Some e
    → bounds_accesses (drop n es) ≡ (is_access e.deref || bounds_accesses (drop (n + 1) es))
entry_at n m es e same is = entry_there n es e (ap (slice_get es) (sym same) ∙ is)

pub no_view_left : (n : ℕ) (ls : List LatticeView) → length ls ≤ n → 0 ≡ access_from n (drop n ls)
no_view_left n ls le = ap (access_from n) (sym (drop_past ls n le))

abbrev bit : LatticeView → ℕ → ℕ
bit l n = if bounds_accesses l.entries then 2 ^ n else 0

pub view_there : (n : ℕ) (ls : List LatticeView) (l : LatticeView) → slice_get ls n ≡ Some l
    → access_from n (drop n ls)
    ≡ (if bounds_accesses l.entries then 2 ^ n else 0) + access_from (n + 1) (drop (n + 1) ls)
view_there n ls l is = ap (access_from n) (drop_there ls n l is)
    ∙ (let one : suc n ≡ n + 1 = omega arith in ap (λ m. bit l n + access_from m (drop (n + 1) ls)) one)

-- two to the power of n + 1 is twice that of n
doubled : (n : ℕ) → 2 ^ (n + 1) ≡ 2 ^ n + 2 ^ n
doubled n =
    let e : n + 1 ≡ suc n = omega arith in
    let m = ap (λ k. 2 ^ k) e ∙ pow-suc 2 n in
    omega arith

-- a bit and those above it are below the next one
pub has_room : (n bit others : ℕ) → bit ≤ 2 ^ n → others + 2 ^ (n + 1) ≤ 65536 → bit + others + 2 ^ n ≤ 65536
has_room n bit others low rest = let e = doubled n in omega arith

pub view_at : (n m : ℕ) (ls : List LatticeView) (l : LatticeView) → m ≡ n → slice_get ls m ≡ Some l
    → access_from n (drop n ls)
    ≡ (if bounds_accesses l.entries then 2 ^ n else 0) + access_from (n + 1) (drop (n + 1) ls)
view_at n m ls l same is = view_there n ls l (ap (slice_get ls) (sym same) ∙ is)
