-- Operators and brackets in front of some bytes.
use Rattle.std.proofs.Common.{◌≡◌, ℕ, zero, suc, ◌<◌, ◌≤◌, Bool, true, false, not, cond, ◌==◌, List, [], ◌∷◌, length, take, drop, refl, ap, subst, arith, nat_le, bytes_eq, find, option_map, Some, None, inl, inr, ◌⊎◌}
use Rattle.std.specs.List.{list_all}
use Rattle.std.proofs.lemmas.Bool.{and_parts, le-leb, leb-true, cases_lt}
use Rattle.std.proofs.lemmas.Slice.Eq.{bytes_eq-Decides}
use Rattle.std.proofs.lemmas.List.{length-take-le}
use Rattle.c_words.specs.declared.kinds.Punct.{Punct}
use Rattle.c_lexer.specs.Words.{signs, sign_kind}
use Rattle.c_lexer.specs.Spelling.{is_sign, is_letter, is_digit, begins_with, IsLongestOf, HasNone}

-- no entry of a table whose texts all fail a test stands beside bytes that pass it
no_entry : (p : List ℕ → Bool) (table : List (List ℕ × Punct)) (bytes : List ℕ)
    → list_all (λ entry. not (p entry.0)) table ≡ true → p bytes ≡ true →
    find (λ entry. bytes_eq bytes entry.0) table ≡ None
no_entry p [] bytes none passes = refl
no_entry p (entry ∷ entries) bytes none passes =
    let parts = and_parts (not (p entry.0)) (list_all (λ entry. not (p entry.0)) entries) none in
    by_test (bytes_eq bytes entry.0) refl parts.0 (no_entry p entries bytes parts.1 passes)
  where
    by_test : (b : Bool) → bytes_eq bytes entry.0 ≡ b → not (p entry.0) ≡ true
        → find (λ entry. bytes_eq bytes entry.0) entries ≡ None →
        cond b (Some entry) (find (λ entry. bytes_eq bytes entry.0) entries) ≡ None
    by_test true is fails rest =
        absurd (let same : bytes ≡ entry.0 = (bytes_eq-Decides bytes entry.0).0 is in let h = rw same at passes in
        let g = rw h at fails in cc)
    by_test false is fails rest = rest

pub no_sign : (p : List ℕ → Bool) (bytes : List ℕ) → list_all (λ entry. not (p entry.0)) signs ≡ true → p bytes ≡ true
    → sign_kind bytes ≡ None
unfolding sign_kind
no_sign p bytes none passes = ap (option_map (λ entry. entry.1)) (no_entry p signs bytes none passes)

pub sign-long : (bytes : List ℕ) → 3 < length bytes → sign_kind bytes ≡ None
unfolding signs
sign-long bytes long = no_sign (λ bytes. nat_le 4 (length bytes)) bytes refl (le-leb 4 (length bytes) (omega arith))

pub sign-letter : (bytes : List ℕ) → begins_with is_letter bytes ≡ true → sign_kind bytes ≡ None
unfolding signs
sign-letter bytes h = no_sign (begins_with is_letter) bytes refl h

pub sign-digit : (bytes : List ℕ) → begins_with is_digit bytes ≡ true → sign_kind bytes ≡ None
unfolding signs
sign-digit bytes h = no_sign (begins_with is_digit) bytes refl h

pub sign-then_digit : (bytes : List ℕ) → begins_with is_digit (drop 1 bytes) ≡ true → sign_kind bytes ≡ None
unfolding signs
sign-then_digit bytes h = no_sign (λ bytes. begins_with is_digit (drop 1 bytes)) bytes refl h

pub sign-byte : (byte : ℕ) (bytes : List ℕ)
    → list_all (λ entry. not (begins_with (λ c. c == byte) entry.0)) signs ≡ true
    → begins_with (λ c. c == byte) bytes ≡ true → sign_kind bytes ≡ None
sign-byte byte bytes none h = no_sign (begins_with (λ c. c == byte)) bytes none h

pub sign-quote : (bytes : List ℕ) → begins_with (λ c. c == 39) bytes ≡ true → sign_kind bytes ≡ None
unfolding signs
sign-quote bytes h = sign-byte 39 bytes refl h

pub sign-double : (bytes : List ℕ) → begins_with (λ c. c == 34) bytes ≡ true → sign_kind bytes ≡ None
unfolding signs
sign-double bytes h = sign-byte 34 bytes refl h

pub sign-dollar : (bytes : List ℕ) → begins_with (λ c. c == 36) bytes ≡ true → sign_kind bytes ≡ None
unfolding signs
sign-dollar bytes h = sign-byte 36 bytes refl h

pub sign-nil : sign_kind [] ≡ None
unfolding signs sign_kind
sign-nil = refl

-- a sign that is found in a front of some length is of bytes of that length, which are there
some-fits : (n : ℕ) (bytes : List ℕ) (sign : Punct)
    → cond (nat_le n (length bytes)) (sign_kind (take n bytes)) None ≡ Some sign
    → (n ≤ length bytes) × (sign_kind (take n bytes) ≡ Some sign)
some-fits n bytes sign e = by_test (nat_le n (length bytes)) refl e
  where
    by_test : (b : Bool) → nat_le n (length bytes) ≡ b → cond b (sign_kind (take n bytes)) None ≡ Some sign
        → (n ≤ length bytes) × (sign_kind (take n bytes) ≡ Some sign)
    by_test true is e = (leb-true n (length bytes) is, e)
    by_test false is e = absurd cc

-- a front longer than n is no sign: one of n + 1 up to 3 bytes is none, and no sign has more
abbrev pub NoneAt : List ℕ → ℕ → Type 0
NoneAt bytes n = cond (nat_le n (length bytes)) (sign_kind (take n bytes)) None ≡ None

none-at : (bytes : List ℕ) (n : ℕ) → NoneAt bytes n → n ≤ length bytes → sign_kind (take n bytes) ≡ None
none-at bytes n none le = rw (le-leb n (length bytes) le) at none

past_three : (bytes : List ℕ) (m : ℕ) → 3 < m → m ≤ length bytes → is_sign (take m bytes) ≡ false
past_three bytes m lt le = rw (sign-long (take m bytes) (let l = length-take-le m bytes le in omega arith)) refl

-- a sign of up to three bytes, where no longer one is found, is the longest
pub sign-found : (bytes : List ℕ) (n : ℕ) (sign : Punct) → n ≤ 3
    → cond (nat_le n (length bytes)) (sign_kind (take n bytes)) None ≡ Some sign →
    ((m : ℕ) → n < m → m ≤ 3 → NoneAt bytes m) → (sign_kind (take n bytes) ≡ Some sign) × IsLongestOf is_sign bytes n
sign-found bytes n sign few found none =
    let fits = some-fits n bytes sign found in
    (fits.1, record { inside = fits.0; passes = rw fits.1 refl; longest = longer })
  where
    longer : (m : ℕ) → n < m → m ≤ length bytes → is_sign (take m bytes) ≡ false
    longer m lt le = by_order (cases_lt 3 m)
      where
        by_order : (3 < m) ⊎ (m ≤ 3) → is_sign (take m bytes) ≡ false
        by_order (inl past) = past_three bytes m past le
        by_order (inr within) = rw (none-at bytes m (none m lt within) le) refl

-- where no sign of one, two or three bytes is found, none is in front
pub sign-none : (bytes : List ℕ) → ((m : ℕ) → 0 < m → m ≤ 3 → NoneAt bytes m) → HasNone is_sign bytes
sign-none bytes none zero le = rw sign-nil refl
sign-none bytes none (suc m) le = by_order (cases_lt 3 (suc m))
  where
    by_order : (3 < suc m) ⊎ (suc m ≤ 3) → is_sign (take (suc m) bytes) ≡ false
    by_order (inl past) = past_three bytes (suc m) past le
    by_order (inr within) = rw (none-at bytes (suc m) (none (suc m) (omega arith) within) le) refl

-- of three numbers, each that lies above n
pub above_two : (P : ℕ → Type 0) → P 3 → (m : ℕ) → 2 < m → m ≤ 3 → P m
above_two P three m lt le = subst P (let e : 3 ≡ m = omega arith in e) three

-- what holds of 3 and of 2 holds of each number above 1 up to 3
pub above_one : (P : ℕ → Type 0) → P 3 → P 2 → (m : ℕ) → 1 < m → m ≤ 3 → P m
above_one P three two m lt le = by_order (cases_lt 2 m)
  where
    by_order : (2 < m) ⊎ (m ≤ 2) → P m
    by_order (inl more) = above_two P three m more le
    by_order (inr less) = subst P (let e : 2 ≡ m = omega arith in e) two

-- what holds of 3, of 2 and of 1 holds of each number above 0 up to 3
pub above_zero : (P : ℕ → Type 0) → P 3 → P 2 → P 1 → (m : ℕ) → 0 < m → m ≤ 3 → P m
above_zero P three two one m lt le = by_order (cases_lt 1 m)
  where
    by_order : (1 < m) ⊎ (m ≤ 1) → P m
    by_order (inl more) = above_one P three two m more le
    by_order (inr less) = subst P (let e : 1 ≡ m = omega arith in e) one
