-- A text that the code reads as a number, and `number_of`.
use Rattle.std.proofs.Common.{arith, refl, sym, ap, subst, ◌≡◌, ◌∙◌, ◌<◌, ◌≤◌, ◌&&◌, ◌==◌, ◌^◌, ◌+◌, ◌*◌, ℕ, Bool, true, false, List, []}
use Rattle.std.proofs.Common.{◌∷◌, length, Some, None, true≢false, le-leb, leb-true}
use Rattle.std.specs.Prelude.{nat_le}
use Rattle.std.specs.List.{list_all}
use Rattle.std.specs.Char.{digit_value}
use Rattle.std.specs.Str.Parse.{AllDigits, IsNumeral, digits_value, digits_value_after, without_leading_plus}
use Rattle.std.proofs.lemmas.Bool.Decides.{nat_tests}
use Rattle.std.proofs.lemmas.Bool.{and_parts}
use Rattle.cqual_words.specs.Words.{Text, begins_number, is_digit, is_numeral, number_of}

-- a digit has a value below ten
digit_below : (b : ℕ) → is_digit b ≡ true → digit_value b < 10
digit_below b h = grind (arith, nat_tests)

-- and nothing else does
below_digit : (b : ℕ) → digit_value b < 10 → is_digit b ≡ true
below_digit b h = grind (arith, nat_tests)

digits_pass : (ds : List ℕ) → AllDigits 10 ds → list_all is_digit ds ≡ true
digits_pass [] h = refl
digits_pass (d ∷ ds) h = rw (below_digit d h.0) (digits_pass ds h.1)

-- bytes that pass the test of digits are decimal digits
digits_from : (ds : List ℕ) → list_all is_digit ds ≡ true → AllDigits 10 ds
digits_from [] h = tt
digits_from (d ∷ ds) h =
    let parts = and_parts _ _ h in
    (digit_below d parts.0, digits_from ds parts.1)

no_plus : (b : ℕ) → (nat_le 49 b && nat_le b 57) ≡ true → (b == 43) ≡ false
no_plus b h = grind (arith, nat_tests)

-- a text that begins with a digit has no plus at its start
plusless : (text : Text) → begins_number text ≡ true → without_leading_plus text ≡ text
plusless [] h = refl
plusless (b ∷ more) h = rw (no_plus b h) refl

some_length : (text : Text) → begins_number text ≡ true → 0 < length text
some_length [] h = absurd (true≢false (sym h))
some_length (b ∷ more) h = omega arith

below_word : (n : ℕ) → n ≤ 1000 → n < 2 ^ 32
below_word n h = omega arith

abbrev pub IsRead : Text → Type 0
IsRead text = IsNumeral 10 (without_leading_plus text) × (digits_value 10 (without_leading_plus text) < 2 ^ 32)

-- what `parse` read
pub read_number : (text : Text) (n : ℕ) → begins_number text ≡ true → IsRead text
    → n ≡ digits_value 10 (without_leading_plus text)
    → n ≤ 1000 → Some n ≡ number_of text
read_number text n begins h is most =
    let same = plusless text begins in
    let digits : list_all is_digit text ≡ true = digits_pass text (subst (AllDigits 10) same h.0.1) in
    let n_is : n ≡ digits_value 10 text = is ∙ ap (digits_value 10) same in
    let small : nat_le (digits_value 10 text) 1000 ≡ true =
    subst (λ m. nat_le m 1000 ≡ true) n_is (le-leb n 1000 most) in
    rw (begins, digits, small) (ap Some n_is)

-- digits behind a number write no less than it
after_more : (n : ℕ) (ds : List ℕ) → n ≤ digits_value_after 10 n ds
after_more n [] = omega arith
after_more n (d ∷ ds) =
    let next = after_more (n * 10 + digit_value d) ds in
    omega arith

digit_some : (b : ℕ) → (nat_le 49 b && nat_le b 57) ≡ true → 1 ≤ 0 * 10 + digit_value b
digit_some b h = grind (arith, nat_tests)

-- a numeral that does not begin with 0 writes at least 1
begins_some : (text : Text) → begins_number text ≡ true → 1 ≤ digits_value 10 text
begins_some [] h = absurd (true≢false (sym h))
begins_some (b ∷ more) h =
    let first = digit_some b h in
    let rest = after_more (0 * 10 + digit_value b) more in
    omega arith

-- the number that it read is at least 1
pub read_some : (text : Text) (n : ℕ) → begins_number text ≡ true → n ≡ digits_value 10 (without_leading_plus text)
    → 1 ≤ n
read_some text n begins is =
    subst (λ m. 1 ≤ m) (sym (is ∙ ap (digits_value 10) (plusless text begins))) (begins_some text begins)

-- what it did not read
pub no_number : (text : Text) → begins_number text ≡ true → (IsRead text → ⊥) → None ≡ number_of text
no_number text begins h = go (is_numeral text && nat_le (digits_value 10 text) 1000) refl
  where
    go : (t : Bool) → (is_numeral text && nat_le (digits_value 10 text) 1000) ≡ t → None ≡ number_of text
    go false t = rw t refl
    go true t =
        let parts = and_parts (is_numeral text) (nat_le (digits_value 10 text) 1000) t in
        let digits = digits_from text (and_parts (begins_number text) (list_all is_digit text) parts.0).1 in
        let same = sym (plusless text begins) in
        let within = below_word (digits_value 10 text) (leb-true (digits_value 10 text) 1000 parts.1) in
        absurd (h (subst (λ ds. IsNumeral 10 ds × (digits_value 10 ds < 2 ^ 32)) same
        ((some_length text begins, digits), within)))
