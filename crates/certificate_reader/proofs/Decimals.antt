-- The numerals without leading zeros are the decimal digits of numbers.
use Rattle.std.proofs.Common.{◌≡◌, ℕ, ◌+◌, ◌-◌, ◌*◌, ◌/◌, ◌%◌, ◌^◌, ◌<◌, ◌≤◌, ◌==◌, inr, Bool, true, false, List, [], ◌∷◌, ◌++◌, Option, Some, None, refl, sym, ◌∙◌, ap, arith, cond, decimal}
use Rattle.std.proofs.lemmas.Fmt.{decimal_by_steps}
use Rattle.std.specs.Char.{is_ascii_digit}
use Rattle.path_checker.specs.Lines.{number_behind, number_of}
use Rattle.path_checker.proofs.Decimals.{is_read}

pub digit_bounds : (d : ℕ) → is_ascii_digit d ≡ true → (48 ≤ d) × (d < 58)
digit_bounds d h = grind (arith, h)

-- the last digit behind a number, and what those before it write
record Last (v n : ℕ) (ds : List ℕ) : Type 0 where
  front : List ℕ
  digit : ℕ
  before : ℕ
  parts : ds ≡ front ++ digit ∷ []
  writes : number_behind v front ≡ Some before
  sum : n ≡ 10 * before + (digit - 48)
  low : 48 ≤ digit
  high : digit < 58

by_digit : {A : Type 0} → (d n : ℕ) (rest : Option ℕ) (b : Bool) → is_ascii_digit d ≡ b → cond b rest None ≡ Some n
    → (is_ascii_digit d ≡ true → rest ≡ Some n → A) → A
by_digit d n rest true is h then_ = then_ is h
by_digit d n rest false is h then_ = absurd cc

-- digits that write a number have a last one, and those before it write what is left without it
last_of : (ds : List ℕ) (v n d : ℕ) → number_behind v (d ∷ ds) ≡ Some n → Last v n (d ∷ ds)
last_of [] v n d h = by_digit d n (Some (10 * v + (d - 48))) (is_ascii_digit d) refl h
    (λ digit is.
    let bounds = digit_bounds d digit in
    record {
      front = [];
      digit = d;
      before = v;
      parts = refl;
      writes = refl;
      sum = cc;
      low = bounds.0;
      high = bounds.1;
    })
last_of (e ∷ es) v n d h = by_digit d n (number_behind (10 * v + (d - 48)) (e ∷ es)) (is_ascii_digit d) refl h
    (λ digit is.
    let deeper = last_of es (10 * v + (d - 48)) n e is in
    record {
      front = d ∷ deeper.front;
      digit = deeper.digit;
      before = deeper.before;
      parts = ap (λ (xs : List ℕ). d ∷ xs) deeper.parts;
      writes = rw digit deeper.writes;
      sum = deeper.sum;
      low = deeper.low;
      high = deeper.high;
    })

-- digits behind a number write no less than it
at_least : (ds : List ℕ) (v n : ℕ) → number_behind v ds ≡ Some n → v ≤ n
at_least [] v n h = let same : v ≡ n = cc in omega (arith, same)
at_least (d ∷ ds) v n h = by_digit d n (number_behind (10 * v + (d - 48)) ds) (is_ascii_digit d) refl h
    (λ digit is. let deeper = at_least ds (10 * v + (d - 48)) n is in omega (arith, deeper))

-- a numeral of two digits and more: what those before the last one write, and the last one
record Longer (n : ℕ) (xs : List ℕ) : Type 0 where
  large : 10 ≤ n
  front : List ℕ
  parts : xs ≡ front ++ (48 + n % 10) ∷ []
  writes : number_of front ≡ Some (n / 10)

by_lead : {A : Type 0} → (d n : ℕ) (rest : Option ℕ) (b : Bool) → (d == 48) ≡ b → cond b None rest ≡ Some n
    → ((d == 48) ≡ false → rest ≡ Some n → A) → A
by_lead d n rest true is h then_ = absurd cc
by_lead d n rest false is h then_ = then_ is h

no_zero : (d : ℕ) → (d == 48) ≡ false → 48 ≤ d → 48 < d
no_zero d other low = grind (arith, other, low)

-- a numeral of two digits and more is of a number from 10 on: digits of its tenth, and its last digit
longer : (n d e : ℕ) (es : List ℕ) → number_of (d ∷ e ∷ es) ≡ Some n → Longer n (d ∷ e ∷ es)
longer n d e es h = by_lead d n (number_behind 0 (d ∷ e ∷ es)) (d == 48) refl h
    (λ other whole. by_digit d n (number_behind (10 * 0 + (d - 48)) (e ∷ es)) (is_ascii_digit d) refl whole
    (λ digit more.
    let above : 48 < d = no_zero d other (digit_bounds d digit).0 in
    let last = last_of es (10 * 0 + (d - 48)) n e more in
    let some = at_least last.front (10 * 0 + (d - 48)) last.before last.writes in
    let tens : n / 10 ≡ last.before = omega (arith, last.sum, last.low, last.high) in
    let ones : 48 + n % 10 ≡ last.digit = omega (arith, last.sum, last.low, last.high) in
    let write : number_behind 0 (d ∷ last.front) ≡ Some last.before = rw digit last.writes in
    record {
      large = omega (arith, above, some, last.sum);
      front = d ∷ last.front;
      parts = ap (λ (xs : List ℕ). d ∷ xs) last.parts ∙ ap (λ (c : ℕ). d ∷ (last.front ++ c ∷ [])) (sym ones);
      writes = is_read d last.front (inr above) ∙ write ∙ ap Some (sym tens);
    }))

abbrev OnlyOne : ℕ → List ℕ → Type 0
OnlyOne n ds = (xs : List ℕ) → number_of xs ≡ Some n → xs ≡ ds

-- a number below 10 has its one digit as its only numeral
one_only : (n : ℕ) → n < 10 → OnlyOne n ((48 + n) ∷ [])
one_only n small [] h = absurd cc
one_only n small (d ∷ []) h = by_digit d n (Some (10 * 0 + (d - 48))) (is_ascii_digit d) refl h
    (λ digit is.
    let value : 10 * 0 + (d - 48) ≡ n = cc in
    let same : d ≡ 48 + n = omega (arith, value, (digit_bounds d digit).0) in
    ap (λ (c : ℕ). c ∷ []) same)
one_only n small (d ∷ e ∷ es) h = absurd (omega (arith, small, (longer n d e es h).large))

-- a number from 10 on has one numeral if its tenth has one
more_only : (n : ℕ) (ds : List ℕ) → 10 ≤ n → OnlyOne (n / 10) ds → OnlyOne n (ds ++ ((48 + n % 10) ∷ []))
more_only n ds large deeper [] h = absurd cc
more_only n ds large deeper (d ∷ []) h = by_digit d n (Some (10 * 0 + (d - 48))) (is_ascii_digit d) refl h
    (λ digit is.
    let value : 10 * 0 + (d - 48) ≡ n = cc in
    absurd (omega (arith, value, large, (digit_bounds d digit).1)))
more_only n ds large deeper (d ∷ e ∷ es) h =
    let it = longer n d e es h in it.parts ∙ ap (λ (xs : List ℕ). xs ++ (48 + n % 10) ∷ []) (deeper it.front it.writes)

pub decimal_of : (xs : List ℕ) (n : ℕ) → n < 2 ^ 64 → number_of xs ≡ Some n → xs ≡ decimal n
decimal_of xs n fits h = decimal_by_steps OnlyOne one_only more_only n fits xs h
