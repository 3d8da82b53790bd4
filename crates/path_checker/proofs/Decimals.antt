-- What is read of a number that is written in decimals.
use Rattle.std.proofs.Common.{◌≡◌, ℕ, ◌+◌, ◌-◌, ◌*◌, ◌/◌, ◌%◌, ◌^◌, ◌<◌, ◌≤◌, ◌==◌, ◌⊎◌, inl, inr, true, false, List, [], ◌∷◌, ◌++◌, Some, None, refl, sym, ◌∙◌, ap, arith, cond, ne_eqb, decimal}
use Rattle.std.proofs.lemmas.Fmt.{decimal_by_steps}
use Rattle.std.specs.Char.{is_ascii_digit}
use Rattle.path_checker.specs.Lines.{number_behind, number_of}

-- digits that write a number, the first of which is no zero unless it stands alone
pub record Writes (n : ℕ) (ds : List ℕ) : Type 0 where
  pub value : number_behind 0 ds ≡ Some n
  pub first : ℕ
  pub rest : List ℕ
  pub parts : ds ≡ first ∷ rest
  pub low : 48 ≤ first
  pub high : first < 58
  pub alone : (rest ≡ []) ⊎ (48 < first)
  pub leads : 0 < n → 48 < first

-- a digit of a number is one
pub digit_is : (k : ℕ) → k < 10 → is_ascii_digit (48 + k) ≡ true
digit_is k small = grind arith

-- a digit behind digits that say a number makes ten times this and the digit
pub append_behind : (v w : ℕ) (ds : List ℕ) (e : ℕ) → number_behind v ds ≡ Some w → is_ascii_digit e ≡ true
    → number_behind v (ds ++ e ∷ []) ≡ Some (10 * w + (e - 48))
append_behind v w [] e is digit = let same : v ≡ w = cc in rw (digit, same) refl
append_behind v w (d ∷ ds) e is digit =
    (elim (is_ascii_digit d) as
    (λ b. cond b (number_behind (10 * v + (d - 48)) ds) None ≡ Some w
    → cond b (number_behind (10 * v + (d - 48)) (ds ++ e ∷ [])) None ≡ Some (10 * w + (e - 48)))
    [ true ↦ λ h. append_behind (10 * v + (d - 48)) w ds e h digit | false ↦ λ h. absurd cc ]) is

-- a number below 10 is written by its one digit
one_digit : (n : ℕ) → n < 10 → Writes n ((48 + n) ∷ [])
one_digit n small = record {
  value = let same : 10 * 0 + (48 + n - 48) ≡ n = omega arith in rw (digit_is n small, same) refl;
  first = 48 + n;
  rest = [];
  parts = refl;
  low = omega arith;
  high = omega (arith, small);
  alone = inl refl;
  leads = λ positive. omega (arith, positive);
}

-- a number from 10 on is written by the digits of its tenth and its last digit
more_digits : (n : ℕ) (ds : List ℕ) → 10 ≤ n → Writes (n / 10) ds → Writes n (ds ++ ((48 + n % 10) ∷ []))
more_digits n ds large w =
    let last : n % 10 < 10 = omega arith in
    let positive : 0 < n / 10 = omega (arith, large) in
    let same : 10 * (n / 10) + (48 + n % 10 - 48) ≡ n = omega arith in
    let leads : 48 < w.first = w.leads positive in
    record {
      value = append_behind 0 (n / 10) ds (48 + n % 10) w.value (digit_is (n % 10) last) ∙ ap Some same;
      first = w.first;
      rest = w.rest ++ (48 + n % 10) ∷ [];
      parts = ap (λ (xs : List ℕ). xs ++ (48 + n % 10) ∷ []) w.parts;
      low = w.low;
      high = w.high;
      alone = inr leads;
      leads = λ positive. leads;
    }

pub decimal_writes : (n : ℕ) → n < 2 ^ 64 → Writes n (decimal n)
decimal_writes n fits = decimal_by_steps Writes one_digit more_digits n fits

-- a numeral that is 0 alone or does not begin with 0 is read as the number of its digits
pub is_read : (d : ℕ) (rest : List ℕ) → (rest ≡ []) ⊎ (48 < d) → number_of (d ∷ rest) ≡ number_behind 0 (d ∷ rest)
is_read d [] alone = refl
is_read d (e ∷ es) (inl is) = absurd cc
is_read d (e ∷ es) (inr above) =
    let other : (d == 48) ≡ false = ne_eqb d 48 (λ same. omega (arith, above, same)) in
    rw other refl

-- a number below two to the 64 that is written in decimals is read as itself
pub decimal_is_read : (n : ℕ) → n < 2 ^ 64 → number_of (decimal n) ≡ Some n
decimal_is_read n fits =
    let w = decimal_writes n fits in
    ap number_of w.parts ∙ is_read w.first w.rest w.alone ∙ ap (number_behind 0) (sym w.parts) ∙ w.value
