-- Digits read one by one.
use Rattle.std.proofs.Common.{◌≡◌, ℕ, ◌+◌, ◌*◌, ◌-◌, ◌<◌, ◌≤◌, List, [], ◌∷◌, length, get_or, take, drop, sym, ap, ◌∙◌, refl, ◌==◌, false, arith, add-one, All}
use Rattle.std.proofs.lemmas.Bool.{false≢true}
use Rattle.std.proofs.Math.Seq.{drop-cons}
use Rattle.std.proofs.lemmas.List.{take_all, at_drop_all}
use Rattle.std.proofs.lemmas.List.Elements.{All-more, All-get_or, All-same}
use Rattle.index_words.specs.Words.{IsDigit, most_index, number_behind, number_of}
use Rattle.cq_prelude.specs.Written.{IsWritten}

-- what a loop over digits knows behind the first i of them
pub record AreReadTo (digits : List ℕ) (i number : ℕ) : Type 0 where
  pub left : number_behind number (drop i digits) ≡ number_of digits
  pub decimal : All IsDigit (take i digits)
  pub within : number ≤ most_index

behind_least : (digits : List ℕ) (n : ℕ) → n ≤ number_behind n digits
behind_least [] n = omega arith
behind_least (c ∷ digits) n = let h = behind_least digits (n * 10 + (c - 48)) in omega arith

behind_drop : (digits : List ℕ) (i n : ℕ) → i < length digits →
    number_behind n (drop i digits) ≡ number_behind (n * 10 + (get_or digits i 0 - 48)) (drop (i + 1) digits)
behind_drop digits i n lt = rw (add-one, drop-cons digits i 0 lt) refl

-- one digit more, within the limit, keeps what is read the number of the digits so far
pub goes_on : (digits : List ℕ) (i number next : ℕ) → AreReadTo digits i number → i < length digits →
    IsDigit (get_or digits i 0) × (next ≡ number * 10 + (get_or digits i 0 - 48)) × (next ≤ most_index)
    → AreReadTo digits (i + 1) next
goes_on digits i number next h lt one = record {
  left = ap (λ n. number_behind n (drop (i + 1) digits)) one.1 ∙ sym (behind_drop digits i number lt) ∙ h.left;
  decimal = All-more IsDigit digits i 0 lt h.decimal one.0;
  within = one.2;
}

-- where the next byte is no digit, or the number with it is over the limit, the bytes say no number
pub stops : (digits : List ℕ) (i number n : ℕ) → AreReadTo digits i number → i < length digits →
    (IsDigit (get_or digits i 0) → number * 10 + (get_or digits i 0 - 48) ≤ most_index → ⊥) → IsWritten digits n → ⊥
stops digits i number n h lt none w =
    let left = sym (behind_drop digits i number lt) ∙ h.left ∙ w.says in
    let least = behind_least (drop (i + 1) digits) (number * 10 + (get_or digits i 0 - 48)) in
    let within = w.within in
    none (All-get_or IsDigit digits i 0 lt w.numeral.decimal) (omega arith)

-- behind the last of some digits what is read is the number that they say
pub ends : (digits : List ℕ) (i number : ℕ) → AreReadTo digits i number → length digits ≤ i
    → false ≡ (length digits == 0) →
    IsWritten digits number
ends digits i number h le some = record {
  numeral = record {
    some = λ is. false≢true (rw is at some);
    decimal = All-same IsDigit digits (take i digits) (sym (take_all i digits le)) h.decimal;
  };
  says = sym (sym (at_drop_all (number_behind number) digits i le) ∙ h.left);
  within = h.within;
}
