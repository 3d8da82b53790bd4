-- Tokens that are numbered by their places have different numbers.
use Rattle.std.proofs.Common.{◌≡◌, ℕ, suc, ◌<◌, Bool, true, false, List, [], ◌∷◌, refl, arith, nat_eq}
use Rattle.std.proofs.lemmas.Bool.{eqb-true}
use Rattle.std.specs.Prelude.{if◌then◌else◌}
use Rattle.c_tree.specs.declared.lexeme.Lexeme.{Lexeme}
use Rattle.row_laws.specs.KeyLaws.Differing.{has_number, AreNumbered}
use Rattle.token_laws.specs.Tokens.{AreCounted, CountedAreRead}

-- tokens that are numbered from m on have no number below m
no_number : (n m : ℕ) (k : List Lexeme) → n < m → AreCounted m k → has_number n k ≡ false
no_number n m [] less h = refl
no_number n m (it ∷ k) less h = by (nat_eq it.at n) refl (no_number n (suc m) k (omega (arith, less)) h.1)
  where
    by : (b : Bool) → nat_eq it.at n ≡ b → has_number n k ≡ false → (if b then true else has_number n k) ≡ false
    by true e none =
        let same : it.at ≡ n = eqb-true it.at n e in
        let place : it.at ≡ m = h.0 in
        absurd (omega (arith, same, place, less))
    by false e none = none

-- tokens that are numbered by their places have different numbers
numbered : (m : ℕ) (k : List Lexeme) → AreCounted m k → AreNumbered k
numbered m [] h = tt
numbered m (it ∷ k) h =
    let place : it.at ≡ m = h.0 in (no_number it.at (suc m) k (omega (arith, place)) h.1, numbered (suc m) k h.1)

pub counted_are_read : CountedAreRead
counted_are_read it all h =
    record { all = all; tokens = h.tokens; rules = h.rules; numbers = numbered 0 all h.counted }
