-- One reading more, which goes on at the end of a log.
use Rattle.std.proofs.Common.{◌≡◌, ℕ, zero, suc, ◌+◌, ◌<◌, List, [], ◌∷◌, ◌++◌, take, Ok, Err, refl, ap, arith, Option, Some, None, IfSome, All, ◌∙◌}
use Rattle.std.proofs.lemmas.List.Elements.{All-nil, All-cons, All-pop}
use Rattle.outside.specs.Readings.{Agrees, Reading, Going, Whole, Broken, ReadOn, Standing, at_last, broken_in, goes_on}

-- the last of a log
pub last_is : (f : Reading → Reading) (old : List Reading) (r : Reading) → at_last f (old ++ r ∷ []) ≡ old ++ f r ∷ []
last_is f [] r = refl
last_is f (a ∷ []) r = refl
last_is f (a ∷ b ∷ more) r = ap (λ (rs : List Reading). a ∷ rs) (last_is f (b ∷ more) r)

gave : (E : Type 0) (n : ℕ) (buffer name bytes : List ℕ) → 0 < n →
    goes_on {E = E} (Ok n) buffer (record { name = name; bytes = bytes; end = Going })
    ≡ record { name = name; bytes = bytes ++ take n buffer; end = Going }
gave E zero buffer name bytes p = absurd (omega (arith, p))
gave E (suc n) buffer name bytes p = refl

gave_none : (E : Type 0) (n : ℕ) (buffer name bytes : List ℕ) → n ≡ 0 →
    goes_on {E = E} (Ok n) buffer (record { name = name; bytes = bytes; end = Going })
    ≡ record { name = name; bytes = bytes; end = Whole }
gave_none E zero buffer name bytes p = refl
gave_none E (suc n) buffer name bytes p = absurd (omega (arith, p))

-- the last reading goes on by one call for more
module _ (E : Type 0) (buffer : List ℕ) (old mid new : List Reading) (name bytes : List ℕ)
    (was : mid ≡ old ++ record { name = name; bytes = bytes; end = Going } ∷ []) where
  pub broke : (e : E) → new ≡ at_last (goes_on (Err e) buffer) mid
      → new ≡ old ++ record { name = name; bytes = bytes; end = Broken } ∷ []
  broke e step =
      step ∙ ap (λ (rs : List Reading). at_last (goes_on {E = E} (Err e) buffer) rs) was
      ∙ last_is (goes_on {E = E} (Err e) buffer) old (record { name = name; bytes = bytes; end = Going })

  pub moved : (n : ℕ) → 0 < n → new ≡ at_last (goes_on {E = E} (Ok n) buffer) mid
      → new ≡ old ++ record { name = name; bytes = bytes ++ take n buffer; end = Going } ∷ []
  moved n some step =
      step ∙ ap (λ (rs : List Reading). at_last (goes_on {E = E} (Ok n) buffer) rs) was
      ∙ last_is (goes_on {E = E} (Ok n) buffer) old (record { name = name; bytes = bytes; end = Going })
      ∙ ap (λ (r : Reading). old ++ r ∷ []) (gave E n buffer name bytes some)

  pub ended_so : (n : ℕ) → n ≡ 0 → new ≡ at_last (goes_on {E = E} (Ok n) buffer) mid
      → new ≡ old ++ record { name = name; bytes = bytes; end = Whole } ∷ []
  ended_so n none step =
      step ∙ ap (λ (rs : List Reading). at_last (goes_on {E = E} (Ok n) buffer) rs) was
      ∙ last_is (goes_on {E = E} (Ok n) buffer) old (record { name = name; bytes = bytes; end = Going })
      ∙ ap (λ (r : Reading). old ++ r ∷ []) (gave_none E n buffer name bytes none)

-- a call that went through one reading
pub reads_one : (old new : Standing) (r : Reading) → new.log ≡ old.log ++ r ∷ []
    → new.failed ≡ old.failed + broken_in (r ∷ []) → new.contents ≡ old.contents
    → IfSome new.contents (λ all. All (Agrees all) new.log) → ReadOn old new (r ∷ [])
reads_one old new r behind failed same agrees =
    record { behind = behind; failed = failed; contents = same; agrees = of new.contents agrees }
  where
    of : (told : Option (List (List ℕ × List ℕ))) → IfSome told (λ all. All (Agrees all) new.log)
        → IfSome told (λ all. All (Agrees all) (r ∷ []))
    of None is = tt
    of (Some all) is =
        All-cons (Agrees all) r [] (All-pop (Agrees all) new.log old.log (Some r) behind is).1 (All-nil (Agrees all))
