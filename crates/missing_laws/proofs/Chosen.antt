-- A world knows which associations of selections are candidates.
use Rattle.std.proofs.Common.{◌≡◌, ℕ, Bool, true, false, List, [], ◌∷◌, ◌++◌, slice_get, unwrap_or}
use Rattle.row_rules.specs.Starting.{Selection}
use Rattle.row_rules.specs.Worlds.{World}

abbrev pub IsChosen : World → Selection → Type 0
IsChosen w it = (n : ℕ) → w.candidate it.at n ≡ unwrap_or (slice_get it.flags n) false

abbrev pub AreChosen : World → List Selection → Type 0
AreChosen w [] = Unit {0}
AreChosen w (it ∷ others) = IsChosen w it × AreChosen w others

pub first_chosen : (w : World) (xs ys : List Selection) → AreChosen w (xs ++ ys) → AreChosen w xs
first_chosen w [] ys h = tt
first_chosen w (x ∷ xs) ys h = (h.0, first_chosen w xs ys h.1)

pub last_chosen : (w : World) (xs ys : List Selection) → AreChosen w (xs ++ ys) → AreChosen w ys
last_chosen w [] ys h = h
last_chosen w (x ∷ xs) ys h = last_chosen w xs ys h.1
