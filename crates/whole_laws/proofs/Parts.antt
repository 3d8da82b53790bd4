-- Lists of places that are parts of others, in their order.
use Rattle.std.proofs.Common.{◌≡◌, false, List, [], ◌∷◌, ◌++◌, refl}
use Rattle.name_rules.specs.Spellings.{Place}
use Rattle.row_rules.specs.Sites.{AreDifferent, has_place}
use Rattle.owned_laws.proofs.ScopeLaws.Places.{has_itself, has_not_left, head_has_not, not_same, tail_has_not}

-- the first ones are the second ones, of which some are left out
pub data IsPart : List Place → List Place → Type 0 where
  none : IsPart [] []
  left : (p : Place) (xs ys : List Place) → IsPart xs ys → IsPart xs (p ∷ ys)
  kept : (p : Place) (xs ys : List Place) → IsPart xs ys → IsPart (p ∷ xs) (p ∷ ys)

-- a place that is not in a list is in no part of it
part_has_not : {xs ys : List Place} (q : Place) → IsPart xs ys → has_place ys q ≡ false → has_place xs q ≡ false
part_has_not q none e = refl
part_has_not q (left p xs ys h) e = part_has_not q h (tail_has_not p q ys e)
part_has_not q (kept p xs ys h) e =
    head_has_not p q xs (not_same p q (p ∷ []) (has_itself p []) (has_not_left (p ∷ []) ys q e))
    (part_has_not q h (tail_has_not p q ys e))

-- a part of a list of different places has different places
pub part_differs : {xs ys : List Place} → IsPart xs ys → AreDifferent ys → AreDifferent xs
part_differs none d = tt
part_differs (left p xs ys h) d = part_differs h d.1
part_differs (kept p xs ys h) d = (part_has_not p h d.0, part_differs h d.1)

pub no_part : (ys : List Place) → IsPart [] ys
no_part [] = none
no_part (p ∷ ys) = left p [] ys (no_part ys)

-- a part of a list is a part of it with more places behind
pub further_part : {xs ys : List Place} (more : List Place) → IsPart xs ys → IsPart xs (ys ++ more)
further_part more none = no_part more
further_part more (left p xs ys h) = left p xs (ys ++ more) (further_part more h)
further_part more (kept p xs ys h) = kept p xs (ys ++ more) (further_part more h)

-- parts of two lists, joined, are a part of the lists joined
pub joined_part : {xs ys vs ws : List Place} → IsPart xs ys → IsPart vs ws → IsPart (xs ++ vs) (ys ++ ws)
joined_part none k = k
joined_part {vs = vs} {ws = ws} (left p xs ys h) k = left p (xs ++ vs) (ys ++ ws) (joined_part h k)
joined_part {vs = vs} {ws = ws} (kept p xs ys h) k = kept p (xs ++ vs) (ys ++ ws) (joined_part h k)

pub same_part : (p : Place) → IsPart (p ∷ []) (p ∷ [])
same_part p = kept p [] [] none
