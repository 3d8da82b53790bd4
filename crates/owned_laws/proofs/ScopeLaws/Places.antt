-- Lists of places, and of what is declared at places.
use Rattle.std.proofs.Common.{◌≡◌, ◌⊎◌, inl, inr, Bool, true, false, List, [], ◌∷◌, ◌++◌, refl, ◌∙◌, ap, subst, sym, append_assoc}
use Rattle.std.specs.Prelude.{if◌then◌else◌}
use Rattle.tape_ops.specs.declared.op.Op.{Op}
use Rattle.name_rules.specs.Spellings.{Spelling, Place}
use Rattle.name_rules.specs.Scopes.{is_place}
use Rattle.row_rules.specs.Sites.{has_place, AreDifferent}
use Rattle.row_laws.specs.KeyLaws.Keys.{op_key, key_place, key_places}
use Rattle.name_rules.proofs.MeaningLaws.Lists.{place_itself, place_is}
pub use Rattle.name_rules.proofs.MeaningLaws.Lists.{declared_place}

-- a place that is in neither of two lists is not in both together
pub has_not : (xs ys : List Place) (p : Place) → has_place xs p ≡ false → has_place ys p ≡ false →
    has_place (xs ++ ys) p ≡ false
has_not [] ys p e d = d
has_not (x ∷ xs) ys p e d = by (is_place x p) e (λ h. has_not xs ys p h d)
  where
    by : (b : Bool) → (if b then true else has_place xs p) ≡ false →
        (has_place xs p ≡ false → has_place (xs ++ ys) p ≡ false) →
        (if b then true else has_place (xs ++ ys) p) ≡ false
    by true e more = absurd cc
    by false e more = more e

-- a place that is not in two lists in a row is not in the first
pub has_not_left : (xs ys : List Place) (p : Place) → has_place (xs ++ ys) p ≡ false → has_place xs p ≡ false
has_not_left [] ys p e = refl
has_not_left (x ∷ xs) ys p e = by (is_place x p) e (has_not_left xs ys p)
  where
    by : (b : Bool) → (if b then true else has_place (xs ++ ys) p) ≡ false →
        (has_place (xs ++ ys) p ≡ false → has_place xs p ≡ false) → (if b then true else has_place xs p) ≡ false
    by true e more = absurd cc
    by false e more = more e

-- a place that is not in two lists in a row is not in the second
pub has_not_right : (xs ys : List Place) (p : Place) → has_place (xs ++ ys) p ≡ false → has_place ys p ≡ false
has_not_right [] ys p e = e
has_not_right (x ∷ xs) ys p e = by (is_place x p) e (has_not_right xs ys p)
  where
    by : (b : Bool) → (if b then true else has_place (xs ++ ys) p) ≡ false →
        (has_place (xs ++ ys) p ≡ false → has_place ys p ≡ false) → has_place ys p ≡ false
    by true e more = absurd cc
    by false e more = more e

pub differ_left : (xs ys : List Place) → AreDifferent (xs ++ ys) → AreDifferent xs
differ_left [] ys h = tt
differ_left (x ∷ xs) ys h = (has_not_left xs ys x h.0, differ_left xs ys h.1)

pub differ_right : (xs ys : List Place) → AreDifferent (xs ++ ys) → AreDifferent ys
differ_right [] ys h = h
differ_right (x ∷ xs) ys h = differ_right xs ys h.1

-- where all places of two lists differ, a place of the first is not in the second
pub differ_apart : (xs ys : List Place) (p : Place) → AreDifferent (xs ++ ys) → has_place xs p ≡ true →
    has_place ys p ≡ false
differ_apart [] ys p h e = absurd cc
differ_apart (x ∷ xs) ys p h e =
    by (is_place x p) (place_is x p) e (differ_apart xs ys p h.1)
  where
    by : (b : Bool) → (b ≡ true → x ≡ p) → (if b then true else has_place xs p) ≡ true →
        (has_place xs p ≡ true → has_place ys p ≡ false) → has_place ys p ≡ false
    by true is e more = subst (λ (q : Place). has_place ys q ≡ false) (is refl) (has_not_right xs ys x h.0)
    by false is e more = more e

pub has_itself : (p : Place) (ys : List Place) → has_place (p ∷ ys) p ≡ true
has_itself p ys = ap (λ (b : Bool). if b then true else has_place ys p) (place_itself p)

-- where all places of two lists differ, a place of the second is not in the first
pub differ_before : (xs ys : List Place) (p : Place) → AreDifferent (xs ++ ys) → has_place ys p ≡ true →
    has_place xs p ≡ false
differ_before xs ys p h e = by (has_place xs p) refl
  where
    by : (b : Bool) → has_place xs p ≡ b → b ≡ false
    by false d = refl
    by true d = let none = differ_apart xs ys p h d in absurd cc

-- a place of the second of two lists is in both together
pub has_right : (xs ys : List Place) (p : Place) → has_place ys p ≡ true → has_place (xs ++ ys) p ≡ true
has_right xs ys p e = by (has_place (xs ++ ys) p) refl
  where
    by : (b : Bool) → has_place (xs ++ ys) p ≡ b → b ≡ true
    by true d = refl
    by false d = let none = has_not_right xs ys p d in absurd cc

-- a place of the first of two lists is in both together
pub has_left : (xs ys : List Place) (p : Place) → has_place xs p ≡ true → has_place (xs ++ ys) p ≡ true
has_left xs ys p e = by (has_place (xs ++ ys) p) refl
  where
    by : (b : Bool) → has_place (xs ++ ys) p ≡ b → b ≡ true
    by true d = refl
    by false d = let none = has_not_left xs ys p d in absurd cc

-- two lists of different places that have none in common are different together
pub differ_joined : (xs ys : List Place) → AreDifferent xs → AreDifferent ys →
    ((p : Place) → has_place xs p ≡ true → has_place ys p ≡ false) → AreDifferent (xs ++ ys)
differ_joined [] ys h k apart = k
differ_joined (x ∷ xs) ys h k apart = (
  has_not xs ys x h.0 (apart x (has_itself x xs)),
  differ_joined xs ys h.1 k (λ p e. apart p (more p (is_place x p) e)),
)
  where
    more : (p : Place) (b : Bool) → has_place xs p ≡ true → (if b then true else has_place xs p) ≡ true
    more p true e = refl
    more p false e = e

-- a place in a list is another than one that is not in it
pub not_same : (p q : Place) (xs : List Place) → has_place xs p ≡ true → has_place xs q ≡ false → is_place p q ≡ false
not_same p q xs h k = by (is_place p q) (place_is p q)
  where
    by : (b : Bool) → (b ≡ true → p ≡ q) → b ≡ false
    by true is =
        let there : has_place xs q ≡ true = subst (λ (x : Place). has_place xs x ≡ true) (is refl) h in absurd cc
    by false is = refl

-- a place in a list with one more at its end is in the list or is that one
pub last_or_before : (xs : List Place) (p q : Place) → has_place (xs ++ p ∷ []) q ≡ true →
    (has_place xs q ≡ true) ⊎ (p ≡ q)
last_or_before [] p q e = by (is_place p q) (place_is p q) e
  where
    by : (b : Bool) → (b ≡ true → p ≡ q) → (if b then true else false) ≡ true → (false ≡ true) ⊎ (p ≡ q)
    by true is e = inr (is refl)
    by false is e = absurd cc
last_or_before (x ∷ xs) p q e = by (is_place x q) e (last_or_before xs p q)
  where
    by : (b : Bool) → (if b then true else has_place (xs ++ p ∷ []) q) ≡ true →
        (has_place (xs ++ p ∷ []) q ≡ true → (has_place xs q ≡ true) ⊎ (p ≡ q)) →
        ((if b then true else has_place xs q) ≡ true) ⊎ (p ≡ q)
    by true e next = inl refl
    by false e next = next e

-- a place of a list is in the list with one more in front
pub tail_has : (p q : Place) (xs : List Place) → has_place xs q ≡ true → has_place (p ∷ xs) q ≡ true
tail_has p q xs e = by (is_place p q)
  where
    by : (b : Bool) → (if b then true else has_place xs q) ≡ true
    by true = refl
    by false = e

pub tail_has_not : (p q : Place) (xs : List Place) → has_place (p ∷ xs) q ≡ false → has_place xs q ≡ false
tail_has_not p q xs e = has_not_right (p ∷ []) xs q e

pub head_has_not : (p q : Place) (xs : List Place) → is_place p q ≡ false → has_place xs q ≡ false →
    has_place (p ∷ xs) q ≡ false
head_has_not p q xs e k = ap (λ (b : Bool). if b then true else has_place xs q) e ∙ k

-- of the ops of joined tapes

-- the places of ops along two tapes in a row are those of the first, then those of the second
pub keys_joined : (u : Spelling) (xs ys : List Op) → key_places u (xs ++ ys) ≡ key_places u xs ++ key_places u ys
keys_joined u [] ys = refl
keys_joined u (op ∷ xs) ys =
    ap (λ (ps : List Place). key_place u (op_key op) ++ ps) (keys_joined u xs ys)
    ∙ sym (append_assoc (key_place u (op_key op)) (key_places u xs) (key_places u ys))
