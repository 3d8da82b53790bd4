-- The tails of a unit's tokens, and what their numbers say.
use Rattle.std.proofs.Common.{◌≡◌, ℕ, zero, suc, ◌+◌, ◌-◌, List, [], ◌∷◌, take, drop, slice_get, Some, refl, sym, ◌∙◌, ap, subst, arith}
use Rattle.c_words.specs.declared.kinds.TokenKind.{TokenKind}
use Rattle.c_words.specs.declared.kinds.TokenKind.TheVariants as kinds
use Rattle.c_words.specs.declared.kinds.Punct.TheVariants.{Comma}
use Rattle.c_tree.specs.declared.lexeme.Lexeme.{Lexeme}
use Rattle.c_tree.specs.Text.{separated, tokens_between}
use Rattle.c_tree.specs.WellFormed.{IsElement, IsElementKind}
use Rattle.c_reading.specs.Reading.{IsNumbered, IsTail}

-- what stands at a number, and behind it
at_drop : (all : List Lexeme) (n : ℕ) (t : Lexeme) (ts : List Lexeme) → drop n all ≡ t ∷ ts
    → (slice_get all n ≡ Some t) × (drop (suc n) all ≡ ts)
at_drop [] zero t ts h = absurd cc
at_drop [] (suc n) t ts h = absurd cc
at_drop (u ∷ us) zero t ts h = (ap Some (head_is u t us ts h), tail_is u t us ts h)
  where
    head_is : (u t : Lexeme) (us ts : List Lexeme) → u ∷ us ≡ t ∷ ts → u ≡ t
    head_is u t us ts h = cc

    tail_is : (u t : Lexeme) (us ts : List Lexeme) → u ∷ us ≡ t ∷ ts → us ≡ ts
    tail_is u t us ts h = cc
at_drop (u ∷ us) (suc n) t ts h = at_drop us n t ts h

module _ (all : List Lexeme) where
  pub tail_of : (t : Lexeme) (ts : List Lexeme) → IsTail all (t ∷ ts) → IsTail all ts
  tail_of t ts h = (suc h.0, sym (at_drop all h.0 t ts (sym h.1)).1)

  module _ (numbered : IsNumbered all) where
    -- the first of a tail has the number of its place
    pub number_is : (t : Lexeme) (ts : List Lexeme) (h : IsTail all (t ∷ ts)) → t.at ≡ h.0
    number_is t ts h = numbered h.0 t (at_drop all h.0 t ts (sym h.1)).0

    pub number_next : (t u : Lexeme) (ts : List Lexeme) → IsTail all (t ∷ u ∷ ts) → u.at ≡ suc t.at
    unfolding tail_of
    number_next t u ts h = number_is u ts (tail_of t (u ∷ ts) h) ∙ ap suc (sym (number_is t (u ∷ ts) h))

    -- a comma has the number before that of the token behind it
    pub comma_is : (t u : Lexeme) (ts : List Lexeme) → IsTail all (t ∷ u ∷ ts) → t.kind ≡ kinds.Punct Comma
        → t ∷ u ∷ ts ≡ separated (u ∷ ts)
    comma_is t u ts h is =
        let next : u.at ≡ suc t.at = number_next t u ts h in
        let before : t.at ≡ u.at - 1 = omega (arith, next) in
        let same : t ≡ record { kind = kinds.Punct Comma; at = u.at - 1 } =
        ap (λ (kind : TokenKind). record { kind = kind; at = t.at }) is
        ∙ ap (λ (n : ℕ). record { kind = kinds.Punct Comma; at = n }) before in
        ap (λ (t : Lexeme). t ∷ u ∷ ts) same

    -- the tokens from the number of a token to this number are that token
    pub element_is : (t : Lexeme) (ts : List Lexeme) → IsTail all (t ∷ ts) → tokens_between all t.at t.at ≡ t ∷ []
    element_is t ts h = by_number t.at (number_is t ts h)
      where
        one_is : (n : ℕ) → n + 1 - n ≡ 1
        one_is n = omega arith

        by_number : (n : ℕ) → n ≡ h.0 → tokens_between all n n ≡ t ∷ []
        by_number n is =
            ap (λ (m : ℕ). take (n + 1 - n) (drop m all)) is ∙ ap (λ (us : List Lexeme). take (n + 1 - n) us) (sym h.1)
            ∙ ap (λ (m : ℕ). take m (t ∷ ts)) (one_is n)

    -- a word that names an element is one token, with its number
    pub element_spelled : (token : ℕ) → IsElement (tokens_between all token token)
        → (t : Lexeme) × (tokens_between all token token ≡ t ∷ []) × (t.at ≡ token) × IsElementKind t.kind
    element_spelled token h = by_rest (drop token all) refl (by_take token (drop token all) h)
      where
        one_is : (n : ℕ) → n + 1 - n ≡ 1
        one_is n = omega arith

        by_take : (n : ℕ) (ts : List Lexeme) → IsElement (take (n + 1 - n) ts) → IsElement (take 1 ts)
        by_take n ts h = subst (λ (m : ℕ). IsElement (take m ts)) (one_is n) h

        by_rest : (ts : List Lexeme) → drop token all ≡ ts → IsElement (take 1 ts)
            → (t : Lexeme) × (tokens_between all token token ≡ t ∷ []) × (t.at ≡ token) × IsElementKind t.kind
        by_rest [] is h = absurd h
        by_rest (t ∷ ts) is h =
            (t, rw (one_is token, is) refl, numbered token t (at_drop all token t ts is).0, h)
