-- Index words marked one after the other.
use Rattle.std.proofs.Common.{◌≡◌, ◌≢◌, ℕ, ◌+◌, ◌<◌, ◌≤◌, Bool, true, false, eqb, cond, List, [], ◌∷◌, ◌++◌, ◌⊎◌, Option, None, Some, option_map, slice_get, slice_range, refl, sym, ap, subst, ⊎_elim, inl, inr, arith, All, Contains}
use Rattle.std.proofs.lemmas.Bool.{cases_lt, eq-eqb, ne_eqb}
use Rattle.std.proofs.lemmas.Bool.Decides.{eqb_tells}
use Rattle.std.proofs.lemmas.List.Elements.{All-head, All-push, All-tail, All-weaker}
use Rattle.std.proofs.lemmas.Option.{slice_get-map}
use Rattle.c_lexer.specs.declared.token.Token.{Token}
use Rattle.c_lexer.specs.Tokens.{Lexed, end_of, start_of, text_of}
use Rattle.index_words.specs.Marks.{IndexMark, numbers_at}
use Rattle.cq_prelude.specs.Marking.{AreMarkedTo, is_marked}
use Rattle.cq_prelude.specs.Rules.{IsIndex, IsSetOf, Says}

abbrev mark_at : ℕ → List ℕ → IndexMark
mark_at at set = record { token = at; numbers = set }

-- a mark at a token behind all others gives this token its numbers
here : (marks : List IndexMark) (at : ℕ) (set : List ℕ) → All (λ it. it.token < at) marks →
    numbers_at (marks ++ mark_at at set ∷ []) at ≡ set
here [] at set h = rw (eq-eqb at at refl) refl
here (it ∷ marks) at set h =
    let below = All-head (λ (it : IndexMark). it.token < at) it marks h in
    rw (ne_eqb it.token at (λ same. omega arith))
    (here marks at set (All-tail (λ (it : IndexMark). it.token < at) it marks h))

-- a mark at another token leaves the numbers of a token as they were
elsewhere : (marks : List IndexMark) (at token : ℕ) (set : List ℕ) → token ≢ at →
    numbers_at (marks ++ mark_at at set ∷ []) token ≡ numbers_at marks token
elsewhere [] at token set other = rw (ne_eqb at token (λ same. other (sym same))) refl
elsewhere (it ∷ marks) at token set other =
    ap (λ (rest : List ℕ). cond (eqb it.token token) it.numbers rest) (elsewhere marks at token set other)

last : (token at : ℕ) → token < at + 1 → (token < at) ⊎ (token ≡ at)
last token at lt =
    ⊎_elim (λ (below : token < at). inl below) (λ (le : at ≤ token). inr (omega arith)) (cases_lt token at)

-- marks below a token are below the next
below_more : (marks : List IndexMark) (at : ℕ) → All (λ it. it.token < at) marks → All (λ it. it.token < at + 1) marks
below_more marks at h =
    All-weaker (λ (it : IndexMark). it.token < at) (λ (it : IndexMark). it.token < at + 1)
    (λ it lt. omega arith) marks h

-- a right index word, at the end of what is marked so far, keeps the marks right with its own at the end
pub marks_word : (lexed : Lexed) (flags : List Bool) (at : ℕ) (marks : List IndexMark) (set : List ℕ)
    → AreMarkedTo lexed flags at marks →
    IsIndex lexed at → is_marked flags at ≡ true → Says lexed at set →
    AreMarkedTo lexed flags (at + 1) (marks ++ mark_at at set ∷ [])
marks_word lexed flags at marks set h index is_placed says = record {
  before = All-push (λ (it : IndexMark). it.token < at + 1) marks (mark_at at set) (below_more marks at h.before)
      (omega arith);
  placed = λ token lt is. ⊎_elim (λ (below : token < at). h.placed token below is)
      (λ (same : token ≡ at). subst (λ (n : ℕ). is_marked flags n ≡ true) (sym same) is_placed) (last token at lt);
  said = λ token lt is. ⊎_elim
      (λ (below : token < at).
      subst (Says lexed token) (sym (elsewhere marks at token set (λ same. omega arith))) (h.said token below is))
      (λ (same : token ≡ at). subst (λ (n : ℕ). Says lexed n (numbers_at (marks ++ mark_at at set ∷ []) n)) (sym same)
      (subst (Says lexed at) (sym (here marks at set h.before)) says))
      (last token at lt);
  only = λ token n has. ⊎_elim
      (λ (same : (eqb token at ≡ true) × (token ≡ at)). subst (IsIndex lexed) (sym same.1) index)
      (λ (other : (eqb token at ≡ false) × (token ≢ at)). h.only token n
      (subst (λ (ns : List ℕ). Contains ns n) (elsewhere marks at token set other.1) has))
      (eqb_tells token at);
}

-- the bytes of a token, as a reader has them
text_is : (lexed : Lexed) (at : ℕ) (bytes : List ℕ)
    → option_map (λ (token : Token). slice_range lexed.bytes token.start token.end)
    (slice_get lexed.tokens at) ≡ Some bytes → bytes ≡ text_of lexed at
text_is lexed at bytes is = by_token (slice_get lexed.tokens at) refl where
  by_token : (o : Option Token) → slice_get lexed.tokens at ≡ o → bytes ≡ text_of lexed at
  by_token None none = let h = rw none at is in cc
  by_token (Some token) some =
      let h = rw some at is in
      let start : start_of lexed.tokens at ≡ token.start = rw (slice_get-map, some) refl in
      let end : end_of lexed.tokens at ≡ token.end = rw (slice_get-map, some) refl in
      let e : slice_range lexed.bytes token.start token.end ≡ bytes = cc in
      rw (start, end) (sym e)

pub set_says : (lexed : Lexed) (at : ℕ) (bytes set : List ℕ) →
    option_map (λ (token : Token). slice_range lexed.bytes token.start token.end) (slice_get lexed.tokens at)
    ≡ Some bytes →
    Says lexed at set → IsSetOf bytes set
set_says lexed at bytes set is h = subst (λ (text : List ℕ). IsSetOf text set) (sym (text_is lexed at bytes is)) h
