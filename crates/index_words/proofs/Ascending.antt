-- Index words in the order of their tokens, and how one of them is found.
use Rattle.std.proofs.Common.{◌≡◌, ◌≢◌, ℕ, zero, suc, ◌<◌, ◌≤◌, nat_eq, nat_lt, Bool, true, false, Option, None, Some, unwrap_or, if◌then◌else◌, List, [], ◌∷◌, ◌++◌, length, map, get_or, All, refl, sym, ◌∙◌, ap, arith}
use Rattle.std.specs.List.Sorted.{IsNonDecreasingBy, IsPartitionedBy, IsPartitionPoint}
use Rattle.std.proofs.lemmas.Bool.{eq-eqb, ne_eqb, ltb-true, ltb-false}
use Rattle.std.proofs.lemmas.List.Sorted.{IsPartitionedBy-ltb}
use Rattle.index_words.specs.declared.prelude.Word.{Word}
use Rattle.index_words.specs.Marks.{IndexMark, AreAscending, numbers_at, tokens_of}
use Rattle.index_words.specs.Held.{mark_of, word_at}

-- a word behind all others

pub pushed_is : (ws : List Word) (w : Word) → map mark_of (ws ++ w ∷ []) ≡ map mark_of ws ++ mark_of w ∷ []
pushed_is [] w = refl
pushed_is (x ∷ xs) w = ap (λ ys. mark_of x ∷ ys) (pushed_is xs w)

-- ascending marks with one more behind them, at a higher token than all, ascend
pub pushed_ascends : (ms : List IndexMark) (m : IndexMark) → AreAscending (tokens_of ms)
    → All (λ it. it.token < m.token) ms
    → AreAscending (tokens_of (ms ++ m ∷ []))
pushed_ascends [] m up below = tt
pushed_ascends (x ∷ []) m up below = (below 0 x (omega arith), tt)
pushed_ascends (x ∷ y ∷ xs) m up below =
    (up.0, pushed_ascends (y ∷ xs) m up.1 (λ k d lt. below (suc k) d (omega arith)))

-- words that ascend

abbrev marks : List Word → List IndexMark
marks ws = map mark_of ws

abbrev IsUp : List Word → Type 0
IsUp ws = AreAscending (tokens_of (map mark_of ws))

tail_up : (x : Word) (xs : List Word) → IsUp (x ∷ xs) → IsUp xs
tail_up x [] up = tt
tail_up x (y ∷ ys) up = up.1

-- the first of ascending words is at a lower token than all behind it
head_below : (x : Word) (xs : List Word) → IsUp (x ∷ xs) → (j : ℕ) (d : Word) → j < length xs
    → x.token < (get_or xs j d).token
head_below x [] up j d lt = absurd (omega arith)
head_below x (y ∷ ys) up zero d lt = up.0
head_below x (y ∷ ys) up (suc j) d lt =
    let one = up.0 in
    let rest = head_below y ys up.1 j d (omega arith) in
    omega (arith, one, rest)

-- ascending words do not descend by their tokens
rises : (ws : List Word) → IsUp ws → IsNonDecreasingBy (λ (w : Word). w.token) ws
rises [] up i j d le lt = absurd (omega arith)
rises (x ∷ xs) up zero zero d le lt = omega arith
rises (x ∷ xs) up zero (suc j) d le lt = let h = head_below x xs up j d (omega arith) in omega (arith, h)
rises (x ∷ xs) up (suc i) zero d le lt = absurd (omega arith)
rises (x ∷ xs) up (suc i) (suc j) d le lt = rises xs (tail_up x xs up) i j d (omega arith) (omega arith)

pub parted : (ws : List Word) (t : ℕ) → IsUp ws → IsPartitionedBy (λ (w : Word). nat_lt w.token t) ws
parted ws t up = IsPartitionedBy-ltb (λ (w : Word). w.token) ws t (rises ws up)

-- the word at a token

word_here : (x : Word) (xs : List Word) (t : ℕ) → x.token ≡ t → word_at (marks (x ∷ xs)) t ≡ Some x.numbers.items
word_here x xs t is = rw (eq-eqb x.token t is) refl

word_behind : (x : Word) (xs : List Word) (t : ℕ) → x.token ≢ t → word_at (marks (x ∷ xs)) t ≡ word_at (marks xs) t
word_behind x xs t is_not = rw (ne_eqb x.token t is_not) refl

-- no word is at a token that is lower than those of all words
none_before : (ws : List Word) (t : ℕ) → ((j : ℕ) (d : Word) → j < length ws → t < (get_or ws j d).token)
    → None ≡ word_at (marks ws) t
none_before [] t above = refl
none_before (x ∷ xs) t above = none_before xs t (λ j d lt. above (suc j) d (omega arith))
    ∙ sym (word_behind x xs t (λ is. let h = above 0 x (omega arith) in omega (arith, is, h)))

abbrev Cuts : ℕ → List Word → ℕ → Type 0
Cuts t ws i = IsPartitionPoint (λ (w : Word). nat_lt w.token t ≡ true) (λ (w : Word). nat_lt w.token t ≡ false) ws i

-- a place that cuts words at a token behind the first cuts the rest one place earlier
behind_cut : (t : ℕ) (x : Word) (xs : List Word) (i : ℕ) → Cuts t (x ∷ xs) (suc i) → Cuts t xs i
behind_cut t x xs i cut = (
  (λ k d lo lt. cut.0 (suc k) d (omega arith) (omega arith)),
  (λ k d lo lt. cut.1 (suc k) d (omega arith) (omega arith)),
)

lower : (t : ℕ) (x : Word) (xs : List Word) (i : ℕ) → Cuts t (x ∷ xs) (suc i) → x.token ≢ t
lower t x xs i cut is = let h = ltb-true x.token t (cut.0 0 x (omega arith) (omega arith)) in omega (arith, is, h)

-- a word at a token that stands where the token cuts the words is the one at that token
pub found : (ws : List Word) (t i : ℕ) (w : Word) → Cuts t ws i → i < length ws → w ≡ get_or ws i w → w.token ≡ t
    → Some w.numbers.items ≡ word_at (map mark_of ws) t
found [] t i w cut lt there is = absurd (omega arith)
found (x ∷ xs) t zero w cut lt there is =
    ap (λ (y : Word). Some y.numbers.items) there ∙ sym (word_here x xs t (ap (λ (y : Word). y.token) (sym there) ∙ is))
found (x ∷ xs) t (suc i) w cut lt there is = found xs t i w (behind_cut t x xs i cut) (omega arith) there is
    ∙ sym (word_behind x xs t (lower t x xs i cut))

-- where a token cuts the words at their end, none is at it
pub none_there : (ws : List Word) (t i : ℕ) → Cuts t ws i → length ws ≤ i → None ≡ word_at (map mark_of ws) t
none_there [] t i cut past = refl
none_there (x ∷ xs) t zero cut past = absurd (omega arith)
none_there (x ∷ xs) t (suc i) cut past = none_there xs t i (behind_cut t x xs i cut) (omega arith)
    ∙ sym (word_behind x xs t (lower t x xs i cut))

-- where the word at the cut is at another token, none is at this one
pub other_there : (ws : List Word) (t i : ℕ) (w : Word) → IsUp ws → Cuts t ws i → i < length ws → w ≡ get_or ws i w
    → w.token ≢ t
    → None ≡ word_at (map mark_of ws) t
other_there [] t i w up cut lt there is_not = absurd (omega arith)
other_there (x ∷ xs) t zero w up cut lt there is_not =
    let x_not : x.token ≢ t = λ is. is_not (ap (λ (y : Word). y.token) there ∙ is) in
    let at_least = ltb-false x.token t (cut.1 0 x (omega arith) (omega arith)) in
    none_before xs t (λ j d lt. let h = head_below x xs up j d lt in omega (arith, x_not, at_least, h))
    ∙ sym (word_behind x xs t x_not)
other_there (x ∷ xs) t (suc i) w up cut lt there is_not =
    other_there xs t i w (tail_up x xs up) (behind_cut t x xs i cut) (omega arith) there is_not
    ∙ sym (word_behind x xs t (lower t x xs i cut))

-- the numbers of the word at a token, or none, are those that the marks have at it
pub numbers_of : (ms : List IndexMark) (t : ℕ) (o : Option (List ℕ)) → o ≡ word_at ms t
    → unwrap_or o [] ≡ numbers_at ms t
numbers_of ms t o is = ap (λ p. unwrap_or p []) is ∙ of ms
  where
    of : (ms : List IndexMark) → unwrap_or (word_at ms t) [] ≡ numbers_at ms t
    of [] = refl
    of (it ∷ ms) = by (nat_eq it.token t) (of ms)
      where
        by : (b : Bool) → unwrap_or (word_at ms t) [] ≡ numbers_at ms t
            → unwrap_or (if b then Some it.numbers else word_at ms t) [] ≡ (if b then it.numbers else numbers_at ms t)
        by true rest = refl
        by false rest = rest
