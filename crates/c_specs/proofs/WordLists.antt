-- Words of the program, one by one.
use Rattle.std.proofs.Common.{arith, ◌≡◌, ℕ, zero, suc, ◌+◌, ◌<◌, ◌≤◌, List, [], ◌∷◌, length, take, drop, get_or, sym, ap, subst}
use Rattle.std.proofs.lemmas.List.{take_all}
use Rattle.c_syntax.specs.declared.specifier.SpecWord.{SpecWord}
use Rattle.c_tree.specs.Tree.{more_words, no_words}
use Rattle.c_tree.specs.View.{spec_word_of}
use Rattle.c_tree.specs.Unit.{spec_words_from}
use Rattle.c_specs.specs.Reading.{append_words, pushed}

-- words up to the next one are those before it and the word at that place
next_at : (ws : List SpecWord) (n : ℕ) (w : SpecWord) → n < length ws → w ≡ get_or ws n w
    → spec_words_from (take (suc n) ws) ≡ pushed (spec_words_from (take n ws)) (spec_word_of w)
next_at [] n w lt is = absurd (omega arith)
next_at (v ∷ vs) zero w lt is = ap (λ (u : SpecWord). more_words (spec_word_of u) no_words) (sym is)
next_at (v ∷ vs) (suc n) w lt is = ap (more_words (spec_word_of v)) (next_at vs n w (omega arith) is)

-- words are those before a place, the word there, and those behind it
split_at : (ws : List SpecWord) (n : ℕ) (w : SpecWord) → n < length ws → w ≡ get_or ws n w →
    spec_words_from ws
    ≡ append_words (spec_words_from (take n ws)) (more_words (spec_word_of w) (spec_words_from (drop (suc n) ws)))
split_at [] n w lt is = absurd (omega arith)
split_at (v ∷ vs) zero w lt is = ap (λ (u : SpecWord). more_words (spec_word_of u) (spec_words_from vs)) (sym is)
split_at (v ∷ vs) (suc n) w lt is = ap (more_words (spec_word_of v)) (split_at vs n w (omega arith) is)

-- the words up to one and this one
pub words_next : (ws : List SpecWord) (n : ℕ) (w : SpecWord) → n < length ws → w ≡ get_or ws n w
    → spec_words_from (take (n + 1) ws) ≡ pushed (spec_words_from (take n ws)) (spec_word_of w)
words_next ws n w lt is = let e : suc n ≡ n + 1 = omega arith in
    subst (λ (m : ℕ). spec_words_from (take m ws) ≡ pushed (spec_words_from (take n ws)) (spec_word_of w)) e
    (next_at ws n w lt is)

-- the words before one, this one, and those behind it
pub words_split : (ws : List SpecWord) (n : ℕ) (w : SpecWord) → n < length ws → w ≡ get_or ws n w →
    spec_words_from ws
    ≡ append_words (spec_words_from (take n ws)) (more_words (spec_word_of w) (spec_words_from (drop (n + 1) ws)))
words_split ws n w lt is = let e : suc n ≡ n + 1 = omega arith in
    subst (λ (m : ℕ). spec_words_from ws ≡ append_words (spec_words_from (take n ws))
    (more_words (spec_word_of w) (spec_words_from (drop m ws)))) e (split_at ws n w lt is)

-- all the words
pub words_all : (ws : List SpecWord) (n : ℕ) → length ws ≤ n → spec_words_from (take n ws) ≡ spec_words_from ws
words_all ws n le = ap spec_words_from (take_all n ws le)
