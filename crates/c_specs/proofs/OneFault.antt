-- What is read of words is one thing alone.
use Rattle.std.proofs.Common.{◌≡◌, ℕ, refl, sym, ◌∙◌, ap, subst}
use Rattle.c_tree.specs.Tree.{SpecWords, no_words, more_words, SpecWord}
use Rattle.c_tree.specs.Specifiers.{IsMix}
use Rattle.c_specs.specs.declared.reading.SpecFault.TheVariants.{BadMix, Unfinished}
use Rattle.c_specs.specs.Reading.{append_words, pushed, Begins}
use Rattle.c_specs.specs.Faults.{word_token, IsFirstBadWord}
use Rattle.c_specs.specs.Laws.{MixesHaveNoFault, OneFaultAtMost}
use Rattle.c_specs.proofs.Begun.{append_none}
use Rattle.c_specs.proofs.WordsRead.{append_next, begins_less}

-- no mix begins with words of which one is bad
not_begun : (ws : SpecWords) (token : ℕ) → IsFirstBadWord ws token → Begins ws → ⊥
not_begun ws token bad begun =
    bad.bad (begins_less (pushed bad.front bad.word) bad.more
    (subst Begins (bad.parts ∙ sym (append_next bad.front bad.word bad.more)) begun))

-- where what holds of words holds of the first of them too, it ends at one word
first_same : (P : SpecWords → Type 0) → ((front more : SpecWords) → P (append_words front more) → P front)
    → (front front' : SpecWords) (w w' : SpecWord) (more more' : SpecWords) →
    append_words front (more_words w more) ≡ append_words front' (more_words w' more') → P front
    → (P (pushed front w) → ⊥) → P front' → (P (pushed front' w') → ⊥) → w ≡ w'
first_same P less no_words no_words w w' more more' same begun bad begun' bad' = cc
first_same P less no_words (more_words v front') w w' more more' same begun bad begun' bad' =
    absurd (let e : v ≡ w = cc in
    bad (subst (λ (u : SpecWord). P (more_words u no_words)) e (less (more_words v no_words) front' begun')))
first_same P less (more_words v front) no_words w w' more more' same begun bad begun' bad' =
    absurd (let e : v ≡ w' = cc in
    bad' (subst (λ (u : SpecWord). P (more_words u no_words)) e (less (more_words v no_words) front begun)))
first_same P less (more_words v front) (more_words u front') w w' more more' same begun bad begun' bad' =
    let e : u ≡ v = cc in
    let rest : append_words front (more_words w more) ≡ append_words front' (more_words w' more') = cc in
    first_same (λ ws. P (more_words v ws))
    (λ a b p. less (more_words v a) b p) front front' w w' more more' rest begun bad
    (subst (λ (x : SpecWord). P (more_words x front')) e begun')
    (λ p. bad' (subst (λ (x : SpecWord). P (more_words x (pushed front' w'))) (sym e) p))

-- words have one first bad word at most, so its token is one
same_place : (ws : SpecWords) (one other : ℕ) → IsFirstBadWord ws one → IsFirstBadWord ws other → one ≡ other
same_place ws one other bad bad' =
    let same = first_same Begins begins_less bad.front bad'.front bad.word bad'.word bad.more bad'.more
    (sym bad.parts ∙ bad'.parts) bad.begun bad.bad bad'.begun bad'.bad in
    bad.place ∙ ap word_token same ∙ sym bad'.place

pub mixes_have_no_fault : MixesHaveNoFault
mixes_have_no_fault ws (BadMix token) is fault =
    not_begun ws token fault (no_words, subst IsMix (sym (append_none ws)) is)
mixes_have_no_fault ws Unfinished is fault = fault.1 is

-- words have one fault at most: a first bad word or no whole mix, and not both
pub one_fault_at_most : OneFaultAtMost
one_fault_at_most ws (BadMix one) (BadMix other) fault fault' = ap BadMix (same_place ws one other fault fault')
one_fault_at_most ws (BadMix one) Unfinished fault fault' = absurd (not_begun ws one fault fault'.0)
one_fault_at_most ws Unfinished (BadMix other) fault fault' = absurd (not_begun ws other fault' fault.0)
one_fault_at_most ws Unfinished Unfinished fault fault' = refl
