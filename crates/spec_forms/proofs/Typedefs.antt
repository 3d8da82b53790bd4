-- Whether `typedef` stands among words, word by word, and with one more word at the end.
use Rattle.std.proofs.Common.{◌≡◌, ℕ, suc, ◌<◌, Bool, true, false, List, length, get_or, drop, refl, ap, ◌∙◌, sym, drop-cons}
use Rattle.std.specs.Prelude.{if◌then◌else◌, ◌||◌}
use Rattle.c_syntax.specs.declared.specifier.SpecWord as rust_spec_word
use Rattle.c_tree.specs.Specifiers.{storage_words}
use Rattle.c_tree.specs.Tree.{SpecWords, no_words, more_words, SpecWord, storage}
use Rattle.c_tree.specs.Unit.{spec_words_from}
use Rattle.c_tree.specs.View.{spec_word_of}
use Rattle.c_specs.specs.Reading.{pushed}
use Rattle.c_units.specs.Scoping.{is_typedef_word, has_typedef_word}

-- the storage words of one word
abbrev pub stores_type : SpecWord → Bool
stores_type w = has_typedef_word (storage_words (more_words w no_words))

either_way : (test rest : Bool)
    → (if test then true else rest) ≡ (if (if test then true else false) then true else rest)
either_way true rest = refl
either_way false rest = refl

typedef_first : (w : SpecWord) (ws : SpecWords)
    → has_typedef_word (storage_words (more_words w ws))
    ≡ (if stores_type w then true else has_typedef_word (storage_words ws))
typedef_first (storage w) ws = either_way (is_typedef_word w.keyword) (has_typedef_word (storage_words ws))
typedef_first w ws = refl

abbrev pub has_typedef_in : List rust_spec_word.SpecWord → Bool
has_typedef_in words = has_typedef_word (storage_words (spec_words_from words))

-- whether `typedef` stands from a word on
pub typedef_from : (words : List rust_spec_word.SpecWord) (n : ℕ) (word : rust_spec_word.SpecWord) → n < length words
    → word ≡ get_or words n word →
    has_typedef_in (drop n words) ≡ (if has_typedef_word (storage_words (more_words (spec_word_of word) no_words))
    then true else has_typedef_in (drop (suc n) words))
typedef_from words n word within is =
    ap has_typedef_in (drop-cons words n word within)
    ∙ rw (← is) (typedef_first (spec_word_of word) (spec_words_from (drop (suc n) words)))

or_through : (test rest last : Bool) → (if test then true else (rest || last)) ≡ ((if test then true else rest) || last)
or_through true rest last = refl
or_through false rest last = refl

-- with one more word `typedef` stands, or it is that word
pub typedef_pushed : (ws : SpecWords) (w : SpecWord) →
    has_typedef_word (storage_words (pushed ws w))
    ≡ (has_typedef_word (storage_words ws) || has_typedef_word (storage_words (more_words w no_words)))
typedef_pushed no_words w = refl
typedef_pushed (more_words first ws) w =
    typedef_first first (pushed ws w)
    ∙ ap (λ rest. if stores_type first then true else rest) (typedef_pushed ws w)
    ∙ or_through (stores_type first) (has_typedef_word (storage_words ws)) (stores_type w)
    ∙ sym (ap (λ known. known || stores_type w) (typedef_first first ws))
