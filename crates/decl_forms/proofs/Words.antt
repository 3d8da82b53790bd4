-- Whether `typedef` stands among words, word by word.
use Rattle.std.proofs.Common.{◌≡◌, ℕ, suc, ◌<◌, Bool, true, false, List, length, get_or, drop, refl, ap, ◌∙◌, drop-cons}
use Rattle.std.specs.Prelude.{if◌then◌else◌}
use Rattle.c_syntax.specs.declared.specifier.SpecWord as rust_spec_word
use Rattle.c_tree.specs.Specifiers.{storage_words}
use Rattle.c_tree.specs.Tree.{SpecWords, more_words, SpecWord, storage}
use Rattle.c_tree.specs.Unit.{spec_words_from}
use Rattle.c_tree.specs.View.{spec_word_of}
use Rattle.decl_forms.specs.Storage.{storage_of}
use Rattle.c_units.specs.Scoping.{is_typedef_word, has_typedef_word}

either_way : (test rest : Bool)
    → (if test then true else rest) ≡ (if (if test then true else false) then true else rest)
either_way true rest = refl
either_way false rest = refl

typedef_first : (w : SpecWord) (ws : SpecWords)
    → has_typedef_word (storage_words (more_words w ws))
    ≡ (if has_typedef_word (storage_of w) then true else has_typedef_word (storage_words ws))
typedef_first (storage w) ws = either_way (is_typedef_word w.keyword) (has_typedef_word (storage_words ws))
typedef_first w ws = refl

abbrev pub has_typedef_in : List rust_spec_word.SpecWord → Bool
has_typedef_in words = has_typedef_word (storage_words (spec_words_from words))

-- whether `typedef` stands from a word on
pub typedef_from : (words : List rust_spec_word.SpecWord) (n : ℕ) (word : rust_spec_word.SpecWord) → n < length words
    → word ≡ get_or words n word →
    has_typedef_in (drop n words)
    ≡ (if has_typedef_word (storage_of (spec_word_of word)) then true else has_typedef_in (drop (suc n) words))
typedef_from words n word within is =
    ap has_typedef_in (drop-cons words n word within)
    ∙ rw (← is) (typedef_first (spec_word_of word) (spec_words_from (drop (suc n) words)))
