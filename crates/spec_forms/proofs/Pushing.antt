-- Words with one more at the end, and what stands of their mix.
use Rattle.std.proofs.Common.{◌≡◌, Bool, true, false, if◌then◌else◌, List, [], ◌∷◌, ◌++◌, Option, Some, None, refl, sym, ◌∙◌, ap}
use Rattle.std.specs.Prelude.{◌||◌}
use Rattle.c_syntax.specs.declared.specifier.SpecWord.{SpecWord as RustSpecWord}
use Rattle.c_tree.specs.Tree.{SpecWords, no_words, more_words, SpecWord}
use Rattle.c_tree.specs.Unit.{spec_words_from}
use Rattle.c_tree.specs.View.{spec_word_of}
use Rattle.c_specs.specs.declared.mix.Mix.{Mix}
use Rattle.c_specs.specs.Mix.{mix_from, mix_of, no_mix, then_class, class_of, is_typed, is_type_word}
use Rattle.c_specs.specs.Reading.{pushed}

pub words_pushed : (ws : List RustSpecWord) (w : RustSpecWord)
    → spec_words_from (ws ++ w ∷ []) ≡ pushed (spec_words_from ws) (spec_word_of w)
words_pushed [] w = refl
words_pushed (first ∷ ws) w = ap (λ (ws : SpecWords). more_words (spec_word_of first) ws) (words_pushed ws w)

mix_from_pushed : (m : Option Mix) (ws : SpecWords) (w : SpecWord)
    → mix_from m (pushed ws w) ≡ then_class (mix_from m ws) (class_of w)
mix_from_pushed m no_words w = refl
mix_from_pushed m (more_words first ws) w = mix_from_pushed (then_class m (class_of first)) ws w

pub mix_pushed : (ws : SpecWords) (w : SpecWord) → mix_of (pushed ws w) ≡ then_class (mix_of ws) (class_of w)
mix_pushed ws w = mix_from_pushed (Some no_mix) ws w

-- words with one more have a type where they have one or the new word is one
pub typed_pushed : (ws : SpecWords) (w : SpecWord) → is_typed (pushed ws w) ≡ (is_typed ws || is_type_word w)
typed_pushed no_words w = by_word (is_type_word w)
  where
    by_word : (b : Bool) → (if b then true else false) ≡ b
    by_word true = refl
    by_word false = refl
typed_pushed (more_words first ws) w = by_word (is_type_word first) (typed_pushed ws w)
  where
    by_word : (b : Bool) → is_typed (pushed ws w) ≡ (is_typed ws || is_type_word w)
        → (if b then true else is_typed (pushed ws w)) ≡ ((if b then true else is_typed ws) || is_type_word w)
    by_word true h = refl
    by_word false h = h
