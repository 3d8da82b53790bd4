-- The token of a fault begins the tokens of its word.
use Rattle.std.proofs.Common.{◌≡◌, List, Option, Some, None, refl, sym, ◌∙◌, ap, subst}
use Rattle.c_tree.specs.declared.lexeme.Lexeme.{Lexeme}
use Rattle.c_tree.specs.Tree.{SpecWords, SpecWord, storage, thread, inline_word, noreturn, qualifier, basic, struct_type, enum_type, enum_of, typedef_name, attribute, typeof_value, typeof_type, align, auto_word}
use Rattle.c_tree.specs.Text.{spec_word_text}
use Rattle.c_tree.specs.Ends.{number_of_first}
use Rattle.c_specs.specs.declared.mix.Mix.{Mix}
use Rattle.c_specs.specs.declared.mix.Class.TheVariants.{Free}
use Rattle.c_specs.specs.Mix.{class_of, then_class, mix_of}
use Rattle.c_specs.specs.Reading.{pushed, Begins}
use Rattle.c_specs.specs.Faults.{word_token}
use Rattle.c_specs.specs.Laws.{BadTokensBegin}
use Rattle.c_specs.proofs.Begun.{begun}
use Rattle.c_specs.proofs.WordsRead.{Stands, mix_right, mix_pushed}

-- a word that may stand in any mix is never bad
free_begins : (front : SpecWords) (w : SpecWord) → class_of w ≡ Free → Begins front → Begins (pushed front w)
free_begins front w free first = by_mix (mix_of front) refl (mix_right front)
  where
    by_mix : (o : Option Mix) → mix_of front ≡ o → Stands front o → Begins (pushed front w)
    by_mix None is none = absurd (none first)
    by_mix (Some mix) is read =
        let next : mix_of (pushed front w) ≡ Some mix =
        mix_pushed front w ∙ ap (λ o. then_class o (class_of w)) is ∙ ap (then_class (Some mix)) free in
        begun mix (pushed front w)
        (subst (λ (o : Option Mix). Stands (pushed front w) o) next (mix_right (pushed front w)))

-- the tokens of a word that may not stand in any mix begin with the token that a fault names
word_begins : (all : List Lexeme) (w : SpecWord) (k : List Lexeme) → (class_of w ≡ Free → ⊥)
    → number_of_first (spec_word_text all w k) ≡ Some (word_token w)
word_begins all (storage a) k other = refl
word_begins all (thread a) k other = refl
word_begins all (basic a) k other = refl
word_begins all (struct_type a b c d) k other = refl
word_begins all (enum_type (enum_of a b c d)) k other = refl
word_begins all (typedef_name a) k other = refl
word_begins all (inline_word a) k other = absurd (other refl)
word_begins all (noreturn a) k other = absurd (other refl)
word_begins all (qualifier a) k other = absurd (other refl)
word_begins all (attribute a) k other = absurd (other refl)
word_begins all (typeof_value a b e c) k other = refl
word_begins all (typeof_type a b ws d c) k other = refl
word_begins all (align a) k other = absurd (other refl)
word_begins all (auto_word a) k other = refl

pub bad_tokens_begin : BadTokensBegin
bad_tokens_begin all ws token k bad =
    word_begins all bad.word k (λ free. bad.bad (free_begins bad.front bad.word free bad.begun))
    ∙ ap Some (sym bad.place)
