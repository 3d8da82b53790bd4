-- What stands after words, class by class, is what the listed mixes say of them.
use Rattle.std.proofs.Common.{◌≡◌, ◌↔◌, true, [], Option, Some, None, MatchOption, refl, sym, ◌∙◌, ap, subst}
use Rattle.std.specs.Prelude.{is_some}
use Rattle.std.proofs.lemmas.List.Sorted.{IsPermutation-refl}
use Rattle.c_tree.specs.Tree.{SpecWords, no_words, more_words, SpecWord, storage, thread, inline_word, noreturn, qualifier, basic, struct_type, enum_type, typedef_name, attribute, typeof_value, typeof_type, align, auto_word}
use Rattle.c_tree.specs.Specifiers.{IsMix}
use Rattle.c_specs.specs.declared.mix.Mix.{Mix}
use Rattle.c_specs.specs.Mix.{with_word, class_of, with_class, no_mix, then_class, mix_from, mix_of, whole_in}
use Rattle.c_specs.specs.Reading.{append_words, pushed, Begins, AreRead}
use Rattle.c_specs.specs.Laws.{WholeAreMixes, MixesGoOn}
use Rattle.c_specs.proofs.MixSteps.{with_right}
use Rattle.c_specs.proofs.WholeMixes.{whole_right}
use Rattle.c_specs.proofs.Begun.{append_none}

-- a word does what its class does
pub class_step : (mix : Mix) (w : SpecWord) → with_class mix (class_of w) ≡ with_word mix w
class_step mix (storage a) = refl
class_step mix (thread a) = refl
class_step mix (inline_word a) = refl
class_step mix (noreturn a) = refl
class_step mix (qualifier a) = refl
class_step mix (basic a) = refl
class_step mix (struct_type a b c d) = refl
class_step mix (enum_type a) = refl
class_step mix (typedef_name a) = refl
class_step mix (attribute a) = refl
class_step mix (typeof_value a b e c) = refl
class_step mix (typeof_type a b ws d c) = refl
class_step mix (align a) = refl
class_step mix (auto_word a) = refl

-- what stands after words: nothing where no mix begins so
abbrev pub Stands : SpecWords → Option Mix → Type 0
Stands ws o = MatchOption o (Begins ws → ⊥) (λ m. AreRead m ws)

pub append_next : (front : SpecWords) (w : SpecWord) (ws : SpecWords)
    → append_words (pushed front w) ws ≡ append_words front (more_words w ws)
append_next no_words w ws = refl
append_next (more_words v front) w ws = ap (more_words v) (append_next front w ws)

pub append_more : (front middle ws : SpecWords)
    → append_words (append_words front middle) ws ≡ append_words front (append_words middle ws)
append_more no_words middle ws = refl
append_more (more_words v front) middle ws = ap (more_words v) (append_more front middle ws)

-- the first words of those that begin a mix begin it too
pub begins_less : (front middle : SpecWords) → Begins (append_words front middle) → Begins front
begins_less front middle (more, mix) = (append_words middle more, subst IsMix (append_more front middle more) mix)

then_right : (o : Option Mix) (front : SpecWords) (w : SpecWord) → Stands front o
    → Stands (pushed front w) (then_class o (class_of w))
then_right None front w none = λ begun. none (begins_less front (more_words w no_words) begun)
then_right (Some mix) front w read =
    subst (λ (o : Option Mix). Stands (pushed front w) o) (sym (class_step mix w)) (with_right mix front w read)

-- where words stand as a mix so far, or begin none, so do they with others read behind them
from_right : (o : Option Mix) (front ws : SpecWords) → Stands front o → Stands (append_words front ws) (mix_from o ws)
from_right o front no_words read = subst (λ (us : SpecWords). Stands us o) (sym (append_none front)) read
from_right o front (more_words w ws) read =
    subst (λ (us : SpecWords). Stands us (mix_from (then_class o (class_of w)) ws)) (append_next front w ws)
    (from_right (then_class o (class_of w)) (pushed front w) ws (then_right o front w read))

none_read : AreRead no_mix no_words
none_read = record { types = (refl, refl, IsPermutation-refl []); storing = IsPermutation-refl [] }

-- what stands after words is what is read of them
pub mix_right : (ws : SpecWords) → Stands ws (mix_of ws)
mix_right ws = from_right (Some no_mix) no_words ws none_read

pub read_of_mix : (ws : SpecWords) (mix : Mix) → mix_of ws ≡ Some mix → AreRead mix ws
read_of_mix ws mix is = subst (λ (o : Option Mix). Stands ws o) is (mix_right ws)

from_append : (o : Option Mix) (ws : SpecWords) (w : SpecWord)
    → mix_from o (pushed ws w) ≡ then_class (mix_from o ws) (class_of w)
from_append o no_words w = refl
from_append o (more_words v ws) w = from_append (then_class o (class_of v)) ws w

pub mix_pushed : (ws : SpecWords) (w : SpecWord) → mix_of (pushed ws w) ≡ then_class (mix_of ws) (class_of w)
mix_pushed ws w = from_append (Some no_mix) ws w

whole_stands : (ws : SpecWords) (o : Option Mix) → Stands ws o → (whole_in o ≡ true) ↔ IsMix ws
whole_stands ws None none = (λ wrong. absurd cc, λ is. absurd (none (no_words, subst IsMix (sym (append_none ws)) is)))
whole_stands ws (Some mix) read = whole_right mix ws read

pub whole_are_mixes : WholeAreMixes
whole_are_mixes ws = whole_stands ws (mix_of ws) (mix_right ws)

some_stands : (ws : SpecWords) (o : Option Mix) → Stands ws o → Begins ws → is_some o ≡ true
some_stands ws None none begun = absurd (none begun)
some_stands ws (Some mix) read begun = refl

pub mixes_go_on : MixesGoOn
mixes_go_on ws w more is =
    ap is_some (sym (mix_pushed ws w)) ∙ some_stands (pushed ws w) (mix_of (pushed ws w)) (mix_right (pushed ws w))
    (more, subst IsMix (sym (append_next ws w more)) is)
