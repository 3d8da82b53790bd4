-- Words that are a whole type with one more word, and what is known of the height of words that are none yet.
use Rattle.std.proofs.Common.{◌≡◌, ℕ, ◌+◌, ◌≤◌, Bool, true, false, if◌then◌else◌, Option, Some, None, ◌⊎◌, inl, inr, refl, sym, ◌∙◌, ap, subst, arith}
use Rattle.std.specs.Prelude.{is_some, ◌||◌}
use Rattle.c_words.specs.declared.kinds.Keyword.{Keyword}
use Rattle.c_words.specs.declared.kinds.Keyword.TheVariants as keywords
use Rattle.c_tree.specs.Tree.{SpecWords, no_words, more_words, SpecWord, storage, thread, inline_word, noreturn, qualifier, basic, struct_type, enum_type, typedef_name, attribute, typeof_value, typeof_type, align, auto_word}
use Rattle.c_tree.specs.Height.{specs_height, spec_word_height}
use Rattle.c_tree.specs.WellFormed.{is_auto, has_auto}
use Rattle.c_specs.specs.declared.basic.Base.{Base}
use Rattle.c_specs.specs.declared.basic.Base.TheVariants as bases
use Rattle.c_specs.specs.declared.basic.Mark.{Mark}
use Rattle.c_specs.specs.declared.basic.Mark.TheVariants as marks
use Rattle.c_specs.specs.declared.mix.Types.{Types}
use Rattle.c_specs.specs.declared.mix.Types.TheVariants.{Words, Named}
use Rattle.c_specs.specs.declared.mix.Mix.{Mix}
use Rattle.c_specs.specs.declared.mix.Class.{Class}
use Rattle.c_specs.specs.declared.mix.Class.TheVariants as classes
use Rattle.c_specs.specs.declared.storage.Storage.{Storage}
use Rattle.c_specs.specs.declared.storage.Storage.TheVariants as stores
use Rattle.c_specs.specs.Storage.{storing, stored}
use Rattle.c_specs.specs.Mix.{class_of, with_types, with_named, storage_put, no_mix, then_class, mix_from, mix_of, goes_on, whole_of, whole_in, is_whole_mix, is_type_word, is_typed}
use Rattle.c_specs.specs.Reading.{pushed}
use Rattle.c_reading.specs.Tokens.{word_of}
use Rattle.decl_places.specs.Laws.{WordsAreCompleted}

mix_pushed : (mix : Option Mix) (ws : SpecWords) (w : SpecWord)
    → mix_from mix (pushed ws w) ≡ then_class (mix_from mix ws) (class_of w)
mix_pushed mix no_words w = refl
mix_pushed mix (more_words x ws) w = mix_pushed (then_class mix (class_of x)) ws w

pub mix_of_pushed : (ws : SpecWords) (w : SpecWord) → mix_of (pushed ws w) ≡ then_class (mix_of ws) (class_of w)
mix_of_pushed ws w = mix_pushed (Some no_mix) ws w

-- a struct, a union, an enumeration and a typedef name are a whole type
named_is_whole : (mix : Option Mix) → is_some (then_class mix classes.Named) ≡ true
    → whole_in (then_class mix classes.Named) ≡ true
named_is_whole None h = absurd cc
named_is_whole (Some mix) h = by_types mix.types h
  where
    by_types : (types : Types) → is_some (with_types mix (with_named types)) ≡ true
        → whole_in (with_types mix (with_named types)) ≡ true
    by_types (Words bases.Nothing marks.Unmarked) h = refl
    by_types types h = absurd cc

pub named_whole : (ws : SpecWords) (w : SpecWord) → class_of w ≡ classes.Named → goes_on ws (class_of w) ≡ true
    → is_whole_mix (pushed ws w) ≡ true
named_whole ws w is h =
    ap whole_in (mix_of_pushed ws w ∙ ap (then_class (mix_of ws)) is)
    ∙ named_is_whole (mix_of ws) (ap (λ (class : Class). is_some (then_class (mix_of ws) class)) (sym is) ∙ h)

-- equal mixes, where there are any, have the same types
same_types : (mix m : Mix) → Some mix ≡ Some m → m.types ≡ mix.types
same_types mix m h = sym (ap types_of h)
  where
    types_of : Option Mix → Types
    types_of None = mix.types
    types_of (Some m) = m.types

put_types : (mix m : Mix) (o : Option Storage) → storage_put mix o ≡ Some m → m.types ≡ mix.types
put_types mix m None h = absurd cc
put_types mix m (Some after) h = same_types (record { types = mix.types; storage = after }) m h

-- a word that is no type leaves the type as it is
free_types : (w : SpecWord) (mix m : Mix) → is_type_word w ≡ false → then_class (Some mix) (class_of w) ≡ Some m
    → m.types ≡ mix.types
free_types (storage word) mix m e h = put_types mix m (stored mix.storage (storing word.keyword)) h
free_types (thread token) mix m e h = put_types mix m (stored mix.storage stores.Thread) h
free_types (inline_word token) mix m e h = same_types mix m h
free_types (noreturn token) mix m e h = same_types mix m h
free_types (qualifier q) mix m e h = same_types mix m h
free_types (attribute a) mix m e h = same_types mix m h
free_types (align a) mix m e h = same_types mix m h
free_types (basic word) mix m e h = absurd cc
free_types (struct_type a b c d) mix m e h = absurd cc
free_types (enum_type a) mix m e h = absurd cc
free_types (typedef_name a) mix m e h = absurd cc
free_types (typeof_value a b c d) mix m e h = absurd cc
free_types (typeof_type a b c d f) mix m e h = absurd cc
free_types (auto_word a) mix m e h = absurd cc

none_from : (ws : SpecWords) → mix_from None ws ≡ None
none_from no_words = refl
none_from (more_words w ws) = none_from ws

-- words without a type leave the types of a mix as they are
untyped_types : (ws : SpecWords) (mix m : Mix) → is_typed ws ≡ false → mix_from (Some mix) ws ≡ Some m
    → m.types ≡ mix.types
untyped_types no_words mix m e h = same_types mix m h
untyped_types (more_words w ws) mix m e h = by_word (λ next e h. untyped_types ws next m e h) (is_type_word w) refl e
  where
    by_mix : ((next : Mix) → is_typed ws ≡ false → mix_from (Some next) ws ≡ Some m → m.types ≡ next.types)
        → (o : Option Mix) → then_class (Some mix) (class_of w) ≡ o → is_type_word w ≡ false →
        is_typed ws ≡ false → mix_from o ws ≡ Some m → m.types ≡ mix.types
    by_mix again None is free e h = let none = none_from ws in absurd cc
    by_mix again (Some next) is free e h = again next e h ∙ free_types w mix next free is

    by_word : ((next : Mix) → is_typed ws ≡ false → mix_from (Some next) ws ≡ Some m → m.types ≡ next.types)
        → (b : Bool) → is_type_word w ≡ b → (if b then true else is_typed ws) ≡ false → m.types ≡ mix.types
    by_word again true is e = absurd cc
    by_word again false is e = by_mix again (then_class (Some mix) (class_of w)) refl is e h

-- a type stands among words that are a whole one
pub whole_typed : (ws : SpecWords) → is_whole_mix ws ≡ true → is_typed ws ≡ true
whole_typed ws h = by_typed (is_typed ws) refl
  where
    by_mix : (o : Option Mix) → mix_of ws ≡ o → is_typed ws ≡ false → whole_in o ≡ true → is_typed ws ≡ true
    by_mix None is e h = absurd cc
    by_mix (Some m) is e h =
        let same : m.types ≡ Words bases.Nothing marks.Unmarked = untyped_types ws no_mix m e is in
        let none : whole_of (Words bases.Nothing marks.Unmarked) ≡ true =
        subst (λ (types : Types). whole_of types ≡ true) same h in
        absurd cc

    by_typed : (b : Bool) → is_typed ws ≡ b → is_typed ws ≡ true
    by_typed true is = is
    by_typed false is = by_mix (mix_of ws) refl is h

-- a word with which words that begin a mix are a whole type
pub record MadeWhole (ws : SpecWords) : Type 0 where
  pub keyword : Keyword
  pub is_int_or_double : (keyword ≡ keywords.Int) ⊎ (keyword ≡ keywords.Double)
  pub goes : goes_on ws (classes.Spells keyword) ≡ true
  pub whole : whole_in (then_class (mix_of ws) (classes.Spells keyword)) ≡ true

-- one is known for each type that is not whole: `int` where none stands, `double` behind `long _Complex`
pub made_whole : (ws : SpecWords) → is_some (mix_of ws) ≡ true → is_whole_mix ws ≡ false → MadeWhole ws
made_whole ws begins none = by_mix (mix_of ws) refl begins none
  where
    by_types : (mix : Mix) (base : Base) (mark : Mark) → mix_of ws ≡ Some mix → mix.types ≡ Words base mark
        → whole_of (Words base mark) ≡ false → MadeWhole ws
    by_types mix bases.Nothing marks.Unmarked is types none = record {
      keyword = keywords.Int;
      is_int_or_double = inl refl;
      goes = rw (is, types) refl;
      whole = rw (is, types) refl;
    }
    by_types mix bases.Long marks.Complex is types none = record {
      keyword = keywords.Double;
      is_int_or_double = inr refl;
      goes = rw (is, types) refl;
      whole = rw (is, types) refl;
    }
    by_types mix base mark is types none = absurd cc

    by_all : (mix : Mix) (types : Types) → mix_of ws ≡ Some mix → mix.types ≡ types → whole_of types ≡ false
        → MadeWhole ws
    by_all mix Named is types none = absurd cc
    by_all mix (Words base mark) is types none = by_types mix base mark is types none

    by_mix : (o : Option Mix) → mix_of ws ≡ o → is_some o ≡ true → whole_in o ≡ false → MadeWhole ws
    by_mix None is begins none = absurd cc
    by_mix (Some mix) is begins none = by_all mix mix.types is refl none

-- Heights.

pub pushed_low : (ws : SpecWords) (w : SpecWord) (room : ℕ) → specs_height ws ≤ room → spec_word_height w + 1 ≤ room
    → specs_height (pushed ws w) ≤ room
pushed_low no_words w room h l = omega (arith, h, l)
pushed_low (more_words x ws) w room h l = let rest = pushed_low ws w room (omega (arith, h)) l in omega (arith, h, rest)

-- more words are no lower
pub pushed_high : (ws : SpecWords) (w : SpecWord) → specs_height ws ≤ specs_height (pushed ws w)
pushed_high no_words w = omega arith
pushed_high (more_words x ws) w = let rest = pushed_high ws w in omega (arith, rest)

-- The law: the word of `made_whole` makes a whole type whatever its token.
pub words_are_completed : WordsAreCompleted
words_are_completed ws begins none =
    let made = made_whole ws begins none in
    (made.keyword, (λ token. ap whole_in (mix_of_pushed ws (basic (word_of made.keyword token))) ∙ made.whole))

-- Behind a word that names a type no base word goes on.
abbrev IsNamedMix : Option Mix → Type 0
IsNamedMix None = Unit {0}
IsNamedMix (Some mix) = mix.types ≡ Named

-- a mix whose type is named stays so behind a word of each class, or ends
named_then : (mix : Mix) (class : Class) → mix.types ≡ Named → IsNamedMix (then_class (Some mix) class)
named_then mix (classes.Stores keyword) h = by_storage (stored mix.storage (storing keyword))
  where
    by_storage : (o : Option Storage) → IsNamedMix (storage_put mix o)
    by_storage None = tt
    by_storage (Some after) = h
named_then mix (classes.Spells keyword) h = rw h tt
named_then mix classes.Named h = rw h tt
named_then mix classes.Free h = h

-- a mix whose type is named, or none, stays so behind any words, or ends
named_from : (ws : SpecWords) (mix : Option Mix) → IsNamedMix mix → IsNamedMix (mix_from mix ws)
named_from no_words mix h = h
named_from (more_words w ws) None h = named_from ws None tt
named_from (more_words w ws) (Some mix) h =
    named_from ws (then_class (Some mix) (class_of w)) (named_then mix (class_of w) h)

-- a mix has a named type behind a word that names one, or ends
named_class : (mix : Option Mix) → IsNamedMix (then_class mix classes.Named)
named_class None = tt
named_class (Some mix) = by_types mix.types
  where
    by_types : (types : Types) → IsNamedMix (with_types mix (with_named types))
    by_types (Words bases.Nothing marks.Unmarked) = refl
    by_types types = tt

auto_class : (w : SpecWord) → is_auto w ≡ true → class_of w ≡ classes.Named
auto_class (auto_word token) h = refl
auto_class w h = absurd cc

-- a mix has a named type behind words that hold `__auto_type`, or ends
auto_mix : (ws : SpecWords) (mix : Option Mix) → has_auto ws ≡ true → IsNamedMix (mix_from mix ws)
auto_mix no_words mix h = absurd cc
auto_mix (more_words w ws) mix h = by_word (is_auto w) refl h (auto_mix ws (then_class mix (class_of w)))
  where
    by_word : (b : Bool) → is_auto w ≡ b → b || has_auto ws ≡ true
        → (has_auto ws ≡ true → IsNamedMix (mix_from (then_class mix (class_of w)) ws))
        → IsNamedMix (mix_from (then_class mix (class_of w)) ws)
    by_word true is h later =
        named_from ws (then_class mix (class_of w))
        (subst (λ (class : Class). IsNamedMix (then_class mix class)) (sym (auto_class w is)) (named_class mix))
    by_word false is h later = later h

-- behind words that hold `__auto_type` no base word goes on
pub auto_base : (ws : SpecWords) → has_auto ws ≡ true → goes_on ws (classes.Spells keywords.BaseWord) ≡ false
auto_base ws h = by_mix (mix_of ws) (auto_mix ws (Some no_mix) h)
  where
    by_mix : (mix : Option Mix) → IsNamedMix mix → is_some (then_class mix (classes.Spells keywords.BaseWord)) ≡ false
    by_mix None h = refl
    by_mix (Some mix) h = rw h refl

-- `__auto_type` among words is one of the first, or the last
pub pushed_auto : (ws : SpecWords) (w : SpecWord) → has_auto (pushed ws w) ≡ true
    → (has_auto ws ≡ true) ⊎ (is_auto w ≡ true)
pushed_auto no_words w h = by_word (is_auto w) refl h
  where
    by_word : (b : Bool) → is_auto w ≡ b → b || false ≡ true → (false ≡ true) ⊎ (is_auto w ≡ true)
    by_word true is h = inr is
    by_word false is h = absurd cc
pushed_auto (more_words x ws) w h = by_word (is_auto x) refl h (pushed_auto ws w)
  where
    by_word : (b : Bool) → is_auto x ≡ b → b || has_auto (pushed ws w) ≡ true
        → (has_auto (pushed ws w) ≡ true → (has_auto ws ≡ true) ⊎ (is_auto w ≡ true))
        → (b || has_auto ws ≡ true) ⊎ (is_auto w ≡ true)
    by_word true is h later = inl refl
    by_word false is h later = later h

pub auto_named : (w : SpecWord) → is_auto w ≡ true → (class_of w ≡ classes.Named) × (spec_word_height w ≡ 1)
auto_named (auto_word token) h = (refl, refl)
auto_named w h = absurd cc
