-- A word of specifiers before others.
use Rattle.std.proofs.Common.{◌≡◌, true, refl}
use Rattle.std.specs.Bool.{if◌then◌else◌}
use Rattle.c_tree.specs.Tree.{SpecWord, SpecWords, more_words, storage, thread, inline_word, noreturn, qualifier, basic, struct_type, enum_type, typedef_name, attribute, typeof_value, typeof_type, align, auto_word}
use Rattle.c_tree.specs.Specifiers.{storage_words}
use Rattle.c_units.specs.Scoping.{has_typedef_word}
use Rattle.cq_prelude.specs.Words.{is_typedef_word}

-- one more word makes a list a typedef if it is `typedef` or the list was one
pub typedef_more : (w : SpecWord) (ws : SpecWords) → has_typedef_word
    (storage_words (more_words w ws)) ≡ (if is_typedef_word w then true else has_typedef_word (storage_words ws))
typedef_more (storage word) ws = refl
typedef_more (thread token) ws = refl
typedef_more (inline_word token) ws = refl
typedef_more (noreturn token) ws = refl
typedef_more (qualifier q) ws = refl
typedef_more (basic word) ws = refl
typedef_more (struct_type word attrs tag body) ws = refl
typedef_more (enum_type it) ws = refl
typedef_more (typedef_name it) ws = refl
typedef_more (attribute attr) ws = refl
typedef_more (typeof_value keyword opening e closing) ws = refl
typedef_more (typeof_type word opening rest d closing) ws = refl
typedef_more (align attr) ws = refl
typedef_more (auto_word token) ws = refl
