-- What stands of a mix, and one more word.
use Rattle.std.specs.Prelude.{Bool, true, false, Option, None, Some, is_some, option_and_then, if◌then◌else◌}
use Rattle.c_words.specs.declared.kinds.Keyword.TheVariants as words
use Rattle.c_tree.specs.Tree.{SpecWords, no_words, more_words, SpecWord, storage, thread, basic, struct_type, enum_type, typedef_name, typeof_value, typeof_type, auto_word}
use Rattle.c_specs.specs.declared.basic.Base.{Base}
use Rattle.c_specs.specs.declared.basic.Base.TheVariants as bases
use Rattle.c_specs.specs.declared.basic.Mark.{Mark}
use Rattle.c_specs.specs.declared.basic.Mark.TheVariants as marks
use Rattle.c_specs.specs.declared.basic.Core.{Core}
use Rattle.c_specs.specs.declared.basic.Part.{Part}
use Rattle.c_specs.specs.declared.basic.Part.TheVariants as parts
use Rattle.c_specs.specs.declared.mix.Types.{Types}
use Rattle.c_specs.specs.declared.mix.Types.TheVariants.{Words, Named}
use Rattle.c_specs.specs.declared.mix.Class.{Class}
use Rattle.c_specs.specs.declared.mix.Class.TheVariants as classes
use Rattle.c_specs.specs.declared.mix.Mix.{Mix}
use Rattle.c_specs.specs.declared.storage.Storage.{Storage}
use Rattle.c_specs.specs.declared.storage.Storage.TheVariants as stores
use Rattle.c_specs.specs.Basic.{part_of, join, marked, fits, is_whole}
use Rattle.c_specs.specs.Storage.{storing, stored}

-- words of a basic type as a type, where they go together
abbrev pub fitting : Base → Mark → Option Types
fitting base mark = if fits base mark then Some (Words base mark) else None

-- words of a basic type with one more sign or `_Complex`
abbrev pub with_mark : Base → Mark → Mark → Option Types
with_mark base mark new = option_and_then (fitting base) (marked mark new)

-- words that one more may have made none, as a type
abbrev pub fitting_in : Option Base → Mark → Option Types
fitting_in None mark = None
fitting_in (Some base) mark = fitting base mark

-- words of a basic type with one more that is no sign
abbrev pub with_core : Base → Mark → Core → Option Types
with_core base mark word = fitting_in (join base word) mark

-- what stands of a type with one more word of a basic type
abbrev pub with_part : Types → Part → Option Types
with_part Named part = None
with_part (Words base mark) (parts.Mark new) = with_mark base mark new
with_part (Words base mark) (parts.Core word) = with_core base mark word
with_part (Words base mark) parts.Other = None

-- what stands of a type with a struct, a typedef name or another that is a type by itself: nothing may stand before it
abbrev pub with_named : Types → Option Types
with_named (Words bases.Nothing marks.Unmarked) = Some Named
with_named _ = None

-- a mix with what stands of its type from now on
abbrev pub with_types : Mix → Option Types → Option Mix
with_types mix None = None
with_types mix (Some types) = Some (record { types = types; storage = mix.storage })

-- a mix with the storage words that stand from now on
abbrev pub storage_put : Mix → Option Storage → Option Mix
storage_put mix None = None
storage_put mix (Some after) = Some (record { types = mix.types; storage = after })

-- a mix with one more storage word
abbrev pub with_storage : Mix → Storage → Option Mix
with_storage mix word = storage_put mix (stored mix.storage word)

-- a mix with one more word of specifiers; none where they do not go together
abbrev pub with_word : Mix → SpecWord → Option Mix
with_word mix (storage w) = with_storage mix (storing w.keyword)
with_word mix (thread token) = with_storage mix stores.Thread
with_word mix (basic w) = with_types mix (with_part mix.types (part_of w.keyword))
with_word mix (struct_type a b c d) = with_types mix (with_named mix.types)
with_word mix (enum_type e) = with_types mix (with_named mix.types)
with_word mix (typedef_name n) = with_types mix (with_named mix.types)
with_word mix (typeof_value a b e c) = with_types mix (with_named mix.types)
with_word mix (typeof_type a b ws d c) = with_types mix (with_named mix.types)
with_word mix (auto_word a) = with_types mix (with_named mix.types)
with_word mix _ = Some mix

-- what a word is in a mix
abbrev pub class_of : SpecWord → Class
class_of (storage w) = classes.Stores w.keyword
class_of (thread token) = classes.Stores words.Thread
class_of (basic w) = classes.Spells w.keyword
class_of (struct_type a b c d) = classes.Named
class_of (enum_type e) = classes.Named
class_of (typedef_name n) = classes.Named
class_of (typeof_value a b e c) = classes.Named
class_of (typeof_type a b ws d c) = classes.Named
class_of (auto_word a) = classes.Named
class_of _ = classes.Free

-- a mix with one more word of a class
abbrev pub with_class : Mix → Class → Option Mix
with_class mix (classes.Stores keyword) = with_storage mix (storing keyword)
with_class mix classes.Free = Some mix
with_class mix (classes.Spells keyword) = with_types mix (with_part mix.types (part_of keyword))
with_class mix classes.Named = with_types mix (with_named mix.types)

-- what stands of a mix before its first word
abbrev pub no_mix : Mix
no_mix = record { types = Words bases.Nothing marks.Unmarked; storage = stores.Nothing }

-- what stands of a mix, if any, with one more word of a class
abbrev pub then_class : Option Mix → Class → Option Mix
then_class None class = None
then_class (Some mix) class = with_class mix class

-- what stands of a mix after words, none where no mix begins so
abbrev pub mix_from : Option Mix → SpecWords → Option Mix
mix_from mix no_words = mix
mix_from mix (more_words w ws) = mix_from (then_class mix (class_of w)) ws

-- what stands of a mix after these words, from the first on
abbrev pub mix_of : SpecWords → Option Mix
mix_of ws = mix_from (Some no_mix) ws

-- whether a mix goes on with a word of a class
abbrev pub goes_on : SpecWords → Class → Bool
goes_on ws class = is_some (then_class (mix_of ws) class)

-- whether a whole type stands
abbrev pub whole_of : Types → Bool
whole_of Named = true
whole_of (Words base mark) = is_whole base mark

-- whether a mix, if any, has a whole type
abbrev pub whole_in : Option Mix → Bool
whole_in None = false
whole_in (Some mix) = whole_of mix.types

-- whether words are a whole mix
abbrev pub is_whole_mix : SpecWords → Bool
is_whole_mix ws = whole_in (mix_of ws)

-- whether a word of a type stands
abbrev pub type_stands : Types → Bool
type_stands (Words bases.Nothing marks.Unmarked) = false
type_stands _ = true

-- whether a word of specifiers is one of a type
abbrev pub is_type_word : SpecWord → Bool
is_type_word (basic word) = true
is_type_word (struct_type word attrs tag body) = true
is_type_word (enum_type enum) = true
is_type_word (typedef_name name) = true
is_type_word (typeof_value keyword opening e closing) = true
is_type_word (typeof_type word opening ws d closing) = true
is_type_word (auto_word token) = true
is_type_word word = false

-- whether a word of a type is among specifiers
abbrev pub is_typed : SpecWords → Bool
is_typed no_words = false
is_typed (more_words word words) = if is_type_word word then true else is_typed words
