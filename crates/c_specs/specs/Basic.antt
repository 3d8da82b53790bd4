-- The words of a basic type that stand so far.
use Rattle.std.specs.Prelude.{Bool, true, false, List, [], ◌∷◌, ◌++◌, Option, None, Some}
use Rattle.c_words.specs.declared.kinds.Keyword.{Keyword}
use Rattle.c_words.specs.declared.kinds.Keyword.TheVariants as words
use Rattle.c_specs.specs.declared.basic.Base.{Base}
use Rattle.c_specs.specs.declared.basic.Base.TheVariants as bases
use Rattle.c_specs.specs.declared.basic.Mark.{Mark}
use Rattle.c_specs.specs.declared.basic.Mark.TheVariants as marks
use Rattle.c_specs.specs.declared.basic.Core.{Core}
use Rattle.c_specs.specs.declared.basic.Core.TheVariants as cores
use Rattle.c_specs.specs.declared.basic.Part.{Part}
use Rattle.c_specs.specs.declared.basic.Part.TheVariants as parts

-- what a keyword is among the words of a basic type: a sign or `_Complex`, another word, or no such word
abbrev pub part_of : Keyword → Part
part_of words.Signed = parts.Mark marks.Signed
part_of words.Unsigned = parts.Mark marks.Unsigned
part_of words.Complex = parts.Mark marks.Complex
part_of words.AnyComplex = parts.Mark marks.AnyComplex
part_of words.Void = parts.Core cores.Void
part_of words.Bool = parts.Core cores.Bool
part_of words.BaseWord = parts.Core cores.Alone
part_of words.Char = parts.Core cores.Char
part_of words.Int = parts.Core cores.Int
part_of words.Int128 = parts.Core cores.Int128
part_of words.Short = parts.Core cores.Short
part_of words.Long = parts.Core cores.Long
part_of words.Float = parts.Core cores.Float
part_of words.Double = parts.Core cores.Double
part_of _ = parts.Other

-- the signs and `_Complex` that stand
abbrev pub mark_words : Mark → List Keyword
mark_words marks.Unmarked = []
mark_words marks.Signed = words.Signed ∷ []
mark_words marks.Unsigned = words.Unsigned ∷ []
mark_words marks.Complex = words.Complex ∷ []
mark_words marks.AnyComplex = words.AnyComplex ∷ []
mark_words marks.ComplexSigned = words.AnyComplex ∷ words.Signed ∷ []
mark_words marks.ComplexUnsigned = words.AnyComplex ∷ words.Unsigned ∷ []

-- the keyword of a word of a basic type
abbrev pub core_word : Core → Keyword
core_word cores.Void = words.Void
core_word cores.Bool = words.Bool
core_word cores.Alone = words.BaseWord
core_word cores.Char = words.Char
core_word cores.Int = words.Int
core_word cores.Int128 = words.Int128
core_word cores.Short = words.Short
core_word cores.Long = words.Long
core_word cores.Float = words.Float
core_word cores.Double = words.Double

-- the words of a basic type, signs and `_Complex` aside
abbrev pub base_words : Base → List Keyword
base_words bases.Nothing = []
base_words bases.Void = words.Void ∷ []
base_words bases.Bool = words.Bool ∷ []
base_words bases.Alone = words.BaseWord ∷ []
base_words bases.Char = words.Char ∷ []
base_words bases.Int = words.Int ∷ []
base_words bases.Int128 = words.Int128 ∷ []
base_words bases.Short = words.Short ∷ []
base_words bases.ShortInt = words.Short ∷ words.Int ∷ []
base_words bases.Long = words.Long ∷ []
base_words bases.LongInt = words.Long ∷ words.Int ∷ []
base_words bases.LongLong = words.Long ∷ words.Long ∷ []
base_words bases.LongLongInt = words.Long ∷ words.Long ∷ words.Int ∷ []
base_words bases.Float = words.Float ∷ []
base_words bases.Double = words.Double ∷ []
base_words bases.LongDouble = words.Long ∷ words.Double ∷ []

-- the words of a type, in the order in which they are listed
abbrev pub words_of : Base → Mark → List Keyword
words_of base mark = mark_words mark ++ base_words base

-- the words of a basic type with one more, where they go together
abbrev pub join : Base → Core → Option Base
join bases.Nothing cores.Void = Some bases.Void
join bases.Nothing cores.Bool = Some bases.Bool
join bases.Nothing cores.Alone = Some bases.Alone
join bases.Nothing cores.Char = Some bases.Char
join bases.Nothing cores.Int = Some bases.Int
join bases.Nothing cores.Int128 = Some bases.Int128
join bases.Nothing cores.Short = Some bases.Short
join bases.Nothing cores.Long = Some bases.Long
join bases.Nothing cores.Float = Some bases.Float
join bases.Nothing cores.Double = Some bases.Double
join bases.Int cores.Short = Some bases.ShortInt
join bases.Short cores.Int = Some bases.ShortInt
join bases.Int cores.Long = Some bases.LongInt
join bases.Long cores.Int = Some bases.LongInt
join bases.Long cores.Long = Some bases.LongLong
join bases.LongInt cores.Long = Some bases.LongLongInt
join bases.LongLong cores.Int = Some bases.LongLongInt
join bases.Double cores.Long = Some bases.LongDouble
join bases.Long cores.Double = Some bases.LongDouble
join _ _ = None

-- whether `signed` or `unsigned` goes with these words
abbrev pub has_sign : Base → Bool
has_sign bases.Nothing = true
has_sign bases.Char = true
has_sign bases.Int = true
has_sign bases.Int128 = true
has_sign bases.Short = true
has_sign bases.ShortInt = true
has_sign bases.Long = true
has_sign bases.LongInt = true
has_sign bases.LongLong = true
has_sign bases.LongLongInt = true
has_sign _ = false

-- whether `_Complex` goes with these words, or with more of them
abbrev pub has_complex : Base → Bool
has_complex bases.Nothing = true
has_complex bases.Long = true
has_complex bases.Float = true
has_complex bases.Double = true
has_complex bases.LongDouble = true
has_complex _ = false

-- whether the `_Complex` of wider C goes with these words, or with more of them
abbrev pub has_any_complex : Base → Bool
has_any_complex bases.Void = false
has_any_complex bases.Bool = false
has_any_complex bases.Int128 = false
has_any_complex _ = true

-- whether a sign and the `_Complex` of wider C go together with these words
abbrev pub has_complex_sign : Base → Bool
has_complex_sign bases.Nothing = true
has_complex_sign bases.Char = true
has_complex_sign bases.Int = true
has_complex_sign bases.Short = true
has_complex_sign bases.ShortInt = true
has_complex_sign bases.Long = true
has_complex_sign bases.LongInt = true
has_complex_sign bases.LongLong = true
has_complex_sign bases.LongLongInt = true
has_complex_sign _ = false

-- one more mark: a sign and the `_Complex` of wider C join one another
abbrev pub marked : Mark → Mark → Option Mark
marked marks.Unmarked new = Some new
marked marks.Signed marks.AnyComplex = Some marks.ComplexSigned
marked marks.AnyComplex marks.Signed = Some marks.ComplexSigned
marked marks.Unsigned marks.AnyComplex = Some marks.ComplexUnsigned
marked marks.AnyComplex marks.Unsigned = Some marks.ComplexUnsigned
marked _ _ = None

-- whether these words and signs are in a set of 6.7.2, with more words or as they are
abbrev pub fits : Base → Mark → Bool
fits base marks.Unmarked = true
fits base marks.Signed = has_sign base
fits base marks.Unsigned = has_sign base
fits base marks.Complex = has_complex base
fits base marks.AnyComplex = has_any_complex base
fits base marks.ComplexSigned = has_complex_sign base
fits base marks.ComplexUnsigned = has_complex_sign base

-- whether words that go together are a whole type: not no word, and not `long _Complex`
abbrev pub is_whole : Base → Mark → Bool
is_whole bases.Nothing marks.Unmarked = false
is_whole bases.Long marks.Complex = false
is_whole _ _ = true
