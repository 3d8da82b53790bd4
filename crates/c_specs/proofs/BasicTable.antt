-- The table of basic types, looked through word by word.
use Rattle.std.proofs.Common.{◌≡◌, ℕ, ◌+◌, Bool, true, false, [], ◌∷◌, ◌++◌, length, slice_get, insert, Option, Some, None, refl}
use Rattle.std.specs.Prelude.{IsPermutation}
use Rattle.std.proofs.lemmas.List.Sorted.{IsPermutation-refl, IsPermutation-sym, IsPermutation-middle}
use Rattle.c_words.specs.declared.kinds.Keyword.TheVariants as words
use Rattle.c_tree.specs.Specifiers.{basic_types}
use Rattle.c_specs.specs.declared.basic.Base.{Base}
use Rattle.c_specs.specs.declared.basic.Base.TheVariants as bases
use Rattle.c_specs.specs.declared.basic.Mark.{Mark}
use Rattle.c_specs.specs.declared.basic.Mark.TheVariants as marks
use Rattle.c_specs.specs.declared.basic.Core.{Core}
use Rattle.c_specs.specs.declared.basic.Core.TheVariants as cores
use Rattle.c_specs.specs.Basic.{mark_words, core_word, base_words, words_of, join, marked, fits, is_whole}
use Rattle.c_specs.proofs.Counting.{begins, ends}
use Rattle.c_specs.proofs.Codes.{type_code}

-- a fact of each mark
record Marks (P : Mark → Type 0) : Type 0 where
  unmarked : P marks.Unmarked
  signed : P marks.Signed
  unsigned : P marks.Unsigned
  complex : P marks.Complex
  any : P marks.AnyComplex
  complex_signed : P marks.ComplexSigned
  complex_unsigned : P marks.ComplexUnsigned

-- a fact that is listed for all marks holds of each
mark_at : (P : Mark → Type 0) → Marks P → (m : Mark) → P m
mark_at P all marks.Unmarked = all.unmarked
mark_at P all marks.Signed = all.signed
mark_at P all marks.Unsigned = all.unsigned
mark_at P all marks.Complex = all.complex
mark_at P all marks.AnyComplex = all.any
mark_at P all marks.ComplexSigned = all.complex_signed
mark_at P all marks.ComplexUnsigned = all.complex_unsigned

-- whether a type has these words
abbrev Fits : Base → Mark → Type 0
Fits b m = begins type_code basic_types (words_of b m) ≡ fits b m

-- for each mark the words with a base are in some set of the table just where they fit it
all_fit : (b : Base) → Marks (Fits b)
all_fit bases.Nothing = record {
  unmarked = refl;
  signed = refl;
  unsigned = refl;
  complex = refl;
  any = refl;
  complex_signed = refl;
  complex_unsigned = refl;
}
all_fit bases.Void = record {
  unmarked = refl;
  signed = refl;
  unsigned = refl;
  complex = refl;
  any = refl;
  complex_signed = refl;
  complex_unsigned = refl;
}
all_fit bases.Bool = record {
  unmarked = refl;
  signed = refl;
  unsigned = refl;
  complex = refl;
  any = refl;
  complex_signed = refl;
  complex_unsigned = refl;
}
all_fit bases.Alone = record {
  unmarked = refl;
  signed = refl;
  unsigned = refl;
  complex = refl;
  any = refl;
  complex_signed = refl;
  complex_unsigned = refl;
}
all_fit bases.Char = record {
  unmarked = refl;
  signed = refl;
  unsigned = refl;
  complex = refl;
  any = refl;
  complex_signed = refl;
  complex_unsigned = refl;
}
all_fit bases.Int = record {
  unmarked = refl;
  signed = refl;
  unsigned = refl;
  complex = refl;
  any = refl;
  complex_signed = refl;
  complex_unsigned = refl;
}
all_fit bases.Int128 = record {
  unmarked = refl;
  signed = refl;
  unsigned = refl;
  complex = refl;
  any = refl;
  complex_signed = refl;
  complex_unsigned = refl;
}
all_fit bases.Short = record {
  unmarked = refl;
  signed = refl;
  unsigned = refl;
  complex = refl;
  any = refl;
  complex_signed = refl;
  complex_unsigned = refl;
}
all_fit bases.ShortInt = record {
  unmarked = refl;
  signed = refl;
  unsigned = refl;
  complex = refl;
  any = refl;
  complex_signed = refl;
  complex_unsigned = refl;
}
all_fit bases.Long = record {
  unmarked = refl;
  signed = refl;
  unsigned = refl;
  complex = refl;
  any = refl;
  complex_signed = refl;
  complex_unsigned = refl;
}
all_fit bases.LongInt = record {
  unmarked = refl;
  signed = refl;
  unsigned = refl;
  complex = refl;
  any = refl;
  complex_signed = refl;
  complex_unsigned = refl;
}
all_fit bases.LongLong = record {
  unmarked = refl;
  signed = refl;
  unsigned = refl;
  complex = refl;
  any = refl;
  complex_signed = refl;
  complex_unsigned = refl;
}
all_fit bases.LongLongInt = record {
  unmarked = refl;
  signed = refl;
  unsigned = refl;
  complex = refl;
  any = refl;
  complex_signed = refl;
  complex_unsigned = refl;
}
all_fit bases.Float = record {
  unmarked = refl;
  signed = refl;
  unsigned = refl;
  complex = refl;
  any = refl;
  complex_signed = refl;
  complex_unsigned = refl;
}
all_fit bases.Double = record {
  unmarked = refl;
  signed = refl;
  unsigned = refl;
  complex = refl;
  any = refl;
  complex_signed = refl;
  complex_unsigned = refl;
}
all_fit bases.LongDouble = record {
  unmarked = refl;
  signed = refl;
  unsigned = refl;
  complex = refl;
  any = refl;
  complex_signed = refl;
  complex_unsigned = refl;
}

pub fits_tells : (b : Base) (m : Mark) → begins type_code basic_types (words_of b m) ≡ fits b m
fits_tells b m = mark_at (Fits b) (all_fit b) m

-- where the words without a mark stand in the table, or would stand
abbrev pub base_place : Base → ℕ
base_place bases.Nothing = 2
base_place bases.Void = 0
base_place bases.Bool = 1
base_place bases.Alone = 2
base_place bases.Char = 6
base_place bases.Int = 9
base_place bases.Int128 = 12
base_place bases.Short = 15
base_place bases.ShortInt = 18
base_place bases.Long = 21
base_place bases.LongInt = 24
base_place bases.LongLong = 27
base_place bases.LongLongInt = 30
base_place bases.Float = 33
base_place bases.Double = 35
base_place bases.LongDouble = 37

-- where those with `_Complex` of wider C stand, if they do
abbrev pub any_place : Base → ℕ
any_place bases.Nothing = 39
any_place bases.Void = 0
any_place bases.Bool = 0
any_place bases.Alone = 40
any_place bases.Char = 46
any_place bases.Int = 49
any_place bases.Int128 = 0
any_place bases.Short = 52
any_place bases.ShortInt = 55
any_place bases.Long = 58
any_place bases.LongInt = 61
any_place bases.LongLong = 64
any_place bases.LongLongInt = 67
any_place bases.Float = 41
any_place bases.Double = 42
any_place bases.LongDouble = 43

-- and those with a sign, behind which the unsigned ones stand
abbrev pub any_signed_place : Base → ℕ
any_signed_place bases.Nothing = 44
any_signed_place b = any_place b + 1

abbrev pub complex_place : Base → ℕ
complex_place bases.Nothing = 5
complex_place b = base_place b + 1

-- where the words stand in the table
abbrev pub place : Base → Mark → ℕ
place b marks.Unmarked = base_place b
place b marks.Signed = base_place b + 1
place b marks.Unsigned = base_place b + 2
place b marks.Complex = complex_place b
place b marks.AnyComplex = any_place b
place b marks.ComplexSigned = any_signed_place b
place b marks.ComplexUnsigned = any_signed_place b + 1

-- words that fit stand in the table at their place where they are whole, and are no set of it where they are not
abbrev pub Told : Bool → Bool → Base → Mark → Type 0
Told false whole b m = Unit {0}
Told true true b m = slice_get basic_types (place b m) ≡ Some (words_of b m)
Told true false b m = ends type_code basic_types (words_of b m) ≡ false

abbrev Whole : Base → Mark → Type 0
Whole b m = Told (fits b m) (is_whole b m) b m

-- for each mark the words with a base stand in the table as a whole set just where they are whole
all_whole : (b : Base) → Marks (Whole b)
all_whole bases.Nothing = record {
  unmarked = refl;
  signed = refl;
  unsigned = refl;
  complex = refl;
  any = refl;
  complex_signed = refl;
  complex_unsigned = refl;
}
all_whole bases.Void = record {
  unmarked = refl;
  signed = tt;
  unsigned = tt;
  complex = tt;
  any = tt;
  complex_signed = tt;
  complex_unsigned = tt;
}
all_whole bases.Bool = record {
  unmarked = refl;
  signed = tt;
  unsigned = tt;
  complex = tt;
  any = tt;
  complex_signed = tt;
  complex_unsigned = tt;
}
all_whole bases.Alone = record {
  unmarked = refl;
  signed = tt;
  unsigned = tt;
  complex = tt;
  any = refl;
  complex_signed = tt;
  complex_unsigned = tt;
}
all_whole bases.Char = record {
  unmarked = refl;
  signed = refl;
  unsigned = refl;
  complex = tt;
  any = refl;
  complex_signed = refl;
  complex_unsigned = refl;
}
all_whole bases.Int = record {
  unmarked = refl;
  signed = refl;
  unsigned = refl;
  complex = tt;
  any = refl;
  complex_signed = refl;
  complex_unsigned = refl;
}
all_whole bases.Int128 = record {
  unmarked = refl;
  signed = refl;
  unsigned = refl;
  complex = tt;
  any = tt;
  complex_signed = tt;
  complex_unsigned = tt;
}
all_whole bases.Short = record {
  unmarked = refl;
  signed = refl;
  unsigned = refl;
  complex = tt;
  any = refl;
  complex_signed = refl;
  complex_unsigned = refl;
}
all_whole bases.ShortInt = record {
  unmarked = refl;
  signed = refl;
  unsigned = refl;
  complex = tt;
  any = refl;
  complex_signed = refl;
  complex_unsigned = refl;
}
all_whole bases.Long = record {
  unmarked = refl;
  signed = refl;
  unsigned = refl;
  complex = refl;
  any = refl;
  complex_signed = refl;
  complex_unsigned = refl;
}
all_whole bases.LongInt = record {
  unmarked = refl;
  signed = refl;
  unsigned = refl;
  complex = tt;
  any = refl;
  complex_signed = refl;
  complex_unsigned = refl;
}
all_whole bases.LongLong = record {
  unmarked = refl;
  signed = refl;
  unsigned = refl;
  complex = tt;
  any = refl;
  complex_signed = refl;
  complex_unsigned = refl;
}
all_whole bases.LongLongInt = record {
  unmarked = refl;
  signed = refl;
  unsigned = refl;
  complex = tt;
  any = refl;
  complex_signed = refl;
  complex_unsigned = refl;
}
all_whole bases.Float = record {
  unmarked = refl;
  signed = tt;
  unsigned = tt;
  complex = refl;
  any = refl;
  complex_signed = tt;
  complex_unsigned = tt;
}
all_whole bases.Double = record {
  unmarked = refl;
  signed = tt;
  unsigned = tt;
  complex = refl;
  any = refl;
  complex_signed = tt;
  complex_unsigned = tt;
}
all_whole bases.LongDouble = record {
  unmarked = refl;
  signed = tt;
  unsigned = tt;
  complex = refl;
  any = refl;
  complex_signed = tt;
  complex_unsigned = tt;
}

pub whole_tells : (b : Base) (m : Mark) → Told (fits b m) (is_whole b m) b m
whole_tells b m = mark_at (Whole b) (all_whole b) m

-- a mark and one more: no type has both, or those that it has stand together
abbrev pub Marked : Mark → Mark → Option Mark → Type 0
Marked m q None = begins type_code basic_types (mark_words m ++ mark_words q) ≡ false
Marked m q (Some both) = IsPermutation (mark_words q ++ mark_words m) (mark_words both)

-- of marks that are one word
pub marked_is : (m q : Mark) → length (mark_words q) ≡ 1 → Marked m q (marked m q)
marked_is marks.Unmarked marks.Signed one = IsPermutation-refl (mark_words marks.Signed)
marked_is marks.Signed marks.Signed one = refl
marked_is marks.Unsigned marks.Signed one = refl
marked_is marks.Complex marks.Signed one = refl
marked_is marks.AnyComplex marks.Signed one =
    IsPermutation-sym _ _ (IsPermutation-middle (words.AnyComplex ∷ []) words.Signed [])
marked_is marks.ComplexSigned marks.Signed one = refl
marked_is marks.ComplexUnsigned marks.Signed one = refl
marked_is marks.Unmarked marks.Unsigned one = IsPermutation-refl (mark_words marks.Unsigned)
marked_is marks.Signed marks.Unsigned one = refl
marked_is marks.Unsigned marks.Unsigned one = refl
marked_is marks.Complex marks.Unsigned one = refl
marked_is marks.AnyComplex marks.Unsigned one =
    IsPermutation-sym _ _ (IsPermutation-middle (words.AnyComplex ∷ []) words.Unsigned [])
marked_is marks.ComplexSigned marks.Unsigned one = refl
marked_is marks.ComplexUnsigned marks.Unsigned one = refl
marked_is marks.Unmarked marks.Complex one = IsPermutation-refl (mark_words marks.Complex)
marked_is marks.Signed marks.Complex one = refl
marked_is marks.Unsigned marks.Complex one = refl
marked_is marks.Complex marks.Complex one = refl
marked_is marks.AnyComplex marks.Complex one = refl
marked_is marks.ComplexSigned marks.Complex one = refl
marked_is marks.ComplexUnsigned marks.Complex one = refl
marked_is marks.Unmarked marks.AnyComplex one = IsPermutation-refl (mark_words marks.AnyComplex)
marked_is marks.Signed marks.AnyComplex one = IsPermutation-refl (mark_words marks.ComplexSigned)
marked_is marks.Unsigned marks.AnyComplex one = IsPermutation-refl (mark_words marks.ComplexUnsigned)
marked_is marks.Complex marks.AnyComplex one = refl
marked_is marks.AnyComplex marks.AnyComplex one = refl
marked_is marks.ComplexSigned marks.AnyComplex one = refl
marked_is marks.ComplexUnsigned marks.AnyComplex one = refl
marked_is m marks.Unmarked one = absurd cc
marked_is m marks.ComplexSigned one = absurd cc
marked_is m marks.ComplexUnsigned one = absurd cc

-- and no type has a word that is none of its words
pub other_word : begins type_code basic_types (words.While ∷ []) ≡ false
other_word = refl

-- where a word is put
abbrev pub room : Base → Core → ℕ
room b cores.Int = length (base_words b)
room b cores.Double = length (base_words b)
room b c = 0

abbrev pub Joined : Base → Core → Option Base → Type 0
Joined b c None = begins type_code basic_types (base_words b ++ core_word c ∷ []) ≡ false
Joined b c (Some after) = insert (base_words b) (room b c) (core_word c) ≡ base_words after

-- a core word joins a base to the words of the next base, or no set has it with them
pub joined : (b : Base) (c : Core) → Joined b c (join b c)
joined bases.Nothing cores.Void = refl
joined bases.Nothing cores.Bool = refl
joined bases.Nothing cores.Alone = refl
joined bases.Nothing cores.Char = refl
joined bases.Nothing cores.Int = refl
joined bases.Nothing cores.Int128 = refl
joined bases.Nothing cores.Short = refl
joined bases.Nothing cores.Long = refl
joined bases.Nothing cores.Float = refl
joined bases.Nothing cores.Double = refl
joined bases.Void cores.Void = refl
joined bases.Void cores.Bool = refl
joined bases.Void cores.Alone = refl
joined bases.Void cores.Char = refl
joined bases.Void cores.Int = refl
joined bases.Void cores.Int128 = refl
joined bases.Void cores.Short = refl
joined bases.Void cores.Long = refl
joined bases.Void cores.Float = refl
joined bases.Void cores.Double = refl
joined bases.Bool cores.Void = refl
joined bases.Bool cores.Bool = refl
joined bases.Bool cores.Alone = refl
joined bases.Bool cores.Char = refl
joined bases.Bool cores.Int = refl
joined bases.Bool cores.Int128 = refl
joined bases.Bool cores.Short = refl
joined bases.Bool cores.Long = refl
joined bases.Bool cores.Float = refl
joined bases.Bool cores.Double = refl
joined bases.Alone cores.Void = refl
joined bases.Alone cores.Bool = refl
joined bases.Alone cores.Alone = refl
joined bases.Alone cores.Char = refl
joined bases.Alone cores.Int = refl
joined bases.Alone cores.Int128 = refl
joined bases.Alone cores.Short = refl
joined bases.Alone cores.Long = refl
joined bases.Alone cores.Float = refl
joined bases.Alone cores.Double = refl
joined bases.Char cores.Void = refl
joined bases.Char cores.Bool = refl
joined bases.Char cores.Alone = refl
joined bases.Char cores.Char = refl
joined bases.Char cores.Int = refl
joined bases.Char cores.Int128 = refl
joined bases.Char cores.Short = refl
joined bases.Char cores.Long = refl
joined bases.Char cores.Float = refl
joined bases.Char cores.Double = refl
joined bases.Int cores.Void = refl
joined bases.Int cores.Bool = refl
joined bases.Int cores.Alone = refl
joined bases.Int cores.Char = refl
joined bases.Int cores.Int = refl
joined bases.Int cores.Int128 = refl
joined bases.Int cores.Short = refl
joined bases.Int cores.Long = refl
joined bases.Int cores.Float = refl
joined bases.Int cores.Double = refl
joined bases.Int128 cores.Void = refl
joined bases.Int128 cores.Bool = refl
joined bases.Int128 cores.Alone = refl
joined bases.Int128 cores.Char = refl
joined bases.Int128 cores.Int = refl
joined bases.Int128 cores.Int128 = refl
joined bases.Int128 cores.Short = refl
joined bases.Int128 cores.Long = refl
joined bases.Int128 cores.Float = refl
joined bases.Int128 cores.Double = refl
joined bases.Short cores.Void = refl
joined bases.Short cores.Bool = refl
joined bases.Short cores.Alone = refl
joined bases.Short cores.Char = refl
joined bases.Short cores.Int = refl
joined bases.Short cores.Int128 = refl
joined bases.Short cores.Short = refl
joined bases.Short cores.Long = refl
joined bases.Short cores.Float = refl
joined bases.Short cores.Double = refl
joined bases.ShortInt cores.Void = refl
joined bases.ShortInt cores.Bool = refl
joined bases.ShortInt cores.Alone = refl
joined bases.ShortInt cores.Char = refl
joined bases.ShortInt cores.Int = refl
joined bases.ShortInt cores.Int128 = refl
joined bases.ShortInt cores.Short = refl
joined bases.ShortInt cores.Long = refl
joined bases.ShortInt cores.Float = refl
joined bases.ShortInt cores.Double = refl
joined bases.Long cores.Void = refl
joined bases.Long cores.Bool = refl
joined bases.Long cores.Alone = refl
joined bases.Long cores.Char = refl
joined bases.Long cores.Int = refl
joined bases.Long cores.Int128 = refl
joined bases.Long cores.Short = refl
joined bases.Long cores.Long = refl
joined bases.Long cores.Float = refl
joined bases.Long cores.Double = refl
joined bases.LongInt cores.Void = refl
joined bases.LongInt cores.Bool = refl
joined bases.LongInt cores.Alone = refl
joined bases.LongInt cores.Char = refl
joined bases.LongInt cores.Int = refl
joined bases.LongInt cores.Int128 = refl
joined bases.LongInt cores.Short = refl
joined bases.LongInt cores.Long = refl
joined bases.LongInt cores.Float = refl
joined bases.LongInt cores.Double = refl
joined bases.LongLong cores.Void = refl
joined bases.LongLong cores.Bool = refl
joined bases.LongLong cores.Alone = refl
joined bases.LongLong cores.Char = refl
joined bases.LongLong cores.Int = refl
joined bases.LongLong cores.Int128 = refl
joined bases.LongLong cores.Short = refl
joined bases.LongLong cores.Long = refl
joined bases.LongLong cores.Float = refl
joined bases.LongLong cores.Double = refl
joined bases.LongLongInt cores.Void = refl
joined bases.LongLongInt cores.Bool = refl
joined bases.LongLongInt cores.Alone = refl
joined bases.LongLongInt cores.Char = refl
joined bases.LongLongInt cores.Int = refl
joined bases.LongLongInt cores.Int128 = refl
joined bases.LongLongInt cores.Short = refl
joined bases.LongLongInt cores.Long = refl
joined bases.LongLongInt cores.Float = refl
joined bases.LongLongInt cores.Double = refl
joined bases.Float cores.Void = refl
joined bases.Float cores.Bool = refl
joined bases.Float cores.Alone = refl
joined bases.Float cores.Char = refl
joined bases.Float cores.Int = refl
joined bases.Float cores.Int128 = refl
joined bases.Float cores.Short = refl
joined bases.Float cores.Long = refl
joined bases.Float cores.Float = refl
joined bases.Float cores.Double = refl
joined bases.Double cores.Void = refl
joined bases.Double cores.Bool = refl
joined bases.Double cores.Alone = refl
joined bases.Double cores.Char = refl
joined bases.Double cores.Int = refl
joined bases.Double cores.Int128 = refl
joined bases.Double cores.Short = refl
joined bases.Double cores.Long = refl
joined bases.Double cores.Float = refl
joined bases.Double cores.Double = refl
joined bases.LongDouble cores.Void = refl
joined bases.LongDouble cores.Bool = refl
joined bases.LongDouble cores.Alone = refl
joined bases.LongDouble cores.Char = refl
joined bases.LongDouble cores.Int = refl
joined bases.LongDouble cores.Int128 = refl
joined bases.LongDouble cores.Short = refl
joined bases.LongDouble cores.Long = refl
joined bases.LongDouble cores.Float = refl
joined bases.LongDouble cores.Double = refl
