-- Words that are read begin a mix.
use Rattle.std.proofs.Common.{◌≡◌, true, refl, sym, ap, subst}
use Rattle.c_words.specs.declared.kinds.Keyword.TheVariants as words
use Rattle.c_tree.specs.Tree.{SpecWords, no_words, more_words, SpecWord, basic}
use Rattle.c_tree.specs.Specifiers.{IsMix}
use Rattle.c_specs.specs.declared.basic.Base.TheVariants as bases
use Rattle.c_specs.specs.declared.basic.Mark.TheVariants as marks
use Rattle.c_specs.specs.declared.mix.Types.{Types}
use Rattle.c_specs.specs.declared.mix.Types.TheVariants.{Words, Named}
use Rattle.c_specs.specs.declared.mix.Mix.{Mix}
use Rattle.c_specs.specs.declared.storage.Storage.{Storage}
use Rattle.c_specs.specs.Mix.{whole_of}
use Rattle.c_specs.specs.Reading.{append_words, pushed, Begins, AreRead}
use Rattle.c_specs.proofs.MixSteps.{with_right}
use Rattle.c_specs.proofs.WholeMixes.{whole_right}

pub append_none : (ws : SpecWords) → append_words ws no_words ≡ ws
append_none no_words = refl
append_none (more_words w ws) = ap (more_words w) (append_none ws)

whole_begins : (mix : Mix) (ws : SpecWords) → AreRead mix ws → whole_of mix.types ≡ true → Begins ws
whole_begins mix ws read whole = (no_words, subst IsMix (sym (append_none ws)) ((whole_right mix ws read).0 whole))

int_word : SpecWord
int_word = basic (record { token = 0; keyword = words.Int })

double_word : SpecWord
double_word = basic (record { token = 0; keyword = words.Double })

nothing_begins : (s : Storage) (ws : SpecWords)
    → AreRead (record { types = Words bases.Nothing marks.Unmarked; storage = s }) ws → Begins ws
unfolding int_word
nothing_begins s ws read = (
  more_words int_word no_words,
  (whole_right (record { types = Words bases.Int marks.Unmarked; storage = s }) (pushed ws int_word)
      (with_right (record { types = Words bases.Nothing marks.Unmarked; storage = s }) ws int_word read)).0 refl,
)

complex_begins : (s : Storage) (ws : SpecWords)
    → AreRead (record { types = Words bases.Long marks.Complex; storage = s }) ws → Begins ws
unfolding double_word
complex_begins s ws read = (
  more_words double_word no_words,
  (whole_right (record { types = Words bases.LongDouble marks.Complex; storage = s }) (pushed ws double_word)
      (with_right (record { types = Words bases.Long marks.Complex; storage = s }) ws double_word read)).0 refl,
)

-- words that are read as a mix so far begin a mix, whatever their types so far
begun_at : (t : Types) (s : Storage) (ws : SpecWords) → AreRead (record { types = t; storage = s }) ws → Begins ws
begun_at Named s ws read = whole_begins (record { types = Named; storage = s }) ws read refl
begun_at (Words bases.Nothing marks.Unmarked) s ws read = nothing_begins s ws read
begun_at (Words bases.Long marks.Complex) s ws read = complex_begins s ws read
begun_at (Words bases.Long marks.AnyComplex) s ws read =
    whole_begins (record { types = Words bases.Long marks.AnyComplex; storage = s }) ws read refl
begun_at (Words bases.Long marks.ComplexSigned) s ws read =
    whole_begins (record { types = Words bases.Long marks.ComplexSigned; storage = s }) ws read refl
begun_at (Words bases.Long marks.ComplexUnsigned) s ws read =
    whole_begins (record { types = Words bases.Long marks.ComplexUnsigned; storage = s }) ws read refl
begun_at (Words bases.Nothing marks.Signed) s ws read =
    whole_begins (record { types = Words bases.Nothing marks.Signed; storage = s }) ws read refl
begun_at (Words bases.Nothing marks.Unsigned) s ws read =
    whole_begins (record { types = Words bases.Nothing marks.Unsigned; storage = s }) ws read refl
begun_at (Words bases.Nothing marks.Complex) s ws read =
    whole_begins (record { types = Words bases.Nothing marks.Complex; storage = s }) ws read refl
begun_at (Words bases.Nothing marks.AnyComplex) s ws read =
    whole_begins (record { types = Words bases.Nothing marks.AnyComplex; storage = s }) ws read refl
begun_at (Words bases.Nothing marks.ComplexSigned) s ws read =
    whole_begins (record { types = Words bases.Nothing marks.ComplexSigned; storage = s }) ws read refl
begun_at (Words bases.Nothing marks.ComplexUnsigned) s ws read =
    whole_begins (record { types = Words bases.Nothing marks.ComplexUnsigned; storage = s }) ws read refl
begun_at (Words bases.Void marks.Unmarked) s ws read =
    whole_begins (record { types = Words bases.Void marks.Unmarked; storage = s }) ws read refl
begun_at (Words bases.Void marks.Signed) s ws read =
    whole_begins (record { types = Words bases.Void marks.Signed; storage = s }) ws read refl
begun_at (Words bases.Void marks.Unsigned) s ws read =
    whole_begins (record { types = Words bases.Void marks.Unsigned; storage = s }) ws read refl
begun_at (Words bases.Void marks.Complex) s ws read =
    whole_begins (record { types = Words bases.Void marks.Complex; storage = s }) ws read refl
begun_at (Words bases.Void marks.AnyComplex) s ws read =
    whole_begins (record { types = Words bases.Void marks.AnyComplex; storage = s }) ws read refl
begun_at (Words bases.Void marks.ComplexSigned) s ws read =
    whole_begins (record { types = Words bases.Void marks.ComplexSigned; storage = s }) ws read refl
begun_at (Words bases.Void marks.ComplexUnsigned) s ws read =
    whole_begins (record { types = Words bases.Void marks.ComplexUnsigned; storage = s }) ws read refl
begun_at (Words bases.Bool marks.Unmarked) s ws read =
    whole_begins (record { types = Words bases.Bool marks.Unmarked; storage = s }) ws read refl
begun_at (Words bases.Bool marks.Signed) s ws read =
    whole_begins (record { types = Words bases.Bool marks.Signed; storage = s }) ws read refl
begun_at (Words bases.Bool marks.Unsigned) s ws read =
    whole_begins (record { types = Words bases.Bool marks.Unsigned; storage = s }) ws read refl
begun_at (Words bases.Bool marks.Complex) s ws read =
    whole_begins (record { types = Words bases.Bool marks.Complex; storage = s }) ws read refl
begun_at (Words bases.Bool marks.AnyComplex) s ws read =
    whole_begins (record { types = Words bases.Bool marks.AnyComplex; storage = s }) ws read refl
begun_at (Words bases.Bool marks.ComplexSigned) s ws read =
    whole_begins (record { types = Words bases.Bool marks.ComplexSigned; storage = s }) ws read refl
begun_at (Words bases.Bool marks.ComplexUnsigned) s ws read =
    whole_begins (record { types = Words bases.Bool marks.ComplexUnsigned; storage = s }) ws read refl
begun_at (Words bases.Alone marks.Unmarked) s ws read =
    whole_begins (record { types = Words bases.Alone marks.Unmarked; storage = s }) ws read refl
begun_at (Words bases.Alone marks.Signed) s ws read =
    whole_begins (record { types = Words bases.Alone marks.Signed; storage = s }) ws read refl
begun_at (Words bases.Alone marks.Unsigned) s ws read =
    whole_begins (record { types = Words bases.Alone marks.Unsigned; storage = s }) ws read refl
begun_at (Words bases.Alone marks.Complex) s ws read =
    whole_begins (record { types = Words bases.Alone marks.Complex; storage = s }) ws read refl
begun_at (Words bases.Alone marks.AnyComplex) s ws read =
    whole_begins (record { types = Words bases.Alone marks.AnyComplex; storage = s }) ws read refl
begun_at (Words bases.Alone marks.ComplexSigned) s ws read =
    whole_begins (record { types = Words bases.Alone marks.ComplexSigned; storage = s }) ws read refl
begun_at (Words bases.Alone marks.ComplexUnsigned) s ws read =
    whole_begins (record { types = Words bases.Alone marks.ComplexUnsigned; storage = s }) ws read refl
begun_at (Words bases.Char marks.Unmarked) s ws read =
    whole_begins (record { types = Words bases.Char marks.Unmarked; storage = s }) ws read refl
begun_at (Words bases.Char marks.Signed) s ws read =
    whole_begins (record { types = Words bases.Char marks.Signed; storage = s }) ws read refl
begun_at (Words bases.Char marks.Unsigned) s ws read =
    whole_begins (record { types = Words bases.Char marks.Unsigned; storage = s }) ws read refl
begun_at (Words bases.Char marks.Complex) s ws read =
    whole_begins (record { types = Words bases.Char marks.Complex; storage = s }) ws read refl
begun_at (Words bases.Char marks.AnyComplex) s ws read =
    whole_begins (record { types = Words bases.Char marks.AnyComplex; storage = s }) ws read refl
begun_at (Words bases.Char marks.ComplexSigned) s ws read =
    whole_begins (record { types = Words bases.Char marks.ComplexSigned; storage = s }) ws read refl
begun_at (Words bases.Char marks.ComplexUnsigned) s ws read =
    whole_begins (record { types = Words bases.Char marks.ComplexUnsigned; storage = s }) ws read refl
begun_at (Words bases.Int marks.Unmarked) s ws read =
    whole_begins (record { types = Words bases.Int marks.Unmarked; storage = s }) ws read refl
begun_at (Words bases.Int marks.Signed) s ws read =
    whole_begins (record { types = Words bases.Int marks.Signed; storage = s }) ws read refl
begun_at (Words bases.Int marks.Unsigned) s ws read =
    whole_begins (record { types = Words bases.Int marks.Unsigned; storage = s }) ws read refl
begun_at (Words bases.Int marks.Complex) s ws read =
    whole_begins (record { types = Words bases.Int marks.Complex; storage = s }) ws read refl
begun_at (Words bases.Int marks.AnyComplex) s ws read =
    whole_begins (record { types = Words bases.Int marks.AnyComplex; storage = s }) ws read refl
begun_at (Words bases.Int marks.ComplexSigned) s ws read =
    whole_begins (record { types = Words bases.Int marks.ComplexSigned; storage = s }) ws read refl
begun_at (Words bases.Int marks.ComplexUnsigned) s ws read =
    whole_begins (record { types = Words bases.Int marks.ComplexUnsigned; storage = s }) ws read refl
begun_at (Words bases.Int128 marks.Unmarked) s ws read =
    whole_begins (record { types = Words bases.Int128 marks.Unmarked; storage = s }) ws read refl
begun_at (Words bases.Int128 marks.Signed) s ws read =
    whole_begins (record { types = Words bases.Int128 marks.Signed; storage = s }) ws read refl
begun_at (Words bases.Int128 marks.Unsigned) s ws read =
    whole_begins (record { types = Words bases.Int128 marks.Unsigned; storage = s }) ws read refl
begun_at (Words bases.Int128 marks.Complex) s ws read =
    whole_begins (record { types = Words bases.Int128 marks.Complex; storage = s }) ws read refl
begun_at (Words bases.Int128 marks.AnyComplex) s ws read =
    whole_begins (record { types = Words bases.Int128 marks.AnyComplex; storage = s }) ws read refl
begun_at (Words bases.Int128 marks.ComplexSigned) s ws read =
    whole_begins (record { types = Words bases.Int128 marks.ComplexSigned; storage = s }) ws read refl
begun_at (Words bases.Int128 marks.ComplexUnsigned) s ws read =
    whole_begins (record { types = Words bases.Int128 marks.ComplexUnsigned; storage = s }) ws read refl
begun_at (Words bases.Short marks.Unmarked) s ws read =
    whole_begins (record { types = Words bases.Short marks.Unmarked; storage = s }) ws read refl
begun_at (Words bases.Short marks.Signed) s ws read =
    whole_begins (record { types = Words bases.Short marks.Signed; storage = s }) ws read refl
begun_at (Words bases.Short marks.Unsigned) s ws read =
    whole_begins (record { types = Words bases.Short marks.Unsigned; storage = s }) ws read refl
begun_at (Words bases.Short marks.Complex) s ws read =
    whole_begins (record { types = Words bases.Short marks.Complex; storage = s }) ws read refl
begun_at (Words bases.Short marks.AnyComplex) s ws read =
    whole_begins (record { types = Words bases.Short marks.AnyComplex; storage = s }) ws read refl
begun_at (Words bases.Short marks.ComplexSigned) s ws read =
    whole_begins (record { types = Words bases.Short marks.ComplexSigned; storage = s }) ws read refl
begun_at (Words bases.Short marks.ComplexUnsigned) s ws read =
    whole_begins (record { types = Words bases.Short marks.ComplexUnsigned; storage = s }) ws read refl
begun_at (Words bases.ShortInt marks.Unmarked) s ws read =
    whole_begins (record { types = Words bases.ShortInt marks.Unmarked; storage = s }) ws read refl
begun_at (Words bases.ShortInt marks.Signed) s ws read =
    whole_begins (record { types = Words bases.ShortInt marks.Signed; storage = s }) ws read refl
begun_at (Words bases.ShortInt marks.Unsigned) s ws read =
    whole_begins (record { types = Words bases.ShortInt marks.Unsigned; storage = s }) ws read refl
begun_at (Words bases.ShortInt marks.Complex) s ws read =
    whole_begins (record { types = Words bases.ShortInt marks.Complex; storage = s }) ws read refl
begun_at (Words bases.ShortInt marks.AnyComplex) s ws read =
    whole_begins (record { types = Words bases.ShortInt marks.AnyComplex; storage = s }) ws read refl
begun_at (Words bases.ShortInt marks.ComplexSigned) s ws read =
    whole_begins (record { types = Words bases.ShortInt marks.ComplexSigned; storage = s }) ws read refl
begun_at (Words bases.ShortInt marks.ComplexUnsigned) s ws read =
    whole_begins (record { types = Words bases.ShortInt marks.ComplexUnsigned; storage = s }) ws read refl
begun_at (Words bases.Long marks.Unmarked) s ws read =
    whole_begins (record { types = Words bases.Long marks.Unmarked; storage = s }) ws read refl
begun_at (Words bases.Long marks.Signed) s ws read =
    whole_begins (record { types = Words bases.Long marks.Signed; storage = s }) ws read refl
begun_at (Words bases.Long marks.Unsigned) s ws read =
    whole_begins (record { types = Words bases.Long marks.Unsigned; storage = s }) ws read refl
begun_at (Words bases.LongInt marks.Unmarked) s ws read =
    whole_begins (record { types = Words bases.LongInt marks.Unmarked; storage = s }) ws read refl
begun_at (Words bases.LongInt marks.Signed) s ws read =
    whole_begins (record { types = Words bases.LongInt marks.Signed; storage = s }) ws read refl
begun_at (Words bases.LongInt marks.Unsigned) s ws read =
    whole_begins (record { types = Words bases.LongInt marks.Unsigned; storage = s }) ws read refl
begun_at (Words bases.LongInt marks.Complex) s ws read =
    whole_begins (record { types = Words bases.LongInt marks.Complex; storage = s }) ws read refl
begun_at (Words bases.LongInt marks.AnyComplex) s ws read =
    whole_begins (record { types = Words bases.LongInt marks.AnyComplex; storage = s }) ws read refl
begun_at (Words bases.LongInt marks.ComplexSigned) s ws read =
    whole_begins (record { types = Words bases.LongInt marks.ComplexSigned; storage = s }) ws read refl
begun_at (Words bases.LongInt marks.ComplexUnsigned) s ws read =
    whole_begins (record { types = Words bases.LongInt marks.ComplexUnsigned; storage = s }) ws read refl
begun_at (Words bases.LongLong marks.Unmarked) s ws read =
    whole_begins (record { types = Words bases.LongLong marks.Unmarked; storage = s }) ws read refl
begun_at (Words bases.LongLong marks.Signed) s ws read =
    whole_begins (record { types = Words bases.LongLong marks.Signed; storage = s }) ws read refl
begun_at (Words bases.LongLong marks.Unsigned) s ws read =
    whole_begins (record { types = Words bases.LongLong marks.Unsigned; storage = s }) ws read refl
begun_at (Words bases.LongLong marks.Complex) s ws read =
    whole_begins (record { types = Words bases.LongLong marks.Complex; storage = s }) ws read refl
begun_at (Words bases.LongLong marks.AnyComplex) s ws read =
    whole_begins (record { types = Words bases.LongLong marks.AnyComplex; storage = s }) ws read refl
begun_at (Words bases.LongLong marks.ComplexSigned) s ws read =
    whole_begins (record { types = Words bases.LongLong marks.ComplexSigned; storage = s }) ws read refl
begun_at (Words bases.LongLong marks.ComplexUnsigned) s ws read =
    whole_begins (record { types = Words bases.LongLong marks.ComplexUnsigned; storage = s }) ws read refl
begun_at (Words bases.LongLongInt marks.Unmarked) s ws read =
    whole_begins (record { types = Words bases.LongLongInt marks.Unmarked; storage = s }) ws read refl
begun_at (Words bases.LongLongInt marks.Signed) s ws read =
    whole_begins (record { types = Words bases.LongLongInt marks.Signed; storage = s }) ws read refl
begun_at (Words bases.LongLongInt marks.Unsigned) s ws read =
    whole_begins (record { types = Words bases.LongLongInt marks.Unsigned; storage = s }) ws read refl
begun_at (Words bases.LongLongInt marks.Complex) s ws read =
    whole_begins (record { types = Words bases.LongLongInt marks.Complex; storage = s }) ws read refl
begun_at (Words bases.LongLongInt marks.AnyComplex) s ws read =
    whole_begins (record { types = Words bases.LongLongInt marks.AnyComplex; storage = s }) ws read refl
begun_at (Words bases.LongLongInt marks.ComplexSigned) s ws read =
    whole_begins (record { types = Words bases.LongLongInt marks.ComplexSigned; storage = s }) ws read refl
begun_at (Words bases.LongLongInt marks.ComplexUnsigned) s ws read =
    whole_begins (record { types = Words bases.LongLongInt marks.ComplexUnsigned; storage = s }) ws read refl
begun_at (Words bases.Float marks.Unmarked) s ws read =
    whole_begins (record { types = Words bases.Float marks.Unmarked; storage = s }) ws read refl
begun_at (Words bases.Float marks.Signed) s ws read =
    whole_begins (record { types = Words bases.Float marks.Signed; storage = s }) ws read refl
begun_at (Words bases.Float marks.Unsigned) s ws read =
    whole_begins (record { types = Words bases.Float marks.Unsigned; storage = s }) ws read refl
begun_at (Words bases.Float marks.Complex) s ws read =
    whole_begins (record { types = Words bases.Float marks.Complex; storage = s }) ws read refl
begun_at (Words bases.Float marks.AnyComplex) s ws read =
    whole_begins (record { types = Words bases.Float marks.AnyComplex; storage = s }) ws read refl
begun_at (Words bases.Float marks.ComplexSigned) s ws read =
    whole_begins (record { types = Words bases.Float marks.ComplexSigned; storage = s }) ws read refl
begun_at (Words bases.Float marks.ComplexUnsigned) s ws read =
    whole_begins (record { types = Words bases.Float marks.ComplexUnsigned; storage = s }) ws read refl
begun_at (Words bases.Double marks.Unmarked) s ws read =
    whole_begins (record { types = Words bases.Double marks.Unmarked; storage = s }) ws read refl
begun_at (Words bases.Double marks.Signed) s ws read =
    whole_begins (record { types = Words bases.Double marks.Signed; storage = s }) ws read refl
begun_at (Words bases.Double marks.Unsigned) s ws read =
    whole_begins (record { types = Words bases.Double marks.Unsigned; storage = s }) ws read refl
begun_at (Words bases.Double marks.Complex) s ws read =
    whole_begins (record { types = Words bases.Double marks.Complex; storage = s }) ws read refl
begun_at (Words bases.Double marks.AnyComplex) s ws read =
    whole_begins (record { types = Words bases.Double marks.AnyComplex; storage = s }) ws read refl
begun_at (Words bases.Double marks.ComplexSigned) s ws read =
    whole_begins (record { types = Words bases.Double marks.ComplexSigned; storage = s }) ws read refl
begun_at (Words bases.Double marks.ComplexUnsigned) s ws read =
    whole_begins (record { types = Words bases.Double marks.ComplexUnsigned; storage = s }) ws read refl
begun_at (Words bases.LongDouble marks.Unmarked) s ws read =
    whole_begins (record { types = Words bases.LongDouble marks.Unmarked; storage = s }) ws read refl
begun_at (Words bases.LongDouble marks.Signed) s ws read =
    whole_begins (record { types = Words bases.LongDouble marks.Signed; storage = s }) ws read refl
begun_at (Words bases.LongDouble marks.Unsigned) s ws read =
    whole_begins (record { types = Words bases.LongDouble marks.Unsigned; storage = s }) ws read refl
begun_at (Words bases.LongDouble marks.Complex) s ws read =
    whole_begins (record { types = Words bases.LongDouble marks.Complex; storage = s }) ws read refl
begun_at (Words bases.LongDouble marks.AnyComplex) s ws read =
    whole_begins (record { types = Words bases.LongDouble marks.AnyComplex; storage = s }) ws read refl
begun_at (Words bases.LongDouble marks.ComplexSigned) s ws read =
    whole_begins (record { types = Words bases.LongDouble marks.ComplexSigned; storage = s }) ws read refl
begun_at (Words bases.LongDouble marks.ComplexUnsigned) s ws read =
    whole_begins (record { types = Words bases.LongDouble marks.ComplexUnsigned; storage = s }) ws read refl

pub begun : (mix : Mix) (ws : SpecWords) → AreRead mix ws → Begins ws
begun mix ws read = begun_at mix.types mix.storage ws read
