-- Whether a type stands among words.
use Rattle.std.proofs.Common.{arith, ◌≡◌, ℕ, ◌+◌, ◌≤◌, Bool, true, false, List, length, Some, refl}
use Rattle.std.specs.Prelude.{IsPermutation}
use Rattle.std.proofs.lemmas.List.Sorted.{length_permutation}
use Rattle.c_words.specs.declared.kinds.Keyword.{Keyword}
use Rattle.c_tree.specs.Tree.{SpecWords, no_words, more_words, storage, thread, inline_word, noreturn, qualifier, basic, struct_type, enum_type, typedef_name, attribute, typeof_value, typeof_type, align, auto_word}
use Rattle.c_tree.specs.Specifiers.{type_words, type_count}
use Rattle.c_specs.specs.declared.basic.Base.{Base}
use Rattle.c_specs.specs.declared.basic.Base.TheVariants as bases
use Rattle.c_specs.specs.declared.basic.Mark.{Mark}
use Rattle.c_specs.specs.declared.basic.Mark.TheVariants as marks
use Rattle.c_specs.specs.declared.mix.Types.{Types}
use Rattle.c_specs.specs.declared.mix.Types.TheVariants.{Words, Named}
use Rattle.c_specs.specs.declared.mix.Mix.{Mix}
use Rattle.c_specs.specs.Basic.{base_words, words_of}
use Rattle.c_specs.specs.Mix.{mix_of, type_stands, is_typed}
use Rattle.c_specs.specs.Reading.{TypesAre}
use Rattle.c_specs.proofs.MixSteps.{many}
use Rattle.c_specs.proofs.WordsRead.{read_of_mix}

-- whether there are any
abbrev Tells : Bool → ℕ → Type 0
Tells true n = 1 ≤ n
Tells false n = n ≡ 0

-- two tests of whether a number is 1 at least are the same
same_told : (a b : Bool) (n : ℕ) → Tells a n → Tells b n → a ≡ b
same_told true true n x y = refl
same_told false false n x y = refl
same_told true false n x y = absurd (omega arith)
same_told false true n x y = absurd (omega arith)

one_told : (n : ℕ) (ks : List Keyword) (b : Base) (m : Mark) → 1 ≤ length (base_words b)
    → IsPermutation ks (words_of b m) → 1 ≤ n + length ks
one_told n ks b m some here = let e = many b m ks some here in omega arith

-- a type stands among words just where their types and type words are at least one
stands_told : (t : Types) (n : ℕ) (ks : List Keyword) → TypesAre t n ks → Tells (type_stands t) (n + length ks)
stands_told Named n ks (one, none) = omega arith
stands_told (Words bases.Nothing marks.Unmarked) n ks (is, fit, here) =
    let e = length_permutation ks (words_of bases.Nothing marks.Unmarked) here in
    omega arith
stands_told (Words bases.Nothing marks.Signed) n ks (is, fit, here) =
    let e = length_permutation ks (words_of bases.Nothing marks.Signed) here in
    omega arith
stands_told (Words bases.Nothing marks.Unsigned) n ks (is, fit, here) =
    let e = length_permutation ks (words_of bases.Nothing marks.Unsigned) here in
    omega arith
stands_told (Words bases.Nothing marks.Complex) n ks (is, fit, here) =
    let e = length_permutation ks (words_of bases.Nothing marks.Complex) here in
    omega arith
stands_told (Words bases.Nothing marks.AnyComplex) n ks (is, fit, here) =
    let e = length_permutation ks (words_of bases.Nothing marks.AnyComplex) here in
    omega arith
stands_told (Words bases.Nothing marks.ComplexSigned) n ks (is, fit, here) =
    let e = length_permutation ks (words_of bases.Nothing marks.ComplexSigned) here in
    omega arith
stands_told (Words bases.Nothing marks.ComplexUnsigned) n ks (is, fit, here) =
    let e = length_permutation ks (words_of bases.Nothing marks.ComplexUnsigned) here in
    omega arith
stands_told (Words bases.Void m) n ks (is, fit, here) = one_told n ks bases.Void m (omega arith) here
stands_told (Words bases.Bool m) n ks (is, fit, here) = one_told n ks bases.Bool m (omega arith) here
stands_told (Words bases.Alone m) n ks (is, fit, here) = one_told n ks bases.Alone m (omega arith) here
stands_told (Words bases.Char m) n ks (is, fit, here) = one_told n ks bases.Char m (omega arith) here
stands_told (Words bases.Int m) n ks (is, fit, here) = one_told n ks bases.Int m (omega arith) here
stands_told (Words bases.Int128 m) n ks (is, fit, here) = one_told n ks bases.Int128 m (omega arith) here
stands_told (Words bases.Short m) n ks (is, fit, here) = one_told n ks bases.Short m (omega arith) here
stands_told (Words bases.ShortInt m) n ks (is, fit, here) = one_told n ks bases.ShortInt m (omega arith) here
stands_told (Words bases.Long m) n ks (is, fit, here) = one_told n ks bases.Long m (omega arith) here
stands_told (Words bases.LongInt m) n ks (is, fit, here) = one_told n ks bases.LongInt m (omega arith) here
stands_told (Words bases.LongLong m) n ks (is, fit, here) = one_told n ks bases.LongLong m (omega arith) here
stands_told (Words bases.LongLongInt m) n ks (is, fit, here) = one_told n ks bases.LongLongInt m (omega arith) here
stands_told (Words bases.Float m) n ks (is, fit, here) = one_told n ks bases.Float m (omega arith) here
stands_told (Words bases.Double m) n ks (is, fit, here) = one_told n ks bases.Double m (omega arith) here
stands_told (Words bases.LongDouble m) n ks (is, fit, here) = one_told n ks bases.LongDouble m (omega arith) here

-- specifiers have a type just where their types and type words are at least one
words_told : (ws : SpecWords) → Tells (is_typed ws) (type_count ws + length (type_words ws))
words_told no_words = refl
words_told (more_words (storage a) ws) = words_told ws
words_told (more_words (thread a) ws) = words_told ws
words_told (more_words (inline_word a) ws) = words_told ws
words_told (more_words (noreturn a) ws) = words_told ws
words_told (more_words (qualifier a) ws) = words_told ws
words_told (more_words (basic a) ws) = omega arith
words_told (more_words (struct_type a b c d) ws) = omega arith
words_told (more_words (enum_type a) ws) = omega arith
words_told (more_words (typedef_name a) ws) = omega arith
words_told (more_words (attribute a) ws) = words_told ws
words_told (more_words (typeof_value a b e c) ws) = omega arith
words_told (more_words (typeof_type a b ws2 d c) ws) = omega arith
words_told (more_words (align a) ws) = words_told ws
words_told (more_words (auto_word a) ws) = omega arith

-- a type stands after words where one stands among them
pub typed_right : (ws : SpecWords) (mix : Mix) → mix_of ws ≡ Some mix → type_stands mix.types ≡ is_typed ws
typed_right ws mix is =
    same_told (type_stands mix.types) (is_typed ws) (type_count ws + length (type_words ws))
    (stands_told mix.types (type_count ws) (type_words ws) (read_of_mix ws mix is).types) (words_told ws)
