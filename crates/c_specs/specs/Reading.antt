-- Words that begin a mix, and what stands after them.
use Rattle.std.specs.Prelude.{◌≡◌, ℕ, ◌⊎◌, true, Any, List, [], IsPermutation}
use Rattle.c_words.specs.declared.kinds.Keyword.{Keyword}
use Rattle.c_tree.specs.Tree.{SpecWords, no_words, more_words, SpecWord}
use Rattle.c_tree.specs.Specifiers.{type_words, type_count, storage_words, basic_types, IsMix}
use Rattle.c_specs.specs.declared.mix.Types.{Types}
use Rattle.c_specs.specs.declared.mix.Types.TheVariants.{Words, Named}
use Rattle.c_specs.specs.declared.mix.Mix.{Mix}
use Rattle.c_specs.specs.Basic.{words_of, fits}
use Rattle.c_specs.specs.Storage.{stored_words}

-- words, and more behind them
abbrev pub append_words : SpecWords → SpecWords → SpecWords
append_words no_words more = more
append_words (more_words w ws) more = more_words w (append_words ws more)

-- words with one more behind them
abbrev pub pushed : SpecWords → SpecWord → SpecWords
pushed ws w = append_words ws (more_words w no_words)

-- with more words behind them the words are a mix
abbrev pub Begins : SpecWords → Type 0
Begins ws = (more : SpecWords) × IsMix (append_words ws more)

-- so many named types and these words of basic types are one type
abbrev pub IsTypeOf : ℕ → List Keyword → Type 0
IsTypeOf n ks = ((n ≡ 0) × Any (IsPermutation ks) basic_types) ⊎ ((n ≡ 1) × (ks ≡ []))

-- the type of a mix stands for these
abbrev pub TypesAre : Types → ℕ → List Keyword → Type 0
TypesAre (Words base mark) n ks = (n ≡ 0) × (fits base mark ≡ true) × IsPermutation ks (words_of base mark)
TypesAre Named n ks = (n ≡ 1) × (ks ≡ [])

-- what stands after words
pub record ReadOf (mix : Mix) (n : ℕ) (ks stores : List Keyword) : Type 0 where
  pub types : TypesAre mix.types n ks
  pub storing : IsPermutation stores (stored_words mix.storage)

-- the mix is what stands after these words
abbrev pub AreRead : Mix → SpecWords → Type 0
AreRead mix ws = ReadOf mix (type_count ws) (type_words ws) (storage_words ws)
