-- The storage words of one word.
use Rattle.std.specs.Prelude.{List}
use Rattle.c_words.specs.declared.kinds.Keyword.{Keyword}
use Rattle.c_tree.specs.Specifiers.{storage_words}
use Rattle.c_tree.specs.Tree.{SpecWord, no_words, more_words}

-- the storage words that one word of specifiers is
abbrev pub storage_of : SpecWord → List Keyword
storage_of w = storage_words (more_words w no_words)
