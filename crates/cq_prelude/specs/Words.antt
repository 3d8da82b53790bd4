-- Words of specifiers.
use Rattle.std.specs.Prelude.{Bool, false}
use Rattle.c_tree.specs.Tree.{SpecWord, storage}
use Rattle.c_units.specs.Scoping as scoping

-- whether a word of specifiers is `typedef`
abbrev pub is_typedef_word : SpecWord → Bool
is_typedef_word (storage word) = scoping.is_typedef_word word.keyword
is_typedef_word word = false
