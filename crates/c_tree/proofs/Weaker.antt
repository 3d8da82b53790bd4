-- What is well formed by a stronger rule is so by a weaker one.
use Rattle.std.proofs.Common.{List}
use Rattle.c_tree.specs.declared.lexeme.Lexeme.{Lexeme}
use Rattle.c_tree.specs.Tree.{SpecWords, no_words, more_words, SomeDeclr, no_declr, some_declr}
use Rattle.c_tree.specs.WellFormed.{AreSpecWords, AreTypeWords, IsSomeAbstract, IsSomeDeclr, IsSomeDirect}

-- words of a type are specifiers
pub type_words_are : (all : List Lexeme) (ws : SpecWords) → AreTypeWords all ws → AreSpecWords all ws
type_words_are all no_words h = tt
type_words_are all (more_words w ws) h = (h.0, type_words_are all ws h.2)

-- what has no name is a declarator
pub abstract_is : (all : List Lexeme) (d : SomeDeclr) → IsSomeAbstract all d → IsSomeDeclr all d
abstract_is all no_declr h = tt
abstract_is all (some_declr d) h = h.0

-- what stands directly around nothing is a declarator
pub direct_is : (all : List Lexeme) (d : SomeDeclr) → IsSomeDirect all d → IsSomeDeclr all d
direct_is all no_declr h = tt
direct_is all (some_declr d) h = h.0
