use Rattle.std.proofs.Common.{◌≡◌, map, take}
use Rattle.c_syntax.specs.declared.parts.Qual.{Qual}
use Rattle.c_syntax.specs.declared.specifier.SpecWord.TheVariants as rust_words
use Rattle.decl_nodes.proofs.specifiers.words_of_quals.Given as goal

abbrev pub invariant-loop-qual : goal.invariant-loop-qual
invariant-loop-qual l = l.words.words.items ≡ map (λ (qual : Qual). rust_words.Qual qual) (take l.qual-index l.quals)
