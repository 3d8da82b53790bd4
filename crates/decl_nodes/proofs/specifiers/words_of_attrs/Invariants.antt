use Rattle.std.proofs.Common.{◌≡◌, map, take}
use Rattle.c_syntax.specs.declared.parts.Attr.{Attr}
use Rattle.c_syntax.specs.declared.specifier.SpecWord.TheVariants as rust_words
use Rattle.decl_nodes.proofs.specifiers.words_of_attrs.Given as goal

abbrev pub invariant-loop-attr : goal.invariant-loop-attr
invariant-loop-attr l = l.words.words.items ≡ map (λ (attr : Attr). rust_words.Attr attr) (take l.attr-index l.attrs)
