-- Rows of words and of items of blocks, as a program holds them and as readers of lists answer them.
use Rattle.std.proofs.Common.{◌≡◌, List, [], ◌∷◌, ◌++◌, refl, ap, map}
use Rattle.c_syntax.specs.declared.parts.Attr.{Attr}
use Rattle.c_syntax.specs.declared.specifier.SpecWord.TheVariants as rust_words
use Rattle.c_syntax.specs.declared.statement.BlockItem as rust_block_item
use Rattle.c_tree.specs.Tree.{more_words, attribute, more_block_items}
use Rattle.c_tree.specs.Unit.{spec_words_from, block_items_from}
use Rattle.c_tree.specs.View.{block_item_of}
use Rattle.c_reading.specs.Declaring.{words_of_attrs}
use Rattle.c_reading.specs.Parts as parts

pub attr_words_same : (attrs : List Attr) → spec_words_from (map (λ a. rust_words.Attr a) attrs) ≡ words_of_attrs attrs
attr_words_same [] = refl
attr_words_same (attr ∷ attrs) = ap (more_words (attribute attr)) (attr_words_same attrs)

pub items_same : (xs : List rust_block_item.BlockItem)
    → parts.block_items_from (map block_item_of xs) ≡ block_items_from xs
items_same [] = refl
items_same (x ∷ xs) = ap (more_block_items (block_item_of x)) (items_same xs)

pub one_item_mapped : (xs : List rust_block_item.BlockItem) (x : rust_block_item.BlockItem)
    → map block_item_of (xs ++ x ∷ []) ≡ map block_item_of xs ++ block_item_of x ∷ []
one_item_mapped [] x = refl
one_item_mapped (y ∷ xs) x = ap (λ more. block_item_of y ∷ more) (one_item_mapped xs x)
