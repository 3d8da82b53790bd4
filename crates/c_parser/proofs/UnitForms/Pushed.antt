-- Items, and declarations, with one more at the end, as trees.
use Rattle.std.proofs.Common.{◌≡◌, List, [], ◌∷◌, ◌++◌, map}
use Rattle.std.proofs.lemmas.List.{map-append}
use Rattle.c_syntax.specs.declared.declaration.Declaration as rust_declaration
use Rattle.c_syntax.specs.declared.declaration.Item as rust_item
use Rattle.c_tree.specs.Unit.{item_of}
use Rattle.c_tree.specs.View.{declaration_of}

pub one_item_mapped : (xs : List rust_item.Item) (x : rust_item.Item)
    → map item_of (xs ++ x ∷ []) ≡ map item_of xs ++ item_of x ∷ []
one_item_mapped xs x = map-append item_of xs (x ∷ [])

pub one_declaration_mapped : (ds : List rust_declaration.Declaration) (d : rust_declaration.Declaration)
    → map declaration_of (ds ++ d ∷ []) ≡ map declaration_of ds ++ declaration_of d ∷ []
one_declaration_mapped ds d = map-append declaration_of ds (d ∷ [])
