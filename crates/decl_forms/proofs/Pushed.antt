-- Declarators with one more, and as trees.
use Rattle.std.proofs.Common.{◌≡◌, List, [], ◌∷◌, ◌++◌, map, refl, ap}
use Rattle.std.proofs.lemmas.List.{map-append}
use Rattle.c_syntax.specs.declared.declaration.InitDeclr.{InitDeclr}
use Rattle.c_syntax.specs.declared.parts.Listed.{Listed}
use Rattle.c_tree.specs.Lists as lists
use Rattle.c_tree.specs.Tree.{more_init_declrs}
use Rattle.c_tree.specs.View.{declr_of}
use Rattle.c_reading.specs.Parts.{init_declrs_from}
use Rattle.decl_forms.specs.Listed.{item_tree}

pub items_pushed : (known : List (Listed InitDeclr)) (next : Listed InitDeclr)
    → map item_tree (known ++ next ∷ []) ≡ map item_tree known ++ item_tree next ∷ []
items_pushed known next = map-append item_tree known (next ∷ [])

pub items_are : (items : List (Listed InitDeclr))
    → init_declrs_from (map item_tree items) ≡ lists.init_declrs_from items
items_are [] = refl
items_are (x ∷ xs) =
    ap (more_init_declrs x.attrs.items (declr_of x.item.declr.value) x.item.label x.item.attrs.items
    (lists.some_init_from x.item.init)) (items_are xs)
