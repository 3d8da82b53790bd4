-- Lists of parts with one more, and as trees.
use Rattle.std.proofs.Common.{◌≡◌, List, [], ◌∷◌, ◌++◌, map, refl, ap}
use Rattle.std.proofs.lemmas.List.{map-append}
use Rattle.c_syntax.specs.declared.initialiser.Desig.{Desig}
use Rattle.c_syntax.specs.declared.initialiser.InitItem.{InitItem}
use Rattle.c_tree.specs.Tree.{more_desigs, more_init_items}
use Rattle.c_tree.specs.Lists as lists
use Rattle.c_tree.specs.View.{desig_of, init_of}
use Rattle.c_reading.specs.Parts.{desigs_from, init_items_from}
use Rattle.decl_forms.specs.InitForms.Seen.{item_tree}

pub desigs_pushed : (known : List Desig) (next : Desig)
    → map desig_of (known ++ next ∷ []) ≡ map desig_of known ++ desig_of next ∷ []
desigs_pushed known next = map-append desig_of known (next ∷ [])

pub items_pushed : (known : List InitItem) (next : InitItem)
    → map item_tree (known ++ next ∷ []) ≡ map item_tree known ++ item_tree next ∷ []
items_pushed known next = map-append item_tree known (next ∷ [])

pub desigs_are : (ds : List Desig) → desigs_from (map desig_of ds) ≡ lists.desigs_from ds
desigs_are [] = refl
desigs_are (d ∷ ds) = ap (more_desigs (desig_of d)) (desigs_are ds)

pub items_are : (items : List InitItem) → init_items_from (map item_tree items) ≡ lists.init_items_from items
items_are [] = refl
items_are (x ∷ xs) = ap (more_init_items (lists.desigs_from x.desigs.items) x.equal (init_of x.init)) (items_are xs)
