-- Lists of trees, by their items.
use Rattle.std.proofs.Common.{◌≡◌, List, [], ◌∷◌, map, refl, ap}
use Rattle.c_syntax.specs.declared.specifier.Enumerator.{Enumerator}
use Rattle.c_syntax.specs.declared.parts.Listed.{Listed}
use Rattle.c_syntax.specs.declared.specifier.MemDeclr.{MemDeclr as RustMemDeclr}
use Rattle.c_syntax.specs.declared.specifier.StructItem.{StructItem as RustStructItem}
use Rattle.c_tree.specs.Tree.{Enumerators, more_enumerators, MemDeclrs, more_mem_declrs, StructItems, more_struct_items}
use Rattle.c_tree.specs.View.{mem_declr_of, struct_item_of}
use Rattle.c_tree.specs.Lists.{enumerators_from, some_value_from, mem_declrs_from, struct_items_from}
use Rattle.c_reading.specs.Parts as parts
use Rattle.spec_forms.specs.Forms.{enum_item, member_item}

-- the enumerators as they are held give those of the definition
pub enumerators_same : (es : List Enumerator) → parts.enumerators_from (map enum_item es) ≡ enumerators_from es
enumerators_same [] = refl
enumerators_same (e ∷ es) =
    ap (λ (es : Enumerators). more_enumerators e.name e.attrs.items (some_value_from e.value) es) (enumerators_same es)

-- the declarators of members as they are held give those of the definition
pub members_same : (ds : List (Listed RustMemDeclr)) → parts.mem_declrs_from (map member_item ds) ≡ mem_declrs_from ds
members_same [] = refl
members_same (d ∷ ds) =
    ap (λ (ds : MemDeclrs). more_mem_declrs d.attrs.items (mem_declr_of d.item) ds) (members_same ds)

-- the items of a struct as they are held give those of the definition
pub items_same : (items : List RustStructItem)
    → parts.struct_items_from (map struct_item_of items) ≡ struct_items_from items
items_same [] = refl
items_same (item ∷ items) =
    ap (λ (items : StructItems). more_struct_items (struct_item_of item) items) (items_same items)
