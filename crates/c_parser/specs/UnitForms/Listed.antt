-- The items of a unit as the readers of token lists see them.
use Rattle.std.specs.Prelude.{ℕ, ◌+◌, ◌-◌, List, [], Option, None, Some, Result, map, if◌then◌else◌}
use Rattle.c_syntax.specs.declared.declaration.Item as rust_item
use Rattle.c_syntax.specs.declared.parts.Attr.{Attr}
use Rattle.c_tree.specs.Height.{declr_height}
use Rattle.c_tree.specs.Tree.{SpecWords, Declr, decl_assert}
use Rattle.c_tree.specs.Unit.{Item, item_of, decl_item, semi_item}
use Rattle.typedef_scope.specs.declared.kind.Kind.TheVariants.{Value}
use Rattle.c_reading.specs.Items.{as_decl, attrs_behind, item_with, asm_item_with}
use Rattle.c_reading.specs.Knot.{knot}
use Rattle.c_reading.specs.Reading.{Reader, Turn, ◌>>=◌, ends, fits, take_one, repeated, repeated_turn}
use Rattle.c_reading.specs.Stating.{declr_behind, declrs_with, declaration_behind}
use Rattle.c_reading.specs.Tokens.{assert_at}
use Rattle.c_reading.specs.Turns.{no_end}
use Rattle.reader_base.specs.declared.fault.ReadError.{ReadError}
use Rattle.reader_base.specs.declared.cursor.Cursor.{Cursor}
use Rattle.reader_base.specs.Gives.{Reads}

-- an item of a unit is read as the reader of lists gives it
abbrev pub ReadsItem : Cursor → Cursor → Result rust_item.Item ReadError → Reader Item → Type 0
ReadsItem before after result reader = Reads item_of before after result reader

-- a declaration of values whose first declarator has attributes behind it, or behind which a label may stand

-- a declaration of values whose first declarator has these attributes behind it
abbrev pub with_attrs : ℕ → List ℕ → SpecWords → Declr → List Attr → ℕ → Reader Item
with_attrs depth exts words d attrs room s ts =
    as_decl (declrs_with (knot depth) exts words Value room (attrs_behind (knot depth) d attrs (room - 1)) s ts)

-- a declaration of values behind whose first declarator a label may stand
abbrev pub with_label : ℕ → List ℕ → SpecWords → Declr → ℕ → Reader Item
with_label depth exts words d room s ts =
    as_decl (declrs_with (knot depth) exts words Value room (declr_behind (knot depth) [] d (room - 1)) s ts)

-- a declaration behind its words
abbrev pub declaration_item_with : ℕ → List ℕ → SpecWords → ℕ → Reader Item
declaration_item_with depth exts words room s ts = as_decl (declaration_behind (knot depth) exts words room s ts)

-- a semicolon alone
abbrev pub semi_with : ℕ → Reader Item
semi_with room s ts =
    fits 1 room ts (take_one s ts >>= λ semi. ends (semi_item (record { token = semi.tree })) semi.scopes semi.rest)

-- AsmDecl = asm bal ;
abbrev pub asm_with : ℕ → ℕ → Reader Item
asm_with depth room s ts = fits 1 room ts (asm_item_with (knot depth) s ts)

-- a `_Static_assert` as an item of a unit
abbrev pub assert_with : ℕ → Reader Item
assert_with room s ts =
    fits 1 room ts (assert_at s ts >>= λ it. ends (decl_item (decl_assert it.tree)) it.scopes it.rest)

-- the items so far, as the state of the loop over them
abbrev pub known_items : List rust_item.Item → List Item
known_items items = map item_of items

-- one more item of a unit, up to its end
abbrev pub item_turn : ℕ → ℕ → Turn (List Item)
item_turn depth room = repeated_turn no_end (item_with (knot depth) room)

-- the items of a unit, up to the end
abbrev pub items_at : ℕ → ℕ → Reader (List Item)
items_at depth room s ts = repeated no_end (item_with (knot depth) room) s ts
