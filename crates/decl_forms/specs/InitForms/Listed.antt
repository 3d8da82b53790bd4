-- Items of a list so far, and the comma that ended them.
use Rattle.std.specs.Prelude.{ℕ, [], ◌∷◌, map, None, Result}
use Rattle.c_nodes.specs.declared.sized.SizedInitItem.{SizedInitItem}
use Rattle.c_reading.specs.Parts.{ListItem}
use Rattle.c_reading.specs.Reading.{Reader, CommaList}
use Rattle.reader_base.specs.declared.fault.ReadError.{ReadError}
use Rattle.reader_base.specs.declared.cursor.Cursor.{Cursor}
use Rattle.reader_base.specs.Gives.{Reads}
use Rattle.decl_forms.specs.declared.init_forms.lists.Listing.{Listing}
use Rattle.decl_forms.specs.InitForms.Seen.{item_tree, sized_item}

-- the items of a braced list so far, and the comma that ended it
abbrev pub listing : Listing → CommaList ListItem ℕ
listing known = record { items = map item_tree known.items.items.items; ending = known.comma }

-- one item alone
abbrev pub only : SizedInitItem → CommaList ListItem ℕ
only first = record { items = sized_item first ∷ []; ending = None }

-- the items of a braced list are read as the reader of lists gives them
abbrev pub ReadsListing : Cursor → Cursor → Result Listing ReadError → Reader (CommaList ListItem ℕ) → Type 0
ReadsListing before after result reader = Reads listing before after result reader
