-- Parts of initialisers as the readers of token lists see them.
use Rattle.std.specs.Prelude.{List, map, Result}
use Rattle.c_syntax.specs.declared.initialiser.InitItem.{InitItem}
use Rattle.c_nodes.specs.declared.sized.SizedDesig.{SizedDesig}
use Rattle.c_nodes.specs.declared.sized.SizedDesigs.{SizedDesigs}
use Rattle.c_nodes.specs.declared.sized.SizedInit.{SizedInit}
use Rattle.c_nodes.specs.declared.sized.SizedInitItem.{SizedInitItem}
use Rattle.c_tree.specs.Lists.{desigs_from}
use Rattle.c_tree.specs.Tree.{Desig, Init}
use Rattle.c_tree.specs.View.{desig_of, init_of}
use Rattle.c_reading.specs.Parts.{ListItem}
use Rattle.c_reading.specs.Reading.{Reader}
use Rattle.reader_base.specs.declared.fault.ReadError.{ReadError}
use Rattle.reader_base.specs.declared.cursor.Cursor.{Cursor}
use Rattle.reader_base.specs.Gives.{Reads}

-- designators so far
abbrev pub desig_trees : SizedDesigs → List Desig
desig_trees known = map desig_of known.items.items

-- an item of a braced list, as it stands in the list
abbrev pub item_tree : InitItem → ListItem
item_tree x = record { desigs = desigs_from x.desigs.items; equal = x.equal; init = init_of x.init }

-- an item of a braced list, as it is read
abbrev pub sized_item : SizedInitItem → ListItem
sized_item x = record { desigs = desigs_from x.desigs.items; equal = x.equal; init = init_of x.init }

-- an initialiser is read as the reader of lists gives it
abbrev pub ReadsInit : Cursor → Cursor → Result SizedInit ReadError → Reader Init → Type 0
ReadsInit before after result reader = Reads (λ x. init_of x.init) before after result reader

-- a designator is read so
abbrev pub ReadsDesig : Cursor → Cursor → Result SizedDesig ReadError → Reader Desig → Type 0
ReadsDesig before after result reader = Reads (λ x. desig_of x.desig) before after result reader

-- the designators of an item are read so
abbrev pub ReadsDesigs : Cursor → Cursor → Result SizedDesigs ReadError → Reader (List Desig) → Type 0
ReadsDesigs before after result reader = Reads desig_trees before after result reader

-- an item of a braced list is read so
abbrev pub ReadsItem : Cursor → Cursor → Result SizedInitItem ReadError → Reader ListItem → Type 0
ReadsItem before after result reader = Reads sized_item before after result reader
