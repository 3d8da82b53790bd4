-- Readers of blocks and of what stands in them, at a number of the knot.
use Rattle.std.specs.Prelude.{ℕ, ◌-◌, Result, not, List, [], map, if◌then◌else◌}
use Rattle.c_tree.specs.Tree as trees
use Rattle.c_tree.specs.Tree.{Stmt, BlockItem, SpecWords, block_decl, block_stmt, decl_declaration, decl_assert}
use Rattle.c_tree.specs.View.{block_item_of}
use Rattle.c_nodes.specs.declared.sized.SizedBlockItem.{SizedBlockItem}
use Rattle.c_nodes.specs.declared.sized.SizedBlockItems.{SizedBlockItems}
use Rattle.c_reading.specs.declared.kinds.FaultKind.TheVariants.{Unexpected}
use Rattle.c_reading.specs.Reading.{Reader, Turn, ◌>>=◌, ends, fits, refuses, kind_at, take_one, token_at, run, repeated, repeated_turn}
use Rattle.c_reading.specs.Expressing.{begins_expr}
use Rattle.c_reading.specs.Specifying.{begins_specs}
use Rattle.c_reading.specs.Tokens.{is_close_brace, is_label_word, assert_at}
use Rattle.c_reading.specs.Stating.{declaration_with, declaration_from, block_item_with, block_with, labels_with, expr_stmt_with}
use Rattle.c_reading.specs.Parts.{Block, nothing, block_items_from}
use Rattle.c_reading.specs.Knot.{knot}
use Rattle.reader_base.specs.declared.fault.ReadError.{ReadError}
use Rattle.reader_base.specs.declared.cursor.Cursor.{Cursor}
use Rattle.reader_base.specs.Gives.{Reads}

-- an item of a block is read as the reader of lists gives it
abbrev pub ReadsItem : Cursor → Cursor → Result SizedBlockItem ReadError → Reader BlockItem → Type 0
ReadsItem before after result reader = Reads (λ x. block_item_of x.item) before after result reader

-- the name of a type alone
abbrev pub typedef_word : ℕ → ℕ → SpecWords
typedef_word token name = trees.more_words (trees.typedef_name (record { token = token; name = name })) trees.no_words

-- a `_Static_assert` as an item of a block
abbrev pub assert_item_with : ℕ → Reader BlockItem
assert_item_with room s ts =
    fits 1 room ts (assert_at s ts >>= λ it. ends (block_decl (decl_assert it.tree)) it.scopes it.rest)

-- a declaration as an item of a block, behind ext*
abbrev pub declaration_item_with : ℕ → List ℕ → ℕ → Reader BlockItem
declaration_item_with depth exts room s ts =
    declaration_with (knot depth) exts room s ts >>= λ d. ends (block_decl (decl_declaration d.tree)) d.scopes d.rest

-- a declaration as an item of a block, behind words that were read already
abbrev pub item_from_with : ℕ → SpecWords → ℕ → Reader BlockItem
item_from_with depth known room s ts =
    declaration_from (knot depth) known room s ts >>= λ d. ends (block_decl (decl_declaration d.tree)) d.scopes d.rest

-- a declaration that begins with this typedef name
abbrev pub typed_item_with : ℕ → ℕ → ℕ → Reader BlockItem
typed_item_with depth name room s ts =
    take_one s ts >>= λ token. item_from_with depth (typedef_word token.tree name) room token.scopes token.rest

-- an item that begins with no name: a declaration or a statement
abbrev pub unnamed_item_with : ℕ → ℕ → Reader BlockItem
unnamed_item_with depth room s ts =
    if begins_specs s (kind_at ts) then declaration_item_with depth [] room s ts
    else (knot depth).stmt room s ts >>= λ t. ends (block_stmt t.tree) t.scopes t.rest

-- the items of a block, as the state of the loop over them
abbrev pub known_items : SizedBlockItems → List BlockItem
known_items known = map block_item_of known.items.items

-- one more item of a block, up to `}`
abbrev pub item_turn : ℕ → ℕ → Turn (List BlockItem)
item_turn depth room = repeated_turn (λ kind. not (is_close_brace kind)) (block_item_with (knot depth) room)

-- the declarations of labels before them, as the state of their loop
abbrev pub label_turn : ℕ → ℕ → Turn (List BlockItem)
label_turn depth room = repeated_turn is_label_word (labels_with (knot depth) room)

-- LabelDecl*
abbrev pub labels_at : ℕ → ℕ → Reader (List BlockItem)
labels_at depth room s ts = repeated is_label_word (labels_with (knot depth) room) s ts

-- the items of a block, labels first, in one list
abbrev pub more_items_at : ℕ → List BlockItem → ℕ → Reader (List BlockItem)
more_items_at depth known room s ts = run (item_turn depth room) known s ts

-- LabelDecl* (decl | stmt)*
abbrev pub items_at : ℕ → ℕ → Reader (List BlockItem)
items_at depth room s ts =
    labels_at depth room s ts >>= λ labels. more_items_at depth labels.tree room labels.scopes labels.rest

-- { LabelDecl* (decl | stmt)* }, in a scope that is open
abbrev pub body_at : ℕ → ℕ → Reader Block
body_at depth room s ts = do
  opening ← take_one s ts
  items ← items_at depth (room - 1) opening.scopes opening.rest
  closing ← token_at is_close_brace items.scopes items.rest
  ends (record { opening = opening.tree; items = block_items_from items.tree; closing = closing.tree })
      closing.scopes closing.rest

-- a block as a statement
abbrev pub block_stmt_with : ℕ → ℕ → Reader Stmt
block_stmt_with depth room s ts =
    block_with (knot depth) room s ts >>= λ b.
    ends (trees.block b.tree.opening b.tree.items b.tree.closing) b.scopes b.rest

-- an expression statement, where an expression begins
abbrev pub value_stmt_with : ℕ → ℕ → Reader Stmt
value_stmt_with depth room s ts =
    if begins_expr s (kind_at ts) then fits 2 room ts (expr_stmt_with (knot depth) nothing room s ts)
    else refuses Unexpected ts
