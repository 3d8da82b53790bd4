-- What is asked of the reader that is lent to all others, and what readers answer.
use Rattle.std.specs.Prelude.{◌≡◌, ℕ, List, Option, Result, Ok, Err}
use Rattle.std.specs.Fn.{Shared, always_fn}
use denote.Ref.{MutBor}
use Rattle.c_tree.specs.declared.lexeme.Lexeme.{Lexeme}
use Rattle.c_tree.specs.Tree as trees
use Rattle.c_tree.specs.Lists.{some_declr_from, init_items_from}
use Rattle.c_tree.specs.Unit.{spec_words_from, block_items_from}
use Rattle.c_tree.specs.View.{expr_of, declr_of, stmt_of}
use Rattle.c_nodes.specs.declared.sized.SizedExpr.{SizedExpr}
use Rattle.c_nodes.specs.declared.sized.SizedTypeName.{SizedTypeName}
use Rattle.c_nodes.specs.declared.sized.SizedSpecs.{SizedSpecs}
use Rattle.c_nodes.specs.declared.sized.PresentDeclr.{PresentDeclr}
use Rattle.c_nodes.specs.declared.sized.SizedInitList.{SizedInitList}
use Rattle.c_nodes.specs.declared.sized.SizedBlock.{SizedBlock}
use Rattle.c_nodes.specs.declared.sized.SizedStmt.{SizedStmt}
use Rattle.c_units.specs.HeldScopes.{HeldScopes}
use Rattle.c_reading.specs.declared.kinds.Role.{Role}
use Rattle.c_reading.specs.Reading.{Found, Read, Reader, Refusal}
use Rattle.c_reading.specs.Parts as parts
use Rattle.c_reading.specs.Knot.{knot}
use Rattle.reader_base.specs.declared.asking.Begun.{Begun}
use Rattle.reader_base.specs.declared.asking.Begun.TheVariants as begun
use Rattle.reader_base.specs.declared.asking.Declared.{Declared}
use Rattle.reader_base.specs.declared.asking.Ask.{Ask}
use Rattle.reader_base.specs.declared.asking.Ask.TheVariants as asks
use Rattle.reader_base.specs.declared.asking.Answer.{Answer}
use Rattle.reader_base.specs.declared.asking.Answer.TheVariants as answers
use Rattle.reader_base.specs.declared.fault.ReadError.{ReadError}
use Rattle.reader_base.specs.declared.cursor.Cursor.{Cursor}
use Rattle.reader_base.specs.Gives.{Gives, behind, Reads}

-- what was read already of the first operand of an expression
abbrev pub begun_of : Begun → parts.Begun
begun_of begun.Nothing = parts.nothing
begun_of (begun.Extensions tokens) = parts.extensions tokens.items
begun_of (begun.Star token) = parts.star token

-- the tree of an expression that was read
abbrev pub sized_expr : SizedExpr → trees.Expr
sized_expr x = expr_of x.tree.value

-- the tree of a type name that was read
abbrev pub sized_type_name : SizedTypeName → parts.TypeName
sized_type_name x = record { words = spec_words_from x.words.items; declr = some_declr_from x.declr }

-- the tree of specifiers that were read
abbrev pub sized_specs : SizedSpecs → trees.SpecWords
sized_specs x = spec_words_from x.words.items

-- the tree of a declarator that was read, with the scope of its parameters
abbrev pub declared_of : Declared → parts.Declared
declared_of x = record { declr = some_declr_from x.declr.declr; closed = x.closed }

-- the tree of a braced list that was read
abbrev pub sized_init_list : SizedInitList → trees.InitList
sized_init_list x = trees.init_list x.opening (init_items_from x.items.items) x.comma x.closing

-- the tree of a block that was read
abbrev pub sized_block : SizedBlock → parts.Block
sized_block x = record { opening = x.opening; items = block_items_from x.items.items; closing = x.closing }

-- the tree of a statement that was read
abbrev pub sized_stmt : SizedStmt → trees.Stmt
sized_stmt x = stmt_of x.tree.value

-- an expression is read at a cursor as the reader of lists gives it
abbrev pub ReadsExpr : Cursor → Cursor → Result SizedExpr ReadError → Reader trees.Expr → Type 0
ReadsExpr before after result reader = Reads sized_expr before after result reader

-- a type name is read so
abbrev pub ReadsTypeName : Cursor → Cursor → Result SizedTypeName ReadError → Reader parts.TypeName → Type 0
ReadsTypeName before after result reader = Reads sized_type_name before after result reader

-- specifiers are read so
abbrev pub ReadsSpecs : Cursor → Cursor → Result SizedSpecs ReadError → Reader trees.SpecWords → Type 0
ReadsSpecs before after result reader = Reads sized_specs before after result reader

-- a declarator, which may be absent, is read so
abbrev pub ReadsDeclr : Cursor → Cursor → Result Declared ReadError → Reader parts.Declared → Type 0
ReadsDeclr before after result reader = Reads declared_of before after result reader

-- a declarator that must be there is read so
abbrev pub ReadsPresent : Cursor → Cursor → Result PresentDeclr ReadError → Reader trees.Declr → Type 0
ReadsPresent before after result reader = Reads (λ x. declr_of x.declr.value) before after result reader

-- a braced list of initialisers is read so
abbrev pub ReadsInitList : Cursor → Cursor → Result SizedInitList ReadError → Reader trees.InitList → Type 0
ReadsInitList before after result reader = Reads sized_init_list before after result reader

-- a block is read so
abbrev pub ReadsBlock : Cursor → Cursor → Result SizedBlock ReadError → Reader parts.Block → Type 0
ReadsBlock before after result reader = Reads sized_block before after result reader

-- a statement is read so
abbrev pub ReadsStmt : Cursor → Cursor → Result SizedStmt ReadError → Reader trees.Stmt → Type 0
ReadsStmt before after result reader = Reads sized_stmt before after result reader

-- a tree of any kind
pub data Tree : Type 0 where
  expr_tree : trees.Expr → Tree
  type_name_tree : parts.TypeName → Tree
  specs_tree : trees.SpecWords → Tree
  declr_tree : parts.Declared → Tree
  init_list_tree : trees.InitList → Tree
  block_tree : parts.Block → Tree
  stmt_tree : trees.Stmt → Tree

-- the tree of what the lent reader answers
abbrev pub tree_of : Answer → Tree
tree_of (answers.Expr x) = expr_tree (sized_expr x)
tree_of (answers.TypeName x) = type_name_tree (sized_type_name x)
tree_of (answers.Specs x) = specs_tree (sized_specs x)
tree_of (answers.Declr x) = declr_tree (declared_of x)
tree_of (answers.InitList x) = init_list_tree (sized_init_list x)
tree_of (answers.Block x) = block_tree (sized_block x)
tree_of (answers.Stmt x) = stmt_tree (sized_stmt x)

-- what a reader of one kind answers, as a tree of any kind
abbrev pub under : {A : Type 0} → (A → Tree) → Read A → Read Tree
under kind (Ok x) = Ok (record { tree = kind x.tree; scopes = x.scopes; rest = x.rest })
under kind (Err e) = Err e

-- the reader of a number of specifiers, behind words that were read already
abbrev pub specs_from : ℕ → Role → SizedSpecs → ℕ → Reader trees.SpecWords
specs_from depth role known room = (knot depth).specs role (sized_specs known) room

-- what the reader of this number gives where this is asked
abbrev pub asked_at : ℕ → Ask → Reader Tree
asked_at depth (asks.Expr reach begun room) s ts = under expr_tree ((knot depth).expr reach (begun_of begun) room s ts)
asked_at depth (asks.TypeName room) s ts = under type_name_tree ((knot depth).type_name room s ts)
asked_at depth (asks.Specs role known room) s ts =
    under specs_tree ((knot depth).specs role (sized_specs known) room s ts)
asked_at depth (asks.Declr mode wanted flag room) s ts =
    under declr_tree ((knot depth).declr mode wanted flag room s ts)
asked_at depth (asks.InitList room) s ts = under init_list_tree ((knot depth).init_list room s ts)
asked_at depth (asks.Block room) s ts = under block_tree ((knot depth).block room s ts)
asked_at depth (asks.Stmt room) s ts = under stmt_tree ((knot depth).stmt room s ts)

-- what is asked of the lent reader is read as the reader of lists gives it
abbrev pub ReadsAsked : Cursor → Cursor → Result Answer ReadError → Reader Tree → Type 0
ReadsAsked before after result reader = Reads tree_of before after result reader

-- the reader that is lent can always be called, and gives what the readers of a number give
module _ {F : Type 0} where
  -- the reader that is lent can always be called, and gives what the readers of a number give
  abbrev pub Lends : Shared F (Ask × (MutBor Cursor × Unit {0})) (Result Answer ReadError × (MutBor Cursor × Unit {0}))
      → F → ℕ → Type 0
  Lends g f depth = always_fn g f
      × ((ask : Ask) (p : MutBor Cursor) (r : Result Answer ReadError) (after : MutBor Cursor)
      → g.post f (ask, (p, tt)) (r, (after, tt)) →
      ReadsAsked p.now after.now r (asked_at depth ask))
