-- Blocks that keep the value of their last expression, over any stacks on which an expression leaves something.
use Rattle.std.proofs.Common.{◌≡◌, Bool, true, false, refl, ◌∙◌}
use Rattle.std.specs.Prelude.{◌&&◌}
use Rattle.c_tree.specs.Tree.{SomeExpr, BlockItems, no_block_items, more_block_items, BlockItem, block_decl, block_stmt, Stmt, block, expr_stmt, attr_stmt, label, case_stmt, default_stmt, if_stmt, switch_stmt, while_stmt, do_stmt, for_stmt, goto_stmt, continue_stmt, break_stmt, return_stmt, asm_stmt, block_labels, case_range, goto_value}
use Rattle.c_tape.specs.Tests.{is_end}

-- what an expression leaves, if there is one
module _ {S : Type 0} (left : SomeExpr → S → S) where
  -- the value of a statement of an expression, where it is kept
  abbrev pub with_kept : Bool → SomeExpr → S → S
  with_kept true e st = left e st
  with_kept false e st = st

  -- behind a statement
  abbrev pub with_stmt : Bool → Stmt → S → S
  with_stmt kept (block opening items closing) st = st
  with_stmt kept (expr_stmt e semi) st = with_kept kept e st
  with_stmt kept (attr_stmt attrs semi) st = st
  with_stmt kept (label name colon attrs s) st = st
  with_stmt kept (case_stmt keyword e colon s) st = st
  with_stmt kept (default_stmt keyword colon s) st = st
  with_stmt kept (if_stmt keyword opening e closing s other) st = st
  with_stmt kept (switch_stmt keyword opening e closing s) st = st
  with_stmt kept (while_stmt keyword opening e closing s) st = st
  with_stmt kept (do_stmt keyword s keyword2 opening e closing semi) st = st
  with_stmt kept (for_stmt keyword opening start e semi e2 closing s) st = st
  with_stmt kept (goto_stmt keyword name semi) st = st
  with_stmt kept (continue_stmt keyword semi) st = st
  with_stmt kept (break_stmt keyword semi) st = st
  with_stmt kept (return_stmt keyword e semi) st = st
  with_stmt kept (asm_stmt keyword words group semi) st = st
  with_stmt kept (case_range keyword e dots e2 colon s) st = st
  with_stmt kept (goto_value keyword star e semi) st = st

  -- behind an item of a block
  abbrev pub with_block_item : Bool → BlockItem → S → S
  with_block_item kept (block_decl d) st = st
  with_block_item kept (block_stmt s) st = with_stmt kept s st
  with_block_item kept (block_labels keyword names semi) st = st

  -- behind items of a block: the last alone may leave a value
  abbrev pub with_items : Bool → BlockItems → S → S
  with_items kept no_block_items st = st
  with_items kept (more_block_items item items) st =
      with_items kept items (with_block_item (kept && is_end items) item st)

  -- a statement of which no value is kept changes nothing
  pub no_stmt_kept : (s : Stmt) (st : S) → with_stmt false s st ≡ st
  no_stmt_kept (block opening items closing) st = refl
  no_stmt_kept (expr_stmt e semi) st = refl
  no_stmt_kept (attr_stmt attrs semi) st = refl
  no_stmt_kept (label name colon attrs s) st = refl
  no_stmt_kept (case_stmt keyword e colon s) st = refl
  no_stmt_kept (default_stmt keyword colon s) st = refl
  no_stmt_kept (if_stmt keyword opening e closing s other) st = refl
  no_stmt_kept (switch_stmt keyword opening e closing s) st = refl
  no_stmt_kept (while_stmt keyword opening e closing s) st = refl
  no_stmt_kept (do_stmt keyword s keyword2 opening e closing semi) st = refl
  no_stmt_kept (for_stmt keyword opening start e semi e2 closing s) st = refl
  no_stmt_kept (goto_stmt keyword name semi) st = refl
  no_stmt_kept (continue_stmt keyword semi) st = refl
  no_stmt_kept (break_stmt keyword semi) st = refl
  no_stmt_kept (return_stmt keyword e semi) st = refl
  no_stmt_kept (asm_stmt keyword words group semi) st = refl
  no_stmt_kept (case_range keyword e dots e2 colon s) st = refl
  no_stmt_kept (goto_value keyword star e semi) st = refl

  -- nor does an item
  pub no_item_kept : (item : BlockItem) (st : S) → with_block_item false item st ≡ st
  no_item_kept (block_decl d) st = refl
  no_item_kept (block_stmt s) st = no_stmt_kept s st
  no_item_kept (block_labels keyword names semi) st = refl

  -- nor do items
  pub none_kept : (items : BlockItems) (st : S) → with_items false items st ≡ st
  none_kept no_block_items st = refl
  none_kept (more_block_items item items) st = none_kept items (with_block_item false item st) ∙ no_item_kept item st
