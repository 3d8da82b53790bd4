-- The readers of declarations, blocks, statements and items, over any readers inside that have `InnerLaws`: `Declared`
-- has what stands behind the words of a declaration, `Blocks` the items of blocks, `Stmts` statements, `Items` those of
-- a unit. A name at the beginning of a statement or of an item of a block is decided by the token behind it.
pub mod Declared
pub mod Blocks
pub mod Stmts
pub mod Items
