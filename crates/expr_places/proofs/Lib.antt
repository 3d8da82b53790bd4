-- The readers of expressions and initialisers, over any readers inside that have `InnerLaws`: `Facts` has what the kind
-- of a token says, `Operands` postfix forms and what begins with a parenthesis, `Unary` the unary forms, `Rows`
-- operands with operators, `Inits` initialisers. Two tokens decide at `sizeof (` alone.
pub mod Facts
pub mod Operands
pub mod Unary
pub mod Rows
pub mod Inits
