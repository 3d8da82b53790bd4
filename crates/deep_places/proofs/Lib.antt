-- What was taken is low and what is refused for the height is late (`Bounding`): of words (`Words`), expressions
-- (`Exprs`), initialisers (`Inits`), specifiers (`Specs`), declarators (`Declrs`), statements (`Stmts`) and items
-- (`Items`), with the heights of lists (`Heights`); then over the readers of every number (`Knots`). Each lemma
-- `b_NAME` is of the reader NAME: what it answers is at most eight levels a token, and a few more, and where it refuses
-- for the height, so is its room.
pub mod Bounding
pub mod Heights
pub mod Words
pub mod Exprs
pub mod Inits
pub mod Specs
pub mod Declrs
pub mod Stmts
pub mod Items
pub mod Knots
