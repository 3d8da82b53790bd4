-- One token at a time (`Single`), groups in which brackets match (`Groups`), rows of like tokens (`Rows`), lists of
-- names (`Names`). Each law is stated for any tests of what may follow, as long as these say of no token that it goes
-- on.
pub mod Single
pub mod Groups
pub mod Rows
pub mod Names
