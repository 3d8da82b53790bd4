-- `More` for each way to put readers together, then for each reader in the order of its file in `c_reading`, the
-- readers of all numbers tied (`Units`), and the completeness of the reader of units at any room (`Heights`).
pub mod More
pub mod Exprs
pub mod Specs
pub mod Declr
pub mod Stmts
pub mod Units
pub mod Heights
