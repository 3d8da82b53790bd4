-- `Both` (what each way to put readers together owes) for each reader in the order of its file in `c_reading`; where a
-- reader comes first behind a question, also that it goes on behind the first token (`Ahead`, and the lemmas
-- `.._past`). `Units` ties the readers of all numbers: the second of two is never one without readers inside, since
-- that one would refuse where it is asked.
pub mod Both
pub mod Words
pub mod Exprs
pub mod Specs
pub mod Declr
pub mod Stmts
pub mod Units
