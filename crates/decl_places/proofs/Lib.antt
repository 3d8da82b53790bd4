-- Steps that the families share (`Helping`), the table of mixes (`Mixes`), then each family over any readers inside
-- that owe `InnerLaws`: members (`Members`), structs, unions and enumerations (`Bodies`), specifiers (`Specs`), sizes
-- and parameters (`Params`), declarators (`Declr`), and what their readers and that of names of types owe (`Shown`).
pub mod Helping
pub mod Mixes
pub mod Members
pub mod Identifiers
pub mod Bodies
pub mod Specs
pub mod Params
pub mod Declr
pub mod Shown
