-- The top (`Place`) over the law of the items of a unit, the readers of every number tied (`Knot`), and the laws
-- (`Heights`).
pub mod Place
pub mod Knot
pub mod Heights
