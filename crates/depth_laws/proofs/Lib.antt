-- With so much room that nothing is too deep, what was refused for the height is read, or something behind it is
-- refused, before which a unit of some height begins.
pub mod Only
