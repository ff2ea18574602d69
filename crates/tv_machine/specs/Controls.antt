-- What keys and the mouse do to controls, by their kind.

-- how a leaf stands by its declaration
pub mod Declared
-- what a key or the mouse makes of a control
pub mod Tables
