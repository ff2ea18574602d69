-- Ready dialogs: the rows of a text, sizes, items, views and their lines, buttons, and the whole description; and the arguments that
-- ask for one.
pub mod Wrapping
pub mod Sizes
pub mod Items
pub mod Views
pub mod Lines
pub mod Buttons
pub mod Unfit
pub mod Boxes
pub mod Arguments
pub mod Misuses
pub mod Asked
