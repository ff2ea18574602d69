-- What controls are made of.

-- what a leaf holds
pub mod Contents
-- what a leaf keeps besides its value
pub mod Private
-- how a leaf stands on the screen
pub mod Look
-- what a letter acts on
pub mod Owner
-- the letters that call a view
pub mod Shortcut
-- what a kind of view is and does
pub mod Behaviour
