-- What the screen shows.

-- what fills the rectangle of each leaf
pub mod LeafFaces
-- the menu bar, the box of an open menu and the status line: where they are, and what they show
pub mod Bars
-- the background, and the bodies of windows and dialogs
pub mod Bodies
-- the layers of the screen, from the top
pub mod Layers
