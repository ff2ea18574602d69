-- What the screen shows.

-- what fills the rectangle of a layer
pub mod Faces
