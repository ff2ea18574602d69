-- What hangs in a gallery
pub mod Galleries
-- What files in memory hold
pub mod Shelves
