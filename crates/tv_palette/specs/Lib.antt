pub mod Attributes
pub mod Chain
pub mod Entries
pub mod Palettes
