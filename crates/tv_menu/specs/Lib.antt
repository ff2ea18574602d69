pub mod Bar
pub mod Cells
pub mod Damage
pub mod Lawful
pub mod Line
pub mod Spots
