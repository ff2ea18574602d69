pub mod Choices
pub mod Corners
pub mod Inputs
pub mod Labels
pub mod Looks
