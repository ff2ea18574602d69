pub mod Commands
pub mod Mask
