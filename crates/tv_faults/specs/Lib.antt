pub mod Compared
pub mod Order
pub mod Sound
pub mod Usable
pub mod Opened
pub mod Starts
