pub mod Keys
pub mod Marked
pub mod Named
pub mod Focus
pub mod Reach
pub mod Sharing
