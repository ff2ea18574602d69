pub mod Heaviest
pub mod Marks
pub mod Placing
pub mod Standing
