pub mod Weights
pub mod Splits
