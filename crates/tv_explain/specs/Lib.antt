-- Faults explained: the place of a line in the user's own text, and why a line has a fault.
pub mod Places
pub mod Groups
pub mod Whys
pub mod Lines
pub mod Inside
pub mod Outline
pub mod Boxes
pub mod Views
pub mod Letters
pub mod Keys
pub mod Rules
pub mod Inputs
pub mod Limits
pub mod Heads
pub mod Explaining
