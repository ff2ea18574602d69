pub mod Calls
pub mod Colours
pub mod Drawing
pub mod Effects
pub mod Fields
-- what a view means: its leaves
pub mod Meaning
pub mod Points
pub mod Reactions
pub mod Damage
pub mod Core
