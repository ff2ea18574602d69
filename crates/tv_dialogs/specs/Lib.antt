pub mod Bodies
pub mod Damage
pub mod Dialogs
pub mod Handed
pub mod Kept
pub mod Placing
pub mod Records
