pub mod DeclaredWindows
pub mod Head
pub mod Window
pub mod Desk
pub mod Damage
