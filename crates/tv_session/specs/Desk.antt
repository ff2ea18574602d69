-- What the windows of a desk may be made of.
pub use Rattle.tv_window.specs.Desk.{IsLawfulWindow, AreLawfulWindows}
