pub mod Button
pub mod InputLine
pub mod Label
pub mod StaticText
