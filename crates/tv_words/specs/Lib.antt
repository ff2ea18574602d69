-- The words of a line, and the texts that spell a value by lists of words; how they are read is in Reading.
pub mod Characters
pub mod Lines
pub mod LinesLeft
pub mod Words
pub mod Canonical
pub mod Names
pub mod Fields
pub mod Texts
pub mod TokenTexts
pub mod Tokens
pub mod WrittenWords
pub mod Reading
