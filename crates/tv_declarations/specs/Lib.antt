-- The words that spell a declaration, and the declarations of a description; how they are read is in Reading.
pub mod Spelling
pub mod CanonicalDescription
pub mod Reading
