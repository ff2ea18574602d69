-- The descriptions that texts spell, and why a text is refused; how they are read is in Reading.
pub mod CanonicalDescription
pub mod Faults
pub mod Reading
