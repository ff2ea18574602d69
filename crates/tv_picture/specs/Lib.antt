pub mod Pattern
pub mod Spelling
pub mod Code
pub mod Table
pub mod Machine
pub mod Parsing
-- what is asked of patterns and texts, as functions that compute
pub mod Matching
