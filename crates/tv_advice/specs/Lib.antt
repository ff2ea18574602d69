-- What is told of a fault.
pub mod Advised
-- What a text is, by its first word
pub mod Beginnings
-- What is told of a text beside a description
pub mod Beside
-- The blocks of a report
pub mod Blocks
-- How blocks begin
pub mod Heads
-- What is told of a text
pub mod Told
