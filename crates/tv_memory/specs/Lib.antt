-- What is known of an album and an input that are closed
pub mod Closed
-- What a stream in memory gathered, and a text shown in a room
pub mod Gathered
-- What files in memory hold
pub mod Shelves
-- What words are read from bytes
pub mod Words
