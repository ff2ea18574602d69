pub mod Table
pub mod Sequences
pub mod Decoding
pub mod Streams
pub mod Points
pub mod Sent
pub mod Rows
-- A terminal, as what it makes of bytes
pub mod Terminal
-- The sequences that are written
pub mod Written
-- What a terminal shows of a picture
pub mod Displays
-- What is written, and what a terminal makes of it
pub mod Writing
-- A note in a row below a screen
pub mod Notes
-- Whether two screens are the same in a region
pub mod Sameness
-- The strips of a row
pub mod Strips
-- What is drawn of a picture
pub mod Svg
