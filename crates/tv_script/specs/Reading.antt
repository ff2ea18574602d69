-- How a script is read, line by line. Private functions are held to these definitions, and ScriptLemmas show
-- that they
-- give what the public contract says.
pub mod Lines
pub mod Scripts
pub mod Streams
