-- What a line of a script says
pub mod Line
-- The words and the items of lines, and which of their points are on a screen
pub mod Lines
-- Lines that are judged in place: what they mean, and which of their items are left
pub mod ScriptLines
-- The scripts that texts spell, and why a text is refused
pub mod Scripts
-- How a script is read, line by line
pub mod Reading
-- What a script leaves, and what a failed writer leaves of one
pub mod Performed
-- What a text is judged as: its items, and why it is left
pub mod Judging
-- What a judgement says of a text, in the words of the language of scripts
pub mod Spelled
-- What performing a script that is read in pieces comes to
pub mod Streams
-- What is shown of a screen
pub mod ScreenText
-- Events, as the lines of a script
pub mod Tapes
