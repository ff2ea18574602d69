-- the width of any character
pub mod Widths
-- how an example is run, from text to text
pub mod Running
-- the descriptions of the examples
pub mod Descriptions
