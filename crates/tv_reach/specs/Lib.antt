-- what a user may want of a dialog, and what reaches it
pub mod Goals
-- what an event may make of the values and the marks of an open dialog
pub mod Marks
-- which rules may hold
pub mod Masks
-- which rules show each leaf and ask for its marks, as the code finds them
pub mod Shown
-- what gives the command by which a dialog ends
pub mod Givers
-- what a closed list of masks says of every run
pub mod Runs
-- what no event reaches
pub mod Never
-- what an answer promises
pub mod Answers
-- what the code looks at
pub mod Found
