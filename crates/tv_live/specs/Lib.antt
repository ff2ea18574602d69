-- what a program's call comes to
pub mod Programs
-- a program's run in a terminal, moment by moment
pub mod Course
-- what a terminal shows of it
pub mod Shown
-- what a run comes to
pub mod Living
-- the host of a program
pub mod Host
