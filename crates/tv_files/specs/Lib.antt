-- What writing the description of a box comes to
pub mod Boxes
-- How the program ends
pub mod EndsWith
-- How a task ends
pub mod Ends
-- What explaining the faults of a file comes to
pub mod Explaining
-- What filling a description with answers, and giving answered dialogs their ends, come to
pub mod Filling
-- What is known of files, and what opening one comes to
pub mod Files
-- What every task comes to
pub mod Performing
-- What drawing the screens of a script comes to
pub mod Picturing
-- What a run in a terminal comes to that is recorded in a file
pub mod Recording
-- What a flush leaves
pub mod Streams
-- What a task on files comes to
pub mod Tasks
-- What is told of a task, and the status
pub mod Telling
-- Why a picture has no file
pub mod Unmade
-- What a read of a terminal that gave no byte is
pub mod Waits
-- What warning of a description comes to
pub mod Warning
-- What asking for the way to one end of a dialog comes to
pub mod Way
-- What telling the ways of a description comes to
pub mod Ways
-- What is known of the system outside the program
pub mod World
