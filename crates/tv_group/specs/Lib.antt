pub mod Calls
pub mod Current
pub mod Handling
pub mod Opened
pub mod Outline
pub mod Searching
pub mod Stack
pub mod Turns
-- how the views of a dialog stand
pub mod Tree
-- what is said of a dialog and an event while the event is handled
pub mod Ready
-- how an event is handed to the views, and what is done with their answers
pub mod TreeTurns
-- the open dialog on the screen
pub mod Shown
