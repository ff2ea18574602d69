-- What an event does to a run.

-- the commands that are enabled
pub mod Enabled
-- commands, with a dialog open and without one
pub mod Commands
-- the menu bar
pub mod Menu
-- windows on the desktop
pub mod Desktop
-- windows and dialogs, dragged
pub mod Dragging
-- one event
pub mod Step
-- the state before the first event
pub mod Start
-- events that a run leaves to its program
pub mod Left
-- a sheet that the program lays in an interior
pub mod Laid
