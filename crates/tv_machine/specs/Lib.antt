-- the state of a run
pub mod State
-- the leaves of a dialog, panes opened out
pub mod Leaves
-- what keys and the mouse do to controls
pub mod Controls
-- what an event does to the open dialog
pub mod Dialog
-- what an event does to a run: the bar, the status line, windows and the open dialog
pub mod Session
-- what the screen shows
pub mod Screen
-- a description with the state of its run
pub mod Run
-- what a script writes
pub mod Output
-- what holds at the start and after each event
pub mod Safe
