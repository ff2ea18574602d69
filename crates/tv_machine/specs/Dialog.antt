-- What an event does to the open dialog.

-- what is visible, enabled and free to focus
pub mod Rules
-- an open dialog at work
pub mod Modal
-- where the focus goes
pub mod Focus
-- commands, and how a dialog ends
pub mod Ending
-- what letters act on
pub mod Shortcuts
-- keys
pub mod Keys
-- the mouse
pub mod Mouse
-- one event
pub mod Step
-- how a dialog opens
pub mod Opening
-- what a dialog has that is spelled and sound
pub mod Lawful
-- what a dialog of a sound description has
pub mod Sound
-- marks by which the same is shown and enabled
pub mod Alike
