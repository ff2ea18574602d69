-- what comes from a terminal, in pieces
pub mod Pieces
-- the edge of the screen
pub mod Edge
-- what ends a run in a terminal
pub mod Ends
-- the cursor of the focused input
pub mod Cursor
-- what an input refuses
pub mod Refusals
-- the note below the screen
pub mod Notes
-- what a terminal shows of a run
pub mod Shown
-- a run in a terminal, step by step
pub mod Steps
-- what a run in a terminal comes to
pub mod Playing
-- where it is written
pub mod Outputs
-- the player of a run in a terminal
pub mod Player
-- what is heard of a user, as a script
pub mod Taped
