-- a run that stands as the flat machine's does
pub mod Running
-- what the screen shows after an event as before it
pub mod Showing
-- which views are handed in as they are declared
pub mod Freshness
-- how a run begins
pub mod Starting
-- whether an event is left for another
pub mod Leaving
-- a session, and what it stands for
pub mod Session
-- where groups stand, and what they are made of
pub mod Groups
-- what stands while views are put together
pub mod Building
-- what a desk asks of its windows
pub mod Desk
-- what a session asks of its dialogs
pub mod Parts
