-- texts of which a part is never shown
pub mod Cuts
-- commands that do nothing
pub mod Idle
-- what faces show of texts
pub mod Seen
-- runs of a description
pub mod Running
-- goals, and the answers to them
pub mod Asking
-- the words of answers
pub mod Listing
-- inputs that refuse an end while nobody sees them
pub mod Refusing
-- the words of events
pub mod Wording
