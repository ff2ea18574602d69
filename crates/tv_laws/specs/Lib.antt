-- what a dialog of a sound description has
pub mod Sound
-- what every event keeps of an open dialog
pub mod Fit
-- how a dialog ends
pub mod Ends
-- what each event makes of a dialog
pub mod Steps
-- what every event of a run keeps
pub mod Runs
-- how a dialog can be left
pub mod Leaving
-- the order of Tab
pub mod Order
-- what letters act on
pub mod Letters
-- what a run logs and saves of a dialog that ends, and what it shows when it opens again
pub mod Records
-- how every run can leave the open dialog
pub mod Escape
-- sheets that a program lays
pub mod Sheets
