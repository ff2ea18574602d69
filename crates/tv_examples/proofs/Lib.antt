-- a dialog with one button
mod CancelDialog
-- check boxes that show an input and enable an end
mod OrderDialog
mod ReopenedRecords
mod RadioRules
mod TwoWindows
-- windows and dialogs that are dragged
mod Dragging
mod MenuKeys
-- commands that the program gives
mod GivenCommands
mod ControlKeys
-- panes
mod Views
-- what parts of the screen show
mod Screens
-- the tables of lists and clusters
mod ControlTables
mod Pictures
mod Ranges
mod Faults
mod RefusedTexts
mod RefusedScripts
mod Certificates
-- letters that several controls share
mod Sharing
-- descriptions and scripts that reach every rule
mod Cases
-- the same of dragging alone
mod Drags
-- and of shared letters
mod Shares
-- what a user did, as a script
mod Tapes
