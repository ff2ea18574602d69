-- the run of the flat machine that an application stands for
pub mod Running
-- how a text is opened, and why it isn't
pub mod Opening
-- what dialogs and fields have, by name
pub mod Names
-- what is open, and sheets, by name
pub mod Sheets
-- where panes stand in their dialog
pub mod Panes
-- when a record fits a dialog, and how it is handed in
pub mod Setting
-- what a control of any kind means
pub mod Control
-- when views are those that a description declares
pub mod Views
-- what views may be made of
pub mod Buildable
-- what makes the views
pub mod Making
