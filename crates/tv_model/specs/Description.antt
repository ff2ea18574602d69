-- What a description says.

-- numbers as descriptions have them
pub mod Numbers
-- nodes by their kind and by their ids
pub mod Nodes
-- the heads of windows and dialogs
pub mod Heads
-- names and what they mean
pub mod Names
-- texts that mark a letter
pub mod Marks
-- marked letters
pub mod Letters
-- the texts of a declaration
pub mod Texts
-- commands, and the ends of a dialog
pub mod Commands
-- how many there may be of a thing, and how small a view may be
pub mod Limits
-- nodes with lawful numbers, counts and texts, and with starts that may stand
pub mod LawfulNodes
-- rectangles of the desktop and of views
pub mod Rectangles
-- panes and what stands in them
pub mod Panes
-- what rules name and stand over
pub mod Rules
-- letters that several views may mark
pub mod Sharing
-- what shortcut letters act on
pub mod Owners
-- Tab's order and the letters of a certificate
pub mod Certificates
