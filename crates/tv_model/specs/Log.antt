-- What a run writes.

-- the values of a dialog's fields
pub mod Record
-- the text of the log
pub mod LogText
