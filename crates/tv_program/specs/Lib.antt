-- What checking a description, or accepting it with a certificate, comes to
pub mod CheckRun
-- Faults handed on
pub mod Conversions
-- Faults of filling handed on
pub mod FillFaults
-- What filling a description with answers comes to
pub mod Filling
-- Faults of answering handed on
pub mod AnswerFaults
-- What giving answered dialogs their ends comes to
pub mod Answering
-- Runs that are begun for ends
pub mod AnswerRuns
-- What answering with what a run wrote comes to
pub mod RunAnswers
-- What a run of a description and a script comes to
pub mod Playing
-- What is read of a description, and why it is refused
pub mod Reading
-- What is printed of a call that failed
pub mod Report
-- What playing a description in a terminal comes to
pub mod Terminal
-- The tape of a run in a terminal, run as a script
pub mod Taped
-- What an album has
pub mod Albums
-- What drawing a description's run comes to
pub mod Drawing
-- The names of pictures
pub mod Naming
-- What is drawn of a run
pub mod Pictures
-- What reading a script comes to
pub mod Scripts
-- What drawing each `shot` of a description's run comes to
pub mod Shots
