-- Answers: what a log says, which values fit, how a log is read, the description that begins with them, and what
-- they come to.
pub mod LogLines
pub mod FieldValues
pub mod Misfits
pub mod ReadLogs
pub mod Outcomes
pub mod Filling
pub mod Laws
pub mod Again
pub mod Scripts
