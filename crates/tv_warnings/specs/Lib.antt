-- what is found
pub mod Findings
-- what is told of it
pub mod Warned
