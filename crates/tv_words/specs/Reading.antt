-- How lines are read, character by character. Private functions are held to these definitions, and the laws
-- in proofs/
-- show that they give what the public contracts say.
pub mod Steps
pub mod Scan
pub mod LineWords
pub mod LineTokens
pub mod Numbers
