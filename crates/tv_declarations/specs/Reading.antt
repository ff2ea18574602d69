-- How the words of a line are read. Private functions are held to these definitions, and the laws in proofs/
-- show that
-- they give what the words spell.
pub mod Options
pub mod Commands
pub mod Keys
pub mod Marks
pub mod Places
pub mod Inputs
pub mod Clusters
pub mod Nodes
pub mod Declarations
