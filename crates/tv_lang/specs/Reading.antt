-- How a description is read, declaration by declaration. Private functions are held to these definitions, and
-- the laws
-- in proofs/ show that they give what the public contracts say.
pub mod Stages
pub mod Descriptions
