-- what the laws say of every run of a sound description
pub mod Laws
