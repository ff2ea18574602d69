pub mod BeginningLemmas
pub mod BlockLemmas
