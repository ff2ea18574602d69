pub mod AddedLemmas
pub mod CutLemmas
