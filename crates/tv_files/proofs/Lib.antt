pub mod EndLemmas
pub mod ExplainLemmas
pub mod FileLemmas
pub mod TaskLemmas
pub mod TellingLemmas
pub mod RecordLemmas
pub mod WaysLemmas
