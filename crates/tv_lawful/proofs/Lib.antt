mod LineLemmas
pub mod LawLemmas
