pub mod GrammarLemmas
pub mod PrintedLemmas
pub mod ReadLemmas
pub mod SpelledLemmas
pub mod WordLemmas
