pub mod LetterLemmas
pub mod LineLemmas
pub mod FocusLemmas
pub mod DomainLemmas
pub mod PlaceLemmas
