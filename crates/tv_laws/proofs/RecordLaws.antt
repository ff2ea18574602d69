pub mod EscapeLemmas
pub mod EventLemmas
pub mod IdleLemmas
pub mod OnceLemmas
pub mod SavedLemmas
pub mod ShowLemmas
