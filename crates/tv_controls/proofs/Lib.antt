pub mod ButtonLemmas
pub mod FaceLemmas
pub mod InputLemmas
pub mod LabelLemmas
pub mod MarkedLemmas
