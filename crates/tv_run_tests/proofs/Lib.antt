pub mod FreshLemmas
pub mod StoppedLemmas
