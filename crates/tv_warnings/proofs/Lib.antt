mod FoundLemmas
mod BlockLemmas
