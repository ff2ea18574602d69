pub mod FirstPlaceLemmas
pub mod GivenKeyLemmas
pub mod GivenLetterLemmas
pub mod GivenNameLemmas
pub mod ReachLemmas
pub mod ReachSetLemmas
pub mod SharingLemmas
