pub mod Numbers
pub mod Filling
pub mod Beginnings
pub mod DecidingLemmas
pub mod HasTextLemmas
pub mod TypingLemmas
pub mod AskingLemmas
