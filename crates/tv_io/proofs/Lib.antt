pub mod PenLemmas
pub mod ReaderLemmas
pub mod ReadingLemmas
pub mod WriterLemmas
