pub mod DecodeLemmas
pub mod FrontLemmas
pub mod StreamLemmas
pub mod SentLemmas
pub mod HeardLemmas
pub mod PasteLemmas
pub mod TypedLemmas
mod RowExamples
pub mod ToldLemmas
pub mod SpotLemmas
pub mod DrawLemmas
pub mod RegionLemmas
pub mod PaintLemmas
pub mod NoteLemmas
mod Examples
mod NearestExamples
pub mod StripLemmas
pub mod TextLemmas
pub mod PutLemmas
