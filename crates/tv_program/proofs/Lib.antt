pub mod AnswerLemmas
pub mod AnsweredLemmas
pub mod CheckLemmas
pub mod FillLemmas
mod PlayLemmas
mod TapeLemmas
pub mod RunLemmas
pub mod GainLemmas
pub mod DrawingLemmas
pub mod PictureLemmas
pub mod ShotLemmas
pub mod BegunTextLemmas
pub mod RunAnswerLemmas
