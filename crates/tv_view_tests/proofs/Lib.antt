pub mod AnyTextLemmas
mod FitLemmas
pub mod LawfulLemmas
mod RoomLemmas
