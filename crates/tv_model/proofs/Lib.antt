pub mod DomainLemmas
pub mod EachAfterLemmas
pub mod HeadLemmas
pub mod ListLemmas
pub mod NodeLemmas
pub mod RecordLemmas
pub mod RemainingLemmas
pub mod TestLemmas
