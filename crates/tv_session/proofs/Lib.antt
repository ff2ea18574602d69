pub mod CommandLemmas
pub mod DraggingLemmas
pub mod EventLemmas
pub mod FitLemmas
pub mod GivingLemmas
pub mod LaidLemmas
pub mod LeavingLemmas
pub mod OfferLemmas
pub mod RunningLemmas
pub mod ScreenLemmas
pub mod StartLemmas
pub mod MarkedLemmas
pub mod PaintingLemmas
pub mod ChangedLemmas
pub mod RepaintLemmas
-- that the areas of groups are small
pub mod AreaLemmas
-- what a node's end makes, by its kind
pub mod EndLemmas
-- what is begun after a refusal
pub mod KeptLemmas
-- the last of a list
pub mod ListLemmas
-- what follows from a fact on a result
pub mod ResultLemmas
pub mod LimitLemmas
pub mod OwnerLemmas
pub mod PartLemmas
pub mod WindowLemmas
