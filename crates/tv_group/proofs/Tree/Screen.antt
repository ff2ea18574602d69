pub mod CanvasLemmas
pub mod DrawingLemmas
pub mod FaceLemmas
pub mod LookLemmas
pub mod OpenDialogLemmas
