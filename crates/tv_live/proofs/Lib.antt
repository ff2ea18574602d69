pub mod ProgramLemmas
pub mod ShownLemmas
pub mod CourseLemmas
pub mod HostLemmas
pub mod LivingLemmas
