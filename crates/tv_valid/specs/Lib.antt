pub mod Domain
-- what is asked of texts and of domains, as functions that compute
pub mod Deciding
pub mod Typing
pub mod Asking
