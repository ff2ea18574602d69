pub mod Certificates
pub mod Lent
pub mod Owners
pub mod Plan
pub mod Refusals
