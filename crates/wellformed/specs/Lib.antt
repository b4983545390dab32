pub mod Places
pub mod WellFormed
