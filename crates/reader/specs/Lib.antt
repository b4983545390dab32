pub mod Verdicts
pub mod Single
