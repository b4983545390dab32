pub mod Layout
pub mod Breaches
pub mod Entries
