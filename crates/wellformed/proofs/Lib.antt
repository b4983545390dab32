pub mod Laid
pub mod Runs
pub mod Lines
pub mod Chips
pub mod Entries
pub mod Fits
pub mod Reading
