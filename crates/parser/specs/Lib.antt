pub mod Flaws
pub mod Reading
pub mod Faults
pub mod Verdicts
pub mod Events
pub mod Views
pub mod Keeping
