pub mod Pins
pub mod Effects
pub mod Rows
pub mod Keeps
pub mod Steps
pub mod Texts
