pub mod Rules
pub mod Breaks
pub mod Written
pub mod Packed
