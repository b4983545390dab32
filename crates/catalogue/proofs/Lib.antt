pub mod Putting
pub mod Cuts
