pub mod Fronts
pub mod Runs
pub mod Endings
pub mod Grammar
