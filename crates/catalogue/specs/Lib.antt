pub mod Cuts
pub mod Records
pub mod Shapes
pub mod Tables
pub mod Holding
