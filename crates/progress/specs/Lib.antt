pub mod Shapes
pub mod Moves
