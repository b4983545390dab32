pub mod Filling
pub mod Lexings
pub mod OneFlaw
pub mod OneText
pub mod OneBundle
