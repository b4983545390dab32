pub mod Tree
pub mod Spelling
pub mod Progress
pub mod Sentences
